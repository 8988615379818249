-- Each run that strays from ours on the tape breaks its promise.
-- Assumes nothing.
use Rattle.std.specs.Prelude.{Ok}
use Prim.Native.Nat.{ℕ, zero, suc, ◌+◌, ◌-◌, ◌≤◌, ◌<◌}
use mathlib.Core.Path.{◌≡◌, refl, sym, ◌∙◌, ap, subst}
use mathlib.Core.Bool.{Bool, true, false, cond, ◌&&◌}
use mathlib.Core.List.{List, [], ◌∷◌, ◌++◌}
use lib.ListN.{length, take, replicate, length-append}
use lib.Seq.{take_all}
use lib.Dec.{eqb}
use native.Mathlib.Omega.{arith}
use borrow.Author.Tests.{ne_eqb}
use Rattle.parts.specs.declared.Facts.{Facts}
use Rattle.parts.specs.declared.Refusal.TheVariants.{BadLimit}
use Rattle.parts.specs.Table.{facts_of, id_size_of, enable_right_of, buffers_right_of}
use Rattle.parts.specs.Refusals.{claim_of, sooner_of, lent_verdict_of}
use Rattle.parts.specs.Bytes.{AllBelow}
use Rattle.parts.specs.Events.{event_with}
use Rattle.line.specs.declared.Target.{Target}
use Rattle.line.specs.declared.Target.TheVariants.{Array as TheArray, Ident as TheIdent}
use Rattle.line.specs.Rules.{begun_of, asks_of, placed_of, stop_begun_of}
use Rattle.state.specs.declared.Chip.{Chip}
use Rattle.state.specs.Range.{marks_right_of, pin_right_of, lock_right_of, phase_right_of, rest_right_of, in_range_of}
use Rattle.chip.specs.Memory.{Mem, mem, no_latch, cells_of}
use Rattle.chip.specs.Model.{ours}
use Rattle.chip.specs.Runs.{cycles_of}
use Rattle.chip.specs.Calls.{held_verdict_of}
use Rattle.chip.specs.Delivery.{pin_at_first_of, standby_of}
use Rattle.driver.specs.declared.Place.TheVariants.{Array}
use Rattle.driver.specs.declared.Request.{Request}
use Rattle.driver.specs.Split.{pages_met_of}
use Rattle.driver.specs.Request.{beyond_at, limit_of, judge_of, k_of, allowed_of}
use Rattle.driver.specs.Step.{ready_of, driver_step_of, counts_right, range_of, driver_next_of}
use Rattle.driver.specs.Machine.{our_driver}
use Rattle.driver_promises.specs.Promises.{sent}
use Rattle.driver_promises.specs.Run.{polls_in}
use Rattle.bench.specs.Calls.{other_length_of, short_of, late_of, bench_verdict_of}
use Rattle.bench_promises.specs.Tape.{without_ends, odd_after, is_poll, tries_after, ends_put, parts_ended, CycleEach}
use Rattle.bench_promises.specs.Calls.{BenchCall, our_bench, verdict_of, Called, OpenCall, EndsKept, DrivesKept, EndsAtKept, CycleEachKept}
use Rattle.bench_promises.specs.Strays.{aloof, late_within, later, one_end_more, stop_first, closing, StraysBreak}
use Rattle.bench_promises.proofs.Tape.{accepted, polls_told}
use Rattle.bench_promises.proofs.Calls.{bench_promises_lem}

-- ---- where no poll has number d, no end is put; where one has number 1, one is
free_cons : (d t : ℕ) (b : Bool) (e : ℕ) (es rest : List ℕ) → (b ≡ true → t + 1 < d) → rest ≡ es → cond (b && eqb (t + 1) d) (4 ∷ []) [] ++ (e ∷ rest) ≡ e ∷ es
free_cons d t true e es rest f k = let h = f refl in ap (λ (x : Bool). cond x (4 ∷ []) [] ++ (e ∷ rest)) (ne_eqb (t + 1) d (λ z. omega arith)) ∙ ap (λ (l : List ℕ). e ∷ l) k
free_cons d t false e es rest f k = ap (λ (l : List ℕ). e ∷ l) k

tries_most : (b c : Bool) (t : ℕ) → cond c 0 (cond b (t + 1) t) ≤ t + cond b 1 0
tries_most true true t = omega arith
tries_most true false t = omega arith
tries_most false true t = omega arith
tries_most false false t = omega arith

no_ends : (d : ℕ) (odd : Bool) (t : ℕ) (es : List ℕ) → t + polls_in odd es < d → ends_put d odd t es ≡ es
no_ends d odd t [] h = refl
no_ends d odd t (e ∷ es) h =
    free_cons d t (is_poll odd e) e es (ends_put d (odd_after odd e) (tries_after odd t e) es) (λ p. omega (arith, ap {B = ℕ} (λ (b : Bool). cond b 1 0) p))
    (no_ends d (odd_after odd e) (tries_after odd t e) es (omega (arith, tries_most (is_poll odd e) (eqb e 3) t)))

longer_cons : (b : Bool) (e : ℕ) (rest : List ℕ) → 1 + length rest ≤ length (cond b (4 ∷ []) [] ++ (e ∷ rest))
longer_cons true e rest = omega arith
longer_cons false e rest = omega arith

not_shorter : (d : ℕ) (odd : Bool) (t : ℕ) (es : List ℕ) → length es ≤ length (ends_put d odd t es)
not_shorter d odd t [] = omega arith
not_shorter d odd t (e ∷ es) =
    omega (arith, not_shorter d (odd_after odd e) (tries_after odd t e) es, longer_cons (is_poll odd e && eqb (t + 1) d) e (ends_put d (odd_after odd e) (tries_after odd t e) es))

one_end : (odd : Bool) (es : List ℕ) → 0 < polls_in odd es → length es < length (ends_put 1 odd 0 es)
one_end odd [] h = absurd (omega arith)
one_end odd (e ∷ es) h = go (is_poll odd e) refl (λ k. one_end (odd_after odd e) es k)
  where
    rest : List ℕ
    rest = ends_put 1 (odd_after odd e) (tries_after odd 0 e) es

    first : (c : Bool) → ◌≡◌ {A = ℕ} (cond c 0 (cond false 1 0)) 0
    first true = refl
    first false = refl

    go : (b : Bool) → is_poll odd e ≡ b → (0 < polls_in (odd_after odd e) es → length es < length (ends_put 1 (odd_after odd e) 0 es)) → length (e ∷ es) < length (cond (is_poll odd e && eqb (0 + 1) 1) (4 ∷ []) [] ++ (e ∷ rest))
    go true p f =
        subst (λ (b : Bool). length (e ∷ es) < length (cond (b && eqb (0 + 1) 1) (4 ∷ []) [] ++ (e ∷ rest))) (sym p)
        (let k = not_shorter 1 (odd_after odd e) (tries_after odd 0 e) es in omega arith)
    go false p f =
        let q : tries_after odd 0 e ≡ 0 = ap {B = ℕ} (λ (b : Bool). cond (eqb e 3) 0 (cond b (0 + 1) 0)) p ∙ first (eqb e 3) in
        let k = f (omega (arith, ap {B = ℕ} (λ (b : Bool). cond b 1 0) p)) in
        subst (λ (b : Bool). length (e ∷ es) < length (cond (b && eqb (0 + 1) 1) (4 ∷ []) [] ++ (e ∷ rest))) (sym p)
        (subst (λ (t : ℕ). length (e ∷ es) < length (e ∷ ends_put 1 (odd_after odd e) t es)) (sym q) (omega arith))

-- ---- one byte to address 0, on a chip as delivered
abbrev one : ℕ → ℕ → Request
one part budget = record { part = part; enable = 0; place = Array (record { 0 = 0 }); reads = false; length = 1; budget = budget }

abbrev chip₀ : ℕ → Chip
chip₀ part = standby_of (facts_of part) false

abbrev mem₀ : ℕ → ℕ → Mem
mem₀ n i = mem (replicate n 255) (replicate i 255)

abbrev byte : List ℕ
byte = 90 ∷ []

-- on a chip of part 0; and on one of part 2 at another enable
abbrev call : ℕ → ℕ → BenchCall
call budget d = record { request = one 0 budget; own = 0; d = d; chip = chip₀ 0; mem = mem₀ 2048 16; buffer = byte }

abbrev other : BenchCall
other = record { request = one 2 1; own = 1; d = 1; chip = chip₀ 2; mem = mem₀ 8192 0; buffer = byte }

same_bytes : (n : ℕ) → AllBelow 256 (replicate n 255)
same_bytes zero = tt
same_bytes (suc n) = (omega arith, same_bytes n)

both : (n i : ℕ) (t : Target) → AllBelow 256 (cells_of t (mem₀ n i))
both n i TheArray = same_bytes n
both n i TheIdent = same_bytes i

called : (budget d : ℕ) → verdict_of (call budget d) ≡ Ok tt → Called (call budget d)
unfolding standby_of
called budget d f = record { fine = f; enabled = refl; idle = refl; stored = both 2048 16; lent = (omega arith, tt) }

fine_one : verdict_of (call 1 1) ≡ Ok tt
unfolding bench_verdict_of judge_of other_length_of short_of late_of sooner_of lent_verdict_of held_verdict_of facts_of id_size_of enable_right_of buffers_right_of marks_right_of pin_right_of lock_right_of phase_right_of rest_right_of in_range_of beyond_at limit_of standby_of pin_at_first_of no_latch
fine_one = refl

fine_two : verdict_of (call 1 2) ≡ Ok tt
unfolding bench_verdict_of judge_of other_length_of short_of late_of sooner_of lent_verdict_of held_verdict_of facts_of id_size_of enable_right_of buffers_right_of marks_right_of pin_right_of lock_right_of phase_right_of rest_right_of in_range_of beyond_at limit_of standby_of pin_at_first_of no_latch
fine_two = refl

fine_late : (d : ℕ) → late_of d ≡ false → verdict_of (call 2 d) ≡ Ok tt
unfolding bench_verdict_of judge_of other_length_of short_of sooner_of lent_verdict_of held_verdict_of facts_of id_size_of enable_right_of buffers_right_of marks_right_of pin_right_of lock_right_of phase_right_of rest_right_of in_range_of beyond_at limit_of standby_of pin_at_first_of no_latch
fine_late d e = ap (λ (b : Bool). claim_of b BadLimit) e

fine_other : verdict_of other ≡ Ok tt
unfolding bench_verdict_of judge_of other_length_of short_of late_of sooner_of lent_verdict_of held_verdict_of facts_of id_size_of enable_right_of buffers_right_of marks_right_of pin_right_of lock_right_of phase_right_of rest_right_of in_range_of beyond_at limit_of standby_of pin_at_first_of no_latch
fine_other = refl

free : (budget d : ℕ) → OpenCall (call budget d)
unfolding standby_of pin_at_first_of facts_of
free budget d = record { writes = refl; writable = refl }

-- ---- aloof: our driver sends a Start
first_sent : sent our_driver (one 2 1) byte (1 ∷ []) 0 ≡ 2 ∷ []
unfolding driver_next_of range_of driver_step_of ready_of counts_right judge_of sooner_of facts_of id_size_of enable_right_of beyond_at limit_of k_of allowed_of pages_met_of
first_sent = refl

aloof_breaks : DrivesKept aloof → ⊥
aloof_breaks p = let e = ap (λ (l : List ℕ). length l) ((p other fine_other).events ∙ first_sent) in omega arith

-- ---- late within the budget: one poll more
one_page : (budget : ℕ) → k_of (one 0 budget) ≡ 1
unfolding k_of pages_met_of facts_of
one_page budget = refl

late_breaks : EndsKept late_within → ⊥
unfolding late_of
late_breaks p =
    let a = (p (call 2 1) (called 2 1 (fine_late 1 refl)) (free 2 1) (omega arith)).polls in
    let b = (bench_promises_lem.ends (call 2 2) (called 2 2 (fine_late 2 refl)) (free 2 2) (omega arith)).polls in
    omega (arith, one_page 2)

-- ---- later: with d = 2 and budget 1 there is one poll, and no end on the tape
later_breaks : EndsAtKept later → ⊥
later_breaks p =
    let es = our_bench.events (call 1 2) in
    let k = called 1 2 fine_two in
    let q = polls_told (one 0 1) byte _ _ es _ (accepted (one 0 1) 0 2 (chip₀ 0) (mem₀ 2048 16) byte fine_two) (bench_promises_lem.drives (call 1 2) fine_two) in
    let o = (bench_promises_lem.uses_up (call 1 2) k (free 1 2) (omega arith) (omega arith)).polls in
    let n : polls_in false (without_ends es) ≡ 1 = sym q ∙ o in
    let a : es ≡ without_ends es = bench_promises_lem.ends_at (call 1 2) ∙ no_ends 2 false 0 (without_ends es) (omega arith) in
    let b = ap (λ (l : List ℕ). length l) (sym a ∙ p (call 1 1)) in
    omega (arith, one_end false (without_ends es) (omega arith))

-- ---- one end more
without_last : (es : List ℕ) → without_ends (es ++ (4 ∷ [])) ≡ without_ends es
without_last [] = refl
without_last (e ∷ es) = ap (λ (l : List ℕ). cond (eqb e 4) l (e ∷ l)) (without_last es)

more_breaks : EndsAtKept one_end_more → ⊥
more_breaks p =
    let es = our_bench.events (call 1 1) in
    let a = p (call 1 1) ∙ (ap (ends_put 1 false 0) (without_last es) ∙ sym (bench_promises_lem.ends_at (call 1 1))) in
    omega (arith, ap (λ (l : List ℕ). length l) a, length-append es (4 ∷ []))

-- ---- a Stop on an idle chip begins nothing
stop_breaks : CycleEachKept stop_first ours → ⊥
unfolding cycles_of begun_of event_with asks_of placed_of stop_begun_of standby_of facts_of
stop_breaks p = let z : ◌≡◌ {A = ℕ} 0 1 = p (call 1 1) (called 1 1 fine_one) (free 1 1) 1 in omega arith

-- ---- the other Stop: where both chips keep it, no part ends
module _ (f : Facts) (en : ℕ) where
  no_parts : (c : Chip) (es : List ℕ) → CycleEach (ours f en) c es → CycleEach (closing f en) c es → parts_ended false es ≡ 0
  unfolding cycles_of
  no_parts c [] p q = refl
  no_parts c (e ∷ es) p q = go (eqb e 3) refl (λ x y. no_parts ((ours f en).next c e) es x y)
    where
      go : (b : Bool) → eqb e 3 ≡ b → (CycleEach (ours f en) ((ours f en).next c e) es → CycleEach (closing f en) ((ours f en).next c e) es → parts_ended false es ≡ 0) → parts_ended false (e ∷ es) ≡ 0
      go true z h =
          let x = p 1 in
          let y = q 1 in
          absurd (omega (arith, ap {B = ℕ} (λ (b : Bool). cond b 1 0) z, ap {B = ℕ} (λ (b : Bool). cond b (1 - (ours f en).begun c e) 0) z))
      go false z h =
          let x = p 1 in
          let u = ap {B = ℕ} (λ (b : Bool). cond b 1 0) z in
          let v = ap {B = ℕ} (λ (b : Bool). cond b (1 - (ours f en).begun c e) 0) z in
          let s : odd_after false e ≡ false = ap (λ (b : Bool). cond b true false) z in
          let k = h
          (λ i. (let w = p (suc i) in omega (arith, ap (λ (b : Bool). parts_ended b (take i es)) s)))
          (λ i. (let w = q (suc i) in omega (arith, ap (λ (b : Bool). parts_ended b (take i es)) s))) in
          omega (arith, ap (λ (b : Bool). parts_ended b es) s)

closing_breaks : CycleEachKept our_bench closing → ⊥
closing_breaks p =
    let es = our_bench.events (call 1 1) in
    let k = called 1 1 fine_one in
    let o = bench_promises_lem.cycle_each (call 1 1) k (free 1 1) in
    let n = no_parts (facts_of 0) 0 (chip₀ 0) es o (p (call 1 1) k (free 1 1)) in
    let w = ap (cycles_of (ours (facts_of 0) 0) (chip₀ 0)) (take_all (length es) es (omega arith)) in
    let v = ap (parts_ended false) (take_all (length es) es (omega arith)) in
    let r = (bench_promises_lem.replays (call 1 1)).cycles in
    let c = (bench_promises_lem.ends (call 1 1) k (free 1 1) (omega arith)).cycles in
    omega (arith, o (length es), one_page 1)

pub strays_break : StraysBreak
strays_break = record { aloof = aloof_breaks; late_within = late_breaks; later = later_breaks; one_end_more = more_breaks; stop_first = stop_breaks; closing = closing_breaks }
