-- `beginning` and `asking` keep what is promised of them.
-- Assumes nothing.
use Rattle.std.specs.Prelude.{Ok, Err}
use Prim.Native.Nat.{ℕ, ◌≤◌, ◌<◌}
use mathlib.Core.Path.{◌≡◌, refl, sym, ap, ◌∙◌}
use mathlib.Core.Bool.{Bool, true, false, cond}
use mathlib.Core.List.{List, []}
use native.Mathlib.Omega.{arith}
use lib.ListN.{length, get_or, replicate}
use lib.Dec.{eqb}
use borrow.Author.Tests.{eq-eqb, eqb-true}
use Rattle.parts.specs.declared.Refusal.{Refusal}
use Rattle.parts.specs.declared.Refusal.TheVariants.{BadState}
use Rattle.parts.specs.Verdict.{Verdict}
use Rattle.parts.specs.Table.{facts_of, enable_right_of}
use Rattle.parts.specs.Refusals.{number_of, verdict_number_of, is_fine, sooner_of}
use Rattle.parts.specs.Bytes.{AllBelow, word_end}
use Rattle.parts.proofs.Laws.{branch, fine}
use Rattle.parts.proofs.Tests.{either}
use Rattle.pack_driver.proofs.Laws.{holds_length}
use Rattle.driver.specs.declared.Request.{Request}
use Rattle.driver.specs.declared.Driver.{Driver}
use Rattle.driver.specs.declared.Asked.{Asked}
use Rattle.driver.specs.declared.Answer.{Answer}
use Rattle.driver.specs.declared.Answer.TheVariants.{Done, Refused}
use Rattle.driver.specs.Split.{pages_met_of}
use Rattle.driver.specs.Request.{beyond_at, limit_of, judge_of, allowed_of, k_of}
use Rattle.driver.proofs.Facts.{good_request, reach}
use Rattle.driver.specs.Step.{fresh, ready_of, counts_right, range_of, driver_next_of, buffer_of, driver_step_of}
use Rattle.pack_driver.specs.Layout.{driver_length, packs_driver_of, pack_driver_into, holds_driver_of, unpacked_driver_of, small_of, numbers_of}
use Rattle.pack_driver.specs.Promises.{DriverFits}
use Rattle.pack_driver.proofs.Kept.{small_all, packs_small, driver_packs_back, driver_unpacks_back}
use Rattle.pack_driver.proofs.Range.{driver_refuses_others, stays_small}
use Rattle.sapwoodle.specs.declared.drivers.Told.{Told}
use Rattle.sapwoodle.specs.Drivers.{reads_of, place_of, budget_of, request_of, begin_verdict_in, driver_bytes_after_begin, beginning, told_of, driver_bytes_after_next, asking}
use Rattle.sapwoodle.specs.Promises.{BeginKeeps, NextKeeps, BeginIsDrivers, BeginHolds, NextIsDrivers, NextRefuses4, RefusingBeginBreaks, RefusingNextBreaks}
use Rattle.sapwoodle.proofs.drivers.Laws.{roomless_refused}
use Rattle.sapwoodle.proofs.drivers.Steps.{move_well}

begin_keeps_by : (d : Driver) (s : List ℕ) (v : Verdict) → (verdict_number_of v ≡ 0 → ⊥) → driver_bytes_after_begin v d s ≡ s
begin_keeps_by d s (Ok _) h = absurd (h refl)
begin_keeps_by d s (Err r) h = refl

pub begin_keeps : BeginKeeps beginning
begin_keeps r s h = begin_keeps_by (fresh r) s (begin_verdict_in r s) h

-- ---- a step

pub next_refuses_4 : NextRefuses4 asking
next_refuses_4 s level b h = rw ((driver_refuses_others s h).1 level b) refl

-- the driver that bytes hold
held : (s : List ℕ) → AllBelow 256 s → holds_driver_of s ≡ true → DriverFits (unpacked_driver_of s) × (small_of (unpacked_driver_of s) ≡ true)
held s b h =
    let u = driver_unpacks_back s s b h (holds_length s h) in
    (u.0, packs_small (length s) (unpacked_driver_of s) u.1)

none_low : (s : List ℕ) → holds_driver_of s ≡ false → (unpacked_driver_of s).counts.byte < 256
unfolding unpacked_driver_of
none_low s h = rw h (omega arith)

byte_low : (s : List ℕ) → AllBelow 256 s → (unpacked_driver_of s).counts.byte < 256
byte_low s b = either (holds_driver_of s) (λ h. (held s b h).0.byte) (none_low s)

-- in range a step answers no 4
next_range : (d : Driver) (level : ℕ) (b : List ℕ) → d.counts.byte < 256 → (told_of (driver_next_of d level b).answer).number ≡ 4 → range_of d (length b) ≡ false
unfolding driver_next_of driver_step_of
next_range d level b k =
    branch (λ (a : Asked). (told_of a.answer).number ≡ 4 → range_of d (length b) ≡ false) (range_of d (length b))
    (λ _ h. absurd ((move_well d.phase d level (get_or b d.counts.at 0) k).told h))
    (λ e _. e)

out_of_range : (d : Driver) (level : ℕ) (b : List ℕ) → range_of d (length b) ≡ false → (driver_next_of d level b).answer ≡ Refused BadState 0 0
unfolding driver_next_of
out_of_range d level b h = rw h refl

out_stays : (d : Driver) (level : ℕ) (b : List ℕ) → range_of d (length b) ≡ false → (driver_next_of d level b).driver ≡ d
unfolding driver_next_of
out_stays d level b h = rw h refl

pub next_keeps : NextKeeps asking
unfolding driver_bytes_after_next buffer_of
next_keeps s level b a h =
    let out = next_range (unpacked_driver_of s) level b (byte_low s a) h in
    (rw (eq-eqb _ 4 h) refl, rw out refl, ap (λ (a : Answer). told_of a) (out_of_range (unpacked_driver_of s) level b out))

fits_next : (d : Driver) (level : ℕ) (b : List ℕ) → DriverFits d → DriverFits (driver_next_of d level b).driver
unfolding driver_next_of driver_step_of
fits_next d level b f =
    branch (λ (a : Asked). DriverFits a.driver) (range_of d (length b))
    (λ _. let w = move_well d.phase d level (get_or b d.counts.at 0) f.byte in
    record { part = f.part; enable = f.enable; clocks = omega (arith, w.clocks); byte = w.byte })
    (λ _. f)

packs : (s : List ℕ) (d : Driver) → length s ≡ driver_length → small_of d ≡ true → packs_driver_of (length s) d ≡ true
unfolding packs_driver_of
packs s d e h = rw (eq-eqb (length s) driver_length e, h) refl

next_holds_by : (s : List ℕ) (level : ℕ) (b : List ℕ) → AllBelow 256 s → holds_driver_of s ≡ true
    → (holds_driver_of (pack_driver_into s (driver_next_of (unpacked_driver_of s) level b).driver) ≡ true) × (unpacked_driver_of (pack_driver_into s (driver_next_of (unpacked_driver_of s) level b).driver) ≡ (driver_next_of (unpacked_driver_of s) level b).driver)
next_holds_by s level b a h =
    let n = (driver_next_of (unpacked_driver_of s) level b).driver in
    let k = held s a h in
    let p = driver_packs_back n s (fits_next (unpacked_driver_of s) level b k.0) (packs s n (holds_length s h) (stays_small (unpacked_driver_of s) level b k.1)) in
    (p.1, p.2)

next_is_by : (s : List ℕ) (level : ℕ) (b : List ℕ) → AllBelow 256 s → holds_driver_of s ≡ true → (n : Bool) → eqb (asking s level b).told.number 4 ≡ n
    → (holds_driver_of (asking s level b).state ≡ true) × (unpacked_driver_of (asking s level b).state ≡ (driver_next_of (unpacked_driver_of s) level b).driver)
unfolding driver_bytes_after_next
next_is_by s level b a h true e =
    let out = next_range (unpacked_driver_of s) level b (byte_low s a) (eqb-true _ 4 e) in
    rw e (h, sym (out_stays (unpacked_driver_of s) level b out))
next_is_by s level b a h false e = rw e (next_holds_by s level b a h)

pub next_is_drivers : NextIsDrivers asking
next_is_drivers s level b a h =
    let k = next_is_by s level b a h (eqb (asking s level b).told.number 4) refl in
    (refl, refl, k.0, k.1)

-- ---- the first

begin_long : (r : Request) (s : List ℕ) → begin_verdict_in r s ≡ Ok tt → (length s ≡ driver_length) × (judge_of r ≡ Ok tt)
unfolding begin_verdict_in
begin_long r s =
    branch (λ (v : Verdict). v ≡ Ok tt → (length s ≡ driver_length) × (judge_of r ≡ Ok tt)) (eqb (length s) driver_length)
    (λ e h. (eqb-true (length s) driver_length e, h))
    (λ _ h. absurd (roomless_refused r.part r.enable h))

budget_low : (reads : Bool) (x : ℕ) → cond reads 0 (cond reads 0 x) ≤ 1000 → cond reads 0 x < word_end
budget_low true x h = omega arith
budget_low false x h = omega arith

fresh_small : (part enable what at n budget : ℕ) → judge_of (request_of part enable what at n budget) ≡ Ok tt → small_of (fresh (request_of part enable what at n budget)) ≡ true
unfolding small_of allowed_of budget_of
fresh_small part enable what at n budget h =
    let g = good_request (request_of part enable what at n budget) (ap is_fine h) in
    let k = reach (request_of part enable what at n budget) g in
    small_all (numbers_of (fresh (request_of part enable what at n budget)))
    (omega arith, (omega arith, (budget_low (reads_of what) budget g.most, (omega arith, (omega arith, (omega arith, (omega arith, tt)))))))

-- the bytes of the driver begun
begin_bytes : (part enable what at n budget : ℕ) (s : List ℕ) → part < 256 → enable < 256 → (beginning (request_of part enable what at n budget) s).number ≡ 0
    → AllBelow 256 (beginning (request_of part enable what at n budget) s).state × (holds_driver_of (beginning (request_of part enable what at n budget) s).state ≡ true)
    × (unpacked_driver_of (beginning (request_of part enable what at n budget) s).state ≡ fresh (request_of part enable what at n budget))
begin_bytes part enable what at n budget s p e h =
    let r = request_of part enable what at n budget in
    let v = fine (begin_verdict_in r s) h in
    let l = begin_long r s v in
    let b = driver_packs_back (fresh r) s (record { part = omega arith; enable = omega arith; clocks = omega arith; byte = omega arith }) (packs s (fresh r) l.0 (fresh_small part enable what at n budget l.1)) in
    rw v b

pub begin_holds : BeginHolds beginning
begin_holds part enable what at n budget s p e h =
    let b = begin_bytes part enable what at n budget s p e h in
    (b.1, b.2)

pub begin_is_drivers : BeginIsDrivers beginning
unfolding begin_verdict_in
begin_is_drivers part enable what at n budget s p e h = rw (eq-eqb (length s) driver_length h) refl

-- ---- those that refuse everything: a read of no byte at 0, on part 0, is begun, and done at its first step

never_0 : (x : Refusal) → number_of x ≡ 0 → ⊥
never_0 x h =
    let e = fine (Err x) h in
    let z : ◌≡◌ {A = ℕ} 0 1 = cc in
    omega arith

abbrev room : List ℕ
room = replicate driver_length 0

pub refusing_begin_breaks : RefusingBeginBreaks
unfolding judge_of sooner_of facts_of enable_right_of beyond_at limit_of reads_of place_of budget_of
refusing_begin_breaks x p = never_0 x (p 0 0 1 0 0 0 room (omega arith) (omega arith) refl)

none_asked : (beginning (request_of 0 0 1 0 0 0) room).number ≡ 0
unfolding begin_verdict_in judge_of sooner_of facts_of enable_right_of beyond_at limit_of reads_of place_of budget_of
none_asked = refl

none_done : (driver_next_of (fresh (request_of 0 0 1 0 0 0)) 0 []).answer ≡ Done 0 0
unfolding driver_next_of range_of judge_of sooner_of facts_of enable_right_of beyond_at limit_of counts_right allowed_of k_of pages_met_of driver_step_of ready_of reads_of place_of budget_of
none_done = refl

pub refusing_next_breaks : RefusingNextBreaks
refusing_next_breaks x p =
    let b = begin_bytes 0 0 1 0 0 0 room (omega arith) (omega arith) none_asked in
    let t = (p (beginning (request_of 0 0 1 0 0 0) room).state 0 [] b.0 b.1).0 in
    let u = ap (λ (d : Driver). (told_of (driver_next_of d 0 []).answer).number) b.2 ∙ ap (λ (a : Answer). (told_of a).number) none_done in
    never_0 x (ap (λ (t : Told). t.number) t ∙ u)
