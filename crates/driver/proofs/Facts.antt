-- What a request that nothing refuses has, and a driver in range; bounds that the code needs.
-- Assumes nothing.
use Rattle.std.specs.Prelude.{Ok, Err}
use Prim.Native.Nat.{ℕ, zero, suc, ◌+◌, ◌-◌, ◌*◌, ◌/◌, ◌%◌, ◌≤◌, ◌<◌}
use mathlib.Core.Path.{◌≡◌, refl, sym, ap}
use mathlib.Core.Bool.{Bool, true, false, cond, not, false≢true, ◌&&◌}
use mathlib.Core.List.{List}
use lib.ListN.{length, length-set}
use lib.Dec.{eqb, leb, ltb, eqb-suc-zero}
use native.Mathlib.Omega.{arith}
use native.Mathlib.Nat.{mod-le, div-le_self, mul-le-mul}
use borrow.Author.Tests.{ltb-true, ltb-false, leb-true, leb-false, eqb-true, eq-eqb, le-leb}
use Rattle.parts.specs.declared.Refusal.TheVariants.{NoPart, WrongEnable, Beyond, BadLimit}
use Rattle.parts.specs.Verdict.{Verdict}
use Rattle.parts.specs.Table.{facts_of, id_size_of, enable_right_of}
use Rattle.parts.specs.Refusals.{is_fine, claim_of}
use Rattle.parts.proofs.Laws.{sound, branch}
use Rattle.parts.proofs.Claims.{claim_fine, right_fine, sooner_fine}
use Rattle.driver.specs.Split.{to_page_end_of, pages_met_of}
use Rattle.driver.specs.declared.Place.{Place}
use Rattle.driver.specs.declared.Place.TheVariants.{Array, Ident}
use Rattle.driver.specs.declared.Request.{Request}
use Rattle.driver.specs.declared.Driver.{Driver}
use Rattle.driver.specs.Request.{from_of, room_of, there_of, beyond_at, limit_of, judge_of, allowed_of, k_of, GoodRequest}
use Rattle.driver.specs.Step.{select_name_of, select_at, here_of, phase_right, counts_right, clocks_of, range_of, GoodCounts, shift_of, whole_of, byte_kept_of, buffer_of}

pub room_most : (n : ℕ) (p : Place) → room_of (facts_of n) p ≤ 32768
unfolding id_size_of
room_most n (Array a) = (sound n).size_most
room_most n (Ident i) =
    let s = (sound n).page_most in
    branch (λ (x : ℕ). x ≤ 32768) (facts_of n).ident (λ e. omega arith) (λ e. omega arith)

pub reach : (r : Request) → GoodRequest r → from_of r.place + r.length ≤ 32768
reach r g = omega (arith, g.fits, room_most r.part r.place)

pub enable_most : (r : Request) → GoodRequest r → r.enable ≤ 7
enable_most r g = omega (arith, g.enable, (sound r.part).enables_most)

pub name_most : (p : Place) → select_name_of p ≤ 176
name_most (Array a) = omega arith
name_most (Ident i) = omega arith

pub select_most : (name enable x : ℕ) (wide : Bool) → name ≤ 176 → enable ≤ 7 → select_at name wide enable x ≤ 190
unfolding select_at
select_most name enable x true h e = omega arith
select_most name enable x false h e = omega arith

pub pages_suc : (P a n : ℕ) → pages_met_of P a (suc n) ≡ (a % P + n) / P + 1
unfolding pages_met_of
pages_suc P a n = simp eqb-suc-zero (ap (λ (k : ℕ). (a % P + k) / P + 1) (omega arith))

pages_most : (P a n : ℕ) → pages_met_of P a n ≤ a + n
unfolding pages_met_of
pages_most P a zero = omega arith
pages_most P a (suc n) = omega (arith, pages_suc P a n, mod-le a P, div-le_self (a % P + n) P)

pub first_most : (P a n : ℕ) → to_page_end_of P a n ≤ n
unfolding to_page_end_of
first_most P a n = branch (λ (x : ℕ). x ≤ n) (leb n (P - a % P)) (λ e. omega arith) (λ e. omega (arith, leb-false n (P - a % P) e))

-- there are as many polls as a number can hold
pub most_fits : (r : Request) → GoodRequest r → k_of r * allowed_of r ≤ 32768000
unfolding k_of
most_fits r g =
    mul-le-mul {n₂ = 32768} (omega (arith, pages_most (facts_of r.part).page (from_of r.place) r.length, g.fits, room_most r.part r.place)) g.most

-- ---- from the tests
both_yes : (a : Bool) {b : Bool} → (a && b) ≡ true → (a ≡ true) × (b ≡ true)
both_yes true e = (refl, e)
both_yes false e = absurd (false≢true e)

within : (from length room : ℕ) (there : Bool) → beyond_at from length room there ≡ false → (there ≡ true) × (from + length ≤ room)
unfolding beyond_at
within from length room true e = (refl, ltb-false _ _ e)
within from length room false e = absurd (false≢true (sym e))

budget_low : (reads : Bool) (b : ℕ) → limit_of reads b ≡ false → reads ≡ false → 1 ≤ cond reads 0 b
unfolding limit_of
budget_low true b e f = absurd (false≢true (sym f))
budget_low false b e f = branch (λ (t : Bool). t ≡ false → 1 ≤ b) (ltb b 1) (λ t z. absurd (false≢true (sym z))) (λ t z. ltb-false _ _ t) e

budget_most : (reads : Bool) (b : ℕ) → limit_of reads b ≡ false → cond reads 0 b ≤ 1000
unfolding limit_of
budget_most true b e = omega arith
budget_most false b e = branch (λ (t : Bool). t ≡ false → b ≤ 1000) (ltb b 1) (λ t z. absurd (false≢true (sym z))) (λ t z. ltb-false 1000 b z) e

fine_is : (v : Verdict) → is_fine v ≡ true → v ≡ Ok tt
fine_is (Ok _) e = refl
fine_is (Err r) e = absurd (false≢true e)

pub good_request : (r : Request) → is_fine (judge_of r) ≡ true → GoodRequest r
unfolding judge_of enable_right_of allowed_of
good_request r e =
    let (e1, f1) = sooner_fine (claim_of (not (facts_of r.part).known) NoPart) _ (fine_is _ e) in
    let (e2, f2) = sooner_fine (claim_of (not (ltb r.enable (facts_of r.part).enables)) WrongEnable) _ f1 in
    let (e3, e4) = sooner_fine (claim_of (beyond_at (from_of r.place) r.length (room_of (facts_of r.part) r.place) (there_of (facts_of r.part) r.place)) Beyond) _ f2 in
    let t3 = claim_fine _ Beyond e3 in
    let t4 = claim_fine (limit_of r.reads r.budget) BadLimit e4 in
    record {
      known = right_fine _ NoPart e1;
      enable = ltb-true _ _ (right_fine _ WrongEnable e2);
      there = (within _ _ _ _ t3).0;
      fits = (within _ _ _ _ t3).1;
      low = budget_low r.reads r.budget t4;
      most = budget_most r.reads r.budget t4;
    }

pub good_counts : (d : Driver) (n : ℕ) → range_of d n ≡ true → GoodCounts d n
unfolding range_of counts_right
good_counts d n e0 =
    let (t0, e1) = both_yes (is_fine (judge_of d.request)) e0 in
    let (t1, e2) = both_yes (phase_right d.phase d.request.reads) e1 in
    let (t2, e3) = both_yes (eqb n d.request.length) e2 in
    let (t3, e4) = both_yes (leb d.counts.at n) e3 in
    let (t4, e5) = both_yes (leb d.counts.seen d.counts.at) e4 in
    let (t5, e6) = both_yes (leb (clocks_of d.phase) 8) e5 in
    let (t6, e7) = both_yes (leb d.counts.tries (allowed_of d.request)) e6 in
    record {
      right = t1;
      count = eqb-true _ _ t2;
      at = leb-true _ _ t3;
      seen = leb-true _ _ t4;
      bits = leb-true _ _ t5;
      tries = leb-true _ _ t6;
      polls = leb-true _ _ e7;
    }

pub range_request : (d : Driver) (n : ℕ) → range_of d n ≡ true → GoodRequest d.request
unfolding range_of
range_request d n e = good_request d.request (both_yes (is_fine (judge_of d.request)) e).0

-- all that a step requires
pub fit : (d : Driver) (n : ℕ) → range_of d n ≡ true → GoodRequest d.request × GoodCounts d d.request.length
fit d n e =
    let g = good_counts d n e in
    let z = g.count in
    (range_request d n e, record { right = g.right; count = refl; at = omega arith; seen = g.seen; bits = g.bits; tries = g.tries; polls = g.polls })

-- and back
pub range_good : (d : Driver) (n : ℕ) → is_fine (judge_of d.request) ≡ true → GoodCounts d n → range_of d n ≡ true
unfolding range_of counts_right
range_good d n e g =
    simp
    (e, g.right, eq-eqb _ _ g.count, le-leb _ _ g.at, le-leb _ _ g.seen, le-leb _ _ g.bits, le-leb _ _ g.tries, le-leb _ _ g.polls)

-- a step keeps the buffer's length
pub buffer_length : (d : Driver) (level : ℕ) (xs : List ℕ) → length (buffer_of d level xs) ≡ length xs
unfolding buffer_of byte_kept_of
buffer_length d level xs =
    branch L (range_of d (length xs))
    (λ _. branch L (whole_of d.phase) (λ _. branch L (ltb d.counts.at (length xs)) (λ _. length-set xs d.counts.at (shift_of d.counts.byte level)) (λ _. refl)) (λ _. refl))
    (λ _. refl)
  where
    L : List ℕ → Type 0
    L ys = length ys ≡ length xs
