-- The numbers of a request are given in document 01's order.
-- Assumes nothing.
use Rattle.std.specs.Prelude.{Err}
use Prim.Native.Nat.{ℕ, ◌+◌, ◌<◌, ◌≤◌}
use mathlib.Core.Path.{◌≡◌, refl, sym, ap, ◌∙◌}
use mathlib.Core.Bool.{Bool, true, false, not, cond}
use mathlib.Core.Logic.{◌⊎◌, inl, inr, ⊎_elim}
use lib.Dec.{ltb}
use native.Mathlib.Omega.{arith}
use borrow.Author.Tests.{lt-ltb, le-ltb, ltb-true, ltb-false}
use Rattle.parts.specs.declared.Refusal.{Refusal}
use Rattle.parts.specs.declared.Refusal.TheVariants.{NoPart, WrongEnable, Beyond, BadLimit}
use Rattle.parts.specs.Verdict.{Verdict}
use Rattle.parts.specs.Table.{facts_of, enable_right_of}
use Rattle.parts.specs.Refusals.{rank_of, verdict_number_of, claim_of, sooner_of}
use Rattle.parts.proofs.Laws.{known, unknown}
use Rattle.parts.proofs.Claims.{Later, later_claim, later_sooner, given_first}
use Rattle.driver.specs.declared.Place.TheVariants.{Array}
use Rattle.driver.specs.declared.Request.{Request}
use Rattle.driver.specs.Request.{from_of, room_of, there_of, beyond_at, limit_of, judge_of}
use Rattle.driver_promises.specs.Numbers.{Enabled, Inside, RequestNumbers, OneNumber, hasty, HastyBreaks}

module _ (r : Request) where
  abbrev pub off : Bool
  off = beyond_at (from_of r.place) r.length (room_of (facts_of r.part) r.place) (there_of (facts_of r.part) r.place)

  abbrev pub enable : Verdict
  enable = claim_of (not (enable_right_of (facts_of r.part) r.enable)) WrongEnable

  abbrev pub far : Verdict
  far = claim_of off Beyond

  abbrev pub limit : Verdict
  limit = claim_of (limit_of r.reads r.budget) BadLimit

  behind : (x : Refusal) → rank_of x ≤ rank_of Beyond → Later (rank_of x) (sooner_of far limit)
  behind x h =
      later_sooner (rank_of x) far limit (later_claim (rank_of x) off Beyond h) (later_claim (rank_of x) (limit_of r.reads r.budget) BadLimit (omega arith))

  pub judged_1 : 5 < r.part → judge_of r ≡ Err NoPart
  unfolding judge_of
  judged_1 h =
      ap (λ (b : Bool). sooner_of (claim_of (not b) NoPart) (sooner_of enable (sooner_of far limit))) (unknown r.part h)
      ∙ given_first NoPart (sooner_of enable (sooner_of far limit))
      (later_sooner (rank_of NoPart) enable (sooner_of far limit) (later_claim (rank_of NoPart) (not (enable_right_of (facts_of r.part) r.enable)) WrongEnable (omega arith)) (behind NoPart (omega arith)))

  pub from_2 : r.part ≤ 5 → judge_of r ≡ sooner_of enable (sooner_of far limit)
  unfolding judge_of sooner_of
  from_2 k = ap (λ (b : Bool). sooner_of (claim_of (not b) NoPart) (sooner_of enable (sooner_of far limit))) (known r.part k)

  pub judged_2 : r.part ≤ 5 → (facts_of r.part).enables ≤ r.enable → judge_of r ≡ Err WrongEnable
  unfolding enable_right_of
  judged_2 k h =
      from_2 k
      ∙ ap (λ (b : Bool). sooner_of (claim_of (not b) WrongEnable) (sooner_of far limit)) (le-ltb r.enable (facts_of r.part).enables h)
      ∙ given_first WrongEnable (sooner_of far limit) (behind WrongEnable (omega arith))

  pub from_7 : Enabled r → judge_of r ≡ sooner_of far limit
  unfolding enable_right_of sooner_of
  from_7 e =
      from_2 e.known
      ∙ ap (λ (b : Bool). sooner_of (claim_of (not b) WrongEnable) (sooner_of far limit)) (lt-ltb r.enable (facts_of r.part).enables e.enable)

  pub judged_7 : Enabled r → off ≡ true → judge_of r ≡ Err Beyond
  judged_7 e h =
      from_7 e
      ∙ ap (λ (b : Bool). sooner_of (claim_of b Beyond) limit) h
      ∙ given_first Beyond limit (later_claim (rank_of Beyond) (limit_of r.reads r.budget) BadLimit (omega arith))

  pub none_there : there_of (facts_of r.part) r.place ≡ false → off ≡ true
  unfolding beyond_at
  none_there h = ap (λ (b : Bool). cond b (ltb (room_of (facts_of r.part) r.place) (from_of r.place + r.length)) true) h

  pub too_far : there_of (facts_of r.part) r.place ≡ true → room_of (facts_of r.part) r.place < from_of r.place + r.length → off ≡ true
  unfolding beyond_at
  too_far h f =
      ap (λ (b : Bool). cond b (ltb (room_of (facts_of r.part) r.place) (from_of r.place + r.length)) true) h
      ∙ lt-ltb (room_of (facts_of r.part) r.place) (from_of r.place + r.length) f

  within : there_of (facts_of r.part) r.place ≡ true → from_of r.place + r.length ≤ room_of (facts_of r.part) r.place → off ≡ false
  unfolding beyond_at
  within h f =
      ap (λ (b : Bool). cond b (ltb (room_of (facts_of r.part) r.place) (from_of r.place + r.length)) true) h
      ∙ le-ltb (room_of (facts_of r.part) r.place) (from_of r.place + r.length) f

  pub judged_8 : (b : Bool) → Inside r → limit_of r.reads r.budget ≡ b → judge_of r ≡ claim_of b BadLimit
  unfolding sooner_of
  judged_8 b i h =
      from_7 i.enabled ∙ ap (λ (x : Bool). sooner_of (claim_of x Beyond) limit) (within i.there i.fits) ∙ ap (λ (x : Bool). claim_of x BadLimit) h

  pub low : r.reads ≡ false → r.budget < 1 → limit_of r.reads r.budget ≡ true
  unfolding limit_of
  low w h = ap (λ (b : Bool). limit_of b r.budget) w ∙ ap (λ (b : Bool). cond b true (ltb 1000 r.budget)) (lt-ltb r.budget 1 h)

  pub large : r.reads ≡ false → 1000 < r.budget → limit_of r.reads r.budget ≡ true
  unfolding limit_of
  large w h =
      ap (λ (b : Bool). limit_of b r.budget) w
      ∙ ap (λ (b : Bool). cond b true (ltb 1000 r.budget)) (le-ltb r.budget 1 (omega arith))
      ∙ lt-ltb 1000 r.budget h

  fair : r.reads ≡ false → 1 ≤ r.budget → r.budget ≤ 1000 → limit_of r.reads r.budget ≡ false
  unfolding limit_of
  fair w l h =
      ap (λ (b : Bool). limit_of b r.budget) w
      ∙ ap (λ (b : Bool). cond b true (ltb 1000 r.budget)) (le-ltb r.budget 1 l)
      ∙ le-ltb 1000 r.budget h

  unheeded : r.reads ≡ true → limit_of r.reads r.budget ≡ false
  unfolding limit_of
  unheeded w = ap (λ (b : Bool). limit_of b r.budget) w

pub request_numbers : RequestNumbers judge_of
request_numbers r =
    record {
      no_part = λ h. ap verdict_number_of (judged_1 r h);
      wrong_enable = λ k h. ap verdict_number_of (judged_2 r k h);
      no_page = λ e h. ap verdict_number_of (judged_7 r e (none_there r h));
      beyond = λ e h f. ap verdict_number_of (judged_7 r e (too_far r h f));
      no_budget = λ i w h. ap verdict_number_of (judged_8 r true i (low r w h));
      large_budget = λ i w h. ap verdict_number_of (judged_8 r true i (large r w h));
      writes = λ i w l h. ap verdict_number_of (judged_8 r false i (fair r w l h));
      reads = λ i w. ap verdict_number_of (judged_8 r false i (unheeded r w));
    }

-- ---- one condition of the eight holds of every request

pub less_or_more : (i n : ℕ) → (i < n) ⊎ (n ≤ i)
less_or_more i n = go (ltb i n) refl
  where
    go : (t : Bool) → ltb i n ≡ t → (i < n) ⊎ (n ≤ i)
    go true e = inl (ltb-true i n e)
    go false e = inr (ltb-false i n e)

module _ (judge other : Request → Verdict) (p : RequestNumbers judge) (q : RequestNumbers other) (r : Request) where
  abbrev Same : Type 0
  Same = verdict_number_of (judge r) ≡ verdict_number_of (other r)

  same_inside : Inside r → Same
  same_inside i = go r.reads refl
    where
      go : (b : Bool) → r.reads ≡ b → Same
      go true w = (p r).reads i w ∙ sym ((q r).reads i w)
      go false w =
          ⊎_elim (λ h. (p r).no_budget i w h ∙ sym ((q r).no_budget i w h))
          (λ l. ⊎_elim (λ h. (p r).large_budget i w h ∙ sym ((q r).large_budget i w h)) (λ h. (p r).writes i w l h ∙ sym ((q r).writes i w l h)) (less_or_more 1000 r.budget))
          (less_or_more r.budget 1)

  same_enabled : Enabled r → Same
  same_enabled e = go (there_of (facts_of r.part) r.place) refl
    where
      go : (b : Bool) → there_of (facts_of r.part) r.place ≡ b → Same
      go false h = (p r).no_page e h ∙ sym ((q r).no_page e h)
      go true h =
          ⊎_elim (λ f. (p r).beyond e h f ∙ sym ((q r).beyond e h f)) (λ f. same_inside record { enabled = e; there = h; fits = f })
          (less_or_more (room_of (facts_of r.part) r.place) (from_of r.place + r.length))

  same : Same
  same =
      ⊎_elim (λ h. (p r).no_part h ∙ sym ((q r).no_part h))
      (λ k. ⊎_elim (λ h. same_enabled record { known = k; enable = h }) (λ h. (p r).wrong_enable k h ∙ sym ((q r).wrong_enable k h)) (less_or_more r.enable (facts_of r.part).enables))
      (less_or_more 5 r.part)

pub one_number : OneNumber
one_number = same

-- a write of one byte beyond part 2, with no budget
abbrev both : Request
both = record { part = 2; enable = 0; place = Array (record { 0 = 8192 }); reads = false; length = 1; budget = 0 }

hasty_8 : verdict_number_of (hasty both) ≡ 8
unfolding limit_of
hasty_8 = refl

given_7 : RequestNumbers hasty → verdict_number_of (hasty both) ≡ 7
unfolding facts_of
given_7 p = (p both).beyond record { known = omega arith; enable = omega arith } refl (omega arith)

pub hasty_breaks : HastyBreaks
hasty_breaks p = let a = given_7 p in omega (arith, hasty_8)
