-- Which number a request is given, by plain conditions, each with all earlier ones excluded (document 01, 'Refusal numbers': 1 2 7 8), and
-- 0 where none applies. Said of any function that judges a request, so that another order breaks it.
-- Assumes nothing.
use Rattle.std.specs.Prelude.{ℕ, ◌+◌, ◌<◌, ◌≤◌, ◌≡◌, true, false, cond, Err}
use Rattle.parts.specs.Verdict.{Verdict}
use Rattle.parts.specs.declared.Refusal.TheVariants.{BadLimit}
use Rattle.parts.specs.Table.{facts_of}
use Rattle.parts.specs.Refusals.{verdict_number_of}
use Rattle.driver.specs.declared.Request.{Request}
use Rattle.driver.specs.Request.{from_of, room_of, there_of, limit_of, judge_of}

-- 1 and 2 do not apply
pub record Enabled (r : Request) : Type 0 where
  pub known : r.part ≤ 5
  pub enable : r.enable < (facts_of r.part).enables

-- nor does 7
pub record Inside (r : Request) : Type 0 where
  pub enabled : Enabled r
  pub there : there_of (facts_of r.part) r.place ≡ true
  pub fits : from_of r.place + r.length ≤ room_of (facts_of r.part) r.place

module _ (judge : Request → Verdict) (r : Request) where
  abbrev number : ℕ
  number = verdict_number_of (judge r)

  pub record RequestNumber : Type 0 where
    pub no_part : 5 < r.part → number ≡ 1
    pub wrong_enable : r.part ≤ 5 → (facts_of r.part).enables ≤ r.enable → number ≡ 2
    pub no_page : Enabled r → there_of (facts_of r.part) r.place ≡ false → number ≡ 7
    pub beyond : Enabled r → there_of (facts_of r.part) r.place ≡ true → room_of (facts_of r.part) r.place < from_of r.place + r.length → number ≡ 7
    -- "The budget is 1 to 1,000 polls per page, for writes only"
    pub no_budget : Inside r → r.reads ≡ false → r.budget < 1 → number ≡ 8
    pub large_budget : Inside r → r.reads ≡ false → 1000 < r.budget → number ≡ 8
    pub writes : Inside r → r.reads ≡ false → 1 ≤ r.budget → r.budget ≤ 1000 → number ≡ 0
    pub reads : Inside r → r.reads ≡ true → number ≡ 0

abbrev pub RequestNumbers : (Request → Verdict) → Type 0
RequestNumbers judge = (r : Request) → RequestNumber judge r

-- nothing is left open: two that keep it give one number, for every request
abbrev pub OneNumber : Type 0
OneNumber =
    (judge other : Request → Verdict) → RequestNumbers judge → RequestNumbers other → (r : Request) → verdict_number_of (judge r) ≡ verdict_number_of (other r)

-- ---- another order: the budget is asked about first, and then all is judged as it should be

abbrev pub hasty : Request → Verdict
hasty r = cond (limit_of r.reads r.budget) (Err BadLimit) (judge_of r)

abbrev pub HastyBreaks : Type 0
HastyBreaks = RequestNumbers hasty → ⊥
