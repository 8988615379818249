-- Document 01, 'The driver' and 'Refusal numbers': a request, and what refuses it (1, 2, 7, 8).
-- Assumes nothing.
use Rattle.std.specs.Prelude.{ℕ, ◌+◌, ◌<◌, ◌≤◌, ◌≡◌, Bool, true, false, cond, not, ltb}
use Rattle.parts.specs.declared.Facts.{Facts}
use Rattle.parts.specs.declared.Refusal.TheVariants.{NoPart, WrongEnable, Beyond, BadLimit}
use Rattle.parts.specs.Verdict.{Verdict}
use Rattle.parts.specs.Table.{facts_of, id_size_of, enable_right_of}
use Rattle.parts.specs.Refusals.{claim_of, sooner_of}
use Rattle.driver.specs.Split.{pages_met_of}
use Rattle.driver.specs.declared.Place.{Place}
use Rattle.driver.specs.declared.Place.TheVariants.{Array, Ident}
use Rattle.driver.specs.declared.Request.{Request}

-- the address or the location of the first byte
abbrev pub from_of : Place → ℕ
from_of (Array a) = a.0
from_of (Ident i) = i.0

-- the bytes of the array or of the identification page
abbrev pub room_of : Facts → Place → ℕ
room_of f (Array a) = f.size
room_of f (Ident i) = id_size_of f

-- whether the part has what is asked for
abbrev pub there_of : Facts → Place → Bool
there_of f (Array a) = true
there_of f (Ident i) = f.ident

-- refusal 7: "address plus length beyond the array or page; no such page"
unfoldable pub beyond_at : ℕ → ℕ → ℕ → Bool → Bool
beyond_at from length room there = cond there (ltb room (from + length)) true

-- refusal 8: "The budget is 1 to 1,000 polls per page, for writes only"
unfoldable pub limit_of : Bool → ℕ → Bool
limit_of reads budget = cond reads false (cond (ltb budget 1) true (ltb 1000 budget))

-- the refusals that a request can meet: 1, 2, 7, 8
unfoldable pub judge_of : Request → Verdict
judge_of r =
    sooner_of (claim_of (not (facts_of r.part).known) NoPart)
    (sooner_of (claim_of (not (enable_right_of (facts_of r.part) r.enable)) WrongEnable)
    (sooner_of (claim_of (beyond_at (from_of r.place) r.length (room_of (facts_of r.part) r.place) (there_of (facts_of r.part) r.place)) Beyond)
    (claim_of (limit_of r.reads r.budget) BadLimit)))

-- the polls allowed for a page: a read sends none
unfoldable pub allowed_of : Request → ℕ
allowed_of r = cond r.reads 0 r.budget

-- the pages that the request meets: k of document 01
unfoldable pub k_of : Request → ℕ
k_of r = pages_met_of (facts_of r.part).page (from_of r.place) r.length

-- what a request has that nothing refuses
pub record GoodRequest (r : Request) : Type 0 where
  pub known : (facts_of r.part).known ≡ true
  pub enable : r.enable < (facts_of r.part).enables
  pub there : there_of (facts_of r.part) r.place ≡ true
  pub fits : from_of r.place + r.length ≤ room_of (facts_of r.part) r.place
  pub low : r.reads ≡ false → 1 ≤ allowed_of r
  pub most : allowed_of r ≤ 1000
