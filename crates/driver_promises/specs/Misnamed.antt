-- Drivers that tell the wrong byte, page or index (document 02, §1): ours, but that they tell a refusal as another. Each breaks a promise.
-- Assumes nothing.
use Rattle.std.specs.Prelude.{ℕ, ◌-◌, ◌/◌, cond, eqb}
use Rattle.parts.specs.declared.Refusal.{Refusal}
use Rattle.parts.specs.declared.Refusal.TheVariants.{NoSelect, NoData, NoFirst, NoSecond}
use Rattle.parts.specs.Table.{facts_of}
use Rattle.parts.specs.Refusals.{number_of, spot_of, place_told}
use Rattle.driver.specs.declared.Slot.TheVariants.{High}
use Rattle.driver.specs.declared.Driver.{Driver}
use Rattle.driver.specs.declared.Answer.{Answer}
use Rattle.driver.specs.declared.Answer.TheVariants.{Send, Done, Refused}
use Rattle.driver.specs.Request.{from_of}
use Rattle.driver.specs.Step.{driver_next_of, buffer_of}
use Rattle.driver.specs.Machine.{Machine}
use Rattle.driver_promises.specs.Idle.{deaf_to}
use Rattle.driver_promises.specs.Which.{SaysWhichKept, FaultyLine}

abbrev pub retold : (Refusal → Refusal) → Answer → Answer
retold say (Send e) = Send e
retold say (Done q n) = Done q n
retold say (Refused f q n) = Refused (say f) q n

abbrev pub telling : (Driver → Refusal → Refusal) → Machine
telling say =
    record { next = λ d l xs. record { answer = retold (say d) (driver_next_of d l xs).answer; driver = (driver_next_of d l xs).driver }; leaves = buffer_of }

-- a refusal of this number is told as another, made of its page or index
abbrev pub told_as : ℕ → (ℕ → Refusal) → Refusal → Refusal
told_as n say f = cond (eqb (number_of f) n) (say (place_told (spot_of f))) f

-- everything is 9, as before this request
abbrev pub all_nine : Machine
all_nine = telling (λ d f. told_as 14 NoSelect (told_as 15 NoSelect f))

-- the only address byte of parts 0 and 1 is told as a second one
abbrev pub second_of_one : Machine
second_of_one = telling (λ d. told_as 14 (λ p. cond (facts_of d.request.part).wide (NoFirst p) (NoSecond p)))

-- the page of the request in place of the part's
abbrev pub request_page : Machine
request_page = telling (λ d. told_as 9 (λ p. NoSelect (from_of d.request.place / (facts_of d.request.part).page)))

-- the index within the part
abbrev pub part_index : Machine
part_index = telling (λ d. told_as 10 (λ i. NoData (i - d.counts.seen)))

-- the select of the last poll is told as 9
abbrev pub nine_at_polls : Machine
nine_at_polls = telling (λ d. told_as 11 NoSelect)

-- the last takes the first address byte's acknowledge as given, and never ends in 14 on parts 2 to 5
pub record WrongNamesBreak : Type 0 where
  pub all_nine : SaysWhichKept all_nine → ⊥
  pub second_of_one : SaysWhichKept second_of_one → ⊥
  pub request_page : SaysWhichKept request_page → ⊥
  pub part_index : SaysWhichKept part_index → ⊥
  pub nine_at_polls : SaysWhichKept nine_at_polls → ⊥
  pub never_fourteen : FaultyLine (deaf_to High) → ⊥
