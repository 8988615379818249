-- Document 02, §1, said of the events and the number alone: "9 is the select only; 14 first address byte, 15 second", each with "the page of the
-- transfer's address", and refusal 10 with "the data byte's index in the request". For any levels. And "a faulty line does" give 14 and 15.
-- Assumes nothing.
use Rattle.std.specs.Prelude.{ℕ, ◌+◌, ◌-◌, ◌*◌, ◌<◌, ◌≡◌, Bool, true, false, cond, not, ◌⊎◌, List, [], ◌∷◌, ◌++◌, length, take, replicate, eqb, None, Some}
use Rattle.parts.specs.declared.Refusal.{Refusal}
use Rattle.parts.specs.declared.Refusal.TheVariants.{NoSelect, NoFirst, NoSecond}
use Rattle.parts.specs.Table.{facts_of}
use Rattle.parts.specs.Refusals.{number_of, spot_of}
use Rattle.driver.specs.declared.Request.{Request}
use Rattle.driver.specs.declared.Driver.{Driver}
use Rattle.driver.specs.declared.Answer.{Answer}
use Rattle.driver.specs.declared.Answer.TheVariants.{Send, Done, Refused}
use Rattle.driver.specs.Machine.{Machine}
use Rattle.driver.specs.Step.{page_at}
use Rattle.driver_promises.specs.Run.{address_bytes, bound_of}
use Rattle.driver_promises.specs.Plan.{then_stop}
use Rattle.driver_promises.specs.Heard.{Missed}
use Rattle.driver_promises.specs.Promises.{Accepted, sent, answers, Always, RefusedKept}
use Rattle.driver_promises.specs.Listens.{silence, ear_of}

-- ---- which byte each number names

-- the events before the last one
abbrev pub until_last : List ℕ → List ℕ
until_last es = take (length es - 1) es

-- the clocks since the last Start: nine for each byte
abbrev pub clocks_since : List ℕ → ℕ
clocks_since es = (ear_of silence es).clocks

-- whether they end among the polls of a part: the Stops of a write are in turn the end of a part's data and the end of its polls
abbrev pub in_polls : Bool → List ℕ → Bool
in_polls odd [] = odd
in_polls odd (e ∷ es) = in_polls (cond (eqb e 3) (not odd) odd) es

-- refused with f after m bytes; es: the events before the Stop that is sent first
pub record Names (r : Request) (m : ℕ) (es : List ℕ) (f : Refusal) : Type 0 where
  -- the byte behind a Start, of a part, or either of a read
  pub select : number_of f ≡ 9 → (clocks_since es ≡ 9) × (spot_of f ≡ Some (page_at r m))
  pub first : number_of f ≡ 14 → (clocks_since es ≡ 18) × (spot_of f ≡ Some (page_at r m))
  -- parts 0 and 1 have no second one
  pub second : number_of f ≡ 15 → (clocks_since es ≡ 27) × (spot_of f ≡ Some (page_at r m)) × ((facts_of r.part).wide ≡ true)
  -- behind select and address, data byte i of the part, which begins with byte m of the request
  pub byte : number_of f ≡ 10 → (i : ℕ) × (clocks_since es ≡ 9 * (1 + address_bytes r + i + 1)) × (spot_of f ≡ Some (m + i))
  -- the select of a poll; and no other number stands there
  pub polling : in_polls false es ≡ eqb (number_of f) 11
  pub polls : number_of f ≡ 11 → (clocks_since es ≡ 9) × (spot_of f ≡ None)
  -- and a driver that has begun is refused with these alone
  pub these : (number_of f ≡ 9) ⊎ ((number_of f ≡ 10) ⊎ ((number_of f ≡ 11) ⊎ ((number_of f ≡ 14) ⊎ (number_of f ≡ 15))))

module _ (M : Machine) where
  pub record SaysWhich (r : Request) (xs ls : List ℕ) (l : ℕ) (f : Refusal) (m : ℕ) : Type 0 where
    pub stop : sent M r xs ls l ≡ then_stop (until_last (sent M r xs ls l))
    -- the level of the byte's ninth clock
    pub missed : Missed ls (until_last (sent M r xs ls l))
    pub names : Names r m (until_last (sent M r xs ls l)) f

  abbrev pub SaysWhichKept : Type 0
  SaysWhichKept = Always (λ r xs ls l. (q m : ℕ) (f : Refusal) → answers M r xs ls l ≡ Refused f q m → SaysWhich r xs ls l f m)

-- whoever keeps the fourth promise keeps it
abbrev pub RefusedSays : Type 0
RefusedSays = (M : Machine) → RefusedKept M → SaysWhichKept M

-- ---- a part with one address byte gives no 15, whatever driver is handed in, in range or not
abbrev pub NotSecond : Answer → Type 0
NotSecond (Send e) = Unit {0}
NotSecond (Done polls bytes) = Unit {0}
NotSecond (Refused f polls bytes) = number_of f ≡ 15 → ⊥

abbrev pub OneAddressByte : Machine → Type 0
OneAddressByte M = (d : Driver) (level : ℕ) (xs : List ℕ) → (facts_of d.request.part).wide ≡ false → NotSecond (M.next d level xs).answer

-- ---- a faulty line: the levels up to number k are low, then none is; for any request of a byte or more. The ninth clock of a read's or
-- first part's select is told as level 10, that of each byte behind it nine later
abbrev pub failing : ℕ → ℕ → List ℕ
failing k n = replicate k 0 ++ replicate n 1

pub record Fails (M : Machine) (r : Request) (xs : List ℕ) (n l : ℕ) : Type 0 where
  pub select : answers M r xs (failing 10 n) l ≡ Refused (NoSelect (page_at r 0)) 0 0
  pub first : answers M r xs (failing 19 n) l ≡ Refused (NoFirst (page_at r 0)) 0 0
  pub second : (facts_of r.part).wide ≡ true → answers M r xs (failing 28 n) l ≡ Refused (NoSecond (page_at r 0)) 0 0

abbrev pub FaultyLine : Machine → Type 0
FaultyLine M = (r : Request) (xs : List ℕ) → Accepted r xs → 0 < r.length → (n l : ℕ) → bound_of r < n → Fails M r xs n l
