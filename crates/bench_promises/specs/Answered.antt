-- Document 02, §1: "With power kept no chip of the named part gives 14 or 15; a faulty line does." Driver and chip together, with events from
-- outside at any moment between askings. The chip is any chip of the named part: in standby, in a transfer, in a cycle, at any enable
-- of its own, whatever its pin and lock. (The faulty line is `FaultyLine` of crate driver_promises.)
-- Assumes nothing.
use Rattle.std.specs.Prelude.{ℕ, ◌≤◌, ◌≡◌, Bool, true, false, List, [], ◌∷◌, ◌++◌, map, replicate, Ok}
use Rattle.parts.specs.declared.Facts.{Facts}
use Rattle.parts.specs.declared.Refusal.TheVariants.{NoFirst, NoSecond}
use Rattle.parts.specs.Table.{facts_of}
use Rattle.parts.specs.Refusals.{number_of, verdict_number_of}
use Rattle.state.specs.declared.Chip.{Chip}
use Rattle.chip.specs.Memory.{Mem, mem}
use Rattle.chip.specs.Model.{Model, ours}
use Rattle.chip.specs.Delivery.{standby_of}
use Rattle.driver.specs.declared.Place.TheVariants.{Array}
use Rattle.driver.specs.declared.Request.{Request}
use Rattle.driver.specs.declared.Answer.{Answer}
use Rattle.driver.specs.declared.Answer.TheVariants.{Send, Done, Refused}
use Rattle.driver.specs.Machine.{Machine, our_driver}
use Rattle.driver_promises.specs.Promises.{Accepted}
use Rattle.driver_promises.specs.Misnamed.{told_as, telling}
use Rattle.bench.specs.Together.{System, start_of, asked_of, outside_of, ends, together_of}
use Rattle.bench_promises.specs.Calls.{BenchCall, Bench, verdict_of}

-- what happens next: the driver is asked once, or the chip is given an event from outside
pub data Happens : Type 0 where
  asks : Happens
  outside : ℕ → Happens

module _ (D : Machine) (M : Model) where
  abbrev pub amid : List Happens → System → System
  amid [] s = s
  amid (asks ∷ hs) s = amid hs (asked_of D M s)
  amid (outside e ∷ hs) s = amid hs (outside_of M e s)

-- the runs of choices, of specs/Together.antt, are those with cycle ends alone
abbrev pub choice_of : Bool → Happens
choice_of true = asks
choice_of false = outside ends

abbrev pub ChoicesAmid : Type 0
ChoicesAmid = (D : Machine) (M : Model) (bs : List Bool) (s : System) → amid D M (map choice_of bs) s ≡ together_of D M bs s

-- each event from outside is as Q says
abbrev pub Outside : (ℕ → Type 0) → List Happens → Type 0
Outside Q [] = Unit {0}
Outside Q (asks ∷ hs) = Outside Q hs
Outside Q (outside e ∷ hs) = Q e × Outside Q hs

-- "power kept": no reset. 4 is a cycle's end, 5 to 7 are pin events; Start, Stop and clocks are the driver's alone
abbrev pub PowerKept : ℕ → Type 0
PowerKept e = (4 ≤ e) × (e ≤ 7)

-- neither 14 nor 15
abbrev pub Addressed : Answer → Type 0
Addressed (Send e) = Unit {0}
Addressed (Done polls bytes) = Unit {0}
Addressed (Refused f polls bytes) = (number_of f ≡ 14 → ⊥) × (number_of f ≡ 15 → ⊥)

-- what the driver answers when it is asked next; own: the chip's enable
abbrev pub answer_amid : Machine → (Facts → ℕ → Model) → Request → List ℕ → ℕ → Chip → Mem → List Happens → Answer
answer_amid D M r xs own c m hs =
    let s = amid D (M (facts_of r.part) own) hs (start_of r xs c m) in
    (D.next s.driver s.level s.buffer).answer

abbrev pub AnsweredWith : (ℕ → Type 0) → Machine → (Facts → ℕ → Model) → Type 0
AnsweredWith Q D M =
    (r : Request) (xs : List ℕ) → Accepted r xs → (own : ℕ) (c : Chip) (m : Mem) (hs : List Happens) → Outside Q hs
    → Addressed (answer_amid D M r xs own c m hs)

-- the promise: at every moment of every such run
abbrev pub AddressAnswered : Machine → (Facts → ℕ → Model) → Type 0
AddressAnswered = AnsweredWith PowerKept

-- and of the public run: a call that begins ends in neither, whatever chip is lent
abbrev pub AddressedKept : Bench → Type 0
AddressedKept B =
    (k : BenchCall) → verdict_of k ≡ Ok tt
    → (verdict_number_of (B.report k).verdict ≡ 14 → ⊥) × (verdict_number_of (B.report k).verdict ≡ 15 → ⊥)

-- ---- power kept is needed: one reset behind the select's acknowledge gives 14, one behind the first address byte's 15

-- a byte for address 64 of part 2, which is on page 2, and a chip as delivered
abbrev pub on_page2 : Request
on_page2 = record { part = 2; enable = 0; place = Array (record { 0 = 64 }); reads = false; length = 1; budget = 1 }

-- after n askings the power is lost once, then the driver is asked ten times more
abbrev pub cut_after : ℕ → Answer
cut_after n = answer_amid our_driver ours on_page2 (90 ∷ []) 0 (standby_of (facts_of 2) false) (mem [] []) (replicate n asks ++ (outside 8 ∷ replicate 10 asks))

pub record ResetBreaks : Type 0 where
  pub first : cut_after 10 ≡ Refused (NoFirst 2) 0 0
  pub second : cut_after 19 ≡ Refused (NoSecond 2) 0 0
  -- so the promise without its condition is broken, and by resets alone
  pub breaks : AnsweredWith (λ e. e ≡ 8) our_driver ours → ⊥

-- ---- and a driver that blames the line where the straps are wrong: ours, but that it tells a missed select as the first address byte
abbrev pub blaming : Machine
blaming = telling (λ d. told_as 9 NoFirst)

abbrev pub BlamingBreaks : Type 0
BlamingBreaks = AddressAnswered blaming ours → ⊥
