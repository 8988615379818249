-- What is promised of turning samples into events (document 02, §3), over any reader: proofs/Reading.antt.
-- Assumes nothing.
use Rattle.std.specs.Prelude.{ℕ, ◌<◌, ◌≤◌, ◌≡◌, ◌⊎◌, Bool, true, false, not, cond, ◌&&◌, List, [], ◌∷◌, ◌++◌, length, get_or, take, eqb, ltb}
use Rattle.parts.specs.Bytes.{AllBelow}
use Rattle.capture.specs.declared.Wires.{Wires}
use Rattle.capture.specs.declared.Wires.TheVariants.{Rest, Low, High}
use Rattle.capture.specs.Wires.{stroke_of, drawn_of}
use Rattle.parts.specs.declared.Refusal.TheVariants.{ShortBuffer, BadSample}
use Rattle.capture_promises.specs.Machines.{Listing, events_in, listed, unlisted}

-- ---- by the letter

-- what two samples make; a sample is 2 for data and 1 for the clock, and of the events a Start is 2, a Stop 3, a clock its level
module _ (list : Listing) (out : List ℕ) where
  abbrev pub Makes : List ℕ → List ℕ → Type 0
  Makes ss es = list false ss out ≡ listed es out

  pub record Pairs : Type 0 where
    -- "data falling with the clock high in both samples is a Start, rising a Stop"
    pub start : Makes (3 ∷ 1 ∷ []) (2 ∷ [])
    pub stop : Makes (1 ∷ 3 ∷ []) (3 ∷ [])
    -- "a rising clock a clock with the new data level"; "Where both lines change at once the clock rule alone holds"
    pub low : Makes (0 ∷ 1 ∷ []) (0 ∷ [])
    pub high : Makes (2 ∷ 3 ∷ []) (1 ∷ [])
    pub low_both : Makes (2 ∷ 1 ∷ []) (0 ∷ [])
    pub high_both : Makes (0 ∷ 3 ∷ []) (1 ∷ [])
    -- a clock that falls or stays low makes none, nor does a sample that is the one before it
    pub clock_low : (a b : ℕ) → a < 4 → (b ≡ 0) ⊎ (b ≡ 2) → Makes (a ∷ b ∷ []) []
    pub same : (a : ℕ) → a < 4 → Makes (a ∷ a ∷ []) []
    -- "and the first sample makes none"
    pub first : (a : ℕ) → a < 4 → Makes (a ∷ []) []
    pub none : Makes [] []

-- in a buffer with room for one
abbrev pub LetterPairs : Listing → Type 0
LetterPairs list = (out : List ℕ) → 1 ≤ length out → Pairs list out

-- an event by the letter depends on a sample and the one before it alone: of two captures that meet in a sample the events are those of
-- the one and then of the other
abbrev pub LetterJoins : Listing → Type 0
LetterJoins list =
    (ws ys out : List ℕ) (s : ℕ) → AllBelow 4 (ws ++ s ∷ ys) → length (ws ++ s ∷ ys) ≤ length out
    → list false (ws ++ s ∷ ys) out ≡ listed (events_in (list false (ws ++ s ∷ []) out) ++ events_in (list false (s ∷ ys) out)) out

-- ---- as on a bus

-- a clock directly before a Start or Stop is dropped
abbrev pub dropped_of : List ℕ → List ℕ
dropped_of [] = []
dropped_of (e ∷ []) = e ∷ []
dropped_of (e ∷ d ∷ es) = cond (ltb e 2 && not (ltb d 2)) (dropped_of (d ∷ es)) (e ∷ dropped_of (d ∷ es))

-- the one reading from the other: so the letter's events fix those of the bus
abbrev pub BusDrops : Listing → Type 0
BusDrops list =
    (ss out : List ℕ) → AllBelow 4 ss → length ss ≤ length out → list true ss out ≡ listed (dropped_of (events_in (list false ss out))) out

-- whatever a bus carries, Starts and Stops inside bytes too, is read back off its wires, drawn as the data sheets say
abbrev pub DrawnBack : Listing → Type 0
DrawnBack list = (es out : List ℕ) → AllBelow 4 es → length es ≤ length out → list true (drawn_of es) out ≡ listed es out

-- by the letter the same wires have a clock more before each Stop, of level 0, and before each Start in a transfer, of level 1
abbrev pub start_late : Wires → List ℕ
start_late Rest = 2 ∷ []
start_late Low = 1 ∷ 2 ∷ []
start_late High = 1 ∷ 2 ∷ []

abbrev pub late_from : Wires → List ℕ → List ℕ
late_from w [] = []
late_from w (e ∷ es) = cond (eqb e 3) (0 ∷ 3 ∷ []) (cond (eqb e 2) (start_late w) (e ∷ [])) ++ late_from (stroke_of w e).wires es

abbrev pub LetterLate : Listing → Type 0
LetterLate list =
    (es out : List ℕ) → AllBelow 4 es → length (late_from Rest es) ≤ length out → list false (drawn_of es) out ≡ listed (late_from Rest es) out

-- ---- of either

-- a sample equal to the one before it can be left out
abbrev pub RepeatsMakeNone : Listing → Type 0
RepeatsMakeNone list =
    (bus : Bool) (ws ys out : List ℕ) (s : ℕ) → AllBelow 4 (ws ++ s ∷ ys) → list bus (ws ++ s ∷ s ∷ ys) out ≡ list bus (ws ++ s ∷ ys) out

-- "Refusals: 20 a sample above 3, at its place", then 6; a refused call changes nothing
module _ (list : Listing) (bus : Bool) (ss out : List ℕ) where
  pub record ListNumber : Type 0 where
    pub bad_sample : (k : ℕ) → k < length ss → AllBelow 4 (take k ss) → 3 < get_or ss k 0 → list bus ss out ≡ unlisted (BadSample k) out
    -- so many events do not fit: those of a call with room for all of them
    pub short_buffer : (room : List ℕ) → AllBelow 4 ss → length ss ≤ length room → length out < (list bus ss room).answer.length
        → list bus ss out ≡ unlisted ShortBuffer out
    pub none : (room : List ℕ) → AllBelow 4 ss → length ss ≤ length room → (list bus ss room).answer.length ≤ length out
        → list bus ss out ≡ listed (events_in (list bus ss room)) out

abbrev pub ListNumbers : Listing → Type 0
ListNumbers list = (bus : Bool) (ss out : List ℕ) → ListNumber list bus ss out

-- ---- these leave nothing open

pub record Reader (list : Listing) : Type 0 where
  pub pairs : LetterPairs list
  pub joins : LetterJoins list
  pub drops : BusDrops list
  pub numbers : ListNumbers list

abbrev pub ReaderPinned : Type 0
ReaderPinned = (list other : Listing) → Reader list → Reader other → (bus : Bool) (ss out : List ℕ) → list bus ss out ≡ other bus ss out
