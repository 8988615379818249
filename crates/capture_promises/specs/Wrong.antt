-- Wrong readers of captures and wrong tallies, and the promise that each breaks: proofs/Wrong.antt.
-- Assumes nothing.
use Rattle.std.specs.Prelude.{ℕ, ◌+◌, ◌/◌, ◌%◌, ◌≡◌, Bool, true, false, cond, List, [], ◌∷◌, ◌++◌, length, eqb, ltb}
use Rattle.parts.specs.Bytes.{AllBelow, topped}
use Rattle.parts.specs.Refusals.{claim_of, sooner_of}
use Rattle.parts.specs.declared.Refusal.TheVariants.{ShortBuffer}
use Rattle.parts.specs.Verdict.{Verdict}
use Rattle.capture.specs.declared.Tally.{Tally}
use Rattle.capture.specs.Samples.{clock_in, data_in, events_from, events_of, judge_of}
use Rattle.capture.specs.Marks.{clocks_in}
use Rattle.capture.specs.Tallies.{tallies_of}
use Rattle.capture.specs.Calls.{listed_by, listed_out, listing_of}
use Rattle.capture_promises.specs.Machines.{Listing, Counting}
use Rattle.capture_promises.specs.Reading.{LetterPairs, LetterJoins, DrawnBack}
use Rattle.capture_promises.specs.Tallied.{count_of, TallyCounts, CountNumbers}

-- ---- one reading for both, whichever it is and whatever else it answers

abbrev pub OneReading : Listing → Type 0
OneReading list = (ss out : List ℕ) → list true ss out ≡ list false ss out

abbrev pub OneReadingBreaks : Type 0
OneReadingBreaks = (list : Listing) → OneReading list → LetterJoins list → DrawnBack list → ⊥

-- that by the letter reads a clock too many off a bus, and that of the bus looks further than a sample and the one before it
abbrev pub by_letter : Listing
by_letter bus ss out = listing_of false ss out

abbrev pub ByLetterBreaks : Type 0
ByLetterBreaks = DrawnBack by_letter → ⊥

abbrev pub by_bus : Listing
by_bus bus ss out = listing_of true ss out

abbrev pub ByBusBreaks : Type 0
ByBusBreaks = LetterJoins by_bus → ⊥

-- ---- readers that look at nothing

-- never finds an event
abbrev pub FindsNone : Listing → Type 0
FindsNone list = (bus : Bool) (ss out : List ℕ) → (list bus ss out).answer.length ≡ 0

abbrev pub FindsNoneBreaks : Type 0
FindsNoneBreaks = (list : Listing) → FindsNone list → DrawnBack list → ⊥

-- answers all samples alike
abbrev pub Blind : Listing → Type 0
Blind list = (bus : Bool) (ss other out : List ℕ) → list bus ss out ≡ list bus other out

abbrev pub BlindBreaks : Type 0
BlindBreaks = (list : Listing) → Blind list → DrawnBack list → ⊥

-- ---- readers like ours but for the events that they make

abbrev verdict_by : List ℕ → List ℕ → ℕ → Verdict
verdict_by es ss room = sooner_of (judge_of ss) (claim_of (ltb room (length es)) ShortBuffer)

abbrev pub listing_by : (Bool → List ℕ → List ℕ) → Listing
listing_by events bus ss out =
    record {
      answer = listed_by (events bus ss) (verdict_by (events bus ss) ss (length out));
      out = listed_out (events bus ss) out (verdict_by (events bus ss) ss (length out));
    }

-- ours is one of them
abbrev pub ListingIsOurs : Type 0
ListingIsOurs = (bus : Bool) (ss out : List ℕ) → listing_by events_of bus ss out ≡ listing_of bus ss out

-- makes an event of the first sample: supposes one before it, whichever it is
abbrev pub supposing : ℕ → Listing
supposing before = listing_by (λ bus ss. events_from bus before ss)

abbrev pub SupposingBreaks : Type 0
SupposingBreaks = (before : ℕ) → LetterPairs (supposing before) → ⊥

-- what each two samples make, by the letter
abbrev pub pairwise : (ℕ → ℕ → List ℕ) → List ℕ → List ℕ
pairwise make [] = []
pairwise make (a ∷ []) = []
pairwise make (a ∷ b ∷ ss) = make a b ++ pairwise make (b ∷ ss)

-- a clock has the level that data had before it rose
abbrev old_level : ℕ → ℕ → List ℕ
old_level a b =
    cond (eqb (clock_in b) 0) []
    (cond (eqb (clock_in a) 0) (data_in a ∷ [])
    (cond (eqb (data_in a) (data_in b)) [] (cond (eqb (data_in b) 0) (2 ∷ []) (3 ∷ []))))

abbrev pub OldLevelBreaks : Type 0
OldLevelBreaks = LetterPairs (listing_by (λ bus ss. pairwise old_level ss)) → ⊥

-- where both lines change at once both rules hold: data that change while the clock rises make a Start or Stop
abbrev both_rules : ℕ → ℕ → List ℕ
both_rules a b =
    cond (eqb (clock_in b) 0) []
    (cond (eqb (clock_in a) 0) (data_in b ∷ []) []
    ++ cond (eqb (data_in a) (data_in b)) [] (cond (eqb (data_in b) 0) (2 ∷ []) (3 ∷ [])))

abbrev pub BothRulesBreaks : Type 0
BothRulesBreaks = LetterPairs (listing_by (λ bus ss. pairwise both_rules ss)) → ⊥

pub record WrongReaders : Type 0 where
  pub one_reading : OneReadingBreaks
  pub by_letter : ByLetterBreaks
  pub by_bus : ByBusBreaks
  pub finds_none : FindsNoneBreaks
  pub blind : BlindBreaks
  pub like_ours : ListingIsOurs
  pub first_sample : SupposingBreaks
  pub old_level : OldLevelBreaks
  pub both_rules : BothRulesBreaks

-- ---- tallies, each with one fault, whatever else it counts

-- stands still
abbrev pub StandsStill : Counting → Type 0
StandsStill count = (t : Tally) (bus : Bool) (ss : List ℕ) → (count t bus ss).tally ≡ t

abbrev pub StandsStillBreaks : Type 0
StandsStillBreaks = (count : Counting) → StandsStill count → TallyCounts count → ⊥

-- forgets what it was lent
abbrev pub Forgets : Counting → Type 0
Forgets count = (t other : Tally) (bus : Bool) (ss : List ℕ) → (count t bus ss).tally ≡ (count other bus ss).tally

abbrev pub ForgetsBreaks : Type 0
ForgetsBreaks = (count : Counting) → Forgets count → TallyCounts count → ⊥

-- wraps at 32 bits
abbrev pub Wraps : Counting → Type 0
Wraps count =
    (t : Tally) (bus : Bool) (ss : List ℕ) → AllBelow 4 ss → (count t bus ss).tally.starts ≡ (t.starts + count_of 2 (events_of bus ss)) % 4294967296

abbrev pub WrapsBreaks : Type 0
WrapsBreaks = (count : Counting) → Wraps count → TallyCounts count → ⊥

-- counts a byte at each Stop
abbrev pub BytesAtStops : Counting → Type 0
BytesAtStops count =
    (t : Tally) (bus : Bool) (ss : List ℕ) → AllBelow 4 ss → (count t bus ss).tally.bytes ≡ topped (t.bytes + count_of 3 (events_of bus ss))

abbrev pub BytesAtStopsBreaks : Type 0
BytesAtStopsBreaks = (count : Counting) → BytesAtStops count → TallyCounts count → ⊥

-- counts any nine clocks as a byte, a Start or Stop between them or not
abbrev pub AnyNine : Counting → Type 0
AnyNine count = (t : Tally) (bus : Bool) (ss : List ℕ) → AllBelow 4 ss → (count t bus ss).tally.bytes ≡ topped (t.bytes + clocks_in (events_of bus ss) / 9)

abbrev pub AnyNineBreaks : Type 0
AnyNineBreaks = (count : Counting) → AnyNine count → TallyCounts count → ⊥

-- counts a capture that it refuses
abbrev pub CountsRefused : Counting → Type 0
CountsRefused count = (t : Tally) (bus : Bool) (ss : List ℕ) → (count t bus ss).tally ≡ tallies_of t 0 (events_of bus ss)

abbrev pub CountsRefusedBreaks : Type 0
CountsRefusedBreaks = (count : Counting) → CountsRefused count → CountNumbers count → ⊥

pub record WrongTallies : Type 0 where
  pub stands_still : StandsStillBreaks
  pub forgets : ForgetsBreaks
  pub wraps : WrapsBreaks
  pub bytes_at_stops : BytesAtStopsBreaks
  pub any_nine : AnyNineBreaks
  pub counts_refused : CountsRefusedBreaks
