-- Any reader of captures, any run over one, any tally: what the promises speak of. Ours are `listing_of`, `seeing_of` and `counting_of`.
-- Assumes nothing.
use Rattle.std.specs.Prelude.{ℕ, Bool, List, ◌++◌, length, take, drop, Ok, Err}
use Rattle.parts.specs.Verdict.{Verdict}
use Rattle.parts.specs.declared.Refusal.{Refusal}
use Rattle.capture.specs.declared.Mark.TheVariants.{Same}
use Rattle.state.specs.declared.Chip.{Chip}
use Rattle.chip.specs.Memory.{Mem}
use Rattle.capture.specs.declared.Tally.{Tally}
use Rattle.capture.specs.Samples.{judge_of}
use Rattle.capture.specs.Tallies.{counted_of}
use Rattle.capture.specs.Calls.{SeenLeft, ListLeft}

-- any function from the reading, the samples and the output buffer
abbrev pub Listing : Type 0
Listing = Bool → List ℕ → List ℕ → ListLeft

-- any function from part, enable, chip, the two lent buffers, the reading and the samples
abbrev pub Seeing : Type 0
Seeing = ℕ → ℕ → Chip → Mem → Bool → List ℕ → SeenLeft

pub record CountLeft : Type 0 where
  pub verdict : Verdict
  pub tally : Tally

-- any function from the lent tally, the reading and the samples
abbrev pub Counting : Type 0
Counting = Tally → Bool → List ℕ → CountLeft

abbrev pub counting_of : Counting
counting_of t bus ss = record { verdict = judge_of ss; tally = counted_of t bus ss }

-- the events that were answered, and the answer that these events are
abbrev pub events_in : ListLeft → List ℕ
events_in a = take a.answer.length a.out

abbrev pub listed : List ℕ → List ℕ → ListLeft
listed es out = record { answer = record { verdict = Ok tt; length = length es }; out = es ++ drop (length es) out }

-- a refused call changes nothing
abbrev pub unlisted : Refusal → List ℕ → ListLeft
unlisted r out = record { answer = record { verdict = Err r; length = 0 }; out = out }

abbrev pub unseen : Refusal → Chip → Mem → SeenLeft
unseen r c m =
    record { answer = record { verdict = Err r; events = 0; clocks = 0; ends = 0; cycles = 0; mark = Same; chip = c }; mem = m }
