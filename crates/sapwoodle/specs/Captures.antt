-- What the calls on captures leave for callers that hold bytes only: the number answered, the results, and each lent byte.
-- Assumes nothing.
use Rattle.std.specs.Prelude.{ℕ, Bool, not, List, eqb}
use Rattle.parts.specs.Refusals.{verdict_number_of, verdict_place_of}
use Rattle.chip.specs.Memory.{Mem}
use Rattle.capture.specs.declared.Mark.{Mark}
use Rattle.capture.specs.declared.Mark.TheVariants.{Same, At}
use Rattle.capture.specs.declared.Tally.{Tally}
use Rattle.capture.specs.Samples.{judge_of}
use Rattle.capture.specs.Tallies.{tally, counted_of}
use Rattle.capture.specs.Calls.{SeenLeft, seeing_of, listing_of}
use Rattle.pack_chip.specs.Layout.{unpacked_chip_of}
use Rattle.sapwoodle.specs.Answers.{chip_bytes_after}

-- 0 by the letter, any other number as on a bus
abbrev pub bus_of : ℕ → Bool
bus_of n = not (eqb n 0)

-- 2 where no level differs, and sample and clock 0
abbrev pub level_in : Mark → ℕ
level_in Same = 2
level_in (At s n v) = v

abbrev pub sample_in : Mark → ℕ
sample_in Same = 0
sample_in (At s n v) = s

abbrev pub clock_in : Mark → ℕ
clock_in Same = 0
clock_in (At s n v) = n

pub record BytesAfterCapture : Type 0 where
  pub number : ℕ
  pub events : ℕ
  pub clocks : ℕ
  pub ends : ℕ
  pub cycles : ℕ
  pub level : ℕ
  pub sample : ℕ
  pub clock : ℕ
  pub place : ℕ
  pub state : List ℕ
  pub stored : Mem

abbrev pub captured_bytes : List ℕ → SeenLeft → BytesAfterCapture
captured_bytes s left =
    record {
      number = verdict_number_of left.answer.verdict;
      events = left.answer.events;
      clocks = left.answer.clocks;
      ends = left.answer.ends;
      cycles = left.answer.cycles;
      level = level_in left.answer.mark;
      sample = sample_in left.answer.mark;
      clock = clock_in left.answer.mark;
      place = verdict_place_of left.answer.verdict;
      state = chip_bytes_after left.answer.verdict left.answer.chip s;
      stored = left.mem;
    }

-- of the part, the enable, the state's bytes, what is stored, the reading and the samples
abbrev pub capturing : ℕ → ℕ → List ℕ → Mem → Bool → List ℕ → BytesAfterCapture
capturing part enable s m bus ss = captured_bytes s (seeing_of part enable (unpacked_chip_of s) m bus ss)

pub record BytesAfterEvents : Type 0 where
  pub number : ℕ
  pub length : ℕ
  pub place : ℕ
  pub out : List ℕ

-- of the reading, the samples and the output buffer
abbrev pub listing : Bool → List ℕ → List ℕ → BytesAfterEvents
listing bus ss out =
    record {
      number = verdict_number_of (listing_of bus ss out).answer.verdict;
      length = (listing_of bus ss out).answer.length;
      place = verdict_place_of (listing_of bus ss out).answer.verdict;
      out = (listing_of bus ss out).out;
    }

pub record BytesAfterTally : Type 0 where
  pub number : ℕ
  pub place : ℕ
  pub tally : Tally

-- of the reading, the samples and the four counts
abbrev pub tallying : Bool → List ℕ → ℕ → ℕ → ℕ → ℕ → BytesAfterTally
tallying bus ss starts stops bytes unacknowledged =
    record {
      number = verdict_number_of (judge_of ss);
      place = verdict_place_of (judge_of ss);
      tally = counted_of (tally starts stops bytes unacknowledged) bus ss;
    }
