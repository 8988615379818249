-- What reading and writing Intel HEX leave for callers that hold bytes only: the number answered, the results, and each lent byte.
-- Assumes nothing.
use Rattle.std.specs.Prelude.{ℕ, List}
use Rattle.parts.specs.Refusals.{verdict_number_of, verdict_place_of}
use Rattle.hexfile.specs.Calls.{reading_of, writing_of}

pub record BytesAfterHexRead : Type 0 where
  pub number : ℕ
  pub line : ℕ
  pub records : ℕ
  pub named : ℕ
  pub array : List ℕ

-- of the part, the text and the array
abbrev pub hex_reading : ℕ → List ℕ → List ℕ → BytesAfterHexRead
hex_reading part text array =
    record {
      number = verdict_number_of (reading_of part text array).answer.verdict;
      line = verdict_place_of (reading_of part text array).answer.verdict;
      records = (reading_of part text array).answer.records;
      named = (reading_of part text array).answer.named;
      array = (reading_of part text array).array;
    }

pub record BytesAfterHexWrite : Type 0 where
  pub number : ℕ
  pub written : ℕ
  pub out : List ℕ

-- of the part, the array and the output buffer
abbrev pub hex_writing : ℕ → List ℕ → List ℕ → BytesAfterHexWrite
hex_writing part array out =
    record {
      number = verdict_number_of (writing_of part array out).answer.verdict;
      written = (writing_of part array out).answer.length;
      out = (writing_of part array out).out;
    }
