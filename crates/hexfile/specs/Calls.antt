-- What `read` and `write` answer and leave, for refused input too (document 02, §2, and document 01, 'Refusal numbers').
-- Assumes nothing.
use Rattle.std.specs.Prelude.{ℕ, List, ◌++◌, length, drop, ltb, Ok, Err}
use Rattle.parts.specs.declared.Facts.{Facts}
use Rattle.parts.specs.declared.Refusal.{Refusal}
use Rattle.parts.specs.declared.Refusal.TheVariants.{ShortBuffer}
use Rattle.parts.specs.Verdict.{Verdict}
use Rattle.parts.specs.Table.{facts_of, id_size_of}
use Rattle.parts.specs.Refusals.{claim_of, sooner_of, lent_verdict_of}
use Rattle.hexfile.specs.declared.HexRead.{HexRead}
use Rattle.hexfile.specs.declared.HexWritten.{HexWritten}
use Rattle.hexfile.specs.File.{Got, gets, no, read_of, filled_of, named_of}
use Rattle.hexfile.specs.Written.{text_of, text_length_of}

-- 1 and 3 of the array alone: a HEX file says nothing of the identification page
unfoldable pub array_verdict_of : Facts → ℕ → Verdict
array_verdict_of f n = lent_verdict_of f n (id_size_of f)

-- ---- reading: 1, 3, then 16 to 19

pub record AfterRead : Type 0 where
  pub answer : HexRead
  pub array : List ℕ

abbrev pub refused_hex : Refusal → HexRead
refused_hex r = record { verdict = Err r; records = 0; named = 0 }

abbrev pub refused_read : Refusal → List ℕ → AfterRead
refused_read r array = record { answer = refused_hex r; array = array }

abbrev pub got_of : Got → List ℕ → AfterRead
got_of (gets cells k) array = record { answer = record { verdict = Ok tt; records = k; named = named_of cells }; array = filled_of cells }
got_of (no r) array = refused_read r array

abbrev pub read_by : Verdict → Facts → List ℕ → List ℕ → AfterRead
read_by (Ok _) f text array = got_of (read_of f.size text) array
read_by (Err r) f text array = refused_read r array

-- of the part, the text and the array
abbrev pub reading_of : ℕ → List ℕ → List ℕ → AfterRead
reading_of part text array = read_by (array_verdict_of (facts_of part) (length array)) (facts_of part) text array

-- ---- writing: 1, 3, 6

pub record AfterWrite : Type 0 where
  pub answer : HexWritten
  pub out : List ℕ

unfoldable pub write_verdict_of : Facts → ℕ → ℕ → Verdict
write_verdict_of f n room = sooner_of (array_verdict_of f n) (claim_of (ltb room (text_length_of f.size)) ShortBuffer)

-- bytes past the text keep their values
abbrev pub write_by : Verdict → Facts → List ℕ → List ℕ → AfterWrite
write_by (Ok _) f array out =
    record { answer = record { verdict = Ok tt; length = text_length_of f.size }; out = text_of f.size array ++ drop (text_length_of f.size) out }
write_by (Err r) f array out = record { answer = record { verdict = Err r; length = 0 }; out = out }

-- of the part, the array and the output buffer
abbrev pub writing_of : ℕ → List ℕ → List ℕ → AfterWrite
writing_of part array out = write_by (write_verdict_of (facts_of part) (length array) (length out)) (facts_of part) array out
