-- Which refusal a read and a write of Intel HEX give before a record is looked at, by plain conditions, each with all earlier ones excluded
-- (document 01, 'Refusal numbers': 1, 3 and 6), and none where none applies. Said of any functions of the form.
-- Assumes nothing.
use Rattle.std.specs.Prelude.{ℕ, ◌<◌, ◌≤◌, ◌≡◌, List, length, Ok, Err}
use Rattle.parts.specs.declared.Refusal.TheVariants.{NoPart, WrongBuffer, ShortBuffer}
use Rattle.parts.specs.Verdict.{Verdict}
use Rattle.hexfile.specs.Written.{text_length_of}
use Rattle.hexfile_promises.specs.Promises.{Reading, Writing, size_of, Lent}

-- ---- reading: 1 3, then 16 to 19 (`StopsFirst`)

module _ (read : Reading) (part : ℕ) (text array : List ℕ) where
  abbrev pub hex_read_verdict : Verdict
  hex_read_verdict = (read part text array).answer.verdict

  pub record HexReadNumber : Type 0 where
    pub no_part : 5 < part → hex_read_verdict ≡ Err NoPart
    pub wrong_buffer : part ≤ 5 → (length array ≡ size_of part → ⊥) → hex_read_verdict ≡ Err WrongBuffer

abbrev pub HexReadNumbers : Reading → Type 0
HexReadNumbers read = (part : ℕ) (text array : List ℕ) → HexReadNumber read part text array

-- ---- writing: 1 3 6

module _ (write : Writing) (part : ℕ) (m out : List ℕ) where
  abbrev pub hex_write_verdict : Verdict
  hex_write_verdict = (write part m out).answer.verdict

  pub record HexWriteNumber : Type 0 where
    pub no_part : 5 < part → hex_write_verdict ≡ Err NoPart
    pub wrong_buffer : part ≤ 5 → (length m ≡ size_of part → ⊥) → hex_write_verdict ≡ Err WrongBuffer
    pub short_buffer : Lent part m → length out < text_length_of (size_of part) → hex_write_verdict ≡ Err ShortBuffer
    pub none : Lent part m → text_length_of (size_of part) ≤ length out → hex_write_verdict ≡ Ok tt

abbrev pub HexWriteNumbers : Writing → Type 0
HexWriteNumbers write = (part : ℕ) (m out : List ℕ) → HexWriteNumber write part m out
