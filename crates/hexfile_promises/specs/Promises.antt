-- What is promised of reading and writing Intel HEX (document 02, §2), over any reader and any writer. `reading_of` and `writing_of`, which the
-- contracts of `hexfile::read` and `hexfile::write` cite, keep it: proofs/Kept.antt.
-- Assumes nothing.
use Rattle.std.specs.Prelude.{ℕ, zero, suc, ◌+◌, ◌*◌, ◌/◌, ◌≤◌, ◌≡◌, ◌⊎◌, List, [], ◌∷◌, ◌++◌, length, take, drop, Ok, Err}
use Rattle.parts.specs.declared.Refusal.{Refusal}
use Rattle.parts.specs.Bytes.{AllBelow}
use Rattle.parts.specs.Table.{facts_of}
use Rattle.hexfile.specs.Calls.{AfterRead, AfterWrite}
use Rattle.hexfile.specs.Written.{text_length_of}
use Rattle.hexfile_promises.specs.Files.{Each, Piece, IsFile, Placed, NamedBy, bytes_in, Stops}

-- any function from the part, the text and the array
abbrev pub Reading : Type 0
Reading = ℕ → List ℕ → List ℕ → AfterRead

-- any function from the part, the array and the output buffer
abbrev pub Writing : Type 0
Writing = ℕ → List ℕ → List ℕ → AfterWrite

abbrev pub size_of : ℕ → ℕ
size_of part = (facts_of part).size

-- a part, and an array of its length
pub record Lent (part : ℕ) (array : List ℕ) : Type 0 where
  pub known : part ≤ 5
  pub long : length array ≡ size_of part

-- the bytes that were written
abbrev pub text_in_lem : AfterWrite → List ℕ
text_in_lem w = take w.answer.length w.out

-- ---- "Reading what we wrote gives the array back"

-- of every part and every array of bytes, whatever the buffers held
abbrev pub GivesBack : Reading → Writing → Type 0
GivesBack read write =
    (part : ℕ) (m old out : List ℕ) → Lent part m → AllBelow 256 m → Lent part old → text_length_of (size_of part) ≤ length out
    → ((write part m out).answer.verdict ≡ Ok tt)
    × (read part (text_in_lem (write part m out)) old ≡ record { answer = record { verdict = Ok tt; records = size_of part / 16; named = size_of part }; array = m })

-- what a text is read as is written, and read as the same again: the text written is the normal form of all texts of an array
abbrev pub Settles : Reading → Writing → Type 0
Settles read write =
    (part : ℕ) (text old other out : List ℕ) → (read part text old).answer.verdict ≡ Ok tt → Lent part other → text_length_of (size_of part) ≤ length out
    → ((write part (read part text old).array out).answer.verdict ≡ Ok tt)
    × ((read part (text_in_lem (write part (read part text old).array out)) other).answer.verdict ≡ Ok tt)
    × ((read part (text_in_lem (write part (read part text old).array out)) other).array ≡ (read part text old).array)

-- ---- "Read data and end records (types 00 and 01) into an array buffer"

-- all files are read whose records have their places, as what these name
abbrev pub AcceptsAll : Reading → Type 0
AcceptsAll read =
    (part : ℕ) (text array : List ℕ) (ps : List Piece) → Lent part array → IsFile text ps → Placed (size_of part) ps
    → (read part text array).answer ≡ record { verdict = Ok tt; records = length ps; named = bytes_in ps }

pub record Read (part : ℕ) (text array : List ℕ) : Type 0 where
  pub lent : Lent part array
  pub records : List Piece
  pub file : IsFile text records
  pub placed : Placed (size_of part) records

-- and only such
abbrev pub AcceptsOnly : Reading → Type 0
AcceptsOnly read = (part : ℕ) (text array : List ℕ) → (read part text array).answer.verdict ≡ Ok tt → Read part text array

-- "bytes not named are FFh": a byte is that of the one record that names it
abbrev pub NamesEach : Reading → Type 0
NamesEach read =
    (part : ℕ) (text array : List ℕ) (ps : List Piece) → (read part text array).answer.verdict ≡ Ok tt → IsFile text ps
    → NamedBy (size_of part) ps (read part text array).array

-- a text is a file in one way
abbrev pub ReadsOneWay : Type 0
ReadsOneWay = (text : List ℕ) (ps qs : List Piece) → IsFile text ps → IsFile text qs → ps ≡ qs

-- ---- "the earliest record decides, within it the lowest number"

pub record StopsFirst (read : Reading) : Type 0 where
  pub stops : (part : ℕ) (text array : List ℕ) (r : Refusal) → Lent part array → (read part text array).answer.verdict ≡ Err r → Stops (size_of part) text r
  pub first : (part : ℕ) (text array : List ℕ) (r : Refusal) → Lent part array → Stops (size_of part) text r → (read part text array).answer.verdict ≡ Err r

-- ---- "write an array out as records of 16 data bytes", "upper case and LF are written"

-- LF, ':', `0` to `9`, `A` to `F`
abbrev pub Plain : ℕ → Type 0
Plain x = (x ≡ 10) ⊎ ((x ≡ 58) ⊎ (((48 ≤ x) × (x ≤ 57)) ⊎ ((65 ≤ x) × (x ≤ 70))))

-- so many records of 16 bytes, one behind the other
abbrev pub rows_in : ℕ → ℕ → List ℕ → List Piece
rows_in zero a m = []
rows_in (suc k) a m = record { at = a; bytes = take 16 m } ∷ rows_in k (a + 16) (drop 16 m)

pub record Text (part : ℕ) (m t : List ℕ) : Type 0 where
  pub file : IsFile t (rows_in (size_of part / 16) 0 m)
  pub plain : Each Plain t
  pub long : length t ≡ size_of part / 16 * 44 + 12

-- the text, its length, and behind it the bytes that were there
abbrev pub WritesPlain : Writing → Type 0
WritesPlain write =
    (part : ℕ) (m out : List ℕ) → AllBelow 256 m → (write part m out).answer.verdict ≡ Ok tt
    → Text part m (text_in_lem (write part m out))
    × ((write part m out).answer.length ≡ length (text_in_lem (write part m out)))
    × ((write part m out).out ≡ text_in_lem (write part m out) ++ drop (write part m out).answer.length out)

-- ---- a refused call changes nothing

abbrev pub ReadKeeps : Reading → Type 0
ReadKeeps read =
    (part : ℕ) (text array : List ℕ) (r : Refusal) → (read part text array).answer.verdict ≡ Err r
    → read part text array ≡ record { answer = record { verdict = Err r; records = 0; named = 0 }; array = array }

abbrev pub WriteKeeps : Writing → Type 0
WriteKeeps write =
    (part : ℕ) (m out : List ℕ) (r : Refusal) → (write part m out).answer.verdict ≡ Err r
    → write part m out ≡ record { answer = record { verdict = Err r; length = 0 }; out = out }

pub record RefusedKeeps (read : Reading) (write : Writing) : Type 0 where
  pub reading : ReadKeeps read
  pub writing : WriteKeeps write
