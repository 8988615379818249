-- The promises of reading leave no choice: whoever keeps them answers and leaves the same, for every part, text and array: proofs/Pinned.antt.
-- Nor do those of writing, for every part, array of bytes and output buffer: proofs/Written.antt.
-- Assumes nothing.
use Rattle.std.specs.Prelude.{ℕ, ◌≡◌, List}
use Rattle.parts.specs.Bytes.{AllBelow}
use Rattle.hexfile_promises.specs.Promises.{Reading, Writing, AcceptsAll, AcceptsOnly, NamesEach, StopsFirst, WritesPlain, ReadKeeps, WriteKeeps}
use Rattle.hexfile_promises.specs.Numbers.{HexReadNumbers, HexWriteNumbers}

-- ---- reading

-- what is promised of reading alone
pub record HexReader (read : Reading) : Type 0 where
  pub accepts_all : AcceptsAll read
  pub accepts_only : AcceptsOnly read
  pub names_each : NamesEach read
  pub stops_first : StopsFirst read
  pub keeps : ReadKeeps read
  pub numbers : HexReadNumbers read

-- verdict, records, bytes named, and the array
abbrev pub HexPinned : Type 0
HexPinned = (read other : Reading) → HexReader read → HexReader other → (part : ℕ) (text array : List ℕ) → read part text array ≡ other part text array

-- ---- writing

-- what is promised of writing alone
pub record HexWriter (write : Writing) : Type 0 where
  pub plain : WritesPlain write
  pub keeps : WriteKeeps write
  pub numbers : HexWriteNumbers write

-- verdict, length, and the output buffer
abbrev pub HexWriterPinned : Type 0
HexWriterPinned =
    (write other : Writing) → HexWriter write → HexWriter other → (part : ℕ) (m out : List ℕ) → AllBelow 256 m → write part m out ≡ other part m out
