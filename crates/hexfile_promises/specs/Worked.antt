-- Lines written out, and what they are: a row as objcopy writes it, the end record in either case, a record of no bytes where the array ends, a
-- wrong sum, an overlap.
-- Assumes nothing.
use Rattle.std.specs.Prelude.{ℕ, ◌≡◌, true, List, [], ◌∷◌, ◌++◌, replicate}
use Prim.Native.Char.{code}
use Prim.Native.String.{String, [] as []ˢ, ◌∷◌ as ◌∷ˢ◌}
use Rattle.parts.specs.declared.Refusal.TheVariants.{BadSum, Misplaced}
use Rattle.hexfile.specs.Record.{bytes, last, record_of_lem}
use Rattle.hexfile.specs.File.{gets, no, read_of}

abbrev pub letters : String → List ℕ
letters []ˢ = []
letters (x ∷ˢ xs) = code x ∷ letters xs

-- a line and its end
abbrev pub line : String → List ℕ
line s = letters s ++ (10 ∷ [])

-- of an array of 2,048 bytes
pub record WorkedLines : Type 0 where
  pub row : record_of_lem (letters ":10000000000102030405060708090A0B0C0D0E0F78") ≡ bytes 0 (0 ∷ 1 ∷ 2 ∷ 3 ∷ 4 ∷ 5 ∷ 6 ∷ 7 ∷ 8 ∷ 9 ∷ 10 ∷ 11 ∷ 12 ∷ 13 ∷ 14 ∷ 15 ∷ []) true
  pub end : record_of_lem (letters ":00000001FF") ≡ last
  pub small_end : record_of_lem (letters ":00000001ff") ≡ last
  pub none_at_the_end : read_of 2048 (line ":00080000F8" ++ line ":00000001FF") ≡ gets (replicate 2048 256) 1
  pub wrong_sum : read_of 2048 (line ":0100000055AB" ++ line ":00000001FF") ≡ no (BadSum 1)
  pub overlap : read_of 2048 (line ":0100000055AA" ++ line ":0100000055AA" ++ line ":00000001FF") ≡ no (Misplaced 2)
