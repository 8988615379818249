-- Document 02, §2: an array written as Intel HEX: "write an array out as records of 16 data bytes", "upper case and LF are written".
-- Assumes nothing.
use Rattle.std.specs.Prelude.{ℕ, zero, suc, ◌+◌, ◌-◌, ◌*◌, ◌/◌, ◌%◌, List, [], ◌∷◌, ◌++◌, length, take, drop}
use Rattle.text.specs.Digits.{hex_of}
use Rattle.hexfile.specs.Record.{sum_of, end_bytes}

abbrev pub digits_of : List ℕ → List ℕ
digits_of [] = []
digits_of (x ∷ xs) = hex_of x ++ digits_of xs

-- the sum of all bytes of a record is 0 modulo 256
unfoldable pub check_of : ℕ → ℕ
check_of sum = (256 - sum % 256) % 256

-- of a data record at an address: how many bytes, the address, type 00, the bytes
abbrev pub body_of : ℕ → List ℕ → List ℕ
body_of a d = length d ∷ a / 256 ∷ a % 256 ∷ 0 ∷ d

-- a line of these bytes: ':' and their digits and LF
abbrev pub line_of : List ℕ → List ℕ
line_of v = 58 ∷ (digits_of v ++ (10 ∷ []))

unfoldable pub row_of : ℕ → List ℕ → List ℕ
row_of a d = line_of (body_of a d ++ (check_of (sum_of (body_of a d)) ∷ []))

-- so many records of 16 bytes each, from an address on
abbrev pub rows_of : ℕ → ℕ → List ℕ → List ℕ
rows_of zero a m = []
rows_of (suc k) a m = row_of a (take 16 m) ++ rows_of k (a + 16) (drop 16 m)

-- of the array's size
unfoldable pub text_of : ℕ → List ℕ → List ℕ
text_of size m = rows_of (size / 16) 0 m ++ line_of end_bytes

-- 44 bytes a row of 16, and 12 at the end
unfoldable pub text_length_of : ℕ → ℕ
text_length_of size = size / 16 * 44 + 12
