-- Document 02, §2: one record of an Intel HEX file: ':' and, two digits a byte, how many data bytes, the address high and low, the type, the
-- data bytes, and a last byte that makes the sum of all of them 0 modulo 256.
-- Assumes nothing.
use Rattle.std.specs.Prelude.{ℕ, ◌+◌, ◌*◌, ◌%◌, Bool, true, false, cond, List, [], ◌∷◌, length, get_or, take, drop, eqb, leb, ltb}
use Rattle.parts.specs.Bytes.{same_of}
use Rattle.text.specs.Digits.{value_of}

-- ---- digits: "Either case of hex"

-- two digits as a byte; 256 where one of them is none
unfoldable pub pair_at : ℕ → ℕ → ℕ
pair_at x y = cond (ltb x 16) (cond (ltb y 16) (16 * x + y) 256) 256

unfoldable pub pair_of : ℕ → ℕ → ℕ
pair_of a b = pair_at (value_of a) (value_of b)

-- the bytes of a row of digits, two by two; 256 where there are no two digits, and for an odd one at the end
abbrev pub values_of : List ℕ → List ℕ
values_of [] = []
values_of (a ∷ []) = 256 ∷ []
values_of (a ∷ b ∷ l) = pair_of a b ∷ values_of l

abbrev pub sum_of : List ℕ → ℕ
sum_of [] = 0
sum_of (x ∷ xs) = x + sum_of xs

-- every number is a byte
abbrev pub bytes_of : List ℕ → Bool
bytes_of [] = true
bytes_of (x ∷ xs) = cond (ltb x 256) (bytes_of xs) false

-- ---- a record

pub data Record : Type 0 where
  malformed : Record
  -- a data record: its address, its bytes, and whether its sum is right
  bytes : ℕ → List ℕ → Bool → Record
  -- the end record
  last : Record

-- five bytes and as many as the first one says
unfoldable pub formed_of : List ℕ → Bool
formed_of v = cond (bytes_of v) (cond (leb 5 (length v)) (eqb (get_or v 0 0 + 5) (length v)) false) false

-- "the end record is `:00000001FF`"
abbrev pub end_bytes : List ℕ
end_bytes = 0 ∷ 0 ∷ 0 ∷ 1 ∷ 255 ∷ []

-- "any other type or type 01 record 16"
unfoldable pub typed_of : List ℕ → Record
typed_of v =
    cond (eqb (get_or v 3 0) 0) (bytes (256 * get_or v 1 0 + get_or v 2 0) (take (get_or v 0 0) (drop 4 v)) (eqb (sum_of v % 256) 0))
    (cond (same_of v end_bytes) last malformed)

unfoldable pub record_in : List ℕ → Record
record_in v = cond (formed_of v) (typed_of v) malformed

-- the record of a line without its end: 58 is ':'
abbrev pub record_of_lem : List ℕ → Record
record_of_lem [] = malformed
record_of_lem (c ∷ l) = cond (eqb c 58) (record_in (values_of l)) malformed
