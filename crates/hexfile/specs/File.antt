-- Document 02, §2: a text read as an Intel HEX file, line by line.
-- Assumes nothing.
use Rattle.std.specs.Prelude.{ℕ, suc, ◌+◌, Bool, true, false, cond, List, [], ◌∷◌, ◌++◌, length, get_or, take, drop, replicate, eqb, leb, ltb}
use Rattle.parts.specs.declared.Refusal.{Refusal}
use Rattle.parts.specs.declared.Refusal.TheVariants.{BadRecord, BadSum, Misplaced, NoEnd}
use Rattle.hexfile.specs.Record.{Record, malformed, bytes, last, record_of_lem}

-- ---- lines: "LF or CR LF are read, the last line end may be missing"

-- a CR (13) directly before an LF (10) belongs to the line's end
abbrev pub before_lf : ℕ → List ℕ → Bool
before_lf x t = cond (eqb x 13) (eqb (get_or t 0 0) 10) false

abbrev pub join_of : ℕ → List (List ℕ) → List (List ℕ)
join_of x [] = (x ∷ []) ∷ []
join_of x (l ∷ ls) = (x ∷ l) ∷ ls

-- the lines of a text, each without its end; there is none behind the last line end
abbrev pub lines_of : List ℕ → List (List ℕ)
lines_of [] = []
lines_of (x ∷ t) = cond (eqb x 10) ([] ∷ lines_of t) (cond (before_lf x t) (lines_of t) (join_of x (lines_of t)))

-- ---- cells: one for each byte of the array, 256 while no record has named it

abbrev pub free_of : List ℕ → Bool
free_of [] = true
free_of (x ∷ xs) = cond (ltb x 256) false (free_of xs)

-- refusal 18 does not apply: n bytes from a on lie in the array, and none of them is named
unfoldable pub fits_of : List ℕ → ℕ → ℕ → Bool
fits_of cells a n = cond (leb (a + n) (length cells)) (free_of (take n (drop a cells))) false

unfoldable pub entered_of : List ℕ → ℕ → List ℕ → List ℕ
entered_of cells a d = take a cells ++ d ++ drop (a + length d) cells

-- ---- reading: "the earliest record decides, within it the lowest number"

pub data Got : Type 0 where
  -- the cells, and how many data records there were
  gets : List ℕ → ℕ → Got
  no : Refusal → Got

-- one record: of what the lines behind it give, whether there are any, the cells, and how many lines stand before it
abbrev pub turn_of : (List ℕ → Got) → Bool → List ℕ → ℕ → Record → Got
turn_of on more cells k malformed = no (BadRecord (suc k))
turn_of on more cells k (bytes a d right) =
    cond right (cond (fits_of cells a (length d)) (on (entered_of cells a d)) (no (Misplaced (suc k)))) (no (BadSum (suc k)))
turn_of on more cells k last = cond more (no (NoEnd (suc (suc k)))) (gets cells k)

abbrev pub some_of : List (List ℕ) → Bool
some_of [] = false
some_of (l ∷ ls) = true

-- of the cells, and the lines behind the first k
abbrev pub read_at : List ℕ → ℕ → List (List ℕ) → Got
read_at cells k [] = no (NoEnd (suc k))
read_at cells k (l ∷ ls) = turn_of (λ now. read_at now (suc k) ls) (some_of ls) cells k (record_of_lem l)

-- of the array's size and a text
unfoldable pub read_of : ℕ → List ℕ → Got
read_of size t = read_at (replicate size 256) 0 (lines_of t)

-- ---- the array: "bytes not named are FFh"

abbrev pub blank_of : ℕ → ℕ
blank_of x = cond (ltb x 256) x 255

abbrev pub filled_of : List ℕ → List ℕ
filled_of [] = []
filled_of (x ∷ xs) = blank_of x ∷ filled_of xs

-- how many bytes are named
abbrev pub named_of : List ℕ → ℕ
named_of [] = 0
named_of (x ∷ xs) = cond (ltb x 256) 1 0 + named_of xs
