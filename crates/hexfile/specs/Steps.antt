-- What the steps of `read` and `write` answer: a line to the cells that it is read into, a row of digits, a whole scan. Nothing that users call
-- rests on these alone.
-- Assumes nothing.
use Rattle.std.specs.Prelude.{ℕ, ◌+◌, ◌-◌, ◌*◌, ◌%◌, ◌<◌, ◌≤◌, ◌≡◌, Bool, true, false, ◌&&◌, cond, List, [], ◌∷◌, length, get_or, drop, eqb, ltb, Result, Ok, Err, MatchResult, OnOk}
use Rattle.parts.specs.declared.Refusal.{Refusal}
use Rattle.parts.specs.declared.Refusal.TheVariants.{BadRecord, BadSum, Misplaced, NoEnd}
use Rattle.hexfile.specs.declared.reading.Kind.{Kind}
use Rattle.hexfile.specs.declared.reading.Kind.TheVariants.{Data, End}
use Rattle.hexfile.specs.declared.reading.Fault.{Fault}
use Rattle.hexfile.specs.declared.reading.Fault.TheVariants.{Malformed, WrongSum, Lapping}
use Rattle.hexfile.specs.declared.reading.Head.{Head}
use Rattle.hexfile.specs.declared.reading.Row.{Row}
use Rattle.hexfile.specs.declared.reading.Line.{Line}
use Rattle.hexfile.specs.Record.{Record, malformed, bytes, last, pair_of, values_of, sum_of, bytes_of, record_of_lem}
use Rattle.hexfile.specs.File.{Got, gets, no, lines_of, free_of, fits_of, entered_of}

-- ---- a line

-- what a line is, or why it is refused
abbrev pub Found : Type 0
Found = Result Kind Fault

abbrev pub found_of : List ℕ → Record → Found
found_of cells malformed = Err Malformed
found_of cells (bytes a d right) = cond right (cond (fits_of cells a (length d)) (Ok Data) (Err Lapping)) (Err WrongSum)
found_of cells last = Ok End

-- the cells behind a line; what a refused one leaves in them is never looked at
abbrev pub taken_of : List ℕ → Record → List ℕ
taken_of cells malformed = cells
taken_of cells (bytes a d right) = entered_of cells a d
taken_of cells last = cells

abbrev pub is_taken : Found → Bool
is_taken (Ok Data) = true
is_taken (Ok End) = false
is_taken (Err e) = false

-- ---- the first four bytes of a record, and its data

-- a byte of two digits, or none
abbrev pub IsByte : ℕ → Result ℕ Fault → Type 0
IsByte x r = MatchResult r (λ v. (v ≡ x) × (x < 256)) (λ e. (e ≡ Malformed) × (256 ≤ x))

unfoldable pub all_four : ℕ → ℕ → ℕ → ℕ → Bool
all_four a b c d = cond (ltb a 256) (cond (ltb b 256) (cond (ltb c 256) (ltb d 256) false) false) false

abbrev pub head_of : ℕ → ℕ → ℕ → ℕ → Head
head_of count high low kind = record { count = count; place = 256 * high + low; kind = kind; sum = count + high + low + kind }

abbrev pub head_at : List ℕ → Head
head_at l =
    head_of (pair_of (get_or l 1 0) (get_or l 2 0)) (pair_of (get_or l 3 0) (get_or l 4 0)) (pair_of (get_or l 5 0) (get_or l 6 0)) (pair_of (get_or l 7 0) (get_or l 8 0))

-- whether the first four are bytes
unfoldable pub headed : List ℕ → Bool
headed l =
    all_four (pair_of (get_or l 1 0) (get_or l 2 0)) (pair_of (get_or l 3 0) (get_or l 4 0)) (pair_of (get_or l 5 0) (get_or l 6 0)) (pair_of (get_or l 7 0) (get_or l 8 0))

abbrev pub IsHead : List ℕ → Result Head Fault → Type 0
IsHead l r = MatchResult r (λ h. (h ≡ head_at l) × (headed l ≡ true) × (h.count ≤ 255) × (h.place ≤ 65535) × (h.sum ≤ 1020)) (λ e. (e ≡ Malformed) × (headed l ≡ false))

-- a row of digits entered into as many cells
pub record RowEntered (d before after : List ℕ) (r : Row) : Type 0 where
  pub good : bytes_of (values_of d) ≡ true
  pub sum : r.sum ≡ sum_of (values_of d)
  pub free : r.free ≡ free_of before
  pub cells : after ≡ values_of d
  pub most : r.sum ≤ 65536

abbrev pub Entered : List ℕ → List ℕ → List ℕ → Result Row Fault → Type 0
Entered d before after r = MatchResult r (RowEntered d before after) (λ e. (e ≡ Malformed) × (bytes_of (values_of d) ≡ false))

-- a data record whose other bytes add up to s
unfoldable pub data_found_of : List ℕ → ℕ → ℕ → List ℕ → Found
data_found_of cells a s v =
    cond (bytes_of v) (cond (eqb ((s + sum_of v) % 256) 0) (cond (fits_of cells a (length v)) (Ok Data) (Err Lapping)) (Err WrongSum)) (Err Malformed)

unfoldable pub row_found_of : Row → ℕ → Bool → Found
row_found_of r s inside = cond (eqb ((s + r.sum) % 256) 0) (cond (inside && r.free) (Ok Data) (Err Lapping)) (Err WrongSum)

unfoldable pub ends_of : Head → ℕ → Bool
ends_of h check = ((eqb h.count 0 && eqb h.place 0) && eqb h.kind 1) && eqb check 255

-- ---- lines of a text

-- the first LF from a place on, or the end
pub record LineEnd (t : List ℕ) (at e : ℕ) : Type 0 where
  pub from : at ≤ e
  pub within : e ≤ length t
  pub none : (k : ℕ) → at ≤ k → k < e → get_or t k 0 ≡ 10 → ⊥
  pub found : e < length t → get_or t e 0 ≡ 10

-- where the line stops: before a CR directly before its LF
unfoldable pub bare_of : List ℕ → ℕ → ℕ → ℕ
bare_of t at e = cond (ltb e (length t)) (cond (ltb at e) (cond (eqb (get_or t (e - 1) 0) 13) (e - 1) e) e) e

-- of the text's length
unfoldable pub next_of : ℕ → ℕ → ℕ
next_of n e = cond (ltb e n) (e + 1) e

-- one line of a text: what it is to the cells, and that the lines behind it are those of the text behind it
pub record Turned (t : List ℕ) (at : ℕ) (before after : List ℕ) (r : Line) : Type 0 where
  pub line : List ℕ
  pub lines : lines_of (drop at t) ≡ line ∷ lines_of (drop r.next t)
  pub found : r.found ≡ found_of before (record_of_lem line)
  pub cells : OnOk r.found (after ≡ taken_of before (record_of_lem line))
  pub from : at < r.next
  pub within : r.next ≤ length t

-- ---- a whole scan

-- how many data records there are, or the refusal
abbrev pub scan_of : Result ℕ Refusal → List ℕ → Got
scan_of (Ok k) cells = gets cells k
scan_of (Err r) cells = no r

-- a line that is no data, behind k others, and whether there is text behind it
abbrev pub judged_of : Found → ℕ → Bool → Result ℕ Refusal
judged_of (Err Malformed) k more = Err (BadRecord (k + 1))
judged_of (Err WrongSum) k more = Err (BadSum (k + 1))
judged_of (Err Lapping) k more = Err (Misplaced (k + 1))
judged_of (Ok Data) k more = Ok k
judged_of (Ok End) k more = cond more (Err (NoEnd (k + 2))) (Ok k)

-- ---- writing

-- the table of digits that a writer lends to its steps: `0` to `9`, `A` to `F`
unfoldable pub capitals : List ℕ
capitals = 48 ∷ 49 ∷ 50 ∷ 51 ∷ 52 ∷ 53 ∷ 54 ∷ 55 ∷ 56 ∷ 57 ∷ 65 ∷ 66 ∷ 67 ∷ 68 ∷ 69 ∷ 70 ∷ []
