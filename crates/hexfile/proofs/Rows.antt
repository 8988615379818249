-- The data of a record: a row of digits that was entered, and what it is to the cells.
-- Assumes nothing.
use mathlib.Core.Path.{◌≡◌, refl, sym, ap, ◌∙◌}
use mathlib.Core.Bool.{Bool, true, false, cond, ◌&&◌}
use Rattle.std.specs.Prelude.{Ok, Err, OnOk}
use mathlib.Core.List.{List, [], ◌++◌, append_assoc}
use Prim.Native.Nat.{ℕ, ◌+◌, ◌*◌, ◌%◌, ◌≤◌, ◌<◌}
use native.Mathlib.Omega.{arith}
use lib.ListN.{length, take, drop}
use lib.Dec.{eqb}
use lib.Seq.{drop-drop}
use borrow.Author.Tests.{le-leb, lt-leb}
use Rattle.parts.proofs.Laws.{branch}
use Rattle.parts.proofs.Tests.{either}
use Rattle.hexfile.specs.declared.reading.Kind.TheVariants.{Data}
use Rattle.hexfile.specs.declared.reading.Fault.TheVariants.{Malformed, WrongSum, Lapping}
use Rattle.hexfile.specs.declared.reading.Row.{Row}
use Rattle.hexfile.specs.Record.{values_of, sum_of, bytes_of}
use Rattle.hexfile.specs.File.{free_of, fits_of, entered_of}
use Rattle.hexfile.specs.Steps.{Found, RowEntered, data_found_of, row_found_of}
use Rattle.hexfile.proofs.Values.{length-values}

and_cond : (a b : Bool) → (a && b) ≡ cond a b false
and_cond true b = refl
and_cond false b = refl

on_ok : (r : Found) (P : Type 0) → P → OnOk r P
on_ok (Ok k) P e = e
on_ok (Err e) P p = tt

-- a row of digits that are no bytes
pub bad_found : (cells : List ℕ) (a s : ℕ) (v : List ℕ) → bytes_of v ≡ false → Err Malformed ≡ data_found_of cells a s v
unfolding data_found_of
bad_found cells a s v h = rw h refl

module _ (d before after : List ℕ) (row : Row) (E : RowEntered d before after row) (s : ℕ) (inside : Bool) where
  pub row_data : (cells : List ℕ) (a : ℕ) → fits_of cells a (length (values_of d)) ≡ cond inside row.free false → row_found_of row s inside ≡ data_found_of cells a s (values_of d)
  unfolding row_found_of data_found_of
  row_data cells a f = rw (E.good, f, E.sum, and_cond inside row.free) refl

module _ (cells : List ℕ) (a n : ℕ) where
  fits_inside : a + n ≤ length cells → fits_of cells a n ≡ free_of (take n (drop a cells))
  unfolding fits_of
  fits_inside h = rw (le-leb (a + n) (length cells) h)

  pub fits_beyond : length cells < a + n → fits_of cells a n ≡ false
  unfolding fits_of
  fits_beyond h = rw (lt-leb (a + n) (length cells) h)

-- ---- inside the array

module _ (cells d after : List ℕ) (a n k s : ℕ) (row : Row) (r : Found) (E : RowEntered d (take k (drop a cells)) after row) (hk : k ≡ n)
    (len : length d ≡ 2 * n) (fit : a + n ≤ length cells) (hr : r ≡ row_found_of row s true) where
  long : length (values_of d) ≡ n
  long = omega (arith, length-values d)

  pub inside_found : r ≡ data_found_of cells a s (values_of d)
  inside_found =
      hr ∙ row_data d (take k (drop a cells)) after row E s true cells a (rw (long, ← hk) (fits_inside cells a k (omega arith) ∙ sym E.free))

  pub inside_left : OnOk r (take a cells ++ (after ++ drop k (drop a cells)) ≡ entered_of cells a (values_of d))
  unfolding entered_of
  inside_left =
      on_ok r (take a cells ++ (after ++ drop k (drop a cells)) ≡ take a cells ++ values_of d ++ drop (a + length (values_of d)) cells)
      (rw (E.cells, long, ← hk, drop-drop k a cells) (sym (append_assoc (take a cells) (values_of d) (drop (a + k) cells))))

-- ---- beyond it

module _ (d before after : List ℕ) (s : ℕ) (row : Row) (r : Found) (E : RowEntered d before after row) (hr : r ≡ row_found_of row s false) where
  pub beyond_found : r ≡ data_found_of [] 1 s (values_of d)
  beyond_found = hr ∙ row_data d before after row E s false [] 1 (fits_beyond [] 1 (length (values_of d)) (omega arith))

module _ (cells v : List ℕ) (a s : ℕ) (r : Found) (out : length cells < a + length v) (hr : r ≡ data_found_of [] 1 s v) where
  pub outside_found : r ≡ data_found_of cells a s v
  unfolding data_found_of
  outside_found = hr ∙ rw (fits_beyond [] 1 (length v) (omega arith), fits_beyond cells a (length v) out)

  pub outside_left : (P : Type 0) → OnOk r P
  unfolding data_found_of
  outside_left P =
      rw (hr, fits_beyond [] 1 (length v) (omega arith))
      (branch (λ (f : Found). OnOk f P) (bytes_of v) (λ _. branch (λ (f : Found). OnOk f P) (eqb ((s + sum_of v) % 256) 0) (λ _. tt) (λ _. tt)) (λ _. tt))
