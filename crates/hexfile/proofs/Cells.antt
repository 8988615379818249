-- Cells filled into an array, and how many of them are named.
-- Assumes nothing.
use mathlib.Core.Path.{◌≡◌, refl, sym, ◌∙◌}
use Rattle.std.specs.List.{count_by}
use Rattle.std.proofs.lemmas.List.Recursion.{is_count_by}
use mathlib.Core.Bool.{Bool, true, false, cond}
use mathlib.Core.List.{List, [], ◌∷◌, ◌++◌, append-nil, append_assoc}
use Prim.Native.Nat.{ℕ, suc, ◌+◌, ◌≤◌, ◌<◌}
use native.Mathlib.Omega.{arith}
use native.Mathlib.Numerals.{add-one}
use lib.ListN.{length, get_or, take, drop, set, length-set, drop_of_length-le}
use lib.Dec.{ltb}
use lib.Seq.{drop-cons, take-suc-set, take_all}
use Rattle.hexfile.specs.File.{blank_of, filled_of, named_of}

one_more : (b : Bool) (n : ℕ) → cond b 1 0 + n ≡ cond b (1 + n) n
one_more true n = refl
one_more false n = omega arith

-- how many cells are named
pub named_count : (cells : List ℕ) → count_by (λ x. ltb x 256) cells ≡ named_of cells
named_count cells = sym (is_count_by named_of (λ x. ltb x 256) refl (λ x rest. one_more (ltb x 256) (named_of rest)) cells)

-- what is filled, and the cells that are left
pub record Filling (cells array : List ℕ) (i : ℕ) : Type 0 where
  pub long : length array ≡ length cells
  pub filled : take i array ++ filled_of (drop i cells) ≡ filled_of cells

pub filling_more : (cells array : List ℕ) (i : ℕ) → Filling cells array i → i < length array → Filling cells (set array i (blank_of (get_or cells i 0))) (i + 1)
filling_more cells array i F lt =
    let inside : i < length cells = omega (arith, F.long) in
    let x = get_or cells i 0 in
    let t = drop-cons cells i 0 inside in
    record {
      long = simp length-set F.long;
      filled =
          rw (add-one i, take-suc-set array i (blank_of x) lt)
          (append_assoc (take i array) (blank_of x ∷ []) (filled_of (drop (suc i) cells)) ∙ rw t at F.filled);
    }

pub filled : (cells array : List ℕ) (i : ℕ) → Filling cells array i → length array ≤ i → array ≡ filled_of cells
filled cells array i F h =
    let out : length cells ≤ i = omega (arith, F.long) in
    let w : drop i cells ≡ [] = drop_of_length-le cells out in
    rw (w, take_all i array h, append-nil) at F.filled
