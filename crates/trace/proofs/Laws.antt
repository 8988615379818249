-- Laws of the walks that turn letters into codes and levels into characters, and of texts put together.
-- Assumes nothing.
use Prim.Native.Nat.{ℕ, zero, suc, ◌+◌, ◌-◌, ◌≤◌, ◌<◌}
use mathlib.Core.Path.{◌≡◌, ◌∙◌, sym, ap, refl}
use mathlib.Core.List.{List, [], ◌∷◌, ◌++◌, append-nil}
use native.Mathlib.Numerals.{add-one}
use native.Mathlib.Nat.{not-suc-le-zero, le_of_suc-le-suc}
use native.Mathlib.Omega.{arith}
use lib.ListN.{length, get_or, take, drop, set, drop_of_length-le}
use lib.Dec.{ltb, eqb}
use borrow.Author.Tests.{ltb-true}
use Rattle.parts.proofs.Laws.{branch}
use Rattle.trace.specs.Trace.{each_of, letters_end_of, letters_of}

each_suc : (g : ℕ → ℕ) (xs d : List ℕ) (i : ℕ) → i < length xs → length d ≡ length xs
    → set (each_of g (take i xs) ++ drop i d) i (g (get_or xs i 0)) ≡ each_of g (take (suc i) xs) ++ drop (suc i) d
each_suc g [] d i h e = absurd (not-suc-le-zero h)
each_suc g (x ∷ xs) [] i h e = absurd (omega (arith, e))
each_suc g (x ∷ xs) (y ∷ d) zero h e = refl
each_suc g (x ∷ xs) (y ∷ d) (suc i) h e = ap (λ (t : List ℕ). g x ∷ t) (each_suc g xs d i (le_of_suc-le-suc h) (omega (arith, e)))

-- a turn of the loop: one element more is done
pub each_turn : (g : ℕ → ℕ) (xs d : List ℕ) (i : ℕ) → i < length xs → length d ≡ length xs
    → set (each_of g (take i xs) ++ drop i d) i (g (get_or xs i 0)) ≡ each_of g (take (i + 1) xs) ++ drop (i + 1) d
each_turn g xs d i h e = rw add-one (each_suc g xs d i h e)

pub take_all : (xs : List ℕ) (i : ℕ) → length xs ≤ i → take i xs ≡ xs
take_all [] zero h = refl
take_all [] (suc i) h = refl
take_all (x ∷ xs) zero h = absurd (not-suc-le-zero h)
take_all (x ∷ xs) (suc i) h = ap (λ (t : List ℕ). x ∷ t) (take_all xs i (le_of_suc-le-suc h))

-- all of them are done
pub each_end : (g : ℕ → ℕ) (xs d s : List ℕ) (i : ℕ) → length xs ≤ i → length d ≡ length xs → s ≡ each_of g (take i xs) ++ drop i d → s ≡ each_of g xs
each_end g xs d s i h e q =
    let short : length d ≤ i = omega (arith, e) in
    q ∙ rw (take_all xs i h, drop_of_length-le d short, append-nil)

-- what is not done yet is as it was
pub each_ahead : (g : ℕ → ℕ) (xs : List ℕ) (i : ℕ) → get_or (each_of g (take i xs) ++ drop i xs) i 0 ≡ get_or xs i 0
each_ahead g [] zero = refl
each_ahead g [] (suc i) = refl
each_ahead g (x ∷ xs) zero = refl
each_ahead g (x ∷ xs) (suc i) = each_ahead g xs i

-- each element is what its own letter gives
pub each_at : (g : ℕ → ℕ) (xs : List ℕ) (i : ℕ) → i < length xs → get_or (each_of g xs) i 0 ≡ g (get_or xs i 0)
each_at g [] i h = absurd (not-suc-le-zero h)
each_at g (x ∷ xs) zero h = refl
each_at g (x ∷ xs) (suc i) h = each_at g xs i (le_of_suc-le-suc h)

-- where the letters end: behind the first line, inside the text
pub letters_range : (t : List ℕ) → 4 ≤ length t → (4 ≤ letters_end_of t) × (letters_end_of t ≤ length t)
unfolding letters_end_of
letters_range t h =
    branch (λ (x : ℕ). (4 ≤ x) × (x ≤ length t)) (ltb 4 (length t))
    (λ e. let long : 4 < length t = ltb-true 4 (length t) e in
    branch (λ (x : ℕ). (4 ≤ x) × (x ≤ length t)) (eqb (get_or t (length t - 1) 0) 10) (λ _. (omega arith, omega arith)) (λ _. (omega arith, omega arith)))
    (λ _. (omega arith, omega arith))

-- a text that ends in its first line has no letters
pub letters_none : (t : List ℕ) → length t ≤ 4 → [] ≡ letters_of t
unfolding letters_of
letters_none t h = rw (drop_of_length-le t h) (sym (take_all [] (letters_end_of t - 4) (omega arith)))
