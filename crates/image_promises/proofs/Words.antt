-- Laws of numbers of four bytes along a list, and of counts that are all zero.
-- Assumes nothing.
use Prim.Native.Nat.{ℕ, zero, suc, ◌+◌, ◌*◌, ◌<◌}
use mathlib.Core.Path.{◌≡◌, ◌∙◌, sym, ap, refl}
use mathlib.Core.Bool.{Bool, true, false}
use mathlib.Core.List.{List, [], ◌∷◌, ◌++◌}
use native.Mathlib.Omega.{arith}
use lib.ListN.{length, get_or, take, drop, replicate}
use lib.Dec.{eqb}
use borrow.Author.Tests.{eqb-true, eq-eqb}
use Rattle.parts.specs.Bytes.{AllBelow, word_end, word_of, words_of}
use Rattle.parts.proofs.Bytes.{below_drop, below_at, joined_word, joined_small, word_joined}
use Rattle.parts.proofs.Tests.{both}
use Rattle.image_worn.specs.Layout.{words_in, all_zero_of}
use Rattle.image_promises.specs.Form.{NoneWorn}

-- ---- there

-- numbers of 32 bits, read back
pub words_back : (xs r : List ℕ) → AllBelow word_end xs → words_in (length xs) (words_of xs ++ r) ≡ xs
words_back [] r h = refl
words_back (x ∷ xs) r h = λ i. joined_word x h.0 i ∷ words_back xs r h.1 i

-- each in its place
pub words_at : (xs : List ℕ) (n : ℕ) → n < length xs → take 4 (drop (4 * n) (words_of xs)) ≡ word_of (get_or xs n 0)
words_at [] n h = absurd (omega (arith, h))
words_at (x ∷ xs) zero h = refl
words_at (x ∷ xs) (suc n) h =
    let four : 4 * suc n ≡ suc (suc (suc (suc (4 * n)))) = omega arith in
    ap (λ (k : ℕ). take 4 (drop k (words_of (x ∷ xs)))) four ∙ words_at xs n (omega (arith, h))

-- ---- back

pub read_below : (n : ℕ) (l : List ℕ) → AllBelow 256 l → AllBelow word_end (words_in n l)
read_below zero l h = tt
read_below (suc n) l h = (
  joined_small (get_or l 0 0) (get_or l 1 0) (get_or l 2 0) (get_or l 3 0) (below_at l h 0) (below_at l h 1) (below_at l h 2) (below_at l h 3),
  read_below n (drop 4 l) (below_drop 256 4 l h),
)

-- bytes, written again
pub words_same : (n : ℕ) (l : List ℕ) → AllBelow 256 l → length l ≡ 4 * n → words_of (words_in n l) ≡ l
words_same zero [] h e = refl
words_same zero (a ∷ l) h e = absurd (omega (arith, e))
words_same (suc n) [] h e = absurd (omega (arith, e))
words_same (suc n) (a ∷ []) h e = absurd (omega (arith, e))
words_same (suc n) (a ∷ b ∷ []) h e = absurd (omega (arith, e))
words_same (suc n) (a ∷ b ∷ c ∷ []) h e = absurd (omega (arith, e))
words_same (suc n) (a ∷ b ∷ c ∷ d ∷ l) h e =
    let one = word_joined a b c d h.0 h.1.0 h.1.1.0 h.1.1.1.0 in
    let rest = words_same n l h.1.1.1.1 (omega (arith, e)) in
    λ i. one i ++ rest i

-- ---- all zero

pub words_zero : (n : ℕ) → words_of (replicate n 0) ≡ replicate (4 * n) 0
words_zero zero = refl
words_zero (suc n) =
    let four : 4 * suc n ≡ suc (suc (suc (suc (4 * n)))) = omega arith in
    ap (λ (t : List ℕ). 0 ∷ 0 ∷ 0 ∷ 0 ∷ t) (words_zero n) ∙ ap (λ (k : ℕ). replicate k 0) (sym four)

pub zeros_below : (n k : ℕ) → 0 < k → AllBelow k (replicate n 0)
zeros_below zero k h = tt
zeros_below (suc n) k h = (h, zeros_below n k h)

pub zeros_none : (n : ℕ) → NoneWorn (replicate n 0)
zeros_none zero i = refl
zeros_none (suc n) zero = refl
zeros_none (suc n) (suc i) = zeros_none n i

pub none_zeros : (xs : List ℕ) → NoneWorn xs → xs ≡ replicate (length xs) 0
none_zeros [] h = refl
none_zeros (x ∷ xs) h = λ i. h 0 i ∷ none_zeros xs (λ j. h (suc j)) i

pub none_told : (xs : List ℕ) → NoneWorn xs → all_zero_of xs ≡ true
unfolding all_zero_of
none_told [] h = refl
none_told (x ∷ xs) h = rw (eq-eqb x 0 (h 0)) (none_told xs (λ j. h (suc j)))

pub told_none : (xs : List ℕ) → all_zero_of xs ≡ true → NoneWorn xs
unfolding all_zero_of
told_none [] h i = refl
told_none (x ∷ xs) h zero = eqb-true x 0 (both (eqb x 0) (all_zero_of xs) h).0
told_none (x ∷ xs) h (suc i) = told_none xs (both (eqb x 0) (all_zero_of xs) h).1 i

-- and where one is not
pub some_told : (xs : List ℕ) → (NoneWorn xs → ⊥) → all_zero_of xs ≡ false
some_told xs w = go (all_zero_of xs) refl
  where
    go : (b : Bool) → all_zero_of xs ≡ b → b ≡ false
    go true e = absurd (w (told_none xs e))
    go false e = refl
