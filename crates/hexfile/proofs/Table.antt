-- A rule of a table, proved at all of its entries by one test that is computed, one entry after the other; and the table of digits.
-- Assumes nothing.
use mathlib.Core.Path.{◌≡◌, ◌∙◌, refl, ap}
use mathlib.Core.Bool.{Bool, true, false, cond}
use mathlib.Core.List.{List, [], ◌∷◌}
use Prim.Native.Nat.{ℕ, zero, suc, ◌+◌, ◌%◌, ◌<◌}
use native.Mathlib.Omega.{arith}
use lib.Dec.{eqb}
use lib.ListN.{length, get_or}
use borrow.Author.Tests.{eqb-true}
use Rattle.parts.proofs.Tests.{both}
use Rattle.text.specs.Digits.{hex_digit_of, capital}
use Rattle.hexfile.specs.Steps.{capitals}

-- from the place i on each entry is what f says of its place
abbrev pub right_from : (ℕ → ℕ) → ℕ → List ℕ → Bool
right_from f i [] = true
right_from f i (x ∷ xs) = cond (eqb x (f i)) (right_from f (suc i) xs) false

from : (f : ℕ → ℕ) (xs : List ℕ) (i k : ℕ) → right_from f i xs ≡ true → k < length xs → get_or xs k 0 ≡ f (i + k)
from f [] i k t h = absurd (omega arith)
from f (x ∷ xs) i zero t h =
    let e : i ≡ i + 0 = omega arith in
    eqb-true x (f i) (both (eqb x (f i)) (right_from f (suc i) xs) t).0 ∙ ap f e
from f (x ∷ xs) i (suc k) t h =
    let e : suc i + k ≡ i + suc k = omega arith in
    rw (← e) (from f xs (suc i) k (both (eqb x (f i)) (right_from f (suc i) xs) t).1 (omega arith))

pub at : (f : ℕ → ℕ) (xs : List ℕ) → right_from f 0 xs ≡ true → (k : ℕ) → k < length xs → get_or xs k 0 ≡ f k
at f xs t k h = let e : 0 + k ≡ k = omega arith in from f xs 0 k t h ∙ ap f e

-- ---- the table of digits

pub capital_at : (k : ℕ) → k < 16 → get_or capitals k 0 ≡ capital k
unfolding capitals hex_digit_of
capital_at k h = at capital capitals refl k h

-- a digit says nothing of what stands left of it
pub capital_low : (n : ℕ) → capital (n % 16) ≡ capital n
unfolding hex_digit_of
capital_low n = let e : n % 16 % 16 ≡ n % 16 = omega arith in rw e
