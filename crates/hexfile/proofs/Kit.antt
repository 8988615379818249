-- What both halves of a HEX file rest on: tests that cannot be, and the two ways of a bool.
-- Assumes nothing.
use mathlib.Core.Path.{◌≡◌, refl}
use mathlib.Core.Bool.{Bool, true, false, cond}
use Prim.Native.Nat.{ℕ}
use native.Mathlib.Omega.{arith}

pub clash {ℓ} : {A : Type ℓ} → true ≡ false → A
clash h = let z : ◌≡◌ {A = ℕ} 0 1 = cc in absurd (omega arith)

pub cond_same {ℓ} : {A : Type ℓ} (b : Bool) (x : A) → cond b x x ≡ x
cond_same true x = refl
cond_same false x = refl

pub cond_self : (b : Bool) → cond b true false ≡ b
cond_self true = refl
cond_self false = refl

-- what cannot be yes is no
pub not_so : (a : Bool) → (a ≡ true → ⊥) → a ≡ false
not_so true f = absurd (f refl)
not_so false f = refl
