-- A byte bit by bit: what a shift register holds after some of its bits, and that a byte read is the byte sent.
-- Assumes nothing.
use Prim.Native.Nat.{ℕ, zero, suc, ◌+◌, ◌-◌, ◌*◌, ◌/◌, ◌%◌, ◌^◌, ◌<◌}
use mathlib.Core.Path.{◌≡◌, refl, sym, ◌∙◌, ap}
use mathlib.Core.Bool.{Bool, true, false, cond}
use lib.Dec.{eqb}
use native.Mathlib.Omega.{arith}
use native.Mathlib.Nat.{div-div-eq-div-mul, div-eq_of_lt, div-one, div-le_self}
use borrow.Author.Tests.{lt-ltb, eqb-true, eqb-false}
use Rattle.driver.specs.Step.{bit_of, shift_of}
use Rattle.driver_promises.proofs.Grow.{bit_lt}

-- what stands in the register after n bits of the byte v
abbrev pub register : ℕ → ℕ → ℕ
register v n = v / 2 ^ (8 - n)

pub register_none : (v : ℕ) → v < 256 → register v 0 ≡ 0
register_none v h = div-eq_of_lt h

pub register_all : (v : ℕ) → register v 8 ≡ v
register_all v = div-one v

bit_low : (v n : ℕ) → n < 8 → bit_of v n ≡ v / 2 ^ (7 - n) % 2
unfolding bit_of
bit_low v n h = simp (lt-ltb n 8 h)

half : (v n : ℕ) → n < 8 → register v n ≡ v / 2 ^ (7 - n) / 2
half v n h =
    let e : 8 - n ≡ suc (7 - n) = omega arith in
    let g : 2 ^ (7 - n) * 2 ≡ 2 ^ (8 - n) = omega (arith, ap (λ (k : ℕ). 2 ^ k) e) in
    sym (div-div-eq-div-mul v (2 ^ (7 - n)) 2 ∙ ap (λ (k : ℕ). v / k) g)

pub register_next : (v n : ℕ) → n < 8 → register v n * 2 + bit_of v n ≡ register v (n + 1)
register_next v n h =
    let f : 8 - (n + 1) ≡ 7 - n = omega arith in
    omega (arith, half v n h, ap (λ (k : ℕ). v / 2 ^ k) f, bit_low v n h)

-- the driver's register, told the bits of v, holds them
pub shift-next : (v n : ℕ) → v < 256 → n < 8 → shift_of (register v n) (bit_of v n) ≡ register v (n + 1)
unfolding shift_of
shift-next v n o h =
    let s : register v n < 128 = omega (arith, half v n h, div-le_self v (2 ^ (7 - n))) in
    go (eqb (bit_of v n) 0) refl (register_next v n h) s
  where
    go : (t : Bool) → eqb (bit_of v n) 0 ≡ t → register v n * 2 + bit_of v n ≡ register v (n + 1) → register v n < 128 → cond t (register v n % 128 * 2) (register v n % 128 * 2 + 1) ≡ register v (n + 1)
    go true e k s = omega (arith, eqb-true (bit_of v n) 0 e)
    go false e k s = omega (arith, one)
      where
        one : bit_of v n ≡ 1
        one = only (bit_of v n) (bit_lt v n) (eqb-false (bit_of v n) 0 e)
          where
            only : (b : ℕ) → b < 2 → (b ≡ 0 → ⊥) → b ≡ 1
            only zero l f = absurd (f refl)
            only (suc b) l f = omega arith
