-- Laws that the proofs of the code share: the page rule's bounds, and a byte's ninth clock and its bits by number.
-- Assumes nothing.
use mathlib.Core.Path.{◌≡◌, refl}
use Prim.Native.Nat.{ℕ, zero, suc, ◌+◌, ◌-◌, ◌*◌, ◌/◌, ◌%◌, ◌^◌, ◌<◌, ◌≤◌}
use native.Mathlib.Nat.{mod-lt, div-lt_iff_lt-mul, mul-le-mul_right, div-eq_of_lt, pow-le-pow_right}
use native.Mathlib.Omega.{arith}
use mathlib.Core.Bool.{Bool}
use Rattle.parts.specs.declared.Facts.{Facts}
use Rattle.parts.specs.Bytes.{flag_of}
use Rattle.line.specs.declared.Line.{Line}
use Rattle.line.specs.declared.Recv.{Recv}
use Rattle.line.specs.declared.Phase.TheVariants.{Receive}
use Rattle.line.specs.declared.Act.TheVariants.{Keep}
use Rattle.line.specs.Rules.{received_of, receive_act_of, receive_level_of, send_level_of, before_of}

-- a page of a number below a whole number of pages lies below it too
pub page_room : (whole P c : ℕ) → 0 < P → whole ≡ whole / P * P → c < whole → c / P * P + P ≤ whole
page_room whole P c pos even h =
    let q : c / P < whole / P = (div-lt_iff_lt-mul pos).1 (omega (arith, even)) in
    omega (arith, even, mul-le-mul_right P q)

pub one_less : (k : ℕ) → suc k - 1 ≡ k
one_less k = omega arith

-- a bit is still to come
pub received_bit : (f : Facts) (en : ℕ) (l : Line) (v : Bool) (r : Recv) (n : ℕ) → 0 < n
    → (received_of f en l v r n ≡ record { core = l.core; phase = Receive r; left = n - 1; shift = l.shift % 128 * 2 + flag_of v })
    × (receive_act_of f en l r n ≡ Keep)
    × (receive_level_of f en l r n ≡ 1)
unfolding received_of receive_act_of receive_level_of
received_bit f en l v r zero h = absurd (omega arith)
received_bit f en l v r (suc k) h = (rw one_less, refl, refl)

-- past the eighth bit of a byte there is none
pub send_past : (b n : ℕ) → b < 256 → 8 < n → send_level_of b n ≡ 0
unfolding send_level_of
send_past b zero small h = absurd (omega arith)
send_past b (suc k) small h =
    let big : 2 ^ 8 ≤ 2 ^ k = pow-le-pow_right {n = 2} (omega arith) {i = 8} {j = k} (omega arith) in
    let none : b / 2 ^ k ≡ 0 = div-eq_of_lt (omega (arith, big)) in
    rw none

-- the place before a 16-bit counter is below 65,536 too
pub before_lt : (P c : ℕ) → 0 < P → 65536 ≡ 65536 / P * P → c < 65536 → before_of P c < 65536
unfolding before_of
before_lt P c pos even h = omega (arith, page_room 65536 P c pos even h, mod-lt (c + (P - 1)) pos)
