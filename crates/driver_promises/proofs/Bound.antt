-- The events of any driver on the way are within the bound.
-- Assumes nothing.
use Prim.Native.Nat.{ℕ, zero, ◌+◌, ◌-◌, ◌*◌, ◌≤◌, ◌<◌}
use mathlib.Core.Path.{◌≡◌, refl, sym, ◌∙◌, ap}
use mathlib.Core.Bool.{Bool, true, false, cond, not, false≢true}
use lib.Dec.{eqb}
use native.Mathlib.Omega.{arith}
use native.Mathlib.Nat.{mul-le-mul_right}
use Rattle.parts.specs.Table.{address_bytes_of}
use Rattle.parts.proofs.Laws.{branch}
use Rattle.driver.specs.declared.Request.{Request}
use Rattle.driver.specs.declared.Slot.TheVariants.{Select, High, Low, Data, Poll, Turn, Take}
use Rattle.driver.specs.declared.Phase.{Phase}
use Rattle.driver.specs.declared.Phase.TheVariants.{Ready, Bits, Heard, Rest, Over}
use Rattle.driver.specs.declared.Counts.{Counts}
use Rattle.driver.specs.Request.{allowed_of, k_of}
use Rattle.driver_promises.specs.Run.{bound_of}
use Rattle.driver_promises.proofs.Inv.{wide, all, stop_most, left_cut, Inv}
use Rattle.driver_promises.proofs.Grow.{A, D, heads, ends, clocks_at, ends_at, over}

-- a read sends no polls
pub no_polls : (r : Request) (q : ℕ) → r.reads ≡ true → q ≤ all r → q ≡ 0
unfolding allowed_of
no_polls r q e h = let z : k_of r * cond r.reads 0 r.budget ≡ 0 = ap (λ (t : Bool). k_of r * cond t 0 r.budget) e ∙ omega arith in omega arith

bytes_least : (r : Request) → 1 ≤ A r
unfolding address_bytes_of
bytes_least r = branch (λ (x : ℕ). 1 ≤ x) (wide r) (λ e. omega arith) (λ e. omega arith)

-- numbers alone: d pages of k are done, in a part of the next
in_part : (d k a x y n q Q m : ℕ) → d + 1 ≤ k → x ≤ 9 * (1 + a) → y ≤ 9 * n → q ≤ Q → m ≤ 3 → 9 * (d * (1 + a)) + x + y + 9 * q + (3 * d + q + m) ≤ 9 * (k * (1 + a) + n + Q) + 3 * k + Q
in_part d k a x y n q Q m h hx hy hq hm = omega (arith, mul-le-mul_right (1 + a) h)

module _ (r : Request) (c : Counts) where
  abbrev Fits : Phase → Type 0
  Fits p = clocks_at p r c + ends_at p r c ≤ bound_of r

  bound_write : (p : Phase) → r.reads ≡ false → Inv r p c → over p ≡ false → Fits p
  bound_write p w v o = go p v o
    where
      hw : heads r c.seen ≡ D r c.seen * (1 + A r)
      hw = ap (λ (t : Bool). cond t (cond (eqb c.seen 0) 0 (2 + A r)) (D r c.seen * (1 + A r))) w

      ew : ends r c.seen ≡ 3 * D r c.seen
      ew = ap (λ (t : Bool). cond t (cond (eqb c.seen 0) 0 3) (3 * D r c.seen)) w

      bw : bound_of r ≡ 9 * (k_of r * (1 + A r) + r.length + all r) + 3 * k_of r + all r
      bw = ap (λ (t : Bool). cond t (9 * (2 + A r + r.length) + 3) (9 * (k_of r * (1 + A r) + r.length + all r) + 3 * k_of r + all r)) w

      -- one page is under way
      under : {p : Phase} → Inv r p c → c.seen < r.length → D r c.seen + 1 ≤ k_of r
      under v h = omega (arith, left_cut r c.seen h, v.common.pages)

      part : (p : Phase) (x y m : ℕ) → Inv r p c → c.seen < r.length → x ≤ 9 * (1 + A r) → y ≤ 9 * r.length → m ≤ 3 → (q : ℕ) → q ≤ c.polls → clocks_at p r c ≡ 9 * heads r c.seen + x + y + 9 * q → ends_at p r c ≡ ends r c.seen + c.polls + m → Fits p
      part p x y m v h hx hy hm q hq e f =
          let k = v.common.most in
          omega (arith, hw, ew, bw, in_part (D r c.seen) (k_of r) (A r) x y r.length c.polls (all r) m (under v h) hx hy k hm)

      head : {p : Phase} → Inv r p c → c.seen ≡ c.at → c.at < r.length → c.seen < r.length
      head v e h = omega arith

      shut : {p : Phase} → Inv r p c → c.seen < c.at → c.seen < r.length
      shut v h = omega (arith, v.common.low)

      go : (p : Phase) → Inv r p c → over p ≡ false → Fits p
      go Ready v o =
          let k = v.common.most in
          let l = v.common.low in
          let d : D r c.seen ≤ k_of r = omega arith in
          omega (arith, hw, ew, bw, mul-le-mul_right (1 + A r) d)
      go (Bits Select b) v o = let h = v.here in let l = h.more in let y = h.same in let z = v.bits in part (Bits Select b) b (9 * c.at) 1 v (omega arith) (omega arith) (omega arith) (omega arith) c.polls (omega arith) (omega arith) refl
      go (Bits High b) v o = let h = v.here.0 in let l = h.more in let y = h.same in let z = v.bits in part (Bits High b) (9 + b) (9 * c.at) 1 v (omega arith) (omega (arith, bytes_least r)) (omega arith) (omega arith) c.polls (omega arith) (omega arith) refl
      go (Bits Low b) v o = let h = v.here in let l = h.more in let y = h.same in let z = v.bits in part (Bits Low b) (9 * A r + b) (9 * c.at) 1 v (omega arith) (omega arith) (omega arith) (omega arith) c.polls (omega arith) (omega arith) refl
      go (Bits Data b) v o = let h = v.here in let l = h.more in let y = h.begun in let z = v.bits in part (Bits Data b) (9 * (1 + A r)) (9 * c.at + b) 1 v y (omega arith) (omega (arith, stop_most r c.seen (omega arith))) (omega arith) c.polls (omega arith) (omega arith) refl
      go (Bits Poll b) v o =
          let h = v.here.0 in
          let y = h.some in
          let l = v.common.low in
          let z = v.bits in
          let t = v.here.1 in
          let s = v.common.some in
          let k = v.common.most in
          omega (arith, hw, ew, bw, in_part (D r c.seen) (k_of r) (A r) (9 * (1 + A r)) (9 * c.at) r.length c.polls (all r) 2 (under v (omega arith)) (omega arith) (omega arith) k (omega arith))
      go (Bits Turn b) v o = absurd (false≢true (sym w ∙ v.right))
      go (Bits Take b) v o = absurd (false≢true (sym w ∙ v.right))
      go (Heard Select) v o = let h = v.here in let l = h.more in let y = h.same in part (Heard Select) 9 (9 * c.at) 1 v (omega arith) (omega arith) (omega arith) (omega arith) c.polls (omega arith) (omega arith) refl
      go (Heard High) v o = let h = v.here.0 in let l = h.more in let y = h.same in part (Heard High) 18 (9 * c.at) 1 v (omega arith) (omega (arith, bytes_least r)) (omega arith) (omega arith) c.polls (omega arith) (omega arith) refl
      go (Heard Low) v o = let h = v.here in let l = h.more in let y = h.same in part (Heard Low) (9 * (1 + A r)) (9 * c.at) 1 v (omega arith) (omega arith) (omega arith) (omega arith) c.polls (omega arith) (omega arith) refl
      go (Heard Data) v o = let h = v.here.some in let l = v.common.low in part (Heard Data) (9 * (1 + A r)) (9 * c.at) 1 v (omega arith) (omega arith) (omega arith) (omega arith) c.polls (omega arith) (omega arith) refl
      go (Heard Poll) v o = let h = v.here.0.some in let l = v.common.low in part (Heard Poll) (9 * (1 + A r)) (9 * c.at) 2 v (omega arith) (omega arith) (omega arith) (omega arith) c.polls (omega arith) (omega arith) refl
      go (Heard Turn) v o = absurd (false≢true (sym w ∙ v.right))
      go (Heard Take) v o = absurd (false≢true (sym w ∙ v.right))
      go Rest v o = let h = v.here.0.some in let l = v.common.low in part Rest (9 * (1 + A r)) (9 * c.at) 2 v (omega arith) (omega arith) (omega arith) (omega arith) c.polls (omega arith) (omega arith) refl
      go (Over f) v o = absurd (false≢true (sym o))

  not_both : (b : Bool) → b ≡ true → not b ≡ true → ⊥
  not_both true e f = false≢true f
  not_both false e f = false≢true e

  bound_read : (p : Phase) → r.reads ≡ true → Inv r p c → over p ≡ false → Fits p
  bound_read p w v o = go p v o
    where
      hw : heads r c.seen ≡ cond {A = ℕ} (eqb c.seen 0) 0 (2 + A r)
      hw = ap (λ (t : Bool). cond t (cond (eqb c.seen 0) 0 (2 + A r)) (D r c.seen * (1 + A r))) w

      ew : ends r c.seen ≡ cond (eqb c.seen 0) 0 3
      ew = ap (λ (t : Bool). cond t (cond (eqb c.seen 0) 0 3) (3 * D r c.seen)) w

      hm : cond {A = ℕ} (eqb c.seen 0) 0 (2 + A r) ≤ 2 + A r
      hm = branch (λ (x : ℕ). x ≤ 2 + A r) (eqb c.seen 0) (λ e. omega arith) (λ e. omega arith)

      em : cond {A = ℕ} (eqb c.seen 0) 0 3 ≤ 3
      em = branch (λ (x : ℕ). x ≤ 3) (eqb c.seen 0) (λ e. omega arith) (λ e. omega arith)

      hz : c.seen ≡ 0 → cond {A = ℕ} (eqb c.seen 0) 0 (2 + A r) ≡ 0
      hz e = ap (λ (i : ℕ). cond (eqb i 0) 0 (2 + A r)) e

      ez : c.seen ≡ 0 → cond {A = ℕ} (eqb c.seen 0) 0 3 ≡ 0
      ez e = ap (λ (i : ℕ). cond {A = ℕ} (eqb i 0) 0 3) e

      bw : bound_of r ≡ 9 * (2 + A r + r.length) + 3
      bw = ap (λ (t : Bool). cond t (9 * (2 + A r + r.length) + 3) (9 * (k_of r * (1 + A r) + r.length + all r) + 3 * k_of r + all r)) w

      np : {p : Phase} → Inv r p c → c.polls ≡ 0
      np v = no_polls r c.polls w v.common.most

      -- nothing is done yet
      part : (p : Phase) (x m : ℕ) → Inv r p c → c.seen ≡ 0 → x ≤ 9 * (2 + A r + r.length) → m ≤ 3 → clocks_at p r c ≡ 9 * heads r c.seen + x → ends_at p r c ≡ ends r c.seen + c.polls + m → Fits p
      part p x m v z hx hm e f = omega (arith, hw, ew, bw, hz z, ez z, np v)

      go : (p : Phase) → Inv r p c → over p ≡ false → Fits p
      go Ready v o = omega (arith, hw, ew, bw, hm, em, np v, v.common.low)
      go (Bits Select b) v o = let h = v.here in let f = h.first w in let l = h.same in let z = v.bits in part (Bits Select b) b 1 v (omega arith) (omega arith) (omega arith) (omega (arith, np v)) refl
      go (Bits High b) v o = let h = v.here.0 in let f = h.first w in let l = h.same in let z = v.bits in part (Bits High b) (9 + b) 1 v (omega arith) (omega arith) (omega arith) (omega (arith, np v)) refl
      go (Bits Low b) v o = let h = v.here in let f = h.first w in let l = h.same in let z = v.bits in part (Bits Low b) (9 * A r + b) 1 v (omega arith) (omega arith) (omega arith) (omega (arith, np v)) refl
      go (Bits Data b) v o = absurd (not_both r.reads w v.right)
      go (Bits Poll b) v o = absurd (not_both r.reads w v.right)
      go (Bits Turn b) v o = let h = v.here in let f = h.first w in let l = h.same in let z = v.bits in part (Bits Turn b) (9 * (1 + A r) + b) 2 v (omega arith) (omega arith) (omega arith) (omega (arith, np v)) refl
      go (Bits Take b) v o = let h = v.here.0 in let l = v.here.1 in let z = v.bits in part (Bits Take b) (9 * (2 + A r) + 9 * c.at + b) 2 v h.zero (omega arith) (omega arith) (omega (arith, np v)) refl
      go (Heard Select) v o = let h = v.here in let f = h.first w in let l = h.same in part (Heard Select) 9 1 v (omega arith) (omega arith) (omega arith) (omega (arith, np v)) refl
      go (Heard High) v o = let h = v.here.0 in let f = h.first w in let l = h.same in part (Heard High) 18 1 v (omega arith) (omega (arith, bytes_least r)) (omega arith) (omega (arith, np v)) refl
      go (Heard Low) v o = let h = v.here in let f = h.first w in let l = h.same in part (Heard Low) (9 * (1 + A r)) 1 v (omega arith) (omega arith) (omega arith) (omega (arith, np v)) refl
      go (Heard Data) v o = absurd (not_both r.reads w v.right)
      go (Heard Poll) v o = absurd (not_both r.reads w v.right)
      go (Heard Turn) v o = let h = v.here in let f = h.first w in let l = h.same in part (Heard Turn) (9 * (2 + A r)) 2 v (omega arith) (omega arith) (omega arith) (omega (arith, np v)) refl
      go (Heard Take) v o = let h = v.here.0 in let l = v.common.low in part (Heard Take) (9 * (2 + A r) + 9 * c.at) 2 v h.zero (omega arith) (omega arith) (omega (arith, np v)) refl
      go Rest v o = absurd (not_both r.reads w v.right)
      go (Over f) v o = absurd (false≢true (sym o))

  pub bounded : (p : Phase) → Inv r p c → over p ≡ false → Fits p
  bounded p v o = go r.reads refl
    where
      go : (b : Bool) → r.reads ≡ b → Fits p
      go true w = bound_read p w v o
      go false w = bound_write p w v o
