use Prim.Native.Nat.{ℕ, ◌+◌, ◌-◌, ◌<◌}
use mathlib.Core.Path.{◌≡◌, ◌∙◌, sym, ap}
use native.Mathlib.Decide.{dec_lt}
use native.Mathlib.Omega.{arith}
use lib.ListN.{length}
use Rattle.chip.specs.Memory.{latched_in}
use Rattle.chip.proofs.Groups.{latched_here, latched_on, latched_beyond}
use Rattle.chip.proofs.latched_some.Goals as goal

pub loop-i-init : goal.loop-i-init
loop-i-init c =
    let a = c.args in
    let e : a.from + a.n - a.from ≡ a.n = omega arith in
    (omega arith, ap (λ (z : ℕ). latched_in a.latch.now a.from z) e)

pub bounds-latch-i : goal.bounds-latch-i
bounds-latch-i c = omega (arith, c.loop-i-test.true)

pub returns-then-latch-i-lt256 : goal.returns-then-latch-i-lt256
returns-then-latch-i-lt256 c =
    let l = c.loop-i in
    let a = c.args in
    latched_here a.latch.now l.i (a.from + a.n - l.i) (omega (arith, c.loop-i-test.true)) (omega (arith, c.loop-i-test.true)) c.if-latch-i-lt256.true ∙ l.invariant.1

pub loop-i-preserved : goal.loop-i-preserved
loop-i-preserved c =
    let l = c.loop-i in
    let a = c.args in
    let e : a.from + a.n - (l.i + 1) ≡ a.from + a.n - l.i - 1 = omega arith in
    (omega arith, rw e (latched_on a.latch.now l.i (a.from + a.n - l.i) (omega (arith, c.loop-i-test.true)) (omega (arith, c.loop-i-test.true)) c.if-latch-i-lt256.false ∙ l.invariant.1))

pub returns : goal.returns
returns c =
    let l = c.loop-i in
    let a = c.args in
    elim (dec_lt l.i (length a.latch.now)) [
      | yes h ↦ let e : a.from + a.n - l.i ≡ 0 = omega (arith, c.loop-i-test.false) in sym (ap (λ (z : ℕ). latched_in a.latch.now l.i z) e) ∙ l.invariant.1
      | no h ↦ sym (latched_beyond a.latch.now l.i (a.from + a.n - l.i) (omega arith)) ∙ l.invariant.1
    ]
