use Prim.Native.Nat.{◌+◌, ◌<◌}
use mathlib.Core.Path.{◌≡◌, ◌∙◌, sym, refl}
use native.Mathlib.Nat.{add-zero}
use native.Mathlib.Omega.{arith}
use lib.ListN.{length, take}
use lib.Seq.{get_or-take, length-take-le}
use Rattle.chip.proofs.Laws.{enter_step, enter_end}
use Rattle.chip.proofs.enter.Goals as goal

pub loop-i-init : goal.loop-i-init
loop-i-init c = (omega arith, refl, simp add-zero)

pub loop-i-preserved : goal.loop-i-preserved
loop-i-preserved c =
    let one = c.enter_one in
    let l = c.loop-i in
    let a = c.args in
    let n : length (take a.p a.latch.now) ≡ a.p = length-take-le a.p a.latch.now (omega arith) in
    let here : l.i < a.p = omega (arith, c.loop-i-test.true) in
    (omega arith, one.auto.s ∙ l.invariant.1, rw (one.ensures, get_or-take a.p a.latch.now l.i 0 here) (enter_step l.s a.page l.i a.p a.latch.now (omega arith) here ∙ l.invariant.2))

pub returns : goal.returns
returns c =
    let l = c.loop-i in
    let a = c.args in
    let n : length (take a.p a.latch.now) ≡ a.p = length-take-le a.p a.latch.now (omega arith) in
    sym (enter_end l.s (a.page + l.i) l.i a.p a.latch.now (omega (arith, c.loop-i-test.false))) ∙ l.invariant.2
