use mathlib.Core.Path.{refl, ◌∙◌}
use native.Mathlib.Omega.{arith}
use Rattle.wear.proofs.Laws.{sum_step, most_step, sum_end, most_end}
use Rattle.wear.proofs.walk.Goals as goal

pub loop-i-init : goal.loop-i-init
loop-i-init c = (omega arith, omega arith, rw c.none-best.ensures refl)

pub loop-i-preserved : goal.loop-i-preserved
loop-i-preserved c =
    let l = c.loop-i in
    let h = c.loop-i-test.true in
    let cs = c.args.counts.now in
    (sum_step cs l.i l.total h ∙ l.invariant.0, omega (arith, l.invariant.1), rw c.more-best.ensures (most_step cs l.i l.best h) ∙ l.invariant.2)

pub returns : goal.returns
returns c = let l = c.loop-i in let cs = c.args.counts.now in rw (← sum_end cs l.i l.total c.loop-i-test.false, ← most_end cs l.i l.best c.loop-i-test.false) (rw (l.invariant.0, l.invariant.2) refl)
