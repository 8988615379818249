use mathlib.Core.Path.{refl, ◌∙◌, sym}
use Rattle.wear.proofs.Laws.{most_step, most_end}
use Rattle.wear.proofs.worst.most_of.Goals as goal

pub loop-i-init : goal.loop-i-init
loop-i-init c = rw c.none-best.ensures refl

pub loop-i-preserved : goal.loop-i-preserved
loop-i-preserved c = let l = c.loop-i in let cs = c.args.counts.now in rw c.more-best.ensures (most_step cs l.i l.best c.loop-i-test.true) ∙ l.invariant

pub returns : goal.returns
returns c = let l = c.loop-i in let cs = c.args.counts.now in sym (most_end cs l.i l.best c.loop-i-test.false) ∙ l.invariant
