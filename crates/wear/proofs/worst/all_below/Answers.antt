use mathlib.Core.Path.{◌∙◌, sym}
use native.Mathlib.Omega.{arith}
use Rattle.parts.proofs.Bytes.{low_step, low_end}
use Rattle.wear.proofs.worst.all_below.Goals as goal

pub loop-count-preserved : goal.loop-count-preserved
loop-count-preserved c = let l = c.loop-count in let a = c.args in low_step a.limit l.low l.count-index a.counts.now (omega arith) ∙ l.invariant

pub returns : goal.returns
returns c = let l = c.loop-count in let a = c.args in sym (low_end a.limit l.low l.count-index a.counts.now (omega arith)) ∙ l.invariant
