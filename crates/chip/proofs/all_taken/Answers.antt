use Rattle.chip.proofs.Quick.{taken_step, taken_end}
use mathlib.Core.Path.{◌∙◌, sym}
use native.Mathlib.Omega.{arith}
use Rattle.chip.proofs.all_taken.Goals as goal

pub loop-code-preserved : goal.loop-code-preserved
loop-code-preserved c =
    let l = c.loop-code in
    let a = c.args in
    rw c.event_right-taken.ensures (taken_step a.pin l.taken l.code-index a.events.now (omega arith)) ∙ l.invariant

pub returns : goal.returns
returns c =
    let l = c.loop-code in
    let a = c.args in
    sym (taken_end a.pin l.taken l.code-index a.events.now (omega arith)) ∙ l.invariant
