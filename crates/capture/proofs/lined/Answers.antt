use Rattle.parts.proofs.Kit.{tests}
use Rattle.capture.specs.Wires.{lined_of}
use Rattle.capture.proofs.lined.Goals as goal

pub returns-then-level-eq0 : goal.returns-then-level-eq0
unfolding lined_of
returns-then-level-eq0 c = simp (tests, c.if-level-eq0.true, c.if-code-lt2.true)

pub returns-else-level-eq0 : goal.returns-else-level-eq0
unfolding lined_of
returns-else-level-eq0 c = simp (tests, c.if-level-eq0.false, c.if-code-lt2.true)

pub returns-else-code-lt2 : goal.returns-else-code-lt2
unfolding lined_of
returns-else-code-lt2 c = simp (tests, c.if-code-lt2.false)
