use Rattle.parts.proofs.Kit.{tests}
use Rattle.hexfile.specs.Steps.{next_of}
use Rattle.hexfile.proofs.reading.behind.Goals as goal

pub returns-then-e-n : goal.returns-then-e-n
unfolding next_of
returns-then-e-n c = simp (tests, c.if-e-n.true)

pub returns-else-e-n : goal.returns-else-e-n
unfolding next_of
returns-else-e-n c = simp (tests, c.if-e-n.false)
