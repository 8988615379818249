use Rattle.parts.proofs.Kit.{tests}
use Rattle.capture.specs.Steps.{falls_of}
use Rattle.capture.proofs.samples.falls.Goals as goal

pub returns-then-at-samples : goal.returns-then-at-samples
unfolding falls_of
returns-then-at-samples c = simp (tests, c.if-at-samples.true)

pub returns : goal.returns
unfolding falls_of
returns c = simp (tests, c.if-at-samples.false)
