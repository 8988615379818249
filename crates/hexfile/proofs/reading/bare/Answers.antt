use Rattle.parts.proofs.Kit.{tests}
use Rattle.hexfile.specs.Steps.{bare_of}
use Rattle.hexfile.proofs.reading.bare.Goals as goal
use Rattle.hexfile.proofs.reading.bare.Goals.{else-e-text-via-then-e-text+then-at-e+else-text-e-eq13, else-e-text-via-then-e-text+else-at-e, else-e-text-via-else-e-text}

pub returns-then-text-e-eq13-clause-value : goal.returns-then-text-e-eq13-clause-value
unfolding bare_of
returns-then-text-e-eq13-clause-value c = simp (tests, c.if-text-e-eq13.true, c.if-at-e.true, c.if-e-text.true)

pub returns-else-e-text-clause-value : goal.returns-else-e-text-clause-value
unfolding bare_of
returns-else-e-text-clause-value c =
    elim c.else-e-text.branch [
      | else-e-text-via-then-e-text+then-at-e+else-text-e-eq13 w ↦ simp (tests, w.if-text-e-eq13.false, w.if-at-e.true, w.if-e-text.true)
      | else-e-text-via-then-e-text+else-at-e w ↦ simp (tests, w.if-at-e.false, w.if-e-text.true)
      | else-e-text-via-else-e-text w ↦ simp (tests, w.if-e-text.false)
    ]
