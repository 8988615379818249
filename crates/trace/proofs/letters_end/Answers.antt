use Rattle.parts.proofs.Kit.{tests}
use Rattle.trace.specs.Trace.{letters_end_of}
use Rattle.trace.proofs.letters_end.Goals as goal
use Rattle.trace.proofs.letters_end.Goals.{else-n-gt4-via-then-n-gt4+else-text-n-eq10, else-n-gt4-via-else-n-gt4}

pub returns-then-text-n-eq10 : goal.returns-then-text-n-eq10
unfolding letters_end_of
returns-then-text-n-eq10 c = simp (tests, c.if-text-n-eq10.true, c.if-n-gt4.true)

pub returns-else-n-gt4 : goal.returns-else-n-gt4
unfolding letters_end_of
returns-else-n-gt4 c =
    elim c.else-n-gt4.branch [
      | else-n-gt4-via-then-n-gt4+else-text-n-eq10 w ↦ simp (tests, w.if-text-n-eq10.false, w.if-n-gt4.true)
      | else-n-gt4-via-else-n-gt4 w ↦ simp (tests, w.if-n-gt4.false)
    ]
