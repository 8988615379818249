use Rattle.parts.proofs.Kit.{tests}
use Rattle.capture.specs.Marks.{place_of}
use Rattle.capture.proofs.place_after.Goals as goal

pub returns-then-place-lt8 : goal.returns-then-place-lt8
unfolding place_of
returns-then-place-lt8 c = simp (tests, c.if-place-lt8.true, c.if-code-lt2.true)

pub returns-then-code-lt2 : goal.returns-then-code-lt2
unfolding place_of
returns-then-code-lt2 c = simp (tests, c.if-place-lt8.false, c.if-code-lt2.true)

pub returns-then-code-lt4 : goal.returns-then-code-lt4
unfolding place_of
returns-then-code-lt4 c = simp (tests, c.if-code-lt4.true, c.if-code-lt2.false)

pub returns : goal.returns
unfolding place_of
returns c = simp (tests, c.if-code-lt4.false, c.if-code-lt2.false)
