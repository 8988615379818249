use Rattle.parts.proofs.Kit.{tests}
use Rattle.image_worn.specs.Calls.{load_worn_verdict_of}
use Rattle.image_worn.proofs.load_verdict.Goals as goal

pub returns-then-image-lt6 : goal.returns-then-image-lt6
unfolding load_worn_verdict_of
returns-then-image-lt6 c = simp (tests, c.if-image-lt6.true)

pub returns : goal.returns
unfolding load_worn_verdict_of
returns c = simp (tests, ← c.judged.ensures, c.if-image-lt6.false)
