use lib.ListN.{length}
use borrow.Author.Tests.{le-ltb}
use Rattle.parts.proofs.Kit.{tests}
use Rattle.image_worn.specs.Calls.{to_worn_verdict_of}
use Rattle.image_worn.proofs.to_worn_verdict.Goals as goal

pub returns-then-image-lt6 : goal.returns-then-image-lt6
unfolding to_worn_verdict_of
returns-then-image-lt6 c = simp (tests, c.if-image-lt6.true)

pub returns : goal.returns
unfolding to_worn_verdict_of
returns c = rw (le-ltb (length c.args.image.now) 6 c.if-image-lt6.false, c.sooner-2.ensures, c.sooner.ensures, c.claim-form.ensures, c.claim-short.ensures, c.worn_length.ensures, c.claim-unknown.ensures, c.formed-right.ensures, c.image_length.ensures, c.facts_of-f.ensures.value, c.part_in-part.ensures)
