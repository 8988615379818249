use mathlib.Core.Path.{refl}
use Rattle.parts.proofs.Kit.{tests}
use lib.ListN.{length}
use borrow.Author.Tests.{le-ltb}
use Rattle.parts.specs.Table.{facts_of}
use Rattle.image.specs.Layout.{part_in}
use Rattle.image_worn.specs.Calls.{to_plain_verdict_of}
use Rattle.image_worn.proofs.Laws.{lost_same}
use Rattle.image_worn.proofs.to_plain_verdict.Goals as goal

pub returns-then-image-lt6 : goal.returns-then-image-lt6
unfolding to_plain_verdict_of
returns-then-image-lt6 c = simp (tests, c.if-image-lt6.true)

pub returns : goal.returns
unfolding to_plain_verdict_of
returns c = rw (le-ltb (length c.args.image.now) 6 c.if-image-lt6.false, c.sooner-3.ensures, c.sooner-2.ensures, c.sooner.ensures, c.claim-lost.ensures, c.claim-form.ensures, c.claim-short.ensures, c.image_length.ensures, c.claim-unknown.ensures, c.unworn-fresh.ensures, c.formed-right.ensures, c.worn_length.ensures, c.facts_of-f.ensures.value, c.part_in-part.ensures, lost_same (facts_of (part_in c.args.image.now)) c.args.image.now) refl
