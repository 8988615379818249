use Rattle.image_worn.specs.Calls.{judged_worn_of}
use Rattle.image_worn.proofs.judged.Goals as goal

pub returns : goal.returns
unfolding judged_worn_of
returns c = rw (c.sooner-3.ensures, c.sooner-2.ensures, c.sooner.ensures, c.claim-form.ensures, c.claim-enable.ensures, c.either_formed-right.ensures, c.enable_right-enabled.ensures, c.lent_verdict-lent.ensures, c.counts_verdict-counted.ensures, c.facts_of-f.ensures.value, c.part_in-part.ensures)
