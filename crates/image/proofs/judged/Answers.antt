use Rattle.image.specs.Calls.{judged_of}
use Rattle.image.proofs.judged.Goals as goal

pub returns : goal.returns
unfolding judged_of
returns c = rw (c.sooner-2.ensures, c.sooner.ensures, c.claim-form.ensures, c.claim-enable.ensures, c.formed-right.ensures, c.image_length.ensures, c.enable_right-enabled.ensures, c.lent_verdict-lent.ensures, c.facts_of-f.ensures.value, c.part_in-part.ensures)
