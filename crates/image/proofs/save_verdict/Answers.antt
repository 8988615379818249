use Rattle.image.specs.Calls.{save_verdict_of}
use Rattle.image.proofs.save_verdict.Goals as goal

pub returns : goal.returns
unfolding save_verdict_of
returns c = rw (c.sooner-2.ensures, c.sooner.ensures, c.claim-short.ensures, c.claim-state.ensures, c.image_length-need.ensures, c.in_range-ranged.ensures, c.lent_verdict-lent.ensures, c.facts_of-f.ensures.value)
