use Rattle.image_worn.specs.Calls.{save_worn_verdict_of}
use Rattle.image_worn.proofs.save_verdict.Goals as goal

pub returns : goal.returns
unfolding save_worn_verdict_of
returns c = rw (c.sooner-2.ensures, c.sooner.ensures, c.claim-short.ensures, c.worn_length-need.ensures, c.save_verdict-judged.ensures, c.counts_verdict-counted.ensures)
