use Rattle.chip.proofs.Groups.{latched_four}
use Rattle.chip.proofs.latched_four.Goals as goal

pub returns : goal.returns
returns c = latched_four c.args.latch.now c.args.from c.requires
