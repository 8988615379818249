use Rattle.std.proofs.Common.{refl}
use Rattle.hexfile.specs.Steps.{ends_of}
use Rattle.hexfile.proofs.reading.ends.Goals as goal

pub returns : goal.returns
unfolding ends_of
returns c = refl
