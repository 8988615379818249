use mathlib.Core.Path.{refl}
use Rattle.hexfile.specs.Written.{check_of}
use Rattle.hexfile.proofs.writing.check_byte.Goals as goal

pub returns : goal.returns
unfolding check_of
returns c = refl
