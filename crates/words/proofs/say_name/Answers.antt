use Rattle.std.proofs.Common.{arith, length-take}
use Rattle.words.proofs.say_name.Goals as goal

pub slice_bounds-say-end : goal.slice_bounds-say-end
slice_bounds-say-end c = simp length-take (omega arith)
