use Rattle.std.proofs.Common.{arith, length-take}
use Rattle.words.proofs.value.is_name.Goals as goal

pub slice_bounds-bytes-end : goal.slice_bounds-bytes-end
slice_bounds-bytes-end c = omega arith

pub slice_bounds-same-end : goal.slice_bounds-same-end
slice_bounds-same-end c = simp length-take (omega arith)
