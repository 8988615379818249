use Rattle.trace.proofs.Promises.{length_fits}
use lib.Seq.{length-take-le}
use mathlib.Core.Path.{sym}
use Rattle.trace_vectors.proofs.answer_in.Goals as goal

pub slice_bounds-say-end : goal.slice_bounds-say-end
slice_bounds-say-end c = length_fits _ _ _ _ c.traced-t.ensures (sym c.traced-t.auto.out)

pub slice_bounds-say-end-2 : goal.slice_bounds-say-end-2
slice_bounds-say-end-2 c = sym (length-take-le _ _ (length_fits _ _ _ _ c.traced-t.ensures (sym c.traced-t.auto.out)))
