use Prim.Native.Nat.{◌+◌}
use mathlib.Core.Path.{◌∙◌, sym, ap}
use mathlib.Core.Bool.{Bool, ◌&&◌}
use native.Mathlib.Omega.{arith}
use lib.ListN.{get_or, drop}
use Rattle.parts.specs.Bytes.{all_below_of}
use Rattle.parts.proofs.Bytes.{low_step, low_end}
use Rattle.wear.proofs.Grown.{at_most}
use Rattle.wear.proofs.worst.none_above.Goals as goal

pub loop-count-preserved : goal.loop-count-preserved
loop-count-preserved c =
    let l = c.loop-count in
    let a = c.args in
    ap (λ (z : Bool). all_below_of (a.limit + 1) (l.low && z) (drop (l.count-index + 1) a.counts.now)) (at_most (get_or a.counts.now l.count-index 0) a.limit) ∙ low_step (a.limit + 1) l.low l.count-index a.counts.now (omega arith) ∙ l.invariant

pub returns : goal.returns
returns c = let l = c.loop-count in let a = c.args in sym (low_end (a.limit + 1) l.low l.count-index a.counts.now (omega arith)) ∙ l.invariant
