use native.Mathlib.Omega.{arith}
use borrow.Author.Rules.{part_to_end}
use lib.ListN.{length-take}
use Rattle.wear.proofs.Grown.{borne, borne_none}
use Rattle.wear.proofs.worst.borne_out.Goals as goal

pub returns-then-counts-g : goal.returns-then-counts-g
returns-then-counts-g c = rw c.is_empty.ensures (borne_none c.args.counts.now c.args.worst c.if-counts-g.true)

pub slice_bounds-all_below-end : goal.slice_bounds-all_below-end
slice_bounds-all_below-end c = simp length-take (omega arith)

pub returns : goal.returns
returns c = rw (c.all_below-lower.ensures, c.none_above-rest.ensures, part_to_end c.args.counts.now c.args.worst.group) (borne c.args.counts.now c.args.worst c.if-counts-g.false)
