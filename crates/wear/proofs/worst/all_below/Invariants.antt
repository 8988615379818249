use mathlib.Core.Path.{◌≡◌}
use mathlib.Core.Bool.{true}
use lib.ListN.{drop}
use Rattle.parts.specs.Bytes.{all_below_of}
use Rattle.wear.proofs.worst.all_below.Given as goal

abbrev pub invariant-loop-count : goal.invariant-loop-count
invariant-loop-count l = all_below_of l.limit l.low (drop l.count-index l.counts) ≡ all_below_of l.limit true l.counts
