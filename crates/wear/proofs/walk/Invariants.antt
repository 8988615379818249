use Prim.Native.Nat.{◌+◌, ◌*◌, ◌≤◌}
use mathlib.Core.Path.{◌≡◌}
use lib.ListN.{drop}
use Rattle.wear.specs.Report.{sum_of, most_from, most_of}
use Rattle.wear.proofs.walk.Given as goal

abbrev pub invariant-loop-i : goal.invariant-loop-i
invariant-loop-i l = (l.total + sum_of (drop l.i l.counts) ≡ sum_of l.counts) × (l.total ≤ l.i * 4294967295) × (most_from l.best l.i (drop l.i l.counts) ≡ most_of l.counts)
