use mathlib.Core.Path.{◌≡◌}
use lib.ListN.{drop}
use Rattle.wear.specs.Report.{most_from, most_of}
use Rattle.wear.proofs.worst.most_of.Given as goal

abbrev pub invariant-loop-i : goal.invariant-loop-i
invariant-loop-i l = most_from l.best l.i (drop l.i l.counts) ≡ most_of l.counts
