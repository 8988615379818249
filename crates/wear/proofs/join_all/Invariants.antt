use mathlib.Core.Path.{◌≡◌}
use mathlib.Core.List.{◌++◌}
use lib.ListN.{length, take, drop}
use Rattle.wear.specs.Report.{joined_of}
use Rattle.wear.proofs.join_all.Given as goal

abbrev pub invariant-loop-i : goal.invariant-loop-i
invariant-loop-i l = (length l.counts ≡ length l.initial.counts) × (take l.i l.counts ++ joined_of (drop l.i l.counts) (drop l.i l.more) ≡ joined_of l.initial.counts l.more)
