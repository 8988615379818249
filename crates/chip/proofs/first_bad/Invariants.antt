use Rattle.chip.specs.Calls.{scan_of}
use lib.ListN.{drop}
use mathlib.Core.Path.{◌≡◌}
use Rattle.chip.proofs.first_bad.Given as goal

abbrev pub invariant-loop-i : goal.invariant-loop-i
invariant-loop-i l = scan_of l.pin l.i (drop l.i l.events) ≡ scan_of l.pin 0 l.events
