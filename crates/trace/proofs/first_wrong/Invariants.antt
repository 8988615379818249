use Rattle.std.proofs.Common.{◌≡◌, drop}
use Rattle.chip.specs.Calls.{scan_of}
use Rattle.trace.specs.Trace.{codes_of}
use Rattle.trace.proofs.first_wrong.Given as goal

abbrev pub invariant-loop-i : goal.invariant-loop-i
invariant-loop-i l = scan_of l.pin l.i (drop l.i (codes_of l.letters)) ≡ scan_of l.pin 0 (codes_of l.letters)
