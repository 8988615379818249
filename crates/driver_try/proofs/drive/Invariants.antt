use Rattle.std.proofs.Common.{◌≤◌}
use Rattle.driver_try.proofs.drive.Given as goal

abbrev pub invariant-loop-events : goal.invariant-loop-events
invariant-loop-events l = l.clocks ≤ l.events
