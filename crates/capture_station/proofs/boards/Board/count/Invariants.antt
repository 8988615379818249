-- The piece under way begins no later than the entry that is looked at.
use Rattle.std.proofs.Common.{◌≤◌}
use Rattle.capture_station.proofs.boards.Board.count.Given as goal

abbrev pub invariant-loop-i : goal.invariant-loop-i
invariant-loop-i l = l.from ≤ l.i
