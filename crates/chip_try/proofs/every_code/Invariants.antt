use Rattle.std.proofs.Common.{◌≤◌}
use Rattle.chip_try.proofs.every_code.Given as goal

abbrev pub invariant-loop-n : goal.invariant-loop-n
invariant-loop-n g l = l.refused ≤ l.n
