use Prim.Native.Nat.{◌+◌, ◌≤◌}
use Rattle.chip.specs.Onward.{Lifted}
use Rattle.chip.proofs.lift.Given as goal

abbrev pub invariant-loop-i : goal.invariant-loop-i
invariant-loop-i l = (l.from ≤ l.i) × (l.i ≤ l.from + l.n) × Lifted l.page l.from l.i l.initial.up l.up
