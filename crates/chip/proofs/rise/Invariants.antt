use Prim.Native.Nat.{◌*◌, ◌/◌, ◌≤◌}
use Rattle.chip.proofs.Groups.{Risen}
use Rattle.chip.proofs.rise.Given as goal

abbrev pub invariant-loop-j : goal.invariant-loop-j
invariant-loop-j l = (l.j ≤ l.p / l.g) × Risen l.g l.latch l.page (l.j * l.g) l.up
