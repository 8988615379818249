use Prim.Native.Nat.{◌+◌, ◌-◌, ◌≤◌}
use mathlib.Core.Path.{◌≡◌}
use Rattle.chip.specs.Memory.{latched_in}
use Rattle.chip.proofs.latched_some.Given as goal

abbrev pub invariant-loop-i : goal.invariant-loop-i
invariant-loop-i l = (l.from ≤ l.i) × (latched_in l.latch l.i (l.from + l.n - l.i) ≡ latched_in l.latch l.from l.n)
