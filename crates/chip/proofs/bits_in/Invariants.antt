use Rattle.chip.specs.Onward.{Coasts, taking}
use Rattle.chip.specs.Memory.{Mem}
use Rattle.line.specs.declared.Recv.{Recv}
use Rattle.parts.specs.declared.Facts.{Facts}
use lib.ListN.{length}
use mathlib.Core.Path.{◌≡◌}
use Prim.Native.Nat.{◌≤◌}
use Rattle.chip.proofs.bits_in.Given as goal

abbrev pub invariant-loop-i : goal.invariant-loop-i
invariant-loop-i l =
    (l.i ≤ length l.events)
    × (length l.answers ≡ length l.initial.answers)
    × ((f : Facts) (m : Mem) (v : Recv) → Coasts f m l.events (taking l.core v l.left l.shift) l.initial.answers l.from (taking l.core v l.n l.x) l.answers l.i)
