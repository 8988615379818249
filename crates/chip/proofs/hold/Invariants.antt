use Rattle.chip.specs.Onward.{Coasts, ignores_of}
use Rattle.chip.specs.Memory.{Mem}
use Rattle.line.specs.declared.Line.{Line}
use Rattle.parts.specs.declared.Facts.{Facts}
use lib.ListN.{length}
use mathlib.Core.Path.{◌≡◌}
use Prim.Native.Nat.{◌≤◌}
use Rattle.chip.proofs.hold.Given as goal

abbrev pub invariant-loop-i : goal.invariant-loop-i
invariant-loop-i v =
    (v.i ≤ length v.events)
    × (length v.answers ≡ length v.initial.answers)
    × ((f : Facts) (m : Mem) (l : Line) → v.limit ≤ ignores_of l.phase → Coasts f m v.events l v.initial.answers v.from l v.answers v.i)
