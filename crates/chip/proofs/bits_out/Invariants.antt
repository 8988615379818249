use Rattle.chip.specs.Onward.{Coasts, sending}
use Rattle.chip.specs.Memory.{mem}
use Rattle.parts.specs.Table.{facts_of}
use lib.ListN.{length}
use mathlib.Core.Path.{◌≡◌}
use Prim.Native.Nat.{◌≤◌}
use Rattle.chip.proofs.bits_out.Given as goal

abbrev pub invariant-loop-i : goal.invariant-loop-i
invariant-loop-i l =
    (l.i ≤ length l.events)
    × (length l.answers ≡ length l.initial.answers)
    × Coasts (facts_of l.part) (mem l.array l.id) l.events (sending l.initial.c l.target l.left l.shift) l.initial.answers l.from (sending l.c l.target l.n l.x) l.answers l.i
