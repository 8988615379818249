use Rattle.explain.proofs.Laws.{Gathered}
use Rattle.trace.specs.Trace.{codes_of}
use Rattle.chip.specs.Memory.{mem}
use Prim.Native.Nat.{◌*◌, ◌≤◌}
use Rattle.explain.proofs.follow.Given as goal

abbrev pub invariant-loop-i : goal.invariant-loop-i
invariant-loop-i l =
    (l.cycles ≤ 255 * l.i)
    × Gathered l.part l.enable (codes_of l.letters) l.initial.held (mem l.initial.array l.initial.id) l.held (mem l.array l.id) l.levels l.cycles l.i
