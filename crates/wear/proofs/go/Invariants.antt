use Prim.Native.Nat.{◌-◌, ◌≤◌}
use mathlib.Core.Path.{◌≡◌}
use lib.ListN.{length}
use Rattle.parts.specs.Table.{facts_of}
use Rattle.chip.specs.Memory.{mem, chip}
use Rattle.chip.specs.Model.{cut_by, ours_with}
use Rattle.wear.specs.Worst.{raised_of}
use Rattle.wear.proofs.Grown.{Grew}
use Rattle.wear.proofs.Stretches.{Come}
use Rattle.wear.proofs.go.Given as goal

abbrev pub invariant-loop-i : goal.invariant-loop-i
invariant-loop-i l =
    (l.i ≤ length l.events)
    × (length l.array ≡ length l.initial.array)
    × (length l.id ≡ length l.initial.id)
    × (length l.counts ≡ length l.initial.counts)
    × (length l.answers ≡ length l.initial.answers)
    × Come (ours_with (cut_by l.loss l.page) (facts_of l.part) l.enable) (facts_of l.part) l.events (chip l.initial.line l.initial.latch) (mem l.initial.array l.initial.id) l.initial.counts l.initial.answers (chip l.line l.latch) (mem l.array l.id) l.counts l.answers l.cycles l.i
    × (l.cycles ≤ l.i)
    × (length l.latch ≡ 64)
    × (l.best ≡ raised_of l.initial.counts l.counts)
    × Grew l.initial.counts l.counts

abbrev pub decreases-loop-i : goal.decreases-loop-i
decreases-loop-i l =
    length l.events - l.i
