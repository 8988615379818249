use Rattle.chip.proofs.Turns.{Unclosed}
use Rattle.chip.specs.Model.{cut_by, ours_with}
use Rattle.chip.specs.Onward.{Leads}
use Rattle.chip.specs.Memory.{mem, chip}
use Rattle.parts.specs.Table.{facts_of}
use lib.ListN.{length, take}
use mathlib.Core.Path.{◌≡◌}
use Prim.Native.Nat.{ℕ, ◌-◌, ◌≤◌}
use Rattle.chip.proofs.run_all.Given as goal

abbrev pub invariant-loop-i : goal.invariant-loop-i
invariant-loop-i l =
    (l.i ≤ length l.events)
    × (length l.latch ≡ 64)
    × (length l.array ≡ length l.initial.array)
    × (length l.id ≡ length l.initial.id)
    × (length l.answers ≡ length l.initial.answers)
    × (l.cycles ≤ l.i)
    × ((z : ℕ) → l.i ≤ z → Leads (ours_with (cut_by l.loss l.page) (facts_of l.part) l.enable) (take z l.events) (chip l.initial.at l.initial.latch) (mem l.initial.array l.initial.id) l.initial.answers 0 (chip l.at l.latch) (mem l.array l.id) l.answers l.i l.cycles)
    × Unclosed l.stops l.events l.i

abbrev pub decreases-loop-i : goal.decreases-loop-i
decreases-loop-i l =
    length l.events - l.i
