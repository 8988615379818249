use Rattle.capture.specs.Course.{finish_of}
use Rattle.capture.specs.Steps.{left_of, rises_left}
use Rattle.capture.specs.Samples.{events_of, rises_of}
use Rattle.chip.specs.Model.{ours}
use Rattle.chip.specs.Memory.{mem, chip}
use Rattle.parts.specs.Table.{facts_of}
use lib.ListN.{length, drop}
use mathlib.Core.Path.{◌≡◌}
use Prim.Native.Nat.{◌-◌, ◌<◌}
use Rattle.capture.proofs.engine.go_all.Given as goal

abbrev pub invariant-loop-next : goal.invariant-loop-next
invariant-loop-next l =
    (0 < l.i)
    × (length l.latch ≡ 64)
    × (length l.array ≡ length l.initial.array)
    × (length l.id ≡ length l.initial.id)
    × (l.g.events < l.i)
    × (l.g.clocks < l.i)
    × (l.g.ends < l.i)
    × (l.g.cycles < l.i)
    × (drop l.g.clocks (rises_of l.bus l.samples) ≡ rises_left l.bus l.samples l.i)
    × (finish_of (ours (facts_of l.part) l.enable) (rises_of l.bus l.samples) (chip l.g.line l.latch) (mem l.array l.id) l.g (left_of l.bus l.samples l.i)
    ≡ finish_of (ours (facts_of l.part) l.enable) (rises_of l.bus l.samples) (chip l.initial.g.line l.initial.latch) (mem l.initial.array l.initial.id) l.initial.g (events_of l.bus l.samples))

abbrev pub decreases-loop-next : goal.decreases-loop-next
decreases-loop-next l = length l.samples - l.i
