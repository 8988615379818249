use mathlib.Core.Path.{◌≡◌}
use mathlib.Core.List.{◌++◌}
use Prim.Native.Nat.{◌+◌, ◌-◌, ◌<◌}
use lib.ListN.{length, take, drop}
use Rattle.capture.specs.Samples.{events_of}
use Rattle.capture.specs.Steps.{left_of}
use Rattle.capture.proofs.list.Given as goal

abbrev pub invariant-loop-next : goal.invariant-loop-next
invariant-loop-next l =
    (l.n < l.i) × (length l.out ≡ length l.initial.out) × (l.n + length (left_of l.bus l.samples l.i) ≡ length (events_of l.bus l.samples))
    × (take l.n l.out ++ left_of l.bus l.samples l.i ≡ events_of l.bus l.samples) × (drop l.n l.out ≡ drop l.n l.initial.out)

abbrev pub decreases-loop-next : goal.decreases-loop-next
decreases-loop-next l = length l.samples - l.i
