use Rattle.std.proofs.Common.{◌≡◌, ◌+◌, ◌-◌, ◌<◌, length}
use Rattle.capture.specs.Samples.{events_of}
use Rattle.capture.specs.Steps.{left_of}
use Rattle.capture.proofs.count_events.Given as goal

abbrev pub invariant-loop-next : goal.invariant-loop-next
invariant-loop-next l = (l.n < l.i) × (l.n + length (left_of l.bus l.samples l.i) ≡ length (events_of l.bus l.samples))

abbrev pub decreases-loop-next : goal.decreases-loop-next
decreases-loop-next l = length l.samples - l.i
