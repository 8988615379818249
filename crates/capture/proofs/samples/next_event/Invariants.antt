use Rattle.std.proofs.Common.{◌≡◌, ◌≤◌, ◌-◌, length}
use Rattle.capture.specs.Steps.{left_of, rises_left}
use Rattle.capture.proofs.samples.next_event.Given as goal

abbrev pub invariant-loop-i : goal.invariant-loop-i
invariant-loop-i l =
    (l.from ≤ l.i) × (left_of l.bus l.samples l.from ≡ left_of l.bus l.samples l.i) × (rises_left l.bus l.samples l.from ≡ rises_left l.bus l.samples l.i)

abbrev pub decreases-loop-i : goal.decreases-loop-i
decreases-loop-i l = length l.samples - l.i
