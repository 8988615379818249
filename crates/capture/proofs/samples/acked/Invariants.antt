use Rattle.std.proofs.Common.{◌≡◌, ◌-◌, ◌<◌}
use Rattle.capture.specs.Ends.{acked_of}
use Rattle.capture.specs.Steps.{left_of}
use Rattle.capture.proofs.samples.acked.Given as goal

abbrev pub invariant-loop-k : goal.invariant-loop-k
invariant-loop-k l = (0 < l.at) × (acked_of (9 - l.k) (left_of l.bus l.samples l.at) ≡ acked_of 9 (left_of l.bus l.samples l.from))
