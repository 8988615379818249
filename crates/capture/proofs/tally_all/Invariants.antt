use Rattle.capture.specs.Samples.{events_of}
use Rattle.capture.specs.Tallies.{tallies_of}
use Rattle.capture.specs.Steps.{left_of}
use mathlib.Core.Path.{◌≡◌}
use Prim.Native.Nat.{◌-◌, ◌<◌}
use lib.ListN.{length}
use Rattle.capture.proofs.tally_all.Given as goal

-- what is left gives the whole
abbrev pub invariant-loop-next : goal.invariant-loop-next
invariant-loop-next l =
    (0 < l.i) × (tallies_of l.t l.place (left_of l.bus l.samples l.i) ≡ tallies_of l.initial.t 0 (events_of l.bus l.samples))

abbrev pub decreases-loop-next : goal.decreases-loop-next
decreases-loop-next l = length l.samples - l.i
