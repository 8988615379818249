use Rattle.std.proofs.Common.{[], ◌≡◌}
use mathlib.Core.Path.{◌∙◌, ap}
use native.Mathlib.Omega.{arith}
use lib.ListN.{length}
use Rattle.capture.specs.Steps.{left_of}
use Rattle.capture.proofs.Sampled.{left_start, one_made}
use Rattle.capture.proofs.count_events.Goals as goal

pub loop-next-init : goal.loop-next-init
loop-next-init c =
    let a = c.args in
    (omega arith, omega (arith, ap length (left_start a.bus a.samples.now)))

pub next_event-requires : goal.next_event-requires
next_event-requires c = (omega arith, c.requires)

pub loop-next-smaller : goal.loop-next-smaller
loop-next-smaller c = let e = c.in-Some.ensures in omega (arith, e.onward, e.moves, e.within)

pub loop-next-preserved : goal.loop-next-preserved
loop-next-preserved c =
    let n = c.in-Some.next in
    let e = c.in-Some.ensures in
    let l = c.loop-next in
    let a = c.args in
    let left = left_of a.bus a.samples.now n.next in
    (omega (arith, e.onward, e.moves), omega (arith, l.invariant.1, ap length (e.events ∙ one_made n.code left e.some)))

pub returns : goal.returns
returns c =
    let l = c.loop-next in
    let none : left_of c.args.bus c.args.samples.now l.i ≡ [] = rw c.in_default.is at c.next_event.ensures in
    omega (arith, l.invariant.1, ap length none)
