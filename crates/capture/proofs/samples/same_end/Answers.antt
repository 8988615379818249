use Rattle.std.proofs.Common.{◌≤◌, length, arith}
use Rattle.capture.proofs.Sampled.{same_more}
use Rattle.capture.proofs.samples.same_end.Goals as goal

pub loop-i-init : goal.loop-i-init
loop-i-init c = λ k h g. absurd (omega arith)

pub returns-then-samples-i : goal.returns-then-samples-i
returns-then-samples-i c =
    let l = c.loop-i in
    record { onward = omega arith; within = omega arith; same = l.invariant; stops = λ _. c.if-samples-i.true }

pub loop-i-preserved : goal.loop-i-preserved
loop-i-preserved c =
    let l = c.loop-i in
    let a = c.args in
    same_more a.samples.now a.s a.from l.i l.invariant c.if-samples-i.false

pub returns : goal.returns
returns c =
    let l = c.loop-i in
    let done : length c.args.samples.now ≤ l.i = omega arith in
    record { onward = c.requires; within = omega arith; same = λ k h g. l.invariant k h (omega (arith, done, g)); stops = λ h _. omega arith }
