use Rattle.std.proofs.Common.{refl, sym, ◌∙◌, arith}
use Rattle.capture.specs.Samples.{judge_of}
use Rattle.capture.proofs.Sampled.{judge_clear, judge_stop, judge_step, judge_end}
use Rattle.capture.proofs.samples.judge.Goals as goal

pub returns-then-low : goal.returns-then-low
returns-then-low c = judge_clear c.args.samples.now (sym c.all_below-low.ensures ∙ c.if-low.true)

pub loop-i-init : goal.loop-i-init
loop-i-init c = refl

pub returns-then-s-gt3 : goal.returns-then-s-gt3
unfolding judge_of
returns-then-s-gt3 c =
    let l = c.loop-i in
    judge_stop l.i c.args.samples.now (omega arith) c.if-s-gt3.true ∙ l.invariant

pub loop-i-preserved : goal.loop-i-preserved
loop-i-preserved c =
    let l = c.loop-i in
    judge_step l.i c.args.samples.now (omega arith) (omega (arith, c.if-s-gt3.false)) ∙ l.invariant

pub returns : goal.returns
unfolding judge_of
returns c =
    let l = c.loop-i in
    judge_end l.i c.args.samples.now (omega arith) ∙ l.invariant
