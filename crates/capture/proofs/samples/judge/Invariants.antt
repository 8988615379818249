use Rattle.std.proofs.Common.{◌≡◌, drop}
use Rattle.capture.specs.Samples.{judge_from}
use Rattle.capture.proofs.samples.judge.Given as goal

abbrev pub invariant-loop-i : goal.invariant-loop-i
invariant-loop-i l = judge_from l.i (drop l.i l.samples) ≡ judge_from 0 l.samples
