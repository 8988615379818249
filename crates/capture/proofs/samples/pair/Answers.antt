use Rattle.std.proofs.Common.{arith}
use Rattle.std.proofs.lemmas.Bool.{eq-eqb}
use Rattle.parts.proofs.Kit.{tests}
use Rattle.capture.specs.Steps.{code_of}
use Rattle.capture.proofs.samples.pair.Goals as goal

pub returns-then-s-eq0 : goal.returns-then-s-eq0
unfolding code_of
returns-then-s-eq0 c = simp (tests, c.if-s-eq0.true)

pub returns-then-bus-still : goal.returns-then-bus-still
unfolding code_of
returns-then-bus-still c = simp (tests, c.if-bus-still.true, c.if-before-eq0.true, c.if-s-eq0.false)

pub returns-then-before-eq0 : goal.returns-then-before-eq0
unfolding code_of
returns-then-before-eq0 c = (simp (tests, c.if-bus-still.false, c.if-before-eq0.true, c.if-s-eq0.false), omega arith)

pub returns-then-before-s : goal.returns-then-before-s
unfolding code_of
returns-then-before-s c = simp (tests, c.if-before-s.true, c.if-before-eq0.false, c.if-s-eq0.false)

pub returns-then-s-eq1 : goal.returns-then-s-eq1
unfolding code_of
returns-then-s-eq1 c = (simp (tests, eq-eqb c.args.s 1 c.if-s-eq1.true, c.if-before-s.false, c.if-before-eq0.false, c.if-s-eq0.false), omega arith)

pub returns-else-s-eq1 : goal.returns-else-s-eq1
unfolding code_of
returns-else-s-eq1 c = (simp (tests, c.if-s-eq1.false, c.if-before-s.false, c.if-before-eq0.false, c.if-s-eq0.false), omega arith)
