use native.Mathlib.Omega.{arith}
use Rattle.parts.proofs.Kit.{tests}
use Rattle.trace.specs.Trace.{leading_of}
use Rattle.trace.proofs.leading.Goals as goal

pub returns-then-n-lt10 : goal.returns-then-n-lt10
unfolding leading_of
returns-then-n-lt10 c = record { value = simp (tests, c.if-n-lt10.true); range = omega arith }

pub returns-then-n-lt100 : goal.returns-then-n-lt100
unfolding leading_of
returns-then-n-lt100 c = record { value = simp (tests, c.if-n-lt100.true, c.if-n-lt10.false); range = omega arith }

pub returns-then-n-lt1000 : goal.returns-then-n-lt1000
unfolding leading_of
returns-then-n-lt1000 c = record { value = simp (tests, c.if-n-lt1000.true, c.if-n-lt100.false, c.if-n-lt10.false); range = omega arith }

pub returns-then-n-lt10000 : goal.returns-then-n-lt10000
unfolding leading_of
returns-then-n-lt10000 c = record { value = simp (tests, c.if-n-lt10000.true, c.if-n-lt1000.false, c.if-n-lt100.false, c.if-n-lt10.false); range = omega arith }

pub returns-else-n-lt10000 : goal.returns-else-n-lt10000
unfolding leading_of
returns-else-n-lt10000 c = record { value = simp (tests, c.if-n-lt10000.false, c.if-n-lt1000.false, c.if-n-lt100.false, c.if-n-lt10.false); range = omega arith }
