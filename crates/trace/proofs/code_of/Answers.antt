use Rattle.parts.proofs.Kit.{tests}
use Rattle.trace.specs.Trace.{code_of}
use Rattle.trace.proofs.code_of.Goals as goal

pub returns-in-48 : goal.returns-in-48
unfolding code_of
returns-in-48 c = simp (tests, c.in-48.is)

pub returns-in-49 : goal.returns-in-49
unfolding code_of
returns-in-49 c = simp (tests, c.in-49.is)

pub returns-in-83 : goal.returns-in-83
unfolding code_of
returns-in-83 c = simp (tests, c.in-83.is)

pub returns-in-80 : goal.returns-in-80
unfolding code_of
returns-in-80 c = simp (tests, c.in-80.is)

pub returns-in-69 : goal.returns-in-69
unfolding code_of
returns-in-69 c = simp (tests, c.in-69.is)

pub returns-in-76 : goal.returns-in-76
unfolding code_of
returns-in-76 c = simp (tests, c.in-76.is)

pub returns-in-72 : goal.returns-in-72
unfolding code_of
returns-in-72 c = simp (tests, c.in-72.is)

pub returns-in-70 : goal.returns-in-70
unfolding code_of
returns-in-70 c = simp (tests, c.in-70.is)

pub returns-in-82 : goal.returns-in-82
unfolding code_of
returns-in-82 c = simp (tests, c.in-82.is)

pub returns-in_default : goal.returns-in_default
unfolding code_of
returns-in_default c = simp (tests, c.in_default.in_default-own.rest.1, c.in_default.in_default-own.rest.0.1, c.in_default.in_default-own.rest.0.0.1, c.in_default.in_default-own.rest.0.0.0.1, c.in_default.in_default-own.rest.0.0.0.0.1, c.in_default.in_default-own.rest.0.0.0.0.0.1, c.in_default.in_default-own.rest.0.0.0.0.0.0.1, c.in_default.in_default-own.rest.0.0.0.0.0.0.0.1, c.in_default.in_default-own.rest.0.0.0.0.0.0.0.0.1)
