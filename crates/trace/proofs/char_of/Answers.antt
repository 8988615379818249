use Rattle.parts.proofs.Kit.{tests}
use Rattle.trace.specs.Trace.{char_of}
use Rattle.trace.proofs.char_of.Goals as goal

pub returns-in-0 : goal.returns-in-0
unfolding char_of
returns-in-0 c = simp (tests, c.in-0.is)

pub returns-in-1 : goal.returns-in-1
unfolding char_of
returns-in-1 c = simp (tests, c.in-1.is)

pub returns-in_default : goal.returns-in_default
unfolding char_of
returns-in_default c = simp (tests, c.in_default.in_default-own.rest.1, c.in_default.in_default-own.rest.0.1)
