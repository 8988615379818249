use Rattle.parts.proofs.Kit.{tests}
use Rattle.capture.specs.Marks.{compared_of}
use Rattle.capture.proofs.engine.compared.Goals as goal

pub returns-in-Idle : goal.returns-in-Idle
unfolding compared_of
returns-in-Idle c = simp (tests, c.in-Idle.is)

pub returns-in-Receive : goal.returns-in-Receive
unfolding compared_of
returns-in-Receive c = simp (tests, c.in-Receive.is)

pub returns-in-Send : goal.returns-in-Send
unfolding compared_of
returns-in-Send c = simp (tests, c.in-Send.is)

pub returns-in-Busy : goal.returns-in-Busy
unfolding compared_of
returns-in-Busy c = simp (tests, c.in-Busy.is)
