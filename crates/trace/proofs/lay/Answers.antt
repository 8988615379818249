use Rattle.trace.specs.Trace.{room_verdict_of}
use Rattle.parts.proofs.Kit.{tests}
use Rattle.trace.proofs.lay.Goals as goal

pub returns-then-out-text : goal.returns-then-out-text
unfolding room_verdict_of
returns-then-out-text c = record { answer = simp (tests, c.if-out-text.true); text = simp (tests, c.if-out-text.true) }

pub returns : goal.returns
unfolding room_verdict_of
returns c = record { answer = simp (tests, c.if-out-text.false); text = rw c.copy_from_slice.ensures.after (simp (tests, c.if-out-text.false)) }
