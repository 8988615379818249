use Rattle.capture.proofs.Finish.{taken_so}
use native.Mathlib.Omega.{arith}
use Rattle.chip.proofs.Turns.{begun_most}
use Rattle.parts.specs.Events.{event_of}
use Rattle.capture.proofs.engine.taken.Goals as goal

pub noted-requires : goal.noted-requires
noted-requires c = let m = c.moved-m in (c.requires.1, c.requires.2, c.requires.3, omega (arith, m.ensures.step.begun, begun_most c.args.g.line (event_of c.args.code)))

pub returns : goal.returns
returns c = let m = c.moved-m in record { step = taken_so _ _ _ _ _ _ _ m.result _ _ _ _ m.ensures.step c.compared-looked.ensures c.differs-differs.ensures c.noted.ensures; room = m.ensures.room }
