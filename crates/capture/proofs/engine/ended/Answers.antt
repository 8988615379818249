use Rattle.capture.proofs.Finish.{ended_not, ended_due}
use borrow.Author.Rules.{rules}
use Rattle.capture.proofs.engine.ended.Goals as goal

pub returns-then-not-due : goal.returns-then-not-due
returns-then-not-due c = record { step = ended_not _ _ _ _ _ (c.if-not-due.true); room = search rules }

pub returns : goal.returns
returns c = let s = c.stirred-m in record { step = ended_due _ _ _ _ _ (c.if-not-due.false) s.result _ _ s.ensures.step; room = s.ensures.room }
