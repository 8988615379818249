use Rattle.capture.proofs.Finish.{due_elsewhere, due_idle, due_so}
use mathlib.Core.Path.{sym, ◌∙◌}
use Rattle.capture.proofs.engine.end_due.Goals as goal

pub returns-then-next-ne2 : goal.returns-then-next-ne2
returns-then-next-ne2 c = λ k. due_elsewhere _ _ _ c.if-next-ne2.true

pub returns-then-not-busy : goal.returns-then-not-busy
returns-then-not-busy c = λ k. due_idle _ _ _ c.if-next-ne2.false (sym c.busy.ensures ∙ c.if-not-busy.true)

pub returns : goal.returns
returns c = λ k. due_so _ _ _ c.if-next-ne2.false _ (sym c.busy.ensures ∙ c.if-not-busy.false) c.acked.ensures
