use Rattle.capture.proofs.engine.marked.Goals as goal

pub returns-then-differs : goal.returns-then-differs
returns-then-differs c = simp (c.if-differs.true, c.in-Same.is)
