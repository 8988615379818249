use Rattle.chip.proofs.take.Goals as goal

pub returns : goal.returns
returns c = record { answer = c.take_with.ensures.answer; cells = c.take_with.ensures.cells; ident = c.take_with.ensures.ident }
