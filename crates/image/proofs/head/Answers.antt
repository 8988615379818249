use Rattle.image.proofs.head.Goals as goal

pub returns : goal.returns
returns c = simp (← c.flag.ensures)
