use Rattle.image.specs.Layout.{part_in}
use Rattle.image.proofs.part_in.Goals as goal

pub returns : goal.returns
unfolding part_in
returns c = simp (← c.byte_at.ensures)
