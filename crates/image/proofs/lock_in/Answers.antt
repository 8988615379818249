use Rattle.image.specs.Layout.{lock_in}
use Rattle.image.proofs.lock_in.Goals as goal

pub returns : goal.returns
unfolding lock_in
returns c = simp (← c.byte_at.ensures)
