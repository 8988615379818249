use Rattle.capture.specs.Tallies.{tallied_of}
use Rattle.capture.proofs.tallied.Goals as goal

pub returns : goal.returns
unfolding tallied_of
returns c = simp (← c.up-4.ensures, ← c.up-3.ensures, ← c.up-2.ensures, ← c.up.ensures)
