use Rattle.hexfile.specs.Written.{text_length_of}
use Rattle.hexfile.proofs.text_length.Goals as goal

pub returns : goal.returns
unfolding text_length_of
returns c = simp (← c.facts_of.ensures.value)
