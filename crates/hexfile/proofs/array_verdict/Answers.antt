use Rattle.hexfile.specs.Calls.{array_verdict_of}
use Rattle.hexfile.proofs.array_verdict.Goals as goal

pub returns : goal.returns
unfolding array_verdict_of
returns c = rw (c.lent_verdict.ensures, c.id_size.ensures, c.facts_of-f.ensures.value)
