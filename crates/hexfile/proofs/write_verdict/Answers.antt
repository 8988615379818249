use Rattle.hexfile.specs.Calls.{write_verdict_of}
use Rattle.hexfile.proofs.write_verdict.Goals as goal

pub returns : goal.returns
unfolding write_verdict_of
returns c = rw (c.sooner.ensures, c.claim-short.ensures, c.text_length.ensures, c.array_verdict.ensures)
