use mathlib.Core.Path.{◌∙◌, sym}
use Rattle.capture.specs.Tallies.{counted_of}
use Rattle.capture.proofs.Sampled.{judge_fine}
use Rattle.capture.proofs.tallied_by.Goals as goal

pub tally_all-requires : goal.tally_all-requires
tally_all-requires c = judge_fine c.args.samples.now (sym c.judge.ensures ∙ c.in-Ok.is)

pub returns-in-Ok : goal.returns-in-Ok
unfolding counted_of
returns-in-Ok c = simp (c.tally_all.ensures, c.in-Ok.is, ← c.judge.ensures)

pub returns-in-Err : goal.returns-in-Err
unfolding counted_of
returns-in-Err c = simp (c.in-Err.is, ← c.judge.ensures)
