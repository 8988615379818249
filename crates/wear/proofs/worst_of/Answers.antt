use mathlib.Core.Path.{refl, ◌∙◌, sym}
use Rattle.wear.proofs.worst_of.Goals as goal

pub returns-in-Ok : goal.returns-in-Ok
returns-in-Ok c = let v = sym c.counts_verdict-verdict.ensures ∙ c.in-Ok.is in rw (v, c.most_of.ensures) refl

pub returns-in-Err : goal.returns-in-Err
returns-in-Err c = let v = sym c.counts_verdict-verdict.ensures ∙ c.in-Err.is in rw (v, c.none.ensures) refl
