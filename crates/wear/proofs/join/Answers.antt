use mathlib.Core.Path.{◌∙◌, sym, refl}
use Rattle.parts.specs.Table.{facts_of}
use Rattle.wear.proofs.Laws.{join_fine}
use Rattle.wear.proofs.join.Goals as goal

pub join_all-requires : goal.join_all-requires
join_all-requires c = join_fine (facts_of c.args.part) _ _ (rw (← c.counts_verdict-mine.ensures, ← c.counts_verdict.ensures) (sym c.sooner-verdict.ensures ∙ c.in-Ok.is))

pub returns-in-Ok : goal.returns-in-Ok
returns-in-Ok c = let w = sym c.sooner-verdict.ensures ∙ c.in-Ok.is in let j = c.join_all.ensures in record { answer = rw (← c.counts_verdict-mine.ensures, ← c.counts_verdict.ensures) (sym w); counts = rw (← c.counts_verdict-mine.ensures, ← c.counts_verdict.ensures) (rw w j) }

pub returns-in-Err : goal.returns-in-Err
returns-in-Err c = let w = sym c.sooner-verdict.ensures ∙ c.in-Err.is in record { answer = rw (← c.counts_verdict-mine.ensures, ← c.counts_verdict.ensures) (sym w); counts = rw (← c.counts_verdict-mine.ensures, ← c.counts_verdict.ensures) (rw w refl) }
