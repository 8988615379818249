use mathlib.Core.Path.{◌∙◌, sym, refl}
use native.Mathlib.Omega.{arith}
use Rattle.parts.specs.Table.{facts_of}
use Rattle.parts.proofs.Laws.{sound}
use Rattle.wear.proofs.Laws.{counts_fine, groups_few}
use Rattle.wear.proofs.report.Goals as goal

pub walk-requires : goal.walk-requires
walk-requires c = let f = facts_of c.args.part in omega (arith, counts_fine f _ (sym c.counts_verdict-verdict.ensures ∙ c.in-Ok.is), groups_few f (sound c.args.part))

pub returns-in-Ok : goal.returns-in-Ok
returns-in-Ok c = let v = sym c.counts_verdict-verdict.ensures ∙ c.in-Ok.is in rw v c.walk.ensures

pub returns-in-Err : goal.returns-in-Err
returns-in-Err c = let v = sym c.counts_verdict-verdict.ensures ∙ c.in-Err.is in rw v refl
