use mathlib.Core.Path.{refl, ◌∙◌, sym}
use Rattle.parts.proofs.Claims.{sooner_fine}
use Rattle.chip.proofs.Laws.{run_fine}
use Rattle.wear.proofs.Grown.{raised_same}
use Rattle.wear.proofs.go_on.Goals as goal

pub go-requires : goal.go-requires
go-requires c = run_fine _ _ _ _ _ _ _ _ (sooner_fine _ _ (sym c.judge-verdict.ensures ∙ c.in-Ok.is)).1

pub returns-in-Ok : goal.returns-in-Ok
returns-in-Ok c = let w = sym c.judge-verdict.ensures ∙ c.in-Ok.is in let t = c.go.ensures in record { answer = rw w t.answer; stored = rw w t.stored; levels = rw w t.levels; counts = rw w t.counts; raised = t.raised }

pub returns-in-Err : goal.returns-in-Err
returns-in-Err c = let w = sym c.judge-verdict.ensures ∙ c.in-Err.is in record { answer = rw w c.refused.ensures.0; stored = rw w refl; levels = rw w refl; counts = rw w refl; raised = c.refused.ensures.1 ∙ c.none.ensures ∙ sym (raised_same _) }
