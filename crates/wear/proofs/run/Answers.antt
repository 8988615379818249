use mathlib.Core.Path.{refl, ◌∙◌, sym}
use Rattle.parts.proofs.Claims.{sooner_fine}
use Rattle.chip.proofs.Laws.{run_fine}
use Rattle.wear.proofs.Grown.{born_fine, worst_kept}
use Rattle.wear.proofs.Stretches.{grew_worn}
use Rattle.wear.proofs.run.Goals as goal

pub go-gone-requires : goal.go-gone-requires
go-gone-requires c = let v = sym c.sooner-verdict.ensures ∙ c.in-Ok.is in run_fine _ _ _ _ _ _ _ _ (sooner_fine _ _ (sym c.judge-judged.ensures ∙ (sooner_fine c.verdict-borne.result c.judge-judged.result v).1)).1

pub returns-in-Ok : goal.returns-in-Ok
returns-in-Ok c =
    let v = sym c.sooner-verdict.ensures ∙ c.in-Ok.is in
    let t = c.go-gone.ensures in
    let b = born_fine c.args.counts.now c.args.worst (sym c.verdict-borne.ensures ∙ (sooner_fine c.verdict-borne.result c.judge-judged.result v).0) in
    record { answer = rw (← c.verdict-borne.ensures, ← c.judge-judged.ensures) (rw v t.answer); stored = rw (← c.verdict-borne.ensures, ← c.judge-judged.ensures) (rw v t.stored); levels = rw (← c.verdict-borne.ensures, ← c.judge-judged.ensures) (rw v t.levels); counts = rw (← c.verdict-borne.ensures, ← c.judge-judged.ensures) (rw v t.counts); worst = rw (← c.verdict-borne.ensures, ← c.judge-judged.ensures) (rw v (c.worse.ensures ∙ rw (b, t.raised, t.counts) (worst_kept _ _ (grew_worn _ _ _ _ _)))) }

pub returns-in-Err : goal.returns-in-Err
returns-in-Err c = let w = sym c.sooner-verdict.ensures ∙ c.in-Err.is in record { answer = rw (← c.verdict-borne.ensures, ← c.judge-judged.ensures) (rw w c.refused.ensures.0); stored = rw (← c.verdict-borne.ensures, ← c.judge-judged.ensures) (rw w refl); levels = rw (← c.verdict-borne.ensures, ← c.judge-judged.ensures) (rw w refl); counts = rw (← c.verdict-borne.ensures, ← c.judge-judged.ensures) (rw w refl); worst = rw (← c.verdict-borne.ensures, ← c.judge-judged.ensures) (rw w c.refused.ensures.1) }
