use Rattle.chip.proofs.Laws.{run_fine}
use mathlib.Core.Path.{◌∙◌, sym, refl}
use Rattle.chip.proofs.run.Goals as goal

-- src/lib.rt:600:26
pub go-requires : goal.go-requires
go-requires c = run_fine _ _ _ _ _ _ _ _ (sym c.run_verdict-verdict.ensures ∙ c.in-Ok.is)

-- src/lib.rt:577:1
pub returns-in-Ok : goal.returns-in-Ok
returns-in-Ok c = let v = sym c.run_verdict-verdict.ensures ∙ c.in-Ok.is in let t = c.go.ensures in record { answer = rw v t.answer; stored = rw v t.stored; levels = rw v t.levels }

-- src/lib.rt:577:1
pub returns-in-Err : goal.returns-in-Err
returns-in-Err c = let v = sym c.run_verdict-verdict.ensures ∙ c.in-Err.is in record { answer = rw v refl; stored = rw v refl; levels = rw v refl }
