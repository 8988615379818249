use Rattle.capture.proofs.Finish.{seen_fine}
use mathlib.Core.Path.{◌∙◌, sym, refl}
use Rattle.capture.proofs.run.Goals as goal

pub go-requires : goal.go-requires
go-requires c = seen_fine _ _ _ _ _ _ (sym c.seen_verdict.ensures ∙ c.in-Ok.is)

pub returns-in-Ok : goal.returns-in-Ok
returns-in-Ok c = let v = sym c.seen_verdict.ensures ∙ c.in-Ok.is in let t = c.go.ensures in record { answer = rw v t.answer; stored = rw v t.stored }

pub returns-in-Err : goal.returns-in-Err
returns-in-Err c = let v = sym c.seen_verdict.ensures ∙ c.in-Err.is in record { answer = rw v refl; stored = rw v refl }
