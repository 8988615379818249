use mathlib.Core.Path.{◌∙◌, sym, refl}
use Rattle.chip.proofs.step.Goals as goal

-- src/lib.rt:490:1
pub returns-in-Ok : goal.returns-in-Ok
returns-in-Ok c = let v = sym c.step_verdict-verdict.ensures ∙ c.in-Ok.is in let t = c.take_with.ensures in record { answer = rw v t.answer; cells = rw v t.cells; ident = rw v t.ident }

-- src/lib.rt:490:1
pub returns-in-Err : goal.returns-in-Err
returns-in-Err c = let v = sym c.step_verdict-verdict.ensures ∙ c.in-Err.is in record { answer = rw v refl; cells = rw v refl; ident = rw v refl }
