use Rattle.chip.proofs.Laws.{deliver_fine}
use mathlib.Core.Path.{◌∙◌, sym, refl}
use Rattle.chip.proofs.deliver.Goals as goal

-- src/lib.rt:453:13
pub blank_all-requires : goal.blank_all-requires
blank_all-requires c = deliver_fine _ _ _ (sym c.deliver_verdict-verdict.ensures ∙ c.in-Ok.is)

-- src/lib.rt:444:1
pub returns-in-Ok : goal.returns-in-Ok
returns-in-Ok c = let v = sym c.deliver_verdict-verdict.ensures ∙ c.in-Ok.is in record { answer = rw (v, c.standby-chip.ensures); cells = rw (v, c.blank_all.ensures.cells) refl; ident = rw (v, c.blank_all.ensures.ident) refl }

-- src/lib.rt:444:1
pub returns-in-Err : goal.returns-in-Err
returns-in-Err c = let v = sym c.deliver_verdict-verdict.ensures ∙ c.in-Err.is in record { answer = rw (v, c.standby-chip.ensures); cells = rw v refl; ident = rw v refl }
