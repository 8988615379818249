use Rattle.image.proofs.Laws.{load_room}
use mathlib.Core.Path.{◌∙◌, sym, refl}
use Rattle.image.proofs.load.Goals as goal

pub fill-requires : goal.fill-requires
fill-requires c = load_room _ _ _ _ _ (sym c.load_verdict.ensures ∙ c.in-Ok.is) c.part_in-part.ensures

pub returns-in-Ok : goal.returns-in-Ok
returns-in-Ok c =
    let v = sym c.load_verdict.ensures ∙ c.in-Ok.is in
    record { answer = rw (v, c.standby.ensures, c.lock_in-lock.ensures, c.part_in-part.ensures); cells = rw (v, c.fill.ensures.cells, c.part_in-part.ensures) refl; ident = rw (v, c.fill.ensures.ident, c.part_in-part.ensures) refl }

pub returns-in-Err : goal.returns-in-Err
returns-in-Err c = let v = sym c.load_verdict.ensures ∙ c.in-Err.is in record { answer = rw (v, c.standby-in-Err.ensures, c.part_in-part.ensures); cells = rw v refl; ident = rw v refl }
