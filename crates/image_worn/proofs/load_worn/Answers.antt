use mathlib.Core.Path.{◌∙◌, sym, refl}
use Rattle.image_worn.proofs.Laws.{either_room, load_worn_fine}
use Rattle.image_worn.proofs.load_worn.Goals as goal

pub fill-requires : goal.fill-requires
fill-requires c =
    let k = load_worn_fine _ _ _ _ _ (sym c.load_verdict.ensures ∙ c.in-Ok.is) in
    rw c.part_in-part.ensures (k.cells, k.stored, (either_room _ _ k.either).0)

pub load_counts-requires : goal.load_counts-requires
load_counts-requires c =
    let k = load_worn_fine _ _ _ _ _ (sym c.load_verdict.ensures ∙ c.in-Ok.is) in
    rw c.part_in-part.ensures (k.counts, (either_room _ _ k.either).1)

pub returns-in-Ok : goal.returns-in-Ok
returns-in-Ok c =
    let v = sym c.load_verdict.ensures ∙ c.in-Ok.is in
    let p = c.part_in-part.ensures in
    record { answer = rw (v, c.standby.ensures, c.lock_in-lock.ensures, p); cells = rw (v, c.fill.ensures.cells, p) refl; ident = rw (v, c.fill.ensures.ident, p) refl; counts = rw (v, c.load_counts.ensures, p) refl; worst = rw (v, c.most_of.ensures, c.load_counts.ensures, p) refl }

pub returns-in-Err : goal.returns-in-Err
returns-in-Err c =
    let v = sym c.load_verdict.ensures ∙ c.in-Err.is in
    record { answer = rw (v, c.standby-in-Err.ensures, c.part_in-part.ensures); cells = rw v refl; ident = rw v refl; counts = rw v refl; worst = rw v refl }
