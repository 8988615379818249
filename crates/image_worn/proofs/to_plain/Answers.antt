use mathlib.Core.Path.{◌∙◌, sym, refl}
use Rattle.image_worn.proofs.Laws.{to_plain_fine}
use Rattle.image_worn.proofs.to_plain.Goals as goal

pub write_plain-requires : goal.write_plain-requires
write_plain-requires c =
    rw c.part_in-part.ensures (to_plain_fine _ _ (sym c.to_plain_verdict.ensures ∙ c.in-Ok.is))

pub returns-in-Ok : goal.returns-in-Ok
returns-in-Ok c =
    let v = sym c.to_plain_verdict.ensures ∙ c.in-Ok.is in
    record { answer = rw (v, c.image_length.ensures, c.part_in-part.ensures) refl; bytes = rw (v, c.write_plain.ensures, c.part_in-part.ensures) refl }

pub returns-in-Err : goal.returns-in-Err
returns-in-Err c =
    let v = sym c.to_plain_verdict.ensures ∙ c.in-Err.is in
    record { answer = rw (v, c.refused.ensures) refl; bytes = rw v refl }
