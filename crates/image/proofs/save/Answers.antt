use Rattle.image.proofs.Laws.{save_room}
use mathlib.Core.Path.{◌∙◌, sym, refl}
use Rattle.image.proofs.save.Goals as goal

pub write-requires : goal.write-requires
write-requires c = (save_room _ _ _ _ _ (sym c.save_verdict.ensures ∙ c.in-Ok.is)).1

pub returns-in-Ok : goal.returns-in-Ok
returns-in-Ok c =
    let v = sym c.save_verdict.ensures ∙ c.in-Ok.is in
    record { answer = rw (v, c.image_length.ensures); bytes = rw (v, (save_room _ _ _ _ _ v).0) c.write.ensures }

pub returns-in-Err : goal.returns-in-Err
returns-in-Err c = let v = sym c.save_verdict.ensures ∙ c.in-Err.is in record { answer = rw v refl; bytes = rw v refl }
