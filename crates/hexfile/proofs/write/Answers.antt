use mathlib.Core.Path.{◌∙◌, sym, refl}
use Rattle.hexfile.proofs.Writes.{write_fine}
use Rattle.hexfile.proofs.write.Goals as goal

pub put_text-requires : goal.put_text-requires
put_text-requires c = let k = write_fine _ _ _ (sym c.write_verdict.ensures ∙ c.in-Ok.is) in (k.1, k.2)

pub returns-in-Ok : goal.returns-in-Ok
returns-in-Ok c =
    let v = sym c.write_verdict.ensures ∙ c.in-Ok.is in
    let k = write_fine _ _ _ v in
    record { answer = rw (v, ← k.0, c.put_text.ensures.length); bytes = rw (v, ← k.0) c.put_text.ensures.text }

pub returns-in-Err : goal.returns-in-Err
returns-in-Err c = let v = sym c.write_verdict.ensures ∙ c.in-Err.is in record { answer = rw v refl; bytes = rw v refl }
