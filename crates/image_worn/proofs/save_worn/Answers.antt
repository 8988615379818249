use native.Mathlib.Omega.{arith}
use mathlib.Core.Path.{◌∙◌, sym, refl}
use Rattle.chip.specs.Memory.{mem}
use Rattle.image.proofs.Laws.{save_fine}
use Rattle.image_worn.proofs.Laws.{save_worn_fine, worn_written}
use Rattle.image_worn.proofs.save_worn.Goals as goal

pub put_worn-requires : goal.put_worn-requires
put_worn-requires c =
    let k = save_worn_fine _ _ _ _ _ _ (sym c.save_verdict.ensures ∙ c.in-Ok.is) in
    (k.counts, omega (arith, k.fits, c.out-1.given))

pub returns-in-Ok : goal.returns-in-Ok
returns-in-Ok c =
    let v = sym c.save_verdict.ensures ∙ c.in-Ok.is in
    let k = save_worn_fine _ _ _ _ _ _ v in
    let a = c.args in
    let s = save_fine _ _ _ _ _ k.plain in
    record { answer = rw (v, c.worn_length.ensures) refl; bytes = rw v (worn_written a.part a.chip.line.core.locked (mem a.array.now a.id.now) a.counts.now a.out.now _ _ record { cells = s.cells; ident = s.ident } (rw k.plain at c.save.ensures.bytes) c.put_worn.ensures) }

pub returns-in-Err : goal.returns-in-Err
returns-in-Err c =
    let v = sym c.save_verdict.ensures ∙ c.in-Err.is in
    record { answer = rw (v, c.refused.ensures) refl; bytes = rw v refl }
