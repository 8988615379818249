use mathlib.Core.Path.{refl}
use borrow.Author.Rules.{rules}
use Rattle.capture.proofs.engine.stirred.Goals as goal

pub returns : goal.returns
returns c =
    let t = c.take-s in
    record { step = record { state = rw t.ensures.answer refl; stored = rw (t.ensures.cells, t.ensures.ident) refl; level = rw t.ensures.answer refl; begun = rw t.ensures.answer refl }; room = search rules }
