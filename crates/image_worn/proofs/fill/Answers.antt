use mathlib.Core.Path.{◌∙◌, refl}
use lib.ListN.{length}
use native.Mathlib.Omega.{arith}
use Rattle.parts.specs.Table.{facts_of}
use Rattle.image_worn.proofs.Laws.{mid_cells, mid_ident}
use Rattle.image_worn.proofs.fill.Goals as goal

pub overflow_add-last : goal.overflow_add-last
overflow_add-last c = omega arith

pub returns : goal.returns
returns c =
    let a = c.args in
    let n = length a.array.now in
    let d = length a.id.now in
    record { cells = c.copy.ensures ∙ mid_cells (facts_of a.part) a.image.now n d c.requires.0 c.requires.1 c.requires.2 a.array.now refl; ident = c.copy-2.ensures ∙ mid_ident (facts_of a.part) a.image.now n d c.requires.0 c.requires.1 c.requires.2 a.id.now refl }
