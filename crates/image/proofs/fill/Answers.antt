use Rattle.image.proofs.Laws.{part_cells, part_ident}
use Rattle.parts.specs.Table.{facts_of}
use lib.ListN.{length}
use mathlib.Core.Path.{◌∙◌, refl}
use native.Mathlib.Omega.{arith}
use Rattle.image.proofs.fill.Goals as goal

pub returns : goal.returns
returns c =
    let a = c.args in
    let f = facts_of a.part in
    record { cells = c.copy.ensures ∙ part_cells f a.image.now a.array.now (length a.array.now) c.requires.0 refl (omega arith); ident = c.copy-2.ensures ∙ part_ident f a.image.now a.id.now (length a.array.now) c.requires.0 c.requires.1 }
