use lib.ListN.{length-take}
use Rattle.parts.specs.Table.{facts_of}
use native.Mathlib.Omega.{arith}
use Rattle.image_worn.proofs.Laws.{length_least, plain_from_lem}
use Rattle.image_worn.proofs.write_plain.Goals as goal

pub slice_bounds-copy-end : goal.slice_bounds-copy-end
slice_bounds-copy-end c = simp length-take (omega (arith, c.image_length-n.ensures, c.requires.0))

pub bounds-out-4 : goal.bounds-out-4
bounds-out-4 c = omega (arith, length_least (facts_of c.args.part), c.out-1.given, c.requires.1)

pub returns : goal.returns
returns c =
    let a = c.args in
    plain_from_lem (facts_of a.part) a.image.now a.out.now _ c.image_length-n.result c.image_length-n.ensures c.requires.0 c.requires.1 c.copy.ensures
