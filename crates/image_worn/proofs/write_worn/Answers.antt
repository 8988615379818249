use lib.ListN.{length-set}
use Rattle.parts.specs.Table.{facts_of}
use native.Mathlib.Omega.{arith}
use Rattle.image_worn.proofs.Laws.{length_least, worn_is, worn_from_lem}
use Rattle.image_worn.proofs.write_worn.Goals as goal

pub bounds-out-4 : goal.bounds-out-4
bounds-out-4 c = omega (arith, length_least (facts_of c.args.part), worn_is (facts_of c.args.part), c.worn_length-end.ensures, c.out-1.given, c.requires.0, c.requires.1)

pub slice_bounds-fill-count : goal.slice_bounds-fill-count
slice_bounds-fill-count c = omega (arith, worn_is (facts_of c.args.part), c.worn_length-end.ensures, c.requires.0)

pub slice_bounds-fill-start : goal.slice_bounds-fill-start
slice_bounds-fill-start c = (omega (arith, length_least (facts_of c.args.part), worn_is (facts_of c.args.part), c.worn_length-end.ensures, c.out-1.given, c.requires.0, c.requires.1))

pub slice_bounds-fill-end : goal.slice_bounds-fill-end
slice_bounds-fill-end c = simp length-set (omega (arith, length_least (facts_of c.args.part), worn_is (facts_of c.args.part), c.worn_length-end.ensures, c.out-1.given, c.requires.0, c.requires.1))

pub returns : goal.returns
returns c =
    let a = c.args in
    worn_from_lem (facts_of a.part) a.image.now a.out.now _ _ c.worn_length-end.result c.requires.0 c.worn_length-end.ensures c.requires.1 c.copy.ensures (c.fill.ensures.after (λ y e. e))
