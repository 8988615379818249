use Prim.Native.Nat.{ℕ, ◌-◌}
use mathlib.Core.Path.{◌∙◌, ap}
use mathlib.Core.List.{List}
use lib.ListN.{set, length-take, length-drop, length-set}
use borrow.Rule.Slice.PartMut.{put_mid}
use Rattle.parts.specs.Table.{facts_of}
use Rattle.parts.specs.Bytes.{words_of}
use native.Mathlib.Omega.{arith}
use Rattle.image_worn.proofs.Laws.{length_least, worn_is, worn_put}
use Rattle.image_worn.proofs.put_worn.Goals as goal

pub bounds-out-4 : goal.bounds-out-4
bounds-out-4 c = omega (arith, length_least (facts_of c.args.part), worn_is (facts_of c.args.part))

pub slice_bounds-put_counts-count : goal.slice_bounds-put_counts-count
slice_bounds-put_counts-count c = omega (arith, length_least (facts_of c.args.part), worn_is (facts_of c.args.part), c.image_length-n.ensures, c.worn_length-end.ensures)

pub slice_bounds-put_counts-start : goal.slice_bounds-put_counts-start
slice_bounds-put_counts-start c = omega (arith, length_least (facts_of c.args.part), worn_is (facts_of c.args.part), c.image_length-n.ensures, c.worn_length-end.ensures)

pub slice_bounds-put_counts-end : goal.slice_bounds-put_counts-end
slice_bounds-put_counts-end c = simp length-set (omega (arith, length_least (facts_of c.args.part), worn_is (facts_of c.args.part), c.image_length-n.ensures, c.worn_length-end.ensures))

pub put_counts-requires : goal.put_counts-requires
put_counts-requires c = simp (length-take, length-drop, length-set) (omega (arith, length_least (facts_of c.args.part), worn_is (facts_of c.args.part), c.image_length-n.ensures, c.worn_length-end.ensures, c.requires.0, c.requires.1))

pub returns : goal.returns
returns c =
    let a = c.args in
    ap (λ (v : List ℕ). put_mid c.image_length-n.result (c.worn_length-end.result - c.image_length-n.result) (set a.out.now 4 2) v) c.put_counts.ensures
    ∙ worn_put (facts_of a.part) a.out.now (words_of a.counts.now) c.image_length-n.result c.worn_length-end.result c.image_length-n.ensures c.worn_length-end.ensures
