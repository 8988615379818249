use native.Mathlib.Omega.{arith}
use Rattle.parts.specs.Table.{facts_of}
use Rattle.parts.proofs.Laws.{sound}
use Rattle.image_worn.specs.Layout.{worn_length_of}
use Rattle.image_worn.proofs.Laws.{length_most}
use Rattle.image_worn.proofs.worn_length.Goals as goal

pub overflow_add-result : goal.overflow_add-result
overflow_add-result c =
    let f = facts_of c.args.part in
    omega (arith, length_most f (sound c.args.part), c.image_length-n.ensures, c.group_count-k.ensures.range)

pub returns : goal.returns
unfolding worn_length_of
returns c = simp (← c.group_count-k.ensures.value, ← c.image_length-n.ensures)
