use Rattle.image.proofs.Laws.{id_most}
use native.Mathlib.Omega.{arith}
use Rattle.image.specs.Layout.{image_length_of}
use Rattle.image.proofs.image_length.Goals as goal

pub overflow_add-result-2 : goal.overflow_add-result-2
overflow_add-result-2 c =
    let own = id_most c.facts_of-f.result c.facts_of-f.ensures.range.page_most in
    omega (arith, c.id_size-own.ensures, c.facts_of-f.ensures.range.size_most)

pub returns : goal.returns
unfolding image_length_of
returns c = simp (← c.id_size-own.ensures, ← c.facts_of-f.ensures.value)
