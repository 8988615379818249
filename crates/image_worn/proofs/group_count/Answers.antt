use Rattle.parts.specs.Table.{groups_of}
use Rattle.wear.proofs.Laws.{groups_few}
use Rattle.image_worn.proofs.group_count.Goals as goal

pub returns : goal.returns
unfolding groups_of
returns c = let f = c.facts_of-f in record { value = simp (← f.ensures.value); range = groups_few f.result f.ensures.range }
