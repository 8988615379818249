use Rattle.chip.specs.Memory.{counter_page_of}
use Rattle.line.proofs.Laws.{page_room}
use native.Mathlib.Omega.{arith}
use Rattle.chip.proofs.page_start.Goals as goal

pub overflow_mul-result : goal.overflow_mul-result
overflow_mul-result c = omega (arith, page_room 65536 c.facts_of-p.result.page c.args.counter c.facts_of-p.ensures.range.page_pos c.facts_of-p.ensures.range.even (omega arith))

pub returns : goal.returns
unfolding counter_page_of
returns c = record { value = simp (← c.facts_of-p.ensures.value); range = omega (arith, page_room 65536 c.facts_of-p.result.page c.args.counter c.facts_of-p.ensures.range.page_pos c.facts_of-p.ensures.range.even (omega arith)) }
