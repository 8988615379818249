use lib.ListN.{length-set}
use Rattle.chip.specs.Delivery.{coded_of}
use Rattle.chip.proofs.Laws.{coded_room}
use native.Mathlib.Omega.{arith}
use Rattle.chip.proofs.code.Goals as goal

pub bounds-id-0 : goal.bounds-id-0
bounds-id-0 c = omega (arith, rw c.facts_of-f.ensures.value at (coded_room _ c.facts_of-f.ensures.range c.if-f.true))

pub bounds-id-1 : goal.bounds-id-1
bounds-id-1 c = simp length-set (omega (arith, rw c.facts_of-f.ensures.value at (coded_room _ c.facts_of-f.ensures.range c.if-f.true)))

pub bounds-id-2 : goal.bounds-id-2
bounds-id-2 c = simp length-set (omega (arith, rw c.facts_of-f.ensures.value at (coded_room _ c.facts_of-f.ensures.range c.if-f.true)))

pub returns-then-f : goal.returns-then-f
unfolding coded_of
returns-then-f c = simp (← c.facts_of-f.ensures.value, c.if-f.true)

pub returns-else-f : goal.returns-else-f
unfolding coded_of
returns-else-f c = simp (← c.facts_of-f.ensures.value, c.if-f.false)
