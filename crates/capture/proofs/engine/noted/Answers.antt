use native.Mathlib.Omega.{arith}
use Rattle.parts.proofs.Bytes.{flag_below}
use lib.Dec.{ltb}
use mathlib.Core.Path.{refl}
use Rattle.capture.proofs.engine.noted.Goals as goal

pub overflow_add-result-2 : goal.overflow_add-result-2
overflow_add-result-2 c = omega (arith, c.clock.ensures, flag_below (ltb c.args.code 2), c.requires)

pub overflow_add-result-3 : goal.overflow_add-result-3
overflow_add-result-3 c = omega (arith, c.requires, c.ranges)

pub returns : goal.returns
returns c = rw (c.clock.ensures, c.place_after.ensures, c.marked.ensures) refl
