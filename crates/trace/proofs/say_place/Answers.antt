use native.Mathlib.Omega.{arith}
use Rattle.trace.proofs.say_place.Goals as goal

pub returns-in-None : goal.returns-in-None
returns-in-None c = record { count = omega (arith, c.say.ensures.count); text = rw c.in-None.is c.say.ensures.text }

pub returns-in-Some : goal.returns-in-Some
returns-in-Some c = record { count = omega (arith, c.say_counted.ensures.count); text = rw c.in-Some.is c.say_counted.ensures.text }
