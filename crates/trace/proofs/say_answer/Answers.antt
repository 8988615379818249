use Rattle.trace.proofs.Texts.{said_lines}
use native.Mathlib.Omega.{arith}
use Rattle.trace.proofs.say_answer.Goals as goal

pub returns : goal.returns
returns c =
    let first = c.say_counted-a.ensures in
    let second = c.say-b.ensures in
    let third = c.say-c.ensures in
    let fourth = c.say_counted.ensures in
    record { count = omega (arith, fourth.count, third.count, second.count, first.count, c.requires); text = said_lines _ _ _ _ _ _ _ first.text second.text third.text fourth.text }
