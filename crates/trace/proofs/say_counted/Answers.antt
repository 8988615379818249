use Rattle.trace.specs.Trace.{decimal_of, newline}
use lib.ListN.{take}
use Rattle.trace.proofs.Texts.{chain, decimal_short}
use native.Mathlib.Omega.{arith}
use Rattle.trace.proofs.say_counted.Goals as goal

pub say-requires : goal.say-requires
say-requires c = omega (arith, c.say_number-b.ensures.count, c.say-a.ensures.count, decimal_short c.args.n, c.requires)

pub returns : goal.returns
returns c =
    let a = c.args in
    let first = c.say-a.ensures in
    let second = c.say_number-b.ensures in
    let third = c.say.ensures in
    record { count = omega (arith, third.count, second.count, first.count, decimal_short a.n); text = chain (take a.at a.buf.now) a.word.now (decimal_of a.n) newline _ _ _ first.text second.text third.text }
