use Rattle.std.proofs.Common.{arith, refl}
use Rattle.hexfile.proofs.Digits.{pair_right, pair_wrong}
use Rattle.hexfile.proofs.reading.pair.Goals as goal

pub returns-then-is_digit : goal.returns-then-is_digit
returns-then-is_digit c =
    let all = pair_right c.args.a c.args.b _ _ c.is_digit.ensures c.is_digit-2.ensures c.digit.result c.digit-then-is_digit.result c.if-is_digit.true c.digit.ensures.value c.digit-then-is_digit.ensures.value in
    (all.0, omega (arith, all.0, all.1))

pub returns-else-is_digit : goal.returns-else-is_digit
returns-else-is_digit c = (refl, omega (arith, pair_wrong c.args.a c.args.b _ _ c.is_digit.ensures c.is_digit-2.ensures c.if-is_digit.false))
