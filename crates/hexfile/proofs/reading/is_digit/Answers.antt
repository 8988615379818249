use Rattle.hexfile.proofs.Digits.{digit_test}
use Rattle.hexfile.proofs.reading.is_digit.Goals as goal

pub returns : goal.returns
returns c = digit_test c.args.b
