use Rattle.hexfile.proofs.Digits.{digit_value}
use Rattle.hexfile.proofs.reading.digit.Goals as goal

pub returns-clause-value : goal.returns-clause-value
returns-clause-value c = digit_value c.args.b
