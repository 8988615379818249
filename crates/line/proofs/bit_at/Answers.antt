use Rattle.line.proofs.Laws.{send_past}
use native.Mathlib.Omega.{arith}
use mathlib.Core.Path.{sym}
use Rattle.line.proofs.bit_at.Goals as goal

pub returns-else-left-le8 : goal.returns-else-left-le8
returns-else-left-le8 c = sym (send_past c.args.byte c.args.left (omega arith) (omega arith))
