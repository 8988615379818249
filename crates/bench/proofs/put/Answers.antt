use native.Mathlib.Omega.{arith}
use mathlib.Core.Path.{sym}
use lib.Seq.{set_out}
use Rattle.bench.proofs.put.Goals as goal

pub returns-else-at-to : goal.returns-else-at-to
returns-else-at-to c = sym (set_out _ _ _ (omega arith))
