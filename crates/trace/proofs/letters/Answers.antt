use native.Mathlib.Omega.{arith}
use native.Mathlib.Nat.{zero-add}
use Rattle.trace.proofs.Laws.{letters_none}
use Rattle.parts.proofs.Kit.{tests}
use Rattle.trace.proofs.letters.Goals as goal

pub returns-then-text-ge4 : goal.returns-then-text-ge4
returns-then-text-ge4 c = record { bytes = c.letters_of.ensures.bytes; uncopied = simp (tests, c.if-text-ge4.true) c.letters_of.ensures.uncopied }

pub returns-else-text-ge4 : goal.returns-else-text-ge4
returns-else-text-ge4 c = record { bytes = letters_none c.args.text.now (omega arith); uncopied = simp (tests, c.if-text-ge4.false, zero-add) }
