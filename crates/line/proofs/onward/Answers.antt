use Rattle.line.proofs.Laws.{before_lt}
use Rattle.parts.specs.Table.{facts_of}
use Rattle.parts.proofs.Laws.{sound}
use native.Mathlib.Omega.{arith}
use Rattle.line.proofs.onward.Goals as goal

pub overflow_add-result : goal.overflow_add-result
overflow_add-result c =
    omega (arith, c.before-last.ensures, before_lt (facts_of c.args.part).page c.args.counter (sound c.args.part).page_pos (sound c.args.part).even (omega arith))
