use Rattle.parts.proofs.Kit.{tests}
use Rattle.capture.proofs.engine.clock.Goals as goal

pub returns-then-code-lt2 : goal.returns-then-code-lt2
returns-then-code-lt2 c = search tests

pub returns-else-code-lt2 : goal.returns-else-code-lt2
returns-else-code-lt2 c = search tests
