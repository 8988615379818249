use Rattle.parts.proofs.Kit.{tests}
use Rattle.hexfile.proofs.reading.blank.Goals as goal

pub returns-then-v-lt256 : goal.returns-then-v-lt256
returns-then-v-lt256 c = simp (tests, c.if-v-lt256.true)

pub returns-else-v-lt256 : goal.returns-else-v-lt256
returns-else-v-lt256 c = simp (tests, c.if-v-lt256.false)
