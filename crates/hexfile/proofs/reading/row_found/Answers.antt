use Rattle.parts.proofs.Kit.{tests}
use Rattle.hexfile.specs.Steps.{row_found_of}
use Rattle.hexfile.proofs.reading.row_found.Goals as goal

pub returns-then-sum-row-ne0 : goal.returns-then-sum-row-ne0
unfolding row_found_of
returns-then-sum-row-ne0 c = simp (tests, c.if-sum-row-ne0.true)

pub returns-then-inside-row : goal.returns-then-inside-row
unfolding row_found_of
returns-then-inside-row c = simp (c.if-inside-row.true, c.if-sum-row-ne0.false)

pub returns-else-inside-row : goal.returns-else-inside-row
unfolding row_found_of
returns-else-inside-row c = simp (c.if-inside-row.false, c.if-sum-row-ne0.false)
