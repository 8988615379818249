use Rattle.std.proofs.Common.{sym, ap}
use Rattle.hexfile.specs.Steps.{found_of}
use Rattle.hexfile.proofs.Records.{too_short, no_colon}
use Rattle.hexfile.proofs.reading.take_line.Goals as goal
use Rattle.hexfile.proofs.reading.take_line.Goals.{else-line-gt10-via-then-line-gt10+else-line-eq58, else-line-gt10-via-else-line-gt10}

pub returns-else-line-gt10 : goal.returns-else-line-gt10
returns-else-line-gt10 c =
    let a = c.args in
    elim c.else-line-gt10.branch [
      | else-line-gt10-via-then-line-gt10+else-line-eq58 w ↦ record { found = sym (ap (found_of a.cells.now) (no_colon a.line.now w.if-line-eq58.false)); cells = tt }
      | else-line-gt10-via-else-line-gt10 w ↦ record { found = sym (ap (found_of a.cells.now) (too_short a.line.now w.if-line-gt10.false)); cells = tt }
    ]
