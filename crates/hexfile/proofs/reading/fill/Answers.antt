use Rattle.std.proofs.Common.{◌<◌, ◌≤◌, length, refl, sym, arith}
use Rattle.hexfile.proofs.Cells.{filling_more, filled}
use Rattle.hexfile.proofs.reading.fill.Goals as goal

pub loop-i-init : goal.loop-i-init
loop-i-init c = record { long = sym c.requires; filled = refl }

pub loop-i-preserved : goal.loop-i-preserved
loop-i-preserved c =
    let l = c.loop-i in
    let lt : l.i < length l.array = omega arith in
    rw c.blank.ensures (filling_more c.args.cells.now l.array l.i l.invariant lt)

pub returns : goal.returns
returns c =
    let l = c.loop-i in
    let all : length l.array ≤ l.i = omega arith in
    filled c.args.cells.now l.array l.i l.invariant all
