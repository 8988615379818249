use Rattle.std.proofs.Common.{refl, ◌∙◌, arith}
use Rattle.hexfile.proofs.Writes.{rows_step, rows_end}
use Rattle.hexfile.proofs.writing.put_rows.Goals as goal

pub loop-i-init : goal.loop-i-init
loop-i-init c = (refl, refl)

pub loop-i-preserved : goal.loop-i-preserved
loop-i-preserved c =
    let l = c.loop-i in
    let a = c.args in
    let one = c.put_row in
    (c.out-1.given.1 ∙ l.invariant.0, rows_step l.out a.out.now a.array.now one.new.out l.i l.invariant.1 (omega arith) one.ensures)

pub returns : goal.returns
returns c =
    let l = c.loop-i in
    let a = c.args in
    rows_end l.out a.out.now a.array.now l.i a.rows l.invariant.1 (omega arith) (omega arith)
