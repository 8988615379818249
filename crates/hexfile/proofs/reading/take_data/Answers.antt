use Rattle.std.proofs.Common.{◌≡◌, ◌+◌, ◌-◌, ◌<◌, length, arith}
use Rattle.std.proofs.lemmas.Result.{err_from_is_err_and}
use Rattle.hexfile.specs.File.{entered_of}
use Rattle.hexfile.specs.Record.{values_of}
use Rattle.hexfile.proofs.Values.{length-values}
use Rattle.hexfile.proofs.Rows.{bad_found, inside_found, inside_left, outside_found, outside_left}
use Rattle.hexfile.proofs.reading.take_data.Goals as goal

pub returns-in_err-row : goal.returns-in_err-row
returns-in_err-row c =
    let a = c.args in
    let p = err_from_is_err_and c.from_residual.result c.from_residual.ensures.1 in
    record { found = rw (p.1, p.2, c.in_err-row.ensures.0) (bad_found a.cells.now a.place a.sum (values_of a.digits.now) c.in_err-row.ensures.1); cells = rw p.1 tt }

pub returns-then-end-cells : goal.returns-then-end-cells
returns-then-end-cells c =
    let a = c.args in
    let e = c.enter in
    let f = c.row_found in
    let k = a.place + a.n - a.place in
    let hk : k ≡ a.n = omega arith in record { found = inside_found a.cells.now a.digits.now e.new.cells a.place a.n k a.sum c.in_ok-row.row f.result c.in_ok-row.ensures hk c.requires.0 (omega arith) f.ensures; cells = inside_left a.cells.now a.digits.now e.new.cells a.place a.n k a.sum c.in_ok-row.row f.result c.in_ok-row.ensures hk c.requires.0 (omega arith) f.ensures }

pub returns : goal.returns
returns c =
    let a = c.args in
    let f = c.beyond in
    let v = values_of a.digits.now in
    let out : length a.cells.now < a.place + length v = omega (arith, length-values a.digits.now, c.requires.0, c.if-end-cells.false) in record { found = outside_found a.cells.now v a.place a.sum f.result out f.ensures; cells = outside_left a.cells.now v a.place a.sum f.result out f.ensures _ }
