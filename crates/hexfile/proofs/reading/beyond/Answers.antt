use Rattle.std.proofs.Common.{[]}
use Rattle.std.proofs.lemmas.Result.{err_from_is_err_and}
use Rattle.hexfile.specs.Record.{values_of}
use Rattle.hexfile.proofs.Rows.{bad_found, beyond_found}
use Rattle.hexfile.proofs.reading.beyond.Goals as goal

pub returns-in_err-row : goal.returns-in_err-row
returns-in_err-row c =
    let p = err_from_is_err_and c.from_residual.result c.from_residual.ensures.1 in
    rw (p.1, p.2, c.in_err-row.ensures.0) (bad_found [] 1 c.args.sum (values_of c.args.digits.now) c.in_err-row.ensures.1)

pub returns : goal.returns
returns c =
    let a = c.args in
    beyond_found a.digits.now _ _ a.sum c.in_ok-row.row c.row_found.result c.in_ok-row.ensures c.row_found.ensures
