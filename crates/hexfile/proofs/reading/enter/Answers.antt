use Rattle.std.proofs.Common.{◌+◌, ◌*◌, ◌<◌, ◌≤◌, length, get_or, refl, sym, arith}
use Rattle.std.proofs.lemmas.Result.{err_from_is_err_and}
use Rattle.hexfile.specs.Record.{pair_of}
use Rattle.hexfile.proofs.Values.{entering, entering_bad, entering_more, entered, free_more}
use Rattle.hexfile.proofs.reading.enter.Goals as goal

pub loop-i-init : goal.loop-i-init
loop-i-init c = entering c.args.digits.now c.args.cells.now

pub returns-in_err-v : goal.returns-in_err-v
returns-in_err-v c =
    let l = c.loop-i in
    let a = c.args in
    let p = err_from_is_err_and c.from_residual.result c.from_residual.ensures.1 in
    let x = pair_of (get_or a.digits.now (2 * l.i) 0) (get_or a.digits.now (2 * l.i + 1) 0) in
    let lt : l.i < length l.cells = omega arith in
    rw (p.1, p.2) (c.in_err-v.ensures.0, sym (entering_bad a.digits.now a.cells.now l.cells l.free l.sum l.i x l.invariant lt c.requires.0 refl c.in_err-v.ensures.1))

pub loop-i-preserved : goal.loop-i-preserved
loop-i-preserved c =
    let l = c.loop-i in
    let a = c.args in
    let v = c.in_ok-v in
    let lt : l.i < length l.cells = omega arith in
    entering_more a.digits.now a.cells.now l.cells l.free l.sum l.i v.v l.invariant lt c.requires.0 v.ensures.0 (omega (arith, v.ensures.0, v.ensures.1)) _
    (free_more l.free (get_or l.cells l.i 0))

pub returns : goal.returns
returns c =
    let l = c.loop-i in
    let a = c.args in
    let done : length l.cells ≤ l.i = omega arith in
    entered a.digits.now a.cells.now l.cells l.free l.sum l.i l.invariant done c.requires.0 (omega arith)
