use Rattle.std.proofs.Common.{refl, arith}
use Rattle.std.proofs.lemmas.Result.{err_from_is_err_and}
use Rattle.hexfile.proofs.Records.{no_count, no_high, no_low, no_kind, headed_by}
use Rattle.hexfile.proofs.reading.head_in.Goals as goal

pub returns-in_err-count : goal.returns-in_err-count
returns-in_err-count c =
    let f = c.from_residual in
    let p = err_from_is_err_and f.result f.ensures.1 in
    rw (p.1, p.2) (c.in_err-count.ensures.0, no_count c.args.line.now c.in_err-count.ensures.1)

pub returns-in_err-high : goal.returns-in_err-high
returns-in_err-high c =
    let f = c.from_residual-in_err-high in
    let p = err_from_is_err_and f.result f.ensures.1 in
    rw (p.1, p.2) (c.in_err-high.ensures.0, no_high c.args.line.now c.in_err-high.ensures.1)

pub returns-in_err-low : goal.returns-in_err-low
returns-in_err-low c =
    let f = c.from_residual-in_err-low in
    let p = err_from_is_err_and f.result f.ensures.1 in
    rw (p.1, p.2) (c.in_err-low.ensures.0, no_low c.args.line.now c.in_err-low.ensures.1)

pub returns-in_err-kind : goal.returns-in_err-kind
returns-in_err-kind c =
    let f = c.from_residual-in_err-kind in
    let p = err_from_is_err_and f.result f.ensures.1 in
    rw (p.1, p.2) (c.in_err-kind.ensures.0, no_kind c.args.line.now c.in_err-kind.ensures.1)

pub returns : goal.returns
returns c =
    let a = c.in_ok-count.ensures in
    let b = c.in_ok-high.ensures in
    let d = c.in_ok-low.ensures in
    let e = c.in_ok-kind.ensures in
    (rw (a.0, b.0, d.0, e.0) refl, headed_by c.args.line.now a.1 b.1 d.1 e.1, omega arith, omega arith, omega arith)
