use Rattle.std.proofs.Common.{◌≡◌, ◌+◌, ◌-◌, ◌*◌, ◌≤◌, length, drop, length-drop, refl, sym, ap, ◌∙◌, arith}
use Rattle.std.proofs.Math.Seq.{length-take-le}
use Rattle.std.proofs.lemmas.Result.{err_from_is_err_and}
use Rattle.hexfile.specs.Steps.{found_of, taken_of}
use Rattle.hexfile.proofs.Records.{line_head, line_long, line_check, line_found, line_left, line_end, line_type}
use Rattle.hexfile.proofs.reading.take_digits.Goals as goal

pub returns-in_err-h : goal.returns-in_err-h
returns-in_err-h c =
    let p = err_from_is_err_and c.from_residual.result c.from_residual.ensures.1 in
    let l = c.args.line.now in
    let e = c.in_err-h.ensures in
    record { found = rw (p.1, p.2, e.0) (sym (ap (found_of c.args.cells.now) (line_head l c.requires.0 c.requires.1 e.1))); cells = rw p.1 tt }

pub returns-then-line-end : goal.returns-then-line-end
returns-then-line-end c =
    let l = c.args.line.now in
    let h = c.in_ok-h in
    record { found = sym (ap (found_of c.args.cells.now) (line_long l h.h c.requires.0 c.requires.1 h.ensures.0 h.ensures.1 c.if-line-end.true)); cells = tt }

pub returns-in_err-check : goal.returns-in_err-check
returns-in_err-check c =
    let f = c.from_residual-in_err-check in
    let p = err_from_is_err_and f.result f.ensures.1 in
    let l = c.args.line.now in
    let h = c.in_ok-h in
    let e = c.in_err-check.ensures in
    record { found = rw (p.1, p.2, e.0) (sym (ap (found_of c.args.cells.now) (line_check l h.h c.requires.0 c.requires.1 h.ensures.0 h.ensures.1 _ c.if-line-end.false refl e.1))); cells = rw p.1 tt }

pub take_data-requires : goal.take_data-requires
take_data-requires c =
    let l = c.args.line.now in
    let h = c.in_ok-h in
    let m : 2 * h.h.count + 9 - 9 ≤ length (drop 9 l) = simp length-drop (omega arith) in
    (length-take-le (2 * h.h.count + 9 - 9) (drop 9 l) m ∙ omega arith, h.ensures.2, h.ensures.3, omega (arith, h.ensures.4))

pub returns-then-h-eq0 : goal.returns-then-h-eq0
returns-then-h-eq0 c =
    let l = c.args.line.now in
    let cells = c.args.cells.now in
    let h = c.in_ok-h in
    let k = c.in_ok-check in
    let d = c.take_data in
    let m = 2 * h.h.count + 9 - 9 in
    let hm : m ≡ 2 * h.h.count = omega arith in
    let small : k.check ≤ 255 = omega (arith, k.ensures.0, k.ensures.1) in record { found = line_found l h.h c.requires.0 c.requires.1 h.ensures.0 h.ensures.1 k.check c.if-line-end.false k.ensures.0 cells d.new.cells m d.result small c.if-h-eq0.true hm d.ensures.found; cells = line_left l h.h c.requires.0 c.requires.1 h.ensures.0 h.ensures.1 k.check c.if-line-end.false k.ensures.0 cells d.new.cells m d.result small c.if-h-eq0.true hm d.ensures.found d.ensures.cells }

pub returns-then-ends : goal.returns-then-ends
returns-then-ends c =
    let l = c.args.line.now in
    let cells = c.args.cells.now in
    let h = c.in_ok-h in
    let k = c.in_ok-check in
    let e = line_end l h.h c.requires.0 c.requires.1 h.ensures.0 h.ensures.1 k.check c.if-line-end.false k.ensures.0 (sym c.ends.ensures ∙ c.if-ends.true) in
    record { found = sym (ap (found_of cells) e); cells = sym (ap (taken_of cells) e) }

pub returns-else-ends : goal.returns-else-ends
returns-else-ends c =
    let l = c.args.line.now in
    let cells = c.args.cells.now in
    let h = c.in_ok-h in
    let k = c.in_ok-check in
    let small : k.check ≤ 255 = omega (arith, k.ensures.0, k.ensures.1) in
    record { found = sym (ap (found_of cells) (line_type l h.h c.requires.0 c.requires.1 h.ensures.0 h.ensures.1 k.check c.if-line-end.false k.ensures.0 small c.if-h-eq0.false (sym c.ends.ensures ∙ c.if-ends.false))); cells = tt }
