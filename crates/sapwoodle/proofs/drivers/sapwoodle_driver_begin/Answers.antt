use mathlib.Core.Path.{refl, sym}
use borrow.Author.Tests.{eq-eqb, ne_eqb}
use Rattle.sapwoodle.specs.Drivers.{begin_verdict_in}
use Rattle.sapwoodle.proofs.drivers.Laws.{roomless_refused, begins_nothing}
use Rattle.sapwoodle.proofs.drivers.sapwoodle_driver_begin.Goals as goal

pub returns-then-state-ne-LENGTH : goal.returns-then-state-ne-LENGTH
unfolding begin_verdict_in
returns-then-state-ne-LENGTH c =
    let w = ne_eqb _ _ c.if-state-ne-LENGTH.true in
    let u = c.roomless.ensures in
    record { answer = rw (w, c.verdict_number.ensures, u) refl; state = rw w (sym (begins_nothing _ _ _ (roomless_refused _ _))) }

pub returns : goal.returns
unfolding begin_verdict_in
returns c =
    let w = eq-eqb _ _ c.if-state-ne-LENGTH.false in
    let b = c.begin-b.ensures in
    let q = c.request.ensures in
    record { answer = rw (w, c.verdict_number-2.ensures, b, q) refl; state = rw (w, c.keep_begun.ensures, b, q) refl }
