use mathlib.Core.Path.{refl}
use Rattle.line.specs.Rules.{move_of}
use Rattle.chip.proofs.stir.Goals as goal

pub returns : goal.returns
unfolding move_of
returns c =
    let ev = c.event_with-event.ensures in
    let st = c.store_at.ensures in
    record { whole = rw (c.advance-m.ensures, c.seen-byte.ensures, ev); latches = rw (c.keep.ensures, c.advance-m.ensures, ev) refl; cells = rw (st.cells, ev) refl; ident = rw (st.ident, ev) refl }
