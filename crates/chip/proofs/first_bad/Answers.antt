use Rattle.chip.proofs.Quick.{scan_clear, scan_fine}
use Rattle.chip.proofs.Laws.{scan_step, scan-stop, scan-end}
use Rattle.chip.specs.Calls.{scan_of}
use mathlib.Core.Path.{sym, ◌∙◌}
use native.Mathlib.Omega.{arith}
use Rattle.chip.proofs.first_bad.Goals as goal
use Rattle.chip.proofs.first_bad.Goals.{then-all_below-via-then-all_below, then-all_below-via-else-all_below+then-all_taken}

pub returns-then-all_below : goal.returns-then-all_below
returns-then-all_below c =
    let a = c.args in
    elim c.then-all_below.branch [
      | then-all_below-via-then-all_below w ↦ scan_clear a.pin 0 a.events.now (sym c.all_below.ensures ∙ w.if-all_below.true)
      | then-all_below-via-else-all_below+then-all_taken w ↦ scan_fine (scan_of a.pin 0 a.events.now) (sym w.all_taken.ensures ∙ w.if-all_taken.true)
    ]

pub returns-then-not-event_right : goal.returns-then-not-event_right
returns-then-not-event_right c =
    let a = c.args in
    let l = c.loop-i in
    scan-stop a.pin a.events.now l.i (omega arith) (sym c.event_right.ensures ∙ c.if-not-event_right.true) ∙ l.invariant

pub loop-i-preserved : goal.loop-i-preserved
loop-i-preserved c =
    let a = c.args in
    let l = c.loop-i in
    scan_step a.pin a.events.now l.i (omega arith) (sym c.event_right.ensures ∙ c.if-not-event_right.false) ∙ l.invariant

pub returns : goal.returns
returns c =
    let a = c.args in
    scan-end a.pin a.events.now c.loop-i.i (omega arith) ∙ c.loop-i.invariant
