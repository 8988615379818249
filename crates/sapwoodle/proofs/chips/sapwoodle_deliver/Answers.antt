use mathlib.Core.Path.{refl, sym, ap}
use borrow.Author.Tests.{eq-eqb, ne_eqb}
use Rattle.chip.specs.Memory.{Mem, mem}
use Rattle.sapwoodle.proofs.answers.Laws.{unheld_refused}
use Rattle.sapwoodle.specs.Chips.{deliver_verdict_in}
use Rattle.sapwoodle.proofs.chips.Laws.{delivers_nothing}
use Rattle.sapwoodle.proofs.chips.sapwoodle_deliver.Goals as goal

pub returns-then-state-ne-LENGTH : goal.returns-then-state-ne-LENGTH
unfolding deliver_verdict_in
returns-then-state-ne-LENGTH c =
    let w = ne_eqb _ _ c.if-state-ne-LENGTH.true in
    let a = c.args in
    let m = mem a.array.now a.id.now in
    let k = delivers_nothing a.part _ a.state.now m _ (unheld_refused a.part 0 m) in
    record { answer = rw (w, c.verdict_number.ensures, c.unheld.ensures) refl; state = rw w (sym k.0); cells = rw w (ap (λ (x : Mem). x.cells) (sym k.1)); ident = rw w (ap (λ (x : Mem). x.ident) (sym k.1)) }

pub returns : goal.returns
unfolding deliver_verdict_in
returns c =
    let w = eq-eqb _ _ c.if-state-ne-LENGTH.false in
    let d = c.deliver-d.ensures in
    let k = c.settle.ensures in
    record { answer = rw (w, k.answer, d.answer) refl; state = rw (w, k.kept, d.answer) refl; cells = rw (w, d.cells) refl; ident = rw (w, d.ident) refl }
