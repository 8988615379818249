use lib.ListN.{length}
use Rattle.image.specs.Calls.{load_verdict_of}
use mathlib.Core.Path.{refl, sym, ◌∙◌, ap}
use Rattle.chip.specs.Memory.{Mem, mem}
use Rattle.image.specs.Layout.{part_in}
use Rattle.sapwoodle.proofs.answers.Laws.{unheld_refused}
use Rattle.sapwoodle.specs.Images.{load_verdict_in}
use Rattle.image.proofs.Kept.{load_verdict}
use Rattle.sapwoodle.proofs.images.Laws.{loads_nothing}
use Rattle.sapwoodle.proofs.images.sapwoodle_load.Goals as goal

pub returns-then-not-looks : goal.returns-then-not-looks
unfolding load_verdict_in
returns-then-not-looks c =
    let a = c.args in
    let m = mem a.array.now a.id.now in
    let w = sym c.looks.ensures ∙ c.if-not-looks.true in
    let p = c.part_in-own.ensures in
    let k = loads_nothing a.image.now _ a.state.now m _ (unheld_refused (part_in a.image.now) a.enable m) in
    record { answer = rw (w, c.verdict_number.ensures, c.unheld.ensures, p) refl; state = rw w (sym k.0); cells = rw w (ap (λ (x : Mem). x.cells) (sym k.1)); ident = rw w (ap (λ (x : Mem). x.ident) (sym k.1)); part = p }

pub returns : goal.returns
unfolding load_verdict_in
returns c =
    let a = c.args in
    let w = sym c.looks.ensures ∙ c.if-not-looks.false in
    let l = c.load-l.ensures in
    let k = c.settle.ensures in
    let v = load_verdict a.image.now (load_verdict_of a.image.now a.enable (length a.array.now) (length a.id.now)) in
    record { answer = rw (w, k.answer, l.answer, v) refl; state = rw (w, k.kept, l.answer, v) refl; cells = rw (w, l.cells) refl; ident = rw (w, l.ident) refl; part = c.part_in-own.ensures }
