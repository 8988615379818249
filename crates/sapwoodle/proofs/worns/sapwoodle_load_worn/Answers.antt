use lib.ListN.{length}
use Rattle.image_worn.specs.Calls.{load_worn_verdict_of, load_worn_by, loading_worn}
use mathlib.Core.Path.{refl, sym, ◌∙◌, ap}
use Rattle.chip.specs.Memory.{Mem, mem}
use Rattle.image.specs.Layout.{part_in}
use Rattle.sapwoodle.specs.Worns.{load_worn_verdict_in}
use Rattle.image.proofs.Kept.{load_verdict}
use Rattle.wear.specs.declared.Most.{Most}
use Rattle.wear.specs.Report.{most}
use Rattle.sapwoodle.specs.Worns.{unheld_worn_of}
use Rattle.sapwoodle.proofs.worns.Laws.{unheld_worn_refused, loads_nothing, worst_held, found_or_held}
use Rattle.sapwoodle.proofs.worns.sapwoodle_load_worn.Goals as goal

pub returns-then-not-looks : goal.returns-then-not-looks
unfolding load_worn_verdict_in
returns-then-not-looks c =
    let a = c.args in
    let m = mem a.array.now a.id.now in
    let w = sym c.looks.ensures ∙ c.if-not-looks.true in
    let p = c.part_in-own.ensures in
    let g = worst_held (most a.group.now a.count.now) (load_worn_by a.image.now m a.counts.now (unheld_worn_of (part_in a.image.now) a.enable m (length a.counts.now))).counts (unheld_worn_of (part_in a.image.now) a.enable m (length a.counts.now)) (unheld_worn_refused (part_in a.image.now) a.enable m (length a.counts.now)) in
    let k = loads_nothing a.image.now _ a.state.now m a.counts.now _ (unheld_worn_refused (part_in a.image.now) a.enable m (length a.counts.now)) in
    record { answer = rw (w, c.verdict_number.ensures, c.unheld.ensures, p) refl; state = rw w (sym k.0); cells = rw w (ap (λ (x : Mem). x.cells) (sym k.1)); ident = rw w (ap (λ (x : Mem). x.ident) (sym k.1)); counts = rw w (sym k.2); part = p; group = rw w (ap (λ (z : Most). z.group) (sym g)); count = rw w (ap (λ (z : Most). z.count) (sym g)) }

pub returns : goal.returns
unfolding load_worn_verdict_in
returns c =
    let a = c.args in
    let w = sym c.looks.ensures ∙ c.if-not-looks.false in
    let l = c.load_worn-l.ensures in
    let f = c.found_or-worst.ensures in
    let k = c.settle.ensures in
    let v = load_verdict a.image.now (load_worn_verdict_of a.image.now a.enable (length a.array.now) (length a.id.now) (length a.counts.now)) in
    let e = found_or_held (most a.group.now a.count.now) (loading_worn a.image.now a.enable (mem a.array.now a.id.now) a.counts.now).counts (load_worn_verdict_of a.image.now a.enable (length a.array.now) (length a.id.now) (length a.counts.now)) in
    record { answer = rw (w, k.answer, l.answer, v) refl; state = rw (w, k.kept, l.answer, v) refl; cells = rw (w, l.cells) refl; ident = rw (w, l.ident) refl; counts = rw (w, l.counts) refl; part = c.part_in-own.ensures; group = rw (w, f, l.worst, l.answer, v) (ap (λ (z : Most). z.group) e); count = rw (w, f, l.worst, l.answer, v) (ap (λ (z : Most). z.count) e) }
