use mathlib.Core.Path.{refl}
use Rattle.bench.proofs.Laws.{driven}
use Rattle.bench.proofs.Taped.{taped}
use Rattle.bench.proofs.drive.Goals as goal

pub go-gone-requires : goal.go-gone-requires
go-gone-requires c = record { fit = c.requires.fit; none = (refl, refl); first = c.requires.first; worst = c.requires.worst }

pub returns : goal.returns
returns c =
    let a = c.args in
    let g = c.begin-begun in
    let w = c.go-gone in
    let x = driven _ _ _ _ a.request a.chip _ _ _ _ g.result a.worst w.result.held _ w.result.answer c.reported-report.result g.ensures w.ensures.together w.ensures.last c.reported-report.ensures in
    let y = taped _ _ _ _ a.request a.chip _ _ g.result a.worst g.ensures _ _ _ _ _ _ _ w.ensures.sent w.ensures.events w.ensures.levels w.ensures.counts in
    record { answer = x.0; stored = x.1.0; bytes = x.1.1; sent = y.0; events = y.1.0; levels = y.1.1.0; counts = y.1.1.1; worst = w.ensures.worst }
