use mathlib.Core.Path.{refl}
use Rattle.chip.specs.Model.{cut_by}
use Rattle.chip.proofs.Turns.{stepped}
use Rattle.chip.proofs.take_with.Goals as goal

pub returns : goal.returns
returns c =
    let a = c.args in
    let t = c.stir-m in
    record { answer = stepped (cut_by a.loss a.page.now) _ _ _ _ _ _ t.result _ refl t.ensures.whole t.ensures.latches; cells = t.ensures.cells; ident = t.ensures.ident }
