use mathlib.Core.Path.{sym, ◌∙◌}
use Rattle.page.proofs.Laws.{room}
use Rattle.page.proofs.look.Goals as goal

pub page-requires : goal.page-requires
page-requires c = rw c.facts_of.ensures.value (room _ _ _ _ (sym c.look_refusal.ensures ∙ c.in-Ok.is))
