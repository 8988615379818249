use mathlib.Core.Path.{◌∙◌, sym, ap}
use Rattle.wear.specs.Worst.{worse_of}
use Rattle.wear.proofs.Grown.{raised_same}
use Rattle.wear.proofs.Stretches.{worn_open, worn_close}
use Rattle.wear.proofs.note.Goals as goal

pub returns-then-closes : goal.returns-then-closes
returns-then-closes c = record { counts = c.mark_line.ensures.counts ∙ sym (worn_close _ _ _ _ (sym c.closes.ensures ∙ c.if-closes.true)); raised = c.worse.ensures ∙ ap (worse_of c.args.best) c.mark_line.ensures.raised }

pub returns-else-closes : goal.returns-else-closes
returns-else-closes c = record { counts = sym (worn_open _ _ _ _ (sym c.closes.ensures ∙ c.if-closes.false)); raised = c.worse-else-closes.ensures ∙ ap (worse_of c.args.best) (c.none.ensures ∙ sym (raised_same _)) }
