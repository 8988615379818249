use mathlib.Core.Path.{sym, ◌∙◌}
use borrow.Author.Rules.{rules}
use Rattle.capture.proofs.engine.moved.Goals as goal

pub clocked-requires : goal.clocked-requires
clocked-requires c = sym c.quiet.ensures ∙ c.if-quiet.true

pub returns-then-quiet : goal.returns-then-quiet
returns-then-quiet c = record { step = c.clocked.ensures _ _; room = search rules }
