use Rattle.chip.specs.Delivery.{delivered_of, delivered_id_of}
use lib.ListN.{length-replicate}
use mathlib.Core.Path.{◌∙◌}
use Rattle.chip.proofs.blank_all.Goals as goal

pub code-requires : goal.code-requires
code-requires c = rw c.blank-2.ensures (length-replicate _ _ ∙ c.requires.1)

pub returns : goal.returns
unfolding delivered_of delivered_id_of
returns c = record { cells = rw (c.blank.ensures, c.requires.0); ident = rw (c.code.ensures, c.blank-2.ensures, c.requires.1) }
