use Rattle.chip.specs.Calls.{scan_of}
use Rattle.parts.specs.Refusals.{is_fine}
use lib.ListN.{drop}
use mathlib.Core.Path.{◌≡◌}
use mathlib.Core.Bool.{◌&&◌}
use Rattle.chip.proofs.all_taken.Given as goal

abbrev pub invariant-loop-code : goal.invariant-loop-code
invariant-loop-code l = (l.taken && is_fine (scan_of l.pin l.code-index (drop l.code-index l.events))) ≡ is_fine (scan_of l.pin 0 l.events)
