use mathlib.Core.Path.{refl}
use Rattle.chip.specs.Runs.{up_to_of}
use Rattle.chip.proofs.go.Goals as goal

-- src/lib.rt:548:1
pub returns : goal.returns
unfolding up_to_of
returns c = let t = c.run_all-w.ensures in record { answer = rw (t.state, t.count) refl; stored = t.stored; levels = t.levels }
