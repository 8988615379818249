use Rattle.capture.specs.Calls.{SeenLeft}
use mathlib.Core.Path.{ap}
use Rattle.capture.proofs.engine.go.Goals as goal

pub returns : goal.returns
returns c = let t = c.go_all-g.ensures in record { answer = ap (λ (s : SeenLeft). s.answer) t; stored = ap (λ (s : SeenLeft). s.mem) t }
