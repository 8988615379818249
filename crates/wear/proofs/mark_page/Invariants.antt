use Prim.Native.Nat.{◌+◌, ◌-◌, ◌≤◌}
use mathlib.Core.Path.{◌≡◌}
use lib.ListN.{length}
use Rattle.wear.specs.Wear.{bumped_from}
use Rattle.wear.specs.Worst.{raised_of}
use Rattle.wear.proofs.Grown.{Grew}
use Rattle.wear.proofs.Laws.{Low}
use Rattle.wear.proofs.mark_page.Given as goal

abbrev pub invariant-loop-j : goal.invariant-loop-j
invariant-loop-j l = (l.j ≤ l.n) × (length l.counts ≡ length l.initial.counts) × (bumped_from l.g l.latch l.counts (l.first + l.j) l.j (l.n - l.j) ≡ bumped_from l.g l.latch l.initial.counts l.first 0 l.n) × (l.best ≡ raised_of l.initial.counts l.counts) × Grew l.initial.counts l.counts × Low (l.first + l.j) l.best
