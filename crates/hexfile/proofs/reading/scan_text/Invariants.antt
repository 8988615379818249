use Rattle.hexfile.specs.File.{lines_of, read_at}
use lib.ListN.{length, drop}
use mathlib.Core.Path.{◌≡◌}
use Prim.Native.Nat.{◌-◌, ◌≤◌}
use Rattle.hexfile.proofs.reading.scan_text.Given as goal

abbrev pub invariant-loop-at : goal.invariant-loop-at
invariant-loop-at l = (l.at ≤ length l.text) × (l.k ≤ l.at) × (length l.cells ≡ length l.initial.cells) × (read_at l.cells l.k (lines_of (drop l.at l.text)) ≡ read_at l.initial.cells 0 (lines_of l.text))

abbrev pub decreases-loop-at : goal.decreases-loop-at
decreases-loop-at l = length l.text - l.at
