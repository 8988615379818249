use Prim.Native.Nat.{◌+◌, ◌≤◌}
use mathlib.Core.Path.{◌≡◌}
use lib.ListN.{length}
use lib.Seq.{paste}
use Rattle.parts.proofs.copy.Given as goal

abbrev pub invariant-loop-i : goal.invariant-loop-i
invariant-loop-i l =
    (l.i ≤ l.n) × (l.out ≡ paste l.initial.out l.at l.bytes l.i) × (length l.out ≡ length l.initial.out) × (l.n ≤ length l.bytes)
    × (l.at + l.n ≤ length l.initial.out)
