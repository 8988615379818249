use Prim.Native.Nat.{◌≤◌, ◌+◌}
use mathlib.Core.Path.{◌≡◌}
use lib.ListN.{drop, take, length}
use Rattle.chip.specs.Memory.{entered_of}
use Rattle.chip.proofs.enter.Given as goal

abbrev pub invariant-loop-i : goal.invariant-loop-i
invariant-loop-i l =
    (l.i ≤ l.p) × (length l.s ≡ length l.initial.s) × (entered_of l.s (l.page + l.i) (drop l.i (take l.p l.latch)) ≡ entered_of l.initial.s l.page (take l.p l.latch))
