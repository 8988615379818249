use Rattle.std.proofs.Common.{◌≡◌, ◌+◌, ◌*◌, drop}
use Rattle.std.proofs.lemmas.List.Edits.{sets}
use Rattle.pack_chip.specs.Layout.{pairs_of}
use Rattle.pack_chip.proofs.put_latches.Given as goal

abbrev pub invariant-loop-i : goal.invariant-loop-i
invariant-loop-i l =
    sets l.out (9 + 2 * l.i) (pairs_of (drop l.i l.x-items)) ≡ sets l.initial.out 9 (pairs_of l.x-items)
