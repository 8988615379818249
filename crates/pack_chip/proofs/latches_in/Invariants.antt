use Rattle.std.proofs.Common.{◌≡◌, ◌+◌, ◌*◌, drop}
use Rattle.std.proofs.lemmas.List.Edits.{sets}
use Rattle.pack_chip.specs.Layout.{pairs_in}
use Rattle.pack_chip.proofs.latches_in.Given as goal

abbrev pub invariant-loop-i : goal.invariant-loop-i
invariant-loop-i l =
    sets l.x-items l.i (pairs_in (drop (9 + 2 * l.i) l.bytes)) ≡ pairs_in (drop 9 l.bytes)
