use Rattle.std.proofs.Common.{◌≡◌, ◌+◌, ◌*◌, drop}
use Rattle.std.proofs.lemmas.List.Edits.{sets}
use Rattle.parts.specs.Bytes.{words_of}
use Rattle.pack_driver.proofs.put_numbers.Given as goal

abbrev pub invariant-loop-i : goal.invariant-loop-i
invariant-loop-i l =
    sets l.out (7 + 4 * l.i) (words_of (drop l.i l.x-items)) ≡ sets l.initial.out 7 (words_of l.x-items)
