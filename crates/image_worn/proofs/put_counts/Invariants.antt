use Rattle.std.proofs.Common.{◌≡◌, ◌*◌, ◌++◌, take, drop}
use Rattle.parts.specs.Bytes.{words_of}
use Rattle.image_worn.proofs.put_counts.Given as goal

abbrev pub invariant-loop-i : goal.invariant-loop-i
invariant-loop-i l = l.out ≡ words_of (take l.i l.counts) ++ drop (4 * l.i) l.initial.out
