use Rattle.std.proofs.Common.{◌≡◌, ◌++◌, length, drop}
use Rattle.image_worn.specs.Layout.{words_in}
use Rattle.image_worn.proofs.take_counts.Given as goal

abbrev pub invariant-loop-i : goal.invariant-loop-i
invariant-loop-i l = (l.counts ≡ words_in l.i l.bytes ++ drop l.i l.initial.counts) × (length l.counts ≡ length l.initial.counts)
