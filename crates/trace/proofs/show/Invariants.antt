use Rattle.std.proofs.Common.{◌≡◌, ◌++◌, length, take, drop}
use Rattle.trace.specs.Trace.{each_of, char_of}
use Rattle.trace.proofs.show.Given as goal

abbrev pub invariant-loop-level : goal.invariant-loop-level
invariant-loop-level l = (l.answers ≡ each_of char_of (take l.level-index l.initial.answers) ++ drop l.level-index l.initial.answers) × (length l.answers ≡ length l.initial.answers)
