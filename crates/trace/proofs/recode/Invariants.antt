use Rattle.std.proofs.Common.{◌≡◌, ◌++◌, length, take, drop}
use Rattle.trace.specs.Trace.{each_of, code_of}
use Rattle.trace.proofs.recode.Given as goal

abbrev pub invariant-loop-i : goal.invariant-loop-i
invariant-loop-i l = (l.events ≡ each_of code_of (take l.i l.letters) ++ drop l.i l.initial.events) × (length l.events ≡ length l.initial.events)
