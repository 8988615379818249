use Rattle.std.proofs.Common.{◌≡◌, ◌*◌, ◌++◌, length, drop}
use Rattle.hexfile.specs.Written.{rows_of}
use Rattle.hexfile.proofs.writing.put_rows.Given as goal

abbrev pub invariant-loop-i : goal.invariant-loop-i
invariant-loop-i l = (length l.out ≡ length l.initial.out) × (l.out ≡ rows_of l.i 0 l.array ++ drop (l.i * 44) l.initial.out)
