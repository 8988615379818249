use Rattle.std.proofs.Common.{◌≡◌, ◌*◌, ◌≤◌, ◌++◌, length, take, drop}
use Rattle.hexfile.specs.Record.{sum_of}
use Rattle.hexfile.specs.Written.{digits_of}
use Rattle.hexfile.proofs.writing.put_bytes.Given as goal

abbrev pub invariant-loop-i : goal.invariant-loop-i
invariant-loop-i l =
    (length l.out ≡ length l.initial.out) × (l.out ≡ digits_of (take l.i l.bytes) ++ drop (2 * l.i) l.initial.out) × (l.sum ≡ sum_of (take l.i l.bytes)) × (l.sum ≤ 255 * l.i)
