use Rattle.std.proofs.Common.{rules}
use Rattle.pack_chip.proofs.Laws.{copied_over, packed}
use Rattle.pack_chip.proofs.pack.Goals as goal

pub returns-clause-bytes : goal.returns-clause-bytes
returns-clause-bytes c =
    rw (c.put_latches.ensures, copied_over 0 9 c.args.out.now c.copy_from_slice.new.self (search rules) (search rules), c.copy_from_slice.ensures.after, c.head.ensures) (packed _ c.args.chip (search rules) (search rules))
