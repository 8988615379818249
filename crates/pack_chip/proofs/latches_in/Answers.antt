use Rattle.std.proofs.Common.{refl}
use Rattle.pack_chip.proofs.Laws.{row_first}
use Rattle.pack_chip.proofs.latches_in.Goals as goal

pub loop-i-init : goal.loop-i-init
loop-i-init c = row_first _ c.args.bytes.now refl c.requires
