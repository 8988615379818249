use Rattle.std.proofs.Common.{◌∙◌, ◌+◌, ◌*◌, arith, rules}
use Rattle.pack_chip.proofs.Laws.{pairs_copied}
use Rattle.pack_chip.proofs.put_latches.Goals as goal

pub loop-i-preserved : goal.loop-i-preserved
loop-i-preserved c =
    let l = c.loop-i in
    pairs_copied l.out c.args.latch c.copy_from_slice.new.self l.i (9 + 2 * l.i) (9 + 2 * (l.i + 1)) _ (omega arith) (search rules) (c.copy_from_slice.ensures.after ∙ c.to_be_bytes.ensures) (omega arith) (omega arith) (omega arith) ∙ l.invariant
