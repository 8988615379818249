use Rattle.std.proofs.Common.{◌∙◌, ◌+◌, ◌*◌, arith}
use Rattle.pack_driver.proofs.Laws.{words_copied}
use Rattle.pack_driver.proofs.put_numbers.Goals as goal

pub loop-i-preserved : goal.loop-i-preserved
loop-i-preserved c =
    let l = c.loop-i in
    words_copied l.out c.args.numbers c.copy_from_slice.new.self l.i (7 + 4 * l.i) (7 + 4 * (l.i + 1)) _ (omega arith) (c.copy_from_slice.ensures.after ∙ c.word.ensures) (omega arith) (omega arith) (omega arith) ∙ l.invariant
