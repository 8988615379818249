use Rattle.image.proofs.Laws.{written}
use native.Mathlib.Omega.{arith}
use Rattle.image.proofs.write.Goals as goal

pub returns : goal.returns
returns c =
    let a = c.args in
    written a.part a.lock c.head-first.result a.array.now a.id.now a.out.now _ _ _ c.head-first.ensures c.copy.ensures c.copy-2.ensures c.copy-3.ensures (omega arith)
