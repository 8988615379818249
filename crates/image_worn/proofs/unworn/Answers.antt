use Rattle.std.proofs.Common.{arith}
use Rattle.std.proofs.lemmas.Bool.{lt-ltb}
use Rattle.parts.specs.Table.{facts_of}
use Rattle.image_worn.proofs.Laws.{none_low}
use Rattle.image_worn.proofs.unworn.Goals as goal

pub returns-then-image-n : goal.returns-then-image-n
returns-then-image-n c =
    let a = c.args in
    rw (lt-ltb _ _ c.if-image-n.true) (none_low (facts_of a.part) a.image.now (omega (arith, c.image_length-n.ensures)))
