use Rattle.std.proofs.Common.{rules, ◌≡◌, ◌∙◌, ◌&&◌, true, ltb}
use Rattle.std.specs.List.{fold}
use Rattle.std.proofs.lemmas.Iterator.{YieldsList-from_slice}
use Rattle.std.proofs.lemmas.Iterator.Consumers.{fold_from_yields_List}
use Rattle.parts.proofs.Kit.{tests}
use Rattle.parts.proofs.Bytes.{all_below_fold}
use Rattle.parts.proofs.all_below.Goals as goal

pub returns : goal.returns
returns c =
    let a = c.args in
    let e : c.fold.result ≡ fold (λ low x. low && ltb x a.limit) true a.bytes.now =
    fold_from_yields_List _ (λ low x. low && ltb x a.limit) true c.fold.result c.fold.ensures.ran (YieldsList-from_slice a.bytes.now cc) (λ low x b q k. search (rules, tests)) in
    e ∙ all_below_fold a.limit true a.bytes.now
