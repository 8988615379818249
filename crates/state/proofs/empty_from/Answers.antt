use Rattle.std.proofs.Common.{rules, arith, ◌∙◌, ◌≤◌, ◌-◌, length, drop, leb, length-drop}
use Rattle.std.proofs.lemmas.Iterator.{YieldsList-from_slice}
use Rattle.std.proofs.lemmas.Iterator.Search.{all_from_yields_List}
use lib.Seq.{take_all}
use Rattle.parts.proofs.Kit.{tests}
use Rattle.state.proofs.Laws.{empty_all}
use Rattle.state.proofs.empty_from.Goals as goal

pub returns : goal.returns
returns c =
    let k = drop c.args.from c.args.latch in
    let short : length k ≤ 64 - c.args.from = simp length-drop (omega arith) in
    all_from_yields_List (λ x. leb 256 x) _ _ _ c.all.ensures.ran (YieldsList-from_slice k (c.iter.ensures.rest ∙ take_all (64 - c.args.from) k short)) (λ x b q h. search (rules, tests)) ∙ empty_all k
