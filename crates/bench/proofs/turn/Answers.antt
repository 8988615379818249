use mathlib.Core.Path.{sym, ◌∙◌}
use Rattle.bench.proofs.Laws.{fit_ended, few_ended, turned}
use Rattle.bench.proofs.Worn.{turn_worn}
use borrow.Author.Rules.{rules}
use Rattle.bench.proofs.turn.Goals as goal

pub due-ended-requires : goal.due-ended-requires
due-ended-requires c = c.requires.first

pub end-ready-requires : goal.end-ready-requires
end-ready-requires c = record { fit = c.requires.fit; worst = c.requires.worst }

pub ask-requires : goal.ask-requires
ask-requires c =
    let en = c.end-ready in
    let b = c.args in
    let p = c.requires in
    record { fit = fit_ended _ _ c.due-ended.result b.held en.result _ en.ensures.answer _ _ _ _ (search rules) (search rules) p.fit; few = few_ended _ _ c.due-ended.result b.held en.result _ en.ensures.answer _ p.few }

pub returns : goal.returns
returns c =
    let en = c.end-ready in
    let sk = c.ask in
    let a = c.args in
    let most = c.allowed-most.ensures in
    let due = c.due-ended in
    let t = turned _ _ _ a.held _ _ _ due.result _ most due.ensures en.result _ en.ensures.answer en.ensures.stored _ _ _ sk.ensures.together sk.ensures.found in
    record { together = t.0; found = t.1; counts = turn_worn _ _ _ _ _ _ due.result _ (sym sk.ensures.found.0 ∙ t.1.0) en.ensures.counts; worst = sk.ensures.worst ∙ en.ensures.worst }
