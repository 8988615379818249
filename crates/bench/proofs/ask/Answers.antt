use mathlib.Core.Path.{refl, sym, ◌∙◌, ap}
use Rattle.driver.specs.declared.Asked.{Asked}
use Rattle.bench.specs.declared.Held.{Held}
use Rattle.bench.proofs.Laws.{sent_small, asked_sent, asked_none}
use Rattle.bench.proofs.ask.Goals as goal

pub send-sent-requires : goal.send-sent-requires
send-sent-requires c =
    let nx = c.next-asked in
    record { fit = c.requires.fit; code = sent_small _ _ _ nx.result nx.ensures.value _ c.in-Send.is; few = c.requires.few }

pub returns-in-Send : goal.returns-in-Send
returns-in-Send c =
    let nx = c.next-asked in
    let sn = c.send-sent in
    let a = c.args in
    record { together = asked_sent _ _ a.held _ _ nx.result _ nx.ensures.value nx.ensures.buffer_after _ c.in-Send.is sn.result _ sn.ensures.answer sn.ensures.stored; found = (refl, sym c.in-Send.is ∙ ap (λ (x : Asked). x.answer) nx.ensures.value); worst = ap (λ (x : Held). x.worst) sn.ensures.answer }

pub returns-in-Done : goal.returns-in-Done
returns-in-Done c =
    let nx = c.next-asked in
    let a = c.args in
    record { together = asked_none _ _ a.held _ _ nx.result _ nx.ensures.value nx.ensures.buffer_after _ c.in-Done.is refl; found = (refl, ap (λ (x : Asked). x.answer) nx.ensures.value); worst = refl }

pub returns-in-Refused : goal.returns-in-Refused
returns-in-Refused c =
    let nx = c.next-asked in
    let a = c.args in
    record { together = asked_none _ _ a.held _ _ nx.result _ nx.ensures.value nx.ensures.buffer_after _ c.in-Refused.is refl; found = (refl, ap (λ (x : Asked). x.answer) nx.ensures.value); worst = refl }
