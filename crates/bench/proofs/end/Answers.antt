use mathlib.Core.Path.{refl}
use native.Mathlib.Omega.{arith}
use Rattle.bench.proofs.Laws.{fine_step, ended_is, stored_is}
use Rattle.bench.proofs.Worn.{end_worst}
use Rattle.chip.specs.Model.{ours}
use Rattle.chip.specs.Memory.{mem}
use Rattle.parts.specs.Table.{facts_of}
use Rattle.bench.proofs.end.Goals as goal

pub returns-then-not-due : goal.returns-then-not-due
returns-then-not-due c = record { answer = rw c.if-not-due.true refl; stored = rw c.if-not-due.true refl; counts = rw c.if-not-due.true refl; worst = c.requires.worst }

pub returns : goal.returns
returns c =
    let st = c.step-s in
    let a = c.args in
    let v = fine_step _ _ _ _ _ c.requires.fit 4 (omega arith) in
    record { answer = rw c.if-not-due.false (ended_is _ _ a.held _ 4 st.result _ v st.ensures.answer _ refl); stored = rw c.if-not-due.false (stored_is (ours (facts_of a.part) a.enable) a.held.chip (mem a.array.now a.id.now) 4 _ _ _ v st.ensures.cells st.ensures.ident); counts = rw c.if-not-due.false (c.mark-raised.ensures.counts); worst = (end_worst _ _ _ _ _ _ _ c.requires.worst c.mark-raised.ensures.counts c.mark-raised.ensures.raised c.worse-worst.ensures) }
