use native.Mathlib.Omega.{arith}
use Rattle.bench.proofs.Laws.{fine_step, one_cycle, clock_most, sent_is, stored_is}
use Rattle.chip.specs.Model.{ours}
use Rattle.chip.specs.Memory.{mem}
use Rattle.parts.specs.Table.{facts_of}
use Rattle.bench.proofs.send.Goals as goal

pub overflow_add-result : goal.overflow_add-result
overflow_add-result c =
    let st = c.step-s in
    let a = c.args in
    omega (arith, one_cycle _ _ a.held _ a.code st.result _ (fine_step _ _ _ _ _ c.requires.fit c.args.code (omega (arith, c.requires.code))) st.ensures.answer, c.requires.few.0)

pub overflow_add-result-2 : goal.overflow_add-result-2
overflow_add-result-2 c =
    let a = c.args in
    omega (arith, c.clock.ensures, clock_most a.code, c.requires.few.1)

pub returns : goal.returns
returns c =
    let st = c.step-s in
    let a = c.args in
    let v = fine_step _ _ _ _ _ c.requires.fit c.args.code (omega (arith, c.requires.code)) in
    record { answer = sent_is _ _ a.held _ a.code st.result _ v st.ensures.answer a.driver c.clock.result c.clock.ensures; stored = stored_is (ours (facts_of a.part) a.enable) a.held.chip (mem a.array.now a.id.now) a.code _ _ _ v st.ensures.cells st.ensures.ident }
