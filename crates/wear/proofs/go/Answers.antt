use Prim.Native.Nat.{◌-◌, ◌≤◌}
use mathlib.Core.Path.{◌∙◌, ap, refl, sym}
use native.Mathlib.Omega.{arith}
use lib.ListN.{length}
use Rattle.parts.specs.Table.{facts_of}
use Rattle.chip.specs.declared.Passed.{Passed}
use Rattle.chip.specs.Memory.{chip}
use Rattle.chip.specs.Model.{cut_by}
use Rattle.wear.proofs.Grown.{grew_same, grew_on, raised_same, raised_join}
use Rattle.wear.proofs.Stretches.{come_first, come_part, come_within, come_end, cycles_within, grew_counter}
use borrow.Author.Rules.{rules}
use Rattle.wear.proofs.go.Goals as goal

pub loop-i-init : goal.loop-i-init
loop-i-init c = (omega arith, refl, refl, refl, refl, come_first _ _ _ _ _ _ _, omega arith, search rules, c.none-best.ensures ∙ sym (raised_same _), grew_same _)

pub overflow_add-cycles : goal.overflow_add-cycles
overflow_add-cycles c =
    let l = c.loop-i in
    let p = c.pass-p in
    let h = c.loop-i-test.true in
    let es = c.args.events.now in
    let room : length es ≤ length l.answers = omega (arith, c.requires.1, l.invariant.4) in
    let q = come_within es l.answers l.i p.result.at c.requires.0 room h (ap (λ (z : Passed). z.at) p.ensures.answer) in
    omega (arith, q.1, l.invariant.6, cycles_within (cut_by c.args.loss c.args.page.now) (facts_of c.args.part) c.args.enable (chip l.line l.latch) _ _ _ (ap (λ (z : Passed). z.cycles) p.ensures.answer) (ap (λ (z : Passed). z.at) p.ensures.answer), c.requires.0)

pub overflow_add-i : goal.overflow_add-i
overflow_add-i c =
    let l = c.loop-i in
    let p = c.pass-p in
    let h = c.loop-i-test.true in
    let es = c.args.events.now in
    let room : length es ≤ length l.answers = omega (arith, c.requires.1, l.invariant.4) in
    let q = come_within es l.answers l.i p.result.at c.requires.0 room h (ap (λ (z : Passed). z.at) p.ensures.answer) in
    omega (arith, q.1, c.requires.0)

pub loop-i-smaller : goal.loop-i-smaller
loop-i-smaller c =
    let l = c.loop-i in
    let p = c.pass-p in
    let h = c.loop-i-test.true in
    let es = c.args.events.now in
    let room : length es ≤ length l.answers = omega (arith, c.requires.1, l.invariant.4) in
    let q = come_within es l.answers l.i p.result.at c.requires.0 room h (ap (λ (z : Passed). z.at) p.ensures.answer) in
    omega (arith, q.0, q.1, h)

pub loop-i-preserved : goal.loop-i-preserved
loop-i-preserved c =
    let l = c.loop-i in
    let p = c.pass-p in
    let h = c.loop-i-test.true in
    let es = c.args.events.now in
    let room : length es ≤ length l.answers = omega (arith, c.requires.1, l.invariant.4) in
    let q = come_within es l.answers l.i p.result.at c.requires.0 room h (ap (λ (z : Passed). z.at) p.ensures.answer) in
    let on = grew_counter (facts_of c.args.part) (chip l.line l.latch) l.counts _ _ c.note-best.ensures.counts in (
      q.1,
      search rules,
      search rules,
      c.note-best.auto.counts ∙ l.invariant.3,
      search rules,
      come_part _ _ es _ _ _ _ (chip l.line l.latch) _ l.counts l.answers l.cycles l.i l.invariant.5 h c.requires.0 room _ _ _ _ p.result.cycles p.result.at
          (λ i. chip (p.ensures.answer i).line (p.ensures.answer i).latch) p.ensures.stored (ap (λ (z : Passed). z.cycles) p.ensures.answer) (ap (λ (z : Passed). z.at) p.ensures.answer) c.note-best.ensures.counts p.ensures.levels,
      omega (arith, l.invariant.6, cycles_within (cut_by c.args.loss c.args.page.now) (facts_of c.args.part) c.args.enable (chip l.line l.latch) _ _ _ (ap (λ (z : Passed). z.cycles) p.ensures.answer) (ap (λ (z : Passed). z.at) p.ensures.answer)),
      search rules,
      c.note-best.ensures.raised ∙ rw l.invariant.8 (sym (raised_join _ _ _ l.invariant.9 on)),
      grew_on _ _ _ l.invariant.9 on,
    )

pub returns : goal.returns
returns c =
    let l = c.loop-i in
    let t = come_end _ _ c.args.events.now _ _ _ _ (chip l.line l.latch) _ l.counts l.answers l.cycles l.i c.loop-i-test.false l.invariant.0 l.invariant.5 in
    record { answer = rw (← t.0, ← t.1.0) refl; stored = t.1.1.0; levels = t.1.1.1.0; counts = t.1.1.1.1; raised = l.invariant.8 }
