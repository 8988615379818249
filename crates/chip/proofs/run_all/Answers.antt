use mathlib.Core.List.{[]}
use Rattle.chip.proofs.Turns.{leads_none, moved_on, level_is, cycles_are, begun_most, up_to_stop, up_to_end, open_to, open_on, gone_up_to}
use Rattle.chip.proofs.Quick.{turned}
use Rattle.chip.proofs.Laws.{latch_length}
use Rattle.chip.specs.Model.{old, cut_by}
use Rattle.chip.specs.Runs.{closes_of}
use Rattle.chip.specs.Memory.{mem, chip}
use Rattle.line.specs.Rules.{act_of}
use Rattle.parts.specs.Events.{event_with}
use Rattle.parts.specs.Table.{facts_of}
use Rattle.parts.proofs.Tests.{and_both}
use lib.ListN.{length, get_or, length-set, length-take}
use mathlib.Core.Path.{◌≡◌, ◌∙◌, sym, ap, refl}
use Prim.Native.Nat.{◌-◌, ◌≤◌}
use native.Mathlib.Omega.{arith}
use borrow.Author.Rules.{rules}
use Rattle.chip.proofs.run_all.Goals as goal

pub loop-i-init : goal.loop-i-init
loop-i-init c = (omega arith, search rules, refl, refl, refl, omega arith, λ z h. leads_none _ _ _ _ _ _ (omega arith), λ s j p k. absurd (omega arith))

pub overflow_add-cycles : goal.overflow_add-cycles
overflow_add-cycles c =
    let a = c.args in
    let l = c.loop-i in
    let t = c.stir-m in
    let code = get_or a.events.now l.i 0 in
    let cy = cycles_are (cut_by a.loss a.page.now) (facts_of a.part) a.enable (chip l.at l.latch) (mem l.array l.id) code _ t.result _ refl t.ensures.whole t.ensures.latches in
    omega (arith, cy, begun_most l.at (event_with a.loss code), l.invariant.5, l.invariant.0, c.requires.0)

pub overflow_add-i : goal.overflow_add-i
overflow_add-i c = omega (arith, c.loop-i.invariant.0, c.loop-i-test.true, c.requires.0)

pub coast-s-requires : goal.coast-s-requires
coast-s-requires c =
    let l = c.loop-i in
    (omega (arith, c.loop-i-test.true), rw (length-set l.answers l.i c.stir-m.result.level) (omega (arith, l.invariant.4, c.requires.1)))

pub returns-then-closing : goal.returns-then-closing
returns-then-closing c =
    let a = c.args in
    let l = c.loop-i in
    let t = c.stir-m in
    let s = c.coast-s in
    let f = facts_of a.part in
    let w = cut_by a.loss a.page.now in
    let code = get_or a.events.now l.i 0 in
    let before = chip l.at l.latch in
    let held = mem l.array l.id in
    let test = c.loop-i-test.true in
    let cy = cycles_are w f a.enable before held code _ t.result _ refl t.ensures.whole t.ensures.latches in
    let kept = mem t.new.array t.new.id in
    let go =
    turned w f a.enable a.events.now _ _ _ before held l.answers l.i _ l.invariant.6 test (omega (arith, test, l.invariant.4, c.requires.1)) t.result.line _ t.new.latch kept _ s.result.at t.result.level t.result.cycles
    (moved_on w f a.enable before held code _ t.result _ refl t.ensures.whole t.ensures.latches)
    (rw (t.ensures.cells, t.ensures.ident) refl)
    (level_is w f a.enable before held code _ t.result _ refl t.ensures.whole t.ensures.latches)
    cy s.ensures in
    let onward = (s.ensures.leads w a.enable [] s.result.at (omega arith)).onward in
    let most : s.result.at ≤ length a.events.now = omega (arith, (go s.result.at (omega arith)).within, length-take s.result.at a.events.now) in
    let there : closes_of (get_or a.events.now s.result.at 0) ≡ c.closes.result = sym (c.closes.ensures ∙ ap closes_of c.byte_at.ensures) in
    let closed = and_both a.stops c.closes.result c.if-closing.true in
    let told = up_to_stop a.stops a.events.now s.result.at closed.0 (omega (arith, onward)) most (open_to a.stops a.events.now l.i s.result.at l.invariant.7 s.ensures.low closed.0) (there ∙ closed.1) in
    let all = gone_up_to _ _ _ a.events.now _ _ _ _ _ _ s.result.at told most (go s.result.at (omega arith)) in record { state = all.0; count = all.1.0; stored = all.1.1.0; levels = all.1.1.1.0; at = all.1.1.1.1 }

pub loop-i-smaller : goal.loop-i-smaller
loop-i-smaller c = omega (arith, c.loop-i-test.true, (c.coast-s.ensures.leads old 0 [] c.coast-s.result.at (omega arith)).onward)

pub loop-i-preserved : goal.loop-i-preserved
loop-i-preserved c =
    let a = c.args in
    let l = c.loop-i in
    let t = c.stir-m in
    let s = c.coast-s in
    let f = facts_of a.part in
    let w = cut_by a.loss a.page.now in
    let code = get_or a.events.now l.i 0 in
    let before = chip l.at l.latch in
    let held = mem l.array l.id in
    let test = c.loop-i-test.true in
    let cy = cycles_are w f a.enable before held code _ t.result _ refl t.ensures.whole t.ensures.latches in
    let kept = mem t.new.array t.new.id in
    let go =
    turned w f a.enable a.events.now _ _ _ before held l.answers l.i _ l.invariant.6 test (omega (arith, test, l.invariant.4, c.requires.1)) t.result.line _ t.new.latch kept _ s.result.at t.result.level t.result.cycles
    (moved_on w f a.enable before held code _ t.result _ refl t.ensures.whole t.ensures.latches)
    (rw (t.ensures.cells, t.ensures.ident) refl)
    (level_is w f a.enable before held code _ t.result _ refl t.ensures.whole t.ensures.latches)
    cy s.ensures in
    let onward = (s.ensures.leads w a.enable [] s.result.at (omega arith)).onward in
    let most : s.result.at ≤ length a.events.now = omega (arith, (go s.result.at (omega arith)).within, length-take s.result.at a.events.now) in
    let there : closes_of (get_or a.events.now s.result.at 0) ≡ c.closes.result = sym (c.closes.ensures ∙ ap closes_of c.byte_at.ensures) in (
      most,
      ap length t.ensures.latches ∙ latch_length l.latch (act_of f a.enable l.at (event_with a.loss code)) l.invariant.1,
      search rules,
      search rules,
      s.auto.answers ∙ length-set l.answers l.i t.result.level ∙ l.invariant.4,
      omega (arith, cy, begun_most l.at (event_with a.loss code), l.invariant.5, onward),
      go,
      open_on a.stops a.events.now l.i s.result.at l.invariant.7 s.ensures.low (rw there c.if-closing.false),
    )

pub returns : goal.returns
returns c =
    let l = c.loop-i in
    let es = c.args.events.now in
    let all = gone_up_to _ _ _ es _ _ _ _ _ _ l.i (up_to_end c.args.stops es l.i (omega arith) l.invariant.0 l.invariant.7) l.invariant.0 (l.invariant.6 l.i (omega arith)) in record { state = all.0; count = all.1.0; stored = all.1.1.0; levels = all.1.1.1.0; at = all.1.1.1.1 }
