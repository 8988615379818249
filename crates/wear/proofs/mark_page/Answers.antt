use Prim.Native.Nat.{ℕ, ◌-◌, ◌/◌}
use native.Mathlib.Nat.{div-le_self}
use mathlib.Core.Path.{refl, ◌∙◌, sym, ap, subst}
use Rattle.wear.specs.declared.Most.{Most}
use native.Mathlib.Omega.{arith}
use lib.ListN.{length}
use Rattle.chip.specs.Memory.{touched_of}
use Rattle.wear.specs.Wear.{page_worn_of}
use Rattle.wear.proofs.Grown.{grew_same, grew_on, raised_same}
use Rattle.wear.proofs.Laws.{group_place, bump_first, bump_step, bump_end, bump_length, Low, grew_bump, raised_on}
use Rattle.wear.proofs.mark_page.Goals as goal

pub nonzero_div-n : goal.nonzero_div-n
nonzero_div-n c = c.facts_of-f.ensures.range.group_pos

pub nonzero_div-first : goal.nonzero_div-first
nonzero_div-first c = c.facts_of-f.ensures.range.group_pos

pub loop-j-init : goal.loop-j-init
loop-j-init c = (omega arith, refl, bump_first c.facts_of-f.result.group c.args.latch.now c.args.counts.now (c.page_start.result / c.facts_of-f.result.group) (c.facts_of-f.result.page / c.facts_of-f.result.group), c.none-best.ensures ∙ sym (raised_same _), grew_same _, λ p. absurd (omega (arith, p, ap (λ (z : Most). z.count) c.none-best.ensures)))

pub overflow_mul-j : goal.overflow_mul-j
overflow_mul-j c = let s = c.facts_of-f.ensures.range in omega (arith, group_place _ _ _ _ c.loop-j-test.true s.groups, s.page_most)

pub overflow_add-first : goal.overflow_add-first
overflow_add-first c = let s = c.facts_of-f.ensures.range in omega (arith, c.loop-j-test.true, div-le_self c.page_start.result c.facts_of-f.result.group, c.page_start.ensures.range, div-le_self c.facts_of-f.result.page c.facts_of-f.result.group, s.page_most)

pub loop-j-preserved : goal.loop-j-preserved
unfolding touched_of
loop-j-preserved c = let l = c.loop-j in let h = c.loop-j-test.true in let g = c.facts_of-f.result.group in let k = c.args.latch.now in let t = c.latched-touched.ensures in let b = c.bump-best.ensures in let on = grew_bump l.counts _ _ _ b.counts in let r = raised_on _ l.counts _ l.best l.invariant.4 l.invariant.3 l.invariant.5 _ _ c.bump-best.result b.counts b.raised in (omega (arith, h), ap length b.counts ∙ bump_length l.counts _ _ ∙ l.invariant.1, rw (b.counts, t) (bump_step g k l.counts _ l.j _ h) ∙ l.invariant.2, r.0, grew_on _ _ _ l.invariant.4 on, subst (λ (z : ℕ). Low z c.bump-best.result) (omega arith) r.1)

pub returns : goal.returns
unfolding page_worn_of
returns c = let l = c.loop-j in record { counts = sym (bump_end _ c.args.latch.now l.counts _ l.j _ c.loop-j-test.false) ∙ l.invariant.2 ∙ rw (c.page_start.ensures.value, c.facts_of-f.ensures.value) refl; raised = l.invariant.3 }
