use Rattle.trace.proofs.Texts.{head_facts}
use Rattle.trace.specs.Trace.{text_judged_of}
use native.Mathlib.Omega.{arith}
use mathlib.Core.Path.{refl, sym, ◌∙◌}
use borrow.Author.Rules.{rules}
use Rattle.trace.proofs.judge.Goals as goal

pub returns-then-not-head_right : goal.returns-then-not-head_right
unfolding text_judged_of
returns-then-not-head_right c = rw (← c.head_right.ensures, c.if-not-head_right.true)

pub bounds-text-0 : goal.bounds-text-0
bounds-text-0 c = omega (arith, head_facts c.args.text.now (sym c.head_right.ensures ∙ c.if-not-head_right.false))

pub overflow_sub-part : goal.overflow_sub-part
overflow_sub-part c = omega (arith, head_facts c.args.text.now (sym c.head_right.ensures ∙ c.if-not-head_right.false))

pub bounds-text-2 : goal.bounds-text-2
bounds-text-2 c = search (rules, head_facts c.args.text.now (sym c.head_right.ensures ∙ c.if-not-head_right.false))

pub overflow_sub-enable : goal.overflow_sub-enable
overflow_sub-enable c = omega (arith, head_facts c.args.text.now (sym c.head_right.ensures ∙ c.if-not-head_right.false))

pub letters_of-requires : goal.letters_of-requires
letters_of-requires c = omega (arith, head_facts c.args.text.now (sym c.head_right.ensures ∙ c.if-not-head_right.false))

pub returns : goal.returns
unfolding text_judged_of
returns c = rw (c.letters_verdict-verdict.ensures, c.letters_of.ensures.bytes, ← c.head_right.ensures, c.if-not-head_right.false) refl
