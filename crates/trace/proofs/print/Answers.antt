use Rattle.trace.specs.Trace.{laying_of}
use Rattle.parts.proofs.Kit.{tests}
use borrow.Author.Tests.{le-ltb}
use native.Mathlib.Omega.{arith}
use lib.Seq.{length-take-le}
use lib.ListN.{length}
use mathlib.Core.List.{List}
use mathlib.Core.Path.{refl, sym, ap, ◌∙◌}
use Prim.Native.Nat.{ℕ}
use Rattle.trace.proofs.print.Goals as goal

pub returns-then-levels-gt32768 : goal.returns-then-levels-gt32768
returns-then-levels-gt32768 c = record { answer = simp (tests, c.if-levels-gt32768.true); text = simp (tests, c.if-levels-gt32768.true) }

pub slice_bounds-print_in-end-2 : goal.slice_bounds-print_in-end-2
slice_bounds-print_in-end-2 c = sym (length-take-le _ _ (omega (arith, c.if-levels-gt32768.false)))

pub print_in-n-requires : goal.print_in-n-requires
print_in-n-requires c = (omega (arith, c.if-levels-gt32768.false), length-take-le _ _ (omega (arith, c.if-levels-gt32768.false)), omega arith)

pub slice_bounds-lay-end : goal.slice_bounds-lay-end
slice_bounds-lay-end c = sym (length-take-le _ _ (omega (arith, c.print_in-n.ensures.count)))

pub returns : goal.returns
returns c =
    let text = c.print_in-n.ensures.text in
    let a = c.args in
    let few = le-ltb 32768 (length a.levels.now) c.if-levels-gt32768.false in
    record { answer = c.lay.ensures.answer ∙ ap (λ (x : List ℕ). (laying_of a.out.now x).answer) text ∙ rw few refl; text = c.lay.ensures.text ∙ ap (λ (x : List ℕ). (laying_of a.out.now x).out) text ∙ rw few refl }
