use mathlib.Core.List.{List}
use Prim.Native.Nat.{ℕ}
use Rattle.trace.specs.Trace.{laying_of}
use lib.Seq.{length-take-le}
use native.Mathlib.Omega.{arith}
use mathlib.Core.Path.{sym, ap, ◌∙◌}
use Rattle.trace.proofs.trace.Goals as goal

pub slice_bounds-lay-end : goal.slice_bounds-lay-end
slice_bounds-lay-end c = sym (length-take-le _ _ (omega (arith, c.compose-n.ensures.count)))

pub returns : goal.returns
returns c =
    let text = c.compose-n.ensures.text in
    let out = c.args.out.now in
    record { answer = c.lay.ensures.answer ∙ ap (λ (x : List ℕ). (laying_of out x).answer) text; text = c.lay.ensures.text ∙ ap (λ (x : List ℕ). (laying_of out x).out) text }
