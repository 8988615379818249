use Rattle.trace.specs.Trace.{place_text_of, decimal_of, refusal_text_of}
use Rattle.trace.proofs.Texts.{decimal_short}
use native.Mathlib.Omega.{arith}
use Prim.Native.Nat.{ℕ, ◌-◌, ◌+◌}
use mathlib.Core.List.{◌++◌, List}
use mathlib.Core.Path.{ap, ◌∙◌}
use Rattle.trace.proofs.say_refusal.Goals as goal

pub say_place-requires : goal.say_place-requires
say_place-requires c = omega (arith, c.say_number-b.ensures.count, c.say-a.ensures.count, decimal_short c.number.result, c.requires)

pub returns : goal.returns
unfolding refusal_text_of
returns c =
    let first = c.say-a.ensures in
    let second = c.say_number-b.ensures in
    let third = c.say_place.ensures in
    let n = c.number in record { count = omega (arith, third.count, second.count, first.count, decimal_short n.result); text = third.text ∙ ap (λ (x : List ℕ). x ++ place_text_of c.spot_of.result) (second.text ∙ ap (λ (x : List ℕ). x ++ decimal_of n.result) first.text) ∙ rw (n.ensures, c.spot_of.ensures) }
