use Rattle.trace.proofs.Texts.{part_is}
use lib.ListN.{length, take}
use Prim.Native.Nat.{ℕ, ◌-◌, ◌+◌}
use mathlib.Core.List.{◌++◌, List}
use mathlib.Core.Path.{ap, ◌∙◌}
use Rattle.trace.proofs.say_number.Goals as goal

pub returns : goal.returns
returns c =
    let a = c.args in
    let said = c.say in
    let e = part_is _ a.n _ c.digits-d.ensures c.leading-from.ensures.value in
    record { count = said.ensures.count ∙ ap (λ (x : List ℕ). a.at + length x) e; text = said.ensures.text ∙ ap (λ (x : List ℕ). take a.at a.buf.now ++ x) e }
