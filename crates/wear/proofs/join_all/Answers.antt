use Prim.Native.Nat.{ℕ, ◌+◌, ◌<◌}
use mathlib.Core.Path.{◌≡◌, refl, ◌∙◌, sym}
use native.Mathlib.Decide.{dec_lt}
use native.Mathlib.Omega.{arith}
use lib.ListN.{length-set, get_or}
use Rattle.parts.specs.Bytes.{topped}
use Rattle.parts.proofs.Bytes.{top_low, top_high}
use Rattle.wear.proofs.Laws.{join_step, join_end}
use Rattle.wear.proofs.join_all.Goals as goal

pub loop-i-init : goal.loop-i-init
loop-i-init c = (refl, refl)

pub loop-i-preserved : goal.loop-i-preserved
loop-i-preserved c =
    let l = c.loop-i in
    let h = c.loop-i-test.true in
    let z = c.saturating_add.result in
    let sum : ℕ = get_or l.counts l.i 0 + get_or c.args.more.now l.i 0 in
    let t : z ≡ topped sum =
    elim (dec_lt sum 4294967296) [
      | yes low ↦ let e : z ≡ sum = omega (arith, c.saturating_add.ensures) in e ∙ sym (top_low sum low)
      | no high ↦ let e : z ≡ 4294967295 = omega (arith, c.saturating_add.ensures) in e ∙ sym (top_high sum (omega arith))
    ] in
    (length-set l.counts l.i z ∙ l.invariant.0, join_step l.counts c.args.more.now l.i z (omega (arith, h, l.invariant.0)) (omega (arith, h, l.invariant.0, c.requires)) t ∙ l.invariant.1)

pub returns : goal.returns
returns c = let l = c.loop-i in sym (join_end l.counts c.args.more.now l.i (omega (arith, c.loop-i-test.false, l.invariant.0))) ∙ l.invariant.1
