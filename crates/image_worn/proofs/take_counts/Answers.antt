use Rattle.std.proofs.Common.{ℕ, ◌<◌, ◌≤◌, ◌*◌, length, refl, ap, ◌∙◌, arith}
use Rattle.std.proofs.Math.ListN.{set, length-set}
use Rattle.image_worn.proofs.Laws.{take_step, take_end}
use Rattle.image_worn.proofs.take_counts.Goals as goal

pub loop-i-init : goal.loop-i-init
loop-i-init c = (refl, refl)

pub loop-i-preserved : goal.loop-i-preserved
loop-i-preserved c =
    let l = c.loop-i in
    let a = c.args in
    let lt : l.i < length a.counts.now = omega arith in
    (ap (λ (x : ℕ). set l.counts l.i x) c.joined.ensures.value ∙ take_step l.counts a.counts.now a.bytes.now l.i (4 * l.i) l.invariant.0 refl lt, simp length-set l.invariant.1)

pub returns : goal.returns
returns c =
    let l = c.loop-i in
    let a = c.args in
    let done : length a.counts.now ≤ l.i = omega arith in
    take_end l.counts a.counts.now a.bytes.now l.i l.invariant.0 (omega arith) done
