use Rattle.std.proofs.Common.{◌+◌, ◌-◌, ◌*◌, ◌<◌, ◌≤◌, length, refl, ◌∙◌, arith}
use Rattle.image_worn.proofs.Laws.{put_mid_step, put_end}
use Rattle.image_worn.proofs.put_counts.Goals as goal

pub loop-i-init : goal.loop-i-init
loop-i-init c = refl

pub loop-i-preserved : goal.loop-i-preserved
loop-i-preserved c =
    let l = c.loop-i in
    let a = c.args in
    let lt : l.i < length a.counts.now = omega arith in
    put_mid_step l.out a.out.now a.counts.now l.i (4 * l.i + 4 - 4 * l.i) _ l.invariant lt c.requires (omega arith) (c.copy_from_slice.ensures.after ∙ c.word-w.ensures)

pub returns : goal.returns
returns c =
    let l = c.loop-i in
    let a = c.args in
    let done : length a.counts.now ≤ l.i = omega arith in
    put_end l.out a.out.now a.counts.now l.i l.invariant done c.requires
