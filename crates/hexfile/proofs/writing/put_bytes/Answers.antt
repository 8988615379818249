use Rattle.std.proofs.Common.{◌<◌, ◌≤◌, ◌+◌, ◌*◌, length, get_or, take_all, refl, ◌∙◌, arith}
use Rattle.hexfile.proofs.Writes.{digits_step, digits_end, sum_step}
use Rattle.hexfile.proofs.writing.put_bytes.Goals as goal

pub loop-i-init : goal.loop-i-init
loop-i-init c = (refl, refl, refl, omega arith)

pub loop-i-preserved : goal.loop-i-preserved
loop-i-preserved c =
    let one = c.put in
    let l = c.loop-i in
    let a = c.args in
    let in_list : l.i < length a.bytes.now = omega arith in
    let byte : get_or a.bytes.now l.i 0 ≤ 255 = omega arith in
    (one.auto.out ∙ l.invariant.0, one.ensures ∙ digits_step l.out a.out.now a.bytes.now l.i l.invariant.1 in_list (omega arith), rw l.invariant.2 (sum_step a.bytes.now l.i in_list), omega (arith, byte))

pub returns : goal.returns
returns c =
    let l = c.loop-i in
    let a = c.args in
    let all : length a.bytes.now ≤ l.i = omega arith in
    record { sum = l.invariant.2 ∙ rw (take_all l.i a.bytes.now all); most = omega arith; digits = digits_end l.out a.out.now a.bytes.now l.i l.invariant.1 (omega arith) all c.requires.0 }
