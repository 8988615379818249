use mathlib.Core.Path.{refl}
use lib.ListN.{length-set}
use lib.Seq.{paste-zero}
use native.Mathlib.Omega.{arith}
use Rattle.parts.proofs.Bytes.{copy_none, copy_step, copy_end}
use Rattle.parts.proofs.copy.Goals as goal

pub loop-i-init : goal.loop-i-init
loop-i-init c =
    let a = c.args in
    (omega arith, paste-zero a.out.now a.at a.bytes.now, refl, omega (arith, c.min-n.ensures), omega (arith, c.min-n.ensures))

pub loop-i-preserved : goal.loop-i-preserved
loop-i-preserved c =
    let l = c.loop-i in
    let a = c.args in
    (omega arith, copy_step l.out a.out.now a.at a.bytes.now l.i l.invariant.1 (omega arith) (omega arith), simp length-set l.invariant.2, l.invariant.3, l.invariant.4)

pub returns-after-loop-i : goal.returns-after-loop-i
returns-after-loop-i c =
    let l = c.loop-i in
    let a = c.args in
    copy_end l.out a.out.now a.at a.bytes.now c.min-n.result l.i l.invariant.1 l.invariant.0 (omega arith) c.min-n.ensures

pub returns-else-at-out : goal.returns-else-at-out
returns-else-at-out c =
    let a = c.args in
    copy_none a.out.now a.at a.bytes.now (omega arith)
