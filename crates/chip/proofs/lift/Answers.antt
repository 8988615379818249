use Prim.Native.Nat.{◌+◌}
use mathlib.Core.Path.{◌≡◌}
use native.Mathlib.Omega.{arith}
use Rattle.chip.proofs.Groups.{lift_none, lift_more}
use Rattle.chip.proofs.lift.Goals as goal

pub loop-i-init : goal.loop-i-init
loop-i-init c = (omega arith, omega arith, lift_none _ _ _)

pub loop-i-preserved : goal.loop-i-preserved
loop-i-preserved c =
    let l = c.loop-i in
    (omega arith, omega arith, rw c.byte_at.ensures (lift_more _ _ _ _ _ l.invariant.0 (omega (arith, c.requires.1)) l.invariant.2))

pub returns : goal.returns
returns c =
    let l = c.loop-i in
    let e : l.i ≡ c.args.from + c.args.n = omega arith in
    rw (← e) l.invariant.2
