use Rattle.chip.proofs.Quick.{coast_none, coast_on, passes_in}
use Rattle.chip.specs.Onward.{taking}
use lib.ListN.{length, length-set}
use mathlib.Core.Path.{◌≡◌, refl}
use Prim.Native.Nat.{◌-◌}
use native.Mathlib.Omega.{arith}
use Rattle.chip.proofs.bits_in.Goals as goal

pub loop-i-init : goal.loop-i-init
loop-i-init c = (omega arith, refl, λ f m v. coast_none f m _ _ _ _ (omega arith))

pub returns-then-code-gt1 : goal.returns-then-code-gt1
returns-then-code-gt1 c = c.loop-i.invariant.2

pub loop-i-preserved : goal.loop-i-preserved
loop-i-preserved c =
    let w = c.loop-i in
    let a = c.args in (
      omega arith,
      simp length-set w.invariant.1,
      λ f m v.
          coast_on f m a.events.now _ _ a.from (taking a.core v w.n w.x) _ w.answers w.i _ (w.invariant.2 f m v) (omega arith) (omega arith) (omega arith)
          (passes_in f m a.core v w.n w.x _ (omega arith) (omega arith)),
    )

pub returns : goal.returns
returns c =
    let e : c.loop-i.i ≡ length c.args.events.now = omega arith in
    λ f m v. rw (← e) (c.loop-i.invariant.2 f m v)
