use Rattle.chip.proofs.Quick.{coast_none, coast_on, ignores_most, passes_ignored}
use lib.ListN.{length, length-set}
use mathlib.Core.Path.{◌≡◌, refl}
use Prim.Native.Nat.{◌-◌}
use native.Mathlib.Omega.{arith}
use Rattle.chip.proofs.hold.Goals as goal

pub loop-i-init : goal.loop-i-init
loop-i-init c = (omega arith, refl, λ f m l h. coast_none f m _ _ _ _ (omega arith))

pub returns-then-limit-code : goal.returns-then-limit-code
returns-then-limit-code c = c.loop-i.invariant.2

pub loop-i-preserved : goal.loop-i-preserved
loop-i-preserved c =
    let w = c.loop-i in
    let a = c.args in (
      omega arith,
      simp length-set w.invariant.1,
      λ f m l h.
          coast_on f m a.events.now l _ a.from l l w.answers w.i _ (w.invariant.2 f m l h) (omega arith) (omega arith) (omega (arith, h, ignores_most l.phase))
          (passes_ignored f m l _ (omega (arith, h))),
    )

pub returns : goal.returns
returns c =
    let e : c.loop-i.i ≡ length c.args.events.now = omega arith in
    λ f m l h. rw (← e) (c.loop-i.invariant.2 f m l h)
