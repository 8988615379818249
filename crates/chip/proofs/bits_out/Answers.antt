use Rattle.chip.proofs.Quick.{coast_none, coast_on, passes_out}
use Rattle.chip.specs.Onward.{sending}
use Rattle.chip.specs.Memory.{mem}
use Rattle.parts.specs.Table.{facts_of}
use lib.ListN.{length, length-set}
use mathlib.Core.Path.{◌≡◌, refl}
use Prim.Native.Nat.{◌-◌}
use native.Mathlib.Omega.{arith}
use Rattle.chip.proofs.bits_out.Goals as goal

pub loop-i-init : goal.loop-i-init
loop-i-init c = (omega arith, refl, coast_none _ _ _ _ _ _ (omega arith))

pub returns-then-code-gt1 : goal.returns-then-code-gt1
returns-then-code-gt1 c = c.loop-i.invariant.2

pub loop-i-preserved : goal.loop-i-preserved
loop-i-preserved c =
    let w = c.loop-i in
    let a = c.args in
    let s = c.send_on-s in
    let test = c.loop-i-test.true in (
      omega (arith, test),
      simp length-set w.invariant.1,
      coast_on (facts_of a.part) (mem a.array.now a.id.now) a.events.now _ _ a.from (sending w.c a.target w.n w.x) _ w.answers w.i _ w.invariant.2 test (omega (arith, test, w.invariant.1, c.requires.1)) (omega (arith, c.if-code-gt1.false))
          (passes_out (facts_of a.part) (mem a.array.now a.id.now) w.c a.target w.n w.x s.result (rw (s.ensures, c.shown-byte.ensures)) _ (omega (arith, c.if-code-gt1.false)) (omega (arith, c.if-n-code.false))),
    )

pub returns : goal.returns
returns c =
    let e : c.loop-i.i ≡ length c.args.events.now = omega arith in
    rw (← e) c.loop-i.invariant.2
