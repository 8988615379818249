use Rattle.parts.proofs.Kit.{tests}
use Rattle.capture.specs.Steps.{quiet_of}
use native.Mathlib.Omega.{arith}
use borrow.Author.Tests.{lt-ltb, le-ltb}
use lib.Dec.{ltb}
use mathlib.Core.Path.{◌≡◌, refl}
use mathlib.Core.Bool.{true, false}
use Rattle.capture.proofs.engine.quiet.Goals as goal

pub returns-then-code-gt1 : goal.returns-then-code-gt1
unfolding quiet_of
returns-then-code-gt1 c = let big : ltb c.args.code 2 ≡ false = le-ltb c.args.code 2 (omega (arith, c.if-code-gt1.true)) in rw big refl

pub returns-in-Idle : goal.returns-in-Idle
unfolding quiet_of
returns-in-Idle c = let small : ltb c.args.code 2 ≡ true = lt-ltb c.args.code 2 (omega (arith, c.if-code-gt1.false)) in simp (tests, small, c.in-Idle.is)

pub returns-in-Receive : goal.returns-in-Receive
unfolding quiet_of
returns-in-Receive c = let small : ltb c.args.code 2 ≡ true = lt-ltb c.args.code 2 (omega (arith, c.if-code-gt1.false)) in simp (tests, small, c.in-Receive.is)

pub returns-in-Send : goal.returns-in-Send
unfolding quiet_of
returns-in-Send c = let small : ltb c.args.code 2 ≡ true = lt-ltb c.args.code 2 (omega (arith, c.if-code-gt1.false)) in simp (tests, small, c.in-Send.is)

pub returns-in-Busy : goal.returns-in-Busy
unfolding quiet_of
returns-in-Busy c = let small : ltb c.args.code 2 ≡ true = lt-ltb c.args.code 2 (omega (arith, c.if-code-gt1.false)) in simp (tests, small, c.in-Busy.is)
