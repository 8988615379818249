use Rattle.capture.specs.Calls.{seen_verdict_of}
use mathlib.Core.Path.{refl}
use Rattle.capture.proofs.seen_verdict.Goals as goal

pub returns : goal.returns
unfolding seen_verdict_of
returns c = rw (c.sooner.ensures, c.judge.ensures, c.held_verdict-held.ensures) refl
