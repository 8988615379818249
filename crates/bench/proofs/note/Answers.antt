use mathlib.Core.Path.{refl}
use Rattle.bench.proofs.note.Goals as goal

pub returns-then-not-there : goal.returns-then-not-there
returns-then-not-there c = record { at = rw (c.if-not-there.true) (refl); events = rw (c.if-not-there.true) (refl); levels = rw (c.if-not-there.true) (refl) }

pub returns : goal.returns
returns c = record { at = rw (c.if-not-there.false) (refl); events = rw (c.if-not-there.false) (c.put.ensures); levels = rw (c.if-not-there.false) (c.put-2.ensures) }
