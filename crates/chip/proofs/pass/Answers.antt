use mathlib.Core.Path.{refl}
use borrow.Author.Tests.{lt-ltb, le-ltb}
use Rattle.chip.specs.Runs.{after_of, memory_of, levels_of, cycles_of}
use Rattle.chip.proofs.pass.Goals as goal

pub returns : goal.returns
returns c =
    let t = c.run_all-w.ensures in
    let m = le-ltb _ _ c.if-events-gt32768.false in
    let r = le-ltb _ _ c.if-answers-events.false in
    record { answer = rw (m, r) (λ i. record { line = (t.state i).line; latch = (t.state i).latch; cycles = t.count i; at = t.at i }); stored = rw (m, r) t.stored; levels = rw (m, r) t.levels }
