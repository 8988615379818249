use Rattle.chip.proofs.Quick.{coast_in}
use Rattle.line.specs.declared.Phase.TheVariants.{Receive, Send}
use Rattle.chip.specs.Onward.{ignores_of}
use Rattle.chip.specs.Memory.{mem}
use Rattle.parts.specs.Table.{facts_of}
use mathlib.Core.Path.{ap}
use native.Mathlib.Omega.{arith}
use Rattle.chip.proofs.coast.Goals as goal

pub returns-in-Idle : goal.returns-in-Idle
returns-in-Idle c =
    let a = c.args in
    c.hold-at.ensures (facts_of a.part) (mem a.array.now a.id.now) a.line (omega (arith, ap ignores_of c.in-Idle.is))

pub returns-in-Receive : goal.returns-in-Receive
returns-in-Receive c =
    let a = c.args in
    let f = facts_of a.part in
    let m = mem a.array.now a.id.now in
    coast_in f m a.events.now a.line (Receive c.in-Receive.field-0) _ a.from _ _ _ _ _ c.in-Receive.is (c.bits_in.ensures f m c.in-Receive.field-0)

pub returns-in-Send : goal.returns-in-Send
returns-in-Send c =
    let a = c.args in
    coast_in (facts_of a.part) (mem a.array.now a.id.now) a.events.now a.line (Send c.in-Send.t) _ a.from _ _ _ _ _ c.in-Send.is c.bits_out.ensures

pub returns-in-Busy : goal.returns-in-Busy
returns-in-Busy c =
    let a = c.args in
    c.hold-at-in-Busy.ensures (facts_of a.part) (mem a.array.now a.id.now) a.line (omega (arith, ap ignores_of c.in-Busy.is))
