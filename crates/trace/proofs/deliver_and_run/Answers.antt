use mathlib.Core.List.{[]}
use Rattle.chip.specs.Memory.{mem}
use Rattle.chip.specs.declared.Delivered.{Delivered}
use Rattle.trace.proofs.Runs.{answer_is, levels_are}
use lib.ListN.{length}
use mathlib.Core.Path.{ap}
use Rattle.trace.proofs.deliver_and_run.Goals as goal

pub returns : goal.returns
returns c =
    let d = c.deliver-d in
    let r = c.run in
    let n = length c.args.array.now in
    let k = length c.args.id.now in
    let held = mem c.args.array.now c.args.id.now in
    let stands = ap (λ (x : Delivered). x.chip) d.ensures.answer in record { answer = rw (c.requires.0, c.requires.1) at (answer_is c.args.part c.args.enable held d.result.chip d.new.array d.new.id c.args.events.now c.args.answers.now n k r.result [] stands d.auto.array d.auto.id r.ensures.answer); levels = rw (c.requires.0, c.requires.1) at (levels_are c.args.part c.args.enable held d.result.chip d.new.array d.new.id c.args.events.now c.args.answers.now n k r.result _ stands d.auto.array d.auto.id d.ensures.cells d.ensures.ident r.ensures.levels) }
