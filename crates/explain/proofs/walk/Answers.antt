use Rattle.chip.specs.Model.{old}
use Rattle.trace.proofs.Promises.{few_letters}
use Rattle.explain.proofs.Laws.{steps_run}
use Rattle.trace.specs.Trace.{codes_of}
use Rattle.chip_laws.specs.Runs.{steps_of}
use Rattle.chip.specs.Memory.{mem}
use Rattle.chip.specs.declared.Delivered.{Delivered}
use Rattle.state.specs.declared.Chip.{Chip}
use lib.ListN.{length}
use mathlib.Core.Path.{ap, ◌∙◌}
use Rattle.explain.proofs.walk.Goals as goal

pub follow-requires : goal.follow-requires
follow-requires c = (few_letters c.args.part c.args.enable c.args.letters.now c.requires.0, c.requires.1)

pub returns : goal.returns
returns c =
    let d = c.deliver-delivered in
    let f = c.follow in
    let es = codes_of c.args.letters.now in
    let here = mem d.new.array d.new.id in
    let stands = ap (λ (x : Delivered). x.chip) d.ensures.answer in
    let run = steps_run c.args.part c.args.enable es d.new.array d.new.id (mem c.args.array.now c.args.id.now) (length c.args.array.now) (length c.args.id.now) c.requires.0 c.requires.2 c.requires.3 d.auto.array d.auto.id d.ensures.cells d.ensures.ident in
    record { count = f.ensures.count ∙ ap (λ (x : Chip). (steps_of c.args.part c.args.enable old x here es).cycles) stands ∙ run.0; levels = f.ensures.levels ∙ ap (λ (x : Chip). (steps_of c.args.part c.args.enable old x here es).levels) stands ∙ run.1 }
