use Rattle.trace.proofs.Runs.{traced_is}
use mathlib.Core.Path.{◌∙◌}
use Rattle.trace.proofs.run_events.Goals as goal

pub returns : goal.returns
returns c =
    let d = c.deliver_and_run-ran in
    let said = c.report.ensures in
    record { count = said.count; text = said.text ∙ traced_is c.args.part c.args.enable c.args.events.now c.args.answers.now d.result _ c.requires.2 d.ensures.answer d.ensures.levels }
