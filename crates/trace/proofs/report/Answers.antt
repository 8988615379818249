use mathlib.Core.Path.{refl}
use Rattle.trace.proofs.report.Goals as goal

pub returns-in-Ok : goal.returns-in-Ok
returns-in-Ok c =
    let v = c.in-Ok.is in
    let said = c.say_answer.ensures in
    record { count = said.count; text = rw (v, said.text, c.show.ensures) refl }

pub returns-in-Err : goal.returns-in-Err
returns-in-Err c =
    let v = c.in-Err.is in
    let said = c.say_refusal.ensures in
    record { count = said.count; text = rw v said.text }
