use Rattle.trace.proofs.Promises.{few_letters, judged_right, judged_refused}
use native.Mathlib.Omega.{arith}
use mathlib.Core.Path.{sym, ◌∙◌}
use Rattle.trace.proofs.compose.Goals as goal

pub run_letters-requires : goal.run_letters-requires
run_letters-requires c =
    let j = c.judge-judged in
    (few_letters j.result.part j.result.enable c.letters.result.now (judged_right c.args.text.now j.result j.ensures _ c.letters.ensures.bytes c.in-Ok.is).0, omega (arith, c.requires))

pub returns-in-Ok : goal.returns-in-Ok
returns-in-Ok c =
    let j = c.judge-judged in
    let said = c.run_letters.ensures in
    record { count = said.count; text = said.text ∙ sym (judged_right c.args.text.now j.result j.ensures _ c.letters.ensures.bytes c.in-Ok.is).1 }

pub returns-in-Err : goal.returns-in-Err
returns-in-Err c =
    let j = c.judge-judged in
    let said = c.say_refusal.ensures in
    record { count = said.count; text = said.text ∙ sym (judged_refused c.args.text.now j.result j.ensures _ c.in-Err.is) }
