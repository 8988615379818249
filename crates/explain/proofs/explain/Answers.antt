use Rattle.trace.proofs.Promises.{judged_right, judged_refused}
use Rattle.trace.specs.Trace.{laying_of}
use mathlib.Core.List.{List}
use mathlib.Core.Path.{sym, ap, ◌∙◌}
use Prim.Native.Nat.{ℕ}
use Rattle.explain.proofs.explain.Goals as goal

pub tell_letters-requires : goal.tell_letters-requires
tell_letters-requires c = (judged_right c.args.text.now c.judge-judged.result c.judge-judged.ensures _ c.letters.ensures.bytes c.in-Ok.is).0

pub returns-in-Ok : goal.returns-in-Ok
returns-in-Ok c =
    let out = c.args.out.now in
    let j = c.judge-judged in
    let said = c.tell_letters.ensures in
    let text = sym (judged_right c.args.text.now j.result j.ensures _ c.letters.ensures.bytes c.in-Ok.is).1 in
    record { answer = said.answer ∙ ap (λ (x : List ℕ). (laying_of out x).answer) text; text = said.text ∙ ap (λ (x : List ℕ). (laying_of out x).out) text }

pub returns-in-Err : goal.returns-in-Err
returns-in-Err c =
    let out = c.args.out.now in
    let j = c.judge-judged in
    let said = c.refused.ensures in
    let text = sym (judged_refused c.args.text.now j.result j.ensures _ c.in-Err.is) in
    record { answer = said.answer ∙ ap (λ (x : List ℕ). (laying_of out x).answer) text; text = said.text ∙ ap (λ (x : List ℕ). (laying_of out x).out) text }
