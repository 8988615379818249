use mathlib.Core.Path.{◌∙◌, sym, ap}
use lib.ListN.{length}
use Rattle.capture.specs.Samples.{events_of}
use Rattle.capture.specs.Calls.{listed_by, listed_out}
use Rattle.capture.proofs.Sampled.{judge_fine, list_bad}
use Rattle.capture.proofs.events.Goals as goal

pub list_judged-requires : goal.list_judged-requires
list_judged-requires c =
    judge_fine c.args.samples.now (sym c.judge.ensures ∙ c.in-Ok.is)

pub returns-in-Ok : goal.returns-in-Ok
returns-in-Ok c = record { answer = c.list_judged.ensures.answer; bytes = c.list_judged.ensures.bytes }

pub returns-in-Err : goal.returns-in-Err
returns-in-Err c =
    let a = c.args in
    let es = events_of a.bus a.samples.now in
    let bad = list_bad a.bus a.samples.now (length a.out.now) c.in-Err.r (sym c.judge.ensures ∙ c.in-Err.is) in
    record { answer = sym (ap (listed_by es) bad); bytes = sym (ap (listed_out es a.out.now) bad) }
