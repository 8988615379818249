use mathlib.Core.Path.{◌∙◌, sym, ap}
use native.Mathlib.Omega.{arith}
use lib.ListN.{length}
use Rattle.capture.specs.Samples.{events_of}
use Rattle.capture.specs.Calls.{listed_by, listed_out}
use Rattle.capture.proofs.Sampled.{list_short, list_fits}
use Rattle.capture.proofs.list_judged.Goals as goal

pub count_events-n-requires : goal.count_events-n-requires
count_events-n-requires c = c.requires

pub returns-then-out-n : goal.returns-then-out-n
returns-then-out-n c =
    let a = c.args in
    let es = events_of a.bus a.samples.now in
    let short = list_short a.bus a.samples.now (length a.out.now) c.requires (omega (arith, c.if-out-n.true, c.count_events-n.ensures)) in
    record { answer = sym (ap (listed_by es) short); bytes = sym (ap (listed_out es a.out.now) short) }

pub list-requires : goal.list-requires
list-requires c = (c.requires, omega (arith, c.if-out-n.false, c.count_events-n.ensures))

pub returns : goal.returns
returns c =
    let l = c.list in
    let a = c.args in
    let es = events_of a.bus a.samples.now in
    let fits = list_fits a.bus a.samples.now (length a.out.now) c.requires (omega (arith, c.if-out-n.false, c.count_events-n.ensures)) in
    record { answer = rw l.ensures.count (sym (ap (listed_by es) fits)); bytes = l.ensures.bytes ∙ sym (ap (listed_out es a.out.now) fits) }
