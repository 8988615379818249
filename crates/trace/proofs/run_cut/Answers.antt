use Rattle.trace.specs.Trace.{codes_of, code_of, traced_of}
use Rattle.trace.proofs.Texts.{front_is, each-length}
use Rattle.trace.proofs.Runs.{id_most}
use Rattle.parts.specs.Table.{id_size_of}
use Rattle.parts.specs.declared.Facts.{Facts}
use Rattle.parts.proofs.Laws.{sound}
use lib.Seq.{length-take-le}
use lib.ListN.{length}
use Prim.Native.Nat.{◌-◌}
use native.Mathlib.Omega.{arith}
use mathlib.Core.Path.{sym, ap, ◌∙◌}
use Rattle.trace.proofs.run_cut.Goals as goal

pub slice_bounds-recode-end-2 : goal.slice_bounds-recode-end-2
slice_bounds-recode-end-2 c = sym (length-take-le _ _ c.requires.2)

pub recode-requires : goal.recode-requires
recode-requires c = length-take-le _ _ c.requires.2

pub slice_bounds-run_events-end-2 : goal.slice_bounds-run_events-end-2
slice_bounds-run_events-end-2 c = sym (length-take-le _ _ (omega (arith, ap (λ (x : Facts). x.size) c.facts_of-f.ensures.value, (sound c.args.part).size_most, c.requires.0)))

pub slice_bounds-run_events-end-3 : goal.slice_bounds-run_events-end-3
slice_bounds-run_events-end-3 c = (omega (arith, (c.id_size-own.ensures ∙ ap id_size_of c.facts_of-f.ensures.value), id_most c.args.part, c.requires.1))

pub slice_bounds-run_events-end-4 : goal.slice_bounds-run_events-end-4
slice_bounds-run_events-end-4 c = sym (length-take-le _ _ (omega (arith, (c.id_size-own.ensures ∙ ap id_size_of c.facts_of-f.ensures.value), id_most c.args.part, c.requires.1)))

pub slice_bounds-run_events-end-6 : goal.slice_bounds-run_events-end-6
slice_bounds-run_events-end-6 c = sym (ap length (front_is (codes_of c.args.letters.now) _ _ (length c.args.letters.now) c.recode.ensures (each-length code_of c.args.letters.now)) ∙ each-length code_of c.args.letters.now)

pub slice_bounds-run_events-end-8 : goal.slice_bounds-run_events-end-8
slice_bounds-run_events-end-8 c = sym (length-take-le _ _ c.requires.3)

pub run_events-requires : goal.run_events-requires
run_events-requires c =
    let a = c.args in
    let pre = c.requires in
    let codes = ap length (front_is (codes_of c.args.letters.now) _ _ (length c.args.letters.now) c.recode.ensures (each-length code_of c.args.letters.now)) ∙ each-length code_of a.letters.now in
    (length-take-le _ _ (omega (arith, ap (λ (x : Facts). x.size) c.facts_of-f.ensures.value, (sound c.args.part).size_most, c.requires.0)) ∙ ap (λ (x : Facts). x.size) c.facts_of-f.ensures.value, length-take-le _ _ (omega (arith, (c.id_size-own.ensures ∙ ap id_size_of c.facts_of-f.ensures.value), id_most c.args.part, c.requires.1)) ∙ (c.id_size-own.ensures ∙ ap id_size_of c.facts_of-f.ensures.value), length-take-le _ _ pre.3 ∙ sym codes, omega (arith, codes, pre.4), omega (arith, pre.5))

pub returns : goal.returns
returns c =
    let a = c.args in
    let said = c.run_events.ensures in
    record { count = said.count; text = said.text ∙ ap (traced_of a.part a.enable) (front_is (codes_of c.args.letters.now) _ _ (length c.args.letters.now) c.recode.ensures (each-length code_of c.args.letters.now)) }
