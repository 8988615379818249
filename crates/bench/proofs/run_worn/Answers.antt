use Rattle.bench.specs.Calls.{final_of}
use Rattle.bench.specs.Worn.{tape_worn_of}
use Rattle.chip_laws.specs.Range.{Typed}
use Prim.Native.Nat.{◌≤◌}
use lib.ListN.{length, length-take}
use native.Mathlib.Omega.{arith}
use Rattle.bench.proofs.Laws.{run_length, run_fit, run_first, fine_judged}
use Rattle.wear.specs.Report.{most_of}
use Rattle.wear.proofs.Grown.{born_fine}
use mathlib.Core.Path.{refl, sym, ◌∙◌, ap}
use borrow.Author.Rules.{rules}
use Rattle.bench.proofs.run_worn.Goals as goal

pub slice_bounds-bytes-end : goal.slice_bounds-bytes-end
slice_bounds-bytes-end c = run_length _ _ _ _ _ _ _ (fine_judged _ _ _ (sym c.judge_worn-verdict.ensures ∙ c.in-Ok.is)).1

pub slice_bounds-bytes-end-in-Ok : goal.slice_bounds-bytes-end-in-Ok
slice_bounds-bytes-end-in-Ok c =
    let short : (c.args.request.length ≤ length c.args.buffer.now) = run_length _ _ _ _ _ _ _ (fine_judged _ _ _ (sym c.judge_worn-verdict.ensures ∙ c.in-Ok.is)).1 in
    simp length-take (omega arith)

pub drive-driven-requires : goal.drive-driven-requires
drive-driven-requires c =
    let v = (fine_judged _ _ _ (sym c.judge_worn-verdict.ensures ∙ c.in-Ok.is)).1 in
    let t : Typed c.args.chip = record { byte = search (rules, c.well_formed.1.1.1.0); latches = search (rules, c.well_formed.1.1.1.0) } in
    record { fit = run_fit _ _ _ _ _ _ _ t v; first = run_first _ _ _ _ _ _ _ v; worst = born_fine _ _ (fine_judged _ _ _ (sym c.judge_worn-verdict.ensures ∙ c.in-Ok.is)).0 }

pub returns-in-Ok : goal.returns-in-Ok
unfolding final_of tape_worn_of
returns-in-Ok c =
    let w = sym c.judge_worn-verdict.ensures ∙ c.in-Ok.is in
    let t = c.drive-driven.ensures in
    record { answer = rw w t.answer; stored = rw w t.stored; bytes = rw (w, t.bytes) refl; counts = rw w t.counts; worst = rw w (t.worst ∙ ap most_of t.counts) }

pub returns-in-Err : goal.returns-in-Err
returns-in-Err c =
    let w = sym c.judge_worn-verdict.ensures ∙ c.in-Err.is in
    record { answer = rw w c.refused-gone.ensures.0; stored = rw w refl; bytes = rw w refl; counts = rw w refl; worst = rw w refl }
