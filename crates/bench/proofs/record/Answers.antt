use Rattle.bench.specs.Calls.{final_of}
use Rattle.chip_laws.specs.Range.{Typed}
use Prim.Native.Nat.{◌≤◌}
use lib.ListN.{length, length-take}
use native.Mathlib.Omega.{arith}
use Rattle.bench.proofs.Laws.{run_length, run_fit, run_first}
use Rattle.bench.proofs.Taped.{laid_none}
use mathlib.Core.Path.{refl, sym, ◌∙◌}
use borrow.Author.Rules.{rules}
use Rattle.bench.proofs.record.Goals as goal

pub slice_bounds-bytes-end : goal.slice_bounds-bytes-end
slice_bounds-bytes-end c = run_length _ _ _ _ _ _ _ (sym c.judge-verdict.ensures ∙ c.in-Ok.is)

pub slice_bounds-bytes-end-in-Ok : goal.slice_bounds-bytes-end-in-Ok
slice_bounds-bytes-end-in-Ok c =
    let short : (c.args.request.length ≤ length c.args.buffer.now) = run_length _ _ _ _ _ _ _ (sym c.judge-verdict.ensures ∙ c.in-Ok.is) in
    simp length-take (omega arith)

pub drive-driven-requires : goal.drive-driven-requires
drive-driven-requires c =
    let v = (sym c.judge-verdict.ensures ∙ c.in-Ok.is) in
    let t : Typed c.args.chip = record { byte = search (rules, c.well_formed.1.1.1.0); latches = search (rules, c.well_formed.1.1.1.0) } in
    record { fit = run_fit _ _ _ _ _ _ _ t v; first = run_first _ _ _ _ _ _ _ v; worst = refl }

pub returns-in-Ok : goal.returns-in-Ok
unfolding final_of
returns-in-Ok c =
    let v = (sym c.judge-verdict.ensures ∙ c.in-Ok.is) in
    let t = c.drive-driven.ensures in
    record { answer = rw v t.answer; stored = rw v t.stored; bytes = rw (v, t.bytes) refl; sent = rw v t.sent; events = rw v t.events; levels = rw v t.levels }

pub returns-in-Err : goal.returns-in-Err
returns-in-Err c =
    let v = sym c.judge-verdict.ensures ∙ c.in-Err.is in
    let q = c.refused.ensures in
    record { answer = rw v (q.0); stored = rw v (refl); bytes = rw v (refl); sent = rw v (q.1); events = rw v (laid_none _); levels = rw v (laid_none _) }
