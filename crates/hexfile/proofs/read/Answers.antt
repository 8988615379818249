use lib.ListN.{length}
use mathlib.Core.Path.{refl, sym, ◌∙◌}
use Rattle.hexfile.proofs.Scans.{array_size}
use Rattle.hexfile.proofs.read.Goals as goal

pub read_fitted-requires : goal.read_fitted-requires
read_fitted-requires c =
    let a = c.args in
    (array_size a.part (length a.array.now) (sym c.array_verdict.ensures ∙ c.in-Ok.is)).1

pub returns-in-Ok : goal.returns-in-Ok
returns-in-Ok c =
    let a = c.args in
    let v = sym c.array_verdict.ensures ∙ c.in-Ok.is in
    let e = (array_size a.part (length a.array.now) v).0 in
    let r = c.read_fitted in
    record { answer = rw (v, ← e) r.ensures.answer; bytes = rw (v, ← e) r.ensures.bytes }

pub returns-in-Err : goal.returns-in-Err
returns-in-Err c =
    let v = sym c.array_verdict.ensures ∙ c.in-Err.is in
    record { answer = rw v c.refused.ensures; bytes = rw v refl }
