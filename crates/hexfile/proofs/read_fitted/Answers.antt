use lib.ListN.{length}
use Prim.Native.Nat.{ℕ}
use mathlib.Core.List.{List}
use mathlib.Core.Path.{ap, ◌∙◌}
use Rattle.hexfile.specs.Calls.{got_of}
use Rattle.hexfile.specs.File.{lines_of, read_at, read_of}
use Rattle.hexfile.proofs.Scans.{fresh}
use Rattle.hexfile.proofs.read_fitted.Goals as goal

pub returns : goal.returns
unfolding read_of
returns c =
    let a = c.args in
    let r = c.read_into in
    let e = fresh (length a.array.now) 32768 c.requires in
    record { answer = r.ensures.answer ∙ ap (λ (cells : List ℕ). (got_of (read_at cells 0 (lines_of a.text.now)) a.array.now).answer) e; bytes = r.ensures.bytes ∙ ap (λ (cells : List ℕ). (got_of (read_at cells 0 (lines_of a.text.now)) a.array.now).array) e }
