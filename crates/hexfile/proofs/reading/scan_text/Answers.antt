use Rattle.hexfile.proofs.Scans.{line_taken, line_judged, no_line}
use Rattle.hexfile.specs.Steps.{scan_of}
use Rattle.std.specs.Prelude.{ℕ, Result}
use Rattle.parts.specs.declared.Refusal.{Refusal}
use native.Mathlib.Omega.{arith}
use mathlib.Core.Path.{refl, sym, ap, ◌∙◌}
use Prim.Native.Nat.{◌-◌}
use Rattle.hexfile.proofs.reading.scan_text.Goals as goal

pub loop-at-init : goal.loop-at-init
loop-at-init c = (omega arith, omega arith, refl, refl)

pub returns-then-not-is_taken : goal.returns-then-not-is_taken
returns-then-not-is_taken c =
    let l = c.loop-at in
    let t = c.args.text.now in
    let n = c.next_line-line in
    let q = c.is_taken in
    ap (λ (s : Result ℕ Refusal). scan_of s n.new.cells) c.judged.ensures
    ∙ line_judged t l.cells n.new.cells l.at l.k n.result n.ensures (sym q.ensures ∙ c.if-not-is_taken.true)
    ∙ l.invariant.3

pub loop-at-preserved : goal.loop-at-preserved
loop-at-preserved c =
    let l = c.loop-at in
    let t = c.args.text.now in
    let n = c.next_line-line in
    let q = c.is_taken in (
      n.ensures.within,
      omega (arith, n.ensures.from),
      n.auto.cells ∙ l.invariant.2,
      line_taken t l.cells n.new.cells l.at l.k n.result n.ensures (sym q.ensures ∙ c.if-not-is_taken.false) ∙ l.invariant.3,
    )

pub returns : goal.returns
returns c =
    let l = c.loop-at in
    no_line c.args.text.now l.cells l.at l.k c.loop-at-test.false ∙ l.invariant.3
