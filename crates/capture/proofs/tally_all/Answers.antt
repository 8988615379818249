use Rattle.std.proofs.Common.{[]}
use Rattle.capture.proofs.Sampled.{left_start}
use Rattle.capture.specs.declared.Tally.{Tally}
use Rattle.capture.specs.Marks.{place_of}
use Rattle.capture.specs.Tallies.{tallied_of, tallies_of}
use Rattle.capture.specs.Steps.{left_of, one_of}
use borrow.Author.Tests.{lt-ltb}
use mathlib.Core.Path.{◌≡◌, ◌∙◌, refl, sym, ap}
use mathlib.Core.List.{List, ◌++◌}
use Prim.Native.Nat.{ℕ, ◌<◌}
use native.Mathlib.Omega.{arith}
use Rattle.capture.proofs.tally_all.Goals as goal

-- one event more is counted, or none
one : (t : Tally) (place e : ℕ) (es : List ℕ) → e < 4 → tallies_of (tallied_of t place e) (place_of place e) es ≡ tallies_of t place (one_of e ++ es)
one t place e es h = rw (lt-ltb e 4 h) refl

pub loop-next-init : goal.loop-next-init
loop-next-init c =
    let a = c.args in
    (omega arith, ap (λ (es : List ℕ). tallies_of a.first 0 es) (sym (left_start a.bus a.samples.now)))

pub next_event-requires : goal.next_event-requires
next_event-requires c = (omega arith, c.requires)

pub loop-next-smaller : goal.loop-next-smaller
loop-next-smaller c = let e = c.in-Some.ensures in omega (arith, e.onward, e.moves, e.within)

pub loop-next-preserved : goal.loop-next-preserved
loop-next-preserved c =
    let n = c.in-Some.next in
    let e = c.in-Some.ensures in
    let l = c.loop-next in
    let a = c.args in (
      omega (arith, e.onward, e.moves),
      rw (c.place_after-place.ensures, c.tallied-t.ensures)
          (one l.t l.place n.code (left_of a.bus a.samples.now n.next) e.some
          ∙ ap (λ (es : List ℕ). tallies_of l.t l.place es) (sym e.events) ∙ l.invariant.1),
    )

pub returns : goal.returns
returns c =
    let l = c.loop-next in
    let none : left_of c.args.bus c.args.samples.now l.i ≡ [] = rw c.in_default.is at c.next_event.ensures in
    ap (λ (es : List ℕ). tallies_of l.t l.place es) (sym none) ∙ l.invariant.1
