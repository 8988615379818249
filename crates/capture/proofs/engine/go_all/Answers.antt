use Rattle.capture.specs.Steps.{left_of}
use Rattle.std.proofs.Common.{[], ◌≡◌}
use Rattle.capture.specs.Course.{start_of, finish_of}
use Rattle.capture.proofs.Finish.{rises_on, finished, one_most}
use Rattle.capture.proofs.Sampled.{left_start, rises_start}
use Rattle.capture.specs.Steps.{rises_left}
use Rattle.capture.specs.Samples.{rises_of}
use Rattle.chip.specs.Model.{ours}
use Rattle.chip.specs.Memory.{mem, chip}
use Rattle.parts.specs.Table.{facts_of}
use lib.ListN.{drop}
use mathlib.Core.List.{List}
use mathlib.Core.Path.{◌∙◌, sym, ap, refl}
use Prim.Native.Nat.{◌<◌, ℕ}
use native.Mathlib.Omega.{arith}
use borrow.Author.Rules.{rules}
use Rattle.capture.proofs.engine.go_all.Goals as goal

pub loop-next-init : goal.loop-next-init
loop-next-init c =
    let a = c.args in
    let rises = rises_of a.bus a.samples.now in (
      omega arith,
      c.requires.0,
      refl,
      refl,
      omega arith,
      omega arith,
      omega arith,
      omega arith,
      rises_start a.bus a.samples.now,
      ap (λ (z : List ℕ). finish_of (ours (facts_of a.part) a.enable) rises (chip a.line a.latch.now) (mem a.array.now a.id.now) (start_of a.line) z)
          (sym (left_start a.bus a.samples.now)),
    )

pub next_event-requires : goal.next_event-requires
next_event-requires c = (omega (arith, c.loop-next.invariant.0), c.requires.1)

pub turn-g-requires : goal.turn-g-requires
turn-g-requires c =
    let l = c.loop-next.invariant in
    let e = c.in-Some.ensures in
    (l.1, omega (arith, l.4, e.onward), omega (arith, l.5, e.onward), omega (arith, l.6, e.onward), omega (arith, l.7, e.onward), e.some, omega (arith, e.moves), e.within, c.requires.1)

pub loop-next-smaller : goal.loop-next-smaller
loop-next-smaller c = let e = c.in-Some.ensures in omega (arith, e.onward, e.moves, e.within)

pub loop-next-preserved : goal.loop-next-preserved
loop-next-preserved c =
    let a = c.args in
    let l = c.loop-next in
    let n = c.in-Some.next in
    let e = c.in-Some.ensures in
    let t = c.turn-g in
    let on : l.i < n.next = omega (arith, e.onward, e.moves) in
    let rises = rises_of a.bus a.samples.now in
    let r = rises_on rises (rises_left a.bus a.samples.now n.next) l.g.clocks n.at n.code (l.invariant.8 ∙ e.rises) in (
      omega (arith, on),
      t.ensures.room,
      search rules,
      search rules,
      omega (arith, on, l.invariant.4, t.ensures.step.events),
      omega (arith, on, l.invariant.5, t.ensures.step.clocks, one_most n.code),
      omega (arith, on, l.invariant.6, t.ensures.step.ends),
      omega (arith, on, l.invariant.7, t.ensures.step.cycles),
      ap (λ (k : ℕ). drop k rises) t.ensures.step.clocks ∙ r.0,
      t.ensures.step.finish rises r.1 ∙ ap (λ (z : List ℕ). finish_of (ours (facts_of a.part) a.enable) rises (chip l.g.line l.latch) (mem l.array l.id) l.g z) (sym e.events) ∙ l.invariant.9,
    )

pub returns : goal.returns
returns c =
    let a = c.args in
    let l = c.loop-next in
    let none : left_of a.bus a.samples.now l.i ≡ [] = rw c.in_default.is at c.next_event.ensures in
    finished (ours (facts_of a.part) a.enable) a.bus a.samples.now _ _ a.line _ _ _
    (ap (λ (z : List ℕ). finish_of (ours (facts_of a.part) a.enable) (rises_of a.bus a.samples.now) (chip l.g.line l.latch) (mem l.array l.id) l.g z)
    (sym none) ∙ l.invariant.9)
