use Rattle.std.proofs.Common.{[]}
use mathlib.Core.Path.{◌≡◌, ◌∙◌, refl, sym, ap}
use mathlib.Core.List.{List, ◌++◌}
use Prim.Native.Nat.{ℕ}
use native.Mathlib.Omega.{arith}
use lib.ListN.{length, take, length-set}
use Rattle.capture.specs.Samples.{events_of}
use Rattle.capture.specs.Steps.{left_of}
use Rattle.capture.proofs.Sampled.{left_start, one_made, put_before, put_behind, put_all}
use Rattle.capture.proofs.list.Goals as goal

pub loop-next-init : goal.loop-next-init
loop-next-init c =
    let a = c.args in
    let s = left_start a.bus a.samples.now in
    (omega arith, refl, omega (arith, ap length s), sym s, refl)

pub next_event-requires : goal.next_event-requires
next_event-requires c = (omega arith, c.requires.0)

pub bounds-out-n : goal.bounds-out-n
bounds-out-n c =
    let n = c.in-Some.next in
    let e = c.in-Some.ensures in
    let l = c.loop-next in
    let left = left_of c.args.bus c.args.samples.now n.next in
    omega (arith, l.invariant.1, l.invariant.2, c.requires.1, ap length (e.events ∙ one_made n.code left e.some))

pub loop-next-smaller : goal.loop-next-smaller
loop-next-smaller c = let e = c.in-Some.ensures in omega (arith, e.onward, e.moves, e.within)

pub loop-next-preserved : goal.loop-next-preserved
loop-next-preserved c =
    let n = c.in-Some.next in
    let e = c.in-Some.ensures in
    let l = c.loop-next in
    let a = c.args in
    let left = left_of a.bus a.samples.now n.next in
    let more = e.events ∙ one_made n.code left e.some in (
      omega (arith, e.onward, e.moves),
      length-set l.out l.n n.code ∙ l.invariant.1,
      omega (arith, l.invariant.2, ap length more),
      put_before l.out (events_of a.bus a.samples.now) l.n n.code left (omega (arith, l.invariant.1, l.invariant.2, c.requires.1, ap length more)) (ap (λ (k : List ℕ). take l.n l.out ++ k) (sym more) ∙ l.invariant.3),
      put_behind l.out a.out.now l.n n.code l.invariant.4,
    )

pub returns : goal.returns
returns c =
    let l = c.loop-next in
    let a = c.args in
    let ss = a.samples.now in
    let none : left_of a.bus ss l.i ≡ [] = rw c.in_default.is at c.next_event.ensures in
    let all : l.n ≡ length (events_of a.bus ss) = omega (arith, l.invariant.2, ap length none) in
    record { count = all; bytes = put_all l.out a.out.now (events_of a.bus ss) (left_of a.bus ss l.i) l.n l.invariant.3 l.invariant.4 none all }
