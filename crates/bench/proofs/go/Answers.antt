use Rattle.bench.specs.Held.{whole}
use Rattle.chip.specs.Memory.{mem}
use borrow.Author.Rules.{rules}
use native.Mathlib.Omega.{arith}
use mathlib.Core.Path.{refl, sym, ◌∙◌}
use Rattle.bench.proofs.Laws.{turn_still, turn_few, turn_fit, turn_on, turns_end, last_on, last_kept, last_end}
use Rattle.bench.proofs.Taped.{told, left_start, left_on, left_still, left_end, not_going, two}
use Rattle.bench.proofs.Worn.{worn_on, worn_still, worn_end}
use Rattle.bench.proofs.go.Goals as goal

pub loop-left-init : goal.loop-left-init
loop-left-init c = (omega arith, refl, refl, refl, (omega (arith, c.requires.none), omega (arith, c.requires.none)), c.requires.fit, refl, refl, refl, omega arith, left_start _ _ _ _ _ _ _, refl, refl, refl, c.requires.worst)

pub turn-t-requires : goal.turn-t-requires
turn-t-requires c =
    let l = c.loop-left in
    record { fit = rw (l.invariant.1, l.invariant.2) l.invariant.5; few = (omega (arith, l.invariant.4, c.loop-left-test.true), omega (arith, l.invariant.4, c.loop-left-test.true)); first = c.requires.first; worst = l.invariant.14 }

pub tape-sent-requires : goal.tape-sent-requires
tape-sent-requires c =
    let l = c.loop-left in
    omega (arith, l.invariant.9, c.loop-left-test.true)

pub returns-then-not-going : goal.returns-then-not-going
returns-then-not-going c =
    let l = c.loop-left in
    let more = c.loop-left-test.true in
    let t = c.turn-t in
    let there = c.sends-there in
    let code = c.code in
    let p = c.tape-sent in
    let e = t.ensures.together in
    let said = t.ensures.found.1 in
    let found = told _ (whole l.held l.buffer (mem l.array l.id)) t.result.ended there.result code.result t.result.answer t.ensures.found there.ensures code.ensures in
    let g = sym c.going.ensures ∙ c.if-not-going.true in
    let over = not_going _ _ _ _ _ t.result.ended there.result code.result l.sent _ _ _ _ _ e found p.ensures.at p.ensures.events p.ensures.levels g in
    let q = left_still _ _ _ _ _ t.result.ended there.result code.result l.sent _ _ _ _ _ e found p.ensures.at p.ensures.events p.ensures.levels l.left _ _ _ more g l.invariant.10 in record { together = turn_still _ _ _ l.held _ _ t.result.held _ _ e l.left _ l.invariant.6 over; last = last_kept _ _ _ _ _ _ e said l.left _ _ more l.invariant.11 over; sent = q.0; events = q.1.0; levels = q.1.1; counts = worn_still _ _ _ _ _ l.counts _ e t.ensures.counts l.left _ more l.invariant.13 over; worst = t.ensures.worst }

pub loop-left-preserved : goal.loop-left-preserved
loop-left-preserved c =
    let l = c.loop-left in
    let more = c.loop-left-test.true in
    let t = c.turn-t in
    let there = c.sends-there in
    let code = c.code in
    let p = c.tape-sent in
    let e = t.ensures.together in
    let said = t.ensures.found.1 in
    let found = told _ (whole l.held l.buffer (mem l.array l.id)) t.result.ended there.result code.result t.result.answer t.ensures.found there.ensures code.ensures in
    let few = turn_few _ _ _ l.held _ _ t.result.held _ _ e in (
      omega arith,
      search rules,
      search rules,
      search rules,
      (omega (arith, few, l.invariant.4, more), omega (arith, few, l.invariant.4, more)),
      turn_fit _ _ _ l.held _ _ t.result.held _ _ e _ _ l.invariant.5,
      turn_on _ _ _ l.held _ _ t.result.held _ _ e l.left _ more l.invariant.6,
      search rules,
      search rules,
      omega (arith, l.invariant.9, more, two _ _ _ _ _ t.result.ended there.result code.result l.sent _ _ _ _ _ e found p.ensures.at p.ensures.events p.ensures.levels),
      left_on _ _ _ _ _ t.result.ended there.result code.result l.sent _ _ _ _ _ e found p.ensures.at p.ensures.events p.ensures.levels l.left _ _ _ more l.invariant.10,
      last_on _ _ _ _ _ _ e said l.left _ _ more l.invariant.11,
      search rules,
      worn_on _ _ _ _ _ l.counts _ e t.ensures.counts l.left _ more l.invariant.13,
      t.ensures.worst,
    )

pub returns : goal.returns
returns c =
    let l = c.loop-left in
    let q = left_end _ _ _ _ _ _ _ _ _ _ _ (omega arith) l.invariant.10 in
    record { together = turns_end _ _ _ _ _ _ (omega arith) l.invariant.6; last = last_end _ _ _ _ _ _ _ (omega arith) l.invariant.11; sent = q.0; events = q.1.0; levels = q.1.1; counts = worn_end _ _ _ _ _ _ _ (omega arith) l.invariant.13; worst = l.invariant.14 }
