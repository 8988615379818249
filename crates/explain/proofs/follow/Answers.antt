use Rattle.chip.specs.Model.{old}
use Rattle.trace.proofs.Texts.{each-length}
use Rattle.trace.proofs.Laws.{each_at}
use Rattle.trace.specs.Trace.{code_of}
use Rattle.chip.specs.Calls.{step_of}
use mathlib.Core.Path.{sym, ap, ◌∙◌}
use Prim.Native.Nat.{ℕ, ◌<◌}
use Rattle.explain.proofs.Laws.{none_yet, turn_on, all_gathered}
use Rattle.trace.specs.Trace.{codes_of}
use Rattle.chip.specs.Memory.{mem}
use native.Mathlib.Omega.{arith}
use lib.ListN.{length}
use Rattle.explain.proofs.follow.Goals as goal

pub loop-i-init : goal.loop-i-init
loop-i-init c = (omega arith, none_yet _ _ _ _ _ _)

pub overflow_add-cycles : goal.overflow_add-cycles
overflow_add-cycles c = omega (arith, c.loop-i.invariant.0, c.loop-i-test.true, c.requires.0)

pub loop-i-preserved : goal.loop-i-preserved
loop-i-preserved c =
    let a = c.args in
    let l = c.loop-i in
    let s = c.turn-s in
    let es = codes_of a.letters.now in
    let there : l.i < length a.letters.now = c.loop-i-test.true in
    let far : l.i < length es = omega (arith, there, each-length code_of a.letters.now) in
    let room : l.i < length l.levels = omega (arith, there, l.auto.levels, c.requires.1) in
    let code = c.code_of.ensures ∙ sym (each_at code_of a.letters.now l.i there) in
    let on = turn_on a.part a.enable es a.first (mem a.array.now a.id.now) l.held (mem l.array l.id) l.levels l.cycles l.i s.result _ _ far room
    (s.ensures.answer ∙ ap (λ (x : ℕ). (step_of a.part a.enable old l.held (mem l.array l.id) x).answer) code)
    (s.ensures.cells ∙ ap (λ (x : ℕ). (step_of a.part a.enable old l.held (mem l.array l.id) x).mem.cells) code)
    (s.ensures.ident ∙ ap (λ (x : ℕ). (step_of a.part a.enable old l.held (mem l.array l.id) x).mem.ident) code) l.invariant.1 in
    (omega (arith, l.invariant.0), on)

pub returns : goal.returns
returns c =
    let a = c.args in
    let l = c.loop-i in
    let all = all_gathered a.part a.enable (codes_of a.letters.now) a.first (mem a.array.now a.id.now) l.held (mem l.array l.id) l.levels l.cycles l.i
    (omega (arith, c.loop-i-test.false, each-length code_of a.letters.now)) (omega (arith, c.loop-i-test.false, l.auto.levels, c.requires.1)) l.invariant.1 in record { count = all.0; levels = all.1 }
