use Rattle.std.proofs.Common.{ℕ, List, ◌++◌, ◌<◌, length, take, drop, ap, ◌∙◌, arith}
use Rattle.std.proofs.Math.ListN.{set, length-set}
use Rattle.trace.specs.Trace.{each_of, code_of}
use Rattle.trace.proofs.Laws.{each_turn, each_end}
use Rattle.trace.proofs.recode.Goals as goal

pub loop-i-preserved : goal.loop-i-preserved
loop-i-preserved c =
    let l = c.loop-i in
    let a = c.args in
    let lt : l.i < length a.letters.now = omega arith in
    (ap (λ (x : List ℕ). set x l.i c.code_of.result) l.invariant.0 ∙ ap (λ (y : ℕ). set (each_of code_of (take l.i a.letters.now) ++ drop l.i a.events.now) l.i y) c.code_of.ensures ∙ each_turn code_of a.letters.now a.events.now l.i lt c.requires, simp length-set l.invariant.1)

pub returns : goal.returns
returns c = each_end code_of c.args.letters.now c.args.events.now _ c.loop-i.i (omega arith) c.requires c.loop-i.invariant.0
