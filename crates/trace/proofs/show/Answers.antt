use Rattle.std.proofs.Common.{◌≡◌, ℕ, List, ◌++◌, ◌<◌, length, take, drop, get_or, refl, ap, ◌∙◌, arith}
use Rattle.std.proofs.Math.ListN.{set, length-set}
use Rattle.trace.specs.Trace.{each_of, char_of}
use Rattle.trace.proofs.Laws.{each_turn, each_end, each_ahead}
use Rattle.trace.proofs.show.Goals as goal

pub loop-level-preserved : goal.loop-level-preserved
loop-level-preserved c =
    let l = c.loop-level in
    let i = l.level-index in
    let xs = c.args.answers.now in
    let lt : i < length xs = omega arith in
    let was : get_or l.answers i 0 ≡ get_or xs i 0 = ap (λ (z : List ℕ). get_or z i 0) l.invariant.0 ∙ each_ahead char_of xs i in
    let now-is : c.char_of.result ≡ char_of (get_or xs i 0) = c.char_of.ensures ∙ ap char_of was in
    (ap (λ (x : List ℕ). set x i c.char_of.result) l.invariant.0 ∙ ap (λ (y : ℕ). set (each_of char_of (take i xs) ++ drop i xs) i y) now-is ∙ each_turn char_of xs xs i lt refl, simp length-set l.invariant.1)

pub returns : goal.returns
returns c = each_end char_of c.args.answers.now c.args.answers.now _ c.loop-level.level-index (omega arith) refl c.loop-level.invariant.0
