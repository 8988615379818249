use Rattle.trace.proofs.Promises.{few_letters}
use Rattle.explain.proofs.Laws.{printed_run}
use Rattle.trace.specs.Trace.{codes_of, TraceLeft}
use native.Mathlib.Omega.{arith}
use lib.ListN.{length}
use mathlib.Core.Path.{ap, ◌∙◌}
use Prim.Native.Nat.{◌≤◌}
use Rattle.explain.proofs.tell_fitted.Goals as goal

pub returns : goal.returns
returns c =
    let w = c.walk-cycles in
    let p = c.print in
    let out = c.args.out.now in
    let levels = w.new.levels in
    let few : length levels ≤ 32768 = omega (arith, few_letters c.args.part c.args.enable c.args.letters.now c.requires.0, c.requires.1, w.auto.levels) in
    let same = printed_run out c.args.part c.args.enable (codes_of c.args.letters.now) levels w.result few c.requires.0 w.ensures.levels w.ensures.count in
    record { answer = p.ensures.answer ∙ ap (λ (x : TraceLeft). x.answer) same; text = p.ensures.text ∙ ap (λ (x : TraceLeft). x.out) same }
