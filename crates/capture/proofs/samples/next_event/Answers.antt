use Rattle.std.proofs.Common.{◌≡◌, ℕ, ◌-◌, Bool, List, [], ◌++◌, get_or, sym, ap, ◌∙◌, arith}
use Rattle.capture.specs.Samples.{rises_in}
use Rattle.capture.specs.Steps.{code_of, falls_of, one_of, left_of, rises_left}
use Rattle.capture.proofs.Sampled.{below_in, left_run, rises_run}
use Rattle.capture.proofs.samples.next_event.Goals as goal

pub pair-requires : goal.pair-requires
pair-requires c = below_in 4 c.args.samples.now c.requires.1 c.loop-i.i c.loop-i-test.true

pub returns-in-Some : goal.returns-in-Some
returns-in-Some c =
    let p = c.in-Some in
    let e = c.same_end-end in
    let l = c.loop-i in
    let a = c.args in
    let ss = a.samples.now in
    let w = e.ensures in
    let low = c.requires.1 in
    let code = p.ensures.0 ∙ ap (code_of a.bus (get_or ss (l.i - 1) 0) (get_or ss l.i 0)) c.falls-still.ensures in
    record {
      onward = l.invariant.0;
      within = w.within;
      moves = omega (arith, w.onward);
      some = p.ensures.1;
      events = l.invariant.1 ∙ left_run a.bus ss l.i e.result low (omega arith) w ∙ ap (λ (k : ℕ). one_of k ++ left_of a.bus ss e.result) (sym code);
      rises = l.invariant.2 ∙ rises_run a.bus ss l.i e.result low (omega arith) w ∙ ap (λ (k : ℕ). rises_in l.i (one_of k) ++ rises_left a.bus ss e.result) (sym code);
    }

pub loop-i-preserved : goal.loop-i-preserved
loop-i-preserved c =
    let e = c.same_end-end in
    let l = c.loop-i in
    let a = c.args in
    let ss = a.samples.now in
    let w = e.ensures in
    let low = c.requires.1 in
    let b = get_or ss (l.i - 1) 0 in
    let s = get_or ss l.i 0 in
    let none : one_of (code_of a.bus b s (falls_of ss e.result)) ≡ [] = ap (λ (t : Bool). one_of (code_of a.bus b s t)) (sym c.falls-still.ensures) ∙ ap one_of c.in-None.ensures in (
      omega (arith, w.onward),
      l.invariant.1 ∙ left_run a.bus ss l.i e.result low (omega arith) w ∙ ap (λ (k : List ℕ). k ++ left_of a.bus ss e.result) none,
      l.invariant.2 ∙ rises_run a.bus ss l.i e.result low (omega arith) w ∙ ap (λ (k : List ℕ). rises_in l.i k ++ rises_left a.bus ss e.result) none,
    )
