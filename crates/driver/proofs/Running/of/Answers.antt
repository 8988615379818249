use Rattle.std.proofs.Common.{◌≡◌, ◌∙◌, ap, sym, true}
use Rattle.driver.proofs.Facts.{good_request, fit}
use Rattle.parts.specs.Refusals.{is_fine}
use Rattle.driver.specs.Step.{range_of}
use Rattle.driver.proofs.Running.of.Goals as goal

pub most-requires : goal.most-requires
most-requires c = good_request _ (sym (ap is_fine c.judge.ensures) ∙ (sym c.is_fine.ensures ∙ c.if-is_fine.true))

pub invariant_of-result : goal.invariant_of-result
unfolding range_of
invariant_of-result c =
    let e : range_of c.args.driver c.args.n ≡ true =
    simp (sym (ap is_fine c.judge.ensures) ∙ (sym c.is_fine.ensures ∙ c.if-is_fine.true), sym c.phase_right.ensures ∙ c.if-phase_right.true) (cc) in
    let (q, g) = fit c.args.driver c.args.n e in
    record { request = q; counts = g }
