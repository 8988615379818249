use Rattle.std.proofs.Common.{ℕ, List, ap, ◌∙◌}
use Rattle.trace.specs.Trace.{report_text_of}
use Rattle.trace.proofs.print_in.Goals as goal

pub returns : goal.returns
returns c =
    let a = c.args in
    let said = c.report.ensures in
    record { count = said.count; text = said.text ∙ ap (λ (x : List ℕ). report_text_of a.part a.verdict x a.cycles) c.copy_from_slice.ensures.after }
