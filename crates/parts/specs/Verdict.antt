-- Whether a call is refused, and why: the type `Verdict` of the code. Assumes nothing.
use Rattle.std.specs.Prelude.{Result, ⊤}
use Rattle.parts.specs.declared.Refusal.{Refusal}

abbrev pub Verdict : Type 0
Verdict = Result ⊤ Refusal
