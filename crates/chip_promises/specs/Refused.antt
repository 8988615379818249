-- Promise 5. "A call refused for bad input changes no byte and no chip state."
-- Assumes nothing.
use Rattle.std.specs.Prelude.{ℕ, ◌≡◌, List, Err}
use Rattle.parts.specs.declared.Refusal.{Refusal}
use Rattle.state.specs.declared.Chip.{Chip}
use Rattle.chip.specs.Memory.{Mem}
use Rattle.chip.specs.Model.{PowerCut}
use Rattle.chip_promises.specs.Calls.{Deliver, Step, Run}

-- For each function: on any input, if the answer is a refusal, whichever, then every lent byte is as before, the chip that is answered
-- is the chip that was given, and no cycle is reported. `deliver` is given no chip.

abbrev pub DeliverRefusedChangesNothing : Deliver → Type 0
DeliverRefusedChangesNothing D =
    (part : ℕ) (m : Mem) (r : Refusal) → (D part m).answer.verdict ≡ Err r → (D part m).mem ≡ m

abbrev pub StepRefusedChangesNothing : Step → Type 0
StepRefusedChangesNothing S =
    (part enable : ℕ) (w : PowerCut) (c : Chip) (m : Mem) (code : ℕ) (r : Refusal) → (S part enable w c m code).answer.verdict ≡ Err r
    → ((S part enable w c m code).mem ≡ m)
    × ((S part enable w c m code).answer.chip ≡ c)
    × ((S part enable w c m code).answer.cycles ≡ 0)
    × ((S part enable w c m code).answer.level ≡ 2)

abbrev pub RunRefusedChangesNothing : Run → Type 0
RunRefusedChangesNothing R =
    (part enable : ℕ) (w : PowerCut) (c : Chip) (m : Mem) (es answers : List ℕ) (r : Refusal) → (R part enable w c m es answers).answer.verdict ≡ Err r
    → ((R part enable w c m es answers).mem ≡ m)
    × ((R part enable w c m es answers).answer.chip ≡ c)
    × ((R part enable w c m es answers).answer.cycles ≡ 0)
    × ((R part enable w c m es answers).answers ≡ answers)

-- every public function of the chip at once
pub record RefusedChangesNothing (D : Deliver) (S : Step) (R : Run) : Type 0 where
  pub deliver : DeliverRefusedChangesNothing D
  pub step : StepRefusedChangesNothing S
  pub run : RunRefusedChangesNothing R
