-- Document 01, 'Bus events' and 'Refusal numbers': a run of a list of events is the step call, repeated.
-- Assumes nothing.
use Rattle.std.specs.Prelude.{ℕ, ◌+◌, ◌≡◌, Bool, true, ◌&&◌, List, [], ◌∷◌, ◌++◌, length, drop, Ok}
use Rattle.parts.specs.Refusals.{is_fine}
use Rattle.state.specs.declared.Chip.{Chip}
use Rattle.chip.specs.declared.Stepped.{Stepped}
use Rattle.chip.specs.Memory.{Mem}
use Rattle.chip.specs.Model.{PowerCut}
use Rattle.chip.specs.Calls.{step_verdict, step_of, run_verdict, run_of}
use Rattle.chip_laws.specs.Range.{Typed}

-- ---- step calls, one after the other, each given the same for a loss of power

-- what has been gathered: the chip, the memory, the levels answered, the sum of the cycles, and whether every call was fine
pub record Steps : Type 0 where
  pub chip : Chip
  pub mem : Mem
  pub levels : List ℕ
  pub cycles : ℕ
  pub fine : Bool

-- the first call's answer before those of the rest
abbrev pub joined : Stepped → Steps → Steps
joined a r = record { chip = r.chip; mem = r.mem; levels = a.level ∷ r.levels; cycles = a.cycles + r.cycles; fine = is_fine a.verdict && r.fine }

-- a refused call changes nothing, and the next is made all the same
unfoldable pub steps_of : ℕ → ℕ → PowerCut → Chip → Mem → List ℕ → Steps
steps_of part enable w c m [] = record { chip = c; mem = m; levels = []; cycles = 0; fine = true }
steps_of part enable w c m (e ∷ es) =
    joined (step_of part enable w c m e).answer (steps_of part enable w (step_of part enable w c m e).answer.chip (step_of part enable w c m e).mem es)

-- ---- the statements

pub record SameAsSteps (part enable : ℕ) (w : PowerCut) (c : Chip) (m : Mem) (es answers : List ℕ) : Type 0 where
  -- no step is refused: a run that begins never has to refuse midway
  pub fine : (steps_of part enable w c m es).fine ≡ true
  pub chip : (run_of part enable w c m es answers).answer.chip ≡ (steps_of part enable w c m es).chip
  pub cycles : (run_of part enable w c m es answers).answer.cycles ≡ (steps_of part enable w c m es).cycles
  pub mem : (run_of part enable w c m es answers).mem ≡ (steps_of part enable w c m es).mem
  -- one level an event, and bytes past the answer keep their values
  pub levels : (run_of part enable w c m es answers).answers ≡ (steps_of part enable w c m es).levels ++ drop (length es) answers

-- a run that is not refused is its steps
abbrev pub RunIsSteps : Type 0
RunIsSteps = (part enable : ℕ) (w : PowerCut) (c : Chip) (m : Mem) (es answers : List ℕ) → Typed c
    → run_verdict part enable w c m es answers ≡ Ok tt
    → SameAsSteps part enable w c m es answers

-- a step by the first event, and then a run of the rest from what the step left: neither is refused, and together they are the run
pub record StepThenRun (part enable : ℕ) (w : PowerCut) (c : Chip) (m : Mem) (e : ℕ) (es : List ℕ) (a : ℕ) (answers : List ℕ) : Type 0 where
  pub step_fine : step_verdict part enable w c m e ≡ Ok tt
  pub run_fine : run_verdict part enable w (step_of part enable w c m e).answer.chip (step_of part enable w c m e).mem es answers ≡ Ok tt
  pub chip : (run_of part enable w c m (e ∷ es) (a ∷ answers)).answer.chip
      ≡ (run_of part enable w (step_of part enable w c m e).answer.chip (step_of part enable w c m e).mem es answers).answer.chip
  pub cycles : (run_of part enable w c m (e ∷ es) (a ∷ answers)).answer.cycles
      ≡ (step_of part enable w c m e).answer.cycles + (run_of part enable w (step_of part enable w c m e).answer.chip (step_of part enable w c m e).mem es answers).answer.cycles
  pub mem : (run_of part enable w c m (e ∷ es) (a ∷ answers)).mem
      ≡ (run_of part enable w (step_of part enable w c m e).answer.chip (step_of part enable w c m e).mem es answers).mem
  pub levels : (run_of part enable w c m (e ∷ es) (a ∷ answers)).answers
      ≡ (step_of part enable w c m e).answer.level ∷ (run_of part enable w (step_of part enable w c m e).answer.chip (step_of part enable w c m e).mem es answers).answers

abbrev pub RunGoesOn : Type 0
RunGoesOn = (part enable : ℕ) (w : PowerCut) (c : Chip) (m : Mem) (e : ℕ) (es : List ℕ) (a : ℕ) (answers : List ℕ) → Typed c
    → run_verdict part enable w c m (e ∷ es) (a ∷ answers) ≡ Ok tt
    → StepThenRun part enable w c m e es a answers
