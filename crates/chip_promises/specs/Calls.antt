-- Any functions that are called as `deliver`, `step` and `run` are, and a series of such calls. Ours are `deliver_of`, `step_of` and
-- `run_of`, which the contracts cite.
-- Assumes nothing.
use Rattle.std.specs.Prelude.{ℕ, ◌+◌, List, [], ◌∷◌, ◌++◌, length, take, Ok, Err}
use Rattle.parts.specs.Verdict.{Verdict}
use Rattle.state.specs.declared.Chip.{Chip}
use Rattle.chip.specs.Memory.{Mem}
use Rattle.chip.specs.Model.{PowerCut}
use Rattle.chip.specs.Calls.{DeliverLeft, StepLeft, RunLeft}
use Rattle.chip_promises.specs.States.{Every}

-- `deliver`: part and the two lent buffers
abbrev pub Deliver : Type 0
Deliver = ℕ → Mem → DeliverLeft

-- `step`: part, enable, what is given for a loss of power, chip, the two lent buffers, one event code
abbrev pub Step : Type 0
Step = ℕ → ℕ → PowerCut → Chip → Mem → ℕ → StepLeft

-- `run`: part, enable, what is given for a loss of power, chip, the two lent buffers, event codes, the lent answer buffer
abbrev pub Run : Type 0
Run = ℕ → ℕ → PowerCut → Chip → Mem → List ℕ → List ℕ → RunLeft

-- ---- a series of calls of `step` and `run` on one chip and its buffers. One call of `run` takes at most 32,768 events, a series any
-- number; refused calls may be among them

-- one event by `step`, or a list of them by `run` with an answer buffer of its own; each call is given its own for a loss of power
pub data Call : Type 0 where
  one : PowerCut → ℕ → Call
  many : PowerCut → List ℕ → List ℕ → Call

-- the chip and its memory, the cycles that the calls reported, and the history: the events of the calls that were not refused, with
-- the levels they answered
pub record Ending : Type 0 where
  pub chip : Chip
  pub mem : Mem
  pub cycles : ℕ
  pub events : List ℕ
  pub levels : List ℕ

abbrev pub before_calls : Chip → Mem → Ending
before_calls c m = record { chip = c; mem = m; cycles = 0; events = []; levels = [] }

abbrev pub noted : Verdict → List ℕ → List ℕ → List ℕ
noted (Ok _) before new = before ++ new
noted (Err r) before new = before

unfoldable pub after_step : ℕ → StepLeft → Ending → Ending
after_step code x e =
    record { chip = x.answer.chip; mem = x.mem; cycles = e.cycles + x.answer.cycles; events = noted x.answer.verdict e.events (code ∷ []); levels = noted x.answer.verdict e.levels (x.answer.level ∷ []) }

unfoldable pub after_run : List ℕ → RunLeft → Ending → Ending
after_run es x e =
    record { chip = x.answer.chip; mem = x.mem; cycles = e.cycles + x.answer.cycles; events = noted x.answer.verdict e.events es; levels = noted x.answer.verdict e.levels (take (length es) x.answers) }

unfoldable pub call_by : Step → Run → ℕ → ℕ → Ending → Call → Ending
call_by S R part enable e (one w code) = after_step code (S part enable w e.chip e.mem code) e
call_by S R part enable e (many w es a) = after_run es (R part enable w e.chip e.mem es a) e

unfoldable pub calls_by : Step → Run → ℕ → ℕ → Ending → List Call → Ending
calls_by S R part enable e [] = e
calls_by S R part enable e (x ∷ xs) = calls_by S R part enable (call_by S R part enable e x) xs

-- a condition on every event of every call
abbrev pub InCall : (ℕ → Type 0) → Call → Type 0
InCall Q (one w code) = Q code
InCall Q (many w es a) = Every Q es

abbrev pub EveryCall : (ℕ → Type 0) → List Call → Type 0
EveryCall Q [] = Unit {0}
EveryCall Q (x ∷ xs) = InCall Q x × EveryCall Q xs
