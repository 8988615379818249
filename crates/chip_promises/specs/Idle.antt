-- Chips that only seem to work (document 01, 'Strength of the promises'): one that refuses everything breaks the refusal table, one
-- whose line keeps one level breaks the select trials.
-- Assumes nothing.
use Rattle.std.specs.Prelude.{ℕ, ◌≡◌, false, List, [], ◌∷◌, length, get_or, Err}
use Rattle.parts.specs.declared.Facts.{Facts}
use Rattle.parts.specs.declared.Event.{Event}
use Rattle.parts.specs.declared.Event.TheVariants.{Clock, Start, Stop, Ends, PinLow, PinHigh, PinFloat, Reset, Unknown}
use Rattle.parts.specs.declared.Refusal.{Refusal}
use Rattle.parts.specs.Events.{event_of}
use Rattle.parts.specs.Table.{facts_of}
use Rattle.state.specs.declared.Chip.{Chip}
use Rattle.chip.specs.Memory.{Mem}
use Rattle.chip.specs.Delivery.{standby_of}
use Rattle.chip.specs.Calls.{deliver_verdict_of, step_verdict, run_verdict}
use Rattle.chip_promises.specs.Calls.{Deliver, Step, Run}
use Rattle.chip.specs.Model.{Model, PowerCut, ours}
use Rattle.chip.specs.Runs.{levels_of}
use Rattle.chip_promises.specs.Histories.{S, byte_sent, item_codes_of}

-- ---- the refusal table: a call is refused exactly where, and with the number that, the table says

pub record RefusesByTable (D : Deliver) (T : Step) (R : Run) : Type 0 where
  pub deliver : (part : ℕ) (m : Mem) → (D part m).answer.verdict ≡ deliver_verdict_of part (length m.cells) (length m.ident)
  pub step : (part enable : ℕ) (w : PowerCut) (c : Chip) (m : Mem) (code : ℕ) → (T part enable w c m code).answer.verdict ≡ step_verdict part enable w c m code
  pub run : (part enable : ℕ) (w : PowerCut) (c : Chip) (m : Mem) (es a : List ℕ)
      → (R part enable w c m es a).answer.verdict ≡ run_verdict part enable w c m es a

-- each answers one refusal to everything, and changes nothing
abbrev pub refusing_deliver : Refusal → Deliver
refusing_deliver r part m = record { answer = record { verdict = Err r; chip = standby_of (facts_of part) false }; mem = m }

abbrev pub refusing_step : Refusal → Step
refusing_step r part enable w c m code = record { answer = record { verdict = Err r; level = 2; cycles = 0; chip = c }; mem = m }

abbrev pub refusing_run : Refusal → Run
refusing_run r part enable w c m es a = record { answer = record { verdict = Err r; cycles = 0; chip = c }; mem = m; answers = a }

-- whichever refusal it is, and whatever the two others do
pub record RefusingBreaks : Type 0 where
  pub deliver : (r : Refusal) (T : Step) (R : Run) → RefusesByTable (refusing_deliver r) T R → ⊥
  pub step : (r : Refusal) (D : Deliver) (R : Run) → RefusesByTable D (refusing_step r) R → ⊥
  pub run : (r : Refusal) (D : Deliver) (T : Step) → RefusesByTable D T (refusing_run r) → ⊥

-- ---- the select trials: "Part 2: A0h acknowledged; with enable 1 released", whatever is stored

-- the level of the ninth clock of A0h, on a part 2 in standby
abbrev pub ninth_level : Model → Mem → ℕ
ninth_level M m = get_or (levels_of M (standby_of (facts_of 2) false) m (item_codes_of (S ∷ byte_sent 0xA0 0 ∷ []))) 9 2

pub record SelectTrials (M : Facts → ℕ → Model) : Type 0 where
  pub acknowledged : (m : Mem) → ninth_level (M (facts_of 2) 0) m ≡ 0
  pub released : (m : Mem) → ninth_level (M (facts_of 2) 1) m ≡ 1

-- one level for every clock
abbrev pub always : ℕ → Event → ℕ
always v (Clock b) = v
always v Start = 2
always v Stop = 2
always v Ends = 2
always v PinLow = 2
always v PinHigh = 2
always v PinFloat = 2
always v (Reset w) = 2
always v Unknown = 2

-- ours but for the level
abbrev pub constant : ℕ → Facts → ℕ → Model
constant v f enable =
    record { next = (ours f enable).next; store = (ours f enable).store; level = λ c m e. always v (event_of e); begun = (ours f enable).begun }

abbrev pub ConstantBreaks : Type 0
ConstantBreaks = (v : ℕ) → SelectTrials (constant v) → ⊥
