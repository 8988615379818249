-- Which number each call gives, by plain conditions, each with all earlier ones excluded (document 01, 'Refusal numbers': 1 2 3 4 13 5 6),
-- and 0 where none applies. Said of any functions of the form, so that another order breaks it.
-- Assumes nothing.
use Rattle.std.specs.Prelude.{ℕ, ◌<◌, ◌≤◌, ◌≡◌, true, false, cond, List, length, get_or, ltb}
use Rattle.parts.specs.declared.Refusal.TheVariants.{ShortBuffer, TooMany}
use Rattle.parts.specs.Verdict.{Verdict}
use Rattle.parts.specs.Table.{facts_of, id_size_of}
use Rattle.parts.specs.Events.{event_right_of, loss_size_of}
use Rattle.parts.specs.Refusals.{verdict_number_of, verdict_place_of, is_fine, claim_of}
use Rattle.state.specs.declared.Chip.{Chip}
use Rattle.state.specs.Range.{in_range_of}
use Rattle.chip.specs.Memory.{Mem}
use Rattle.chip.specs.Model.{PowerCut, ours_with}
use Rattle.chip.specs.Calls.{cut_verdict_of, scan_of, run_left_of}
use Rattle.chip_promises.specs.Calls.{Deliver, Step, Run}

-- 3 does not apply for the two lent buffers: they have the part's lengths
abbrev pub Lent : ℕ → Mem → Type 0
Lent part m = (length m.cells ≡ (facts_of part).size) × (length m.ident ≡ id_size_of (facts_of part))

-- nor for the page that is lent for a loss of power: P bytes, and none for the old contents (document 02, §5)
abbrev pub PageLent : ℕ → PowerCut → Type 0
PageLent part w = length w.page ≡ loss_size_of (facts_of part) w.loss

-- 1, 2 and 3 do not apply
pub record Named (part enable : ℕ) (m : Mem) : Type 0 where
  pub known : part ≤ 5
  pub enabled : enable < (facts_of part).enables
  pub lent : Lent part m

-- nor does 4
pub record Ready (part enable : ℕ) (c : Chip) (m : Mem) : Type 0 where
  pub named : Named part enable m
  pub ranged : in_range_of (facts_of part) c ≡ true

-- of a call that takes events
abbrev pub ReadyWith : ℕ → ℕ → PowerCut → Chip → Mem → Type 0
ReadyWith part enable w c m = Ready part enable c m × PageLent part w

-- the part takes every event before number k
abbrev pub TakenTo : ℕ → ℕ → List ℕ → Type 0
TakenTo part k es = (j : ℕ) → j < k → event_right_of (facts_of part).pin (get_or es j 0) ≡ true

pub record DeliverNumbers (D : Deliver) : Type 0 where
  pub no_part : (part : ℕ) (m : Mem) → 5 < part → verdict_number_of (D part m).answer.verdict ≡ 1
  pub wrong_buffer : (part : ℕ) (m : Mem) → part ≤ 5 → (Lent part m → ⊥) → verdict_number_of (D part m).answer.verdict ≡ 3
  pub none : (part : ℕ) (m : Mem) → part ≤ 5 → Lent part m → verdict_number_of (D part m).answer.verdict ≡ 0

module _ (S : Step) (part enable : ℕ) (w : PowerCut) (c : Chip) (m : Mem) (e : ℕ) where
  abbrev pub step_number : ℕ
  step_number = verdict_number_of (S part enable w c m e).answer.verdict

  pub record StepNumber : Type 0 where
    pub no_part : 5 < part → step_number ≡ 1
    pub wrong_enable : part ≤ 5 → (facts_of part).enables ≤ enable → step_number ≡ 2
    pub wrong_buffer : part ≤ 5 → enable < (facts_of part).enables → (Lent part m × PageLent part w → ⊥) → step_number ≡ 3
    pub bad_state : Named part enable m → PageLent part w → in_range_of (facts_of part) c ≡ false → step_number ≡ 4
    pub bad_event : ReadyWith part enable w c m → event_right_of (facts_of part).pin e ≡ false → step_number ≡ 5
    pub none : ReadyWith part enable w c m → event_right_of (facts_of part).pin e ≡ true → step_number ≡ 0

abbrev pub StepNumbers : Step → Type 0
StepNumbers S = (part enable : ℕ) (w : PowerCut) (c : Chip) (m : Mem) (e : ℕ) → StepNumber S part enable w c m e

module _ (R : Run) (part enable : ℕ) (w : PowerCut) (c : Chip) (m : Mem) (es a : List ℕ) where
  abbrev pub run_verdict_by : Verdict
  run_verdict_by = (R part enable w c m es a).answer.verdict

  abbrev pub run_number : ℕ
  run_number = verdict_number_of run_verdict_by

  pub record RunNumber : Type 0 where
    pub no_part : 5 < part → run_number ≡ 1
    pub wrong_enable : part ≤ 5 → (facts_of part).enables ≤ enable → run_number ≡ 2
    pub wrong_buffer : part ≤ 5 → enable < (facts_of part).enables → (Lent part m × PageLent part w → ⊥) → run_number ≡ 3
    pub bad_state : Named part enable m → PageLent part w → in_range_of (facts_of part) c ≡ false → run_number ≡ 4
    pub too_many : ReadyWith part enable w c m → 32768 < length es → run_number ≡ 13
    -- the first event that the part does not take, with its place
    pub bad_event : (k : ℕ) → ReadyWith part enable w c m → length es ≤ 32768 → k < length es → TakenTo part k es
        → event_right_of (facts_of part).pin (get_or es k 0) ≡ false → (run_number ≡ 5) × (verdict_place_of run_verdict_by ≡ k)
    pub short_buffer : ReadyWith part enable w c m → length es ≤ 32768 → TakenTo part (length es) es → length a < length es → run_number ≡ 6
    pub none : ReadyWith part enable w c m → length es ≤ 32768 → TakenTo part (length es) es → length es ≤ length a → run_number ≡ 0

abbrev pub RunNumbers : Run → Type 0
RunNumbers R = (part enable : ℕ) (w : PowerCut) (c : Chip) (m : Mem) (es a : List ℕ) → RunNumber R part enable w c m es a

-- ---- nothing is left open: two that keep them give one number for every call, and for 5 one place

pub record OneChipNumber : Type 0 where
  pub deliver : (D E : Deliver) → DeliverNumbers D → DeliverNumbers E
      → (part : ℕ) (m : Mem) → verdict_number_of (D part m).answer.verdict ≡ verdict_number_of (E part m).answer.verdict
  pub step : (S T : Step) → StepNumbers S → StepNumbers T
      → (part enable : ℕ) (w : PowerCut) (c : Chip) (m : Mem) (e : ℕ) → step_number S part enable w c m e ≡ step_number T part enable w c m e
  pub run : (R Q : Run) → RunNumbers R → RunNumbers Q
      → (part enable : ℕ) (w : PowerCut) (c : Chip) (m : Mem) (es a : List ℕ)
      → (run_number R part enable w c m es a ≡ run_number Q part enable w c m es a)
      × (run_number R part enable w c m es a ≡ 5 → verdict_place_of (run_verdict_by R part enable w c m es a) ≡ verdict_place_of (run_verdict_by Q part enable w c m es a))

-- ---- another order: 5 before 13

abbrev pub firstly : Verdict → Verdict → Verdict
firstly v w = cond (is_fine v) w v

abbrev pub eager : Run
eager part enable w c m es a =
    run_left_of (ours_with w (facts_of part) enable) c m es a
    (firstly (cut_verdict_of part enable w c (length m.cells) (length m.ident))
    (firstly (scan_of (facts_of part).pin 0 es)
    (firstly (claim_of (ltb 32768 (length es)) TooMany)
    (claim_of (ltb (length a) (length es)) ShortBuffer))))

abbrev pub EagerBreaks : Type 0
EagerBreaks = RunNumbers eager → ⊥
