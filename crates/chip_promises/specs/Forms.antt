-- Other forms of promises 1 to 4, which the promises themselves and their users are proved by: of a single call of `run`, and of the pages over
-- any series of calls from any chip in which no cycle runs.
-- Assumes nothing.
use Rattle.std.specs.Prelude.{ℕ, ◌≤◌, ◌≡◌, List, Ok}
use Rattle.parts.specs.Table.{facts_of}
use Rattle.line.specs.declared.Pin.TheVariants.{High}
use Rattle.state.specs.declared.Chip.{Chip}
use Rattle.chip.specs.Memory.{Mem}
use Rattle.chip.specs.Model.{PowerCut}
use Rattle.line.specs.Rules.{NoTransfer}
use Rattle.chip_promises.specs.States.{NotBusy, Every}
use Rattle.chip_promises.specs.Calls.{Step, Run, Call, before_calls, calls_by}
use Rattle.chip_promises.specs.Pages.{differing_of}
use Rattle.chip_promises.specs.Lock.{Locked}
use Rattle.chip_promises.specs.Pin.{KeepsHigh}
use Rattle.chip_promises.specs.Stops.{watch_at, stops_of}

-- One call of `run`, from any chip in which no cycle runs, against the buffers as they were.
abbrev pub RunPages : Run → Type 0
RunPages R =
    (part enable : ℕ) (w : PowerCut) (c : Chip) (m : Mem) (es answers : List ℕ) → NotBusy c.line.phase
    → differing_of (facts_of part) (R part enable w c m es answers).mem m ≤ (R part enable w c m es answers).answer.cycles

-- Any series of calls, from any chip in which no cycle runs, against the buffers as they were before the first.
abbrev pub CallsPages : Step → Run → Type 0
CallsPages S R =
    (part enable : ℕ) (c : Chip) (m : Mem) (calls : List Call) → NotBusy c.line.phase
    → differing_of (facts_of part) (calls_by S R part enable (before_calls c m) calls).mem m ≤ (calls_by S R part enable (before_calls c m) calls).cycles

-- One call of any function that is called as `run` is, on a locked chip, accepted or not: the chip that it answers is locked, and the
-- identification buffer keeps its bytes.
abbrev pub RunLockHolds : Run → Type 0
RunLockHolds R =
    (part enable : ℕ) (w : PowerCut) (c : Chip) (m : Mem) (es answers : List ℕ) → Locked c
    → Locked (R part enable w c m es answers).answer.chip × ((R part enable w c m es answers).mem.ident ≡ m.ident)

-- One call of any function that is called as `run` is, on such a chip, accepted or not: both buffers keep their bytes, the lock is as
-- before, and no cycle is reported.
abbrev pub RunPinProtects : Run → Type 0
RunPinProtects R =
    (part enable : ℕ) (w : PowerCut) (c : Chip) (m : Mem) (es answers : List ℕ)
    → c.line.core.pin ≡ High → NotBusy c.line.phase → Every KeepsHigh es
    → ((R part enable w c m es answers).mem ≡ m)
    × ((R part enable w c m es answers).answer.chip.line.core.locked ≡ c.line.core.locked)
    × ((R part enable w c m es answers).answer.cycles ≡ 0)

-- One call of `run`: the field `cycles` of its answer, by the levels that it leaves in the answer buffer.
abbrev pub RunCyclesAreStops : Run → Type 0
RunCyclesAreStops R =
    (part enable : ℕ) (w : PowerCut) (c : Chip) (m : Mem) (es answers : List ℕ) → NoTransfer c.line.phase
    → (R part enable w c m es answers).answer.verdict ≡ Ok tt
    → (R part enable w c m es answers).answer.cycles ≡ stops_of (facts_of part) (watch_at c) es (R part enable w c m es answers).answers
