-- Promise 3. "With a Write Control pin high throughout and no cycle running at the start, nothing stored changes."
-- Assumes nothing.
use Rattle.std.specs.Prelude.{ℕ, ◌≡◌, List}
use Rattle.parts.specs.declared.Facts.{Facts}
use Rattle.parts.specs.declared.Event.{Event}
use Rattle.parts.specs.declared.Event.TheVariants.{Clock, Start, Stop, Ends, PinLow, PinHigh, PinFloat, Reset, Unknown}
use Rattle.parts.specs.Events.{event_of}
use Rattle.line.specs.declared.Pin.TheVariants.{High}
use Rattle.state.specs.declared.Chip.{Chip}
use Rattle.chip.specs.Memory.{Mem}
use Rattle.chip.specs.Model.{Model}
use Rattle.chip.specs.Runs.{after_of, memory_of, cycles_of}
use Rattle.chip_promises.specs.States.{StateInRange, NotBusy, Every}
use Rattle.chip_promises.specs.Calls.{Step, Run, Call, before_calls, calls_by, EveryCall}

-- an event that neither lowers the pin nor lets it float
abbrev pub StaysHigh : Event → Type 0
StaysHigh (Clock v) = Unit {0}
StaysHigh Start = Unit {0}
StaysHigh Stop = Unit {0}
StaysHigh Ends = Unit {0}
StaysHigh PinLow = ⊥
StaysHigh PinHigh = Unit {0}
StaysHigh PinFloat = ⊥
StaysHigh (Reset w) = Unit {0}
StaysHigh Unknown = Unit {0}

abbrev pub KeepsHigh : ℕ → Type 0
KeepsHigh code = StaysHigh (event_of code)

-- Of any chip: from any accepted state with the pin high and no cycle running, over events that keep the pin high, array and
-- identification page are unchanged, so is the lock, and no cycle begins.
abbrev pub PinProtects : (Facts → ℕ → Model) → Type 0
PinProtects M =
    (f : Facts) (enable : ℕ) (c : Chip) (m : Mem) (es : List ℕ)
    → StateInRange f c → c.line.core.pin ≡ High → NotBusy c.line.phase → Every KeepsHigh es
    → (memory_of (M f enable) c m es ≡ m)
    × ((after_of (M f enable) c es).line.core.locked ≡ c.line.core.locked)
    × (cycles_of (M f enable) c es ≡ 0)

-- Any series of calls of functions that are called as `step` and `run` are, on such a chip, accepted or not: both buffers keep their bytes,
-- the lock is as before, and no cycle is reported.
abbrev pub CallsPinProtects : Step → Run → Type 0
CallsPinProtects S R =
    (part enable : ℕ) (c : Chip) (m : Mem) (calls : List Call)
    → c.line.core.pin ≡ High → NotBusy c.line.phase → EveryCall KeepsHigh calls
    → ((calls_by S R part enable (before_calls c m) calls).mem ≡ m)
    × ((calls_by S R part enable (before_calls c m) calls).chip.line.core.locked ≡ c.line.core.locked)
    × ((calls_by S R part enable (before_calls c m) calls).cycles ≡ 0)
