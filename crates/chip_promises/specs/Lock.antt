-- Promise 2. "A locked identification page never changes or unlocks."
-- Assumes nothing.
use Rattle.std.specs.Prelude.{ℕ, ◌≡◌, true, List}
use Rattle.parts.specs.declared.Facts.{Facts}
use Rattle.state.specs.declared.Chip.{Chip}
use Rattle.chip.specs.Memory.{Mem}
use Rattle.chip.specs.Model.{Model}
use Rattle.chip.specs.Runs.{after_of, memory_of}
use Rattle.chip_promises.specs.States.{StateInRange}
use Rattle.chip_promises.specs.Calls.{Step, Run, Call, before_calls, calls_by}

abbrev pub Locked : Chip → Type 0
Locked c = c.line.core.locked ≡ true

-- Of any chip: from any accepted state with the lock set, over any events, with any enable, the lock stays set and the bytes of the
-- identification page stay what they are.
abbrev pub LockHolds : (Facts → ℕ → Model) → Type 0
LockHolds M =
    (f : Facts) (enable : ℕ) (c : Chip) (m : Mem) (es : List ℕ) → StateInRange f c → Locked c
    → Locked (after_of (M f enable) c es) × ((memory_of (M f enable) c m es).ident ≡ m.ident)

-- Any series of calls of functions that are called as `step` and `run` are, on a locked chip, accepted or not: the chip is locked at the end,
-- and the identification buffer keeps its bytes.
abbrev pub CallsLockHolds : Step → Run → Type 0
CallsLockHolds S R =
    (part enable : ℕ) (c : Chip) (m : Mem) (calls : List Call) → Locked c
    → Locked (calls_by S R part enable (before_calls c m) calls).chip × ((calls_by S R part enable (before_calls c m) calls).mem.ident ≡ m.ident)
