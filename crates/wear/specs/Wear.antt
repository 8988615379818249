-- Document 02, §6: "for each group of the array how many completed or cut cycles touched it". The counts are beside the chip, one for each
-- error-correction group of the array; group n is the addresses from n times the group's bytes on.
-- Assumes nothing.
use Rattle.std.specs.Prelude.{ℕ, zero, suc, ◌/◌, Bool, List, [], ◌∷◌, get_or, set}
use Rattle.parts.specs.declared.Facts.{Facts}
use Rattle.parts.specs.declared.Event.{Event}
use Rattle.parts.specs.declared.Event.TheVariants.{Clock, Start, Stop, Ends, PinLow, PinHigh, PinFloat, Reset, Unknown}
use Rattle.parts.specs.Events.{event_of}
use Rattle.parts.specs.Bytes.{up_of}
use Rattle.line.specs.declared.Target.{Target}
use Rattle.line.specs.declared.Target.TheVariants.{Array, Ident}
use Rattle.line.specs.declared.Cycle.{Cycle}
use Rattle.line.specs.declared.Cycle.TheVariants.{Writing, Locking}
use Rattle.line.specs.declared.Phase.{Phase}
use Rattle.line.specs.declared.Phase.TheVariants.{Idle, Receive, Send, Busy}
use Rattle.state.specs.declared.Chip.{Chip}
use Rattle.chip.specs.Memory.{counter_page_of, touched_of}
use Rattle.chip.specs.Model.{Model}

-- "Counts are 32-bit and stay at their top once there"; beyond the end there is no count
unfoldable pub bumped_of : List ℕ → ℕ → Bool → List ℕ
bumped_of counts at on = set counts at (up_of (get_or counts at 0) on)

-- "A cycle that touches several bytes of a group counts once for that group": n groups of the page, from its j-th on, with the count at `at`
abbrev pub bumped_from : ℕ → List ℕ → List ℕ → ℕ → ℕ → ℕ → List ℕ
bumped_from g k counts at j zero = counts
bumped_from g k counts at j (suc n) = bumped_from g k (bumped_of counts at (touched_of g k j)) (suc at) (suc j) n

-- the page at the counter
unfoldable pub page_worn_of : Facts → ℕ → List ℕ → List ℕ → List ℕ
page_worn_of f c k counts = bumped_from f.group k counts (counter_page_of f c / f.group) 0 (f.page / f.group)

-- "a locking or identification cycle for none"
unfoldable pub target_worn_of : Facts → ℕ → List ℕ → List ℕ → Target → List ℕ
target_worn_of f c k counts Array = page_worn_of f c k counts
target_worn_of f c k counts Ident = counts

unfoldable pub cycle_worn_of : Facts → ℕ → List ℕ → List ℕ → Cycle → List ℕ
cycle_worn_of f c k counts (Writing t) = target_worn_of f c k counts t
cycle_worn_of f c k counts Locking = counts

-- what the end or the cut of whatever the chip is doing adds
unfoldable pub closed_in : Facts → Chip → List ℕ → Phase → List ℕ
closed_in f c counts Idle = counts
closed_in f c counts (Receive r) = counts
closed_in f c counts (Send t) = counts
closed_in f c counts (Busy y) = cycle_worn_of f c.line.core.counter c.latch counts y

abbrev pub closed_of : Facts → Chip → List ℕ → List ℕ
closed_of f c counts = closed_in f c counts c.line.phase

-- "completed or cut cycles": at `E` and at `R`, whatever comes up after it
unfoldable pub worn_of : Facts → Chip → List ℕ → Event → List ℕ
worn_of f c counts (Clock v) = counts
worn_of f c counts Start = counts
worn_of f c counts Stop = counts
worn_of f c counts Ends = closed_of f c counts
worn_of f c counts PinLow = counts
worn_of f c counts PinHigh = counts
worn_of f c counts PinFloat = counts
worn_of f c counts (Reset w) = closed_of f c counts
worn_of f c counts Unknown = counts

-- ---- a list of events

-- a counter of any behaviour: of the row of the part table, the chip before an event, the counts and the event's code
abbrev pub Counter : Type 0
Counter = Facts → Chip → List ℕ → ℕ → List ℕ

abbrev pub our_counter : Counter
our_counter f c counts e = worn_of f c counts (event_of e)

-- beside a chip of any behaviour
unfoldable pub worn_by : Counter → Model → Facts → Chip → List ℕ → List ℕ → List ℕ
worn_by W M f c counts [] = counts
worn_by W M f c counts (e ∷ es) = worn_by W M f (M.next c e) (W f c counts e) es
