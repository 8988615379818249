-- Promise 4. "Cycles are well-placed Stops" (document 01, 'Strength of the promises', rules 5 and 6): a definition that finds these
-- Stops in the history alone, the events and the levels answered, and never looks into the chip.
-- Assumes nothing.
use Rattle.std.specs.Prelude.{ℕ, zero, suc, ◌+◌, ◌*◌, ◌/◌, ◌%◌, ◌≡◌, Bool, true, false, not, cond, ◌&&◌, ◌||◌, List, [], ◌∷◌, ◌++◌, drop, eqb, Ok}
use Rattle.parts.specs.declared.Facts.{Facts}
use Rattle.parts.specs.declared.Event.{Event}
use Rattle.parts.specs.declared.Event.TheVariants.{Clock, Start, Stop, Ends, PinLow, PinHigh, PinFloat, Reset, Unknown}
use Rattle.parts.specs.Table.{facts_of, address_bytes_of}
use Rattle.parts.specs.Events.{event_of}
use Rattle.parts.specs.Bytes.{flag_of}
use Rattle.line.specs.declared.Phase.{Phase}
use Rattle.line.specs.declared.Phase.TheVariants.{Idle, Receive, Send, Busy}
use Rattle.line.specs.Rules.{is_high, bit_on, NoTransfer}
use Rattle.state.specs.declared.Chip.{Chip}
use Rattle.chip.specs.Memory.{Mem}
use Rattle.chip.specs.Delivery.{standby_of, delivered_of}
use Rattle.chip.specs.Model.{Model}
use Rattle.chip.specs.Runs.{levels_of, cycles_of}
use Rattle.chip_promises.specs.Calls.{Deliver, Step, Run, Call, before_calls, calls_by}

-- ---- the bytes of a transfer: after which of them a Stop begins a cycle

-- eight bits, and whether the chip pulled the ninth clock low
pub record Byte : Type 0 where
  pub value : ℕ
  pub acked : Bool

abbrev pub seen_byte : ℕ → Bool → Byte
seen_byte n a = record { value = n; acked = a }

abbrev pub all_acked : List Byte → Bool
all_acked [] = true
all_acked (b ∷ bs) = b.acked && all_acked bs

-- the value of byte number i
abbrev pub value_at : ℕ → List Byte → ℕ
value_at i [] = 0
value_at zero (b ∷ bs) = b.value
value_at (suc i) (b ∷ bs) = value_at i bs

-- the address that the bytes after the select code give: two bytes of it, or one
abbrev pub address_in : Bool → List Byte → ℕ
address_in true bs = value_at 0 bs * 256 + value_at 1 bs
address_in false bs = value_at 0 bs

-- rule 2: the select code `s` names the identification page, and the address bit that chooses is 1
unfoldable pub lock_chosen_of : Facts → Byte → List Byte → Bool
lock_chosen_of f s bs = eqb (s.value / 16) 11 && bit_on (address_in f.wide bs) f.lock

-- the data bytes: of a lock exactly one, with bit 1 set (rule 5); of a write at least one (rule 6)
abbrev pub data_of : Bool → List Byte → Bool
data_of lock [] = false
data_of true (d ∷ []) = bit_on d.value 2
data_of true (d ∷ e ∷ ds) = false
data_of false (d ∷ ds) = true

-- a select code for writing, the address bytes, and such data
unfoldable pub writes_of : Facts → List Byte → Bool
writes_of f [] = false
writes_of f (s ∷ bs) = not (eqb (s.value % 2) 1) && data_of (lock_chosen_of f s bs) (drop (address_bytes_of f) bs)

-- and every byte since the Start was acknowledged
unfoldable pub asks_cycle_of : Facts → List Byte → Bool
asks_cycle_of f bs = all_acked bs && writes_of f bs

-- ---- the history, read from its beginning

-- no transfer; a cycle, from a well-placed Stop until `E` or `R`; or since a Start: whether the pin was high then or at any event
-- since, the whole bytes, the clocks since the last whole byte, and the bits they brought
pub data Seen : Type 0 where
  quiet : Seen
  cycling : Seen
  since : Bool → List Byte → ℕ → ℕ → Seen

-- directly after a whole byte, the pin not high since the Start, and such bytes
unfoldable pub well_placed_of : Facts → Seen → Bool
well_placed_of f quiet = false
well_placed_of f cycling = false
well_placed_of f (since high bs k n) = (eqb k 0 && not high) && asks_cycle_of f bs

-- a Start in a cycle is ignored; any other begins a transfer, with the pin as it is
unfoldable pub start_seen : Bool → Seen → Seen
start_seen pin quiet = since pin [] 0 0
start_seen pin cycling = cycling
start_seen pin (since high bs k n) = since pin [] 0 0

-- eight clocks bring the bits, highest first, and the ninth the acknowledge: level 0
unfoldable pub clock_seen : Bool → ℕ → Seen → Seen
clock_seen v level quiet = quiet
clock_seen v level cycling = cycling
clock_seen v level (since high bs k n) =
    cond (eqb k 8) (since high (bs ++ (seen_byte n (eqb level 0) ∷ [])) 0 0) (since high bs (k + 1) (n * 2 + flag_of v))

-- a Stop ends the transfer
unfoldable pub stop_seen : Facts → Seen → Seen
stop_seen f quiet = quiet
stop_seen f cycling = cycling
stop_seen f (since high bs k n) = cond (well_placed_of f (since high bs k n)) cycling quiet

unfoldable pub end_seen : Seen → Seen
end_seen quiet = quiet
end_seen cycling = quiet
end_seen (since high bs k n) = since high bs k n

-- a high pin inhibits the transfer under way, to its end
unfoldable pub pin_seen : Bool → Seen → Seen
pin_seen v quiet = quiet
pin_seen v cycling = cycling
pin_seen v (since high bs k n) = since (high || v) bs k n

pub record Watch : Type 0 where
  -- the pin is high now
  pub pin : Bool
  pub seen : Seen

abbrev pub watch : Bool → Seen → Watch
watch p s = record { pin = p; seen = s }

unfoldable pub watch_of : Facts → Watch → Event → ℕ → Watch
watch_of f w (Clock v) level = watch w.pin (clock_seen v level w.seen)
watch_of f w Start level = watch w.pin (start_seen w.pin w.seen)
watch_of f w Stop level = watch w.pin (stop_seen f w.seen)
watch_of f w Ends level = watch w.pin (end_seen w.seen)
watch_of f w PinLow level = watch false (pin_seen false w.seen)
watch_of f w PinHigh level = watch true (pin_seen true w.seen)
watch_of f w PinFloat level = watch false (pin_seen false w.seen)
watch_of f w (Reset v) level = watch w.pin quiet
watch_of f w Unknown level = w

unfoldable pub stop_of : Facts → Seen → Event → ℕ
stop_of f s (Clock v) = 0
stop_of f s Start = 0
stop_of f s Stop = flag_of (well_placed_of f s)
stop_of f s Ends = 0
stop_of f s PinLow = 0
stop_of f s PinHigh = 0
stop_of f s PinFloat = 0
stop_of f s (Reset v) = 0
stop_of f s Unknown = 0

-- how many well-placed Stops stand in a list of event codes, each with the level that was answered to it
unfoldable pub stops_of : Facts → Watch → List ℕ → List ℕ → ℕ
stops_of f w [] levels = 0
stops_of f w (e ∷ es) [] = 0
stops_of f w (e ∷ es) (x ∷ xs) = stop_of f w.seen (event_of e) + stops_of f (watch_of f w (event_of e) x) es xs

-- ---- where a history begins

-- delivered: the pin is not high, and nothing was seen
abbrev pub fresh_watch : Watch
fresh_watch = watch false quiet

-- no transfer is under way: in a cycle or not, with the pin as it is
abbrev pub seen_at : Phase → Seen
seen_at Idle = quiet
seen_at (Receive r) = quiet
seen_at (Send t) = quiet
seen_at (Busy y) = cycling

abbrev pub watch_at : Chip → Watch
watch_at c = watch (is_high c.line.core.pin) (seen_at c.line.phase)

-- ---- of any chip

-- From any state with no transfer under way, over any events: the cycles begun are the well-placed Stops of the events with their levels.
abbrev pub CyclesAreStops : (Facts → ℕ → Model) → Type 0
CyclesAreStops M =
    (f : Facts) (enable : ℕ) (c : Chip) (m : Mem) (es : List ℕ) → NoTransfer c.line.phase
    → cycles_of (M f enable) c es ≡ stops_of f (watch_at c) es (levels_of (M f enable) c m es)

-- From delivery.
abbrev pub CyclesAreStopsFromDelivery : (Facts → ℕ → Model) → Type 0
CyclesAreStopsFromDelivery M =
    (part enable : ℕ) (es : List ℕ)
    → cycles_of (M (facts_of part) enable) (standby_of (facts_of part) false) es
    ≡ stops_of (facts_of part) fresh_watch es (levels_of (M (facts_of part) enable) (standby_of (facts_of part) false) (delivered_of part) es)

-- ---- of any functions that are called as `deliver`, `step` and `run` are

-- Any series of calls: the cycles they report in all, by the history they leave, wherever in it one call ends and the next begins.
abbrev pub CallsCyclesAreStops : Step → Run → Type 0
CallsCyclesAreStops S R =
    (part enable : ℕ) (c : Chip) (m : Mem) (calls : List Call) → NoTransfer c.line.phase
    → (calls_by S R part enable (before_calls c m) calls).cycles
    ≡ stops_of (facts_of part) (watch_at c) (calls_by S R part enable (before_calls c m) calls).events (calls_by S R part enable (before_calls c m) calls).levels

-- Any series of calls on what `deliver` answers and leaves.
abbrev pub CallsCyclesAreStopsFromDelivery : Deliver → Step → Run → Type 0
CallsCyclesAreStopsFromDelivery D S R =
    (part enable : ℕ) (m : Mem) (calls : List Call) → (D part m).answer.verdict ≡ Ok tt
    → (calls_by S R part enable (before_calls (D part m).answer.chip (D part m).mem) calls).cycles
    ≡ stops_of (facts_of part) fresh_watch
    (calls_by S R part enable (before_calls (D part m).answer.chip (D part m).mem) calls).events
    (calls_by S R part enable (before_calls (D part m).answer.chip (D part m).mem) calls).levels
