-- Document 01, 'How the chip goes': one bus event on the state that outlives no power but needs no array.
-- The state after an event never depends on what is stored, so an event has separate answers: the line after it (`next_of`),
-- what becomes of the latches (`act_of`), the level (`level_of`) and the cycles begun (`begun_of`).
-- Assumes nothing.
use Rattle.std.specs.Prelude.{ℕ, zero, suc, ◌+◌, ◌-◌, ◌*◌, ◌/◌, ◌%◌, ◌^◌, Bool, true, false, not, cond, ◌&&◌, ◌||◌, eqb, Option, None, Some}
use Rattle.parts.specs.declared.Facts.{Facts}
use Rattle.parts.specs.declared.ArrayAddress.{ArrayAddress}
use Rattle.parts.specs.declared.IdLocation.{IdLocation}
use Rattle.parts.specs.declared.Loss.{Loss}
use Rattle.parts.specs.declared.Loss.TheVariants.{Old, Lent}
use Rattle.parts.specs.declared.Event.{Event}
use Rattle.parts.specs.declared.Event.TheVariants.{Clock, Start, Stop, Ends, PinLow, PinHigh, PinFloat, Reset, Unknown}
use Rattle.parts.specs.Bytes.{flag_of}
use Rattle.line.specs.declared.Pin.{Pin}
use Rattle.line.specs.declared.Pin.TheVariants.{Absent, Low, High, Floating}
use Rattle.line.specs.declared.Target.{Target}
use Rattle.line.specs.declared.Target.TheVariants.{Array, Ident}
use Rattle.line.specs.declared.Recv.{Recv}
use Rattle.line.specs.declared.Recv.TheVariants.{Select, AddressHigh, AddressLow, Fill, LockByte, LockTaken}
use Rattle.line.specs.declared.Cycle.{Cycle}
use Rattle.line.specs.declared.Cycle.TheVariants.{Writing, Locking}
use Rattle.line.specs.declared.Phase.{Phase}
use Rattle.line.specs.declared.Phase.TheVariants.{Idle, Receive, Send, Busy}
use Rattle.line.specs.declared.Core.{Core}
use Rattle.line.specs.declared.Line.{Line}
use Rattle.line.specs.declared.Act.{Act}
use Rattle.line.specs.declared.Act.TheVariants.{Keep, Drop, Put}
use Rattle.line.specs.declared.After.{After}
use Rattle.line.specs.declared.LineMove.{LineMove}

-- ---- small changes

abbrev pub is_high : Pin → Bool
is_high Absent = false
is_high Low = false
is_high High = true
is_high Floating = false

-- at the beginning of a byte
abbrev pub at : Core → Phase → Line
at c ph = record { core = c; phase = ph; left = 8; shift = 0 }

abbrev pub goes : Core → Phase → Act → After
goes c ph a = record { core = c; phase = ph; act = a }

abbrev pub counting : Core → ℕ → Core
counting c n = record { counter = n; pin = c.pin; inhibited = c.inhibited; locked = c.locked }

abbrev pub marking : Core → Pin → Bool → Core
marking c v i = record { counter = c.counter; pin = v; inhibited = i; locked = c.locked }

abbrev pub bit_on : ℕ → ℕ → Bool
bit_on n weight = eqb (n / weight % 2) 1

-- ---- the page rule (rule 3), once over P: the next place, the place before, and past the last modified address (rule 7)

unfoldable pub roll_of : ℕ → ℕ → ℕ
roll_of P c = c / P * P + (c + 1) % P

unfoldable pub before_of : ℕ → ℕ → ℕ
before_of P c = c / P * P + (c + (P - 1)) % P

unfoldable pub onward_of : Facts → ℕ → ℕ
onward_of f c = (before_of f.page c + 1) % f.size

-- ---- rule 1: select

-- two address bytes: the three bits must equal the enable; one: they are A10..A8, and no enable
unfoldable pub enabled_of : Facts → ℕ → ℕ → Bool
enabled_of f enable b = cond f.wide (eqb (b / 2 % 8) enable) true

unfoldable pub named_of : Facts → ℕ → Option (Target × Bool)
named_of f b =
    cond (eqb (b / 16) 10) (Some (Array, (eqb (b % 2) 1))) (cond (eqb (b / 16) 11) (cond f.ident (Some (Ident, (eqb (b % 2) 1))) None) None)

unfoldable pub decode_of : Facts → ℕ → ℕ → Option (Target × Bool)
decode_of f enable b = cond (enabled_of f enable b) (named_of f b) None

-- what the address starts with: A10..A8 of an array write on a part with one address byte
unfoldable pub address_start_of : Facts → Target → ℕ → Recv
address_start_of f Array b = cond f.wide (AddressHigh Array) (AddressLow Array (b / 2 % 8))
address_start_of f Ident b = cond f.wide (AddressHigh Ident) (AddressLow Ident 0)

-- a match is acknowledged; otherwise the chip releases until the next Start
unfoldable pub selected_of : Facts → Core → ℕ → Option (Target × Bool) → After
selected_of f c b None = goes c Idle Keep
selected_of f c b (Some (t, true)) = goes c (Send t) Keep
selected_of f c b (Some (t, false)) = goes c (Receive (address_start_of f t b)) Keep

-- ---- rule 2: address

-- bits above the array size are ignored
abbrev pub array_address_of : Facts → ℕ → ArrayAddress
array_address_of f a = record { 0 = a % f.size }

-- the location is the address modulo P
abbrev pub location_of : Facts → ℕ → IdLocation
location_of f a = record { 0 = a % f.page }

-- one bit chooses: 0 write identification page, 1 lock
abbrev pub asks_lock_of : Facts → ℕ → Bool
asks_lock_of f a = bit_on a f.lock

-- a load copies a number of its own numbering. Latches are places in the counter's page, so none is kept when it is loaded
-- (after a Start there is none; a state from outside may hold some)
unfoldable pub load_array_of : Core → ArrayAddress → After
load_array_of c a = goes (counting c a.0) (Receive (Fill Array false)) Drop

unfoldable pub load_id_of : Core → IdLocation → Bool → After
load_id_of c at lock = goes (counting c at.0) (Receive (cond lock LockByte (Fill Ident false))) Drop

unfoldable pub loaded_of : Facts → Core → Target → ℕ → After
loaded_of f c Array a = load_array_of c (array_address_of f a)
loaded_of f c Ident a = load_id_of c (location_of f a) (asks_lock_of f a)

-- ---- rules 3, 4, 5: data, inhibition, lock

-- the pin was high since the Start, or the identification page is locked
unfoldable pub refuses_of : Core → Target → Bool
refuses_of c Array = c.inhibited
refuses_of c Ident = c.inhibited || c.locked

-- after a refused data byte the chip releases until the next Start, and the latches are dropped
abbrev pub given_up : Core → After
given_up c = goes c Idle Drop

unfoldable pub latched_of : Facts → Core → Target → ℕ → After
latched_of f c t b =
    goes (counting c (roll_of f.page c.counter)) (Receive (Fill t true)) (Put (c.counter % f.page) b)

unfoldable pub filled_of : Facts → Core → Target → ℕ → After
filled_of f c t b = cond (refuses_of c t) (given_up c) (latched_of f c t b)

-- bit 1 of the lock byte decides whether the Stop begins a cycle; lock data do not move the counter
unfoldable pub locked_by_of : Core → ℕ → After
locked_by_of c b = cond (refuses_of c Ident) (given_up c) (goes c (Receive (LockTaken (bit_on b 2))) Keep)

-- ---- a byte received, whole: what its ninth clock does. A second lock byte is refused
unfoldable pub taken_of : Facts → ℕ → Core → Recv → ℕ → After
taken_of f enable c Select b = selected_of f c b (decode_of f enable b)
taken_of f enable c (AddressHigh t) b = goes c (Receive (AddressLow t b)) Keep
taken_of f enable c (AddressLow t high) b = loaded_of f c t (high * 256 + b)
taken_of f enable c (Fill t w) b = filled_of f c t b
taken_of f enable c LockByte b = locked_by_of c b
taken_of f enable c (LockTaken w) b = given_up c

abbrev pub landed : After → Line
landed a = at a.core a.phase

-- eight bits, highest first, then the acknowledge: `left` bits are still to come before it
unfoldable pub received_of : Facts → ℕ → Line → Bool → Recv → ℕ → Line
received_of f enable l v r zero = landed (taken_of f enable l.core r l.shift)
received_of f enable l v r (suc k) = record { core = l.core; phase = Receive r; left = k; shift = l.shift % 128 * 2 + flag_of v }

unfoldable pub receive_act_of : Facts → ℕ → Line → Recv → ℕ → Act
receive_act_of f enable l r zero = (taken_of f enable l.core r l.shift).act
receive_act_of f enable l r (suc k) = Keep

-- the chip pulls low to acknowledge, and releases otherwise
abbrev pub released_in : Phase → ℕ
released_in Idle = 1
released_in (Receive r) = 0
released_in (Send t) = 0
released_in (Busy y) = 0

unfoldable pub receive_level_of : Facts → ℕ → Line → Recv → ℕ → ℕ
receive_level_of f enable l r zero = released_in (taken_of f enable l.core r l.shift).phase
receive_level_of f enable l r (suc k) = 1

-- ---- rule 8: read

-- the counter moves at the eighth bit: modulo the array size, or modulo P under 1011
unfoldable pub moved_of : Facts → Core → Target → ℕ → Core
moved_of f c Array zero = counting c ((c.counter + 1) % f.size)
moved_of f c Ident zero = counting c ((c.counter + 1) % f.page)
moved_of f c t (suc k) = c

-- the master's 0 on the ninth clock goes on; 1 ends
unfoldable pub sent_of : Facts → Line → Bool → Target → ℕ → Line
sent_of f l v t zero = at l.core (cond v Idle (Send t))
sent_of f l v t (suc k) = record { core = moved_of f l.core t k; phase = Send t; left = k; shift = l.shift }

unfoldable pub send_level_of : ℕ → ℕ → ℕ
send_level_of b zero = 1
send_level_of b (suc k) = b / 2 ^ k % 2

-- ---- a clock; `b` is the byte at the counter

unfoldable pub clocked_of : Facts → ℕ → Line → Bool → Phase → Line
clocked_of f enable l v Idle = l
clocked_of f enable l v (Receive r) = received_of f enable l v r l.left
clocked_of f enable l v (Send t) = sent_of f l v t l.left
clocked_of f enable l v (Busy y) = l

unfoldable pub clock_act_of : Facts → ℕ → Line → Phase → Act
clock_act_of f enable l Idle = Keep
clock_act_of f enable l (Receive r) = receive_act_of f enable l r l.left
clock_act_of f enable l (Send t) = Keep
clock_act_of f enable l (Busy y) = Keep

unfoldable pub clock_level_of : Facts → ℕ → Line → ℕ → Phase → ℕ
clock_level_of f enable l b Idle = 1
clock_level_of f enable l b (Receive r) = receive_level_of f enable l r l.left
clock_level_of f enable l b (Send t) = send_level_of b l.left
clock_level_of f enable l b (Busy y) = 1

-- ---- Start: taken at any moment but in a cycle; it drops the latches, and the counter stays (rules 4, 6)

abbrev pub opened : Core → Line
opened c = at (marking c c.pin (is_high c.pin)) (Receive Select)

unfoldable pub started_of : Line → Phase → Line
started_of l Idle = opened l.core
started_of l (Receive r) = opened l.core
started_of l (Send t) = opened l.core
started_of l (Busy y) = l

unfoldable pub start_act_of : Phase → Act
start_act_of Idle = Drop
start_act_of (Receive r) = Drop
start_act_of (Send t) = Drop
start_act_of (Busy y) = Keep

-- ---- rule 6: Stop

-- the cycle that a Stop directly after this byte's acknowledge begins
unfoldable pub asks_of : Recv → Option Cycle
asks_of Select = None
asks_of (AddressHigh t) = None
asks_of (AddressLow t high) = None
asks_of (Fill t true) = Some (Writing t)
asks_of (Fill t false) = None
asks_of LockByte = None
asks_of (LockTaken true) = Some Locking
asks_of (LockTaken false) = None

-- directly after an acknowledge, and the pin not high since the Start
unfoldable pub placed_of : Line → Bool
placed_of l = eqb l.left 8 && not l.core.inhibited

abbrev pub due_of : Bool → Option Cycle → Option Cycle
due_of true a = a
due_of false a = None

abbrev pub stopped_by_lem : Core → Option Cycle → Line
stopped_by_lem c None = at c Idle
stopped_by_lem c (Some y) = at c (Busy y)

abbrev pub stop_act_by : Option Cycle → Act
stop_act_by None = Drop
stop_act_by (Some y) = Keep

abbrev pub begun_by : Option Cycle → ℕ
begun_by None = 0
begun_by (Some y) = 1

unfoldable pub stopped_of : Line → Phase → Line
stopped_of l Idle = at l.core Idle
stopped_of l (Receive r) = stopped_by_lem l.core (due_of (placed_of l) (asks_of r))
stopped_of l (Send t) = at l.core Idle
stopped_of l (Busy y) = l

unfoldable pub stop_act_of : Line → Phase → Act
stop_act_of l Idle = Drop
stop_act_of l (Receive r) = stop_act_by (due_of (placed_of l) (asks_of r))
stop_act_of l (Send t) = Drop
stop_act_of l (Busy y) = Keep

unfoldable pub stop_begun_of : Line → Phase → ℕ
stop_begun_of l Idle = 0
stop_begun_of l (Receive r) = begun_by (due_of (placed_of l) (asks_of r))
stop_begun_of l (Send t) = 0
stop_begun_of l (Busy y) = 0

-- ---- rule 7: the internal cycle ends

abbrev pub locked_now : Core → Core
locked_now c = record { counter = c.counter; pin = c.pin; inhibited = c.inhibited; locked = true }

unfoldable pub ended_by_of : Facts → Core → Cycle → Line
ended_by_of f c (Writing Array) = at (counting c (onward_of f c.counter)) Idle
ended_by_of f c (Writing Ident) = at c Idle
ended_by_of f c Locking = at (locked_now c) Idle

unfoldable pub ended_of : Facts → Line → Phase → Line
ended_of f l Idle = l
ended_of f l (Receive r) = l
ended_of f l (Send t) = l
ended_of f l (Busy y) = ended_by_of f l.core y

unfoldable pub end_act_of : Phase → Act
end_act_of Idle = Keep
end_act_of (Receive r) = Keep
end_act_of (Send t) = Keep
end_act_of (Busy y) = Drop

-- ---- the pin: in a transfer a high pin marks it as inhibited (rule 4); elsewhere pin events only set the pin

abbrev pub marked : Line → Pin → Bool → Line
marked l v i = record { core = marking l.core v i; phase = l.phase; left = l.left; shift = l.shift }

abbrev pub marked_in : Line → Pin → Line
marked_in l v = marked l v (l.core.inhibited || is_high v)

unfoldable pub pinned_of : Line → Pin → Phase → Line
pinned_of l v Idle = marked l v l.core.inhibited
pinned_of l v (Receive r) = marked_in l v
pinned_of l v (Send t) = marked_in l v
pinned_of l v (Busy y) = marked l v l.core.inhibited

-- ---- rule 9: standby, counter 0, latches dropped, pin kept; the lock survives. Document 02, §5: "a cycle that was locking leaves the lock
-- as a given flag says"

abbrev pub lock_left : Loss → Bool
lock_left Old = false
lock_left (Lent lock) = lock

abbrev pub lock_cut : Loss → Bool → Cycle → Bool
lock_cut w lock (Writing t) = lock
lock_cut w lock Locking = lock_left w

abbrev pub lock_at_reset : Loss → Bool → Phase → Bool
lock_at_reset w lock Idle = lock
lock_at_reset w lock (Receive r) = lock
lock_at_reset w lock (Send t) = lock
lock_at_reset w lock (Busy y) = lock_cut w lock y

unfoldable pub reset_of : Loss → Core → Phase → Line
reset_of w c ph = at record { counter = 0; pin = c.pin; inhibited = false; locked = lock_at_reset w c.locked ph } Idle

-- ---- an event

unfoldable pub next_of : Facts → ℕ → Line → Event → Line
next_of f enable l (Clock v) = clocked_of f enable l v l.phase
next_of f enable l Start = started_of l l.phase
next_of f enable l Stop = stopped_of l l.phase
next_of f enable l Ends = ended_of f l l.phase
next_of f enable l PinLow = pinned_of l Low l.phase
next_of f enable l PinHigh = pinned_of l High l.phase
next_of f enable l PinFloat = pinned_of l Floating l.phase
next_of f enable l (Reset w) = reset_of w l.core l.phase
next_of f enable l Unknown = l

unfoldable pub act_of : Facts → ℕ → Line → Event → Act
act_of f enable l (Clock v) = clock_act_of f enable l l.phase
act_of f enable l Start = start_act_of l.phase
act_of f enable l Stop = stop_act_of l l.phase
act_of f enable l Ends = end_act_of l.phase
act_of f enable l PinLow = Keep
act_of f enable l PinHigh = Keep
act_of f enable l PinFloat = Keep
act_of f enable l (Reset w) = Drop
act_of f enable l Unknown = Keep

-- 0 pulls low, 1 releases, 2 no level; `b` is the byte at the counter
unfoldable pub level_of : Facts → ℕ → Line → ℕ → Event → ℕ
level_of f enable l b (Clock v) = clock_level_of f enable l b l.phase
level_of f enable l b Start = 2
level_of f enable l b Stop = 2
level_of f enable l b Ends = 2
level_of f enable l b PinLow = 2
level_of f enable l b PinHigh = 2
level_of f enable l b PinFloat = 2
level_of f enable l b (Reset w) = 2
level_of f enable l b Unknown = 2

-- cycles begun are well-placed Stops
unfoldable pub begun_of : Line → Event → ℕ
begun_of l (Clock v) = 0
begun_of l Start = 0
begun_of l Stop = stop_begun_of l l.phase
begun_of l Ends = 0
begun_of l PinLow = 0
begun_of l PinHigh = 0
begun_of l PinFloat = 0
begun_of l (Reset w) = 0
begun_of l Unknown = 0

-- no level, no cycle
abbrev pub quietly : Line → Act → LineMove
quietly l a = record { line = l; act = a; level = 2; cycles = 0 }

-- the four together
unfoldable pub move_of : Facts → ℕ → Line → ℕ → Event → LineMove
move_of f enable l b e =
    record { line = next_of f enable l e; act = act_of f enable l e; level = level_of f enable l b e; cycles = begun_of l e }

-- ---- where a chip stands

-- no transfer is under way: in standby, released until the next Start, or in a cycle (rules 1 and 7)
abbrev pub NoTransfer : Phase → Type 0
NoTransfer Idle = Unit {0}
NoTransfer (Receive r) = ⊥
NoTransfer (Send t) = ⊥
NoTransfer (Busy y) = Unit {0}
