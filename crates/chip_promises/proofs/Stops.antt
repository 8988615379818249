-- Promise 4 is kept: what the history says of a transfer is what the chip makes of it. The chip's phase answers which bytes still to
-- come would make a Stop well placed (`expects`), and the history's answer to the same question is `asks_cycle_of` of the bytes seen with
-- those to come.
-- Assumes nothing.
use Rattle.std.specs.Prelude.{Ok, Err, Option, None, Some}
use mathlib.Core.Path.{◌≡◌, refl, sym, ap, ◌∙◌, subst}
use Prim.Native.Nat.{ℕ, zero, suc, ◌+◌, ◌*◌, ◌/◌, ◌%◌, ◌^◌, ◌≤◌, ◌<◌}
use native.Mathlib.Nat.{mod-eq_of_lt, pow-le-pow_right, pow-suc}
use native.Mathlib.Numerals.{add-one}
use native.Mathlib.Omega.{arith}
use mathlib.Core.Bool.{Bool, true, false, not, cond, ◌&&◌, ◌||◌}
use mathlib.Core.List.{List, [], ◌∷◌, ◌++◌, append_assoc, append-nil}
use lib.ListN.{length, drop, length-append}
use lib.Dec.{eqb}
use borrow.Author.Tests.{eqb-true, eq-eqb, ne_eqb}
use Rattle.parts.specs.declared.Facts.{Facts}
use Rattle.parts.specs.declared.Loss.{Loss}
use Rattle.parts.specs.declared.Loss.TheVariants.{Old}
use Rattle.parts.specs.declared.Event.{Event}
use Rattle.parts.specs.declared.Event.TheVariants.{Clock, Start, Stop, Ends, PinLow, PinHigh, PinFloat, Reset, Unknown}
use Rattle.parts.specs.Verdict.{Verdict}
use Rattle.parts.specs.Table.{facts_of, address_bytes_of}
use Rattle.parts.specs.Events.{event_with, event_of}
use Rattle.parts.specs.Bytes.{flag_of}
use Rattle.parts.proofs.Laws.{branch}
use Rattle.parts.proofs.Bytes.{flag_below}
use Rattle.chip.proofs.Laws.{levels_length}
use Rattle.line.specs.declared.Pin.{Pin}
use Rattle.line.specs.declared.Pin.TheVariants.{Low, High, Floating}
use Rattle.line.specs.declared.Target.{Target}
use Rattle.line.specs.declared.Target.TheVariants.{Array, Ident}
use Rattle.line.specs.declared.Recv.{Recv}
use Rattle.line.specs.declared.Recv.TheVariants.{Select, AddressHigh, AddressLow, Fill, LockByte, LockTaken}
use Rattle.line.specs.declared.Cycle.TheVariants.{Writing, Locking}
use Rattle.line.specs.declared.Phase.{Phase}
use Rattle.line.specs.declared.Phase.TheVariants.{Idle, Receive, Send, Busy}
use Rattle.line.specs.declared.Core.{Core}
use Rattle.line.specs.declared.Line.{Line}
use Rattle.line.specs.declared.After.{After}
use Rattle.line.specs.declared.Cycle.{Cycle}
use Rattle.line.specs.Rules.{is_high, at, opened, marked, marked_in, bit_on, enabled_of, named_of, decode_of, address_start_of, selected_of, load_array_of, load_id_of, loaded_of, refuses_of, latched_of, filled_of, locked_by_of, taken_of, landed, released_in, received_of, receive_level_of, sent_of, send_level_of, clocked_of, clock_level_of, started_of, stopped_by_lem, begun_by, due_of, placed_of, asks_of, stopped_of, stop_begun_of, ended_by_of, ended_of, pinned_of, reset_of, next_of, level_of, begun_of, NoTransfer}
use Rattle.state.specs.declared.Chip.{Chip}
use Rattle.chip.specs.Memory.{Mem, state_of, chip_level_of, seen_of}
use Rattle.chip.specs.Delivery.{pin_at_first_of, standby_of, delivered_of}
use Rattle.chip_promises.specs.States.{NotBusy}
use Rattle.chip.specs.Model.{PowerCut, ours_with}
use Rattle.chip.specs.Runs.{after_of, levels_of, cycles_of}
use Rattle.chip.specs.Calls.{deliver_of, step_of, run_left_of, run_verdict, run_of}
use Rattle.chip_promises.specs.Calls.{Ending, before_calls, calls_by}
use Rattle.chip_promises.specs.Stops.{Byte, seen_byte, all_acked, address_in, lock_chosen_of, data_of, writes_of, asks_cycle_of, Seen, quiet, cycling, since, well_placed_of, start_seen, clock_seen, stop_seen, end_seen, pin_seen, Watch, watch, watch_of, stop_of, stops_of, fresh_watch, seen_at, watch_at, CyclesAreStops, CyclesAreStopsFromDelivery, CallsCyclesAreStops, CallsCyclesAreStopsFromDelivery}
use Rattle.chip_promises.specs.Forms.{RunCyclesAreStops}
use Rattle.chip_promises.proofs.Runs.{Invariant, Keeps, keeps, calls_keep, Any, every, every_call}
use Rattle.chip_promises.proofs.Steps.{taken_free, Kept, taken_kept, next_still, any_loss}

-- ---- what a phase still expects

abbrev lock_for : Facts → Target → ℕ → Bool
lock_for f Array a = false
lock_for f Ident a = bit_on a f.lock

-- whether a Stop after these bytes to come, all acknowledged, would be well placed
abbrev expects : Facts → Recv → List Byte → Bool
expects f Select ds = writes_of f ds
expects f (AddressHigh t) [] = false
expects f (AddressHigh t) (b ∷ []) = false
expects f (AddressHigh t) (b ∷ d ∷ ds) = data_of (lock_for f t (b.value * 256 + d.value)) ds
expects f (AddressLow t high) [] = false
expects f (AddressLow t high) (b ∷ ds) = data_of (lock_for f t (high * 256 + b.value)) ds
expects f (Fill t w) [] = w
expects f (Fill t w) (d ∷ ds) = true
expects f LockByte ds = data_of true ds
expects f (LockTaken w) [] = w
expects f (LockTaken w) (d ∷ ds) = false

abbrev ahead : Facts → Phase → List Byte → Bool
ahead f Idle ds = false
ahead f (Receive r) ds = all_acked ds && expects f r ds
ahead f (Send t) ds = false
ahead f (Busy y) ds = false

and-false : (a : Bool) → (a && false) ≡ false
and-false true = refl
and-false false = refl

-- ---- a whole byte takes the phase one byte on

-- the byte as the history has it, its acknowledge from the level
abbrev heard_as : ℕ → Phase → Byte
heard_as b ph = seen_byte b (eqb (released_in ph) 0)

abbrev Goes : Facts → Recv → ℕ → After → Type 0
Goes f r b a = (ds : List Byte) → (all_acked (heard_as b a.phase ∷ ds) && expects f r (heard_as b a.phase ∷ ds)) ≡ ahead f a.phase ds

-- what a select byte names, read from its bits
abbrev HeardIs : ℕ → Option (Target × Bool) → Type 0
HeardIs b None = Unit {0}
HeardIs b (Some (Array, r)) = (eqb (b % 2) 1 ≡ r) × (eqb (b / 16) 11 ≡ false)
HeardIs b (Some (Ident, r)) = (eqb (b % 2) 1 ≡ r) × (eqb (b / 16) 11 ≡ true)

decode_is : (f : Facts) (en b : ℕ) → HeardIs b (decode_of f en b)
unfolding decode_of named_of
decode_is f en b =
    branch (HeardIs b) (enabled_of f en b)
    (λ _. branch (HeardIs b) (eqb (b / 16) 10)
    (λ e. (refl, ne_eqb (b / 16) 11 (λ q. omega (arith, eqb-true (b / 16) 10 e))))
    (λ _. branch (HeardIs b) (eqb (b / 16) 11)
    (λ e. branch (HeardIs b) f.ident (λ _. (refl, e)) (λ _. tt))
    (λ _. tt)))
    (λ _. tt)

-- the address bytes that follow a select code
first_array : (f : Facts) (w : Bool) (high : ℕ) (ds : List Byte)
    → data_of (false && bit_on (address_in w ds) f.lock) (drop (cond w 2 1) ds) ≡ expects f (cond w (AddressHigh Array) (AddressLow Array high)) ds
first_array f true high [] = refl
first_array f true high (b ∷ []) = refl
first_array f true high (b ∷ d ∷ ds) = refl
first_array f false high [] = refl
first_array f false high (b ∷ ds) = refl

first_ident : (f : Facts) (w : Bool) (ds : List Byte)
    → data_of (true && bit_on (address_in w ds) f.lock) (drop (cond w 2 1) ds) ≡ expects f (cond w (AddressHigh Ident) (AddressLow Ident 0)) ds
first_ident f true [] = refl
first_ident f true (b ∷ []) = refl
first_ident f true (b ∷ d ∷ ds) = refl
first_ident f false [] = refl
first_ident f false (b ∷ ds) = ap (λ (a : ℕ). data_of (bit_on a f.lock) ds) (omega arith)

selected_goes : (f : Facts) (c : Core) (b : ℕ) (h : Option (Target × Bool)) → HeardIs b h → Goes f Select b (selected_of f c b h)
unfolding selected_of address_start_of writes_of lock_chosen_of address_bytes_of
selected_goes f c b None k ds = refl
selected_goes f c b (Some (Array, true)) k ds =
    ap (λ (r : Bool). all_acked ds && (not r && data_of (eqb (b / 16) 11 && bit_on (address_in f.wide ds) f.lock) (drop (cond f.wide 2 1) ds))) k.0
    ∙ and-false (all_acked ds)
selected_goes f c b (Some (Ident, true)) k ds =
    ap (λ (r : Bool). all_acked ds && (not r && data_of (eqb (b / 16) 11 && bit_on (address_in f.wide ds) f.lock) (drop (cond f.wide 2 1) ds))) k.0
    ∙ and-false (all_acked ds)
selected_goes f c b (Some (Array, false)) k ds =
    ap (λ (r : Bool). all_acked ds && (not r && data_of (eqb (b / 16) 11 && bit_on (address_in f.wide ds) f.lock) (drop (cond f.wide 2 1) ds))) k.0
    ∙ ap (λ (x : Bool). all_acked ds && data_of (x && bit_on (address_in f.wide ds) f.lock) (drop (cond f.wide 2 1) ds)) k.1
    ∙ ap (λ (x : Bool). all_acked ds && x) (first_array f f.wide (b / 2 % 8) ds)
selected_goes f c b (Some (Ident, false)) k ds =
    ap (λ (r : Bool). all_acked ds && (not r && data_of (eqb (b / 16) 11 && bit_on (address_in f.wide ds) f.lock) (drop (cond f.wide 2 1) ds))) k.0
    ∙ ap (λ (x : Bool). all_acked ds && data_of (x && bit_on (address_in f.wide ds) f.lock) (drop (cond f.wide 2 1) ds)) k.1
    ∙ ap (λ (x : Bool). all_acked ds && x) (first_ident f f.wide ds)

data_array : (f : Facts) (ds : List Byte) → data_of false ds ≡ expects f (Fill Array false) ds
data_array f [] = refl
data_array f (d ∷ ds) = refl

data_ident : (f : Facts) (k : Bool) (ds : List Byte) → data_of k ds ≡ expects f (cond k LockByte (Fill Ident false)) ds
data_ident f true ds = refl
data_ident f false [] = refl
data_ident f false (d ∷ ds) = refl

loaded_goes : (f : Facts) (c : Core) (t : Target) (high b : ℕ) → Goes f (AddressLow t high) b (loaded_of f c t (high * 256 + b))
unfolding loaded_of load_array_of load_id_of
loaded_goes f c Array high b ds = ap (λ (x : Bool). all_acked ds && x) (data_array f ds)
loaded_goes f c Ident high b ds = ap (λ (x : Bool). all_acked ds && x) (data_ident f (bit_on (high * 256 + b) f.lock) ds)

filled_on : (f : Facts) (t : Target) (ds : List Byte) → true ≡ expects f (Fill t true) ds
filled_on f t [] = refl
filled_on f t (d ∷ ds) = refl

locked_on : (f : Facts) (d : Byte) (ds : List Byte) → data_of true (d ∷ ds) ≡ expects f (LockTaken (bit_on d.value 2)) ds
locked_on f d [] = refl
locked_on f d (e ∷ ds) = refl

high_on : (f : Facts) (t : Target) (b : Byte) (ds : List Byte) → expects f (AddressHigh t) (b ∷ ds) ≡ expects f (AddressLow t b.value) ds
high_on f t b [] = refl
high_on f t b (d ∷ ds) = refl

taken_goes : (f : Facts) (en : ℕ) (c : Core) (r : Recv) (b : ℕ) → Goes f r b (taken_of f en c r b)
unfolding taken_of filled_of locked_by_of latched_of
taken_goes f en c Select b = selected_goes f c b (decode_of f en b) (decode_is f en b)
taken_goes f en c (AddressHigh t) b = λ ds. ap (λ (x : Bool). all_acked ds && x) (high_on f t (seen_byte b true) ds)
taken_goes f en c (AddressLow t high) b = loaded_goes f c t high b
taken_goes f en c (Fill t w) b =
    branch (Goes f (Fill t w) b) (refuses_of c t) (λ _ ds. refl) (λ _ ds. ap (λ (x : Bool). all_acked ds && x) (filled_on f t ds))
taken_goes f en c LockByte b =
    branch (Goes f LockByte b) (refuses_of c Ident) (λ _ ds. refl) (λ _ ds. ap (λ (x : Bool). all_acked ds && x) (locked_on f (seen_byte b true) ds))
taken_goes f en c (LockTaken w) b = λ ds. refl

-- ---- the chip and the history side by side

-- no bytes to come make a Stop of this transfer well placed
abbrev Never : Facts → List Byte → Type 0
Never f bs = (ds : List Byte) → asks_cycle_of f (bs ++ ds) ≡ false

-- a transfer that the chip hears
pub record Hears (f : Facts) (l : Line) (r : Recv) (high : Bool) (bs : List Byte) (k n : ℕ) : Type 0 where
  pub mark : high ≡ l.core.inhibited
  pub bits : l.left + k ≡ 8
  pub value : l.shift ≡ n
  pub small : n < 2 ^ k
  pub asks : (ds : List Byte) → asks_cycle_of f (bs ++ ds) ≡ (all_acked ds && expects f r ds)

abbrev pub Side : Facts → Line → Phase → Seen → Type 0
Side f l Idle quiet = Unit {0}
Side f l Idle cycling = ⊥
Side f l Idle (since h bs k n) = Never f bs
Side f l (Receive r) quiet = ⊥
Side f l (Receive r) cycling = ⊥
Side f l (Receive r) (since h bs k n) = Hears f l r h bs k n
Side f l (Send t) quiet = ⊥
Side f l (Send t) cycling = ⊥
Side f l (Send t) (since h bs k n) = Never f bs
Side f l (Busy y) quiet = ⊥
Side f l (Busy y) cycling = Unit {0}
Side f l (Busy y) (since h bs k n) = ⊥

-- ---- clocks

never_more : (f : Facts) (bs es : List Byte) → Never f bs → Never f (bs ++ es)
never_more f bs es h ds = ap (asks_cycle_of f) (append_assoc bs es ds) ∙ h (es ++ ds)

never_clock : (f : Facts) (Q : Seen → Type 0) (v : Bool) (x : ℕ) (h : Bool) (bs : List Byte) (k n : ℕ) → Never f bs
    → ((cs : List Byte) (j i : ℕ) → Never f cs → Q (since h cs j i)) → Q (clock_seen v x (since h bs k n))
unfolding clock_seen
never_clock f Q v x h bs k n o q = branch Q (eqb k 8) (λ _. q _ _ _ (never_more f bs _ o)) (λ _. q _ _ _ o)

-- the ninth clock of a byte received
landed_side : (f : Facts) (l : Line) (r : Recv) (h : Bool) (bs : List Byte) (a : After)
    → h ≡ l.core.inhibited → Kept l.core a.core → NotBusy a.phase
    → ((ds : List Byte) → asks_cycle_of f (bs ++ ds) ≡ (all_acked ds && expects f r ds))
    → Goes f r l.shift a
    → Side f (landed a) a.phase (since h (bs ++ (heard_as l.shift a.phase ∷ [])) 0 0)
landed_side f l r h bs a i kept free asks goes =
    go a.phase free (λ ds. ap (asks_cycle_of f) (append_assoc bs (heard_as l.shift a.phase ∷ []) ds) ∙ asks (heard_as l.shift a.phase ∷ ds) ∙ goes ds)
  where
    go : (ph : Phase) → NotBusy ph
        → ((ds : List Byte) → asks_cycle_of f ((bs ++ (heard_as l.shift a.phase ∷ [])) ++ ds) ≡ ahead f ph ds)
        → Side f (landed a) ph (since h (bs ++ (heard_as l.shift a.phase ∷ [])) 0 0)
    go Idle o e = e
    go (Receive r') o e = record { mark = i ∙ sym kept.mark; bits = refl; value = refl; small = omega arith; asks = e }
    go (Send t) o e = e
    go (Busy y) o e = absurd o

received_side : (f : Facts) (en : ℕ) (l : Line) (v : Bool) (r : Recv) (left : ℕ) (h : Bool) (bs : List Byte) (k n : ℕ)
    → l.left ≡ left → Hears f l r h bs k n
    → Side f (received_of f en l v r left) (received_of f en l v r left).phase (clock_seen v (receive_level_of f en l r left) (since h bs k n))
unfolding received_of receive_level_of clock_seen
received_side f en l v r zero h bs k n e o =
    let full : eqb k 8 ≡ true = eq-eqb k 8 (omega (arith, o.bits)) in
    let a : After = taken_of f en l.core r l.shift in
    subst
    (λ (b : Bool). Side f (landed a) a.phase (cond b (since h (bs ++ (seen_byte n (eqb (released_in a.phase) 0) ∷ [])) 0 0) (since h bs (k + 1) (n * 2 + flag_of v))))
    (sym full)
    (subst
    (λ (i : ℕ). Side f (landed a) a.phase (since h (bs ++ (seen_byte i (eqb (released_in a.phase) 0) ∷ [])) 0 0))
    o.value
    (landed_side f l r h bs a o.mark (taken_kept f en l.core r l.shift) (taken_free f en l.core r l.shift) o.asks (taken_goes f en l.core r l.shift)))
received_side f en l v r (suc left) h bs k n e o =
    let part : eqb k 8 ≡ false = ne_eqb k 8 (λ q. omega (arith, o.bits)) in
    let room : 2 ^ k ≤ 2 ^ 7 = pow-le-pow_right {n = 2} (omega arith) {i = k} {j = 7} (omega (arith, o.bits)) in
    let fits : n % 128 ≡ n = mod-eq_of_lt (omega (arith, room, o.small)) in
    let grows : 2 ^ (k + 1) ≡ 2 ^ k * 2 = ap (λ (j : ℕ). 2 ^ j) (add-one k) ∙ pow-suc 2 k in
    subst
    (λ (b : Bool). Side f (record { core = l.core; phase = Receive r; left = left; shift = l.shift % 128 * 2 + flag_of v }) (Receive r) (cond b (since h (bs ++ (seen_byte n (eqb 1 0) ∷ [])) 0 0) (since h bs (k + 1) (n * 2 + flag_of v))))
    (sym part)
    record { mark = o.mark; bits = omega (arith, o.bits); value = ap (λ (i : ℕ). i % 128 * 2 + flag_of v) o.value ∙ ap (λ (i : ℕ). i * 2 + flag_of v) fits; small = omega (arith, grows, o.small, flag_below v); asks = o.asks }

sent_side : (f : Facts) (l : Line) (v : Bool) (t : Target) (left x : ℕ) (h : Bool) (bs : List Byte) (k n : ℕ) → Never f bs
    → Side f (sent_of f l v t left) (sent_of f l v t left).phase (clock_seen v x (since h bs k n))
unfolding sent_of
sent_side f l v t zero x h bs k n o =
    branch (λ (ph : Phase). Side f (sent_of f l v t zero) ph (clock_seen v x (since h bs k n))) v
    (λ _. never_clock f (Side f (sent_of f l v t zero) Idle) v x h bs k n o (λ cs j i q. q))
    (λ _. never_clock f (Side f (sent_of f l v t zero) (Send t)) v x h bs k n o (λ cs j i q. q))
sent_side f l v t (suc left) x h bs k n o = never_clock f (Side f (sent_of f l v t (suc left)) (Send t)) v x h bs k n o (λ cs j i q. q)

clocked_side : (f : Facts) (en : ℕ) (l : Line) (v : Bool) (b : ℕ) (ph : Phase) (s : Seen) → l.phase ≡ ph → Side f l ph s
    → Side f (clocked_of f en l v ph) (clocked_of f en l v ph).phase (clock_seen v (clock_level_of f en l b ph) s)
unfolding clocked_of clock_level_of clock_seen
clocked_side f en l v b Idle quiet e o = subst (λ (p : Phase). Side f l p quiet) (sym e) tt
clocked_side f en l v b Idle cycling e o = absurd o
clocked_side f en l v b Idle (since h bs k n) e o =
    subst (λ (p : Phase). Side f l p (clock_seen v 1 (since h bs k n))) (sym e) (never_clock f (Side f l Idle) v 1 h bs k n o (λ cs j i q. q))
clocked_side f en l v b (Receive r) quiet e o = absurd o
clocked_side f en l v b (Receive r) cycling e o = absurd o
clocked_side f en l v b (Receive r) (since h bs k n) e o = received_side f en l v r l.left h bs k n refl o
clocked_side f en l v b (Send t) quiet e o = absurd o
clocked_side f en l v b (Send t) cycling e o = absurd o
clocked_side f en l v b (Send t) (since h bs k n) e o = sent_side f l v t l.left (send_level_of b l.left) h bs k n o
clocked_side f en l v b (Busy y) quiet e o = absurd o
clocked_side f en l v b (Busy y) cycling e o = subst (λ (p : Phase). Side f l p cycling) (sym e) tt
clocked_side f en l v b (Busy y) (since h bs k n) e o = absurd o

-- ---- Start

opened_side : (f : Facts) (l : Line) (p : Bool) → p ≡ is_high l.core.pin
    → Hears f (opened l.core) Select p [] 0 0
unfolding asks_cycle_of
opened_side f l p e = record { mark = e; bits = refl; value = refl; small = omega arith; asks = λ ds. refl }

started_side : (f : Facts) (l : Line) (p : Bool) (ph : Phase) (s : Seen) → p ≡ is_high l.core.pin → l.phase ≡ ph → Side f l ph s
    → Side f (started_of l ph) (started_of l ph).phase (start_seen p s)
unfolding started_of start_seen
started_side f l p Idle quiet i e o = opened_side f l p i
started_side f l p Idle cycling i e o = absurd o
started_side f l p Idle (since h bs k n) i e o = opened_side f l p i
started_side f l p (Receive r) quiet i e o = absurd o
started_side f l p (Receive r) cycling i e o = absurd o
started_side f l p (Receive r) (since h bs k n) i e o = opened_side f l p i
started_side f l p (Send t) quiet i e o = absurd o
started_side f l p (Send t) cycling i e o = absurd o
started_side f l p (Send t) (since h bs k n) i e o = opened_side f l p i
started_side f l p (Busy y) quiet i e o = absurd o
started_side f l p (Busy y) cycling i e o = subst (λ (q : Phase). Side f l q cycling) (sym e) tt
started_side f l p (Busy y) (since h bs k n) i e o = absurd o

-- ---- Stop

abbrev is_for : Option Cycle → Bool
is_for None = false
is_for (Some y) = true

asks_now : (f : Facts) (r : Recv) → expects f r [] ≡ is_for (asks_of r)
unfolding asks_of writes_of
asks_now f Select = refl
asks_now f (AddressHigh t) = refl
asks_now f (AddressLow t high) = refl
asks_now f (Fill t true) = refl
asks_now f (Fill t false) = refl
asks_now f LockByte = refl
asks_now f (LockTaken true) = refl
asks_now f (LockTaken false) = refl

abbrev Stops : Facts → Line → ℕ → Bool → Type 0
Stops f l n u = Side f l l.phase (cond u cycling quiet) × (n ≡ flag_of u)

by_stops : (f : Facts) (c : Core) (p : Bool) (a : Option Cycle) → Stops f (stopped_by_lem c (due_of p a)) (begun_by (due_of p a)) (p && is_for a)
by_stops f c true None = (tt, refl)
by_stops f c true (Some y) = (tt, refl)
by_stops f c false None = (tt, refl)
by_stops f c false (Some y) = (tt, refl)

eight : (left k : ℕ) → left + k ≡ 8 → eqb k 0 ≡ eqb left 8
eight left zero e = sym (eq-eqb left 8 (omega arith))
eight left (suc k) e = ne_eqb (suc k) 0 (λ q. omega arith) ∙ sym (ne_eqb left 8 (λ q. omega arith))

-- nothing asked is not well placed
unasked : (f : Facts) (h : Bool) (bs : List Byte) (k : ℕ) → Never f bs → ((eqb k 0 && not h) && asks_cycle_of f bs) ≡ false
unasked f h bs k o =
    ap (λ (b : Bool). (eqb k 0 && not h) && b) (ap (asks_cycle_of f) (sym (append-nil bs)) ∙ o []) ∙ and-false (eqb k 0 && not h)

-- well placed by the history is placed by the chip, and asked for
placed_is : (f : Facts) (l : Line) (r : Recv) (h : Bool) (bs : List Byte) (k n : ℕ) → Hears f l r h bs k n
    → ((eqb k 0 && not h) && asks_cycle_of f bs) ≡ (placed_of l && is_for (asks_of r))
unfolding placed_of
placed_is f l r h bs k n o =
    ap (λ (b : Bool). (b && not h) && asks_cycle_of f bs) (eight l.left k o.bits)
    ∙ ap (λ (b : Bool). (eqb l.left 8 && not b) && asks_cycle_of f bs) o.mark
    ∙ ap (λ (b : Bool). (eqb l.left 8 && not l.core.inhibited) && b) (ap (asks_cycle_of f) (sym (append-nil bs)) ∙ o.asks [] ∙ asks_now f r)

stopped_side : (f : Facts) (l : Line) (ph : Phase) (s : Seen) → l.phase ≡ ph → Side f l ph s
    → Side f (stopped_of l ph) (stopped_of l ph).phase (stop_seen f s) × (stop_begun_of l ph ≡ flag_of (well_placed_of f s))
unfolding stopped_of stop_begun_of stop_seen well_placed_of
stopped_side f l Idle quiet e o = (tt, refl)
stopped_side f l Idle cycling e o = absurd o
stopped_side f l Idle (since h bs k n) e o =
    subst (λ (u : Bool). Stops f (at l.core Idle) 0 u) (sym (unasked f h bs k o)) (tt, refl)
stopped_side f l (Receive r) quiet e o = absurd o
stopped_side f l (Receive r) cycling e o = absurd o
stopped_side f l (Receive r) (since h bs k n) e o =
    subst (λ (u : Bool). Stops f (stopped_by_lem l.core (due_of (placed_of l) (asks_of r))) (begun_by (due_of (placed_of l) (asks_of r))) u)
    (sym (placed_is f l r h bs k n o)) (by_stops f l.core (placed_of l) (asks_of r))
stopped_side f l (Send t) quiet e o = absurd o
stopped_side f l (Send t) cycling e o = absurd o
stopped_side f l (Send t) (since h bs k n) e o =
    subst (λ (u : Bool). Stops f (at l.core Idle) 0 u) (sym (unasked f h bs k o)) (tt, refl)
stopped_side f l (Busy y) quiet e o = absurd o
stopped_side f l (Busy y) cycling e o = (subst (λ (p : Phase). Side f l p cycling) (sym e) tt, refl)
stopped_side f l (Busy y) (since h bs k n) e o = absurd o

-- ---- the cycle's end, and the pin

ended_side : (f : Facts) (l : Line) (ph : Phase) (s : Seen) → l.phase ≡ ph → Side f l ph s
    → Side f (ended_of f l ph) (ended_of f l ph).phase (end_seen s)
unfolding ended_of ended_by_of end_seen
ended_side f l Idle quiet e o = subst (λ (p : Phase). Side f l p quiet) (sym e) tt
ended_side f l Idle cycling e o = absurd o
ended_side f l Idle (since h bs k n) e o = subst (λ (p : Phase). Side f l p (since h bs k n)) (sym e) o
ended_side f l (Receive r) quiet e o = absurd o
ended_side f l (Receive r) cycling e o = absurd o
ended_side f l (Receive r) (since h bs k n) e o = subst (λ (p : Phase). Side f l p (since h bs k n)) (sym e) o
ended_side f l (Send t) quiet e o = absurd o
ended_side f l (Send t) cycling e o = absurd o
ended_side f l (Send t) (since h bs k n) e o = subst (λ (p : Phase). Side f l p (since h bs k n)) (sym e) o
ended_side f l (Busy y) quiet e o = absurd o
ended_side f l (Busy (Writing Array)) cycling e o = tt
ended_side f l (Busy (Writing Ident)) cycling e o = tt
ended_side f l (Busy Locking) cycling e o = tt
ended_side f l (Busy y) (since h bs k n) e o = absurd o

pinned_side : (f : Facts) (l : Line) (v : Pin) (ph : Phase) (s : Seen) → l.phase ≡ ph → Side f l ph s
    → Side f (pinned_of l v ph) (pinned_of l v ph).phase (pin_seen (is_high v) s)
unfolding pinned_of pin_seen
pinned_side f l v Idle quiet e o = subst (λ (p : Phase). Side f (marked l v l.core.inhibited) p quiet) (sym e) tt
pinned_side f l v Idle cycling e o = absurd o
pinned_side f l v Idle (since h bs k n) e o = subst (λ (p : Phase). Side f (marked l v l.core.inhibited) p (since (h || is_high v) bs k n)) (sym e) o
pinned_side f l v (Receive r) quiet e o = absurd o
pinned_side f l v (Receive r) cycling e o = absurd o
pinned_side f l v (Receive r) (since h bs k n) e o =
    subst (λ (p : Phase). Side f (marked_in l v) p (since (h || is_high v) bs k n)) (sym e)
    record { mark = ap (λ (b : Bool). b || is_high v) o.mark; bits = o.bits; value = o.value; small = o.small; asks = o.asks }
pinned_side f l v (Send t) quiet e o = absurd o
pinned_side f l v (Send t) cycling e o = absurd o
pinned_side f l v (Send t) (since h bs k n) e o = subst (λ (p : Phase). Side f (marked_in l v) p (since (h || is_high v) bs k n)) (sym e) o
pinned_side f l v (Busy y) quiet e o = absurd o
pinned_side f l v (Busy y) cycling e o = subst (λ (p : Phase). Side f (marked l v l.core.inhibited) p cycling) (sym e) tt
pinned_side f l v (Busy y) (since h bs k n) e o = absurd o

-- ---- an event

pub record Beside (f : Facts) (l : Line) (w : Watch) : Type 0 where
  pub pin : w.pin ≡ is_high l.core.pin
  pub side : Side f l l.phase w.seen

abbrev pub Together : Facts → ℕ → Line → ℕ → Watch → Event → Type 0
Together f en l b w e =
    Beside f (next_of f en l e) (watch_of f w e (level_of f en l b e)) × (begun_of l e ≡ stop_of f w.seen e)

pub together : (f : Facts) (en : ℕ) (l : Line) (b : ℕ) (w : Watch) (e : Event) → Beside f l w → Together f en l b w e
unfolding next_of level_of begun_of watch_of stop_of reset_of
together f en l b w (Clock v) o =
    (record { pin = o.pin ∙ ap is_high (sym (next_still f en l (Clock v)).1); side = clocked_side f en l v b l.phase w.seen refl o.side }, refl)
together f en l b w Start o =
    (record { pin = o.pin ∙ ap is_high (sym (next_still f en l Start).1); side = started_side f l w.pin l.phase w.seen o.pin refl o.side }, refl)
together f en l b w Stop o =
    let s = stopped_side f l l.phase w.seen refl o.side in
    (record { pin = o.pin ∙ ap is_high (sym (next_still f en l Stop).1); side = s.0 }, s.1)
together f en l b w Ends o =
    (record { pin = o.pin ∙ ap is_high (sym (next_still f en l Ends).1); side = ended_side f l l.phase w.seen refl o.side }, refl)
together f en l b w PinLow o =
    (record { pin = ap is_high (sym (next_still f en l PinLow).1); side = pinned_side f l Low l.phase w.seen refl o.side }, refl)
together f en l b w PinHigh o =
    (record { pin = ap is_high (sym (next_still f en l PinHigh).1); side = pinned_side f l High l.phase w.seen refl o.side }, refl)
together f en l b w PinFloat o =
    (record { pin = ap is_high (sym (next_still f en l PinFloat).1); side = pinned_side f l Floating l.phase w.seen refl o.side }, refl)
together f en l b w (Reset v) o = (record { pin = o.pin; side = tt }, refl)
together f en l b w Unknown o = (o, refl)

-- ---- the promise: chip and history go side by side, and the cycles so far are the Stops so far

-- what a history has come to
abbrev pub watches_of : Facts → Watch → List ℕ → List ℕ → Watch
watches_of f w [] levels = w
watches_of f w (e ∷ es) [] = w
watches_of f w (e ∷ es) (x ∷ xs) = watches_of f (watch_of f w (event_of e) x) es xs

-- one event more
watches_more : (f : Facts) (w : Watch) (es xs : List ℕ) (e x : ℕ) → length es ≡ length xs
    → watches_of f w (es ++ (e ∷ [])) (xs ++ (x ∷ [])) ≡ watch_of f (watches_of f w es xs) (event_of e) x
watches_more f w [] [] e x h = refl
watches_more f w [] (y ∷ xs) e x h = absurd (omega arith)
watches_more f w (d ∷ es) [] e x h = absurd (omega arith)
watches_more f w (d ∷ es) (y ∷ xs) e x h = watches_more f (watch_of f w (event_of d) y) es xs e x (omega arith)

stops_more : (f : Facts) (w : Watch) (es xs : List ℕ) (e x : ℕ) → length es ≡ length xs
    → stops_of f w (es ++ (e ∷ [])) (xs ++ (x ∷ [])) ≡ stops_of f w es xs + stop_of f (watches_of f w es xs).seen (event_of e)
unfolding stops_of
stops_more f w [] [] e x h = omega arith
stops_more f w [] (y ∷ xs) e x h = absurd (omega arith)
stops_more f w (d ∷ es) [] e x h = absurd (omega arith)
stops_more f w (d ∷ es) (y ∷ xs) e x h = omega (arith, stops_more f (watch_of f w (event_of d) y) es xs e x (omega arith))

-- levels behind the last event say nothing
stops_past : (f : Facts) (w : Watch) (es xs ys : List ℕ) → length es ≡ length xs → stops_of f w es (xs ++ ys) ≡ stops_of f w es xs
unfolding stops_of
stops_past f w [] xs ys h = refl
stops_past f w (e ∷ es) [] ys h = absurd (omega arith)
stops_past f w (e ∷ es) (x ∷ xs) ys h = rw (stops_past f (watch_of f w (event_of e) x) es xs ys (omega arith))

record Told (f : Facts) (w : Watch) (c : Chip) (n : ℕ) (hs xs : List ℕ) : Type 0 where
  size : length hs ≡ length xs
  beside : Beside f c.line (watches_of f w hs xs)
  sum : n ≡ stops_of f w hs xs

abbrev Telling : Facts → Watch → Invariant
Telling f w c m n hs xs = Told f w c n hs xs

-- who watches does not see what a reset finds
pub watch_any : (f : Facts) (v : Watch) (w : Loss) (e x : ℕ) → watch_of f v (event_with w e) x ≡ watch_of f v (event_of e) x
unfolding watch_of
watch_any f v w e x = any_loss (λ (z : Event). watch_of f v z x ≡ watch_of f v (event_of e) x) (λ u u' h. h) Old w e refl

pub stop_any : (f : Facts) (s : Seen) (w : Loss) (e : ℕ) → stop_of f s (event_with w e) ≡ stop_of f s (event_of e)
unfolding stop_of
stop_any f s w e = any_loss (λ (z : Event). stop_of f s z ≡ stop_of f s (event_of e)) (λ u u' h. h) Old w e refl

told_step : (w : PowerCut) (f : Facts) (en : ℕ) (w₀ : Watch) → Keeps (ours_with w f en) Any (Telling f w₀)
unfolding state_of chip_level_of
told_step w f en w₀ c m n hs xs e _ i =
    let v : Watch = watches_of f w₀ hs xs in
    let d : Event = event_with w.loss e in
    let x : ℕ = chip_level_of f en c m d in
    let t = together f en c.line (seen_of f c.line m c.line.phase) v d i.beside in
    record { size = omega (arith, length-append hs (e ∷ []), length-append xs (x ∷ []), i.size); beside = subst (λ (u : Watch). Beside f (next_of f en c.line d) u) (watch_any f v w.loss e x ∙ sym (watches_more f w₀ hs xs e x i.size)) t.0; sum = omega (arith, stops_more f w₀ hs xs e x i.size, t.1, stop_any f v.seen w.loss e, i.sum) }

pub beside_at : (f : Facts) (c : Chip) → NoTransfer c.line.phase → Beside f c.line (watch_at c)
beside_at f c h = record { pin = refl; side = go c.line.phase h }
  where
    go : (ph : Phase) → NoTransfer ph → Side f c.line ph (seen_at ph)
    go Idle o = tt
    go (Receive r) o = absurd o
    go (Send t) o = absurd o
    go (Busy y) o = tt

told_first : (f : Facts) (c : Chip) → NoTransfer c.line.phase → Told f (watch_at c) c 0 [] []
unfolding stops_of
told_first f c h = record { size = refl; beside = beside_at f c h; sum = refl }

pub cycles_are_stops : (w : PowerCut) → CyclesAreStops (ours_with w)
cycles_are_stops w f en c m es h =
    let r : Told f (watch_at c) (after_of (ours_with w f en) c es) (0 + cycles_of (ours_with w f en) c es) ([] ++ es) ([] ++ levels_of (ours_with w f en) c m es) =
    keeps (ours_with w f en) Any (Telling f (watch_at c)) (told_step w f en (watch_at c)) es c m 0 [] [] (every es) (told_first f c h) in
    omega (arith, r.sum)

pub calls_cycles_are_stops : CallsCyclesAreStops step_of run_of
calls_cycles_are_stops part en c m xs h =
    let e : Ending = calls_by step_of run_of part en (before_calls c m) xs in
    let r : Told (facts_of part) (watch_at c) e.chip e.cycles e.events e.levels =
    calls_keep part en Any (Telling (facts_of part) (watch_at c)) (λ w. told_step w (facts_of part) en (watch_at c)) xs (before_calls c m) (every_call xs) (told_first (facts_of part) c h) in
    r.sum

-- ---- from delivery

pub fresh_is : (f : Facts) → watch_at (standby_of f false) ≡ fresh_watch
unfolding standby_of pin_at_first_of
fresh_is f = branch (λ (p : Pin). watch (is_high p) quiet ≡ fresh_watch) f.pin (λ _. refl) (λ _. refl)

pub standby_still : (f : Facts) → NoTransfer (standby_of f false).line.phase
unfolding standby_of
standby_still f = tt

pub cycles_are_stops_from_delivery : (w : PowerCut) → CyclesAreStopsFromDelivery (ours_with w)
cycles_are_stops_from_delivery w part en es =
    let f : Facts = facts_of part in
    let c : Chip = standby_of f false in
    cycles_are_stops w f en c (delivered_of part) es (standby_still f)
    ∙ ap (λ (v : Watch). stops_of f v es (levels_of (ours_with w f en) c (delivered_of part) es)) (fresh_is f)

pub calls_cycles_are_stops_from_delivery : CallsCyclesAreStopsFromDelivery deliver_of step_of run_of
calls_cycles_are_stops_from_delivery part en m xs e =
    let f : Facts = facts_of part in
    let c : Chip = standby_of f false in
    let x : Ending = calls_by step_of run_of part en (before_calls c (deliver_of part m).mem) xs in
    calls_cycles_are_stops part en c (deliver_of part m).mem xs (standby_still f)
    ∙ ap (λ (w : Watch). stops_of f w x.events x.levels) (fresh_is f)

-- ---- one call of `run`

left_stops : (w : PowerCut) (f : Facts) (en : ℕ) (c : Chip) (m : Mem) (es a : List ℕ) (v : Verdict) → NoTransfer c.line.phase
    → (run_left_of (ours_with w f en) c m es a v).answer.verdict ≡ Ok tt
    → (run_left_of (ours_with w f en) c m es a v).answer.cycles ≡ stops_of f (watch_at c) es (run_left_of (ours_with w f en) c m es a v).answers
left_stops w f en c m es a (Ok _) h e =
    cycles_are_stops w f en c m es h
    ∙ sym (stops_past f (watch_at c) es (levels_of (ours_with w f en) c m es) (drop (length es) a) (sym (levels_length (ours_with w f en) c m es)))
left_stops w f en c m es a (Err r) h e = cc

pub run_cycles_are_stops : RunCyclesAreStops run_of
run_cycles_are_stops part en w c m es a h e = left_stops w (facts_of part) en c m es a (run_verdict part en w c m es a) h e
