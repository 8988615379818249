-- Promise 2 is kept. In a locked chip no byte of the identification page is latched, so a cycle on that page, if one runs at all, has
-- nothing to enter.
-- Assumes nothing.
use Rattle.std.specs.Prelude.{Option, None, Some}
use mathlib.Core.Path.{◌≡◌, refl, sym, ap, ◌∙◌, subst}
use Prim.Native.Nat.{ℕ, zero, suc, ◌+◌, ◌*◌, ◌/◌, ◌%◌}
use mathlib.Core.Bool.{Bool, true, false, not, cond, ◌||◌}
use mathlib.Core.List.{List, [], ◌∷◌}
use lib.ListN.{get_or, take, set}
use lib.Dec.{ltb}
use Rattle.parts.specs.declared.Facts.{Facts}
use Rattle.parts.specs.declared.Event.{Event}
use Rattle.parts.specs.declared.Event.TheVariants.{Clock, Start, Stop, Ends, PinLow, PinHigh, PinFloat, Reset, Unknown}
use Rattle.parts.specs.Table.{facts_of}
use Rattle.parts.specs.declared.Loss.{Loss}
use Rattle.parts.specs.declared.Loss.TheVariants.{Old, Lent}
use Rattle.parts.specs.Events.{event_with}
use Rattle.parts.proofs.Laws.{branch}
use Rattle.parts.proofs.Tests.{both}
use Rattle.line.specs.declared.Pin.{Pin}
use Rattle.line.specs.declared.Pin.TheVariants.{Low, High, Floating}
use Rattle.line.specs.declared.Target.{Target}
use Rattle.line.specs.declared.Target.TheVariants.{Array, Ident}
use Rattle.line.specs.declared.Recv.{Recv}
use Rattle.line.specs.declared.Recv.TheVariants.{Select, AddressHigh, AddressLow, Fill, LockByte, LockTaken}
use Rattle.line.specs.declared.Cycle.TheVariants.{Writing, Locking}
use Rattle.line.specs.declared.Phase.{Phase}
use Rattle.line.specs.declared.Phase.TheVariants.{Idle, Receive, Send, Busy}
use Rattle.line.specs.declared.Core.{Core}
use Rattle.line.specs.declared.Line.{Line}
use Rattle.line.specs.declared.After.{After}
use Rattle.line.specs.Rules.{bit_on, decode_of, address_start_of, selected_of, load_array_of, load_id_of, loaded_of, refuses_of, latched_of, filled_of, locked_by_of, taken_of, received_of, receive_act_of, sent_of, clocked_of, clock_act_of, started_of, start_act_of, stopped_by_lem, stop_act_by, due_of, placed_of, asks_of, stopped_of, stop_act_of, ended_by_of, ended_of, end_act_of, pinned_of, reset_of, next_of, act_of}
use Rattle.state.specs.declared.Chip.{Chip}
use Rattle.state.specs.Range.{empty_of, mark_right_of, location_right_of, last_right_of, acked_right_of, open_right_of, fill_right_of, unlocked_right_of, recv_right_of, writing_right_of, cycle_right_of, phase_right_of, in_range_of}
use Rattle.state.proofs.Laws.{accepted_phase}
use Rattle.chip.specs.Memory.{Mem, latch_of, one_of, entered_of, counter_page_of, committed_of, cycle_stored_of, stored_of, latched_in, touched_of, risen_of, risen_from, lost_of, store_with, state_of}
use Rattle.chip.specs.Model.{PowerCut, ours_with}
use Rattle.chip.specs.Runs.{after_of, memory_of}
use Rattle.chip.specs.Calls.{step_of, run_of}
use Rattle.chip_promises.specs.Calls.{many, Ending, before_calls, after_run, call_by, calls_by}
use Rattle.chip_promises.specs.Lock.{Locked, LockHolds, CallsLockHolds}
use Rattle.chip_promises.specs.Forms.{RunLockHolds}
use Rattle.chip_promises.proofs.Runs.{Invariant, Keeps, keeps, calls_keep, Any, every, every_call}
use Rattle.chip_laws.proofs.Range.{no_way}
use Rattle.chip_promises.proofs.Steps.{next_still, lock_after}
use Rattle.chip_promises.proofs.Refused.{calls_out}

-- ---- no latch to enter

or-true : (a b : Bool) → b ≡ true → (a || b) ≡ true
or-true true b e = refl
or-true false b e = e

entered_empty : (s : List ℕ) (i : ℕ) (xs : List ℕ) → empty_of xs ≡ true → entered_of s i xs ≡ s
unfolding one_of
entered_empty s i [] e = refl
entered_empty s i (x ∷ xs) e = go (ltb x 256) e (λ (t : List ℕ) q. entered_empty t (suc i) xs q)
  where
    go : (b : Bool) → cond b false (empty_of xs) ≡ true → ((t : List ℕ) → empty_of xs ≡ true → entered_of t (suc i) xs ≡ t)
        → entered_of (cond b (set s i x) s) (suc i) xs ≡ s
    go true e ih = cc
    go false e ih = ih s e

empty_take : (n : ℕ) (k : List ℕ) → empty_of k ≡ true → empty_of (take n k) ≡ true
empty_take zero k e = refl
empty_take (suc n) [] e = refl
empty_take (suc n) (x ∷ k) e = go (ltb x 256) e (λ q. empty_take n k q)
  where
    go : (b : Bool) → cond b false (empty_of k) ≡ true → (empty_of k ≡ true → empty_of (take n k) ≡ true) → cond b false (empty_of (take n k)) ≡ true
    go true e ih = e
    go false e ih = ih e

-- ---- what a locked chip keeps

-- where a Stop or an `E` would act on the identification page, there is no latch; and no lock is under way, which a cut could undo
abbrev Sealed : List ℕ → Phase → Type 0
Sealed k Idle = Unit {0}
Sealed k (Receive Select) = Unit {0}
Sealed k (Receive (AddressHigh t)) = Unit {0}
Sealed k (Receive (AddressLow t high)) = Unit {0}
Sealed k (Receive (Fill Array w)) = Unit {0}
Sealed k (Receive (Fill Ident true)) = empty_of k ≡ true
Sealed k (Receive (Fill Ident false)) = Unit {0}
Sealed k (Receive LockByte) = Unit {0}
Sealed k (Receive (LockTaken w)) = ⊥
Sealed k (Send t) = Unit {0}
Sealed k (Busy (Writing Array)) = Unit {0}
Sealed k (Busy (Writing Ident)) = empty_of k ≡ true
Sealed k (Busy Locking) = ⊥

stored_ident : (f : Facts) (l : Line) (k : List ℕ) (m : Mem) (ph : Phase) → Sealed k ph → (stored_of f l k m ph).ident ≡ m.ident
unfolding stored_of cycle_stored_of committed_of
stored_ident f l k m Idle o = refl
stored_ident f l k m (Receive r) o = refl
stored_ident f l k m (Send t) o = refl
stored_ident f l k m (Busy (Writing Array)) o = refl
stored_ident f l k m (Busy (Writing Ident)) o = entered_empty m.ident (counter_page_of f l.core.counter) (take f.page k) (empty_take f.page k o)
stored_ident f l k m (Busy Locking) o = refl

-- without a latch nothing comes up
empty_both : (x : ℕ) (k : List ℕ) → empty_of (x ∷ k) ≡ true → (ltb x 256 ≡ false) × (empty_of k ≡ true)
empty_both x k e = go (ltb x 256) refl e
  where
    go : (b : Bool) → ltb x 256 ≡ b → cond b false (empty_of k) ≡ true → (ltb x 256 ≡ false) × (empty_of k ≡ true)
    go true q e = no_way e
    go false q e = (q, e)

none_there : (k : List ℕ) (i : ℕ) → empty_of k ≡ true → ltb (get_or k i 256) 256 ≡ false
none_there [] i e = refl
none_there (x ∷ k) zero e = (empty_both x k e).0
none_there (x ∷ k) (suc i) e = none_there k i (empty_both x k e).1

none_latched : (k : List ℕ) (i n : ℕ) → empty_of k ≡ true → latched_in k i n ≡ false
none_latched k i zero e = refl
none_latched k i (suc n) e = rw (none_there k i e) (none_latched k (suc i) n e)

none_risen : (g : ℕ) (k page : List ℕ) (i n : ℕ) → empty_of k ≡ true → empty_of (risen_from g k page i n) ≡ true
unfolding risen_of touched_of
none_risen g k page i zero e = refl
none_risen g k page i (suc n) e = rw (none_latched k (i / g * g) g e) (none_risen g k page (suc i) n e)

-- where nothing is latched the list that comes up has nothing either
risen_sealed : (g : ℕ) (k page : List ℕ) (n : ℕ) (ph : Phase) → Sealed k ph → Sealed (risen_from g k page 0 n) ph
risen_sealed g k page n Idle o = tt
risen_sealed g k page n (Receive Select) o = tt
risen_sealed g k page n (Receive (AddressHigh t)) o = tt
risen_sealed g k page n (Receive (AddressLow t high)) o = tt
risen_sealed g k page n (Receive (Fill Array w)) o = tt
risen_sealed g k page n (Receive (Fill Ident true)) o = none_risen g k page 0 n o
risen_sealed g k page n (Receive (Fill Ident false)) o = tt
risen_sealed g k page n (Receive LockByte) o = tt
risen_sealed g k page n (Receive (LockTaken w)) o = o
risen_sealed g k page n (Send t) o = tt
risen_sealed g k page n (Busy (Writing Array)) o = tt
risen_sealed g k page n (Busy (Writing Ident)) o = none_risen g k page 0 n o
risen_sealed g k page n (Busy Locking) o = o

lost_ident : (f : Facts) (c : Chip) (page : List ℕ) (m : Mem) (w : Loss) → Sealed c.latch c.line.phase → (lost_of f c page m w).ident ≡ m.ident
unfolding lost_of
lost_ident f c page m Old o = refl
lost_ident f c page m (Lent lock) o =
    stored_ident f c.line (risen_from f.group c.latch page 0 f.page) m c.line.phase (risen_sealed f.group c.latch page f.page c.line.phase o)

store_ident : (page : List ℕ) (f : Facts) (c : Chip) (m : Mem) (e : Event) → Sealed c.latch c.line.phase → (store_with page f c m e).ident ≡ m.ident
unfolding store_with
store_ident page f c m (Clock v) o = refl
store_ident page f c m Start o = refl
store_ident page f c m Stop o = refl
store_ident page f c m Ends o = stored_ident f c.line c.latch m c.line.phase o
store_ident page f c m PinLow o = refl
store_ident page f c m PinHigh o = refl
store_ident page f c m PinFloat o = refl
store_ident page f c m (Reset w) o = lost_ident f c page m w o
store_ident page f c m Unknown o = refl

-- ---- an event keeps it

abbrev Lands : List ℕ → After → Type 0
Lands k a = Sealed (latch_of k a.act) a.phase

selected_sealed : (f : Facts) (k : List ℕ) (c : Core) (b : ℕ) (h : Option (Target × Bool)) → Lands k (selected_of f c b h)
unfolding selected_of address_start_of
selected_sealed f k c b None = tt
selected_sealed f k c b (Some (t, true)) = tt
selected_sealed f k c b (Some (Array, false)) = branch (λ (r : Recv). Sealed k (Receive r)) f.wide (λ _. tt) (λ _. tt)
selected_sealed f k c b (Some (Ident, false)) = branch (λ (r : Recv). Sealed k (Receive r)) f.wide (λ _. tt) (λ _. tt)

loaded_sealed : (f : Facts) (k : List ℕ) (c : Core) (t : Target) (a : ℕ) → Lands k (loaded_of f c t a)
unfolding loaded_of load_array_of load_id_of
loaded_sealed f k c Array a = tt
loaded_sealed f k c Ident a =
    branch (λ (r : Recv). Sealed (latch_of k (loaded_of f c Ident a).act) (Receive r)) (bit_on a f.lock) (λ _. tt) (λ _. tt)

-- a locked page refuses the byte (rule 4)
filled_sealed : (f : Facts) (k : List ℕ) (c : Core) (t : Target) (b : ℕ) → c.locked ≡ true → Lands k (filled_of f c t b)
unfolding filled_of latched_of refuses_of
filled_sealed f k c Array b l = branch (Lands k) (refuses_of c Array) (λ _. tt) (λ _. tt)
filled_sealed f k c Ident b l =
    branch (Lands k) (refuses_of c Ident) (λ _. tt)
    (λ q. let z : empty_of (set k (c.counter % f.page) b) ≡ true = let y = or-true c.inhibited c.locked l in cc in z)

taken_sealed : (f : Facts) (en : ℕ) (k : List ℕ) (c : Core) (r : Recv) (b : ℕ) → c.locked ≡ true → Lands k (taken_of f en c r b)
unfolding taken_of locked_by_of refuses_of
taken_sealed f en k c Select b l = selected_sealed f k c b (decode_of f en b)
taken_sealed f en k c (AddressHigh t) b l = tt
taken_sealed f en k c (AddressLow t high) b l = loaded_sealed f k c t (high * 256 + b)
taken_sealed f en k c (Fill t w) b l = filled_sealed f k c t b l
taken_sealed f en k c LockByte b l =
    branch (Lands k) (refuses_of c Ident) (λ _. tt) (λ q. no_way (sym q ∙ or-true c.inhibited c.locked l))
taken_sealed f en k c (LockTaken w) b l = tt

received_sealed : (f : Facts) (en : ℕ) (k : List ℕ) (l : Line) (v : Bool) (r : Recv) (n : ℕ) → l.core.locked ≡ true → Sealed k (Receive r)
    → Sealed (latch_of k (receive_act_of f en l r n)) (received_of f en l v r n).phase
unfolding received_of receive_act_of
received_sealed f en k l v r zero e o = taken_sealed f en k l.core r l.shift e
received_sealed f en k l v r (suc n) e o = o

sent_sealed : (f : Facts) (k : List ℕ) (l : Line) (v : Bool) (t : Target) (n : ℕ) → Sealed k (sent_of f l v t n).phase
unfolding sent_of
sent_sealed f k l v t zero = branch (Sealed k) v (λ _. tt) (λ _. tt)
sent_sealed f k l v t (suc n) = tt

clocked_sealed : (f : Facts) (en : ℕ) (k : List ℕ) (l : Line) (v : Bool) (ph : Phase) → l.core.locked ≡ true → l.phase ≡ ph → Sealed k ph
    → Sealed (latch_of k (clock_act_of f en l ph)) (clocked_of f en l v ph).phase
unfolding clocked_of clock_act_of
clocked_sealed f en k l v Idle e q o = subst (Sealed k) (sym q) o
clocked_sealed f en k l v (Receive r) e q o = received_sealed f en k l v r l.left e o
clocked_sealed f en k l v (Send t) e q o = sent_sealed f k l v t l.left
clocked_sealed f en k l v (Busy y) e q o = subst (Sealed k) (sym q) o

started_sealed : (k : List ℕ) (l : Line) (ph : Phase) → l.phase ≡ ph → Sealed k ph → Sealed (latch_of k (start_act_of ph)) (started_of l ph).phase
unfolding started_of start_act_of
started_sealed k l Idle q o = tt
started_sealed k l (Receive r) q o = tt
started_sealed k l (Send t) q o = tt
started_sealed k l (Busy y) q o = subst (Sealed k) (sym q) o

by_sealed : (k : List ℕ) (c : Core) (p : Bool) (r : Recv) → Sealed k (Receive r)
    → Sealed (latch_of k (stop_act_by (due_of p (asks_of r)))) (stopped_by_lem c (due_of p (asks_of r))).phase
unfolding asks_of
by_sealed k c false r o = tt
by_sealed k c true Select o = tt
by_sealed k c true (AddressHigh t) o = tt
by_sealed k c true (AddressLow t high) o = tt
by_sealed k c true (Fill Array true) o = tt
by_sealed k c true (Fill Array false) o = tt
by_sealed k c true (Fill Ident true) o = o
by_sealed k c true (Fill Ident false) o = tt
by_sealed k c true LockByte o = tt
by_sealed k c true (LockTaken true) o = absurd o
by_sealed k c true (LockTaken false) o = absurd o

stopped_sealed : (k : List ℕ) (l : Line) (ph : Phase) → l.phase ≡ ph → Sealed k ph → Sealed (latch_of k (stop_act_of l ph)) (stopped_of l ph).phase
unfolding stopped_of stop_act_of
stopped_sealed k l Idle q o = tt
stopped_sealed k l (Receive r) q o = by_sealed k l.core (placed_of l) r o
stopped_sealed k l (Send t) q o = tt
stopped_sealed k l (Busy y) q o = subst (Sealed k) (sym q) o

ended_sealed : (f : Facts) (k : List ℕ) (l : Line) (ph : Phase) → l.phase ≡ ph → Sealed k ph → Sealed (latch_of k (end_act_of ph)) (ended_of f l ph).phase
unfolding ended_of ended_by_of end_act_of
ended_sealed f k l Idle q o = subst (Sealed k) (sym q) o
ended_sealed f k l (Receive r) q o = subst (Sealed k) (sym q) o
ended_sealed f k l (Send t) q o = subst (Sealed k) (sym q) o
ended_sealed f k l (Busy (Writing Array)) q o = tt
ended_sealed f k l (Busy (Writing Ident)) q o = tt
ended_sealed f k l (Busy Locking) q o = tt

pinned_phase : (l : Line) (v : Pin) (ph : Phase) → (pinned_of l v ph).phase ≡ l.phase
unfolding pinned_of
pinned_phase l v Idle = refl
pinned_phase l v (Receive r) = refl
pinned_phase l v (Send t) = refl
pinned_phase l v (Busy y) = refl

next_sealed : (f : Facts) (en : ℕ) (k : List ℕ) (l : Line) (e : Event) → l.core.locked ≡ true → Sealed k l.phase
    → Sealed (latch_of k (act_of f en l e)) (next_of f en l e).phase
unfolding next_of act_of reset_of
next_sealed f en k l (Clock v) h o = clocked_sealed f en k l v l.phase h refl o
next_sealed f en k l Start h o = started_sealed k l l.phase refl o
next_sealed f en k l Stop h o = stopped_sealed k l l.phase refl o
next_sealed f en k l Ends h o = ended_sealed f k l l.phase refl o
next_sealed f en k l PinLow h o = subst (Sealed k) (sym (pinned_phase l Low l.phase)) o
next_sealed f en k l PinHigh h o = subst (Sealed k) (sym (pinned_phase l High l.phase)) o
next_sealed f en k l PinFloat h o = subst (Sealed k) (sym (pinned_phase l Floating l.phase)) o
next_sealed f en k l (Reset w) h o = tt
next_sealed f en k l Unknown h o = o

lock_stays : (k : List ℕ) (ph : Phase) (e : Event) → Sealed k ph → lock_after ph e true ≡ true
lock_stays k ph (Clock v) o = refl
lock_stays k ph Start o = refl
lock_stays k ph Stop o = refl
lock_stays k Idle Ends o = refl
lock_stays k (Receive r) Ends o = refl
lock_stays k (Send t) Ends o = refl
lock_stays k (Busy (Writing t)) Ends o = refl
lock_stays k (Busy Locking) Ends o = refl
lock_stays k ph PinLow o = refl
lock_stays k ph PinHigh o = refl
lock_stays k ph PinFloat o = refl
lock_stays k Idle (Reset w) o = refl
lock_stays k (Receive r) (Reset w) o = refl
lock_stays k (Send t) (Reset w) o = refl
lock_stays k (Busy (Writing t)) (Reset w) o = refl
lock_stays k (Busy Locking) (Reset w) o = absurd o
lock_stays k ph Unknown o = refl

-- ---- an accepted chip has it

open_empty : (c : Core) (k : List ℕ) → c.locked ≡ true → open_right_of c k Ident ≡ true → empty_of k ≡ true
unfolding open_right_of
open_empty c k l e = ap (λ (b : Bool). cond b (empty_of k) true) (sym l) ∙ e

-- on a locked page no lock is under way
unlocked_not : (f : Facts) (c : Core) → c.locked ≡ true → unlocked_right_of f c ≡ true → ⊥
unfolding unlocked_right_of
unlocked_not f c l e = no_way (ap not (sym l) ∙ (both (location_right_of f c Ident) (not c.locked) e).1)

recv_sealed : (f : Facts) (c : Core) (k : List ℕ) (left : ℕ) (r : Recv) → c.locked ≡ true → recv_right_of f c k left r ≡ true → Sealed k (Receive r)
unfolding recv_right_of fill_right_of
recv_sealed f c k left Select l e = tt
recv_sealed f c k left (AddressHigh t) l e = tt
recv_sealed f c k left (AddressLow t high) l e = tt
recv_sealed f c k left (Fill Array w) l e = tt
recv_sealed f c k left (Fill Ident true) l e =
    open_empty c k l (both (acked_right_of f c k left true) (open_right_of c k Ident) (both (location_right_of f c Ident) (cond (acked_right_of f c k left true) (open_right_of c k Ident) false) e).1).1
recv_sealed f c k left (Fill Ident false) l e = tt
recv_sealed f c k left LockByte l e = tt
recv_sealed f c k left (LockTaken w) l e = unlocked_not f c l e

phase_sealed : (f : Facts) (c : Core) (k : List ℕ) (left : ℕ) (ph : Phase) → c.locked ≡ true → phase_right_of f c k left ph ≡ true → Sealed k ph
unfolding phase_right_of cycle_right_of writing_right_of
phase_sealed f c k left Idle l e = tt
phase_sealed f c k left (Receive r) l e = recv_sealed f c k left r l (both (mark_right_of c) (recv_right_of f c k left r) e).1
phase_sealed f c k left (Send t) l e = tt
phase_sealed f c k left (Busy (Writing Array)) l e = tt
phase_sealed f c k left (Busy (Writing Ident)) l e = absurd (unlocked_not f c l (both (unlocked_right_of f c) (last_right_of f c k) e).0)
phase_sealed f c k left (Busy Locking) l e = unlocked_not f c l e

accepted_sealed : (f : Facts) (c : Chip) → Locked c → in_range_of f c ≡ true → Sealed c.latch c.line.phase
accepted_sealed f c l e = phase_sealed f c.line.core c.latch c.line.left c.line.phase l (accepted_phase f c e)

-- ---- the promise

record Shut (ident : List ℕ) (c : Chip) (m : Mem) : Type 0 where
  lock : Locked c
  seal : Sealed c.latch c.line.phase
  same : m.ident ≡ ident

abbrev Shuts : List ℕ → Invariant
Shuts ident c m n hs xs = Shut ident c m

shut_step : (w : PowerCut) (f : Facts) (en : ℕ) (ident : List ℕ) → Keeps (ours_with w f en) Any (Shuts ident)
unfolding state_of
shut_step w f en ident c m n hs xs e _ i =
    let d : Event = event_with w.loss e in
    record { lock = (next_still f en c.line d).0 ∙ ap (lock_after c.line.phase d) i.lock ∙ lock_stays c.latch c.line.phase d i.seal; seal = next_sealed f en c.latch c.line d i.lock i.seal; same = store_ident w.page f c m d i.seal ∙ i.same }

pub lock_holds : (w : PowerCut) → LockHolds (ours_with w)
lock_holds w f en c m es a l =
    let r : Shut m.ident (after_of (ours_with w f en) c es) (memory_of (ours_with w f en) c m es) =
    keeps (ours_with w f en) Any (Shuts m.ident) (shut_step w f en m.ident) es c m 0 [] [] (every es) record { lock = l; seal = accepted_sealed f c l a; same = refl } in
    (r.lock, r.same)

pub calls_lock_holds : CallsLockHolds step_of run_of
calls_lock_holds part en c m xs l = go (in_range_of (facts_of part) c) refl
  where
    go : (b : Bool) → in_range_of (facts_of part) c ≡ b
        → Locked (calls_by step_of run_of part en (before_calls c m) xs).chip × ((calls_by step_of run_of part en (before_calls c m) xs).mem.ident ≡ m.ident)
    go true a =
        let r : Shut m.ident (calls_by step_of run_of part en (before_calls c m) xs).chip (calls_by step_of run_of part en (before_calls c m) xs).mem =
        calls_keep part en Any (Shuts m.ident) (λ w. shut_step w (facts_of part) en m.ident) xs (before_calls c m) (every_call xs) record { lock = l; seal = accepted_sealed (facts_of part) c l a; same = refl } in
        (r.lock, r.same)
    go false a =
        let r : calls_by step_of run_of part en (before_calls c m) xs ≡ before_calls c m = calls_out part en (before_calls c m) xs a in
        (ap (λ (x : Ending). x.chip.line.core.locked) r ∙ l, ap (λ (x : Ending). x.mem.ident) r)

pub run_lock_holds : RunLockHolds run_of
unfolding calls_by call_by after_run
run_lock_holds part en w c m es a l = calls_lock_holds part en c m (many w es a ∷ []) l
