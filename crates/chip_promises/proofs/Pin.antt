-- Promise 3 is kept. A transfer under a high pin is marked as inhibited, so its Stop is not placed: no cycle begins, and without a
-- cycle nothing is stored and nothing is locked.
-- Assumes nothing.
use Rattle.std.specs.Prelude.{Option}
use mathlib.Core.Path.{◌≡◌, refl, sym, ap, ◌∙◌, subst}
use Prim.Native.Nat.{ℕ, zero, suc, ◌+◌}
use native.Mathlib.Nat.{zero-add}
use native.Mathlib.Omega.{arith}
use mathlib.Core.Bool.{Bool, true, false, not, cond, ◌&&◌, ◌||◌}
use mathlib.Core.List.{List, [], ◌∷◌}
use lib.Dec.{eqb}
use Rattle.parts.specs.declared.Facts.{Facts}
use Rattle.parts.specs.declared.Event.{Event}
use Rattle.parts.specs.declared.Event.TheVariants.{Clock, Start, Stop, Ends, PinLow, PinHigh, PinFloat, Reset, Unknown}
use Rattle.parts.specs.Table.{facts_of}
use Rattle.parts.specs.declared.Loss.{Loss}
use Rattle.parts.specs.declared.Loss.TheVariants.{Old, Lent}
use Rattle.parts.specs.Events.{event_with}
use Rattle.parts.proofs.Laws.{branch}
use Rattle.parts.proofs.Tests.{both}
use Rattle.line.specs.declared.Pin.{Pin}
use Rattle.line.specs.declared.Pin.TheVariants.{High}
use Rattle.line.specs.declared.Target.{Target}
use Rattle.line.specs.declared.Recv.{Recv}
use Rattle.line.specs.declared.Phase.{Phase}
use Rattle.line.specs.declared.Phase.TheVariants.{Idle, Receive, Send, Busy}
use Rattle.line.specs.declared.Core.{Core}
use Rattle.line.specs.declared.Line.{Line}
use Rattle.line.specs.declared.After.{After}
use Rattle.line.specs.declared.Cycle.{Cycle}
use Rattle.line.specs.Rules.{is_high, landed, taken_of, received_of, sent_of, clocked_of, started_of, stopped_by_lem, begun_by, due_of, placed_of, asks_of, stopped_of, stop_begun_of, ended_of, pinned_of, lock_at_reset, reset_of, next_of, begun_of}
use Rattle.state.specs.declared.Chip.{Chip}
use Rattle.state.specs.Range.{mark_right_of, recv_right_of, phase_right_of, in_range_of}
use Rattle.state.proofs.Laws.{accepted_phase}
use Rattle.chip.specs.Memory.{Mem, stored_of, risen_from, lost_of, store_with, state_of}
use Rattle.chip_promises.specs.States.{NotBusy}
use Rattle.chip.specs.Model.{PowerCut, ours_with}
use Rattle.chip.specs.Runs.{after_of, memory_of, cycles_of}
use Rattle.chip.specs.Calls.{step_of, run_of}
use Rattle.chip_promises.specs.Calls.{many, Ending, before_calls, after_run, call_by, calls_by}
use Rattle.chip_promises.specs.Pin.{StaysHigh, KeepsHigh, PinProtects, CallsPinProtects}
use Rattle.chip_promises.specs.Forms.{RunPinProtects}
use Rattle.chip_promises.proofs.Runs.{Invariant, Keeps, keeps, calls_keep}
use Rattle.chip_promises.proofs.Steps.{taken_free, taken_kept, next_still, lock_after, pin_after, any_loss}
use Rattle.chip_promises.proofs.Refused.{calls_out}

-- no cycle runs, and a transfer is marked
abbrev Guarded : Bool → Phase → Type 0
Guarded i Idle = Unit {0}
Guarded i (Receive r) = i ≡ true
Guarded i (Send t) = Unit {0}
Guarded i (Busy y) = ⊥

abbrev Kind : Line → Type 0
Kind l = Guarded l.core.inhibited l.phase

-- ---- an event keeps it

-- no byte begins a cycle, and it leaves the mark alone
landed_guarded : (i : Bool) (a : After) → i ≡ true → a.core.inhibited ≡ i → NotBusy a.phase → Kind (landed a)
landed_guarded i a e q free = go a.phase free
  where
    go : (ph : Phase) → NotBusy ph → Guarded a.core.inhibited ph
    go Idle o = tt
    go (Receive r) o = q ∙ e
    go (Send t) o = tt
    go (Busy y) o = absurd o

received_guarded : (f : Facts) (en : ℕ) (l : Line) (v : Bool) (r : Recv) (n : ℕ) → l.core.inhibited ≡ true → Kind (received_of f en l v r n)
unfolding received_of
received_guarded f en l v r zero o =
    landed_guarded l.core.inhibited (taken_of f en l.core r l.shift) o (taken_kept f en l.core r l.shift).mark (taken_free f en l.core r l.shift)
received_guarded f en l v r (suc n) o = o

sent_guarded : (f : Facts) (l : Line) (v : Bool) (t : Target) (n : ℕ) → Kind (sent_of f l v t n)
unfolding sent_of
sent_guarded f l v t zero = branch (Guarded l.core.inhibited) v (λ _. tt) (λ _. tt)
sent_guarded f l v t (suc n) = tt

clocked_guarded : (f : Facts) (en : ℕ) (l : Line) (v : Bool) (ph : Phase) → Kind l → Guarded l.core.inhibited ph → Kind (clocked_of f en l v ph)
unfolding clocked_of
clocked_guarded f en l v Idle k o = k
clocked_guarded f en l v (Receive r) k o = received_guarded f en l v r l.left o
clocked_guarded f en l v (Send t) k o = sent_guarded f l v t l.left
clocked_guarded f en l v (Busy y) k o = k

started_guarded : (l : Line) (ph : Phase) → l.core.pin ≡ High → Kind l → Kind (started_of l ph)
unfolding started_of
started_guarded l Idle p k = ap is_high p
started_guarded l (Receive r) p k = ap is_high p
started_guarded l (Send t) p k = ap is_high p
started_guarded l (Busy y) p k = k

not_placed : (a i : Bool) → i ≡ true → (a && not i) ≡ false
not_placed true true e = refl
not_placed true false e = sym e
not_placed false i e = refl

-- a Stop that is not placed
unplaced : (c : Core) (p : Bool) (a : Option Cycle) → p ≡ false → Kind (stopped_by_lem c (due_of p a)) × (begun_by (due_of p a) ≡ 0)
unplaced c true a e = let z : ◌≡◌ {A = ℕ} 0 1 = cc in absurd (omega arith)
unplaced c false a e = (tt, refl)

stopped_guarded : (l : Line) (ph : Phase) → Kind l → Guarded l.core.inhibited ph → Kind (stopped_of l ph) × (stop_begun_of l ph ≡ 0)
unfolding stopped_of stop_begun_of placed_of
stopped_guarded l Idle k o = (tt, refl)
stopped_guarded l (Receive r) k o = unplaced l.core (eqb l.left 8 && not l.core.inhibited) (asks_of r) (not_placed (eqb l.left 8) l.core.inhibited o)
stopped_guarded l (Send t) k o = (tt, refl)
stopped_guarded l (Busy y) k o = (k, refl)

ended_guarded : (f : Facts) (l : Line) (x : List ℕ) (m : Mem) (ph : Phase) → Kind l → Guarded l.core.inhibited ph
    → Kind (ended_of f l ph) × (stored_of f l x m ph ≡ m) × (lock_after ph Ends l.core.locked ≡ l.core.locked)
unfolding ended_of stored_of
ended_guarded f l x m Idle k o = (k, refl, refl)
ended_guarded f l x m (Receive r) k o = (k, refl, refl)
ended_guarded f l x m (Send t) k o = (k, refl, refl)
ended_guarded f l x m (Busy y) k o = absurd o

or_on : (a : Bool) → (a || true) ≡ true
or_on true = refl
or_on false = refl

pinned_guarded : (l : Line) (ph : Phase) → l.phase ≡ ph → Guarded l.core.inhibited ph → Kind (pinned_of l High ph)
unfolding pinned_of
pinned_guarded l Idle e o = subst (Guarded l.core.inhibited) (sym e) tt
pinned_guarded l (Receive r) e o = subst (Guarded (l.core.inhibited || true)) (sym e) (or_on l.core.inhibited)
pinned_guarded l (Send t) e o = subst (Guarded (l.core.inhibited || true)) (sym e) tt
pinned_guarded l (Busy y) e o = absurd o

-- no cycle runs that a loss of power could cut
lost_guarded : (f : Facts) (c : Chip) (page : List ℕ) (m : Mem) (w : Loss) → Kind c.line → lost_of f c page m w ≡ m
unfolding lost_of
lost_guarded f c page m Old k = refl
lost_guarded f c page m (Lent lock) k = (ended_guarded f c.line (risen_from f.group c.latch page 0 f.page) m c.line.phase k k).1

lock_guarded : (w : Loss) (lock b : Bool) (ph : Phase) → Guarded b ph → lock_at_reset w lock ph ≡ lock
lock_guarded w lock b Idle o = refl
lock_guarded w lock b (Receive r) o = refl
lock_guarded w lock b (Send t) o = refl
lock_guarded w lock b (Busy y) o = absurd o

record Harmless (page : List ℕ) (f : Facts) (en : ℕ) (c : Chip) (m : Mem) (e : Event) : Type 0 where
  kind : Kind (next_of f en c.line e)
  same : store_with page f c m e ≡ m
  lock : lock_after c.line.phase e c.line.core.locked ≡ c.line.core.locked
  pin : pin_after e High ≡ High
  none : begun_of c.line e ≡ 0

harmless : (page : List ℕ) (f : Facts) (en : ℕ) (c : Chip) (m : Mem) (e : Event) → c.line.core.pin ≡ High → Kind c.line → StaysHigh e → Harmless page f en c m e
unfolding next_of store_with begun_of reset_of
harmless page f en c m (Clock v) p k q = record { kind = clocked_guarded f en c.line v c.line.phase k k; same = refl; lock = refl; pin = refl; none = refl }
harmless page f en c m Start p k q = record { kind = started_guarded c.line c.line.phase p k; same = refl; lock = refl; pin = refl; none = refl }
harmless page f en c m Stop p k q =
    let r = stopped_guarded c.line c.line.phase k k in
    record { kind = r.0; same = refl; lock = refl; pin = refl; none = r.1 }
harmless page f en c m Ends p k q =
    let r = ended_guarded f c.line c.latch m c.line.phase k k in
    record { kind = r.0; same = r.1; lock = r.2; pin = refl; none = refl }
harmless page f en c m PinLow p k q = absurd q
harmless page f en c m PinHigh p k q = record { kind = pinned_guarded c.line c.line.phase refl k; same = refl; lock = refl; pin = refl; none = refl }
harmless page f en c m PinFloat p k q = absurd q
harmless page f en c m (Reset w) p k q =
    record { kind = tt; same = lost_guarded f c page m w k; lock = lock_guarded w c.line.core.locked c.line.core.inhibited c.line.phase k; pin = refl; none = refl }
harmless page f en c m Unknown p k q = record { kind = k; same = refl; lock = refl; pin = refl; none = refl }

-- ---- an accepted chip has it

mark_on : (c : Core) → c.pin ≡ High → mark_right_of c ≡ true → c.inhibited ≡ true
unfolding mark_right_of
mark_on c p e = ap (λ (v : Pin). cond (is_high v) c.inhibited true) (sym p) ∙ e

phase_guarded : (f : Facts) (c : Core) (k : List ℕ) (left : ℕ) (ph : Phase) → c.pin ≡ High → NotBusy ph → phase_right_of f c k left ph ≡ true
    → Guarded c.inhibited ph
unfolding phase_right_of
phase_guarded f c k left Idle p free e = tt
phase_guarded f c k left (Receive r) p free e = mark_on c p (both (mark_right_of c) (recv_right_of f c k left r) e).0
phase_guarded f c k left (Send t) p free e = tt
phase_guarded f c k left (Busy y) p free e = free

accepted_guarded : (f : Facts) (c : Chip) → c.line.core.pin ≡ High → NotBusy c.line.phase → in_range_of f c ≡ true → Kind c.line
accepted_guarded f c p free e = phase_guarded f c.line.core c.latch c.line.left c.line.phase p free (accepted_phase f c e)

-- ---- the promise

record Held (lock₀ : Bool) (m₀ : Mem) (c : Chip) (m : Mem) (n : ℕ) : Type 0 where
  pin : c.line.core.pin ≡ High
  kind : Kind c.line
  same : m ≡ m₀
  lock : c.line.core.locked ≡ lock₀
  none : n ≡ 0

abbrev Holding : Bool → Mem → Invariant
Holding lock₀ m₀ c m n hs xs = Held lock₀ m₀ c m n

held_step : (w : PowerCut) (f : Facts) (en : ℕ) (lock₀ : Bool) (m₀ : Mem) → Keeps (ours_with w f en) KeepsHigh (Holding lock₀ m₀)
unfolding state_of
held_step w f en lock₀ m₀ c m n hs xs e q i =
    let d : Event = event_with w.loss e in
    let k = harmless w.page f en c m d i.pin i.kind (any_loss StaysHigh (λ v u h. h) Old w.loss e q) in
    let s = next_still f en c.line d in
    record { pin = s.1 ∙ ap (pin_after d) i.pin ∙ k.pin; kind = k.kind; same = k.same ∙ i.same; lock = s.0 ∙ k.lock ∙ i.lock; none = omega (arith, k.none, i.none) }

held_first : (f : Facts) (c : Chip) (m : Mem) → c.line.core.pin ≡ High → NotBusy c.line.phase → in_range_of f c ≡ true → Held c.line.core.locked m c m 0
held_first f c m p free a = record { pin = p; kind = accepted_guarded f c p free a; same = refl; lock = refl; none = refl }

pub pin_protects : (w : PowerCut) → PinProtects (ours_with w)
pin_protects w f en c m es a p free q =
    let r : Held c.line.core.locked m (after_of (ours_with w f en) c es) (memory_of (ours_with w f en) c m es) (0 + cycles_of (ours_with w f en) c es) =
    keeps (ours_with w f en) KeepsHigh (Holding c.line.core.locked m) (held_step w f en c.line.core.locked m) es c m 0 [] [] q (held_first f c m p free a) in
    (r.same, r.lock, omega (arith, r.none))

pub calls_pin_protects : CallsPinProtects step_of run_of
calls_pin_protects part en c m xs p free q = go (in_range_of (facts_of part) c) refl
  where
    go : (b : Bool) → in_range_of (facts_of part) c ≡ b
        → ((calls_by step_of run_of part en (before_calls c m) xs).mem ≡ m)
        × ((calls_by step_of run_of part en (before_calls c m) xs).chip.line.core.locked ≡ c.line.core.locked)
        × ((calls_by step_of run_of part en (before_calls c m) xs).cycles ≡ 0)
    go true a =
        let x : Ending = calls_by step_of run_of part en (before_calls c m) xs in
        let r : Held c.line.core.locked m x.chip x.mem x.cycles =
        calls_keep part en KeepsHigh (Holding c.line.core.locked m) (λ w. held_step w (facts_of part) en c.line.core.locked m) xs (before_calls c m) q (held_first (facts_of part) c m p free a) in
        (r.same, r.lock, r.none)
    go false a =
        let r : calls_by step_of run_of part en (before_calls c m) xs ≡ before_calls c m = calls_out part en (before_calls c m) xs a in
        (ap (λ (x : Ending). x.mem) r, ap (λ (x : Ending). x.chip.line.core.locked) r, ap (λ (x : Ending). x.cycles) r)

pub run_pin_protects : RunPinProtects run_of
unfolding calls_by call_by after_run
run_pin_protects part en w c m es a p free q =
    let r = calls_pin_protects part en c m (many w es a ∷ []) p free (q, tt) in
    (r.0, r.1, rw zero-add at r.2)
