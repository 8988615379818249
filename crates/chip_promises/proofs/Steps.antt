-- What an event leaves alone: facts of one step that several promises use.
-- Assumes nothing.
use Rattle.std.specs.Prelude.{Option, None, Some}
use mathlib.Core.Path.{◌≡◌, refl, sym, ap, ◌∙◌, subst}
use Prim.Native.Nat.{ℕ, zero, suc, ◌+◌, ◌*◌}
use mathlib.Core.Bool.{Bool, true, false}
use lib.Dec.{eqb}
use borrow.Author.Tests.{eqb-true}
use Rattle.parts.specs.declared.Facts.{Facts}
use Rattle.parts.specs.declared.Loss.{Loss}
use Rattle.parts.specs.declared.Event.{Event}
use Rattle.parts.specs.declared.Event.TheVariants.{Clock, Start, Stop, Ends, PinLow, PinHigh, PinFloat, Reset, Unknown}
use Rattle.parts.specs.Events.{event_with}
use Rattle.parts.proofs.Laws.{branch}
use Rattle.line.specs.declared.Target.{Target}
use Rattle.line.specs.declared.Target.TheVariants.{Array, Ident}
use Rattle.line.specs.declared.Recv.{Recv}
use Rattle.line.specs.declared.Recv.TheVariants.{Select, AddressHigh, AddressLow, Fill, LockByte, LockTaken}
use Rattle.line.specs.declared.Cycle.TheVariants.{Writing, Locking}
use Rattle.line.specs.declared.Phase.{Phase}
use Rattle.line.specs.declared.Phase.TheVariants.{Idle, Receive, Send, Busy}
use Rattle.line.specs.declared.Line.{Line}
use Rattle.line.specs.declared.Core.{Core}
use Rattle.line.specs.declared.After.{After}
use Rattle.line.specs.declared.Cycle.{Cycle}
use Rattle.line.specs.declared.Pin.{Pin}
use Rattle.line.specs.declared.Pin.TheVariants.{Low, High, Floating}
use Rattle.line.specs.Rules.{decode_of, selected_of, load_array_of, load_id_of, loaded_of, refuses_of, latched_of, filled_of, locked_by_of, taken_of, moved_of, received_of, sent_of, clocked_of, started_of, stopped_by_lem, due_of, placed_of, asks_of, stopped_of, ended_by_of, ended_of, pinned_of, lock_at_reset, reset_of, next_of}
use Rattle.chip_promises.specs.States.{NotBusy}

-- ---- no byte begins a cycle

selected_free : (f : Facts) (c : Core) (b : ℕ) (h : Option (Target × Bool)) → NotBusy (selected_of f c b h).phase
unfolding selected_of
selected_free f c b None = tt
selected_free f c b (Some (t, true)) = tt
selected_free f c b (Some (t, false)) = tt

loaded_free : (f : Facts) (c : Core) (t : Target) (a : ℕ) → NotBusy (loaded_of f c t a).phase
unfolding loaded_of load_array_of load_id_of
loaded_free f c Array a = tt
loaded_free f c Ident a = tt

pub taken_free : (f : Facts) (en : ℕ) (c : Core) (r : Recv) (b : ℕ) → NotBusy (taken_of f en c r b).phase
unfolding taken_of filled_of locked_by_of latched_of
taken_free f en c Select b = selected_free f c b (decode_of f en b)
taken_free f en c (AddressHigh t) b = tt
taken_free f en c (AddressLow t high) b = loaded_free f c t (high * 256 + b)
taken_free f en c (Fill t w) b = branch (λ (a : After). NotBusy a.phase) (refuses_of c t) (λ _. tt) (λ _. tt)
taken_free f en c LockByte b = branch (λ (a : After). NotBusy a.phase) (refuses_of c Ident) (λ _. tt) (λ _. tt)
taken_free f en c (LockTaken w) b = tt

-- ---- lock, pin and mark: what a byte leaves alone

pub record Kept (c d : Core) : Type 0 where
  pub locked : d.locked ≡ c.locked
  pub pin : d.pin ≡ c.pin
  pub mark : d.inhibited ≡ c.inhibited

abbrev same : {c d : Core} → d.locked ≡ c.locked → d.pin ≡ c.pin → d.inhibited ≡ c.inhibited → Kept c d
same a b e = record { locked = a; pin = b; mark = e }

selected_kept : (f : Facts) (c : Core) (b : ℕ) (h : Option (Target × Bool)) → Kept c (selected_of f c b h).core
unfolding selected_of
selected_kept f c b None = same refl refl refl
selected_kept f c b (Some (t, true)) = same refl refl refl
selected_kept f c b (Some (t, false)) = same refl refl refl

loaded_kept : (f : Facts) (c : Core) (t : Target) (a : ℕ) → Kept c (loaded_of f c t a).core
unfolding loaded_of load_array_of load_id_of
loaded_kept f c Array a = same refl refl refl
loaded_kept f c Ident a = same refl refl refl

pub taken_kept : (f : Facts) (en : ℕ) (c : Core) (r : Recv) (b : ℕ) → Kept c (taken_of f en c r b).core
unfolding taken_of filled_of locked_by_of latched_of
taken_kept f en c Select b = selected_kept f c b (decode_of f en b)
taken_kept f en c (AddressHigh t) b = same refl refl refl
taken_kept f en c (AddressLow t high) b = loaded_kept f c t (high * 256 + b)
taken_kept f en c (Fill t w) b = branch (λ (a : After). Kept c a.core) (refuses_of c t) (λ _. same refl refl refl) (λ _. same refl refl refl)
taken_kept f en c LockByte b = branch (λ (a : After). Kept c a.core) (refuses_of c Ident) (λ _. same refl refl refl) (λ _. same refl refl refl)
taken_kept f en c (LockTaken w) b = same refl refl refl

moved_kept : (f : Facts) (c : Core) (t : Target) (k : ℕ) → Kept c (moved_of f c t k)
unfolding moved_of
moved_kept f c Array zero = same refl refl refl
moved_kept f c Ident zero = same refl refl refl
moved_kept f c Array (suc k) = same refl refl refl
moved_kept f c Ident (suc k) = same refl refl refl

received_kept : (f : Facts) (en : ℕ) (l : Line) (v : Bool) (r : Recv) (n : ℕ) → Kept l.core (received_of f en l v r n).core
unfolding received_of
received_kept f en l v r zero = taken_kept f en l.core r l.shift
received_kept f en l v r (suc k) = same refl refl refl

sent_kept : (f : Facts) (l : Line) (v : Bool) (t : Target) (n : ℕ) → Kept l.core (sent_of f l v t n).core
unfolding sent_of
sent_kept f l v t zero = same refl refl refl
sent_kept f l v t (suc k) = moved_kept f l.core t k

pub clocked_kept : (f : Facts) (en : ℕ) (l : Line) (v : Bool) (ph : Phase) → Kept l.core (clocked_of f en l v ph).core
unfolding clocked_of
clocked_kept f en l v Idle = same refl refl refl
clocked_kept f en l v (Busy y) = same refl refl refl
clocked_kept f en l v (Receive r) = received_kept f en l v r l.left
clocked_kept f en l v (Send t) = sent_kept f l v t l.left

-- ---- lock and pin: what an event makes of them

abbrev Still : Core → Core → Type 0
Still c d = (d.locked ≡ c.locked) × (d.pin ≡ c.pin)

started_still : (l : Line) (ph : Phase) → Still l.core (started_of l ph).core
unfolding started_of
started_still l Idle = (refl, refl)
started_still l (Receive r) = (refl, refl)
started_still l (Send t) = (refl, refl)
started_still l (Busy y) = (refl, refl)

by_still : (c : Core) (a : Option Cycle) → Still c (stopped_by_lem c a).core
by_still c None = (refl, refl)
by_still c (Some y) = (refl, refl)

stopped_still : (l : Line) (ph : Phase) → Still l.core (stopped_of l ph).core
unfolding stopped_of
stopped_still l Idle = (refl, refl)
stopped_still l (Receive r) = by_still l.core (due_of (placed_of l) (asks_of r))
stopped_still l (Send t) = (refl, refl)
stopped_still l (Busy y) = (refl, refl)

-- set at the end of a locking cycle, left by a cut as it is given, and else as before
abbrev pub lock_after : Phase → Event → Bool → Bool
lock_after (Busy Locking) Ends l = true
lock_after (Busy (Writing t)) Ends l = l
lock_after Idle Ends l = l
lock_after (Receive r) Ends l = l
lock_after (Send t) Ends l = l
lock_after ph (Clock v) l = l
lock_after ph Start l = l
lock_after ph Stop l = l
lock_after ph PinLow l = l
lock_after ph PinHigh l = l
lock_after ph PinFloat l = l
lock_after ph (Reset w) l = lock_at_reset w l ph
lock_after ph Unknown l = l

abbrev pub pin_after : Event → Pin → Pin
pin_after (Clock v) p = p
pin_after Start p = p
pin_after Stop p = p
pin_after Ends p = p
pin_after PinLow p = Low
pin_after PinHigh p = High
pin_after PinFloat p = Floating
pin_after (Reset w) p = p
pin_after Unknown p = p

ended_still : (f : Facts) (l : Line) (ph : Phase)
    → ((ended_of f l ph).core.locked ≡ lock_after ph Ends l.core.locked) × ((ended_of f l ph).core.pin ≡ l.core.pin)
unfolding ended_of ended_by_of
ended_still f l Idle = (refl, refl)
ended_still f l (Receive r) = (refl, refl)
ended_still f l (Send t) = (refl, refl)
ended_still f l (Busy (Writing Array)) = (refl, refl)
ended_still f l (Busy (Writing Ident)) = (refl, refl)
ended_still f l (Busy Locking) = (refl, refl)

pinned_still : (l : Line) (v : Pin) (ph : Phase) → ((pinned_of l v ph).core.locked ≡ l.core.locked) × ((pinned_of l v ph).core.pin ≡ v)
unfolding pinned_of
pinned_still l v Idle = (refl, refl)
pinned_still l v (Receive r) = (refl, refl)
pinned_still l v (Send t) = (refl, refl)
pinned_still l v (Busy y) = (refl, refl)

pub next_still : (f : Facts) (en : ℕ) (l : Line) (e : Event)
    → ((next_of f en l e).core.locked ≡ lock_after l.phase e l.core.locked) × ((next_of f en l e).core.pin ≡ pin_after e l.core.pin)
unfolding next_of reset_of
next_still f en l (Clock v) = ((clocked_kept f en l v l.phase).locked, (clocked_kept f en l v l.phase).pin)
next_still f en l Start = started_still l l.phase
next_still f en l Stop = stopped_still l l.phase
next_still f en l Ends = ended_still f l l.phase
next_still f en l PinLow = pinned_still l Low l.phase
next_still f en l PinHigh = pinned_still l High l.phase
next_still f en l PinFloat = pinned_still l Floating l.phase
next_still f en l (Reset w) = (refl, refl)
next_still f en l Unknown = (refl, refl)

-- ---- what does not ask what a reset finds is the same whatever it finds

other_loss : (v u : Loss) (e : ℕ) → eqb e 8 ≡ false → event_with v e ≡ event_with u e
unfolding event_with
other_loss v u e t = rw t refl

pub reset_code : (v : Loss) → event_with v 8 ≡ Reset v
unfolding event_with
reset_code v = refl

pub any_loss : (Q : Event → Type 0) → ((v u : Loss) → Q (Reset v) → Q (Reset u)) → (v u : Loss) (e : ℕ) → Q (event_with v e) → Q (event_with u e)
any_loss Q h v u e q = go (eqb e 8) refl
  where
    go : (b : Bool) → eqb e 8 ≡ b → Q (event_with u e)
    go false t = subst Q (other_loss v u e t) q
    go true t =
        let e8 : e ≡ 8 = eqb-true e 8 t in
        let at : (w : Loss) → event_with w e ≡ Reset w = (λ (w : Loss). ap (event_with w) e8 ∙ reset_code w) in
        subst Q (sym (at u)) (h v u (subst Q (at v) q))
