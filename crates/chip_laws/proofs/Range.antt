-- No event leaves the range (document 01, refusal 4). The facts of `InRange` are kept once over any sound part; the test follows.
-- Assumes nothing.
use Rattle.std.specs.Prelude.{Option, None, Some}
use Prim.Native.Nat.{ℕ, zero, suc, ◌+◌, ◌-◌, ◌*◌, ◌/◌, ◌%◌, ◌<◌, ◌≤◌}
use native.Mathlib.Nat.{mod-lt, div-eq_of_lt, mod-add-mod, add-mod_right, mul-add-mod_self_right, add_assoc}
use native.Mathlib.Omega.{arith}
use mathlib.Core.Path.{◌≡◌, refl, sym, ap, subst, ◌∙◌}
use mathlib.Core.Bool.{Bool, true, false, not, cond, ◌&&◌, ◌||◌}
use mathlib.Core.List.{List, [], ◌∷◌}
use lib.ListN.{length, get_or, drop, set}
use lib.Seq.{drop-set-lt, get_or-set_same}
use lib.Dec.{ltb, leb, eqb}
use borrow.Author.Tests.{lt-ltb, le-ltb, le-leb, eq-eqb, ne_eqb, ltb-true, ltb-false, leb-true, eqb-true}
use Rattle.parts.specs.declared.Facts.{Facts}
use Rattle.parts.specs.declared.Event.{Event}
use Rattle.parts.specs.declared.Event.TheVariants.{Clock, Start, Stop, Ends, PinLow, PinHigh, PinFloat, Reset, Unknown}
use Rattle.parts.specs.Table.{facts_of}
use Rattle.parts.specs.Sound.{Sound}
use Rattle.parts.specs.declared.Loss.{Loss}
use Rattle.parts.specs.Events.{event_with, event_right_of}
use Rattle.parts.proofs.Laws.{branch, sound}
use Rattle.parts.proofs.Bytes.{flag_below}
use Rattle.parts.proofs.Tests.{both, not_yes}
use Rattle.line.specs.declared.Pin.{Pin}
use Rattle.line.specs.declared.Pin.TheVariants.{Absent, Low, High, Floating}
use Rattle.line.specs.declared.Target.{Target}
use Rattle.line.specs.declared.Target.TheVariants.{Array, Ident}
use Rattle.line.specs.declared.Recv.{Recv}
use Rattle.line.specs.declared.Recv.TheVariants.{Select, AddressHigh, AddressLow, Fill, LockByte, LockTaken}
use Rattle.line.specs.declared.Cycle.{Cycle}
use Rattle.line.specs.declared.Cycle.TheVariants.{Writing, Locking}
use Rattle.line.specs.declared.Phase.{Phase}
use Rattle.line.specs.declared.Phase.TheVariants.{Idle, Receive, Send, Busy}
use Rattle.line.specs.declared.Core.{Core}
use Rattle.line.specs.declared.Line.{Line}
use Rattle.line.specs.declared.After.{After}
use Rattle.line.specs.Rules.{is_high, at, counting, marking, bit_on, roll_of, onward_of, enabled_of, named_of, decode_of, address_start_of, selected_of, load_array_of, load_id_of, loaded_of, refuses_of, latched_of, filled_of, locked_by_of, taken_of, landed, received_of, receive_act_of, moved_of, sent_of, clocked_of, clock_act_of, opened, started_of, start_act_of, asks_of, placed_of, due_of, stopped_by_lem, stop_act_by, stopped_of, stop_act_of, locked_now, ended_by_of, ended_of, end_act_of, pinned_of, lock_at_reset, reset_of, next_of, act_of}
use Rattle.line.proofs.Laws.{page_room}
use Rattle.state.specs.declared.Chip.{Chip}
use Rattle.state.specs.Range.{empty_of, marks_right_of, pin_right_of, mark_right_of, target_right_of, lock_right_of, location_right_of, last_right_of, acked_right_of, open_right_of, fill_right_of, unlocked_right_of, recv_right_of, writing_right_of, cycle_right_of, phase_right_of, rest_right_of, in_range_of}
use Rattle.chip.specs.Model.{PowerCut, ours_with}
use Rattle.chip.specs.Memory.{chip, no_latch, latch_of, state_of}
use Rattle.chip.proofs.Laws.{latch_length}
use Rattle.chip.specs.Runs.{after_of}
use Rattle.chip.specs.Delivery.{pin_at_first_of, standby_of}
use Rattle.chip_laws.specs.Range.{Typed, PinOk, LockOk, MarkOk, TargetOk, Location, Last, Unlocked, FillOk, RecvOk, CycleOk, PhaseOk, InRange, NoLatches, OpenIn, Open, Takes, AllTaken, RangeIs, FactsKept, FactsKeptByRuns, RangeKept, RangeKeptByCodes, RangeKeptByRuns, StandbyInRange, ReachedInRange}

-- ---- tests as facts

pub no_way {ℓ} : {A : Type ℓ} → false ≡ true → A
no_way e = let z : ◌≡◌ {A = ℕ} 0 1 = cc in absurd (omega arith)

not_ident {ℓ} : {A : Type ℓ} → Array ≡ Ident → A
not_ident e = let z : ◌≡◌ {A = ℕ} 0 1 = cc in absurd (omega arith)

pub or_no : (a b : Bool) → (a || b) ≡ false → (a ≡ false) × (b ≡ false)
or_no true b e = no_way (sym e)
or_no false b e = (refl, e)

-- an implication as a test
when : (a b : Bool) → cond a b true ≡ true → a ≡ true → b ≡ true
when true b h e = h
when false b h e = no_way e

unless : (a b : Bool) → (a ≡ true → b ≡ true) → cond a b true ≡ true
unless true b h = h refl
unless false b h = refl

is_off : (a : Bool) → a ≡ false → not a ≡ true
is_off true e = sym e
is_off false e = refl

-- ---- latches

first-empty : (x : ℕ) (b : Bool) → cond (ltb x 256) false b ≡ true → (256 ≤ x) × (b ≡ true)
first-empty x b h = go (ltb x 256) refl h
  where
    go : (t : Bool) → ltb x 256 ≡ t → cond t false b ≡ true → (256 ≤ x) × (b ≡ true)
    go true e h = no_way h
    go false e h = (ltb-false x 256 e, h)

empty_drop : (n : ℕ) (k : List ℕ) → empty_of k ≡ true → empty_of (drop n k) ≡ true
empty_drop zero k h = h
empty_drop (suc n) [] h = refl
empty_drop (suc n) (x ∷ k) h = empty_drop n k (first-empty x (empty_of k) h).1

-- where no latch is, none is at any place
empty_at : (k : List ℕ) (i : ℕ) → i < length k → empty_of k ≡ true → 256 ≤ get_or k i 0
empty_at [] i l h = absurd (omega arith)
empty_at (x ∷ k) zero l h = (first-empty x (empty_of k) h).0
empty_at (x ∷ k) (suc i) l h = empty_at k i (omega arith) (first-empty x (empty_of k) h).1

none_empty : empty_of no_latch ≡ true
unfolding no_latch
none_empty = refl

-- ---- the page rule

-- the place before the next place is the place itself
pub roll_back : (P c : ℕ) → 0 < P → (roll_of P c + (P - 1)) % P ≡ c % P
unfolding roll_of
roll_back P c pos =
    ap (λ (n : ℕ). n % P) (add_assoc (c / P * P) ((c + 1) % P) (P - 1))
    ∙ mul-add-mod_self_right (c / P) P ((c + 1) % P + (P - 1))
    ∙ mod-add-mod (c + 1) P (P - 1)
    ∙ ap (λ (n : ℕ). n % P) (omega arith)
    ∙ add-mod_right c P

module _ (f : Facts) (s : Sound f) where
  pub page_le : f.page ≤ f.size
  page_le = omega (arith, page_room f.size f.page 0 s.page_pos s.whole s.size_pos)

  pub roll_lt : (c : ℕ) → c < f.size → roll_of f.page c < f.size
  unfolding roll_of
  roll_lt c h = omega (arith, page_room f.size f.page c s.page_pos s.whole h, mod-lt (c + 1) s.page_pos)

  pub roll_page : (c : ℕ) → c < f.page → roll_of f.page c < f.page
  unfolding roll_of
  roll_page c h = rw (div-eq_of_lt h) (omega (arith, mod-lt (c + 1) s.page_pos))

  pub onward_lt : (c : ℕ) → onward_of f c < f.size
  unfolding onward_of
  onward_lt c = mod-lt _ s.size_pos

  -- ---- a byte received

  -- the chip at the beginning of the next byte
  abbrev Landed : List ℕ → After → Type 0
  Landed k a = InRange f (chip (landed a) (latch_of k a.act))

  -- what a core has in every phase
  abbrev CoreOk : Core → Type 0
  CoreOk c = (c.counter < f.size) × PinOk f c.pin × LockOk f c

  none_marks : empty_of (drop f.page no_latch) ≡ true
  none_marks = empty_drop f.page no_latch none_empty

  kept_at : (c : Core) (k : List ℕ) (ph : Phase) → CoreOk c → empty_of (drop f.page k) ≡ true → PhaseOk f c k 8 ph → InRange f (chip (at c ph) k)
  kept_at c k ph h m o = record { counter = h.0; left = omega arith; marks = m; pin = h.1; lock = h.2; phase = o }

  idle_at : (c : Core) → CoreOk c → InRange f (chip (at c Idle) no_latch)
  idle_at c h = kept_at c no_latch Idle h none_marks tt

  abbrev HeardOk : Option (Target × Bool) → Type 0
  HeardOk None = Unit {0}
  HeardOk (Some (t, r)) = TargetOk f t

  decode_ok : (en b : ℕ) → HeardOk (decode_of f en b)
  unfolding decode_of named_of
  decode_ok en b =
      branch HeardOk (enabled_of f en b)
      (λ _. branch HeardOk (eqb (b / 16) 10) (λ _. tt) (λ _. branch HeardOk (eqb (b / 16) 11) (λ _. branch HeardOk f.ident (λ e. e) (λ _. tt)) (λ _. tt)))
      (λ _. tt)

  first_ok : (c : Core) (k : List ℕ) (t : Target) (b : ℕ) → TargetOk f t → RecvOk f c k 8 (address_start_of f t b)
  unfolding address_start_of
  first_ok c k Array b o = branch (RecvOk f c k 8) f.wide (λ _. tt) (λ _. tt)
  first_ok c k Ident b o = branch (RecvOk f c k 8) f.wide (λ _. o) (λ _. o)

  module _ (k : List ℕ) (m : empty_of (drop f.page k) ≡ true) (c : Core) (h : CoreOk c) (i : MarkOk c) where
    selected_ok : (b : ℕ) (w : Option (Target × Bool)) → HeardOk w → Landed k (selected_of f c b w)
    unfolding selected_of
    selected_ok b None o = kept_at c k Idle h m tt
    selected_ok b (Some (t, true)) o = kept_at c k (Send t) h m (i, o)
    selected_ok b (Some (t, false)) o = kept_at c k (Receive (address_start_of f t b)) h m (i, first_ok c k t b o)

    loaded_ok : (t : Target) (a : ℕ) → TargetOk f t → Landed k (loaded_of f c t a)
    unfolding loaded_of load_array_of load_id_of
    loaded_ok Array a o = kept_at (counting c (a % f.size)) no_latch (Receive (Fill Array false)) (mod-lt a s.size_pos, h.1, h.2) none_marks (i, λ e. no_way e)
    loaded_ok Ident a o =
        let small : a % f.page < f.page = mod-lt a s.page_pos in
        kept_at (counting c (a % f.page)) no_latch (Receive (cond (bit_on a f.lock) LockByte (Fill Ident false)))
        (omega (arith, small, page_le), h.1, h.2) none_marks
        (i, branch (RecvOk f (counting c (a % f.page)) no_latch 8) (bit_on a f.lock) (λ _. (o, small)) (λ _. ((o, small), λ e. no_way e)))

    module _ (b : ℕ) (byte : b < 256) (long : length k ≡ 64) where
      -- the latch just put is the one before the counter
      last_put : Last f (counting c (roll_of f.page c.counter)) (set k (c.counter % f.page) b)
      last_put =
          let inside : c.counter % f.page < length k = omega (arith, mod-lt c.counter s.page_pos, s.page_most) in
          subst (λ (n : ℕ). get_or (set k (c.counter % f.page) b) n 0 < 256) (sym (roll_back f.page c.counter s.page_pos))
          (subst (λ (x : ℕ). x < 256) (sym (get_or-set_same k (c.counter % f.page) b 0 inside)) byte)

      put_marks : empty_of (drop f.page (set k (c.counter % f.page) b)) ≡ true
      put_marks = ap empty_of (drop-set-lt f.page k (c.counter % f.page) b (mod-lt c.counter s.page_pos)) ∙ m

      filled_ok : (t : Target) → (t ≡ Ident → Location f c) → Landed k (filled_of f c t b)
      unfolding filled_of latched_of refuses_of
      filled_ok Array o =
          branch (Landed k) (refuses_of c Array) (λ _. idle_at c h)
          (λ _. kept_at (counting c (roll_of f.page c.counter)) (set k (c.counter % f.page) b) (Receive (Fill Array true))
          (roll_lt c.counter h.0, h.1, h.2) put_marks (i, λ _ _. last_put))
      filled_ok Ident o =
          branch (Landed k) (refuses_of c Ident) (λ _. idle_at c h)
          (λ e. kept_at (counting c (roll_of f.page c.counter)) (set k (c.counter % f.page) b) (Receive (Fill Ident true))
          (roll_lt c.counter h.0, h.1, h.2) put_marks
          (i, (((o refl).0, roll_page c.counter (o refl).1), λ _ _. (last_put, (or_no c.inhibited c.locked e).1))))

      pub taken_ok : (en left : ℕ) (r : Recv) → RecvOk f c k left r → Landed k (taken_of f en c r b)
      unfolding taken_of locked_by_of refuses_of
      taken_ok en left Select o = selected_ok b (decode_of f en b) (decode_ok en b)
      taken_ok en left (AddressHigh t) o = kept_at c k (Receive (AddressLow t b)) h m (i, o)
      taken_ok en left (AddressLow t high) o = loaded_ok t (high * 256 + b) o
      taken_ok en left (Fill Array w) o = filled_ok Array (λ e. not_ident e)
      taken_ok en left (Fill Ident w) o = filled_ok Ident (λ _. o.0)
      taken_ok en left LockByte o =
          branch (Landed k) (refuses_of c Ident) (λ _. idle_at c h)
          (λ e. kept_at c k (Receive (LockTaken (bit_on b 2))) h m (i, (o, (or_no c.inhibited c.locked e).1)))
      taken_ok en left (LockTaken w) o = idle_at c h

  -- ---- a clock

  -- a bit is in: no longer just after an acknowledge
  recv_less : (c : Core) (k : List ℕ) (n : ℕ) (r : Recv) → suc n ≤ 8 → RecvOk f c k (suc n) r → RecvOk f c k n r
  recv_less c k n Select l o = o
  recv_less c k n (AddressHigh t) l o = o
  recv_less c k n (AddressLow t high) l o = o
  recv_less c k n (Fill Array w) l o = λ _ e. absurd (omega arith)
  recv_less c k n (Fill Ident w) l o = (o.0, λ _ e. absurd (omega arith))
  recv_less c k n LockByte l o = o
  recv_less c k n (LockTaken w) l o = o

  module _ (l : Line) (k : List ℕ) (h : InRange f (chip l k)) where
    core_ok : CoreOk l.core
    core_ok = (h.counter, h.pin, h.lock)

    received_ok : (en : ℕ) (v : Bool) → Typed (chip l k) → (r : Recv) (n : ℕ) → n ≤ 8 → MarkOk l.core → RecvOk f l.core k n r
        → InRange f (chip (received_of f en l v r n) (latch_of k (receive_act_of f en l r n)))
    unfolding received_of receive_act_of
    received_ok en v t r zero b i o = taken_ok k h.marks l.core core_ok i l.shift t.byte t.latches en 0 r o
    received_ok en v t r (suc n) b i o =
        record { counter = h.counter; left = omega arith; marks = h.marks; pin = h.pin; lock = h.lock; phase = (i, recv_less l.core k n r b o) }

    moved_lt : (c : Core) (t : Target) (n : ℕ) → c.counter < f.size → (moved_of f c t n).counter < f.size
    unfolding moved_of
    moved_lt c Array zero h = mod-lt (c.counter + 1) s.size_pos
    moved_lt c Ident zero h = omega (arith, mod-lt (c.counter + 1) s.page_pos, page_le)
    moved_lt c Array (suc n) h = h
    moved_lt c Ident (suc n) h = h

    sent_ok : (v : Bool) (t : Target) (n : ℕ) → n ≤ 8 → MarkOk l.core → TargetOk f t → InRange f (chip (sent_of f l v t n) k)
    unfolding sent_of moved_of
    sent_ok v t zero b i o = kept_at l.core k (cond v Idle (Send t)) core_ok h.marks (branch (PhaseOk f l.core k 8) v (λ _. tt) (λ _. (i, o)))
    sent_ok v Array (suc zero) b i o =
        record { counter = moved_lt l.core Array 0 h.counter; left = omega arith; marks = h.marks; pin = h.pin; lock = h.lock; phase = (i, o) }
    sent_ok v Ident (suc zero) b i o =
        record { counter = moved_lt l.core Ident 0 h.counter; left = omega arith; marks = h.marks; pin = h.pin; lock = h.lock; phase = (i, o) }
    sent_ok v Array (suc (suc n)) b i o =
        record { counter = h.counter; left = omega arith; marks = h.marks; pin = h.pin; lock = h.lock; phase = (i, o) }
    sent_ok v Ident (suc (suc n)) b i o =
        record { counter = h.counter; left = omega arith; marks = h.marks; pin = h.pin; lock = h.lock; phase = (i, o) }

    clocked_ok : (en : ℕ) (v : Bool) → Typed (chip l k) → (ph : Phase) → PhaseOk f l.core k l.left ph
        → InRange f (chip (clocked_of f en l v ph) (latch_of k (clock_act_of f en l ph)))
    unfolding clocked_of clock_act_of
    clocked_ok en v t Idle o = h
    clocked_ok en v t (Receive r) o = received_ok en v t r l.left h.left o.0 o.1
    clocked_ok en v t (Send u) o = sent_ok v u l.left h.left o.0 o.1
    clocked_ok en v t (Busy y) o = h

    -- ---- Start, Stop, the end of a cycle, reset

    opened_ok : InRange f (chip (opened l.core) no_latch)
    opened_ok = kept_at (marking l.core l.core.pin (is_high l.core.pin)) no_latch (Receive Select) core_ok none_marks (λ e. e, tt)

    started_ok : (ph : Phase) → InRange f (chip (started_of l ph) (latch_of k (start_act_of ph)))
    unfolding started_of start_act_of
    started_ok Idle = opened_ok
    started_ok (Receive r) = opened_ok
    started_ok (Send t) = opened_ok
    started_ok (Busy y) = h

    abbrev AskedOk : Option Cycle → Type 0
    AskedOk None = Unit {0}
    AskedOk (Some y) = CycleOk f l.core k y

    asks_ok : (r : Recv) → l.left ≡ 8 → RecvOk f l.core k l.left r → AskedOk (asks_of r)
    unfolding asks_of
    asks_ok Select e o = tt
    asks_ok (AddressHigh t) e o = tt
    asks_ok (AddressLow t high) e o = tt
    asks_ok (Fill Array true) e o = o refl e
    asks_ok (Fill Ident true) e o = ((o.0, (o.1 refl e).1), (o.1 refl e).0)
    asks_ok (Fill t false) e o = tt
    asks_ok LockByte e o = tt
    asks_ok (LockTaken true) e o = o
    asks_ok (LockTaken false) e o = tt

    stopped_by : (a : Option Cycle) → AskedOk a → InRange f (chip (stopped_by_lem l.core a) (latch_of k (stop_act_by a)))
    stopped_by None o = idle_at l.core core_ok
    stopped_by (Some y) o = kept_at l.core k (Busy y) core_ok h.marks o

    due_ok : (w : Bool) (a : Option Cycle) → (w ≡ true → AskedOk a) → AskedOk (due_of w a)
    due_ok true a o = o refl
    due_ok false a o = tt

    placed_left : placed_of l ≡ true → l.left ≡ 8
    unfolding placed_of
    placed_left e = eqb-true l.left 8 (go (eqb l.left 8) (not l.core.inhibited) e)
      where
        go : (a b : Bool) → (a && b) ≡ true → a ≡ true
        go true b e = refl
        go false b e = e

    stopped_ok : (ph : Phase) → PhaseOk f l.core k l.left ph → InRange f (chip (stopped_of l ph) (latch_of k (stop_act_of l ph)))
    unfolding stopped_of stop_act_of
    stopped_ok Idle o = idle_at l.core core_ok
    stopped_ok (Receive r) o =
        stopped_by (due_of (placed_of l) (asks_of r)) (due_ok (placed_of l) (asks_of r) (λ e. asks_ok r (placed_left e) o.1))
    stopped_ok (Send t) o = idle_at l.core core_ok
    stopped_ok (Busy y) o = h

    ended_ok : (ph : Phase) → PhaseOk f l.core k l.left ph → InRange f (chip (ended_of f l ph) (latch_of k (end_act_of ph)))
    unfolding ended_of ended_by_of end_act_of
    ended_ok Idle o = h
    ended_ok (Receive r) o = h
    ended_ok (Send t) o = h
    ended_ok (Busy (Writing Array)) o = idle_at (counting l.core (onward_of f l.core.counter)) (onward_lt l.core.counter, h.pin, h.lock)
    ended_ok (Busy (Writing Ident)) o = idle_at l.core core_ok
    ended_ok (Busy Locking) o = idle_at (locked_now l.core) (h.counter, h.pin, λ _. o.0.0)

    -- a lock is left only where it was or where one was being set: both have a page to lock
    left_ok : (w : Loss) (ph : Phase) → PhaseOk f l.core k l.left ph → lock_at_reset w l.core.locked ph ≡ true → f.ident ≡ true
    left_ok w Idle o e = h.lock e
    left_ok w (Receive r) o e = h.lock e
    left_ok w (Send t) o e = h.lock e
    left_ok w (Busy (Writing t)) o e = h.lock e
    left_ok w (Busy Locking) o e = o.0.0

    reset_ok : (w : Loss) → InRange f (chip (reset_of w l.core l.phase) no_latch)
    unfolding reset_of
    reset_ok w =
        idle_at record { counter = 0; pin = l.core.pin; inhibited = false; locked = lock_at_reset w l.core.locked l.phase } (s.size_pos, h.pin, left_ok w l.phase h.phase)

    -- ---- the pin

    held : (u : Pin) (i : Bool) → is_high u ≡ true → (i || is_high u) ≡ true
    held u true e = refl
    held u false e = e

    recv_pin : (u : Pin) (i : Bool) (r : Recv) → RecvOk f l.core k l.left r → RecvOk f (marking l.core u i) k l.left r
    recv_pin u i Select o = o
    recv_pin u i (AddressHigh t) o = o
    recv_pin u i (AddressLow t high) o = o
    recv_pin u i (Fill Array w) o = o
    recv_pin u i (Fill Ident w) o = o
    recv_pin u i LockByte o = o
    recv_pin u i (LockTaken w) o = o

    cycle_pin : (u : Pin) (i : Bool) (y : Cycle) → CycleOk f l.core k y → CycleOk f (marking l.core u i) k y
    cycle_pin u i (Writing Array) o = o
    cycle_pin u i (Writing Ident) o = o
    cycle_pin u i Locking o = o

    pinned_ok : (u : Pin) → PinOk f u → (ph : Phase) → l.phase ≡ ph → PhaseOk f l.core k l.left ph → InRange f (chip (pinned_of l u ph) k)
    unfolding pinned_of
    pinned_ok u p Idle e o =
        record { counter = h.counter; left = h.left; marks = h.marks; pin = p; lock = h.lock; phase = subst (PhaseOk f (marking l.core u l.core.inhibited) k l.left) (sym e) tt }
    pinned_ok u p (Receive r) e o =
        record { counter = h.counter; left = h.left; marks = h.marks; pin = p; lock = h.lock; phase = subst (PhaseOk f (marking l.core u (l.core.inhibited || is_high u)) k l.left) (sym e) (λ d. held u l.core.inhibited d, recv_pin u (l.core.inhibited || is_high u) r o.1) }
    pinned_ok u p (Send t) e o =
        record { counter = h.counter; left = h.left; marks = h.marks; pin = p; lock = h.lock; phase = subst (PhaseOk f (marking l.core u (l.core.inhibited || is_high u)) k l.left) (sym e) (λ d. held u l.core.inhibited d, o.1) }
    pinned_ok u p (Busy y) e o =
        record { counter = h.counter; left = h.left; marks = h.marks; pin = p; lock = h.lock; phase = subst (PhaseOk f (marking l.core u l.core.inhibited) k l.left) (sym e) (cycle_pin u l.core.inhibited y o) }

  -- an event that the part takes leaves a chip in range in range
  pub next_ok : (en : ℕ) (c : Chip) (e : Event) → Takes f e → Typed c → InRange f c → InRange f (state_of f en c e)
  unfolding state_of next_of act_of
  next_ok en c (Clock v) a t h = clocked_ok c.line c.latch h en v t c.line.phase h.phase
  next_ok en c Start a t h = started_ok c.line c.latch h c.line.phase
  next_ok en c Stop a t h = stopped_ok c.line c.latch h c.line.phase h.phase
  next_ok en c Ends a t h = ended_ok c.line c.latch h c.line.phase h.phase
  next_ok en c PinLow a t h = pinned_ok c.line c.latch h Low a c.line.phase refl h.phase
  next_ok en c PinHigh a t h = pinned_ok c.line c.latch h High a c.line.phase refl h.phase
  next_ok en c PinFloat a t h = pinned_ok c.line c.latch h Floating a c.line.phase refl h.phase
  next_ok en c (Reset w) a t h = reset_ok c.line c.latch h w
  next_ok en c Unknown a t h = h

-- ---- the test is the facts

module _ (f : Facts) where
  pin_in_lem : (v : Pin) → pin_right_of f v ≡ true → PinOk f v
  unfolding pin_right_of
  pin_in_lem Absent h = not_yes f.pin h
  pin_in_lem Low h = h
  pin_in_lem High h = h
  pin_in_lem Floating h = h

  pin_out : (v : Pin) → PinOk f v → pin_right_of f v ≡ true
  unfolding pin_right_of
  pin_out Absent h = is_off f.pin h
  pin_out Low h = h
  pin_out High h = h
  pin_out Floating h = h

  target_in : (t : Target) → target_right_of f t ≡ true → TargetOk f t
  unfolding target_right_of
  target_in Array h = tt
  target_in Ident h = h

  target_out : (t : Target) → TargetOk f t → target_right_of f t ≡ true
  unfolding target_right_of
  target_out Array h = refl
  target_out Ident h = h

  module _ (c : Core) (k : List ℕ) where
    mark_in : mark_right_of c ≡ true → MarkOk c
    unfolding mark_right_of
    mark_in h = when (is_high c.pin) c.inhibited h

    mark_out : MarkOk c → mark_right_of c ≡ true
    unfolding mark_right_of
    mark_out h = unless (is_high c.pin) c.inhibited h

    location_in : location_right_of f c Ident ≡ true → Location f c
    unfolding location_right_of
    location_in h =
        let w = both f.ident (ltb c.counter f.page) h in
        (w.0, ltb-true c.counter f.page w.1)

    location_out : Location f c → location_right_of f c Ident ≡ true
    unfolding location_right_of
    location_out h = rw h.0 (lt-ltb c.counter f.page h.1)

    last_in : last_right_of f c k ≡ true → Last f c k
    unfolding last_right_of
    last_in h = ltb-true _ 256 h

    last_out : Last f c k → last_right_of f c k ≡ true
    unfolding last_right_of
    last_out h = lt-ltb _ 256 h

    acked_in : (left : ℕ) (w : Bool) → acked_right_of f c k left w ≡ true → w ≡ true → left ≡ 8 → Last f c k
    unfolding acked_right_of
    acked_in left w h e d =
        last_in (when (eqb left 8) (last_right_of f c k) (when w (cond (eqb left 8) (last_right_of f c k) true) h e) (eq-eqb left 8 d))

    acked_out : (left : ℕ) (w : Bool) → (w ≡ true → left ≡ 8 → Last f c k) → acked_right_of f c k left w ≡ true
    unfolding acked_right_of
    acked_out left w h =
        unless w (cond (eqb left 8) (last_right_of f c k) true)
        (λ e. unless (eqb left 8) (last_right_of f c k) (λ d. last_out (h e (eqb-true left 8 d))))

    unlocked_in : unlocked_right_of f c ≡ true → Unlocked f c
    unfolding unlocked_right_of
    unlocked_in h =
        let w = both (location_right_of f c Ident) (not c.locked) h in
        (location_in w.0, not_yes c.locked w.1)

    unlocked_out : Unlocked f c → unlocked_right_of f c ≡ true
    unfolding unlocked_right_of
    unlocked_out h = rw (location_out h.0) (is_off c.locked h.1)

    -- a latch at its place, and no latches where locked: not locked
    taken_unlocked : Sound f → length k ≡ 64 → NoLatches c k → Last f c k → c.locked ≡ false
    taken_unlocked s long h l = go c.locked refl
      where
        go : (b : Bool) → c.locked ≡ b → b ≡ false
        go false e = refl
        go true e =
            absurd
            (omega
            (arith, l, empty_at k ((c.counter + (f.page - 1)) % f.page) (omega (arith, mod-lt (c.counter + (f.page - 1)) s.page_pos, s.page_most)) (h e)))

    fill_in : Sound f → length k ≡ 64 → (left : ℕ) (t : Target) (w : Bool) → fill_right_of f c k left t w ≡ true → FillOk f c k left t w × OpenIn c k (Receive (Fill t w))
    unfolding fill_right_of location_right_of open_right_of
    fill_in s long left Array w h = (acked_in left w (both (acked_right_of f c k left w) true h).0, tt)
    fill_in s long left Ident w h =
        let a = both (location_right_of f c Ident) (cond (acked_right_of f c k left w) (open_right_of c k Ident) false) h in
        let b = both (acked_right_of f c k left w) (open_right_of c k Ident) a.1 in
        let o : NoLatches c k = when c.locked (empty_of k) b.1 in
        ((location_in a.0, λ e d. (acked_in left w b.0 e d, taken_unlocked s long o (acked_in left w b.0 e d))), o)

    fill_out : (left : ℕ) (t : Target) (w : Bool) → FillOk f c k left t w → OpenIn c k (Receive (Fill t w)) → fill_right_of f c k left t w ≡ true
    unfolding fill_right_of location_right_of open_right_of
    fill_out left Array w h o = rw (acked_out left w h) refl
    fill_out left Ident w h o = rw (location_out h.0, acked_out left w (λ e d. (h.1 e d).0)) (unless c.locked (empty_of k) o)

    recv_in_lem : Sound f → length k ≡ 64 → (left : ℕ) (r : Recv) → recv_right_of f c k left r ≡ true → RecvOk f c k left r × OpenIn c k (Receive r)
    unfolding recv_right_of
    recv_in_lem s long left Select h = (tt, tt)
    recv_in_lem s long left (AddressHigh t) h = (target_in t h, tt)
    recv_in_lem s long left (AddressLow t high) h = (target_in t h, tt)
    recv_in_lem s long left (Fill t w) h = fill_in s long left t w h
    recv_in_lem s long left LockByte h = (location_in h, tt)
    recv_in_lem s long left (LockTaken w) h = (unlocked_in h, tt)

    recv_out : (left : ℕ) (r : Recv) → RecvOk f c k left r → OpenIn c k (Receive r) → recv_right_of f c k left r ≡ true
    unfolding recv_right_of
    recv_out left Select h o = refl
    recv_out left (AddressHigh t) h o = target_out t h
    recv_out left (AddressLow t high) h o = target_out t h
    recv_out left (Fill t w) h o = fill_out left t w h o
    recv_out left LockByte h o = location_out h
    recv_out left (LockTaken w) h o = unlocked_out h

    cycle_in : (y : Cycle) → cycle_right_of f c k y ≡ true → CycleOk f c k y
    unfolding cycle_right_of writing_right_of
    cycle_in (Writing Array) h = last_in h
    cycle_in (Writing Ident) h =
        let w = both (unlocked_right_of f c) (last_right_of f c k) h in
        (unlocked_in w.0, last_in w.1)
    cycle_in Locking h = unlocked_in h

    cycle_out : (y : Cycle) → CycleOk f c k y → cycle_right_of f c k y ≡ true
    unfolding cycle_right_of writing_right_of
    cycle_out (Writing Array) h = last_out h
    cycle_out (Writing Ident) h = rw (unlocked_out h.0) (last_out h.1)
    cycle_out Locking h = unlocked_out h

    phase_in : Sound f → length k ≡ 64 → (left : ℕ) (ph : Phase) → phase_right_of f c k left ph ≡ true → PhaseOk f c k left ph × OpenIn c k ph
    unfolding phase_right_of
    phase_in s long left Idle h = (tt, tt)
    phase_in s long left (Receive r) h =
        let w = both (mark_right_of c) (recv_right_of f c k left r) h in
        let q = recv_in_lem s long left r w.1 in
        ((mark_in w.0, q.0), q.1)
    phase_in s long left (Send t) h =
        let w = both (mark_right_of c) (target_right_of f t) h in
        ((mark_in w.0, target_in t w.1), tt)
    phase_in s long left (Busy y) h = (cycle_in y h, tt)

    phase_out : (left : ℕ) (ph : Phase) → PhaseOk f c k left ph → OpenIn c k ph → phase_right_of f c k left ph ≡ true
    unfolding phase_right_of
    phase_out left Idle h o = refl
    phase_out left (Receive r) h o = rw (mark_out h.0) (recv_out left r h.1 o)
    phase_out left (Send t) h o = rw (mark_out h.0) (target_out t h.1)
    phase_out left (Busy y) h o = cycle_out y h

  -- refusal 4's test gives the facts
  pub range_facts : Sound f → (c : Chip) → Typed c → in_range_of f c ≡ true → InRange f c × Open c
  unfolding in_range_of marks_right_of rest_right_of lock_right_of
  range_facts s c t h =
      let l = c.line in
      let ph = phase_right_of f l.core c.latch l.left l.phase in
      let a = both (ltb l.core.counter f.size) (cond (leb l.left 8) (cond (marks_right_of f c.latch) (rest_right_of f l.core c.latch l.left l.phase) false) false) h in
      let b = both (leb l.left 8) (cond (marks_right_of f c.latch) (rest_right_of f l.core c.latch l.left l.phase) false) a.1 in
      let m = both (marks_right_of f c.latch) (rest_right_of f l.core c.latch l.left l.phase) b.1 in
      let p = both (pin_right_of f l.core.pin) (cond (lock_right_of f l.core) ph false) m.1 in
      let k = both (lock_right_of f l.core) ph p.1 in
      let q = phase_in l.core c.latch s t.latches l.left l.phase k.1 in
      (record { counter = ltb-true l.core.counter f.size a.0; left = leb-true l.left 8 b.0; marks = m.0; pin = pin_in_lem l.core.pin p.0; lock = when l.core.locked f.ident k.0; phase = q.0 }, q.1)

  pub in_range : Sound f → (c : Chip) → Typed c → in_range_of f c ≡ true → InRange f c
  in_range s c t h = (range_facts s c t h).0

  -- and the facts give the test
  pub range_back : (c : Chip) → InRange f c → Open c → in_range_of f c ≡ true
  unfolding in_range_of marks_right_of rest_right_of lock_right_of
  range_back c h o =
      rw (lt-ltb c.line.core.counter f.size h.counter, le-leb c.line.left 8 h.left, h.marks, pin_out c.line.core.pin h.pin, unless c.line.core.locked f.ident h.lock)
      (phase_out c.line.core c.latch c.line.left c.line.phase h.phase o)

-- ---- a byte stays a byte, and the latches are 64

module _ (f : Facts) (en : ℕ) (l : Line) (byte : l.shift < 256) where
  received_byte : (v : Bool) (r : Recv) (n : ℕ) → (received_of f en l v r n).shift < 256
  unfolding received_of
  received_byte v r zero = omega arith
  received_byte v r (suc n) = omega (arith, flag_below v)

  sent_byte : (v : Bool) (t : Target) (n : ℕ) → (sent_of f l v t n).shift < 256
  unfolding sent_of
  sent_byte v t zero = omega arith
  sent_byte v t (suc n) = byte

  clocked_byte : (v : Bool) (ph : Phase) → (clocked_of f en l v ph).shift < 256
  unfolding clocked_of
  clocked_byte v Idle = byte
  clocked_byte v (Receive r) = received_byte v r l.left
  clocked_byte v (Send t) = sent_byte v t l.left
  clocked_byte v (Busy y) = byte

  started_byte : (ph : Phase) → (started_of l ph).shift < 256
  unfolding started_of
  started_byte Idle = omega arith
  started_byte (Receive r) = omega arith
  started_byte (Send t) = omega arith
  started_byte (Busy y) = byte

  by_byte : (a : Option Cycle) → (stopped_by_lem l.core a).shift < 256
  by_byte None = omega arith
  by_byte (Some y) = omega arith

  stopped_byte : (ph : Phase) → (stopped_of l ph).shift < 256
  unfolding stopped_of
  stopped_byte Idle = omega arith
  stopped_byte (Receive r) = by_byte (due_of (placed_of l) (asks_of r))
  stopped_byte (Send t) = omega arith
  stopped_byte (Busy y) = byte

  ended_byte : (ph : Phase) → (ended_of f l ph).shift < 256
  unfolding ended_of ended_by_of
  ended_byte Idle = byte
  ended_byte (Receive r) = byte
  ended_byte (Send t) = byte
  ended_byte (Busy (Writing Array)) = omega arith
  ended_byte (Busy (Writing Ident)) = omega arith
  ended_byte (Busy Locking) = omega arith

  pinned_byte : (u : Pin) (ph : Phase) → (pinned_of l u ph).shift < 256
  unfolding pinned_of
  pinned_byte u Idle = byte
  pinned_byte u (Receive r) = byte
  pinned_byte u (Send t) = byte
  pinned_byte u (Busy y) = byte

  next_byte : (e : Event) → (next_of f en l e).shift < 256
  unfolding next_of reset_of
  next_byte (Clock v) = clocked_byte v l.phase
  next_byte Start = started_byte l.phase
  next_byte Stop = stopped_byte l.phase
  next_byte Ends = ended_byte l.phase
  next_byte PinLow = pinned_byte Low l.phase
  next_byte PinHigh = pinned_byte High l.phase
  next_byte PinFloat = pinned_byte Floating l.phase
  next_byte (Reset w) = omega arith
  next_byte Unknown = byte

pub typed_next : (f : Facts) (en : ℕ) (c : Chip) (e : Event) → Typed c → Typed (state_of f en c e)
unfolding state_of
typed_next f en c e t =
    record { byte = next_byte f en c.line t.byte e; latches = latch_length c.latch (act_of f en c.line e) t.latches }

-- ---- no latches in an identification write on a locked page

module _ (f : Facts) (en : ℕ) (l : Line) (k : List ℕ) where
  abbrev OpenLine : Line → List ℕ → Type 0
  OpenLine l k = OpenIn l.core k l.phase

  abbrev OpenAfter : After → Type 0
  OpenAfter a = OpenIn a.core (latch_of k a.act) a.phase

  selected_open : (c : Core) (b : ℕ) (w : Option (Target × Bool)) → OpenAfter (selected_of f c b w)
  unfolding selected_of address_start_of
  selected_open c b None = tt
  selected_open c b (Some (t, true)) = tt
  selected_open c b (Some (Array, false)) = branch (λ (r : Recv). OpenIn c k (Receive r)) f.wide (λ _. tt) (λ _. tt)
  selected_open c b (Some (Ident, false)) = branch (λ (r : Recv). OpenIn c k (Receive r)) f.wide (λ _. tt) (λ _. tt)

  loaded_open : (c : Core) (t : Target) (a : ℕ) → OpenAfter (loaded_of f c t a)
  unfolding loaded_of load_array_of load_id_of
  loaded_open c Array a = tt
  loaded_open c Ident a =
      branch (λ (r : Recv). OpenIn (counting c (a % f.page)) no_latch (Receive r)) (bit_on a f.lock) (λ _. tt) (λ _ _. none_empty)

  filled_open : (c : Core) (t : Target) (b : ℕ) → OpenAfter (filled_of f c t b)
  unfolding filled_of latched_of refuses_of
  filled_open c Array b = branch OpenAfter (refuses_of c Array) (λ _. tt) (λ _. tt)
  filled_open c Ident b =
      branch OpenAfter (refuses_of c Ident) (λ _. tt) (λ e d. no_way (sym (or_no c.inhibited c.locked e).1 ∙ d))

  taken_open : (c : Core) (r : Recv) (b : ℕ) → OpenAfter (taken_of f en c r b)
  unfolding taken_of locked_by_of
  taken_open c Select b = selected_open c b (decode_of f en b)
  taken_open c (AddressHigh t) b = tt
  taken_open c (AddressLow t high) b = loaded_open c t (high * 256 + b)
  taken_open c (Fill t w) b = filled_open c t b
  taken_open c LockByte b = branch OpenAfter (refuses_of c Ident) (λ _. tt) (λ _. tt)
  taken_open c (LockTaken w) b = tt

  received_open : (v : Bool) (r : Recv) (n : ℕ) → OpenIn l.core k (Receive r) → OpenLine (received_of f en l v r n) (latch_of k (receive_act_of f en l r n))
  unfolding received_of receive_act_of
  received_open v r zero o = taken_open l.core r l.shift
  received_open v r (suc n) o = o

  sent_open : (v : Bool) (t : Target) (n : ℕ) → OpenLine (sent_of f l v t n) k
  unfolding sent_of
  sent_open v t zero = branch (OpenIn l.core k) v (λ _. tt) (λ _. tt)
  sent_open v t (suc n) = tt

  clocked_open : (v : Bool) (ph : Phase) → OpenLine l k → OpenIn l.core k ph → OpenLine (clocked_of f en l v ph) (latch_of k (clock_act_of f en l ph))
  unfolding clocked_of clock_act_of
  clocked_open v Idle h o = h
  clocked_open v (Receive r) h o = received_open v r l.left o
  clocked_open v (Send t) h o = sent_open v t l.left
  clocked_open v (Busy y) h o = h

  started_open : (ph : Phase) → OpenLine l k → OpenLine (started_of l ph) (latch_of k (start_act_of ph))
  unfolding started_of start_act_of
  started_open Idle h = tt
  started_open (Receive r) h = tt
  started_open (Send t) h = tt
  started_open (Busy y) h = h

  by_open : (a : Option Cycle) → OpenLine (stopped_by_lem l.core a) (latch_of k (stop_act_by a))
  by_open None = tt
  by_open (Some y) = tt

  stopped_open : (ph : Phase) → OpenLine l k → OpenLine (stopped_of l ph) (latch_of k (stop_act_of l ph))
  unfolding stopped_of stop_act_of
  stopped_open Idle h = tt
  stopped_open (Receive r) h = by_open (due_of (placed_of l) (asks_of r))
  stopped_open (Send t) h = tt
  stopped_open (Busy y) h = h

  ended_open : (ph : Phase) → OpenLine l k → OpenLine (ended_of f l ph) (latch_of k (end_act_of ph))
  unfolding ended_of ended_by_of end_act_of
  ended_open Idle h = h
  ended_open (Receive r) h = h
  ended_open (Send t) h = h
  ended_open (Busy (Writing Array)) h = tt
  ended_open (Busy (Writing Ident)) h = tt
  ended_open (Busy Locking) h = tt

  phase_pin : (u : Pin) (i : Bool) (ph : Phase) → OpenIn l.core k ph → OpenIn (marking l.core u i) k ph
  phase_pin u i Idle h = h
  phase_pin u i (Receive Select) h = h
  phase_pin u i (Receive (AddressHigh t)) h = h
  phase_pin u i (Receive (AddressLow t high)) h = h
  phase_pin u i (Receive (Fill Array w)) h = h
  phase_pin u i (Receive (Fill Ident w)) h = h
  phase_pin u i (Receive LockByte) h = h
  phase_pin u i (Receive (LockTaken w)) h = h
  phase_pin u i (Send t) h = h
  phase_pin u i (Busy y) h = h

  pinned_open : (u : Pin) (ph : Phase) → OpenLine l k → OpenLine (pinned_of l u ph) k
  unfolding pinned_of
  pinned_open u Idle h = phase_pin u l.core.inhibited l.phase h
  pinned_open u (Receive r) h = phase_pin u (l.core.inhibited || is_high u) l.phase h
  pinned_open u (Send t) h = phase_pin u (l.core.inhibited || is_high u) l.phase h
  pinned_open u (Busy y) h = phase_pin u l.core.inhibited l.phase h

  next_line_open : (e : Event) → OpenLine l k → OpenLine (next_of f en l e) (latch_of k (act_of f en l e))
  unfolding next_of act_of reset_of
  next_line_open (Clock v) h = clocked_open v l.phase h h
  next_line_open Start h = started_open l.phase h
  next_line_open Stop h = stopped_open l.phase h
  next_line_open Ends h = ended_open l.phase h
  next_line_open PinLow h = pinned_open Low l.phase h
  next_line_open PinHigh h = pinned_open High l.phase h
  next_line_open PinFloat h = pinned_open Floating l.phase h
  next_line_open (Reset w) h = tt
  next_line_open Unknown h = h

pub open_next : (f : Facts) (en : ℕ) (c : Chip) (e : Event) → Open c → Open (state_of f en c e)
unfolding state_of
open_next f en c e h = next_line_open f en c.line c.latch e h

-- ---- the statements

-- a pin event that refusal 5 does not refuse: there is a pin
pinned_there : (p : Bool) (n : ℕ) → 5 ≤ n → n < 8 → event_right_of p n ≡ true → p ≡ true
unfolding event_right_of
pinned_there true n a b h = refl
pinned_there false n a b h =
    rw (le-ltb 8 n (omega arith), le-ltb n 5 a, ne_eqb n 8 (λ e. omega arith)) at h

-- a code that refusal 5 does not refuse
pub takes : (f : Facts) (w : Loss) (n : ℕ) → event_right_of f.pin n ≡ true → Takes f (event_with w n)
unfolding event_with
takes f w n h =
    branch (Takes f) (eqb n 0) (λ _. tt) (λ _.
    branch (Takes f) (eqb n 1) (λ _. tt) (λ _.
    branch (Takes f) (eqb n 2) (λ _. tt) (λ _.
    branch (Takes f) (eqb n 3) (λ _. tt) (λ _.
    branch (Takes f) (eqb n 4) (λ _. tt) (λ _.
    branch (Takes f) (eqb n 5) (λ e. there (eqb-true n 5 e) (omega arith) (omega arith)) (λ _.
    branch (Takes f) (eqb n 6) (λ e. there (eqb-true n 6 e) (omega arith) (omega arith)) (λ _.
    branch (Takes f) (eqb n 7) (λ e. there (eqb-true n 7 e) (omega arith) (omega arith)) (λ _.
    branch (Takes f) (eqb n 8) (λ _. tt) (λ _. tt)))))))))
  where
    there : {m : ℕ} → n ≡ m → 5 ≤ m → m < 8 → f.pin ≡ true
    there e a b = pinned_there f.pin n (omega arith) (omega arith) h

pub range_is : RangeIs
range_is n c t = (range_facts (facts_of n) (sound n) c t, λ h. range_back (facts_of n) c h.0 h.1)

-- the range test, once over any sound part
pub range_next : (f : Facts) → Sound f → (en : ℕ) (c : Chip) (e : Event) → Takes f e → Typed c → in_range_of f c ≡ true
    → (in_range_of f (state_of f en c e) ≡ true) × Typed (state_of f en c e)
range_next f s en c e a t h =
    let w = range_facts f s c t h in
    (range_back f (state_of f en c e) (next_ok f s en c e a t w.0) (open_next f en c e w.1), typed_next f en c e t)

pub range_kept : RangeKept
range_kept n en c e a t h = range_next (facts_of n) (sound n) en c e a t h

pub range_kept_by_codes : RangeKeptByCodes
range_kept_by_codes n en w c code a t h = (range_kept n en c (event_with w code) (takes (facts_of n) w code a) t h).0

pub range_after : (f : Facts) → Sound f → (en : ℕ) (w : PowerCut) (c : Chip) (es : List ℕ) → AllTaken f es → Typed c → in_range_of f c ≡ true
    → (in_range_of f (after_of (ours_with w f en) c es) ≡ true) × Typed (after_of (ours_with w f en) c es)
unfolding after_of
range_after f s en w c [] a t h = (h, t)
range_after f s en w c (e ∷ es) a t h =
    let r = range_next f s en c (event_with w.loss e) (takes f w.loss e a.0) t h in
    range_after f s en w (state_of f en c (event_with w.loss e)) es a.1 r.1 r.0

pub range_kept_by_runs : RangeKeptByRuns
range_kept_by_runs n en w c es a t h = range_after (facts_of n) (sound n) en w c es a t h

-- the facts along a run
pub after_ok : (f : Facts) → Sound f → (en : ℕ) (w : PowerCut) (c : Chip) (es : List ℕ) → AllTaken f es → Typed c → InRange f c
    → InRange f (after_of (ours_with w f en) c es) × Typed (after_of (ours_with w f en) c es)
unfolding after_of
after_ok f s en w c [] a t h = (h, t)
after_ok f s en w c (e ∷ es) a t h =
    after_ok f s en w (state_of f en c (event_with w.loss e)) es a.1 (typed_next f en c (event_with w.loss e) t) (next_ok f s en c (event_with w.loss e) (takes f w.loss e a.0) t h)

pub facts_kept : FactsKept
facts_kept n en c e a t h = (next_ok (facts_of n) (sound n) en c e a t h, typed_next (facts_of n) en c e t)

pub facts_kept_by_runs : FactsKeptByRuns
facts_kept_by_runs n en w c es a t h = after_ok (facts_of n) (sound n) en w c es a t h

pub standby_ok : (f : Facts) → Sound f → (lock : Bool) → (lock ≡ true → f.ident ≡ true) → InRange f (standby_of f lock)
unfolding standby_of pin_at_first_of
standby_ok f s lock h =
    idle_at f s record { counter = 0; pin = pin_at_first_of f; inhibited = false; locked = lock } (s.size_pos, branch (PinOk f) f.pin (λ e. e) (λ e. e), h)

pub standby_in_range : StandbyInRange
unfolding standby_of no_latch
standby_in_range n lock h =
    (range_back (facts_of n) (standby_of (facts_of n) lock) (standby_ok (facts_of n) (sound n) lock h) tt, record { byte = omega arith; latches = refl })

pub reached_in_range : ReachedInRange
reached_in_range n en w lock es h a =
    let s = standby_in_range n lock h in
    (range_kept_by_runs n en w (standby_of (facts_of n) lock) es a s.1 s.0).0
