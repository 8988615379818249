-- What the chip does with one event, by its phase: one law for each that the driver meets. `Q` is whatever is to hold of the
-- line, the latches, the memory, the level and the cycles begun after the event.
-- Assumes nothing.
use Rattle.std.specs.Prelude.{Option, None, Some}
use Prim.Native.Nat.{ℕ, suc, ◌+◌, ◌*◌, ◌%◌, ◌<◌}
use mathlib.Core.Path.{◌≡◌, refl, sym, ◌∙◌, ap, subst}
use mathlib.Core.Bool.{Bool, true, false, cond, not, ◌&&◌}
use mathlib.Core.List.{List}
use lib.Dec.{eqb}
use Rattle.parts.specs.declared.Facts.{Facts}
use Rattle.parts.specs.declared.Event.{Event}
use Rattle.parts.specs.declared.Event.TheVariants.{Ends}
use Rattle.parts.specs.Events.{event_with, event_of}
use Rattle.parts.proofs.Bytes.{flag_in}
use Rattle.parts.proofs.Laws.{clock_code}
use Rattle.line.specs.declared.Target.{Target}
use Rattle.line.specs.declared.Recv.{Recv}
use Rattle.line.specs.declared.Cycle.{Cycle}
use Rattle.line.specs.declared.Phase.{Phase}
use Rattle.line.specs.declared.Phase.TheVariants.{Idle, Receive, Send, Busy}
use Rattle.line.specs.declared.Line.{Line}
use Rattle.line.specs.Rules.{at, opened, taken_of, landed, received_of, receive_act_of, receive_level_of, released_in, moved_of, sent_of, send_level_of, clocked_of, clock_act_of, clock_level_of, started_of, start_act_of, asks_of, placed_of, due_of, stopped_by_lem, stop_act_by, begun_by, stopped_of, stop_act_of, stop_begun_of, ended_by_of, ended_of, end_act_of, next_of, act_of, level_of, begun_of, NoTransfer}
use Rattle.state.specs.declared.Chip.{Chip}
use Rattle.chip.specs.Memory.{Mem, no_latch, latch_of, cycle_stored_of, stored_of, store_with, store_of, shown_of, seen_of, state_of, chip_level_of}
use Rattle.chip_promises.specs.States.{NotBusy}

module _ (f : Facts) (en : ℕ) (c : Chip) (m : Mem) (Q : Line → List ℕ → Mem → ℕ → ℕ → Type 0) where
  abbrev pub After : Event → Type 0
  After e = Q (state_of f en c e).line (state_of f en c e).latch (store_of f c m e) (chip_level_of f en c m e) (begun_of c.line e)

  clock_heard : (x : ℕ) (ph : Phase) → x < 2 → c.line.phase ≡ ph
      → Q (clocked_of f en c.line (eqb x 1) ph) (latch_of c.latch (clock_act_of f en c.line ph)) m (clock_level_of f en c.line (seen_of f c.line m ph) ph) 0
      → After (event_of x)
  unfolding state_of store_with chip_level_of next_of act_of level_of begun_of
  clock_heard x ph h e q =
      subst After (sym (clock_code x h))
      (subst (λ (p : Phase). Q (clocked_of f en c.line (eqb x 1) p) (latch_of c.latch (clock_act_of f en c.line p)) m (clock_level_of f en c.line (seen_of f c.line m p) p) 0) (sym e) q)

  -- one bit of a byte that is received
  pub bit_heard : (x n : ℕ) (rc : Recv) → x < 2 → c.line.phase ≡ Receive rc → c.line.left ≡ suc n
      → Q (record { core = c.line.core; phase = Receive rc; left = n; shift = c.line.shift % 128 * 2 + x }) c.latch m 1 0 → After (event_of x)
  unfolding clocked_of received_of clock_act_of receive_act_of clock_level_of receive_level_of
  bit_heard x n rc h e z q =
      clock_heard x (Receive rc) h e
      (subst (λ (k : ℕ). Q (received_of f en c.line (eqb x 1) rc k) (latch_of c.latch (receive_act_of f en c.line rc k)) m (receive_level_of f en c.line rc k) 0) (sym z)
      (subst (λ (y : ℕ). Q (record { core = c.line.core; phase = Receive rc; left = n; shift = c.line.shift % 128 * 2 + y }) c.latch m 1 0) (sym (flag_in x h)) q))

  -- its ninth clock
  pub ninth_heard : (x : ℕ) (rc : Recv) → x < 2 → c.line.phase ≡ Receive rc → c.line.left ≡ 0
      → Q (landed (taken_of f en c.line.core rc c.line.shift)) (latch_of c.latch (taken_of f en c.line.core rc c.line.shift).act) m (released_in (taken_of f en c.line.core rc c.line.shift).phase) 0
      → After (event_of x)
  unfolding clocked_of received_of clock_act_of receive_act_of clock_level_of receive_level_of
  ninth_heard x rc h e z q =
      clock_heard x (Receive rc) h e
      (subst (λ (k : ℕ). Q (received_of f en c.line (eqb x 1) rc k) (latch_of c.latch (receive_act_of f en c.line rc k)) m (receive_level_of f en c.line rc k) 0) (sym z) q)

  pub deaf_heard : (x : ℕ) → x < 2 → NoTransfer c.line.phase → Q c.line c.latch m 1 0 → After (event_of x)
  unfolding clocked_of clock_act_of clock_level_of
  deaf_heard x h d q = go c.line.phase refl d
    where
      go : (p : Phase) → c.line.phase ≡ p → NoTransfer p → After (event_of x)
      go Idle e d = clock_heard x Idle h e q
      go (Receive r) e d = absurd d
      go (Send t) e d = absurd d
      go (Busy y) e d = clock_heard x (Busy y) h e q

  -- one bit of a byte that is sent
  pub sent_heard : (x n : ℕ) (t : Target) → x < 2 → c.line.phase ≡ Send t → c.line.left ≡ suc n
      → Q (record { core = moved_of f c.line.core t n; phase = Send t; left = n; shift = c.line.shift }) c.latch m (send_level_of (shown_of f c.line.core.counter m t) (suc n)) 0
      → After (event_of x)
  unfolding clocked_of sent_of clock_act_of clock_level_of seen_of
  sent_heard x n t h e z q =
      clock_heard x (Send t) h e
      (subst (λ (k : ℕ). Q (sent_of f c.line (eqb x 1) t k) c.latch m (send_level_of (shown_of f c.line.core.counter m t) k) 0) (sym z) q)

  -- its ninth clock
  pub end_heard : (x : ℕ) (t : Target) → x < 2 → c.line.phase ≡ Send t → c.line.left ≡ 0
      → Q (at c.line.core (cond (eqb x 1) Idle (Send t))) c.latch m 1 0 → After (event_of x)
  unfolding clocked_of sent_of clock_act_of clock_level_of seen_of send_level_of
  end_heard x t h e z q =
      clock_heard x (Send t) h e
      (subst (λ (k : ℕ). Q (sent_of f c.line (eqb x 1) t k) c.latch m (send_level_of (shown_of f c.line.core.counter m t) k) 0) (sym z) q)

  -- Start
  start_at : (ph : Phase) → c.line.phase ≡ ph → Q (started_of c.line ph) (latch_of c.latch (start_act_of ph)) m 2 0 → After (event_of 2)
  unfolding state_of store_with chip_level_of next_of act_of level_of begun_of event_with
  start_at ph e q = subst (λ (p : Phase). Q (started_of c.line p) (latch_of c.latch (start_act_of p)) m 2 0) (sym e) q

  pub start_free : (ph : Phase) → NotBusy ph → c.line.phase ≡ ph → Q (opened c.line.core) no_latch m 2 0 → After (event_of 2)
  unfolding started_of start_act_of
  start_free Idle d e q = start_at Idle e q
  start_free (Receive rc) d e q = start_at (Receive rc) e q
  start_free (Send t) d e q = start_at (Send t) e q
  start_free (Busy y) d e q = absurd d

  pub start_busy : (y : Cycle) → c.line.phase ≡ Busy y → Q c.line c.latch m 2 0 → After (event_of 2)
  unfolding started_of start_act_of
  start_busy y e q = start_at (Busy y) e q

  -- Stop
  stop_at : (ph : Phase) → c.line.phase ≡ ph → Q (stopped_of c.line ph) (latch_of c.latch (stop_act_of c.line ph)) m 2 (stop_begun_of c.line ph) → After (event_of 3)
  unfolding state_of store_with chip_level_of next_of act_of level_of begun_of event_with
  stop_at ph e q = subst (λ (p : Phase). Q (stopped_of c.line p) (latch_of c.latch (stop_act_of c.line p)) m 2 (stop_begun_of c.line p)) (sym e) q

  pub stop_idle : c.line.phase ≡ Idle → Q (at c.line.core Idle) no_latch m 2 0 → After (event_of 3)
  unfolding stopped_of stop_act_of stop_begun_of
  stop_idle e q = stop_at Idle e q

  pub stop_busy : (y : Cycle) → c.line.phase ≡ Busy y → Q c.line c.latch m 2 0 → After (event_of 3)
  unfolding stopped_of stop_act_of stop_begun_of
  stop_busy y e q = stop_at (Busy y) e q

  stop_by : (rc : Recv) (a : Option Cycle) → c.line.phase ≡ Receive rc → due_of (placed_of c.line) (asks_of rc) ≡ a
      → Q (stopped_by_lem c.line.core a) (latch_of c.latch (stop_act_by a)) m 2 (begun_by a) → After (event_of 3)
  unfolding stopped_of stop_act_of stop_begun_of
  stop_by rc a e z q =
      stop_at (Receive rc) e (subst (λ (a : Option Cycle). Q (stopped_by_lem c.line.core a) (latch_of c.latch (stop_act_by a)) m 2 (begun_by a)) (sym z) q)

  due_none : (b : Bool) → due_of b None ≡ None
  due_none true = refl
  due_none false = refl

  -- a Stop that begins nothing
  pub stop_none : (rc : Recv) → c.line.phase ≡ Receive rc → asks_of rc ≡ None → Q (at c.line.core Idle) no_latch m 2 0 → After (event_of 3)
  stop_none rc e z q = stop_by rc None e (ap (due_of (placed_of c.line)) z ∙ due_none (placed_of c.line)) q

  -- a well-placed Stop
  pub stop_begins : (rc : Recv) (y : Cycle) → c.line.phase ≡ Receive rc → asks_of rc ≡ Some y → c.line.left ≡ 8 → c.line.core.inhibited ≡ false
      → Q (at c.line.core (Busy y)) c.latch m 2 1 → After (event_of 3)
  unfolding placed_of
  stop_begins rc y e z n i q =
      stop_by rc (Some y) e
      (ap (due_of (placed_of c.line)) z ∙ (ap (λ (k : ℕ). due_of (eqb k 8 && not c.line.core.inhibited) (Some y)) n ∙ ap (λ (b : Bool). due_of (not b) (Some y)) i)) q

  -- the end of a cycle
  end_at : (ph : Phase) → c.line.phase ≡ ph → Q (ended_of f c.line ph) (latch_of c.latch (end_act_of ph)) (stored_of f c.line c.latch m ph) 2 0 → After Ends
  unfolding state_of store_with chip_level_of next_of act_of level_of begun_of
  end_at ph e q = subst (λ (p : Phase). Q (ended_of f c.line p) (latch_of c.latch (end_act_of p)) (stored_of f c.line c.latch m p) 2 0) (sym e) q

  pub end_free : (ph : Phase) → NotBusy ph → c.line.phase ≡ ph → Q c.line c.latch m 2 0 → After Ends
  unfolding ended_of end_act_of stored_of
  end_free Idle d e q = end_at Idle e q
  end_free (Receive rc) d e q = end_at (Receive rc) e q
  end_free (Send t) d e q = end_at (Send t) e q
  end_free (Busy y) d e q = absurd d

  pub end_busy : (y : Cycle) → c.line.phase ≡ Busy y → Q (ended_by_of f c.line.core y) no_latch (cycle_stored_of f c.line.core.counter c.latch m y) 2 0 → After Ends
  unfolding ended_of end_act_of stored_of
  end_busy y e q = end_at (Busy y) e q
