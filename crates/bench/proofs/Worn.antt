-- Laws of the counts: an end counts as the chip stands before it, what the driver sends counts for nothing, and the rest of the run counts the
-- rest of the tape.
-- Assumes nothing.
use Prim.Native.Nat.{ℕ, zero, suc, ◌-◌, ◌<◌}
use mathlib.Core.Path.{◌≡◌, refl, sym, ◌∙◌, ap}
use mathlib.Core.Bool.{Bool, true, false, cond}
use mathlib.Core.List.{List, []}
use native.Mathlib.Omega.{arith}
use Rattle.parts.specs.declared.Facts.{Facts}
use Rattle.parts.specs.Events.{event_with}
use Rattle.parts.proofs.Tests.{neither}
use Rattle.state.specs.declared.Chip.{Chip}
use Rattle.chip.specs.Model.{Model, ours}
use Rattle.chip.specs.Runs.{after_of, closes_of}
use Rattle.chip.proofs.Turns.{low_open}
use Rattle.wear.specs.declared.Most.{Most}
use Rattle.wear.specs.Wear.{closed_of, worn_of, our_counter, worn_by}
use Rattle.wear.specs.Report.{most_of}
use Rattle.wear.specs.Worst.{worse_of, raised_of}
use Rattle.wear.proofs.Grown.{worst_kept}
use Rattle.wear.proofs.Stretches.{worn_join, worn_open, worn_close, grew_counter}
use Rattle.driver.specs.declared.Driver.{Driver}
use Rattle.driver.specs.declared.Answer.{Answer}
use Rattle.driver.specs.declared.Answer.TheVariants.{Send, Done, Refused}
use Rattle.driver.specs.Step.{driver_next_of}
use Rattle.driver.specs.Machine.{our_driver}
use Rattle.bench.specs.Together.{System, answered_by, asked_of, cycle_ended_of, end_due_of, turn_of}
use Rattle.bench.specs.Tape.{sends_of, sent_code_of, tape_by, turn_events, tape_events_of}
use Rattle.bench.specs.Held.{going_of}
use Rattle.bench.proofs.Laws.{Small, small, still}
use Rattle.bench.proofs.Taped.{rest_events}

-- ---- the worst, where an end raised counts

pub end_worst : (f : Facts) (c : Chip) (k k' : List ℕ) (h r w : Most) → h ≡ most_of k → k' ≡ closed_of f c k → r ≡ raised_of k k' → w ≡ worse_of h r → w ≡ most_of k'
unfolding closes_of
end_worst f c k k' h r w hh hk hr hw = hw ∙ rw (hh, hr) (worst_kept k k' (grew_counter f c k 4 k' (hk ∙ sym (worn_close f c k 4 refl))))

-- ---- one turn

module _ (f : Facts) (en : ℕ) (c : Chip) (k : List ℕ) where
  worn_by_lem : (x : Bool) (a : Answer) → Small a → cond x (closed_of f c k) k ≡ worn_by our_counter (ours f en) f c k (tape_by x (sends_of a) 4 (sent_code_of a))
  unfolding worn_by worn_of event_with
  worn_by_lem true (Send e) s = sym (worn_open f ((ours f en).next c 4) (closed_of f c k) e (low_open e s))
  worn_by_lem true (Done polls bytes) s = refl
  worn_by_lem true (Refused r polls bytes) s = refl
  worn_by_lem false (Send e) s = sym (worn_open f c k e (low_open e s))
  worn_by_lem false (Done polls bytes) s = refl
  worn_by_lem false (Refused r polls bytes) s = refl

  -- the counts after the end that is due are those of the turn's events
  pub turn_worn : (d : ℕ) (s : System) (x : Bool) (k' : List ℕ) → x ≡ end_due_of d s → k' ≡ cond x (closed_of f c k) k
      → k' ≡ worn_by our_counter (ours f en) f c k (turn_events our_driver d s)
  unfolding turn_events
  turn_worn d s x k' hx hk =
      hk ∙ ap (λ (z : Bool). cond z (closed_of f c k) k) hx ∙ worn_by_lem (end_due_of d s) (driver_next_of s.driver s.level s.buffer).answer (small s.driver s.level s.buffer)

module _ (M : Model) (s : System) where
  after_by : (x : Bool) (d : Driver) (b : List ℕ) (a : Answer) → after_of M s.chip (tape_by x (sends_of a) 4 (sent_code_of a)) ≡ (answered_by M (cond x (cycle_ended_of M s) s) d b a).chip
  unfolding after_of cycle_ended_of
  after_by true d b (Send e) = refl
  after_by true d b (Done polls bytes) = refl
  after_by true d b (Refused r polls bytes) = refl
  after_by false d b (Send e) = refl
  after_by false d b (Done polls bytes) = refl
  after_by false d b (Refused r polls bytes) = refl

  after_asked : (x : Bool)
      → after_of M s.chip (tape_by x (sends_of (driver_next_of s.driver s.level s.buffer).answer) 4 (sent_code_of (driver_next_of s.driver s.level s.buffer).answer)) ≡ (asked_of our_driver M (cond x (cycle_ended_of M s) s)).chip
  unfolding asked_of cycle_ended_of
  after_asked true = after_by true _ _ (driver_next_of s.driver s.level s.buffer).answer
  after_asked false = after_by false _ _ (driver_next_of s.driver s.level s.buffer).answer

  -- the chip, given a turn's events, is that of the turn
  after_turn : (d : ℕ) → after_of M s.chip (turn_events our_driver d s) ≡ (turn_of our_driver M d s).chip
  unfolding turn_events turn_of
  after_turn d = after_asked (end_due_of d s)

-- ---- the turns that are left

module _ (f : Facts) (en d : ℕ) where
  -- what the tape of n turns makes of the counts k
  abbrev pub along : ℕ → System → List ℕ → List ℕ
  along n s k = worn_by our_counter (ours f en) f s.chip k (tape_events_of our_driver (ours f en) d n s)

  pub worn_end : (n : ℕ) (s : System) (k w : List ℕ) → n ≡ 0 → along n s k ≡ w → k ≡ w
  unfolding worn_by tape_events_of
  worn_end zero s k w e g = g
  worn_end (suc n) s k w e g = absurd (omega arith)

  quiet_turn : (s : System) → going_of d s ≡ false → turn_events our_driver d s ≡ []
  unfolding going_of turn_events
  quiet_turn s h =
      let w = neither (end_due_of d s) _ h in
      rw (w.0, w.1) refl

  quiet_tape : (s : System) → going_of d s ≡ false → (n : ℕ) → tape_events_of our_driver (ours f en) d n s ≡ []
  unfolding tape_events_of
  quiet_tape s h zero = refl
  quiet_tape s h (suc n) = rw (quiet_turn s h, still f en d s h) (quiet_tape s h n)

  module _ (s t : System) (k k' : List ℕ) (ht : t ≡ turn_of our_driver (ours f en) d s) (hk : k' ≡ worn_by our_counter (ours f en) f s.chip k (turn_events our_driver d s))
      (n : ℕ) (w : List ℕ) (h : 0 < n) (g : along n s k ≡ w) where
    pub worn_on : along (n - 1) t k' ≡ w
    worn_on =
        let T = turn_of our_driver (ours f en) d s in
        let rest = tape_events_of our_driver (ours f en) d (n - 1) T in
        let now = worn_by our_counter (ours f en) f s.chip k (turn_events our_driver d s) in
        ap (λ (z : System). along (n - 1) z k') ht
        ∙ ap (along (n - 1) T) hk
        ∙ ap (λ (c : Chip). worn_by our_counter (ours f en) f c now rest) (sym (after_turn (ours f en) s d))
        ∙ sym (worn_join our_counter (ours f en) f s.chip k (turn_events our_driver d s) rest)
        ∙ ap (worn_by our_counter (ours f en) f s.chip k) (sym (rest_events f en d n s h))
        ∙ g

    -- where neither an end was due nor an event was sent
    pub worn_still : going_of d s ≡ false → k' ≡ w
    unfolding worn_by
    worn_still q =
        hk ∙ ap (worn_by our_counter (ours f en) f s.chip k) (quiet_turn s q) ∙ sym (ap (worn_by our_counter (ours f en) f s.chip k) (quiet_tape s q n)) ∙ g
