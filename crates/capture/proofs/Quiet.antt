-- Clocks that leave latches and memory alone: what the definitions say of them. The quick way of the code rests on this.
-- Assumes nothing.
use Prim.Native.Nat.{ℕ, ◌+◌, ◌-◌, ◌*◌, ◌/◌, ◌%◌, ◌≤◌, ◌<◌}
use mathlib.Core.Path.{◌≡◌, ◌∙◌, sym, ap, refl, subst}
use mathlib.Core.Bool.{Bool, true}
use mathlib.Core.List.{List, []}
use native.Mathlib.Omega.{arith}
use lib.Dec.{eqb, ltb}
use borrow.Author.Tests.{ltb-true}
use Rattle.parts.specs.declared.Facts.{Facts}
use Rattle.parts.specs.declared.Event.TheVariants.{Clock}
use Rattle.parts.specs.declared.Loss.TheVariants.{Old}
use Rattle.parts.specs.Events.{event_of}
use Rattle.parts.proofs.Laws.{clock_code}
use Rattle.parts.proofs.Tests.{and_both}
use Rattle.line.specs.declared.Target.{Target}
use Rattle.line.specs.declared.Recv.{Recv}
use Rattle.line.specs.declared.Cycle.{Cycle}
use Rattle.line.specs.declared.Phase.{Phase}
use Rattle.line.specs.declared.Phase.TheVariants.{Idle, Receive, Send, Busy}
use Rattle.line.specs.declared.Line.{Line}
use Rattle.line.specs.Rules.{sent_of, send_level_of, clocked_of, clock_act_of, clock_level_of, next_of, act_of, level_of, begun_of}
use Rattle.chip.specs.Memory.{Mem, chip, store_with, state_of, chip_level_of, seen_of}
use Rattle.chip.specs.Model.{ours}
use Rattle.chip.specs.Onward.{ignores_of}
use Rattle.chip.proofs.Quick.{Passes, passes_ignored, passes_in}
use Rattle.capture.specs.declared.engine.Step.{Step}
use Rattle.capture.specs.Steps.{quiet_of, quiet_in}
use Rattle.capture.specs.Course.{Moves}

-- a quiet event is a clock, and no byte that comes in is whole
pub quiet_clock : (l : Line) (e : ℕ) → quiet_of l e ≡ true → e < 2
unfolding quiet_of
quiet_clock l e h = ltb-true e 2 (and_both (ltb e 2) (quiet_in l.phase l.left) h).0

pub quiet_left : (l : Line) (e : ℕ) (r : Recv) → l.phase ≡ Receive r → quiet_of l e ≡ true → 0 < l.left
unfolding quiet_of
quiet_left l e r p h = ltb-true 0 l.left (sym (ap (λ (q : Phase). quiet_in q l.left) p) ∙ (and_both (ltb e 2) (quiet_in l.phase l.left) h).1)

module _ (f : Facts) (m : Mem) (l : Line) (e : ℕ) (small : e < 2) (r : Step) where
  moves : (l' : Line) (x : ℕ) → Passes f m l (event_of e) l' x → r ≡ record { line = l'; level = x; cycles = 0 } → (en : ℕ) (k : List ℕ)
      → Moves (ours f en) (chip l k) m e r (chip r.line k) m
  unfolding state_of store_with chip_level_of
  moves l' x p q en k =
      record { state = rw (q, p.next en, p.act en) refl; stored = sym (p.stays [] k); level = rw q (sym (p.level en)); begun = rw q (sym p.begun) }

  ignored : 2 ≤ ignores_of l.phase → r ≡ record { line = l; level = 1; cycles = 0 } → (en : ℕ) (k : List ℕ) → Moves (ours f en) (chip l k) m e r (chip r.line k) m
  ignored h q =
      let one : 1 + e / 2 ≡ 1 = omega arith in
      moves l 1 (subst (λ (x : ℕ). Passes f m l (event_of e) l x) one (passes_ignored f m l e (omega arith) Old)) q

  pub moves_idle : l.phase ≡ Idle → r ≡ record { line = l; level = 1; cycles = 0 } → (en : ℕ) (k : List ℕ) → Moves (ours f en) (chip l k) m e r (chip r.line k) m
  moves_idle h = ignored (omega (arith, ap ignores_of h))

  pub moves_busy : (y : Cycle) → l.phase ≡ Busy y → r ≡ record { line = l; level = 1; cycles = 0 } → (en : ℕ) (k : List ℕ) → Moves (ours f en) (chip l k) m e r (chip r.line k) m
  moves_busy y h = ignored (omega (arith, ap ignores_of h))

  pub moves_in : (v : Recv) → l.phase ≡ Receive v → 0 < l.left
      → r ≡ record { line = record { core = l.core; phase = l.phase; left = l.left - 1; shift = l.shift % 128 * 2 + e }; level = 1; cycles = 0 }
      → (en : ℕ) (k : List ℕ) → Moves (ours f en) (chip l k) m e r (chip r.line k) m
  moves_in v h pos q =
      moves (record { core = l.core; phase = l.phase; left = l.left - 1; shift = l.shift % 128 * 2 + e }) 1
      (subst
      (λ (z : Phase). Passes f m (record { core = l.core; phase = z; left = l.left; shift = l.shift }) (event_of e)
      (record { core = l.core; phase = z; left = l.left - 1; shift = l.shift % 128 * 2 + e }) 1)
      (sym h) (passes_in f m l.core v l.left l.shift e pos small Old)) q

  bit_out : (v : Bool) (t : Target) → l.phase ≡ Send t → Passes f m l (Clock v) (sent_of f l v t l.left) (send_level_of (seen_of f l m l.phase) l.left)
  unfolding store_with next_of act_of level_of begun_of clocked_of clock_act_of clock_level_of
  bit_out v t h = record { next = λ en. rw h refl; act = λ en. rw h refl; level = λ en. rw h refl; begun = refl; stays = λ page k. refl }

  pub moves_out : (t : Target) → l.phase ≡ Send t
      → r ≡ record { line = sent_of f l (eqb e 1) t l.left; level = send_level_of (seen_of f l m l.phase) l.left; cycles = 0 }
      → (en : ℕ) (k : List ℕ) → Moves (ours f en) (chip l k) m e r (chip r.line k) m
  moves_out t h q =
      moves (sent_of f l (eqb e 1) t l.left) (send_level_of (seen_of f l m l.phase) l.left) (rw (clock_code e small) (bit_out (eqb e 1) t h)) q
