-- On an idle chip whose pin and lock allow the write, each part's own Stop begins a cycle, and no other event does.
-- Assumes nothing.
use Prim.Native.Nat.{ℕ, zero, suc, ◌+◌, ◌≤◌, ◌<◌}
use mathlib.Core.Path.{◌≡◌, refl, sym, ◌∙◌, ap, subst}
use mathlib.Core.Bool.{Bool, true, false, cond, not, ◌&&◌, false≢true}
use mathlib.Core.Logic.{inl, inr}
use mathlib.Core.List.{List, [], ◌∷◌, ◌++◌}
use lib.ListN.{get_or, take}
use lib.Dec.{eqb}
use native.Mathlib.Omega.{arith}
use borrow.Author.Tests.{ne_eqb}
use Rattle.parts.proofs.Laws.{branch}
use Rattle.parts.specs.Events.{event_with, event_of}
use Rattle.line.specs.Rules.{begun_of}
use Rattle.line.specs.declared.Line.{Line}
use Rattle.state.specs.declared.Chip.{Chip}
use Rattle.chip.specs.Memory.{Mem}
use Rattle.chip.specs.Model.{Model, ours}
use Rattle.chip.specs.Runs.{cycles_of}
use Rattle.driver.specs.declared.Request.{Request}
use Rattle.driver.specs.declared.Slot.{Slot}
use Rattle.driver.specs.declared.Slot.TheVariants.{High, Low, Data, Take}
use Rattle.driver.specs.declared.Phase.{Phase}
use Rattle.driver.specs.declared.Phase.TheVariants.{Ready}
use Rattle.driver.specs.declared.Counts.{Counts}
use Rattle.driver.specs.declared.Answer.{Answer}
use Rattle.driver.specs.declared.Answer.TheVariants.{Send, Done, Refused}
use Rattle.driver.specs.declared.Move.{Move}
use Rattle.driver.specs.declared.Asked.{Asked}
use Rattle.driver.specs.Step.{bit_of, wire_of, slot_byte_of, driver_next_of, buffer_of}
use Rattle.driver.specs.Machine.{our_driver}
use Rattle.driver_promises.specs.Run.{Finished}
use Rattle.driver_promises.proofs.View.{at, Way, w_done, w_open, w_bit, w_ninth, w_got, w_nack, w_high, w_only, w_low, w_turn, w_data, w_more, w_close, w_drop, w_poll, w_again, w_give, w_page, w_take, w_next, w_end, w_over}
use Rattle.driver_promises.proofs.Inv.{Inv}
use Rattle.driver_promises.proofs.Grow.{bit_lt}
use Rattle.bench.specs.Together.{System, answered_by, asked_of, cycle_ended_of, end_due_of, turn_of}
use Rattle.bench.specs.Tape.{sends_of, sent_code_of, tape_by, turn_events, tape_events_of}
use Rattle.bench_promises.specs.Together.{answer_of}
use Rattle.bench_promises.specs.Tape.{odd_after, tries_after, parts_ended}
use Rattle.bench_promises.proofs.Rel.{refusing, Given, F, T, InHeard, Rel}
use Rattle.bench_promises.proofs.Keep.{Sane, no_nack}
use Rattle.bench_promises.proofs.Whole.{Holds, stepped, ended_holds}
use Rattle.bench_promises.proofs.Placed.{slot_odd, odd_of, Placed, Known, known, Next, turn_next}
use Rattle.bench_promises.proofs.Cycles.{rests, Begun, begun_is}
use Rattle.bench_promises.proofs.Turns.{turn_due, turn_plain, turn_holds}

-- ---- event by event
abbrev part_at : Bool → ℕ → ℕ
part_at odd e = cond (not odd && eqb e 3) 1 0

abbrev pub Each : Model → Chip → Bool → List ℕ → Type 0
Each M c odd [] = Unit {0}
Each M c odd (e ∷ es) = (M.begun c e ≡ part_at odd e) × Each M (M.next c e) (odd_after odd e) es

pub each_cycle : (M : Model) (c : Chip) (odd : Bool) (es : List ℕ) → Each M c odd es → (k : ℕ) → cycles_of M c (take k es) ≡ parts_ended odd (take k es)
unfolding cycles_of
each_cycle M c odd es h zero = refl
each_cycle M c odd [] h (suc k) = refl
each_cycle M c odd (e ∷ es) h (suc k) = let z = each_cycle M (M.next c e) (odd_after odd e) es h.1 k in let y = h.0 in omega arith

-- an event that is no Stop ends no part
no_part : (odd : Bool) (e : ℕ) → eqb e 3 ≡ false → part_at odd e ≡ 0
no_part true e f = refl
no_part false e f = ap {B = ℕ} (λ (b : Bool). cond b 1 0) f

clock_part : (odd : Bool) (e : ℕ) → e < 2 → 0 ≡ part_at odd e
clock_part odd e h = sym (no_part odd e (ne_eqb e 3 (λ z. omega arith)))

module _ (g : Given) (s : Sane g) (free : refusing (T g) g.pin g.locked ≡ false) (writes : g.request.reads ≡ false) where
  abbrev r : Request
  r = g.request

  module _ (ch : Chip) (m : Mem) (c : Counts) (ys : List ℕ) (v : ℕ) where
    abbrev l : Line
    l = ch.line

    abbrev Ends : Phase → Move → Answer → Type 0
    Ends p mv (Send e) = rests mv.phase ≡ part_at (odd_of p) e
    Ends p mv (Done q n) = Unit {0}
    Ends p mv (Refused f q n) = Unit {0}

    bit : (sl : Slot) (b : ℕ) → bit_of (slot_byte_of (wire_of (at r Ready c) (get_or ys c.at 0)) sl) b < 2
    bit sl b = bit_lt (slot_byte_of (wire_of (at r Ready c) (get_or ys c.at 0)) sl) b

    part_ends : {p : Phase} {mv : Move} {zs : List ℕ} → Inv r p c → Rel g p c ys l ch.latch m v → Way r c v ys p mv zs → Ends p mv mv.answer
    part_ends i o (w_done e) = tt
    part_ends i o (w_open f) = refl
    part_ends i o (w_bit sl b h) = clock_part (slot_odd sl) _ (bit sl b)
    part_ends i o (w_ninth sl b e h) = clock_part (slot_odd sl) 1 (omega arith)
    part_ends i o (w_got b e h) = clock_part false _ (let x : cond (eqb (c.at + 1) r.length) 1 0 < 2 = branch (λ (y : ℕ). y < 2) (eqb (c.at + 1) r.length) (λ _. omega arith) (λ _. omega arith) in x)
    part_ends i o (w_nack sl e h) = absurd (no_nack g s ch m c ys v sl e o h)
    part_ends i o (w_high z e) = clock_part false _ (bit High 0)
    part_ends i o (w_only z e) = clock_part false _ (bit Low 0)
    part_ends i o (w_low z) = clock_part false _ (bit Low 0)
    part_ends i o (w_turn z e) = refl
    part_ends i o (w_data z e) = clock_part false _ (bit Data 0)
    part_ends i o (w_more z f) = clock_part false _ (bit Data 0)
    part_ends i o (w_close z e) = refl
    part_ends i o (w_drop z) = absurd (go o.place)
      where
        go : InHeard g Data c l ch.latch m v → ⊥
        go (inl q) = let e = q.level in omega arith
        go (inr (q, h)) = false≢true (sym free ∙ q.shut)
    part_ends i o w_poll = refl
    part_ends i o (w_again z h) = refl
    part_ends i o (w_give z h) = refl
    part_ends i o (w_page z) = refl
    part_ends i o (w_take z) = clock_part false _ (bit Take 0)
    part_ends i o (w_next f) = clock_part false _ (bit Take 0)
    part_ends i o (w_end e) = absurd (false≢true (sym writes ∙ i.right))
    part_ends i o (w_over f) = tt

  -- ---- in a system, asked next
  abbrev M₀ : Model
  M₀ = ours (F g) r.enable

  abbrev Begins : System → Bool → Answer → Type 0
  Begins x odd (Send e) = begun_of x.chip.line (event_of e) ≡ part_at odd e
  Begins x odd (Done q n) = Unit {0}
  Begins x odd (Refused f q n) = Unit {0}

  begins : (x : System) → Holds g x → (odd : Bool) (t : ℕ) → Placed r x.driver.phase odd t x.driver.counts → Begins x odd (answer_of x)
  begins x h odd t k =
      let w = stepped g s x h in
      let c = x.driver.counts in
      subst (Begins x odd) (sym (ap (λ (a : Asked). a.answer) w.asked))
      (go w.move w.move.answer (begun_is g s x.chip x.mem c x.buffer x.level h.inv h.rel w.way)
      (part_ends x.chip x.mem c x.buffer x.level h.inv h.rel w.way) (known odd t k w.way))
    where
      go : (mv : Move) (a : Answer) → Begun g s x.chip x.mem x.driver.counts x.buffer x.level mv a → Ends x.chip x.mem x.driver.counts x.buffer x.level x.driver.phase mv a
          → Known x.driver.phase odd t x.driver.counts a → Begins x odd a
      go mv (Send e) b p o = b ∙ (p ∙ ap (λ (i : Bool). part_at i e) (sym o.0))
      go mv (Done q n) b p o = tt
      go mv (Refused f q n) b p o = tt

  abbrev chip_after : Chip → Answer → Chip
  chip_after c (Send e) = M₀.next c e
  chip_after c (Done q n) = c
  chip_after c (Refused f q n) = c

  asked_chip : (x : System) → (asked_of our_driver M₀ x).chip ≡ chip_after x.chip (answer_of x)
  unfolding asked_of
  asked_chip x = go (answer_of x)
    where
      go : (a : Answer) → (answered_by M₀ x (driver_next_of x.driver x.level x.buffer).driver (buffer_of x.driver x.level x.buffer) a).chip ≡ chip_after x.chip a
      go (Send e) = refl
      go (Done q n) = refl
      go (Refused f q n) = refl

  -- an end begins none
  end_begins : (c : Chip) (odd : Bool) → M₀.begun c 4 ≡ part_at odd 4
  unfolding begun_of event_with
  end_begins c odd = sym (no_part odd 4 refl)

  -- ---- one turn more
  asked_each : (x : System) (z : Chip) (odd : Bool) (es : List ℕ) (a : Answer) → Begins x odd a → z ≡ chip_after x.chip a
      → ((e : ℕ) → a ≡ Send e → Each M₀ z (odd_after odd e) es) → (Finished a → Each M₀ z odd es) → Each M₀ x.chip odd (cond (sends_of a) (sent_code_of a ∷ []) [] ++ es)
  asked_each x z odd es (Send e) b q f n = (b, subst (λ (c : Chip). Each M₀ c (odd_after odd e) es) q (f e refl))
  asked_each x z odd es (Done p i) b q f n = subst (λ (c : Chip). Each M₀ c odd es) q (n tt)
  asked_each x z odd es (Refused y p i) b q f n = subst (λ (c : Chip). Each M₀ c odd es) q (n tt)

  module _ (d : ℕ) (pos : 1 ≤ d) where
    turn_each : (y : System) → Holds g y → (odd : Bool) (t : ℕ) → Placed r y.driver.phase odd t y.driver.counts → (es : List ℕ)
        → ((e : ℕ) → answer_of y ≡ Send e → Each M₀ (turn_of our_driver M₀ d y).chip (odd_after odd e) es)
        → (Finished (answer_of y) → Each M₀ (turn_of our_driver M₀ d y).chip odd es)
        → Each M₀ y.chip odd (turn_events our_driver d y ++ es)
    unfolding turn_events cycle_ended_of
    turn_each y h odd t k es f n = go (end_due_of d y) refl
      where
        z : Chip
        z = (turn_of our_driver M₀ d y).chip

        x : System
        x = cycle_ended_of M₀ y

        go : (b : Bool) → end_due_of d y ≡ b → Each M₀ y.chip odd (tape_by b (sends_of (answer_of y)) 4 (sent_code_of (answer_of y)) ++ es)
        go true e =
            let q = ap (λ (u : System). u.chip) (turn_due (F g) r.enable d y e) ∙ asked_chip (cycle_ended_of M₀ y) in
            (end_begins y.chip odd, asked_each (cycle_ended_of M₀ y) z odd es (answer_of y) (begins (cycle_ended_of M₀ y) (ended_holds g s y h) odd t k) q f n)
        go false e =
            let q = ap (λ (u : System). u.chip) (turn_plain (F g) r.enable d y e) ∙ asked_chip y in
            asked_each y z odd es (answer_of y) (begins y h odd t k) q f n

    pub tape_each : (n : ℕ) (y : System) → Holds g y → (odd : Bool) (t : ℕ) → Placed r y.driver.phase odd t y.driver.counts → Each M₀ y.chip odd (tape_events_of our_driver M₀ d n y)
    unfolding tape_events_of
    tape_each zero y h odd t k = tt
    tape_each (suc n) y h odd t k =
        let w = turn_next r d pos M₀ y (record { request = h.request; inv = h.inv; size = h.size }) odd t k in
        let ih : (o : Bool) (i : ℕ) → Placed r (turn_of our_driver M₀ d y).driver.phase o i (turn_of our_driver M₀ d y).driver.counts → Each M₀ (turn_of our_driver M₀ d y).chip o (tape_events_of our_driver M₀ d n (turn_of our_driver M₀ d y)) =
        λ o i. tape_each n (turn_of our_driver M₀ d y) (turn_holds g s d y h) o i
        in
        turn_each y h odd t k (tape_events_of our_driver M₀ d n (turn_of our_driver M₀ d y))
        (λ e q. ih (odd_after odd e) (tries_after odd t e) (subst (Next r d pos y odd t (turn_of our_driver M₀ d y)) q w).0)
        (λ f. ih odd t (still (answer_of y) f w))
      where
        still : (a : Answer) → Finished a → Next r d pos y odd t (turn_of our_driver M₀ d y) a → Placed r (turn_of our_driver M₀ d y).driver.phase odd t (turn_of our_driver M₀ d y).driver.counts
        still (Send e) f w = absurd f
        still (Done q i) f w = w.0
        still (Refused x q i) f w = w.0
