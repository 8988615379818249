-- The polls of each page on the tape, with d within the budget: d for every one.
-- Assumes nothing.
use Prim.Native.Nat.{ℕ, zero, suc, ◌+◌, ◌≤◌, ◌<◌}
use mathlib.Core.Path.{◌≡◌, refl, sym, ◌∙◌, ap, subst}
use mathlib.Core.Bool.{Bool, true, false, cond, ◌&&◌, false≢true}
use mathlib.Core.Logic.{◌⊎◌, inl, inr}
use mathlib.Core.List.{List, [], ◌∷◌, ◌++◌}
use lib.ListN.{get_or, replicate}
use lib.Dec.{eqb}
use native.Mathlib.Omega.{arith}
use borrow.Author.Tests.{ne_eqb}
use Rattle.parts.specs.Table.{facts_of}
use Rattle.line.specs.declared.Line.{Line}
use Rattle.state.specs.declared.Chip.{Chip}
use Rattle.chip.specs.Memory.{Mem}
use Rattle.chip.specs.Model.{Model, ours}
use Rattle.driver.specs.declared.Request.{Request}
use Rattle.driver.specs.declared.Slot.{Slot}
use Rattle.driver.specs.declared.Slot.TheVariants.{Select, High, Low, Data, Poll, Turn, Take}
use Rattle.driver.specs.declared.Phase.{Phase}
use Rattle.driver.specs.declared.Phase.TheVariants.{Ready}
use Rattle.driver.specs.declared.Counts.{Counts}
use Rattle.driver.specs.declared.Driver.{Driver}
use Rattle.driver.specs.declared.Answer.{Answer}
use Rattle.driver.specs.declared.Answer.TheVariants.{Send, Done, Refused}
use Rattle.driver.specs.declared.Move.{Move}
use Rattle.driver.specs.declared.Asked.{Asked}
use Rattle.driver.specs.Request.{allowed_of, k_of}
use Rattle.driver.specs.Step.{bit_of, wire_of, slot_byte_of, sent_counts_of}
use Rattle.driver.specs.Machine.{our_driver}
use Rattle.driver_promises.specs.Run.{DriverHeld}
use Rattle.driver_promises.specs.Where.{left_of}
use Rattle.driver_promises.proofs.View.{at, leads, Way, w_done, w_open, w_bit, w_ninth, w_got, w_nack, w_high, w_only, w_low, w_turn, w_data, w_more, w_close, w_drop, w_poll, w_again, w_give, w_page, w_take, w_next, w_end, w_over}
use Rattle.driver_promises.proofs.Inv.{Inv, taken_elim, left_all, left_cut}
use Rattle.driver_promises.proofs.Grow.{bit_lt}
use Rattle.bench.specs.Together.{System, start_of, together_of, end_due_of, turn_of, turns_of}
use Rattle.bench.specs.Tape.{sends_of, sent_code_of, tape_by, turn_events, tape_events_of}
use Rattle.bench_promises.specs.Together.{Begins, answer_of}
use Rattle.bench_promises.specs.Ends.{Writable}
use Rattle.bench_promises.specs.Tape.{odd_after, tries_after, polls_of_pages}
use Rattle.bench_promises.proofs.Steps.{held_of, Step}
use Rattle.bench_promises.proofs.Driven.{Turned, turned}
use Rattle.bench_promises.proofs.Rel.{refusing, Given, F, T}
use Rattle.bench_promises.proofs.Keep.{Sane}
use Rattle.bench_promises.proofs.Whole.{Holds, stepped, G, sane, start_holds}
use Rattle.bench_promises.proofs.Placed.{slot_odd, odd_of, Placed, Known, known, Next, turn_next}
use Rattle.bench_promises.proofs.Turns.{choices, choices_same, turn_holds}
use Rattle.bench_promises.proofs.Live.{not_refusing}
use Rattle.bench_promises.proofs.Exact.{Due, ExactNow, asked_at, due_now, turn_exact, start_exact, none_left}

-- the Stop after a page's polls
abbrev closes : Bool → ℕ → Bool
closes odd e = odd && eqb e 3

not_stop : (odd : Bool) (e : ℕ) → eqb e 3 ≡ false → closes odd e ≡ false
not_stop true e f = f
not_stop false e f = refl

clock_closes : (odd : Bool) (e : ℕ) → e < 2 → closes odd e ≡ false
clock_closes odd e h = not_stop odd e (ne_eqb e 3 (λ z. omega arith))

module _ (g : Given) (s : Sane g) (free : refusing (T g) g.pin g.locked ≡ false) (writes : g.request.reads ≡ false) (d : ℕ) (pos : 1 ≤ d) (most : d ≤ allowed_of g.request) where
  abbrev r : Request
  r = g.request

  abbrev M₀ : Model
  M₀ = ours (F g) r.enable

  -- an event of the driver: of no page's end, or the end of a page that took d polls
  abbrev Closing : Bool → ℕ → Counts → Counts → ℕ → Type 0
  Closing odd t c n e = ((closes odd e ≡ false) × (n.seen ≡ c.seen)) ⊎ ((closes odd e ≡ true) × (t ≡ d) × (left_of r c.seen ≡ suc (left_of r n.seen)))

  module _ (l : Line) (c : Counts) (ys : List ℕ) (v : ℕ) where
    abbrev Closed : Phase → Move → Answer → Type 0
    Closed p mv (Send e) = Closing (odd_of p) c.tries c mv.counts e
    Closed p mv (Done q n) = Unit {0}
    Closed p mv (Refused f q n) = Unit {0}

    bit : (sl : Slot) (b : ℕ) → bit_of (slot_byte_of (wire_of (at r Ready c) (get_or ys c.at 0)) sl) b < 2
    bit sl b = bit_lt (slot_byte_of (wire_of (at r Ready c) (get_or ys c.at 0)) sl) b

    sent_seen : (sl : Slot) → (sent_counts_of sl c).seen ≡ c.seen
    sent_seen Select = refl
    sent_seen High = refl
    sent_seen Low = refl
    sent_seen Data = refl
    sent_seen Poll = refl
    sent_seen Turn = refl
    sent_seen Take = refl

    lead_closes : (sl : Slot) → leads sl ≡ true → closes (slot_odd sl) 3 ≡ false
    lead_closes Select e = refl
    lead_closes High e = refl
    lead_closes Low e = refl
    lead_closes Data e = absurd (false≢true e)
    lead_closes Poll e = absurd (false≢true e)
    lead_closes Turn e = refl
    lead_closes Take e = absurd (false≢true e)

    closed : {p : Phase} {mv : Move} {zs : List ℕ} → Inv r p c → Due g s free writes d pos most p c.tries l v → Way r c v ys p mv zs → Closed p mv mv.answer
    closed i t (w_done e) = tt
    closed i t (w_open n) = inl (refl, refl)
    closed i t (w_bit sl b h) = inl (clock_closes (slot_odd sl) _ (bit sl b), taken_elim (λ (k : Counts). k.seen ≡ c.seen) sl c v (λ x. refl))
    closed i t (w_ninth sl b e h) = inl (clock_closes (slot_odd sl) 1 (omega arith), sent_seen sl)
    closed i t (w_got b e h) = inl (refl, refl)
    closed i t (w_nack sl e h) = inl (lead_closes sl e, refl)
    closed i t (w_high z e) = inl (refl, refl)
    closed i t (w_only z e) = inl (refl, refl)
    closed i t (w_low z) = inl (refl, refl)
    closed i t (w_turn z e) = inl (refl, refl)
    closed i t (w_data z e) = inl (refl, refl)
    closed i t (w_more z n) = inl (refl, refl)
    closed i t (w_close z e) = inl (refl, refl)
    closed i t (w_drop z) = inl (refl, refl)
    closed i t w_poll = inl (refl, refl)
    closed i t (w_again z h) = inl (refl, refl)
    closed i (inl (e, f)) (w_give z h) = absurd (omega arith)
    closed i (inr (e, inl (f, k))) (w_give z h) = absurd (omega arith)
    closed i (inr (e, inr (f, k))) (w_give z h) = absurd (omega arith)
    closed i (inl (e, f)) (w_page z) =
        let q = i.here.0 in
        let o = q.some in
        let n = i.common.low in
        inr (refl, f, left_cut r c.seen (omega arith) ∙ ap (λ (k : ℕ). suc (left_of r k)) (sym q.end))
    closed i (inr (e, f)) (w_page z) = absurd (omega arith)
    closed i t (w_take z) = inl (refl, refl)
    closed i t (w_next n) = inl (refl, refl)
    closed i t (w_end e) = inl (refl, absurd (false≢true (sym writes ∙ i.right)))
    closed i t (w_over f) = tt

  -- ---- a turn
  abbrev ClosedNow : System → Bool → ℕ → System → Answer → Type 0
  ClosedNow y odd t z (Send e) = Closing odd t y.driver.counts z.driver.counts e
  ClosedNow y odd t z (Done q n) = z.driver.counts.seen ≡ y.driver.counts.seen
  ClosedNow y odd t z (Refused f q n) = z.driver.counts.seen ≡ y.driver.counts.seen

  abbrev exactly : System → Type 0
  exactly y = ExactNow g s free writes d pos most y

  turn_closed : (y : System) → Holds g y → exactly y → (odd : Bool) (t : ℕ) → Placed r y.driver.phase odd t y.driver.counts → ClosedNow y odd t (turn_of our_driver M₀ d y) (answer_of y)
  turn_closed y h x odd t k =
      let w = stepped g s y h in
      let l = (asked_at g s free writes d pos most y).chip.line in
      let e : answer_of y ≡ w.move.answer = ap (λ (a : Asked). a.answer) w.asked in
      subst (ClosedNow y odd t (turn_of our_driver M₀ d y)) (sym e)
      (go l w w.move.answer (closed l y.driver.counts y.buffer y.level h.inv (due_now g s free writes d pos most y h x) w.way) (known odd t k w.way)
      (subst (Turned r M₀ d (held_of y) y.level (turn_of our_driver M₀ d y)) e (turned r M₀ d y)))
    where
      go : (l : Line) (w : Step r y) (a : Answer) → Closed l y.driver.counts y.buffer y.level y.driver.phase w.move a → Known y.driver.phase odd t y.driver.counts a
          → Turned r M₀ d (held_of y) y.level (turn_of our_driver M₀ d y) a → ClosedNow y odd t (turn_of our_driver M₀ d y) a
      go l w (Send e) n o u =
          let z : (turn_of our_driver M₀ d y).driver ≡ at r w.move.phase w.move.counts = ap (λ (i : DriverHeld). i.driver) u ∙ ap (λ (i : Asked). i.driver) w.asked in
          subst (λ (i : Driver). Closing odd t y.driver.counts i.counts e) (sym z)
          (subst (λ (b : Bool). Closing b t y.driver.counts w.move.counts e) (sym o.0)
          (subst (λ (i : ℕ). Closing (odd_of y.driver.phase) i y.driver.counts w.move.counts e) (sym o.1) n))
      go l w (Done q i) n o u = ap (λ (i : DriverHeld). i.driver.counts.seen) u.0
      go l w (Refused f q i) n o u = ap (λ (i : DriverHeld). i.driver.counts.seen) u.0

  -- ---- the tape
  skip_end : (b : Bool) (odd : Bool) (t : ℕ) (es : List ℕ) → polls_of_pages odd t (cond b (4 ∷ []) [] ++ es) ≡ polls_of_pages odd t es
  skip_end true true t es = refl
  skip_end true false t es = refl
  skip_end false odd t es = refl

  one_more : (b : Bool) (odd : Bool) (t e : ℕ) (es : List ℕ) → polls_of_pages odd t (tape_by b true 4 e ++ es) ≡ cond (closes odd e) (t ∷ []) [] ++ polls_of_pages (odd_after odd e) (tries_after odd t e) es
  one_more true odd t e es = skip_end true odd t (e ∷ es)
  one_more false odd t e es = refl

  none_more : (b : Bool) (odd : Bool) (t x : ℕ) (es : List ℕ) → polls_of_pages odd t (tape_by b false 4 x ++ es) ≡ polls_of_pages odd t es
  none_more true odd t x es = skip_end true odd t es
  none_more false odd t x es = refl

  -- from y on: so many pages, each with d polls, and as many fewer are left
  pub record Took (y z : System) (odd : Bool) (t : ℕ) (es : List ℕ) : Type 0 where
    pub pages : ℕ
    pub each : polls_of_pages odd t es ≡ replicate pages d
    pub left : pages + left_of r z.driver.counts.seen ≡ left_of r y.driver.counts.seen

  takes : (y u z : System) (b odd : Bool) (t e : ℕ) (es : List ℕ) → Closing odd t y.driver.counts u.driver.counts e → Took u z (odd_after odd e) (tries_after odd t e) es → Took y z odd t (tape_by b true 4 e ++ es)
  takes y u z b odd t e es (inl (f, n)) k =
      record {
        pages = k.pages;
        each = one_more b odd t e es ∙ (ap (λ (x : Bool). cond x (t ∷ []) [] ++ polls_of_pages (odd_after odd e) (tries_after odd t e) es) f ∙ k.each);
        left = k.left ∙ ap (left_of r) n;
      }
  takes y u z b odd t e es (inr (f, q, n)) k =
      let x = k.left in
      record {
        pages = suc k.pages;
        each = one_more b odd t e es
            ∙ (ap (λ (x : Bool). cond x (t ∷ []) [] ++ polls_of_pages (odd_after odd e) (tries_after odd t e) es) f
            ∙ (ap (λ (i : ℕ). i ∷ polls_of_pages (odd_after odd e) (tries_after odd t e) es) q ∙ ap (λ (l : List ℕ). d ∷ l) k.each));
        left = omega arith;
      }

  stays : (y u z : System) (b odd : Bool) (t x : ℕ) (es : List ℕ) → u.driver.counts.seen ≡ y.driver.counts.seen → Took u z odd t es → Took y z odd t (tape_by b false 4 x ++ es)
  stays y u z b odd t x es n k = record { pages = k.pages; each = none_more b odd t x es ∙ k.each; left = k.left ∙ ap (left_of r) n }

  pub tape_took : (n : ℕ) (y : System) → Holds g y → exactly y → (odd : Bool) (t : ℕ) → Placed r y.driver.phase odd t y.driver.counts
      → Took y (turns_of our_driver M₀ d n y) odd t (tape_events_of our_driver M₀ d n y)
  unfolding tape_events_of turns_of turn_events
  tape_took zero y h x odd t k = record { pages = 0; each = refl; left = omega arith }
  tape_took (suc n) y h x odd t k =
      go (answer_of y) (turn_closed y h x odd t k) (turn_next r d pos M₀ y (record { request = h.request; inv = h.inv; size = h.size }) odd t k)
      (λ o i. tape_took n (turn_of our_driver M₀ d y) (turn_holds g s d y h) (turn_exact g s free writes d pos most y h x) o i)
    where
      u : System
      u = turn_of our_driver M₀ d y

      go : (a : Answer) → ClosedNow y odd t (turn_of our_driver M₀ d y) a → Next r d pos y odd t (turn_of our_driver M₀ d y) a
          → ((o : Bool) (i : ℕ) → Placed r (turn_of our_driver M₀ d y).driver.phase o i (turn_of our_driver M₀ d y).driver.counts
          → Took (turn_of our_driver M₀ d y) (turns_of our_driver M₀ d n (turn_of our_driver M₀ d y)) o i (tape_events_of our_driver M₀ d n (turn_of our_driver M₀ d y)))
          → Took y (turns_of our_driver M₀ d n (turn_of our_driver M₀ d y)) odd t (tape_by (end_due_of d y) (sends_of a) 4 (sent_code_of a) ++ tape_events_of our_driver M₀ d n (turn_of our_driver M₀ d y))
      go (Send e) p w f = takes y u _ (end_due_of d y) odd t e _ p (f (odd_after odd e) (tries_after odd t e) w.0)
      go (Done q i) p w f = stays y u _ (end_due_of d y) odd t 0 _ p (f odd t w.0)
      go (Refused z q i) p w f = stays y u _ (end_due_of d y) odd t 0 _ p (f odd t w.0)

-- ---- a write that is done
module _ (r : Request) (xs : List ℕ) (c : Chip) (m : Mem) (d n : ℕ) (w : r.reads ≡ false) (b : Begins r xs c m) (u : Writable r.place c.line.core) (lo : 1 ≤ d) (hi : d ≤ allowed_of r) where
  abbrev M₁ : Model
  M₁ = ours (facts_of r.part) r.enable

  abbrev first : System
  first = start_of r xs c m

  pub pages_exact : (q k : ℕ) → answer_of (together_of our_driver M₁ (choices (facts_of r.part) r.enable d n first) first) ≡ Done q k
      → polls_of_pages false 0 (tape_events_of our_driver M₁ d n first) ≡ replicate (k_of r) d
  pages_exact q k e =
      let t = tape_took (G r xs c m b) (sane r xs c m b) (not_refusing r.place c u) w d lo hi n first (start_holds r xs c m b) (start_exact r xs c m d n w b u lo hi) false 0 (λ _. (refl, refl)) in
      let x = t.left in
      let z = ap (λ (y : System). left_of r y.driver.counts.seen) (choices_same (facts_of r.part) r.enable d n first) in
      let p : t.pages ≡ k_of r = omega (arith, none_left r xs c m d n w b u lo hi q k e, left_all r) in
      t.each ∙ ap (λ (i : ℕ). replicate i d) p
