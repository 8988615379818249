-- Each end of a cycle on the tape stands just before the Start of poll number d of its page, and nowhere else, on any chip.
-- Assumes nothing.
use Prim.Native.Nat.{ℕ, zero, suc, ◌+◌, ◌≤◌, ◌<◌}
use mathlib.Core.Path.{◌≡◌, refl, sym, ◌∙◌, ap, subst}
use mathlib.Core.Bool.{Bool, true, false, cond, ◌&&◌, false≢true}
use mathlib.Core.List.{List, [], ◌∷◌, ◌++◌}
use lib.ListN.{get_or}
use lib.Dec.{eqb}
use native.Mathlib.Omega.{arith}
use borrow.Author.Tests.{ne_eqb, le-ltb}
use Rattle.parts.proofs.Laws.{branch}
use Rattle.chip.specs.Model.{Model}
use Rattle.driver.specs.declared.Request.{Request}
use Rattle.driver.specs.declared.Slot.{Slot}
use Rattle.driver.specs.declared.Slot.TheVariants.{Select, High, Low, Data, Poll, Turn, Take}
use Rattle.driver.specs.declared.Phase.{Phase}
use Rattle.driver.specs.declared.Phase.TheVariants.{Ready, Bits, Heard, Rest, Over}
use Rattle.driver.specs.declared.Counts.{Counts}
use Rattle.driver.specs.declared.Driver.{Driver}
use Rattle.driver.specs.declared.Answer.{Answer}
use Rattle.driver.specs.declared.Answer.TheVariants.{Send, Done, Refused}
use Rattle.driver.specs.declared.Move.{Move}
use Rattle.driver.specs.declared.Asked.{Asked}
use Rattle.driver.specs.Request.{allowed_of}
use Rattle.driver.specs.Step.{bit_of, wire_of, slot_byte_of, sent_counts_of}
use Rattle.driver.specs.Machine.{our_driver}
use Rattle.driver_promises.specs.Run.{DriverHeld}
use Rattle.driver_promises.proofs.View.{at, leads, clock_of, Way, w_done, w_open, w_bit, w_ninth, w_got, w_nack, w_high, w_only, w_low, w_turn, w_data, w_more, w_close, w_drop, w_poll, w_again, w_give, w_page, w_take, w_next, w_end, w_over}
use Rattle.driver_promises.proofs.Inv.{Inv, taken_elim}
use Rattle.driver_promises.proofs.Grow.{bit_lt}
use Rattle.bench.specs.Together.{System, poll_by, poll_next, end_due_of, turn_of}
use Rattle.bench.specs.Tape.{sends_of, sent_code_of, tape_by, turn_events, tape_events_of}
use Rattle.bench_promises.specs.Together.{answer_of}
use Rattle.bench_promises.specs.Tape.{without_ends, odd_after, is_poll, tries_after, ends_put}
use Rattle.bench_promises.proofs.Steps.{held_of, Drives, Step, step, again_next}
use Rattle.bench_promises.proofs.Driven.{Coded, sends_coded, kept, dropped, turn_drives, Turned, turned}

-- ---- the Stops and polls so far, by the driver's phase

abbrev pub slot_odd : Slot → Bool
slot_odd Select = false
slot_odd High = false
slot_odd Low = false
slot_odd Data = false
slot_odd Poll = true
slot_odd Turn = false
slot_odd Take = false

abbrev pub odd_of : Phase → Bool
odd_of Ready = false
odd_of (Bits s b) = slot_odd s
odd_of (Heard s) = slot_odd s
odd_of Rest = true
odd_of (Over f) = false

-- who has finished sends no more, so nothing is asked there
abbrev pub Placed : Request → Phase → Bool → ℕ → Counts → Type 0
Placed r Ready odd t c = (c.at ≡ r.length → ⊥) → (odd ≡ false) × (t ≡ c.tries)
Placed r (Bits s b) odd t c = (odd ≡ slot_odd s) × (t ≡ c.tries)
Placed r (Heard s) odd t c = (odd ≡ slot_odd s) × (t ≡ c.tries)
Placed r Rest odd t c = (odd ≡ true) × (t ≡ c.tries)
Placed r (Over f) odd t c = Unit {0}

abbrev pub Known : Phase → Bool → ℕ → Counts → Answer → Type 0
Known p odd t c (Send e) = (odd ≡ odd_of p) × (t ≡ c.tries)
Known p odd t c (Done q n) = Unit {0}
Known p odd t c (Refused f q n) = Unit {0}

pub known : {r : Request} {c : Counts} {v : ℕ} {ys zs : List ℕ} {p : Phase} {mv : Move} (odd : Bool) (t : ℕ) → Placed r p odd t c → Way r c v ys p mv zs → Known p odd t c mv.answer
known odd t k (w_done e) = tt
known odd t k (w_open n) = k n
known odd t k (w_bit s b h) = k
known odd t k (w_ninth s b e h) = k
known odd t k (w_got b e h) = k
known odd t k (w_nack s e h) = k
known odd t k (w_high z e) = k
known odd t k (w_only z e) = k
known odd t k (w_low z) = k
known odd t k (w_turn z e) = k
known odd t k (w_data z e) = k
known odd t k (w_more z n) = k
known odd t k (w_close z e) = k
known odd t k (w_drop z) = k
known odd t k w_poll = k
known odd t k (w_again z o) = k
known odd t k (w_give z o) = k
known odd t k (w_page z) = k
known odd t k (w_take z) = k
known odd t k (w_next n) = k
known odd t k (w_end e) = k
known odd t k (w_over f) = tt

-- ---- a clock is neither a Stop nor a Start
module _ (e : ℕ) (h : e < 2) (odd : Bool) (t : ℕ) where
  no_poll : is_poll odd e ≡ false
  no_poll = go odd
    where
      go : (b : Bool) → (b && eqb e 2) ≡ false
      go true = ne_eqb e 2 (λ z. omega arith)
      go false = refl

  no_stop : eqb e 3 ≡ false
  no_stop = ne_eqb e 3 (λ z. omega arith)

  same_odd : odd_after odd e ≡ odd
  same_odd = simp no_stop

  same_tries : tries_after odd t e ≡ t
  same_tries = ap (λ (b : Bool). cond b 0 (cond (is_poll odd e) (t + 1) t)) no_stop ∙ ap (λ (b : Bool). cond b (t + 1) t) no_poll

module _ (r : Request) (d : ℕ) (pos : 1 ≤ d) where
  -- after an event, and whether an end stands before it
  abbrev Puts : Phase → Counts → ℕ → Move → Answer → Type 0
  Puts p c v mv (Send e) =
      Placed r mv.phase (odd_after (odd_of p) e) (tries_after (odd_of p) c.tries e) mv.counts
      × (eqb (poll_next p c.tries (allowed_of r) v) d ≡ (is_poll (odd_of p) e && eqb (c.tries + 1) d))
  Puts p c v mv (Done q n) = eqb (poll_next p c.tries (allowed_of r) v) d ≡ false
  Puts p c v mv (Refused f q n) = eqb (poll_next p c.tries (allowed_of r) v) d ≡ false

  never : eqb 0 d ≡ false
  never = ne_eqb 0 d (λ z. omega arith)

  -- a clock of a byte: in the byte, or the first of one
  clock_due : (e : ℕ) → e < 2 → (odd : Bool) (t : ℕ) → eqb 0 d ≡ (is_poll odd e && eqb (t + 1) d)
  clock_due e h odd t = never ∙ sym (ap (λ (b : Bool). b && eqb (t + 1) d) (no_poll e h odd t))

  clock_placed : (e : ℕ) → e < 2 → (s : Slot) (c : Counts) → (odd_after (slot_odd s) e ≡ slot_odd s) × (tries_after (slot_odd s) c.tries e ≡ c.tries)
  clock_placed e h s c = (same_odd e h (slot_odd s) c.tries, same_tries e h (slot_odd s) c.tries)

  sent_tries : (s : Slot) (c : Counts) → (sent_counts_of s c).tries ≡ c.tries
  sent_tries Select c = refl
  sent_tries High c = refl
  sent_tries Low c = refl
  sent_tries Data c = refl
  sent_tries Poll c = refl
  sent_tries Turn c = refl
  sent_tries Take c = refl

  nack_due : (s : Slot) (t a v : ℕ) → leads s ≡ true → eqb (poll_by s t a v) d ≡ (is_poll (slot_odd s) 3 && eqb (t + 1) d)
  nack_due Select t a v e = never
  nack_due High t a v e = never
  nack_due Low t a v e = never
  nack_due Data t a v e = absurd (false≢true e)
  nack_due Poll t a v e = absurd (false≢true e)
  nack_due Turn t a v e = never
  nack_due Take t a v e = absurd (false≢true e)

  module _ (c : Counts) (v : ℕ) (ys : List ℕ) where
    bit : (s : Slot) (b : ℕ) → bit_of (slot_byte_of (wire_of (at r Ready c) (get_or ys c.at 0)) s) b < 2
    bit s b = bit_lt (slot_byte_of (wire_of (at r Ready c) (get_or ys c.at 0)) s) b

    opened : (s n : Slot) → slot_odd s ≡ false → slot_odd n ≡ false → (e : ℕ) → e < 2 → (odd_after (slot_odd s) e ≡ slot_odd n) × (tries_after (slot_odd s) c.tries e ≡ c.tries)
    opened s n f z e h = (same_odd e h (slot_odd s) c.tries ∙ (f ∙ sym z), same_tries e h (slot_odd s) c.tries)

    puts : {p : Phase} {mv : Move} {zs : List ℕ} → Inv r p c → Way r c v ys p mv zs → Puts p c v mv mv.answer
    puts i (w_done e) = never
    puts i (w_open n) = ((refl, refl), never)
    puts i (w_bit s b h) =
        let x = bit s b in
        (taken_elim (λ (k : Counts). (odd_after (slot_odd s) (clock_of r c ys s b) ≡ slot_odd s) × (tries_after (slot_odd s) c.tries (clock_of r c ys s b) ≡ k.tries)) s c v (λ y. clock_placed _ x s c), clock_due _ x (slot_odd s) c.tries)
    puts i (w_ninth s b e h) =
        let k = clock_placed 1 (omega arith) s c in
        ((k.0, k.1 ∙ sym (sent_tries s c)), clock_due 1 (omega arith) (slot_odd s) c.tries)
    puts i (w_got b e h) =
        let x : cond (eqb (c.at + 1) r.length) 1 0 < 2 = branch (λ (y : ℕ). y < 2) (eqb (c.at + 1) r.length) (λ _. omega arith) (λ _. omega arith) in
        (clock_placed _ x Take c, clock_due _ x false c.tries)
    puts i (w_nack s e h) = (tt, nack_due s c.tries (allowed_of r) v e)
    puts i (w_high z e) = (opened Select High refl refl _ (bit High 0), clock_due _ (bit High 0) false c.tries)
    puts i (w_only z e) = (opened Select Low refl refl _ (bit Low 0), clock_due _ (bit Low 0) false c.tries)
    puts i (w_low z) = (opened High Low refl refl _ (bit Low 0), clock_due _ (bit Low 0) false c.tries)
    puts i (w_turn z e) = ((refl, refl), never)
    puts i (w_data z e) = (opened Low Data refl refl _ (bit Data 0), clock_due _ (bit Data 0) false c.tries)
    puts i (w_more z n) = (opened Data Data refl refl _ (bit Data 0), clock_due _ (bit Data 0) false c.tries)
    puts i (w_close z e) = ((refl, sym i.here.none), never)
    puts i (w_drop z) = (tt, never)
    puts i w_poll = ((refl, refl), refl)
    puts i (w_again z o) = ((refl, refl), ap (λ (k : ℕ). eqb k d) (again_next c.tries (allowed_of r) v z o))
    puts i (w_give z o) = (tt, ap (λ (k : ℕ). eqb k d) (last_next z o) ∙ never)
      where
        last_next : 0 < v → allowed_of r ≤ c.tries → poll_next (Heard Poll) c.tries (allowed_of r) v ≡ 0
        last_next z o = simp (ne_eqb v 0 (λ e. omega arith), le-ltb c.tries (allowed_of r) o)
    puts i (w_page z) = (λ _. (refl, refl), ap (λ (k : ℕ). eqb (poll_next (Heard Poll) c.tries (allowed_of r) k) d) z ∙ never)
    puts i (w_take z) = (opened Turn Take refl refl _ (bit Take 0), clock_due _ (bit Take 0) false c.tries)
    puts i (w_next n) = (opened Take Take refl refl _ (bit Take 0), clock_due _ (bit Take 0) false c.tries)
    puts i (w_end e) = (λ n. absurd (n e), never)
    puts i (w_over f) = never

  -- ---- a turn: after it, and whether an end stands before the driver's event
  abbrev pub Next : System → Bool → ℕ → System → Answer → Type 0
  Next y odd t z (Send e) = Placed r z.driver.phase (odd_after odd e) (tries_after odd t e) z.driver.counts × (end_due_of d y ≡ (is_poll odd e && eqb (t + 1) d)) × (e < 4)
  Next y odd t z (Done q n) = Placed r z.driver.phase odd t z.driver.counts × (end_due_of d y ≡ false)
  Next y odd t z (Refused f q n) = Placed r z.driver.phase odd t z.driver.counts × (end_due_of d y ≡ false)

  due_is : (y : System) → Drives r y → end_due_of d y ≡ eqb (poll_next y.driver.phase y.driver.counts.tries (allowed_of r) y.level) d
  unfolding end_due_of
  due_is y h = ap (λ (q : Request). eqb (poll_next y.driver.phase y.driver.counts.tries (allowed_of q) y.level) d) h.request

  module _ (M : Model) where
    pub turn_next : (y : System) → Drives r y → (odd : Bool) (t : ℕ) → Placed r y.driver.phase odd t y.driver.counts → Next y odd t (turn_of our_driver M d y) (answer_of y)
    turn_next y h odd t k =
        let w = step r y h in
        let c = y.driver.counts in
        let e : answer_of y ≡ w.move.answer = ap (λ (a : Asked). a.answer) w.asked in
        subst (Next y odd t (turn_of our_driver M d y)) (sym e)
        (go w w.move.answer (puts c y.level y.buffer h.inv w.way) (known odd t k w.way)
        (subst Coded e (sends_coded r y h)) (subst (Turned r M d (held_of y) y.level (turn_of our_driver M d y)) e (turned r M d y)))
      where
        z : System
        z = turn_of our_driver M d y

        stays : held_of (turn_of our_driver M d y) ≡ held_of y → Placed r (turn_of our_driver M d y).driver.phase odd t (turn_of our_driver M d y).driver.counts
        stays u = subst (λ (x : DriverHeld). Placed r x.driver.phase odd t x.driver.counts) (sym u) k

        go : (w : Step r y) (a : Answer) → Puts y.driver.phase y.driver.counts y.level w.move a → Known y.driver.phase odd t y.driver.counts a → Coded a
            → Turned r M d (held_of y) y.level (turn_of our_driver M d y) a → Next y odd t (turn_of our_driver M d y) a
        go w (Send e) n o q u =
            let x : z.driver ≡ at r w.move.phase w.move.counts = ap (λ (i : DriverHeld). i.driver) u ∙ ap (λ (i : Asked). i.driver) w.asked in (
              subst (λ (i : Driver). Placed r i.phase (odd_after odd e) (tries_after odd t e) i.counts) (sym x)
                  (subst (λ (b : Bool). Placed r w.move.phase (odd_after b e) (tries_after b t e) w.move.counts) (sym o.0)
                  (subst (λ (i : ℕ). Placed r w.move.phase (odd_after (odd_of y.driver.phase) e) (tries_after (odd_of y.driver.phase) i e) w.move.counts) (sym o.1) n.0)),
              due_is y h ∙ (n.1 ∙ (ap (λ (b : Bool). is_poll b e && eqb (y.driver.counts.tries + 1) d) (sym o.0) ∙ ap (λ (i : ℕ). is_poll odd e && eqb (i + 1) d) (sym o.1))),
              q,
            )
        go w (Done p i) n o q u = (stays u.0, due_is y h ∙ n)
        go w (Refused f p i) n o q u = (stays u.0, due_is y h ∙ n)

    -- ---- the tape
    shape : (b : Bool) (e : ℕ) (es : List ℕ) → tape_by b true 4 e ++ es ≡ cond b (4 ∷ []) [] ++ (e ∷ es)
    shape true e es = refl
    shape false e es = refl

    put : (b : Bool) (e : ℕ) → e < 4 → (odd : Bool) (t : ℕ) (es : List ℕ) → b ≡ (is_poll odd e && eqb (t + 1) d) → es ≡ ends_put d (odd_after odd e) (tries_after odd t e) (without_ends es)
        → tape_by b true 4 e ++ es ≡ ends_put d odd t (without_ends (tape_by b true 4 e ++ es))
    put b e h odd t es f k =
        shape b e es
        ∙ (ap (λ (x : Bool). cond x (4 ∷ []) [] ++ (e ∷ es)) f
        ∙ (ap (λ (l : List ℕ). cond (is_poll odd e && eqb (t + 1) d) (4 ∷ []) [] ++ (e ∷ l)) k ∙ ap (ends_put d odd t) (sym (kept e h b es))))

    none : (b : Bool) (x : ℕ) (odd : Bool) (t : ℕ) (es : List ℕ) → b ≡ false → es ≡ ends_put d odd t (without_ends es) → tape_by b false 4 x ++ es ≡ ends_put d odd t (without_ends (tape_by b false 4 x ++ es))
    none b x odd t es f k = ap (λ (i : Bool). tape_by i false 4 x ++ es) f ∙ (k ∙ ap (ends_put d odd t) (sym (dropped b x es)))

    pub tape_placed : (n : ℕ) (y : System) → Drives r y → (odd : Bool) (t : ℕ) → Placed r y.driver.phase odd t y.driver.counts
        → tape_events_of our_driver M d n y ≡ ends_put d odd t (without_ends (tape_events_of our_driver M d n y))
    unfolding tape_events_of turn_events
    tape_placed zero y h odd t k = refl
    tape_placed (suc n) y h odd t k =
        go (answer_of y) (turn_next y h odd t k) (λ o i. tape_placed n (turn_of our_driver M d y) (turn_drives r M d y h) o i)
      where
        es : List ℕ
        es = tape_events_of our_driver M d n (turn_of our_driver M d y)

        go : (a : Answer) → Next y odd t (turn_of our_driver M d y) a
            → ((o : Bool) (i : ℕ) → Placed r (turn_of our_driver M d y).driver.phase o i (turn_of our_driver M d y).driver.counts → tape_events_of our_driver M d n (turn_of our_driver M d y) ≡ ends_put d o i (without_ends (tape_events_of our_driver M d n (turn_of our_driver M d y))))
            → tape_by (end_due_of d y) (sends_of a) 4 (sent_code_of a) ++ tape_events_of our_driver M d n (turn_of our_driver M d y) ≡ ends_put d odd t (without_ends (tape_by (end_due_of d y) (sends_of a) 4 (sent_code_of a) ++ tape_events_of our_driver M d n (turn_of our_driver M d y)))
        go (Send e) w f = put (end_due_of d y) e w.2 odd t es w.1 (f (odd_after odd e) (tries_after odd t e) w.0)
        go (Done q i) w f = none (end_due_of d y) 0 odd t es w.1 (f odd t w.0)
        go (Refused x q i) w f = none (end_due_of d y) 0 odd t es w.1 (f odd t w.0)
