-- The run is our driver's, told the tape's levels, on any chip; and it finishes.
-- Assumes nothing.
use Prim.Native.Nat.{ℕ, zero, suc, ◌+◌, ◌<◌}
use mathlib.Core.Path.{◌≡◌, refl, sym, ◌∙◌, ap, subst}
use mathlib.Core.Bool.{Bool, true, false, cond}
use mathlib.Core.List.{List, [], ◌∷◌, ◌++◌}
use lib.ListN.{length, get_or}
use lib.Dec.{eqb}
use native.Mathlib.Omega.{arith}
use borrow.Author.Tests.{ne_eqb}
use Rattle.parts.proofs.Laws.{branch}
use Rattle.chip.specs.Model.{Model}
use Rattle.driver.specs.declared.Request.{Request}
use Rattle.driver.specs.declared.Slot.TheVariants.{High, Low, Data, Take}
use Rattle.driver.specs.declared.Phase.{Phase}
use Rattle.driver.specs.declared.Phase.TheVariants.{Ready}
use Rattle.driver.specs.declared.Counts.{Counts}
use Rattle.driver.specs.declared.Answer.{Answer}
use Rattle.driver.specs.declared.Answer.TheVariants.{Send, Done, Refused}
use Rattle.driver.specs.declared.Move.{Move}
use Rattle.driver.specs.declared.Asked.{Asked}
use Rattle.driver.specs.Step.{wire_of, slot_byte_of, driver_next_of, buffer_of}
use Rattle.driver.specs.Machine.{our_driver}
use Rattle.driver_promises.specs.Run.{DriverHeld, sent_by, answer_to, told, after_all, events_sent, Finished, bound_of}
use Rattle.driver_promises.proofs.View.{at, Way, w_done, w_open, w_bit, w_ninth, w_got, w_nack, w_high, w_only, w_low, w_turn, w_data, w_more, w_close, w_drop, w_poll, w_again, w_give, w_page, w_take, w_next, w_end, w_over}
use Rattle.driver_promises.proofs.Grow.{bit_lt}
use Rattle.driver_promises.specs.Promises.{Accepted}
use Rattle.driver_promises.proofs.Promises.{promises}
use Rattle.state.specs.declared.Chip.{Chip}
use Rattle.chip.specs.Memory.{Mem}
use Rattle.bench.specs.Together.{System, start_of, answered_by, asked_of, cycle_ended_of, end_due_of, turn_of, turns_of}
use Rattle.bench.specs.Tape.{sends_of, sent_code_of, tape_by, turn_events, turn_levels, tape_events_of, tape_levels_of}
use Rattle.bench_promises.specs.Together.{answer_of}
use Rattle.bench_promises.specs.Tape.{without_ends, levels_heard}
use Rattle.bench_promises.proofs.Steps.{held_of, Drives, step, ask_drives, Told, ask_told}

-- ---- the driver sends no end
abbrev pub Coded : Answer → Type 0
Coded (Send e) = e < 4
Coded (Done q n) = Unit {0}
Coded (Refused f q n) = Unit {0}

coded : {r : Request} {c : Counts} {v : ℕ} {ys zs : List ℕ} {p : Phase} {mv : Move} → Way r c v ys p mv zs → Coded mv.answer
coded (w_done e) = tt
coded (w_open n) = omega arith
coded {r} {c} {ys = ys} (w_bit s b h) = omega (arith, bit_lt (slot_byte_of (wire_of (at r Ready c) (get_or ys c.at 0)) s) b)
coded (w_ninth s b e h) = omega arith
coded {r} {c} (w_got b e h) = branch (λ (x : ℕ). x < 4) (eqb (c.at + 1) r.length) (λ _. omega arith) (λ _. omega arith)
coded (w_nack s e h) = omega arith
coded {r} {c} {ys = ys} (w_high z e) = omega (arith, bit_lt (slot_byte_of (wire_of (at r Ready c) (get_or ys c.at 0)) High) 0)
coded {r} {c} {ys = ys} (w_only z e) = omega (arith, bit_lt (slot_byte_of (wire_of (at r Ready c) (get_or ys c.at 0)) Low) 0)
coded {r} {c} {ys = ys} (w_low z) = omega (arith, bit_lt (slot_byte_of (wire_of (at r Ready c) (get_or ys c.at 0)) Low) 0)
coded (w_turn z e) = omega arith
coded {r} {c} {ys = ys} (w_data z e) = omega (arith, bit_lt (slot_byte_of (wire_of (at r Ready c) (get_or ys c.at 0)) Data) 0)
coded {r} {c} {ys = ys} (w_more z n) = omega (arith, bit_lt (slot_byte_of (wire_of (at r Ready c) (get_or ys c.at 0)) Data) 0)
coded (w_close z e) = omega arith
coded (w_drop z) = omega arith
coded w_poll = omega arith
coded (w_again z o) = omega arith
coded (w_give z o) = omega arith
coded (w_page z) = omega arith
coded {r} {c} {ys = ys} (w_take z) = omega (arith, bit_lt (slot_byte_of (wire_of (at r Ready c) (get_or ys c.at 0)) Take) 0)
coded {r} {c} {ys = ys} (w_next n) = omega (arith, bit_lt (slot_byte_of (wire_of (at r Ready c) (get_or ys c.at 0)) Take) 0)
coded (w_end e) = omega arith
coded (w_over f) = tt

pub sends_coded : (r : Request) (y : System) → Drives r y → Coded (answer_of y)
sends_coded r y h = let t = step r y h in subst (λ (a : Asked). Coded a.answer) (sym t.asked) (coded t.way)

-- ---- one turn more on the tape
module _ (e : ℕ) (h : e < 4) where
  pub not_end : eqb e 4 ≡ false
  not_end = ne_eqb e 4 (λ z. omega arith)

  pub kept : (b : Bool) (es : List ℕ) → without_ends (tape_by b true 4 e ++ es) ≡ e ∷ without_ends es
  kept true es = ap (λ (t : Bool). cond t (without_ends es) (e ∷ without_ends es)) not_end
  kept false es = ap (λ (t : Bool). cond t (without_ends es) (e ∷ without_ends es)) not_end

  pub heard : (b : Bool) (l : ℕ) (es ls : List ℕ) → levels_heard (tape_by b true 4 e ++ es) (tape_by b true 2 l ++ ls) ≡ l ∷ levels_heard es ls
  heard true l es ls = ap (λ (t : Bool). cond t (levels_heard es ls) (l ∷ levels_heard es ls)) not_end
  heard false l es ls = ap (λ (t : Bool). cond t (levels_heard es ls) (l ∷ levels_heard es ls)) not_end

pub dropped : (b : Bool) (x : ℕ) (es : List ℕ) → without_ends (tape_by b false 4 x ++ es) ≡ without_ends es
dropped true x es = refl
dropped false x es = refl

unheard : (b : Bool) (x l : ℕ) (es ls : List ℕ) → levels_heard (tape_by b false 4 x ++ es) (tape_by b false 2 l ++ ls) ≡ levels_heard es ls
unheard true x l es ls = refl
unheard false x l es ls = refl

module _ (r : Request) (M : Model) (d : ℕ) where
  -- an end of the cycle is nothing to the driver
  pub turn_drives : (y : System) → Drives r y → Drives r (turn_of our_driver M d y)
  unfolding turn_of cycle_ended_of
  turn_drives y h =
      branch (λ (t : System). Drives r (asked_of our_driver M t)) (end_due_of d y)
      (λ _. ask_drives r M (cycle_ended_of M y) (record { request = h.request; inv = h.inv; size = h.size })) (λ _. ask_drives r M y h)

  -- a run of turns from y to z, with its tape, is the driver's own from there
  pub record Walked (y z : System) (es ls : List ℕ) : Type 0 where
    pub events : events_sent our_driver (held_of y) (y.level ∷ levels_heard es ls) ≡ without_ends es ++ sent_by (answer_of z)
    pub after : after_all our_driver (held_of y) (y.level ∷ levels_heard es ls) ≡ told our_driver (held_of z) z.level

  -- a turn, by what the driver answers: it is told the level next, or nothing changes for it
  abbrev pub Turned : DriverHeld → ℕ → System → Answer → Type 0
  Turned h l t (Send e) = held_of t ≡ told our_driver h l
  Turned h l t (Done q n) = (held_of t ≡ h) × (t.level ≡ l)
  Turned h l t (Refused f q n) = (held_of t ≡ h) × (t.level ≡ l)

  answered : (x : System) (a : Answer) → Turned (held_of x) x.level (answered_by M x (driver_next_of x.driver x.level x.buffer).driver (buffer_of x.driver x.level x.buffer) a) a
  answered x (Send e) = refl
  answered x (Done q n) = (refl, refl)
  answered x (Refused f q n) = (refl, refl)

  pub turned : (y : System) → Turned (held_of y) y.level (turn_of our_driver M d y) (answer_of y)
  unfolding turn_of cycle_ended_of asked_of
  turned y = go (end_due_of d y)
    where
      go : (b : Bool) → Turned (held_of y) y.level (asked_of our_driver M (cond b (cycle_ended_of M y) y)) (answer_of y)
      go true = answered (cycle_ended_of M y) (answer_of y)
      go false = answered y (answer_of y)

  stands : (y t z : System) (b : Bool) (x l : ℕ) (es ls : List ℕ) → held_of t ≡ held_of y → t.level ≡ y.level → Walked t z es ls → Walked y z (tape_by b false 4 x ++ es) (tape_by b false 2 l ++ ls)
  stands y t z b x l es ls u v w =
      let hs = levels_heard es ls in
      record {
        events = ap (λ (k : List ℕ). events_sent our_driver (held_of y) (y.level ∷ k)) (unheard b x l es ls)
            ∙ (ap (λ (h : DriverHeld). events_sent our_driver h (y.level ∷ hs)) (sym u)
            ∙ (ap (λ (i : ℕ). events_sent our_driver (held_of t) (i ∷ hs)) (sym v) ∙ (w.events ∙ ap (λ (k : List ℕ). k ++ sent_by (answer_of z)) (sym (dropped b x es)))));
        after = ap (λ (k : List ℕ). after_all our_driver (held_of y) (y.level ∷ k)) (unheard b x l es ls)
            ∙ (ap (λ (h : DriverHeld). after_all our_driver h (y.level ∷ hs)) (sym u) ∙ (ap (λ (i : ℕ). after_all our_driver (held_of t) (i ∷ hs)) (sym v) ∙ w.after));
      }

  grows : (y t z : System) (b : Bool) (es ls : List ℕ) (a : Answer) → answer_of y ≡ a → Turned (held_of y) y.level t a → Coded a → Walked t z es ls
      → Walked y z (tape_by b (sends_of a) 4 (sent_code_of a) ++ es) (tape_by b (sends_of a) 2 t.level ++ ls)
  grows y t z b es ls (Send e) q u k w =
      let hs = t.level ∷ levels_heard es ls in
      let h = told our_driver (held_of y) y.level in
      record {
        events = ap (λ (i : List ℕ). events_sent our_driver (held_of y) (y.level ∷ i)) (heard e k b t.level es ls)
            ∙ (ap (λ (i : Answer). sent_by i ++ events_sent our_driver h hs) q
            ∙ (ap (λ (i : DriverHeld). e ∷ events_sent our_driver i hs) (sym u)
            ∙ (ap (λ (i : List ℕ). e ∷ i) w.events ∙ ap (λ (i : List ℕ). i ++ sent_by (answer_of z)) (sym (kept e k b es)))));
        after = ap (λ (i : List ℕ). after_all our_driver (held_of y) (y.level ∷ i)) (heard e k b t.level es ls)
            ∙ (ap (λ (i : DriverHeld). after_all our_driver i hs) (sym u) ∙ w.after);
      }
  grows y t z b es ls (Done p n) q u k w = stands y t z b 0 t.level es ls u.0 u.1 w
  grows y t z b es ls (Refused f p n) q u k w = stands y t z b 0 t.level es ls u.0 u.1 w

  alone : (a : Answer) → sent_by a ++ [] ≡ sent_by a
  alone (Send e) = refl
  alone (Done q n) = refl
  alone (Refused f q n) = refl

  pub walks : (n : ℕ) (y : System) → Drives r y → Walked y (turns_of our_driver M d n y) (tape_events_of our_driver M d n y) (tape_levels_of our_driver M d n y)
  unfolding turns_of tape_events_of tape_levels_of turn_events turn_levels
  walks zero y h = record { events = alone (answer_of y); after = refl }
  walks (suc n) y h =
      let t = turn_of our_driver M d y in
      grows y t (turns_of our_driver M d n t) (end_due_of d y) (tape_events_of our_driver M d n t) (tape_levels_of our_driver M d n t) (answer_of y) refl (turned y) (sends_coded r y h) (walks n t (turn_drives y h))

-- ---- it finishes
module _ (r : Request) (xs : List ℕ) (a : Accepted r xs) (M : Model) (d : ℕ) where
  turn_told : (n : ℕ) (y : System) → Told r xs n y → Told r xs (n + 1) (turn_of our_driver M d y)
  unfolding turn_of cycle_ended_of
  turn_told n y t =
      branch (λ (z : System). Told r xs (n + 1) (asked_of our_driver M z)) (end_due_of d y)
      (λ _. ask_told r xs a M n (cycle_ended_of M y) (record { levels = t.levels; count = t.count; run = t.run })) (λ _. ask_told r xs a M n y t)

  turns_told : (k n : ℕ) (y : System) → Told r xs n y → Told r xs (n + k) (turns_of our_driver M d k y)
  unfolding turns_of
  turns_told zero n y t = subst (λ (i : ℕ). Told r xs i y) (omega arith) t
  turns_told (suc k) n y t =
      let e : n + 1 + k ≡ n + suc k = omega arith in
      subst (λ (i : ℕ). Told r xs i (turns_of our_driver M d k (turn_of our_driver M d y))) e (turns_told k (n + 1) (turn_of our_driver M d y) (turn_told n y t))

  -- a driver that has finished: it stays as it is, and answers the same, whatever it is told
  pub record Ended (y : System) : Type 0 where
    pub finished : Finished (answer_of y)
    pub stays : told our_driver (held_of y) y.level ≡ held_of y
    pub same : (l : ℕ) → answer_to our_driver (held_of y) l ≡ answer_of y

  pub turns_ended : (n : ℕ) (c : Chip) (m : Mem) → bound_of r < n → Ended (turns_of our_driver M d n (start_of r xs c m))
  turns_ended n c m h =
      let y = turns_of our_driver M d n (start_of r xs c m) in
      let t = turns_told n 0 (start_of r xs c m) (record { levels = []; count = refl; run = refl }) in
      let p = promises.one_each r xs a t.levels y.level in
      let f : Finished (answer_to our_driver (held_of y) y.level) = subst (λ (k : DriverHeld). Finished (answer_to our_driver k y.level)) (sym t.run) (p.bound (omega (arith, t.count))) in
      subst (λ (k : DriverHeld). Finished (answer_to our_driver k y.level) → (told our_driver k y.level ≡ k) × ((l : ℕ) → answer_to our_driver k l ≡ answer_to our_driver k y.level) → Ended y) t.run
      (λ g w. record { finished = g; stays = w.0; same = w.1 })
      (p.bound (omega (arith, t.count))) (p.again (p.bound (omega (arith, t.count))))
