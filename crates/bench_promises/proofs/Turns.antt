-- The run with d is one of the runs of choices; with d within the budget each cycle ends in time; with d above it none does.
-- Assumes nothing.
use Prim.Native.Nat.{ℕ, zero, suc, ◌+◌, ◌*◌, ◌%◌, ◌≤◌, ◌<◌}
use mathlib.Core.Path.{◌≡◌, refl, sym, ◌∙◌, ap, subst}
use mathlib.Core.Bool.{Bool, true, false, cond}
use mathlib.Core.Logic.{◌⊎◌, inl, inr, ⊎_elim}
use mathlib.Core.List.{List, [], ◌∷◌}
use lib.ListN.{length}
use lib.Dec.{eqb, ltb}
use native.Mathlib.Omega.{arith}
use native.Mathlib.Nat.{div-lt_iff_lt-mul, mod-le, mul-le-mul}
use borrow.Author.Tests.{eqb-false, ltb-true}
use Rattle.parts.specs.declared.Facts.{Facts}
use Rattle.parts.specs.declared.Event.TheVariants.{Ends}
use Rattle.parts.specs.Table.{facts_of, id_size_of, address_bytes_of}
use Rattle.parts.proofs.Laws.{sound, branch}
use Rattle.parts.specs.Refusals.{is_fine}
use Rattle.line.specs.declared.Target.TheVariants.{Array as TheArray, Ident as TheIdent}
use Rattle.line.specs.declared.Cycle.{Cycle}
use Rattle.line.specs.declared.Cycle.TheVariants.{Writing, Locking}
use Rattle.line.specs.declared.Phase.TheVariants.{Idle, Receive, Send as Sending, Busy}
use Rattle.line.specs.declared.Core.{Core}
use Rattle.line.specs.declared.Line.{Line}
use Rattle.line.specs.Rules.{ended_by_of}
use Rattle.state.specs.declared.Chip.{Chip}
use Rattle.chip.specs.Memory.{Mem, state_of}
use Rattle.driver.specs.declared.Place.{Place}
use Rattle.driver.specs.declared.Place.TheVariants.{Array, Ident}
use Rattle.driver.specs.declared.Request.{Request}
use Rattle.driver.specs.declared.Slot.{Slot}
use Rattle.driver.specs.declared.Slot.TheVariants.{Select, High, Low, Data, Poll, Turn, Take}
use Rattle.driver.specs.declared.Phase.{Phase}
use Rattle.driver.specs.declared.Phase.TheVariants.{Ready, Bits, Heard, Rest, Over}
use Rattle.driver.specs.declared.Counts.{Counts}
use Rattle.driver.specs.declared.Driver.{Driver}
use Rattle.driver.specs.declared.Answer.{Answer}
use Rattle.driver.specs.declared.Answer.TheVariants.{Send, Done, Refused}
use Rattle.driver.specs.declared.Move.{Move}
use Rattle.driver.specs.Split.{pages_met_of}
use Rattle.driver.specs.Request.{from_of, room_of, allowed_of, k_of, GoodRequest}
use Rattle.driver.specs.Step.{bit_of, wire_of, driver_next_of, buffer_of}
use Rattle.driver.specs.Machine.{our_driver}
use Rattle.driver.proofs.Facts.{good_request, pages_suc, room_most}
use Rattle.driver_promises.specs.Run.{Finished, bound_of, address_bytes}
use Rattle.driver_promises.specs.Promises.{Accepted}
use Rattle.driver_promises.proofs.Split.{pages_none}
use Rattle.driver_promises.proofs.View.{at, Way, w_done, w_open, w_bit, w_ninth, w_got, w_nack, w_high, w_only, w_low, w_turn, w_data, w_more, w_close, w_drop, w_poll, w_again, w_give, w_page, w_take, w_next, w_end, w_over}
use Rattle.driver_promises.proofs.Inv.{Inv}
use Rattle.driver_promises.proofs.Grow.{bit_lt}
use Rattle.bench.specs.Together.{System, start_of, answered_by, asked_of, cycle_ended_of, together_of, poll_by, poll_next, end_due_of, turn_of, turns_of, last_of, enough}
use Rattle.bench_promises.specs.Together.{our_run, Begins, answer_of, askings}
use Rattle.bench_promises.specs.Ends.{poll_number_of, InTime, Writable, Complete, our_turns, TurnsChosen, EnoughTurns}
use Rattle.bench_promises.proofs.Hears.{end_free, end_busy}
use Rattle.bench_promises.proofs.Wrote.{less_or_same}
use Rattle.bench_promises.proofs.Rel.{Given, F, select_b, Pending, InBits, InHeard, Rel}
use Rattle.bench_promises.proofs.Keep.{Sane, Same, After', k_poll, k_polled, k_deaf, k_select, select_lt}
use Rattle.bench_promises.proofs.Steps.{again_next}
use Rattle.bench_promises.proofs.Whole.{Holds, Stepped, stepped, asked_elim, asked_holds, ended_holds, G, sane, start_holds}
use Rattle.line.specs.declared.Phase.{Phase as ChipPhase}
use Rattle.bench_promises.proofs.Live.{write_ends}
use Rattle.parts.specs.Events.{event_with}
use Rattle.chip.specs.Model.{Model, ours}
use Rattle.chip_promises.specs.States.{NotBusy}

-- ---- a run with d as choices
module _ (f : Facts) (en d : ℕ) where
  abbrev pub choices : ℕ → System → List Bool
  choices zero y = []
  choices (suc n) y = cond (end_due_of d y) (false ∷ true ∷ choices n (turn_of our_driver (ours f en) d y)) (true ∷ choices n (turn_of our_driver (ours f en) d y))

  pub turn_due : (y : System) → end_due_of d y ≡ true → turn_of our_driver (ours f en) d y ≡ asked_of our_driver (ours f en) (cycle_ended_of (ours f en) y)
  unfolding turn_of
  turn_due y e = ap (λ (t : Bool). asked_of our_driver (ours f en) (cond t (cycle_ended_of (ours f en) y) y)) e

  pub turn_plain : (y : System) → end_due_of d y ≡ false → turn_of our_driver (ours f en) d y ≡ asked_of our_driver (ours f en) y
  unfolding turn_of
  turn_plain y e = ap (λ (t : Bool). asked_of our_driver (ours f en) (cond t (cycle_ended_of (ours f en) y) y)) e

  pub choices_asked : (n : ℕ) (y : System) → askings (choices n y) ≡ n
  choices_asked zero y = refl
  choices_asked (suc n) y =
      let k = choices_asked n (turn_of our_driver (ours f en) d y) in
      branch (λ (bs : List Bool). askings bs ≡ suc n) (end_due_of d y) (λ e. omega arith) (λ e. omega arith)

  pub choices_same : (n : ℕ) (y : System) → turns_of our_driver (ours f en) d n y ≡ together_of our_driver (ours f en) (choices n y) y
  unfolding turns_of together_of
  choices_same zero y = refl
  choices_same (suc n) y =
      let k = choices_same n (turn_of our_driver (ours f en) d y) in
      let bs = choices n (turn_of our_driver (ours f en) d y) in
      branch (λ (cs : List Bool). turns_of our_driver (ours f en) d n (turn_of our_driver (ours f en) d y) ≡ together_of our_driver (ours f en) cs y) (end_due_of d y)
      (λ e. k ∙ ap (λ (z : System). together_of our_driver (ours f en) bs z) (turn_due y e))
      (λ e. k ∙ ap (λ (z : System). together_of our_driver (ours f en) bs z) (turn_plain y e))

-- ---- the driver's last answer
module _ (M : Model) (d : ℕ) where
  rests : (s : System) (e : Driver) (b : List ℕ) (a : Answer) → Finished a → answered_by M s e b a ≡ s
  rests s e b (Send x) h = absurd h
  rests s e b (Done q n) h = refl
  rests s e b (Refused x q n) h = refl

  asked_rests : (s : System) → Finished (answer_of s) → asked_of our_driver M s ≡ s
  unfolding asked_of
  asked_rests s h = rests s (driver_next_of s.driver s.level s.buffer).driver (buffer_of s.driver s.level s.buffer) (answer_of s) h

  -- an end of the cycle is nothing to the driver
  turn_rests : (s : System) → Finished (answer_of s) → answer_of (turn_of our_driver M d s) ≡ answer_of s
  unfolding turn_of cycle_ended_of
  turn_rests s h = branch (λ (t : System). answer_of (asked_of our_driver M t) ≡ answer_of s) (end_due_of d s) (λ _. ap answer_of (asked_rests (cycle_ended_of M s) h)) (λ _. ap answer_of (asked_rests s h))

  -- it has finished before the last turn: asked once more it would answer the same
  pub last_answer : (k : ℕ) (a : Answer) (s : System) → Finished (answer_of (turns_of our_driver M d k s)) → last_of our_driver M d (suc k) a s ≡ answer_of (turns_of our_driver M d (suc k) s)
  unfolding last_of turns_of
  last_answer zero a s h = sym (turn_rests s h)
  last_answer (suc k) a s h = last_answer k (answer_of s) (turn_of our_driver M d s) h

pub turns_chosen : TurnsChosen our_turns our_run
turns_chosen f en d n y = record { choices = choices f en d n y; asked = choices_asked f en d n y; same = choices_same f en d n y }

-- ---- after an end no cycle runs
ended_idle : (f : Facts) (c : Core) (y : Cycle) → (ended_by_of f c y).phase ≡ Idle
unfolding ended_by_of
ended_idle f c (Writing TheArray) = refl
ended_idle f c (Writing TheIdent) = refl
ended_idle f c Locking = refl

ended_rests : (f : Facts) (en : ℕ) (ch : Chip) (m : Mem) → NotBusy (state_of f en ch Ends).line.phase
ended_rests f en ch m = go ch.line.phase refl
  where
    go : (p : ChipPhase) → ch.line.phase ≡ p → NotBusy (state_of f en ch Ends).line.phase
    go Idle e = end_free f en ch m (λ n k y w q. NotBusy n.phase) Idle tt e (subst NotBusy (sym e) tt)
    go (Receive rc) e = end_free f en ch m (λ n k y w q. NotBusy n.phase) (Receive rc) tt e (subst NotBusy (sym e) tt)
    go (Sending t) e = end_free f en ch m (λ n k y w q. NotBusy n.phase) (Sending t) tt e (subst NotBusy (sym e) tt)
    go (Busy z) e = end_busy f en ch m (λ n k y w q. NotBusy n.phase) z e (subst NotBusy (sym (ended_idle f ch.line.core z)) tt)

-- ---- d within the budget: from its poll number d on, no cycle of a page runs
abbrev early_slot : ℕ → Slot → Counts → Line → Type 0
early_slot d Select c l = Unit {0}
early_slot d High c l = Unit {0}
early_slot d Low c l = Unit {0}
early_slot d Data c l = Unit {0}
early_slot d Poll c l = d ≤ c.tries → NotBusy l.phase
early_slot d Turn c l = Unit {0}
early_slot d Take c l = Unit {0}

abbrev Early : ℕ → Phase → Counts → Line → Type 0
Early d Ready c l = Unit {0}
Early d (Bits s b) c l = early_slot d s c l
Early d (Heard s) c l = early_slot d s c l
Early d Rest c l = d ≤ c.tries → NotBusy l.phase
Early d (Over f) c l = Unit {0}

slot_rests : (d : ℕ) (s : Slot) (c : Counts) (l : Line) → NotBusy l.phase → early_slot d s c l
slot_rests d Select c l h = tt
slot_rests d High c l h = tt
slot_rests d Low c l h = tt
slot_rests d Data c l h = tt
slot_rests d Poll c l h = λ _. h
slot_rests d Turn c l h = tt
slot_rests d Take c l h = tt

early_rests : (d : ℕ) (p : Phase) (c : Counts) (l : Line) → NotBusy l.phase → Early d p c l
early_rests d Ready c l h = tt
early_rests d (Bits s b) c l h = slot_rests d s c l h
early_rests d (Heard s) c l h = slot_rests d s c l h
early_rests d Rest c l h = λ _. h
early_rests d (Over f) c l h = tt

module _ (g : Given) (s : Sane g) where
  abbrev r : Request
  r = g.request

  module _ (ch : Chip) (m : Mem) (c : Counts) (ys : List ℕ) (v : ℕ) where
    abbrev l : Line
    l = ch.line

    same : {p : Phase} → Rel g p c ys l ch.latch m v → Same g s ch m l
    same o = record { pin = o.pin; lock = o.lock }

    module _ (d : ℕ) (pos : 1 ≤ d) where
      abbrev NextEarly : Move → Answer → Type 0
      NextEarly mv (Send e) = After' g s ch m (λ n k y w q. Early d mv.phase mv.counts n) e
      NextEarly mv (Done q n) = Unit {0}
      NextEarly mv (Refused f q n) = Unit {0}

      e_poll : {p : Phase} → Rel g p c ys l ch.latch m v → Pending g c.at c.seen l ch.latch m → (d ≤ c.tries → NotBusy l.phase) → (c.tries + 1 ≡ d → NotBusy l.phase)
          → After' g s ch m (λ n k y w q. d ≤ c.tries + 1 → NotBusy n.phase) 2
      e_poll o p t f =
          k_poll g s ch m (λ n k y w q. d ≤ c.tries + 1 → NotBusy n.phase) c.at c.seen (same o) p
          (λ q e. ⊎_elim (λ k. t (omega arith)) (λ k. f (sym k)) (less_or_same d (c.tries + 1) e))
          (λ n u q e. subst NotBusy (sym q.taking.phase) tt)

      e_bit : (b : ℕ) → b < 8 → Rel g (Bits Poll b) c ys l ch.latch m v → (d ≤ c.tries → NotBusy l.phase)
          → After' g s ch m (λ n k y w q. d ≤ c.tries → NotBusy n.phase) (bit_of (select_b g c.seen) b)
      e_bit b h o t = go o.place
        where
          go : InBits g Poll b c l ch.latch m v → After' g s ch m (λ n k y w q. d ≤ c.tries → NotBusy n.phase) (bit_of (select_b g c.seen) b)
          go (inl p) = k_deaf g s ch m (λ n k y w q. d ≤ c.tries → NotBusy n.phase) c.at c.seen _ (bit_lt (select_b g c.seen) b) p t
          go (inr p) =
              k_polled g s ch m (λ n k y w q. d ≤ c.tries → NotBusy n.phase) b (select_b g c.seen) c.at _ (omega (arith, select_lt g s c.seen)) h refl (same o) p
              (λ n u q e. subst NotBusy (sym q.taking.phase) tt)

      e_ninth : (b : ℕ) → b ≡ 8 → Rel g (Bits Poll b) c ys l ch.latch m v → (d ≤ c.tries → NotBusy l.phase)
          → After' g s ch m (λ n k y w q. d ≤ c.tries → NotBusy n.phase) 1
      e_ninth b h o t = go o.place
        where
          go : InBits g Poll b c l ch.latch m v → After' g s ch m (λ n k y w q. d ≤ c.tries → NotBusy n.phase) 1
          go (inl p) = k_deaf g s ch m (λ n k y w q. d ≤ c.tries → NotBusy n.phase) c.at c.seen 1 (omega arith) p t
          go (inr p) = k_select g s ch m (λ n k y w q. d ≤ c.tries → NotBusy n.phase) b c.seen h p.taking (λ n z q e. subst NotBusy (sym q.phase) tt)

      early : {p : Phase} {mv : Move} {zs : List ℕ} → Inv r p c → Rel g p c ys l ch.latch m v → Early d p c l → (poll_next p c.tries (allowed_of r) v ≡ d → NotBusy l.phase) → Way r c v ys p mv zs → NextEarly mv mv.answer
      unfolding wire_of
      early i o t f (w_done e) = tt
      early i o t f (w_open n) = tt
      early i o t f (w_bit Select b h) = tt
      early i o t f (w_bit High b h) = tt
      early i o t f (w_bit Low b h) = tt
      early i o t f (w_bit Data b h) = tt
      early i o t f (w_bit Poll b h) = e_bit b h o t
      early i o t f (w_bit Turn b h) = tt
      early i o t f (w_bit Take b h) = tt
      early i o t f (w_ninth Select b e h) = tt
      early i o t f (w_ninth High b e h) = tt
      early i o t f (w_ninth Low b e h) = tt
      early i o t f (w_ninth Data b e h) = tt
      early i o t f (w_ninth Poll b e h) = e_ninth b h o t
      early i o t f (w_ninth Turn b e h) = tt
      early i o t f (w_ninth Take b e h) = tt
      early i o t f (w_got b e h) = tt
      early i o t f (w_nack sl e h) = tt
      early i o t f (w_high z e) = tt
      early i o t f (w_only z e) = tt
      early i o t f (w_low z) = tt
      early i o t f (w_turn z e) = tt
      early i o t f (w_data z e) = tt
      early i o t f (w_more z n) = tt
      early i o t f (w_close z e) = λ h. (let q = i.here.none in absurd (omega arith))
      early i o t f (w_drop z) = tt
      early i o t f w_poll = e_poll o o.place t f
      early i o t f (w_again z h) = go o.place
        where
          go : InHeard g Poll c l ch.latch m v → After' g s ch m (λ n k y w q. d ≤ c.tries + 1 → NotBusy n.phase) 2
          go (inl (p, k)) = e_poll o p t (λ e. f (again_next c.tries (allowed_of r) v z h ∙ e))
          go (inr (p, k)) = absurd (omega arith)
      early i o t f (w_give z h) = tt
      early i o t f (w_page z) = tt
      early i o t f (w_take z) = tt
      early i o t f (w_next n) = tt
      early i o t f (w_end e) = tt
      early i o t f (w_over w) = tt

  -- the next poll is at most the last allowed, and comes after those sent
  pub next_slot : (sl : Slot) (t a v : ℕ) → (poll_by sl t a v ≡ 0) ⊎ ((sl ≡ Poll) × (0 < v) × (t < a) × (poll_by sl t a v ≡ t + 1))
  next_slot Select t a v = inl refl
  next_slot High t a v = inl refl
  next_slot Low t a v = inl refl
  next_slot Data t a v = inl refl
  next_slot Poll t a v = go (eqb v 0) (ltb t a) refl refl
    where
      go : (x y : Bool) → eqb v 0 ≡ x → ltb t a ≡ y → (cond x 0 (cond y (t + 1) 0) ≡ 0) ⊎ ((Poll ≡ Poll) × (0 < v) × (t < a) × (cond x 0 (cond y (t + 1) 0) ≡ t + 1))
      go true y e h = inl refl
      go false true e h = inr (refl, omega (arith, eqb-false v 0 e), ltb-true t a h, refl)
      go false false e h = inl refl
  next_slot Turn t a v = inl refl
  next_slot Take t a v = inl refl

  pub turn_holds : (d : ℕ) (y : System) → Holds g y → Holds g (turn_of our_driver (ours (F g) r.enable) d y)
  unfolding turn_of
  turn_holds d y h =
      branch (λ (t : System). Holds g (asked_of our_driver (ours (F g) r.enable) t)) (end_due_of d y)
      (λ _. asked_holds g s (cycle_ended_of (ours (F g) r.enable) y) (ended_holds g s y h)) (λ _. asked_holds g s y h)

  module _ (d : ℕ) (pos : 1 ≤ d) where
    abbrev EarlyNow : System → Type 0
    EarlyNow y = Early d y.driver.phase y.driver.counts y.chip.line

    asked_early : (y : System) → Holds g y → EarlyNow y → (poll_number_of y ≡ d → NotBusy y.chip.line.phase) → EarlyNow (asked_of our_driver (ours (F g) r.enable) y)
    asked_early y h t f = go (stepped g s y h)
      where
        fair : poll_next y.driver.phase y.driver.counts.tries (allowed_of r) y.level ≡ d → NotBusy y.chip.line.phase
        fair = subst (λ (q : Request). poll_next y.driver.phase y.driver.counts.tries (allowed_of q) y.level ≡ d → NotBusy y.chip.line.phase) h.request f

        go : Stepped g s y → EarlyNow (asked_of our_driver (ours (F g) r.enable) y)
        go w = asked_elim g s EarlyNow y w (by w.move.answer (early y.chip y.mem y.driver.counts y.buffer y.level d pos h.inv h.rel t fair w.way))
          where
            by : (a : Answer) → NextEarly y.chip y.mem y.driver.counts y.buffer y.level d pos w.move a
                → EarlyNow (answered_by (ours (F g) r.enable) y (at r w.move.phase w.move.counts) (buffer_of y.driver y.level y.buffer) a)
            by (Send e) n = n
            by (Done q n) k = t
            by (Refused z q n) k = t

    -- when the Start of the last poll allowed is next, poll number d is next or was before
    last_rests : (p : Phase) (c : Counts) (ln : Line) (v a : ℕ) → d ≤ a → (a ≡ d → NotBusy ln.phase) → Early d p c ln → poll_next p c.tries a v ≡ a → NotBusy ln.phase
    last_rests p c ln v a h k t e = ⊎_elim (λ o. go p t e o) (λ o. k (sym o)) (less_or_same d a h)
      where
        by : (sl : Slot) → early_slot d sl c ln → poll_by sl c.tries a v ≡ a → d < a → (poll_by sl c.tries a v ≡ 0) ⊎ ((sl ≡ Poll) × (0 < v) × (c.tries < a) × (poll_by sl c.tries a v ≡ c.tries + 1)) → NotBusy ln.phase
        by sl t e o (inl z) = absurd (omega arith)
        by sl t e o (inr (z, q, w, x)) = subst (λ (k : Slot). early_slot d k c ln) z t (omega arith)

        go : (p : Phase) → Early d p c ln → poll_next p c.tries a v ≡ a → d < a → NotBusy ln.phase
        go Ready t e o = absurd (omega arith)
        go (Bits sl b) t e o = absurd (omega arith)
        go (Heard sl) t e o = by sl t e o (next_slot sl c.tries a v)
        go Rest t e o = t (omega arith)
        go (Over f) t e o = absurd (omega arith)

    pub end_rests : (y : System) → NotBusy (cycle_ended_of (ours (F g) r.enable) y).chip.line.phase
    unfolding cycle_ended_of event_with
    end_rests y = ended_rests (F g) r.enable y.chip y.mem

    pub not_due : (y : System) → end_due_of d y ≡ false → poll_number_of y ≡ d → ⊥
    unfolding end_due_of
    not_due y e = eqb-false (poll_number_of y) d e

    in_time : (n : ℕ) (y : System) → Holds g y → EarlyNow y → d ≤ allowed_of r → InTime (F g) r.enable (choices (F g) r.enable d n y) y
    in_time zero y h t w = tt
    in_time (suc n) y h t w = go (end_due_of d y) refl (λ u hu tu. in_time n u hu tu w)
      where
        f : Facts
        f = F g

        en : ℕ
        en = r.enable

        plain : end_due_of d y ≡ false → poll_number_of y ≡ allowed_of y.driver.request → NotBusy y.chip.line.phase
        plain e k =
            last_rests y.driver.phase y.driver.counts y.chip.line y.level (allowed_of y.driver.request) (subst (λ (q : Request). d ≤ allowed_of q) (sym h.request) w) (λ z. absurd (not_due y e (k ∙ z))) t k

        go : (b : Bool) → end_due_of d y ≡ b → ((u : System) → Holds g u → EarlyNow u → InTime f en (choices f en d n u) u)
            → InTime f en (cond b (false ∷ true ∷ choices f en d n (turn_of our_driver (ours f en) d y)) (true ∷ choices f en d n (turn_of our_driver (ours f en) d y))) y
        go true e k =
            let z = cycle_ended_of (ours f en) y in
            let hz = ended_holds g s y h in
            let q = end_rests y in
            let u = k (asked_of our_driver (ours f en) z) (asked_holds g s z hz) (asked_early z hz (early_rests d z.driver.phase z.driver.counts z.chip.line q) (λ _. q)) in
            (λ _. q, subst (λ (v : System). InTime f en (choices f en d n v) (asked_of our_driver (ours f en) z)) (sym (turn_due f en d y e)) u)
        go false e k =
            let u = k (asked_of our_driver (ours f en) y) (asked_holds g s y h) (asked_early y h t (λ z. absurd (not_due y e z))) in
            (plain e, subst (λ (v : System). InTime f en (choices f en d n v) (asked_of our_driver (ours f en) y)) (sym (turn_plain f en d y e)) u)

pub turns_end : (r : Request) (xs : List ℕ) (c : Chip) (m : Mem) (d n : ℕ) → r.reads ≡ false → Begins r xs c m → Writable r.place c.line.core
    → 1 ≤ d → d ≤ allowed_of r → bound_of r < n → Complete r (turns_of our_driver (ours (facts_of r.part) r.enable) d n (start_of r xs c m))
turns_end r xs c m d n w b u lo hi h =
    let f = facts_of r.part in
    let y = start_of r xs c m in
    subst (Complete r) (sym (choices_same f r.enable d n y))
    (write_ends r xs c m b (choices f r.enable d n y) w u (in_time (G r xs c m b) (sane r xs c m b) d lo n y (start_holds r xs c m b) tt hi) (omega (arith, choices_asked f r.enable d n y)))

-- ---- the turns are enough
room_few : (n : ℕ) (p : Place) → room_of (facts_of n) p ≤ 512 * (facts_of n).page
unfolding id_size_of
room_few n (Array a) = (sound n).pages_most
room_few n (Ident i) = branch (λ (x : ℕ). x ≤ 512 * (facts_of n).page) (facts_of n).ident (λ _. omega arith) (λ _. omega arith)

pages_few : (P a n : ℕ) → 0 < P → a + n ≤ 512 * P → pages_met_of P a n ≤ 512
pages_few P a zero h o = omega (arith, pages_none P a)
pages_few P a (suc n) h o =
    omega (arith, pages_suc P a n, (div-lt_iff_lt-mul {k = P} {x = a % P + n} {y = 512} h).1 (omega (arith, mod-le a P)))

k_few : (r : Request) → GoodRequest r → k_of r ≤ 512
unfolding k_of
k_few r g = pages_few (facts_of r.part).page (from_of r.place) r.length (sound r.part).page_pos (omega (arith, g.fits, room_few r.part r.place))

bytes_most : (r : Request) → address_bytes r ≤ 2
unfolding address_bytes_of
bytes_most r = branch (λ (x : ℕ). x ≤ 2) (facts_of r.part).wide (λ e. omega arith) (λ e. omega arith)

-- with one to spare: the driver has finished before the last
pub spare_turn : (r : Request) (xs : List ℕ) → Accepted r xs → bound_of r + 1 < enough
spare_turn r xs a =
    let g = good_request r (ap is_fine a.fine) in
    let k = k_few r g in
    let b = bytes_most r in
    let n : r.length ≤ 32768 = omega (arith, g.fits, room_most r.part r.place) in
    let x : k_of r * (1 + address_bytes r) ≤ 512 * 3 = mul-le-mul k (let q : 1 + address_bytes r ≤ 3 = omega arith in q) in
    let y : k_of r * allowed_of r ≤ 512 * 1000 = mul-le-mul k g.most in
    branch (λ (z : ℕ). z + 1 < enough) r.reads (λ _. omega arith) (λ _. omega arith)

pub enough_turns : EnoughTurns
enough_turns r xs a = omega (arith, spare_turn r xs a)
