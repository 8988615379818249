-- The run with d within the budget: every page takes exactly d polls.
-- Assumes nothing.
use Prim.Native.Nat.{ℕ, zero, suc, ◌+◌, ◌*◌, ◌≤◌, ◌<◌}
use mathlib.Core.Path.{◌≡◌, refl, sym, ◌∙◌, ap, subst}
use mathlib.Core.Bool.{Bool, true, false, cond, false≢true}
use mathlib.Core.Logic.{◌⊎◌, inl, inr, ⊎_elim}
use mathlib.Core.List.{List}
use native.Mathlib.Omega.{arith}
use borrow.Author.Tests.{eqb-true}
use Rattle.parts.specs.Table.{facts_of}
use Rattle.line.specs.Rules.{NoTransfer}
use Rattle.line.specs.declared.Cycle.TheVariants.{Writing}
use Rattle.line.specs.declared.Recv.TheVariants.{Select as SelectByte}
use Rattle.line.specs.declared.Phase.TheVariants.{Receive, Busy}
use Rattle.line.specs.declared.Line.{Line}
use Rattle.state.specs.declared.Chip.{Chip}
use Rattle.chip.specs.Memory.{Mem}
use Rattle.chip.specs.Model.{ours}
use Rattle.chip_promises.specs.States.{NotBusy}
use Rattle.driver.specs.declared.Request.{Request}
use Rattle.driver.specs.declared.Slot.{Slot}
use Rattle.driver.specs.declared.Slot.TheVariants.{Select, High, Low, Data, Poll, Turn, Take}
use Rattle.driver.specs.declared.Phase.{Phase}
use Rattle.driver.specs.declared.Phase.TheVariants.{Ready, Bits, Heard, Rest, Over}
use Rattle.driver.specs.declared.Counts.{Counts}
use Rattle.driver.specs.declared.Answer.{Answer}
use Rattle.driver.specs.declared.Answer.TheVariants.{Send, Done, Refused}
use Rattle.driver.specs.declared.Move.{Move}
use Rattle.driver.specs.Request.{allowed_of, k_of}
use Rattle.driver.specs.Step.{bit_of, wire_of, sent_counts_of, buffer_of}
use Rattle.driver.specs.Machine.{our_driver}
use Rattle.driver_promises.specs.Where.{left_of}
use Rattle.driver_promises.proofs.View.{at, Way, w_done, w_open, w_bit, w_ninth, w_got, w_nack, w_high, w_only, w_low, w_turn, w_data, w_more, w_close, w_drop, w_poll, w_again, w_give, w_page, w_take, w_next, w_end, w_over}
use Rattle.driver_promises.proofs.Inv.{Inv, taken_elim, left_all, left_none, left_cut}
use Rattle.driver_promises.proofs.Grow.{bit_lt}
use Rattle.bench.specs.Together.{System, start_of, answered_by, asked_of, cycle_ended_of, together_of, poll_next, end_due_of, turn_of, turns_of}
use Rattle.bench_promises.specs.Together.{Begins, answer_of}
use Rattle.bench_promises.specs.Ends.{Writable, poll_number_of}
use Rattle.bench_promises.proofs.Hears.{deaf_heard, start_busy}
use Rattle.bench_promises.proofs.Wrote.{less_or_same}
use Rattle.bench_promises.proofs.Rel.{refusing, Given, F, T, select_b, Pending, InBits, InHeard, Rel}
use Rattle.bench_promises.proofs.Keep.{Sane, Same, After', k_poll, k_polled, k_select, k_close, select_lt, no_nack}
use Rattle.bench_promises.proofs.Steps.{again_next}
use Rattle.bench_promises.proofs.Whole.{Holds, Stepped, stepped, asked_elim, ended_holds, G, sane, start_holds, holds}
use Rattle.bench_promises.proofs.Stored.{spoken, all_done}
use Rattle.bench_promises.proofs.Live.{not_refusing}
use Rattle.bench_promises.proofs.Turns.{choices, choices_same, turn_holds, end_rests, not_due}

is_due : (d : ℕ) (y : System) → end_due_of d y ≡ true → poll_number_of y ≡ d
unfolding end_due_of
is_due d y e = eqb-true (poll_number_of y) d e

module _ (g : Given) (s : Sane g) (free : refusing (T g) g.pin g.locked ≡ false) (writes : g.request.reads ≡ false) (d : ℕ) (pos : 1 ≤ d) (most : d ≤ allowed_of g.request) where
  abbrev r : Request
  r = g.request

  abbrev pub running : Line → Type 0
  running l = l.phase ≡ Busy (Writing (T g))

  -- in poll number t of a page: the cycle runs, or it is number d and it is heard
  abbrev pub InPoll : ℕ → Line → Type 0
  InPoll t l = ((t < d) × running l) ⊎ ((t ≡ d) × (l.phase ≡ Receive SelectByte))

  -- it is missed, or it is number d and it is acknowledged
  abbrev pub PollHeard : ℕ → Line → ℕ → Type 0
  PollHeard t l v = ((t < d) × running l × (0 < v)) ⊎ ((t ≡ d) × (v ≡ 0))

  -- before the Start of a poll, t polls sent: the cycle runs on, or number d is next and it has ended
  abbrev pub Ripe : ℕ → Line → Type 0
  Ripe t l = ((t + 1 < d) × running l) ⊎ ((t + 1 ≡ d) × NotBusy l.phase)

  abbrev pub exact_bits : Slot → ℕ → Line → Type 0
  exact_bits Select t l = Unit {0}
  exact_bits High t l = Unit {0}
  exact_bits Low t l = Unit {0}
  exact_bits Data t l = Unit {0}
  exact_bits Poll t l = InPoll t l
  exact_bits Turn t l = Unit {0}
  exact_bits Take t l = Unit {0}

  -- H: of a poll that was sent
  abbrev pub on_heard : Type 0 → Slot → Type 0
  on_heard H Select = Unit {0}
  on_heard H High = Unit {0}
  on_heard H Low = Unit {0}
  on_heard H Data = Unit {0}
  on_heard H Poll = H
  on_heard H Turn = Unit {0}
  on_heard H Take = Unit {0}

  -- after a turn
  abbrev pub Exact : Phase → ℕ → Line → ℕ → Type 0
  Exact Ready t l v = Unit {0}
  Exact (Bits sl b) t l v = exact_bits sl t l
  Exact (Heard sl) t l v = on_heard (PollHeard t l v) sl
  Exact Rest t l v = running l
  Exact (Over f) t l v = ⊥

  -- and when the cycle has ended, where it is due
  abbrev pub Due : Phase → ℕ → Line → ℕ → Type 0
  Due Ready t l v = Unit {0}
  Due (Bits sl b) t l v = exact_bits sl t l
  Due (Heard sl) t l v = on_heard (((v ≡ 0) × (t ≡ d)) ⊎ ((0 < v) × Ripe t l)) sl
  Due Rest t l v = Ripe t l
  Due (Over f) t l v = ⊥

  -- ---- from one to the other
  due_plain : (p : Phase) (c : Counts) (l : Line) (v : ℕ) → Inv r p c → Exact p c.tries l v → (poll_next p c.tries (allowed_of r) v ≡ d → ⊥) → Due p c.tries l v
  due_plain Ready c l v i t f = tt
  due_plain (Bits sl b) c l v i t f = t
  due_plain (Heard Select) c l v i t f = tt
  due_plain (Heard High) c l v i t f = tt
  due_plain (Heard Low) c l v i t f = tt
  due_plain (Heard Data) c l v i t f = tt
  due_plain (Heard Poll) c l v i (inl (h, k, o)) f = inr (o, inl (⊎_elim (λ e. e) (λ e. absurd (f (again_next c.tries (allowed_of r) v o (omega arith) ∙ e))) (less_or_same (c.tries + 1) d (omega arith)), k))
  due_plain (Heard Poll) c l v i (inr (e, z)) f = inl (z, e)
  due_plain (Heard Turn) c l v i t f = tt
  due_plain (Heard Take) c l v i t f = tt
  due_plain Rest c l v i t f = let z = i.here.1 in inl (⊎_elim (λ e. e) (λ e. absurd (f e)) (less_or_same (c.tries + 1) d (omega arith)), t)
  due_plain (Over x) c l v i t f = t

  -- an end is due only before a poll
  due_end : (p : Phase) (c : Counts) (l n : Line) (v : ℕ) → Inv r p c → Exact p c.tries l v → poll_next p c.tries (allowed_of r) v ≡ d → NotBusy n.phase → Due p c.tries n v
  due_end Ready c l n v i t e o = tt
  due_end (Bits sl b) c l n v i t e o = absurd (omega arith)
  due_end (Heard Select) c l n v i t e o = tt
  due_end (Heard High) c l n v i t e o = tt
  due_end (Heard Low) c l n v i t e o = tt
  due_end (Heard Data) c l n v i t e o = tt
  due_end (Heard Poll) c l n v i (inl (h, k, z)) e o = inr (z, inr (sym (again_next c.tries (allowed_of r) v z (omega arith)) ∙ e, o))
  due_end (Heard Poll) c l n v i (inr (h, z)) e o = inl (z, h)
  due_end (Heard Turn) c l n v i t e o = tt
  due_end (Heard Take) c l n v i t e o = tt
  due_end Rest c l n v i t e o = inr (e, o)
  due_end (Over x) c l n v i t e o = t

  -- ---- an asking
  module _ (ch : Chip) (m : Mem) (c : Counts) (ys : List ℕ) (v : ℕ) where
    abbrev l : Line
    l = ch.line

    same : {p : Phase} → Rel g p c ys l ch.latch m v → Same g s ch m l
    same o = record { pin = o.pin; lock = o.lock }

    abbrev NextExact : Phase → Move → Answer → Type 0
    NextExact p mv (Send e) = After' g s ch m (λ n k y w q. Exact mv.phase mv.counts.tries n w) e
    NextExact p mv (Done q n) = Exact p c.tries l v
    NextExact p mv (Refused f q n) = Exact p c.tries l v

    -- the Start of a poll
    x_poll : {p : Phase} → Rel g p c ys l ch.latch m v → Pending g c.at c.seen l ch.latch m → Ripe c.tries l → After' g s ch m (λ n k y w q. InPoll (c.tries + 1) n) 2
    x_poll o p (inl (h, t)) = start_busy (F g) r.enable ch m (λ n k y w q. InPoll (c.tries + 1) n) (Writing (T g)) t (inl (h, t))
    x_poll o p (inr (e, f)) =
        k_poll g s ch m (λ n k y w q. InPoll (c.tries + 1) n) c.at c.seen (same o) p
        (λ q. absurd (subst NotBusy q.phase f))
        (λ n u q. inr (e, q.taking.phase))

    not_pending : Pending g c.at c.seen l ch.latch m → l.phase ≡ Receive SelectByte → ⊥
    not_pending (inl p) e = subst NoTransfer (sym p.phase ∙ e) tt
    not_pending (inr p) e = subst NoTransfer (sym p.phase ∙ e) tt

    x_bit : (b : ℕ) → b < 8 → Rel g (Bits Poll b) c ys l ch.latch m v → InPoll c.tries l → After' g s ch m (λ n k y w q. InPoll c.tries n) (bit_of (select_b g c.seen) b)
    x_bit b h o (inl (u, t)) = deaf_heard (F g) r.enable ch m (λ n k y w q. InPoll c.tries n) _ (bit_lt (select_b g c.seen) b) (subst NoTransfer (sym t) tt) (inl (u, t))
    x_bit b h o (inr (u, t)) = go o.place
      where
        go : InBits g Poll b c l ch.latch m v → After' g s ch m (λ n k y w q. InPoll c.tries n) (bit_of (select_b g c.seen) b)
        go (inl p) = absurd (not_pending p t)
        go (inr p) = k_polled g s ch m (λ n k y w q. InPoll c.tries n) b (select_b g c.seen) c.at _ (omega (arith, select_lt g s c.seen)) h refl (same o) p (λ n z q. inr (u, q.taking.phase))

    x_ninth : (b : ℕ) → b ≡ 8 → Rel g (Bits Poll b) c ys l ch.latch m v → InPoll c.tries l → After' g s ch m (λ n k y w q. PollHeard c.tries n w) 1
    x_ninth b h o (inl (u, t)) = deaf_heard (F g) r.enable ch m (λ n k y w q. PollHeard c.tries n w) 1 (omega arith) (subst NoTransfer (sym t) tt) (inl (u, t, omega arith))
    x_ninth b h o (inr (u, t)) = go o.place
      where
        go : InBits g Poll b c l ch.latch m v → After' g s ch m (λ n k y w q. PollHeard c.tries n w) 1
        go (inl p) = absurd (not_pending p t)
        go (inr p) = k_select g s ch m (λ n k y w q. PollHeard c.tries n w) b c.seen h p.taking (λ n z q. inr (u, refl))

    ripe : 0 < v → ((v ≡ 0) × (c.tries ≡ d)) ⊎ ((0 < v) × Ripe c.tries l) → Ripe c.tries l
    ripe h (inl (e, z)) = absurd (omega arith)
    ripe h (inr (e, z)) = z

    exacts : {p : Phase} {mv : Move} {zs : List ℕ} → Inv r p c → Rel g p c ys l ch.latch m v → Due p c.tries l v → Way r c v ys p mv zs → NextExact p mv mv.answer
    unfolding wire_of
    exacts i o t (w_done e) = tt
    exacts i o t (w_open n) = tt
    exacts i o t (w_bit Select b h) = tt
    exacts i o t (w_bit High b h) = tt
    exacts i o t (w_bit Low b h) = tt
    exacts i o t (w_bit Data b h) = tt
    exacts i o t (w_bit Poll b h) = x_bit b h o t
    exacts i o t (w_bit Turn b h) = tt
    exacts i o t (w_bit Take b h) = tt
    exacts i o t (w_ninth Select b e h) = tt
    exacts i o t (w_ninth High b e h) = tt
    exacts i o t (w_ninth Low b e h) = tt
    exacts i o t (w_ninth Data b e h) = tt
    exacts i o t (w_ninth Poll b e h) = x_ninth b h o t
    exacts i o t (w_ninth Turn b e h) = tt
    exacts i o t (w_ninth Take b e h) = tt
    exacts i o t (w_got b e h) = tt
    exacts i o t (w_nack sl e h) = absurd (no_nack g s ch m c ys v sl e o h)
    exacts i o t (w_high z e) = tt
    exacts i o t (w_only z e) = tt
    exacts i o t (w_low z) = tt
    exacts i o t (w_turn z e) = tt
    exacts i o t (w_data z e) = tt
    exacts i o t (w_more z n) = tt
    exacts i o t (w_close z e) = go o.place
      where
        go : InHeard g Data c l ch.latch m v → After' g s ch m (λ n k y w q. running n) 3
        go (inl q) = k_close g s ch m (λ n k y w q. running n) c.at c.seen v (same o) q (λ n u y. y.phase)
        go (inr (q, h)) = absurd (omega arith)
    exacts i o t (w_drop z) = absurd (go o.place)
      where
        go : InHeard g Data c l ch.latch m v → ⊥
        go (inl q) = let e = q.level in omega arith
        go (inr (q, h)) = false≢true (sym free ∙ q.shut)
    exacts i o t w_poll = x_poll o o.place t
    exacts i o t (w_again z h) = go o.place
      where
        go : InHeard g Poll c l ch.latch m v → After' g s ch m (λ n k y w q. InPoll (c.tries + 1) n) 2
        go (inl (p, k)) = x_poll o p (ripe z t)
        go (inr (p, k)) = absurd (omega arith)
    exacts i o t (w_give z h) = ⊎_elim (λ e. let k = e.0 in absurd (omega arith)) (λ e. let k = e.0 in absurd (omega arith)) (ripe z t)
    exacts i o t (w_page z) = tt
    exacts i o t (w_take z) = tt
    exacts i o t (w_next n) = tt
    exacts i o t (w_end e) = tt
    exacts i o t (w_over w) = absurd t

    -- ---- the polls so far: d for each page that is done
    abbrev Spent : Counts → Type 0
    Spent x = x.polls + left_of r x.seen * d ≡ k_of r * d + x.tries

    sent_spent : (sl : Slot) → Spent c → Spent (sent_counts_of sl c)
    sent_spent Select h = h
    sent_spent High h = h
    sent_spent Low h = h
    sent_spent Data h = h
    sent_spent Poll h = h
    sent_spent Turn h = h
    sent_spent Take h = h

    spends : {p : Phase} {mv : Move} {zs : List ℕ} → Inv r p c → Due p c.tries l v → Way r c v ys p mv zs → Spent c → Spent mv.counts
    spends i t (w_done e) h = h
    spends i t (w_open n) h = h
    spends i t (w_bit sl b e) h = taken_elim Spent sl c v (λ x. h)
    spends i t (w_ninth sl b e z) h = sent_spent sl h
    spends i t (w_got b e z) h = h
    spends i t (w_nack sl e z) h = h
    spends i t (w_high z e) h = h
    spends i t (w_only z e) h = h
    spends i t (w_low z) h = h
    spends i t (w_turn z e) h = h
    spends i t (w_data z e) h = h
    spends i t (w_more z n) h = h
    spends i t (w_close z e) h = h
    spends i t (w_drop z) h = h
    spends i t w_poll h = omega arith
    spends i t (w_again z o) h = omega arith
    spends i t (w_give z o) h = h
    spends i (inl (e, f)) (w_page z) h =
        let q = i.here.0 in
        let o = q.some in
        let n = i.common.low in
        omega (arith, ap (λ (k : ℕ). k * d) (left_cut r c.seen (omega arith) ∙ ap (λ (k : ℕ). suc (left_of r k)) (sym q.end)))
    spends i (inr (e, f)) (w_page z) h = absurd (omega arith)
    spends i t (w_take z) h = h
    spends i t (w_next n) h = h
    spends i t (w_end e) h = absurd (false≢true (sym writes ∙ i.right))
    spends i t (w_over f) h = h

  -- ---- a turn
  pub record ExactNow (y : System) : Type 0 where
    pub exact : Exact y.driver.phase y.driver.counts.tries y.chip.line y.level
    pub spent : y.driver.counts.polls + left_of r y.driver.counts.seen * d ≡ k_of r * d + y.driver.counts.tries

  asked_exact : (y : System) → Holds g y → Due y.driver.phase y.driver.counts.tries y.chip.line y.level
      → y.driver.counts.polls + left_of r y.driver.counts.seen * d ≡ k_of r * d + y.driver.counts.tries → ExactNow (asked_of our_driver (ours (F g) r.enable) y)
  asked_exact y h t k = go (stepped g s y h)
    where
      go : Stepped g s y → ExactNow (asked_of our_driver (ours (F g) r.enable) y)
      go w =
          asked_elim g s ExactNow y w
          (by w.move.answer (spends y.chip y.mem y.driver.counts y.buffer y.level h.inv t w.way k) (exacts y.chip y.mem y.driver.counts y.buffer y.level h.inv h.rel t w.way))
        where
          by : (a : Answer) → Spent y.chip y.mem y.driver.counts y.buffer y.level w.move.counts → NextExact y.chip y.mem y.driver.counts y.buffer y.level y.driver.phase w.move a
              → ExactNow (answered_by (ours (F g) r.enable) y (at r w.move.phase w.move.counts) (buffer_of y.driver y.level y.buffer) a)
          by (Send e) f n = record { exact = n; spent = f }
          by (Done q n) f x = record { exact = x; spent = k }
          by (Refused z q n) f x = record { exact = x; spent = k }

  -- the system when the driver is asked: after the end, where it is due
  abbrev pub asked_at : System → System
  asked_at y = cond (end_due_of d y) (cycle_ended_of (ours (F g) r.enable) y) y

  pub due_now : (y : System) → Holds g y → ExactNow y → Due y.driver.phase y.driver.counts.tries (asked_at y).chip.line y.level
  due_now y h t = go (end_due_of d y) refl
    where
      is_next : (P : ℕ → Type 0) → P (poll_number_of y) → P (poll_next y.driver.phase y.driver.counts.tries (allowed_of r) y.level)
      is_next P p = subst (λ (q : Request). P (poll_next y.driver.phase y.driver.counts.tries (allowed_of q) y.level)) h.request p

      go : (b : Bool) → end_due_of d y ≡ b → Due y.driver.phase y.driver.counts.tries (cond b (cycle_ended_of (ours (F g) r.enable) y) y).chip.line y.level
      go true e =
          due_end y.driver.phase y.driver.counts y.chip.line (cycle_ended_of (ours (F g) r.enable) y).chip.line y.level h.inv t.exact (is_next (λ (n : ℕ). n ≡ d) (is_due d y e)) (end_rests g s d pos y)
      go false e = due_plain y.driver.phase y.driver.counts y.chip.line y.level h.inv t.exact (is_next (λ (n : ℕ). n ≡ d → ⊥) (not_due g s d pos y e))

  pub turn_exact : (y : System) → Holds g y → ExactNow y → ExactNow (turn_of our_driver (ours (F g) r.enable) d y)
  unfolding turn_of cycle_ended_of
  turn_exact y h t = go (end_due_of d y) (due_now y h t)
    where
      go : (b : Bool) → Due y.driver.phase y.driver.counts.tries (cond b (cycle_ended_of (ours (F g) r.enable) y) y).chip.line y.level
          → ExactNow (asked_of our_driver (ours (F g) r.enable) (cond b (cycle_ended_of (ours (F g) r.enable) y) y))
      go true u = asked_exact (cycle_ended_of (ours (F g) r.enable) y) (ended_holds g s y h) u t.spent
      go false u = asked_exact y h u t.spent

  pub exact_all : (n : ℕ) (y : System) → Holds g y → ExactNow y → ExactNow (turns_of our_driver (ours (F g) r.enable) d n y)
  unfolding turns_of
  exact_all zero y h t = t
  exact_all (suc n) y h t = exact_all n (turn_of our_driver (ours (F g) r.enable) d y) (turn_holds g s d y h) (turn_exact y h t)

-- a write that is done has sent d polls for each page
module _ (r : Request) (xs : List ℕ) (c : Chip) (m : Mem) (d n : ℕ) (w : r.reads ≡ false) (b : Begins r xs c m) (u : Writable r.place c.line.core) (lo : 1 ≤ d) (hi : d ≤ allowed_of r) where
  abbrev bs : List Bool
  bs = choices (facts_of r.part) r.enable d n (start_of r xs c m)

  abbrev Y : System
  Y = together_of our_driver (ours (facts_of r.part) r.enable) bs (start_of r xs c m)

  abbrev now : System → Type 0
  now y = ExactNow (G r xs c m b) (sane r xs c m b) (not_refusing r.place c u) w d lo hi y

  pub start_exact : now (start_of r xs c m)
  start_exact = record { exact = tt; spent = omega (arith, ap (λ (k : ℕ). k * d) (left_all r)) }

  exact_now : now Y
  exact_now =
      subst now (choices_same (facts_of r.part) r.enable d n (start_of r xs c m))
      (exact_all (G r xs c m b) (sane r xs c m b) (not_refusing r.place c u) w d lo hi n (start_of r xs c m) (start_holds r xs c m b) start_exact)

  -- done, no page is left
  pub none_left : (q k : ℕ) → answer_of Y ≡ Done q k → left_of r Y.driver.counts.seen ≡ 0
  none_left q k e = ap (left_of r) (sym (spoken r xs c m b bs (Done q k) e).2 ∙ all_done r xs c m b bs q k e) ∙ left_none r

  pub polls_exact : (q k : ℕ) → answer_of Y ≡ Done q k → q ≡ k_of r * d
  polls_exact q k e =
      let z = spoken r xs c m b bs (Done q k) e in
      let i = subst (λ (p : Phase). Inv r p Y.driver.counts) z.0 (holds r xs c m b bs).inv in
      let o = i.here.none in
      let x = z.3 in
      let y = exact_now.spent in
      omega (arith, ap (λ (j : ℕ). j * d) (none_left q k e))
