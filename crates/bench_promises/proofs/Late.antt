-- The run with d above the budget: no cycle ends before a poll, so the polls of the first page are used up.
-- Assumes nothing.
use Prim.Native.Nat.{ℕ, zero, suc, ◌+◌, ◌≤◌, ◌<◌}
use mathlib.Core.Path.{◌≡◌, refl, sym, ◌∙◌, ap, subst}
use mathlib.Core.Bool.{Bool, false, false≢true}
use mathlib.Core.Logic.{inl, inr, ⊎_elim}
use mathlib.Core.List.{List}
use lib.ListN.{length}
use native.Mathlib.Omega.{arith}
use borrow.Author.Tests.{ne_eqb}
use Rattle.parts.specs.declared.Refusal.{Refusal}
use Rattle.parts.specs.declared.Refusal.TheVariants.{PollsUsed}
use Rattle.parts.specs.Table.{facts_of}
use Rattle.line.specs.Rules.{NoTransfer}
use Rattle.line.specs.declared.Cycle.TheVariants.{Writing}
use Rattle.line.specs.declared.Phase.TheVariants.{Busy}
use Rattle.line.specs.declared.Line.{Line}
use Rattle.state.specs.declared.Chip.{Chip}
use Rattle.chip.specs.Memory.{Mem}
use Rattle.driver.specs.declared.Request.{Request}
use Rattle.driver.specs.declared.Slot.{Slot}
use Rattle.driver.specs.declared.Slot.TheVariants.{Select, High, Low, Data, Poll, Turn, Take}
use Rattle.driver.specs.declared.Failed.TheVariants.{AtPolls}
use Rattle.driver.specs.declared.Phase.{Phase}
use Rattle.driver.specs.declared.Phase.TheVariants.{Ready, Bits, Heard, Rest, Over}
use Rattle.driver.specs.declared.Counts.{Counts}
use Rattle.driver.specs.declared.Answer.{Answer}
use Rattle.driver.specs.declared.Answer.TheVariants.{Send, Done, Refused}
use Rattle.driver.specs.declared.Move.{Move}
use Rattle.driver.specs.Request.{allowed_of}
use Rattle.driver.specs.Step.{wire_of, sent_counts_of, buffer_of, refusal_of}
use Rattle.driver.specs.Machine.{our_driver}
use Rattle.driver_promises.specs.Run.{Finished, bound_of}
use Rattle.driver_promises.specs.Where.{left_of}
use Rattle.driver_promises.proofs.View.{at, Way, w_done, w_open, w_bit, w_ninth, w_got, w_nack, w_high, w_only, w_low, w_turn, w_data, w_more, w_close, w_drop, w_poll, w_again, w_give, w_page, w_take, w_next, w_end, w_over}
use Rattle.driver_promises.proofs.Inv.{Inv, taken_elim, left_all}
use Rattle.driver_promises.proofs.Grow.{bit_lt}
use Rattle.bench.specs.Together.{System, start_of, answered_by, asked_of, together_of, poll_next, end_due_of, turns_of}
use Rattle.bench_promises.specs.Together.{Begins, answer_of}
use Rattle.bench_promises.specs.Ends.{Writable, poll_number_of}
use Rattle.bench_promises.proofs.Hears.{deaf_heard, start_busy}
use Rattle.bench_promises.proofs.Rel.{refusing, Given, F, T, select_b, InHeard, Rel}
use Rattle.bench_promises.proofs.Keep.{Sane, Same, After', k_close, no_nack}
use Rattle.bench_promises.proofs.Whole.{Holds, Stepped, stepped, asked_elim, asked_holds, G, sane, start_holds}
use Rattle.bench_promises.proofs.Cycles.{Cyc}
use Rattle.bench_promises.proofs.Stored.{spoken, all_done, cycles_now, finished}
use Rattle.bench_promises.proofs.Live.{not_refusing}
use Rattle.bench_promises.proofs.Turns.{choices, choices_asked, choices_same, turn_plain, next_slot}
use Rattle.chip.specs.Model.{ours}

-- in the first page, and all polls so far are its own
pub record First (c : Counts) : Type 0 where
  pub seen : c.seen ≡ 0
  pub polls : c.polls ≡ c.tries

module _ (g : Given) (s : Sane g) (free : refusing (T g) g.pin g.locked ≡ false) (writes : g.request.reads ≡ false) where
  abbrev r : Request
  r = g.request

  abbrev running : Line → Type 0
  running l = l.phase ≡ Busy (Writing (T g))

  abbrev late_bits : Slot → Line → Type 0
  late_bits Select l = Unit {0}
  late_bits High l = Unit {0}
  late_bits Low l = Unit {0}
  late_bits Data l = Unit {0}
  late_bits Poll l = running l
  late_bits Turn l = Unit {0}
  late_bits Take l = Unit {0}

  abbrev late_heard : Slot → Line → ℕ → Type 0
  late_heard Select l v = Unit {0}
  late_heard High l v = Unit {0}
  late_heard Low l v = Unit {0}
  late_heard Data l v = Unit {0}
  late_heard Poll l v = running l × (0 < v)
  late_heard Turn l v = Unit {0}
  late_heard Take l v = Unit {0}

  -- while it polls the cycle runs; over, it has used all polls
  abbrev Late : Phase → Counts → Line → ℕ → Type 0
  Late Ready c l v = Unit {0}
  Late (Bits sl b) c l v = late_bits sl l
  Late (Heard sl) c l v = late_heard sl l v
  Late Rest c l v = running l
  Late (Over f) c l v = (f ≡ AtPolls) × (c.tries ≡ allowed_of r)

  sent_first : (sl : Slot) (c : Counts) → First c → First (sent_counts_of sl c)
  sent_first Select c f = f
  sent_first High c f = f
  sent_first Low c f = f
  sent_first Data c f = record { seen = f.seen; polls = f.polls }
  sent_first Poll c f = f
  sent_first Turn c f = f
  sent_first Take c f = record { seen = f.seen; polls = f.polls }

  first_step : {c : Counts} {v : ℕ} {ys zs : List ℕ} {p : Phase} {mv : Move} (l : Line) → Inv r p c → Late p c l v → First c → Way r c v ys p mv zs → First mv.counts
  first_step l i t f (w_done e) = f
  first_step l i t f (w_open n) = f
  first_step {c} {v} l i t f (w_bit sl b h) = taken_elim First sl c v (λ x. record { seen = f.seen; polls = f.polls })
  first_step {c} l i t f (w_ninth sl b e h) = sent_first sl c f
  first_step l i t f (w_got b e h) = record { seen = f.seen; polls = f.polls }
  first_step l i t f (w_nack sl e h) = f
  first_step l i t f (w_high z e) = record { seen = f.seen; polls = f.polls }
  first_step l i t f (w_only z e) = record { seen = f.seen; polls = f.polls }
  first_step l i t f (w_low z) = record { seen = f.seen; polls = f.polls }
  first_step l i t f (w_turn z e) = f
  first_step l i t f (w_data z e) = record { seen = f.seen; polls = f.polls }
  first_step l i t f (w_more z n) = record { seen = f.seen; polls = f.polls }
  first_step l i t f (w_close z e) = f
  first_step l i t f (w_drop z) = f
  first_step l i t f w_poll = record { seen = f.seen; polls = ap (λ (k : ℕ). k + 1) f.polls }
  first_step l i t f (w_again z o) = record { seen = f.seen; polls = ap (λ (k : ℕ). k + 1) f.polls }
  first_step l i t f (w_give z o) = f
  first_step l i t f (w_page z) = let k = t.1 in absurd (omega arith)
  first_step l i t f (w_take z) = record { seen = f.seen; polls = f.polls }
  first_step l i t f (w_next n) = record { seen = f.seen; polls = f.polls }
  first_step l i t f (w_end e) = absurd (false≢true (sym writes ∙ i.right))
  first_step l i t f (w_over w) = f

  module _ (ch : Chip) (m : Mem) (c : Counts) (ys : List ℕ) (v : ℕ) where
    abbrev l : Line
    l = ch.line

    same : {p : Phase} → Rel g p c ys l ch.latch m v → Same g s ch m l
    same o = record { pin = o.pin; lock = o.lock }

    abbrev NextLate : Move → Answer → Type 0
    NextLate mv (Send e) = After' g s ch m (λ n k y w q. Late mv.phase mv.counts n w) e
    NextLate mv (Done q n) = Unit {0}
    NextLate mv (Refused f q n) = Unit {0}

    -- a clock and a Start are not heard
    t_clock : (x : ℕ) → x < 2 → running l → (Q : Line → ℕ → Type 0) → Q l 1 → After' g s ch m (λ n k y w q. Q n w) x
    t_clock x h t Q q = deaf_heard (F g) r.enable ch m (λ n k y w q. Q n w) x h (subst NoTransfer (sym t) tt) q

    t_start : running l → After' g s ch m (λ n k y w q. running n) 2
    t_start t = start_busy (F g) r.enable ch m (λ n k y w q. running n) (Writing (T g)) t t

    lates : {p : Phase} {mv : Move} {zs : List ℕ} → Inv r p c → Rel g p c ys l ch.latch m v → Late p c l v → Way r c v ys p mv zs → NextLate mv mv.answer
    unfolding wire_of
    lates i o t (w_done e) = tt
    lates i o t (w_open n) = tt
    lates i o t (w_bit Select b h) = tt
    lates i o t (w_bit High b h) = tt
    lates i o t (w_bit Low b h) = tt
    lates i o t (w_bit Data b h) = tt
    lates i o t (w_bit Poll b h) = t_clock _ (bit_lt (select_b g c.seen) b) t (λ n w. running n) t
    lates i o t (w_bit Turn b h) = tt
    lates i o t (w_bit Take b h) = tt
    lates i o t (w_ninth Select b e h) = tt
    lates i o t (w_ninth High b e h) = tt
    lates i o t (w_ninth Low b e h) = tt
    lates i o t (w_ninth Data b e h) = tt
    lates i o t (w_ninth Poll b e h) = t_clock 1 (omega arith) t (λ n w. running n × (0 < w)) (t, omega arith)
    lates i o t (w_ninth Turn b e h) = tt
    lates i o t (w_ninth Take b e h) = tt
    lates i o t (w_got b e h) = tt
    lates i o t (w_nack sl e h) = absurd (no_nack g s ch m c ys v sl e o h)
    lates i o t (w_high z e) = tt
    lates i o t (w_only z e) = tt
    lates i o t (w_low z) = tt
    lates i o t (w_turn z e) = tt
    lates i o t (w_data z e) = tt
    lates i o t (w_more z n) = tt
    lates i o t (w_close z e) = go o.place
      where
        go : InHeard g Data c l ch.latch m v → After' g s ch m (λ n k y w q. running n) 3
        go (inl q) = k_close g s ch m (λ n k y w q. running n) c.at c.seen v (same o) q (λ n u y. y.phase)
        go (inr (q, h)) = absurd (omega arith)
    lates i o t (w_drop z) = absurd (go o.place)
      where
        go : InHeard g Data c l ch.latch m v → ⊥
        go (inl q) = let e = q.level in omega arith
        go (inr (q, h)) = false≢true (sym free ∙ q.shut)
    lates i o t w_poll = t_start t
    lates i o t (w_again z h) = t_start t.0
    lates i o t (w_give z h) = let q = i.common.tries in (refl, omega arith)
    lates i o t (w_page z) = let k = t.1 in absurd (omega arith)
    lates i o t (w_take z) = tt
    lates i o t (w_next n) = tt
    lates i o t (w_end e) = absurd (false≢true (sym writes ∙ i.right))
    lates i o t (w_over w) = tt

  pub record LateNow (y : System) : Type 0 where
    pub first : First y.driver.counts
    pub late : Late y.driver.phase y.driver.counts y.chip.line y.level

  asked_late : (y : System) → Holds g y → LateNow y → LateNow (asked_of our_driver (ours (F g) r.enable) y)
  asked_late y h t = go (stepped g s y h)
    where
      go : Stepped g s y → LateNow (asked_of our_driver (ours (F g) r.enable) y)
      go w =
          asked_elim g s LateNow y w
          (by w.move.answer (first_step y.chip.line h.inv t.late t.first w.way) (lates y.chip y.mem y.driver.counts y.buffer y.level h.inv h.rel t.late w.way))
        where
          by : (a : Answer) → First w.move.counts → NextLate y.chip y.mem y.driver.counts y.buffer y.level w.move a
              → LateNow (answered_by (ours (F g) r.enable) y (at r w.move.phase w.move.counts) (buffer_of y.driver y.level y.buffer) a)
          by (Send e) f n = record { first = f; late = n }
          by (Done q n) f k = t
          by (Refused z q n) f k = t

  -- no poll has a number above the budget
  next_most : (p : Phase) (c : Counts) (v : ℕ) → Inv r p c → poll_next p c.tries (allowed_of r) v ≤ allowed_of r
  next_most Ready c v i = omega arith
  next_most (Bits sl b) c v i = omega arith
  next_most (Heard sl) c v i = ⊎_elim (λ e. omega arith) (λ e. let a = e.2 in let b = e.3 in omega arith) (next_slot g s sl c.tries (allowed_of r) v)
  next_most Rest c v i = let z = i.here.1 in omega (arith, s.good.low writes)
  next_most (Over f) c v i = omega arith

  never_due : (d : ℕ) → allowed_of r < d → (y : System) → Holds g y → end_due_of d y ≡ false
  unfolding end_due_of
  never_due d o y h =
      ne_eqb (poll_number_of y) d
      (λ e.
      let k : poll_number_of y ≤ allowed_of r = subst (λ (q : Request). poll_next y.driver.phase y.driver.counts.tries (allowed_of q) y.level ≤ allowed_of r) (sym h.request) (next_most y.driver.phase y.driver.counts y.level h.inv) in
      omega arith)

  pub late_all : (d n : ℕ) → allowed_of r < d → (y : System) → Holds g y → LateNow y → LateNow (turns_of our_driver (ours (F g) r.enable) d n y)
  unfolding turns_of
  late_all d zero o y h t = t
  late_all d (suc n) o y h t =
      subst (λ (z : System). LateNow (turns_of our_driver (ours (F g) r.enable) d n z)) (sym (turn_plain (F g) r.enable d y (never_due d o y h)))
      (late_all d n o (asked_of our_driver (ours (F g) r.enable) y) (asked_holds g s y h) (asked_late y h t))

module _ (r : Request) (xs : List ℕ) (c : Chip) (m : Mem) (d n : ℕ) (w : r.reads ≡ false) (b : Begins r xs c m) (u : Writable r.place c.line.core) (some : 1 ≤ r.length) (o : allowed_of r < d) (h : bound_of r < n) where
  abbrev bs : List Bool
  bs = choices (facts_of r.part) r.enable d n (start_of r xs c m)

  abbrev Y : System
  Y = together_of our_driver (ours (facts_of r.part) r.enable) bs (start_of r xs c m)

  -- the same, of turns
  abbrev Z : System
  Z = turns_of our_driver (ours (facts_of r.part) r.enable) d n (start_of r xs c m)

  abbrev now : System → Type 0
  now y = LateNow (G r xs c m b) (sane r xs c m b) (not_refusing r.place c u) w y

  late : now Y
  late =
      subst now (choices_same (facts_of r.part) r.enable d n (start_of r xs c m))
      (late_all (G r xs c m b) (sane r xs c m b) (not_refusing r.place c u) w d n o (start_of r xs c m) (start_holds r xs c m b) (record { first = record { seen = refl; polls = refl }; late = tt }))

  used_up : (answer_of Y ≡ Refused PollsUsed (allowed_of r) 0) × (Y.cycles ≡ 1)
  used_up = go (answer_of Y) refl (finished r xs c m b bs (omega (arith, choices_asked (facts_of r.part) r.enable d n (start_of r xs c m))))
    where
      go : (a : Answer) → answer_of Y ≡ a → Finished a → (answer_of Y ≡ Refused PollsUsed (allowed_of r) 0) × (Y.cycles ≡ 1)
      go (Send e) z f = absurd f
      go (Done q k) z f =
          let t = spoken r xs c m b bs (Done q k) z in
          absurd (let e = all_done r xs c m b bs q k z in let x = t.2 in let y = late.first.seen in omega arith)
      go (Refused x q k) z f =
          let (v, e, i, a, p) = spoken r xs c m b bs (Refused x q k) z in
          let l = subst (λ (y : Phase). Late (G r xs c m b) (sane r xs c m b) (not_refusing r.place c u) w y Y.driver.counts Y.chip.line Y.level) e late.late in
          let j : x ≡ PollsUsed = i ∙ ap (refusal_of r Y.driver.counts) l.0 in
          let y : q ≡ allowed_of r = p ∙ (late.first.polls ∙ l.1) in
          let n0 : k ≡ 0 = a ∙ late.first.seen in
          let cyc = (subst (λ (y : Phase). Cyc r y Y.driver.counts Y.cycles) (e ∙ ap Over l.0) (cycles_now r xs c m b bs)).1 w in (
            z ∙ (ap (λ (y : Refusal). Refused y q k) j ∙ (ap (λ (y : ℕ). Refused PollsUsed y k) y ∙ ap (Refused PollsUsed (allowed_of r)) n0)),
            omega (arith, left_all r, ap (left_of r) late.first.seen),
          )

  pub turns_refused : (answer_of Z ≡ Refused PollsUsed (allowed_of r) 0) × (Z.cycles ≡ 1)
  turns_refused =
      subst (λ (y : System). (answer_of y ≡ Refused PollsUsed (allowed_of r) 0) × (y.cycles ≡ 1)) (sym (choices_same (facts_of r.part) r.enable d n (start_of r xs c m)))
      used_up
