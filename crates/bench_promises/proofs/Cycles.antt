-- The cycles begun: one for each part whose Stop was sent.
-- Assumes nothing.
use Prim.Native.Nat.{ℕ, ◌+◌, ◌<◌}
use mathlib.Core.Path.{◌≡◌, refl, sym, ◌∙◌, ap}
use mathlib.Core.Bool.{Bool, true, false, false≢true}
use mathlib.Core.Logic.{inl, inr}
use mathlib.Core.List.{List, [], ◌∷◌}
use lib.ListN.{length, get_or}
use lib.Dec.{eqb}
use native.Mathlib.Omega.{arith}
use Rattle.parts.specs.Events.{event_with, event_of}
use Rattle.parts.proofs.Laws.{branch}
use Rattle.parts.proofs.Tests.{not_yes}
use Rattle.chip_laws.proofs.Bytes.{clock_begins}
use Rattle.line.specs.declared.Line.{Line}
use Rattle.line.specs.Rules.{begun_of}
use Rattle.state.specs.declared.Chip.{Chip}
use Rattle.chip.specs.Memory.{Mem}
use Rattle.driver.specs.declared.Request.{Request}
use Rattle.driver.specs.declared.Slot.{Slot}
use Rattle.driver.specs.declared.Slot.TheVariants.{Select, High, Low, Data, Poll, Turn, Take}
use Rattle.driver.specs.declared.Failed.{Failed}
use Rattle.driver.specs.declared.Failed.TheVariants.{AtSelect, AtHigh, AtLow, AtData, AtPolls}
use Rattle.driver.specs.declared.Phase.{Phase}
use Rattle.driver.specs.declared.Phase.TheVariants.{Ready, Bits, Heard, Rest, Over}
use Rattle.driver.specs.declared.Counts.{Counts}
use Rattle.driver.specs.declared.Answer.{Answer}
use Rattle.driver.specs.declared.Answer.TheVariants.{Send, Done, Refused}
use Rattle.driver.specs.declared.Move.{Move}
use Rattle.driver.specs.Request.{k_of}
use Rattle.driver.specs.Step.{wire_of, slot_byte_of, sent_counts_of, buffer_of}
use Rattle.driver.specs.Machine.{our_driver}
use Rattle.driver_promises.specs.Where.{left_of}
use Rattle.driver_promises.proofs.View.{at, missed_at, leads, Way, w_done, w_open, w_bit, w_ninth, w_got, w_nack, w_high, w_only, w_low, w_turn, w_data, w_more, w_close, w_drop, w_poll, w_again, w_give, w_page, w_take, w_next, w_end, w_over}
use Rattle.driver_promises.proofs.Inv.{left_all, left_cut, Inv, inv_step, taken_elim}
use Rattle.driver_promises.proofs.Grow.{bit_lt}
use Rattle.bench.specs.Together.{System, answered_by, asked_of, cycle_ended_of, together_of}
use Rattle.bench_promises.proofs.Rel.{Given, F, InHeard, Rel}
use Rattle.bench_promises.proofs.Keep.{Sane, Same, k_close, k_drop, k_give, k_page, k_end, no_nack}
use Rattle.bench_promises.proofs.Whole.{Holds, Stepped, stepped, asked_elim, asked_holds, ended_holds}
use Rattle.chip.specs.Model.{ours}

-- the Stop of a part's data was just sent
abbrev pub rests : Phase → ℕ
rests Ready = 0
rests (Bits s b) = 0
rests (Heard s) = 0
rests Rest = 1
rests (Over f) = 0

start_begun : (l : Line) → begun_of l (event_of 2) ≡ 0
unfolding begun_of event_with
start_begun l = refl

module _ (g : Given) (s : Sane g) (ch : Chip) (m : Mem) (c : Counts) (ys : List ℕ) (v : ℕ) where
  abbrev r : Request
  r = g.request

  abbrev l : Line
  l = ch.line

  abbrev pub Begun : Move → Answer → Type 0
  Begun mv (Send e) = begun_of l (event_of e) ≡ rests mv.phase
  Begun mv (Done q n) = Unit {0}
  Begun mv (Refused f q n) = Unit {0}

  same : {p : Phase} → Rel g p c ys l ch.latch m v → Same g s ch m l
  same o = record { pin = o.pin; lock = o.lock }

  -- only the Stop of a part's data begins a cycle
  pub begun_is : {p : Phase} {mv : Move} {zs : List ℕ} → Inv r p c → Rel g p c ys l ch.latch m v → Way r c v ys p mv zs → Begun mv mv.answer
  begun_is i o (w_done e) = tt
  begun_is i o (w_open f) = start_begun l
  begun_is i o (w_bit sl b h) = clock_begins l _ (bit_lt (slot_byte_of (wire_of (at r Ready c) (get_or ys c.at 0)) sl) b)
  begun_is i o (w_ninth sl b e h) = clock_begins l 1 (omega arith)
  begun_is i o (w_got b e h) = clock_begins l _ (branch (λ (x : ℕ). x < 2) (eqb (c.at + 1) r.length) (λ _. omega arith) (λ _. omega arith))
  begun_is i o (w_nack sl e h) = absurd (no_nack g s ch m c ys v sl e o h)
  begun_is i o (w_high z e) = clock_begins l _ (bit_lt (slot_byte_of (wire_of (at r Ready c) (get_or ys c.at 0)) High) 0)
  begun_is i o (w_only z e) = clock_begins l _ (bit_lt (slot_byte_of (wire_of (at r Ready c) (get_or ys c.at 0)) Low) 0)
  begun_is i o (w_low z) = clock_begins l _ (bit_lt (slot_byte_of (wire_of (at r Ready c) (get_or ys c.at 0)) Low) 0)
  begun_is i o (w_turn z e) = start_begun l
  begun_is i o (w_data z e) = clock_begins l _ (bit_lt (slot_byte_of (wire_of (at r Ready c) (get_or ys c.at 0)) Data) 0)
  begun_is i o (w_more z f) = clock_begins l _ (bit_lt (slot_byte_of (wire_of (at r Ready c) (get_or ys c.at 0)) Data) 0)
  begun_is i o (w_close z e) = go o.place
    where
      go : InHeard g Data c l ch.latch m v → begun_of l (event_of 3) ≡ 1
      go (inl t) = k_close g s ch m (λ n k y w q. q ≡ 1) c.at c.seen v (same o) t (λ n u y. refl)
      go (inr (t, h)) = absurd (omega arith)
  begun_is i o (w_drop z) = go o.place
    where
      go : InHeard g Data c l ch.latch m v → begun_of l (event_of 3) ≡ 0
      go (inl t) = let e = t.level in absurd (omega arith)
      go (inr (t, h)) = k_drop g s ch m (λ n k y w q. q ≡ 0) c.seen (same o) t (λ n u y. refl)
  begun_is i o w_poll = start_begun l
  begun_is i o (w_again z h) = start_begun l
  begun_is i o (w_give z h) = go o.place
    where
      go : InHeard g Poll c l ch.latch m v → begun_of l (event_of 3) ≡ 0
      go (inl (p, k)) = k_give g s ch m (λ n k y w q. q ≡ 0) c.at c.seen (same o) p (λ n k u y. refl)
      go (inr (p, k)) = absurd (omega arith)
  begun_is i o (w_page z) = go o.place
    where
      go : InHeard g Poll c l ch.latch m v → begun_of l (event_of 3) ≡ 0
      go (inl (p, k)) = absurd (omega arith)
      go (inr (p, k)) = k_page g s ch m (λ n k y w q. q ≡ 0) c.at c.seen (same o) p (λ n u y. refl)
  begun_is i o (w_take z) = clock_begins l _ (bit_lt (slot_byte_of (wire_of (at r Ready c) (get_or ys c.at 0)) Take) 0)
  begun_is i o (w_next f) = clock_begins l _ (bit_lt (slot_byte_of (wire_of (at r Ready c) (get_or ys c.at 0)) Take) 0)
  begun_is i o (w_end e) = k_end g s ch m (λ n k y w q. q ≡ 0) c.at (same o) (o.place.last e) o.place.mem (λ n u y. refl)
  begun_is i o (w_over f) = tt

-- ---- as a function of the state
abbrev slot_extra : Slot → ℕ
slot_extra Select = 0
slot_extra High = 0
slot_extra Low = 0
slot_extra Data = 0
slot_extra Poll = 1
slot_extra Turn = 0
slot_extra Take = 0

abbrev over_extra : Failed → ℕ
over_extra AtSelect = 0
over_extra AtHigh = 0
over_extra AtLow = 0
over_extra AtData = 0
over_extra AtPolls = 1

-- the cycle of the part under way was begun
abbrev extra : Phase → ℕ
extra Ready = 0
extra (Bits s b) = slot_extra s
extra (Heard s) = slot_extra s
extra Rest = 1
extra (Over f) = over_extra f

-- k cycles so far: a read begins none
abbrev pub Cyc : Request → Phase → Counts → ℕ → Type 0
Cyc r p c k = (r.reads ≡ true → k ≡ 0) × (r.reads ≡ false → k + left_of r c.seen ≡ k_of r + extra p)

lead_extra : (sl : Slot) → leads sl ≡ true → over_extra (missed_at sl) ≡ slot_extra sl
lead_extra Select e = refl
lead_extra High e = refl
lead_extra Low e = refl
lead_extra Data e = absurd (false≢true e)
lead_extra Poll e = absurd (false≢true e)
lead_extra Turn e = refl
lead_extra Take e = absurd (false≢true e)

sent_seen : (Q : ℕ → Type 0) (sl : Slot) (c : Counts) → Q c.seen → Q (sent_counts_of sl c).seen
sent_seen Q Select c q = q
sent_seen Q High c q = q
sent_seen Q Low c q = q
sent_seen Q Data c q = q
sent_seen Q Poll c q = q
sent_seen Q Turn c q = q
sent_seen Q Take c q = q

module _ (r : Request) where
  cyc_write : {c : Counts} {v : ℕ} {ys zs : List ℕ} {p : Phase} {mv : Move} (k : ℕ) → Inv r p c → r.reads ≡ false → Way r c v ys p mv zs → k + left_of r c.seen ≡ k_of r + extra p
      → k + rests mv.phase + left_of r mv.counts.seen ≡ k_of r + extra mv.phase
  cyc_write k i w (w_done e) h = omega arith
  cyc_write k i w (w_open f) h = omega arith
  cyc_write {c} {v} k i w (w_bit sl b e) h =
      taken_elim (λ (d : Counts). k + 0 + left_of r d.seen ≡ k_of r + slot_extra sl) sl c v (λ x. omega arith)
  cyc_write {c} k i w (w_ninth sl b e z) h = sent_seen (λ (x : ℕ). k + 0 + left_of r x ≡ k_of r + slot_extra sl) sl c (omega arith)
  cyc_write k i w (w_got b e z) h = omega arith
  cyc_write k i w (w_nack sl e z) h = omega (arith, lead_extra sl e)
  cyc_write k i w (w_high z e) h = omega arith
  cyc_write k i w (w_only z e) h = omega arith
  cyc_write k i w (w_low z) h = omega arith
  cyc_write k i w (w_turn z e) h = omega arith
  cyc_write k i w (w_data z e) h = omega arith
  cyc_write k i w (w_more z f) h = omega arith
  cyc_write k i w (w_close z e) h = omega arith
  cyc_write k i w (w_drop z) h = omega arith
  cyc_write k i w w_poll h = omega arith
  cyc_write k i w (w_again z o) h = omega arith
  cyc_write k i w (w_give z o) h = omega arith
  cyc_write {c} k i w (w_page z) h =
      let q = i.here.0 in
      let o = q.some in
      let n = i.common.low in
      omega (arith, left_cut r c.seen (omega arith), ap (left_of r) q.end)
  cyc_write k i w (w_take z) h = omega arith
  cyc_write k i w (w_next f) h = omega arith
  cyc_write k i w (w_end e) h = absurd (false≢true (sym w ∙ i.right))
  cyc_write k i w (w_over f) h = omega arith

  read_rests : (p : Phase) (c : Counts) → r.reads ≡ true → Inv r p c → rests p ≡ 0
  read_rests Ready c w i = refl
  read_rests (Bits s b) c w i = refl
  read_rests (Heard s) c w i = refl
  read_rests Rest c w i = absurd (false≢true (sym (not_yes r.reads i.right) ∙ w))
  read_rests (Over f) c w i = refl

module _ (g : Given) (s : Sane g) where
  abbrev now : System → Type 0
  now y = Cyc g.request y.driver.phase y.driver.counts y.cycles

  asked_cyc : (y : System) → Holds g y → now y → now (asked_of our_driver (ours (F g) g.request.enable) y)
  asked_cyc y h k = go (stepped g s y h)
    where
      go : Stepped g s y → now (asked_of our_driver (ours (F g) g.request.enable) y)
      go t =
          asked_elim g s now y t
          (by t.move.answer (begun_is g s y.chip y.mem y.driver.counts y.buffer y.level h.inv h.rel t.way))
        where
          by : (a : Answer) → Begun g s y.chip y.mem y.driver.counts y.buffer y.level t.move a
              → now (answered_by (ours (F g) g.request.enable) y (at g.request t.move.phase t.move.counts) (buffer_of y.driver y.level y.buffer) a)
          by (Send e) n = (
            λ w. omega (arith, n, k.0 w, read_rests g.request t.move.phase t.move.counts w (inv_step g.request h.inv t.way)),
            λ w. omega (arith, n, cyc_write g.request y.cycles h.inv w t.way (k.1 w)),
          )
          by (Done q n) e = k
          by (Refused f q n) e = k

  pub cyc_all : (bs : List Bool) (y : System) → Holds g y → now y → now (together_of our_driver (ours (F g) g.request.enable) bs y)
  unfolding together_of cycle_ended_of event_with
  cyc_all [] y h k = k
  cyc_all (true ∷ bs) y h k = cyc_all bs (asked_of our_driver (ours (F g) g.request.enable) y) (asked_holds g s y h) (asked_cyc y h k)
  cyc_all (false ∷ bs) y h k = cyc_all bs (cycle_ended_of (ours (F g) g.request.enable) y) (ended_holds g s y h) k

pub start_cyc : (r : Request) (c : Counts) → c.seen ≡ 0 → Cyc r Ready c 0
start_cyc r c e = (λ w. refl, λ w. omega (arith, left_all r, ap (left_of r) e))
