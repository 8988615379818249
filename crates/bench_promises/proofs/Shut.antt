-- A write that the pin or the lock forbids is refused at its first data byte, and leaves everything.
-- Assumes nothing.
use Prim.Native.Nat.{ℕ, ◌+◌, ◌-◌, ◌<◌, ◌≤◌}
use mathlib.Core.Path.{◌≡◌, refl, sym, ◌∙◌, ap, subst}
use mathlib.Core.Bool.{Bool, true, false, ◌||◌, false≢true}
use mathlib.Core.Logic.{inl, inr}
use mathlib.Core.List.{List, [], ◌∷◌}
use native.Mathlib.Omega.{arith}
use Rattle.parts.specs.declared.Refusal.{Refusal}
use Rattle.parts.specs.declared.Refusal.TheVariants.{NoData}
use Rattle.parts.specs.Table.{facts_of}
use Rattle.line.specs.Rules.{is_high}
use Rattle.state.specs.declared.Chip.{Chip}
use Rattle.chip.specs.Memory.{Mem}
use Rattle.driver.specs.declared.Place.{Place}
use Rattle.driver.specs.declared.Place.TheVariants.{Array, Ident}
use Rattle.driver.specs.declared.Request.{Request}
use Rattle.driver.specs.declared.Slot.{Slot}
use Rattle.driver.specs.declared.Slot.TheVariants.{Select, High, Low, Data, Poll, Turn, Take}
use Rattle.driver.specs.declared.Failed.TheVariants.{AtData}
use Rattle.driver.specs.declared.Phase.{Phase}
use Rattle.driver.specs.declared.Phase.TheVariants.{Ready, Bits, Heard, Rest, Over}
use Rattle.driver.specs.declared.Counts.{Counts}
use Rattle.driver.specs.declared.Answer.{Answer}
use Rattle.driver.specs.declared.Answer.TheVariants.{Send, Done, Refused}
use Rattle.driver.specs.declared.Move.{Move}
use Rattle.driver.specs.Step.{sent_counts_of, buffer_of, refusal_of}
use Rattle.driver.specs.Machine.{our_driver}
use Rattle.driver_promises.specs.Run.{Finished, bound_of}
use Rattle.driver_promises.specs.Where.{left_of}
use Rattle.driver_promises.proofs.View.{at, Way, w_done, w_open, w_bit, w_ninth, w_got, w_nack, w_high, w_only, w_low, w_turn, w_data, w_more, w_close, w_drop, w_poll, w_again, w_give, w_page, w_take, w_next, w_end, w_over}
use Rattle.driver_promises.proofs.Inv.{Inv, taken_elim, left_all}
use Rattle.bench.specs.Together.{System, start_of, answered_by, asked_of, cycle_ended_of, together_of}
use Rattle.bench_promises.specs.Ground.{target_of}
use Rattle.bench_promises.specs.Together.{Begins, answer_of, askings}
use Rattle.bench_promises.specs.Ends.{Shut}
use Rattle.bench_promises.proofs.Wrote.{with_same}
use Rattle.bench_promises.proofs.Rel.{refusing, Given, F, T, W, InHeard, Rel}
use Rattle.bench_promises.proofs.Keep.{Sane, no_nack, W-write}
use Rattle.bench_promises.proofs.Whole.{Holds, Stepped, stepped, asked_elim, asked_holds, ended_holds, G, sane, start_holds}
use Rattle.bench_promises.proofs.Cycles.{Cyc}
use Rattle.bench_promises.proofs.Stored.{spoken, over_is, all_done, cycles_now, finished}
use Rattle.parts.specs.Events.{event_with}
use Rattle.chip.specs.Model.{ours}

-- of the data bytes no more than the first is sent: `a` are, `n` of them its own
abbrev shut_slot : Slot → ℕ → ℕ → Type 0
shut_slot Select a n = Unit {0}
shut_slot High a n = Unit {0}
shut_slot Low a n = Unit {0}
shut_slot Data a n = a ≡ n
shut_slot Poll a n = ⊥
shut_slot Turn a n = Unit {0}
shut_slot Take a n = Unit {0}

-- it never comes to a poll
abbrev shut_at : Phase → ℕ → Type 0
shut_at Ready a = Unit {0}
shut_at (Bits s b) a = shut_slot s a 0
shut_at (Heard s) a = shut_slot s a 1
shut_at Rest a = ⊥
shut_at (Over f) a = (f ≡ AtData) × (a ≡ 1)

pub record Blocked (p : Phase) (c : Counts) : Type 0 where
  pub seen : c.seen ≡ 0
  pub polls : c.polls ≡ 0
  pub place : shut_at p c.at

pub shut_refuses : (p : Place) (c : Chip) → Shut p c.line.core → refusing (target_of p) c.line.core.pin c.line.core.locked ≡ true
shut_refuses (Array a) c w = w
shut_refuses (Ident i) c (inl w) = ap (λ (b : Bool). b || c.line.core.locked) w
shut_refuses (Ident i) c (inr w) = ap (λ (b : Bool). is_high c.line.core.pin || b) w ∙ or_yes (is_high c.line.core.pin)
  where
    or_yes : (b : Bool) → (b || true) ≡ true
    or_yes true = refl
    or_yes false = refl

module _ (g : Given) (s : Sane g) (shut : refusing (T g) g.pin g.locked ≡ true) (writes : g.request.reads ≡ false) where
  abbrev r : Request
  r = g.request

  same : {p q : Phase} {c d : Counts} → Blocked p c → d.seen ≡ c.seen → d.polls ≡ c.polls → shut_at q d.at → Blocked q d
  same h e f t = record { seen = e ∙ h.seen; polls = f ∙ h.polls; place = t }

  sent : (sl : Slot) (c : Counts) → ((sent_counts_of sl c).seen ≡ c.seen) × ((sent_counts_of sl c).polls ≡ c.polls) × (shut_slot sl c.at 0 → shut_slot sl (sent_counts_of sl c).at 1)
  sent Select c = (refl, refl, λ h. h)
  sent High c = (refl, refl, λ h. h)
  sent Low c = (refl, refl, λ h. h)
  sent Data c = (refl, refl, λ h. omega arith)
  sent Poll c = (refl, refl, λ h. h)
  sent Turn c = (refl, refl, λ h. h)
  sent Take c = (refl, refl, λ h. h)

  -- no data byte is acknowledged
  no_ack : (ch : Chip) (m : Mem) (c : Counts) (v : ℕ) → v ≡ 0 → InHeard g Data c ch.line ch.latch m v → ⊥
  no_ack ch m c v z (inl q) = false≢true (sym q.free ∙ shut)
  no_ack ch m c v z (inr (q, h)) = omega arith

  blocks : (ch : Chip) (m : Mem) {c : Counts} {ys : List ℕ} {v : ℕ} {zs : List ℕ} {p : Phase} {mv : Move} → Inv r p c → Rel g p c ys ch.line ch.latch m v → Blocked p c → Way r c v ys p mv zs → Blocked mv.phase mv.counts
  blocks ch m i o t (w_done e) = t
  blocks ch m i o t (w_open n) = same t refl refl tt
  blocks ch m {c} {v = v} i o t (w_bit sl b h) = taken_elim (λ (d : Counts). Blocked (Bits sl (b + 1)) d) sl c v (λ x. same t refl refl t.place)
  blocks ch m {c} i o t (w_ninth sl b e h) = same t (sent sl c).0 (sent sl c).1 ((sent sl c).2 t.place)
  blocks ch m i o t (w_got b e h) = same t refl refl tt
  blocks ch m {c} {ys} {v = v} i o t (w_nack sl e h) = absurd (no_nack g s ch m c ys v sl e o h)
  blocks ch m i o t (w_high z e) = same t refl refl tt
  blocks ch m i o t (w_only z e) = same t refl refl tt
  blocks ch m i o t (w_low z) = same t refl refl tt
  blocks ch m i o t (w_turn z e) = same t refl refl tt
  blocks ch m i o t (w_data z e) = same t refl refl (let h = i.here.same in omega (arith, t.seen))
  blocks ch m {c} {v = v} i o t (w_more z n) = absurd (no_ack ch m c v z o.place)
  blocks ch m {c} {v = v} i o t (w_close z e) = absurd (no_ack ch m c v z o.place)
  blocks ch m i o t (w_drop z) = same t refl refl (refl, t.place)
  blocks ch m i o t w_poll = absurd t.place
  blocks ch m i o t (w_again z h) = absurd t.place
  blocks ch m i o t (w_give z h) = absurd t.place
  blocks ch m i o t (w_page z) = absurd t.place
  blocks ch m i o t (w_take z) = same t refl refl tt
  blocks ch m i o t (w_next n) = same t refl refl tt
  blocks ch m i o t (w_end e) = absurd (false≢true (sym writes ∙ i.right))
  blocks ch m i o t (w_over f) = t

  abbrev Now : System → Type 0
  Now y = Blocked y.driver.phase y.driver.counts

  asked_blocked : (y : System) → Holds g y → Now y → Now (asked_of our_driver (ours (F g) r.enable) y)
  asked_blocked y h t = go (stepped g s y h)
    where
      go : Stepped g s y → Now (asked_of our_driver (ours (F g) r.enable) y)
      go w = asked_elim g s Now y w (by w.move.answer (blocks y.chip y.mem h.inv h.rel t w.way))
        where
          by : (a : Answer) → Blocked w.move.phase w.move.counts
              → Now (answered_by (ours (F g) r.enable) y (at r w.move.phase w.move.counts) (buffer_of y.driver y.level y.buffer) a)
          by (Send e) n = n
          by (Done q n) k = t
          by (Refused z q n) k = t

  pub blocked_all : (bs : List Bool) (y : System) → Holds g y → Now y → Now (together_of our_driver (ours (F g) r.enable) bs y)
  unfolding together_of cycle_ended_of event_with
  blocked_all [] y h t = t
  blocked_all (true ∷ bs) y h t = blocked_all bs (asked_of our_driver (ours (F g) r.enable) y) (asked_holds g s y h) (asked_blocked y h t)
  blocked_all (false ∷ bs) y h t = blocked_all bs (cycle_ended_of (ours (F g) r.enable) y) (ended_holds g s y h) t

module _ (r : Request) (xs : List ℕ) (c : Chip) (m : Mem) (bs : List Bool) (w : r.reads ≡ false) (b : Begins r xs c m) (u : Shut r.place c.line.core) where
  abbrev Y : System
  Y = together_of our_driver (ours (facts_of r.part) r.enable) bs (start_of r xs c m)

  t : Blocked Y.driver.phase Y.driver.counts
  t = blocked_all (G r xs c m b) (sane r xs c m b) (shut_refuses r.place c u) w bs (start_of r xs c m) (start_holds r xs c m b) (record { seen = refl; polls = refl; place = tt })

  pub shut_refused : 1 ≤ r.length → bound_of r < askings bs → (answer_of Y ≡ Refused (NoData 0) 0 0) × (Y.mem ≡ m) × (Y.cycles ≡ 0)
  shut_refused some h = go (answer_of Y) refl (finished r xs c m b bs h)
    where
      go : (a : Answer) → answer_of Y ≡ a → Finished a → (answer_of Y ≡ Refused (NoData 0) 0 0) × (Y.mem ≡ m) × (Y.cycles ≡ 0)
      go (Send e) z f = absurd f
      go (Done q k) z f =
          let v = spoken r xs c m b bs (Done q k) z in
          absurd (let e = all_done r xs c m b bs q k z in let x = v.2 in let y = t.seen in omega arith)
      go (Refused x q k) z f =
          let (v, e, i, a, p) = spoken r xs c m b bs (Refused x q k) z in
          let l : (v ≡ AtData) × (Y.driver.counts.at ≡ 1) = subst (λ (y : Phase). shut_at y Y.driver.counts.at) e t.place in
          let j : x ≡ NoData 0 = i ∙ (ap (refusal_of r Y.driver.counts) l.0 ∙ ap (λ (y : ℕ). NoData (y - 1)) l.1) in
          let n = e ∙ ap Over l.0 in
          let cyc = (subst (λ (y : Phase). Cyc r y Y.driver.counts Y.cycles) n (cycles_now r xs c m b bs)).1 w in
          let d = (over_is r xs c m b bs AtData n).0 in (
            z ∙ (ap (λ (y : Refusal). Refused y q k) j ∙ (ap (λ (y : ℕ). Refused (NoData 0) y k) (p ∙ t.polls) ∙ ap (Refused (NoData 0) 0) (a ∙ t.seen))),
            d.mem ∙ (ap (W (G r xs c m b)) t.seen ∙ (W-write (G r xs c m b) (sane r xs c m b) 0 w ∙ with_same (target_of r.place) m)),
            omega (arith, left_all r, ap (left_of r) t.seen),
          )
