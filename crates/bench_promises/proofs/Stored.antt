-- Demand 2: what is reported written is stored, what is read is what is there, and everything else is as before.
-- Assumes nothing.
use Prim.Native.Nat.{ℕ, ◌+◌, ◌≤◌, ◌<◌}
use mathlib.Core.Path.{◌≡◌, refl, sym, ◌∙◌, ap, subst}
use mathlib.Core.Bool.{Bool, true, false, false≢true}
use mathlib.Core.Logic.{◌⊎◌, inl, inr, ⊎_elim}
use mathlib.Core.List.{List}
use lib.ListN.{length, get_or}
use native.Mathlib.Omega.{arith}
use Rattle.parts.specs.declared.Refusal.{Refusal}
use Rattle.parts.specs.Refusals.{number_of}
use Rattle.parts.specs.Table.{facts_of}
use Rattle.line.specs.declared.Target.{Target}
use Rattle.line.specs.declared.Target.TheVariants.{Array as TheArray, Ident as TheIdent}
use Rattle.line.specs.declared.Phase.TheVariants.{Idle}
use Rattle.line.specs.declared.Line.{Line}
use Rattle.state.specs.declared.Chip.{Chip}
use Rattle.chip.specs.Memory.{Mem, cells_of, with_cells}
use Rattle.driver.specs.declared.Place.{Place}
use Rattle.driver.specs.declared.Place.TheVariants.{Array, Ident}
use Rattle.driver.specs.declared.Request.{Request}
use Rattle.driver.specs.declared.Slot.TheVariants.{Select, High, Low, Data, Poll, Turn, Take}
use Rattle.driver.specs.declared.Failed.{Failed}
use Rattle.driver.specs.declared.Failed.TheVariants.{AtSelect, AtHigh, AtLow, AtData, AtPolls}
use Rattle.driver.specs.declared.Phase.{Phase}
use Rattle.driver.specs.declared.Phase.TheVariants.{Ready, Bits, Heard, Rest, Over}
use Rattle.driver.specs.declared.Counts.{Counts}
use Rattle.driver.specs.declared.Answer.{Answer}
use Rattle.driver.specs.declared.Answer.TheVariants.{Send, Done, Refused}
use Rattle.driver.specs.declared.Move.{Move}
use Rattle.driver.specs.declared.Asked.{Asked}
use Rattle.driver.specs.Request.{from_of, room_of, GoodRequest}
use Rattle.driver.specs.Step.{refusal_of}
use Rattle.driver.specs.Machine.{our_driver}
use Rattle.driver.specs.Machine.{our_driver}
use Rattle.driver_promises.specs.Run.{DriverHeld, Finished, bound_of}
use Rattle.driver_promises.specs.Run
use Rattle.driver_promises.proofs.View.{Way, w_done, w_open, w_bit, w_ninth, w_got, w_nack, w_high, w_only, w_low, w_turn, w_data, w_more, w_close, w_drop, w_poll, w_again, w_give, w_page, w_take, w_next, w_end, w_over}
use Rattle.driver_promises.proofs.Inv.{Inv}
use Rattle.driver_promises.proofs.Bound.{no_polls}
use Rattle.driver_promises.proofs.Promises.{promises}
use Rattle.bench.specs.Together.{System, start_of, together_of}
use Rattle.bench_promises.specs.Ground.{target_of, OnIdle}
use Rattle.bench_promises.specs.Together.{Begins, answer_of, reported_of, askings, other_of, Safe, ReadRight}
use Rattle.driver_promises.proofs.Numbers.{less_or_more}
use Rattle.bench_promises.proofs.Wrote.{wrote, wrote_long, wrote_out, wrote_in, cells_with}
use Rattle.bench_promises.proofs.Rel.{Given, W, Pending, InOver, At, Buffer}
use Rattle.bench_promises.proofs.Keep.{Sane, W-read, W-write}
use Rattle.bench_promises.proofs.Whole.{Holds, stepped, G, sane, start_holds, holds, tolds}
use Rattle.bench_promises.proofs.Cycles.{Cyc, cyc_all, start_cyc}
use Rattle.chip.specs.Model.{ours}

-- ---- what an answer says of the state it came from
abbrev pub Says : Answer → Request → Phase → Counts → Type 0
Says (Send e) r p c = Unit {0}
Says (Done q n) r p c = (p ≡ Ready) × (c.at ≡ r.length) × (n ≡ c.seen) × (q ≡ c.polls)
Says (Refused f q n) r p c = (w : Failed) × (p ≡ Over w) × (f ≡ refusal_of r c w) × (n ≡ c.seen) × (q ≡ c.polls)

says : {r : Request} {c : Counts} {v : ℕ} {ys zs : List ℕ} {p : Phase} {mv : Move} → Way r c v ys p mv zs → Says mv.answer r p c
says (w_done e) = (refl, e, refl, refl)
says (w_open n) = tt
says (w_bit s b h) = tt
says (w_ninth s b e h) = tt
says (w_got b e h) = tt
says (w_nack s e h) = tt
says (w_high z e) = tt
says (w_only z e) = tt
says (w_low z) = tt
says (w_turn z e) = tt
says (w_data z e) = tt
says (w_more z n) = tt
says (w_close z e) = tt
says (w_drop z) = tt
says w_poll = tt
says (w_again z o) = tt
says (w_give z o) = tt
says (w_page z) = tt
says (w_take z) = tt
says (w_next n) = tt
says (w_end e) = tt
says (w_over f) = (f, refl, refl, refl, refl)

module _ (g : Given) (s : Sane g) where
  pub said : (y : System) → Holds g y → Says (answer_of y) g.request y.driver.phase y.driver.counts
  said y h =
      let t = stepped g s y h in
      subst (λ (a : Asked). Says a.answer g.request y.driver.phase y.driver.counts) (sym t.asked) (says t.way)

  -- ---- what is stored, at any moment
  abbrev Some : Counts → Mem → Type 0
  Some c m = (m ≡ W g c.seen) ⊎ (m ≡ W g c.at)

  pending : (c : Counts) (l : Line) (k : List ℕ) (m : Mem) → Pending g c.at c.seen l k m → Some c m
  pending c l k m (inl t) = inl t.mem
  pending c l k m (inr t) = inr t.mem

  some : (p : Phase) (c : Counts) (l : Line) (k : List ℕ) (m : Mem) (v : ℕ) → At g p c l k m v → Some c m
  some Ready c l k m v t = inr t.mem
  some (Bits Select b) c l k m v t = inr t.mem
  some (Bits High b) c l k m v t = inr t.mem
  some (Bits Low b) c l k m v t = inr t.head.mem
  some (Bits Data b) c l k m v t = inl t.mem
  some (Bits Poll b) c l k m v (inl t) = pending c l k m t
  some (Bits Poll b) c l k m v (inr t) = inr t.mem
  some (Bits Turn b) c l k m v t = inr t.0.mem
  some (Bits Take b) c l k m v t = inr t.mem
  some (Heard Select) c l k m v t = inr t.1.mem
  some (Heard High) c l k m v t = inr t.1.head.mem
  some (Heard Low) c l k m v t = inr t.1.mem
  some (Heard Data) c l k m v (inl t) = inl t.mem
  some (Heard Data) c l k m v (inr t) = inl t.0.mem
  some (Heard Poll) c l k m v (inl t) = pending c l k m t.0
  some (Heard Poll) c l k m v (inr t) = inr t.0.mem
  some (Heard Turn) c l k m v t = inr t.1.mem
  some (Heard Take) c l k m v t = inr t.mem
  some Rest c l k m v t = pending c l k m t
  some (Over AtSelect) c l k m v t = absurd t
  some (Over AtHigh) c l k m v t = absurd t
  some (Over AtLow) c l k m v t = absurd t
  some (Over AtData) c l k m v t = inl t.0.mem
  some (Over AtPolls) c l k m v t = pending c l k m t.0

  -- the first i bytes are written, i at least those seen to be done, and nothing else
  pub any_time : (y : System) → Holds g y → (i : ℕ) × (y.driver.counts.seen ≤ i) × (i ≤ g.request.length) × (y.mem ≡ W g i)
  any_time y h =
      let k = h.inv.common in
      let a = k.low in
      let b = k.seen in
      ⊎_elim (λ e. (y.driver.counts.seen, omega arith, omega arith, e)) (λ e. (y.driver.counts.at, omega arith, omega arith, e))
      (some y.driver.phase y.driver.counts y.chip.line y.chip.latch y.mem y.level h.rel.place)

  -- a read is never over
  never_over : (f : Failed) (c : Counts) (l : Line) (k : List ℕ) (m : Mem) → g.request.reads ≡ true → InOver g f c l k m → ⊥
  never_over AtSelect c l k m w t = t
  never_over AtHigh c l k m w t = t
  never_over AtLow c l k m w t = t
  never_over AtData c l k m w t = false≢true (sym t.1 ∙ w)
  never_over AtPolls c l k m w t = false≢true (sym t.1 ∙ w)

  pub reads_on : (y : System) → Holds g y → g.request.reads ≡ true → (f : Failed) → y.driver.phase ≡ Over f → ⊥
  reads_on y h w f e =
      never_over f y.driver.counts y.chip.line y.chip.latch y.mem w (subst (λ (p : Phase). At g p y.driver.counts y.chip.line y.chip.latch y.mem y.level) e h.rel.place)

other_with : (t : Target) (k : List ℕ) (m : Mem) → cells_of (other_of t) (with_cells t k m) ≡ cells_of (other_of t) m
other_with TheArray k m = refl
other_with TheIdent k m = refl

-- the memory that a request speaks of has room for it
pub room_is : (r : Request) (c : Chip) (m : Mem) → GoodRequest r → OnIdle r c m → from_of r.place + r.length ≤ length (cells_of (target_of r.place) m)
room_is r c m g o = go r.place g.fits
  where
    go : (p : Place) → from_of p + r.length ≤ room_of (facts_of r.part) p → from_of p + r.length ≤ length (cells_of (target_of p) m)
    go (Array a) h = omega (arith, o.cells)
    go (Ident i) h = omega (arith, o.ident)

module _ (r : Request) (xs : List ℕ) (c : Chip) (m : Mem) (b : Begins r xs c m) (bs : List Bool) where
  abbrev Y : System
  Y = together_of our_driver (ours (facts_of r.part) r.enable) bs (start_of r xs c m)

  abbrev H : Holds (G r xs c m b) Y
  H = holds r xs c m b bs

  -- an answer, and what it says
  pub spoken : (a : Answer) → answer_of Y ≡ a → Says a r Y.driver.phase Y.driver.counts
  spoken a e = subst (λ (k : Answer). Says k r Y.driver.phase Y.driver.counts) e (said (G r xs c m b) (sane r xs c m b) Y H)

  pub all_done : (q n : ℕ) → answer_of Y ≡ Done q n → n ≡ r.length
  all_done q n e =
      let z = spoken (Done q n) e in
      let i = subst (λ (p : Phase). Inv r p Y.driver.counts) z.0 H.inv in
      z.2 ∙ (i.here.same ∙ z.1)

  pub over_is : (f : Failed) → Y.driver.phase ≡ Over f → InOver (G r xs c m b) f Y.driver.counts Y.chip.line Y.chip.latch Y.mem
  over_is f e = subst (λ (p : Phase). At (G r xs c m b) p Y.driver.counts Y.chip.line Y.chip.latch Y.mem Y.level) e H.rel.place

  idle_done : (q n : ℕ) → answer_of Y ≡ Done q n → Y.chip.line.phase ≡ Idle
  idle_done q n e =
      let z = spoken (Done q n) e in
      (subst (λ (p : Phase). At (G r xs c m b) p Y.driver.counts Y.chip.line Y.chip.latch Y.mem Y.level) z.0 H.rel.place).phase

  -- a refusal's number tells where the driver was refused
  ten_or_eleven : (x : Refusal) (q n : ℕ) → answer_of Y ≡ Refused x q n → (number_of x ≡ 10) ⊎ (number_of x ≡ 11)
  ten_or_eleven x q n e = let z = spoken (Refused x q n) e in go z.0 z.1 z.2
    where
      go : (f : Failed) → Y.driver.phase ≡ Over f → x ≡ refusal_of r Y.driver.counts f → (number_of x ≡ 10) ⊎ (number_of x ≡ 11)
      go AtSelect p k = absurd (over_is AtSelect p)
      go AtHigh p k = absurd (over_is AtHigh p)
      go AtLow p k = absurd (over_is AtLow p)
      go AtData p k = inl (ap number_of k)
      go AtPolls p k = inr (ap number_of k)

  reported_seen : (a : Answer) → Says a r Y.driver.phase Y.driver.counts → reported_of a ≤ Y.driver.counts.seen
  reported_seen (Send e) z = omega arith
  reported_seen (Done q n) z = let e = z.2 in omega arith
  reported_seen (Refused f q n) z = let e = z.3 in omega arith

  pub write_safe : r.reads ≡ false → Safe r xs c m Y
  write_safe w = go (any_time (G r xs c m b) (sane r xs c m b) Y H)
    where
      t : Target
      t = target_of r.place

      x : ℕ
      x = from_of r.place

      s : List ℕ
      s = cells_of (target_of r.place) m

      fits : from_of r.place + r.length ≤ length (cells_of (target_of r.place) m)
      fits = room_is r c m (sane r xs c m b).good b.idle

      go : (i : ℕ) × (Y.driver.counts.seen ≤ i) × (i ≤ r.length) × (Y.mem ≡ W (G r xs c m b) i) → Safe r xs c m Y
      go (i, lo, hi, e) =
          record {
            reported = λ j h. stored j (omega (arith, reported_seen (answer_of Y) (said (G r xs c m b) (sane r xs c m b) Y H)));
            seen = λ j h. stored j (omega arith);
            done = all_done;
            idle = idle_done;
            selected = ten_or_eleven;
            outside = λ j h. ap (λ (l : List ℕ). get_or l j 0) cells ∙ wrote_out s x xs i j (⊎_elim (λ k. inl k) (λ k. inr (omega arith)) h);
            other = ap (λ (y : Mem). cells_of (other_of t) y) mem ∙ other_with t (wrote s x xs i) m;
            sizes = ap (λ (l : List ℕ). length l) cells ∙ wrote_long s x xs i;
            lock = H.rel.lock;
            inside = λ j h. ⊎_elim (λ k. inr (stored j k)) (λ k. inl (ap (λ (l : List ℕ). get_or l (x + j) 0) cells ∙ wrote_out s x xs i (x + j) (inr (omega arith)))) (less_or_more j i);
          }
        where
          mem : Y.mem ≡ with_cells (target_of r.place) (wrote (cells_of (target_of r.place) m) (from_of r.place) xs i) m
          mem = e ∙ W-write (G r xs c m b) (sane r xs c m b) i w

          cells : cells_of (target_of r.place) Y.mem ≡ wrote (cells_of (target_of r.place) m) (from_of r.place) xs i
          cells = ap (λ (y : Mem). cells_of (target_of r.place) y) mem ∙ cells_with (target_of r.place) (wrote (cells_of (target_of r.place) m) (from_of r.place) xs i) m

          stored : (j : ℕ) → j < i → get_or (cells_of (target_of r.place) Y.mem) (from_of r.place + j) 0 ≡ get_or xs j 0
          stored j h = ap (λ (l : List ℕ). get_or l (from_of r.place + j) 0) cells ∙ wrote_in (cells_of (target_of r.place) m) (from_of r.place) xs i j h (omega (arith, fits))

  pub cycles_now : Cyc r Y.driver.phase Y.driver.counts Y.cycles
  cycles_now = cyc_all (G r xs c m b) (sane r xs c m b) bs (start_of r xs c m) (start_holds r xs c m b) (start_cyc r (start_of r xs c m).driver.counts refl)

  pub read_right : r.reads ≡ true → ReadRight r xs c m Y
  read_right w =
      record {
        mem = go (any_time (G r xs c m b) (sane r xs c m b) Y H);
        lock = H.rel.lock;
        cycles = cycles_now.0 w;
        refused = λ f q n e. (let z = spoken (Refused f q n) e in reads_on (G r xs c m b) (sane r xs c m b) Y H w z.0 z.1);
        done = all_done;
        read = λ q n e i h. (let z = spoken (Done q n) e in let a = z.1 in subst (λ (t : Bool). Buffer (G r xs c m b) t Y.driver.counts.at Y.buffer) w H.rel.buffer i (omega arith));
        size = H.size;
        idle = idle_done;
      }
    where
      go : (i : ℕ) × (Y.driver.counts.seen ≤ i) × (i ≤ r.length) × (Y.mem ≡ W (G r xs c m b) i) → Y.mem ≡ m
      go (i, lo, hi, e) = e ∙ W-read (G r xs c m b) (sane r xs c m b) i w

  -- asked often enough, it is finished
  pub finished : bound_of r < askings bs → Finished (answer_of Y)
  finished h =
      let t = tolds r xs c m b bs in
      subst (λ (k : DriverHeld). Finished (Rattle.driver_promises.specs.Run.answer_to our_driver k Y.level)) (sym t.run) ((promises.one_each r xs b.accepted t.levels Y.level).bound (omega (arith, t.count)))

  pub read_ends : r.reads ≡ true → bound_of r < askings bs → answer_of Y ≡ Done 0 r.length
  read_ends w h = go (answer_of Y) refl (finished h)
    where
      go : (a : Answer) → answer_of Y ≡ a → Finished a → answer_of Y ≡ Done 0 r.length
      go (Send e) z f = absurd f
      go (Done q n) z f =
          let k = spoken (Done q n) z in
          z ∙ (ap (λ (j : ℕ). Done j n) (k.3 ∙ no_polls r Y.driver.counts.polls w H.inv.common.most) ∙ ap (Done 0) (all_done q n z))
      go (Refused x q n) z f =
          let k = spoken (Refused x q n) z in
          absurd (reads_on (G r xs c m b) (sane r xs c m b) Y H w k.0 k.1)
