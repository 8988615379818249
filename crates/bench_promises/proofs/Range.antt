-- The events that the driver sends, and ends of cycles, keep the chip in range.
-- Assumes nothing.
use Prim.Native.Nat.{ℕ, zero, suc, ◌+◌, ◌≤◌}
use mathlib.Core.Path.{◌≡◌}
use mathlib.Core.Bool.{Bool, true, false}
use mathlib.Core.List.{List, [], ◌∷◌}
use lib.ListN.{get_or}
use lib.Dec.{eqb}
use native.Mathlib.Omega.{arith}
use Rattle.parts.specs.declared.Facts.{Facts}
use Rattle.parts.specs.declared.Event.TheVariants.{Ends}
use Rattle.parts.specs.Events.{event_with, event_of}
use Rattle.parts.specs.Table.{facts_of}
use Rattle.parts.proofs.Laws.{branch}
use Rattle.state.specs.declared.Chip.{Chip}
use Rattle.state.specs.Range.{in_range_of}
use Rattle.chip.specs.Memory.{Mem}
use Rattle.chip_laws.specs.Range.{Typed, Takes}
use Rattle.chip_laws.proofs.Range.{range_kept}
use Rattle.driver.specs.declared.Request.{Request}
use Rattle.driver.specs.declared.Slot.{Slot}
use Rattle.driver.specs.declared.Slot.TheVariants.{High, Low, Data, Take}
use Rattle.driver.specs.declared.Phase.{Phase}
use Rattle.driver.specs.declared.Phase.TheVariants.{Ready}
use Rattle.driver.specs.declared.Counts.{Counts}
use Rattle.driver.specs.declared.Answer.{Answer}
use Rattle.driver.specs.declared.Answer.TheVariants.{Send, Done, Refused}
use Rattle.driver.specs.declared.Move.{Move}
use Rattle.driver.specs.Step.{wire_of, slot_byte_of, buffer_of}
use Rattle.driver.specs.Machine.{our_driver}
use Rattle.driver_promises.proofs.View.{at, clock_of, Way, w_done, w_open, w_bit, w_ninth, w_got, w_nack, w_high, w_only, w_low, w_turn, w_data, w_more, w_close, w_drop, w_poll, w_again, w_give, w_page, w_take, w_next, w_end, w_over}
use Rattle.driver_promises.proofs.Grow.{bit_lt}
use Rattle.bench.specs.Together.{System, start_of, answered_by, asked_of, cycle_ended_of, together_of}
use Rattle.bench_promises.specs.Together.{Begins}
use Rattle.bench_promises.proofs.Rel.{Given, F}
use Rattle.bench_promises.proofs.Keep.{Sane}
use Rattle.bench_promises.proofs.Whole.{Holds, Stepped, stepped, asked_elim, asked_holds, ended_holds, G, sane, start_holds}
use Rattle.chip.specs.Model.{ours}

-- clocks, Starts and Stops
abbrev Small : Answer → Type 0
Small (Send e) = e ≤ 3
Small (Done q n) = Unit {0}
Small (Refused f q n) = Unit {0}

module _ (r : Request) (c : Counts) (v : ℕ) (ys : List ℕ) where
  clock : (sl : Slot) (b : ℕ) → clock_of r c ys sl b ≤ 3
  clock sl b = omega (arith, bit_lt (slot_byte_of (wire_of (at r Ready c) (get_or ys c.at 0)) sl) b)

  small : {p : Phase} {mv : Move} {zs : List ℕ} → Way r c v ys p mv zs → Small mv.answer
  small (w_done e) = tt
  small (w_open n) = omega arith
  small (w_bit sl b h) = clock sl b
  small (w_ninth sl b e h) = omega arith
  small (w_got b e h) = branch (λ (x : ℕ). x ≤ 3) (eqb (c.at + 1) r.length) (λ _. omega arith) (λ _. omega arith)
  small (w_nack sl e h) = omega arith
  small (w_high z e) = clock High 0
  small (w_only z e) = clock Low 0
  small (w_low z) = clock Low 0
  small (w_turn z e) = omega arith
  small (w_data z e) = clock Data 0
  small (w_more z n) = clock Data 0
  small (w_close z e) = omega arith
  small (w_drop z) = omega arith
  small w_poll = omega arith
  small (w_again z o) = omega arith
  small (w_give z o) = omega arith
  small (w_page z) = omega arith
  small (w_take z) = clock Take 0
  small (w_next n) = clock Take 0
  small (w_end e) = omega arith
  small (w_over f) = tt

takes_small : (f : Facts) (e : ℕ) → e ≤ 3 → Takes f (event_of e)
unfolding event_with
takes_small f zero h = tt
takes_small f (suc zero) h = tt
takes_small f (suc (suc zero)) h = tt
takes_small f (suc (suc (suc zero))) h = tt
takes_small f (suc (suc (suc (suc e)))) h = absurd (omega arith)

module _ (g : Given) (s : Sane g) where
  abbrev Now : System → Type 0
  Now y = (in_range_of (F g) y.chip ≡ true) × Typed y.chip

  asked_range : (y : System) → Holds g y → Now y → Now (asked_of our_driver (ours (F g) g.request.enable) y)
  asked_range y h t = go (stepped g s y h)
    where
      go : Stepped g s y → Now (asked_of our_driver (ours (F g) g.request.enable) y)
      go w = asked_elim g s Now y w (by w.move.answer (small g.request y.driver.counts y.level y.buffer w.way))
        where
          by : (a : Answer) → Small a → Now (answered_by (ours (F g) g.request.enable) y (at g.request w.move.phase w.move.counts) (buffer_of y.driver y.level y.buffer) a)
          by (Send e) n = range_kept g.request.part g.request.enable y.chip (event_of e) (takes_small (F g) e n) t.1 t.0
          by (Done q n) k = t
          by (Refused z q n) k = t

  ended_range : (y : System) → Now y → Now (cycle_ended_of (ours (F g) g.request.enable) y)
  unfolding cycle_ended_of event_with
  ended_range y t = range_kept g.request.part g.request.enable y.chip Ends tt t.1 t.0

  range_all : (bs : List Bool) (y : System) → Holds g y → Now y → Now (together_of our_driver (ours (F g) g.request.enable) bs y)
  unfolding together_of
  range_all [] y h t = t
  range_all (true ∷ bs) y h t = range_all bs (asked_of our_driver (ours (F g) g.request.enable) y) (asked_holds g s y h) (asked_range y h t)
  range_all (false ∷ bs) y h t = range_all bs (cycle_ended_of (ours (F g) g.request.enable) y) (ended_holds g s y h) (ended_range y t)

module _ (r : Request) (xs : List ℕ) (c : Chip) (m : Mem) (bs : List Bool) (b : Begins r xs c m) where
  abbrev Y : System
  Y = together_of our_driver (ours (facts_of r.part) r.enable) bs (start_of r xs c m)

  pub stays_in_range : Typed c → in_range_of (facts_of r.part) c ≡ true → (in_range_of (facts_of r.part) Y.chip ≡ true) × Typed Y.chip
  stays_in_range t e = range_all (G r xs c m b) (sane r xs c m b) bs (start_of r xs c m) (start_holds r xs c m b) (e, t)
