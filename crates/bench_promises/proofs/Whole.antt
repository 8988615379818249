-- The relation holds after any choices; so does the tie to the driver's own runs, which carries every law of the driver over.
-- Assumes nothing.
use Prim.Native.Nat.{ℕ, ◌+◌}
use mathlib.Core.Path.{◌≡◌, refl, sym, ◌∙◌, ap, subst}
use mathlib.Core.Bool.{Bool, true, false, cond}
use mathlib.Core.List.{List, [], ◌∷◌}
use lib.ListN.{length}
use native.Mathlib.Omega.{arith}
use Rattle.parts.specs.Table.{facts_of}
use Rattle.parts.specs.Refusals.{is_fine}
use Rattle.state.specs.declared.Chip.{Chip}
use Rattle.chip.specs.Memory.{Mem, cells_of, with_cells}
use Rattle.driver.specs.declared.Request.{Request}
use Rattle.driver.specs.declared.Answer.{Answer}
use Rattle.driver.specs.declared.Answer.TheVariants.{Send, Done, Refused}
use Rattle.driver.specs.Step.{buffer_of}
use Rattle.driver.specs.Machine.{our_driver}
use Rattle.driver.proofs.Facts.{good_request, buffer_length}
use Rattle.driver_promises.specs.Promises.{Accepted}
use Rattle.driver_promises.proofs.View.{at}
use Rattle.driver_promises.proofs.Inv.{Inv, inv_step}
use Rattle.bench.specs.Together.{System, start_of, answered_by, asked_of, cycle_ended_of, together_of}
use Rattle.bench_promises.specs.Ground.{target_of}
use Rattle.bench_promises.specs.Together.{Begins, askings}
use Rattle.bench_promises.proofs.Wrote.{with_same}
use Rattle.bench_promises.proofs.Rel.{Given, F, Buffer, Rel}
use Rattle.bench_promises.proofs.Keep.{Sane, Next, keeps, end_keeps}
use Rattle.bench_promises.proofs.Steps.{Step, step, ask_elim, Told, drives_of, ask_told}
use Rattle.parts.specs.Events.{event_with}
use Rattle.parts.proofs.Bytes.{below_at}
use Rattle.chip.specs.Model.{ours}

-- where a run starts
abbrev pub given_of : Request → List ℕ → Chip → Mem → Given
given_of r xs c m = record { request = r; bytes = xs; stored = m; pin = c.line.core.pin; locked = c.line.core.locked }

-- what holds at every moment
pub record Holds (g : Given) (s : System) : Type 0 where
  pub request : s.driver.request ≡ g.request
  pub inv : Inv g.request s.driver.phase s.driver.counts
  pub size : length s.buffer ≡ g.request.length
  pub rel : Rel g s.driver.phase s.driver.counts s.buffer s.chip.line s.chip.latch s.mem s.level

module _ (g : Given) (s : Sane g) where
  abbrev r : Request
  r = g.request

  abbrev ask : System → System
  ask y = asked_of our_driver (ours (F g) r.enable) y

  -- the step of the driver in the system
  abbrev pub Stepped : System → Type 0
  Stepped y = Step r y

  pub stepped : (y : System) → Holds g y → Stepped y
  stepped y h = step r y (record { request = h.request; inv = h.inv; size = h.size })

  pub asked_elim : (Q : System → Type 0) (y : System) (t : Stepped y)
      → Q (answered_by (ours (F g) r.enable) y (at r t.move.phase t.move.counts) (buffer_of y.driver y.level y.buffer) t.move.answer) → Q (ask y)
  asked_elim = ask_elim r (ours (F g) r.enable)

  pub asked_holds : (y : System) → Holds g y → Holds g (ask y)
  asked_holds y h = go (stepped y h)
    where
      go : Stepped y → Holds g (ask y)
      go t =
          asked_elim (Holds g) y t
          (by t.move.answer (inv_step r h.inv t.way) (keeps g s y.chip y.mem y.driver.counts y.buffer y.level h.size h.inv h.rel t.way))
        where
          zs : List ℕ
          zs = buffer_of y.driver y.level y.buffer

          by : (a : Answer) → Inv r t.move.phase t.move.counts → Next g s y.chip y.mem y.driver.counts y.buffer y.level t.move zs a
              → Holds g (answered_by (ours (F g) r.enable) y (at r t.move.phase t.move.counts) zs a)
          by (Send e) i n = record { request = refl; inv = i; size = buffer_length y.driver y.level y.buffer ∙ h.size; rel = n }
          by (Done q k) i n = h
          by (Refused f q k) i n = h

  pub ended_holds : (y : System) → Holds g y → Holds g (cycle_ended_of (ours (F g) r.enable) y)
  unfolding cycle_ended_of event_with
  ended_holds y h =
      record {
        request = h.request;
        inv = h.inv;
        size = h.size;
        rel = end_keeps g s y.chip y.mem y.driver.phase y.driver.counts y.buffer y.level h.inv h.rel;
      }

  pub holds_all : (bs : List Bool) (y : System) → Holds g y → Holds g (together_of our_driver (ours (F g) r.enable) bs y)
  unfolding together_of
  holds_all [] y h = h
  holds_all (true ∷ bs) y h = holds_all bs (ask y) (asked_holds y h)
  holds_all (false ∷ bs) y h = holds_all bs (cycle_ended_of (ours (F g) r.enable) y) (ended_holds y h)

  -- ---- the tie
  pub told_all : (xs : List ℕ) → Accepted r xs → (bs : List Bool) (n : ℕ) (y : System) → Told r xs n y → Told r xs (n + askings bs) (together_of our_driver (ours (F g) r.enable) bs y)
  unfolding together_of cycle_ended_of event_with
  told_all xs a [] n y t = subst (λ (k : ℕ). Told r xs k y) (omega arith) t
  told_all xs a (true ∷ bs) n y t =
      let e : n + 1 + askings bs ≡ n + (askings bs + 1) = omega arith in
      subst (λ (k : ℕ). Told r xs k (together_of our_driver (ours (F g) r.enable) bs (ask y))) e (told_all xs a bs (n + 1) (ask y) (ask_told r xs a (ours (F g) r.enable) n y t))
  told_all xs a (false ∷ bs) n y t = told_all xs a bs n (cycle_ended_of (ours (F g) r.enable) y) (record { levels = t.levels; count = t.count; run = t.run })

-- ---- from the start
module _ (r : Request) (xs : List ℕ) (c : Chip) (m : Mem) (b : Begins r xs c m) where
  abbrev pub G : Given
  G = given_of r xs c m

  pub sane : Sane G
  sane = record { good = good_request r (ap is_fine b.accepted.fine); bytes = below_at xs b.bytes; stored = below_at (cells_of (target_of r.place) m) (b.idle.bytes (target_of r.place)) }

  stored_first : (t : Bool) → m ≡ cond t m (with_cells (target_of r.place) (cells_of (target_of r.place) m) m)
  stored_first true = refl
  stored_first false = sym (with_same (target_of r.place) m)

  buffer_first : (t : Bool) → Buffer G t 0 xs
  buffer_first true = λ i h. absurd (omega arith)
  buffer_first false = refl

  pub start_holds : Holds G (start_of r xs c m)
  start_holds =
      record {
        request = refl;
        inv = (drives_of r xs b.accepted (start_of r xs c m) [] refl).inv;
        size = b.accepted.size;
        rel = record { pin = refl; lock = refl; buffer = buffer_first r.reads; place = record { phase = b.idle.idle; mem = stored_first r.reads } };
      }

  pub start_told : Told r xs 0 (start_of r xs c m)
  start_told = record { levels = []; count = refl; run = refl }

  pub holds : (bs : List Bool) → Holds G (together_of our_driver (ours (facts_of r.part) r.enable) bs (start_of r xs c m))
  holds bs = holds_all G sane bs (start_of r xs c m) start_holds

  pub tolds : (bs : List Bool) → Told r xs (0 + askings bs) (together_of our_driver (ours (facts_of r.part) r.enable) bs (start_of r xs c m))
  tolds bs = told_all G sane xs b.accepted bs 0 (start_of r xs c m) start_told
