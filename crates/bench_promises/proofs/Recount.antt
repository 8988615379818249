-- How many cycles a chip says it begins changes nothing that a driver sends.
-- Assumes nothing.
use Rattle.std.specs.Prelude.{Ok, Err}
use Prim.Native.Nat.{ℕ, zero, suc}
use mathlib.Core.Path.{◌≡◌, refl, ◌∙◌, ap}
use mathlib.Core.Bool.{Bool, true, false, cond}
use mathlib.Core.List.{List, ◌++◌}
use Rattle.parts.specs.declared.Facts.{Facts}
use Rattle.parts.specs.Verdict.{Verdict}
use Rattle.parts.specs.Table.{facts_of}
use Rattle.state.specs.declared.Chip.{Chip}
use Rattle.chip.specs.Memory.{Mem}
use Rattle.chip.specs.Model.{Model, ours}
use Rattle.chip_promises.specs.Invented.{inventing_model}
use Rattle.driver.specs.declared.Request.{Request}
use Rattle.driver.specs.declared.Driver.{Driver}
use Rattle.driver.specs.declared.Answer.{Answer}
use Rattle.driver.specs.declared.Answer.TheVariants.{Send, Done, Refused}
use Rattle.driver.specs.Machine.{Machine}
use Rattle.bench.specs.Together.{System, answered_by, asked_of, cycle_ended_of, end_due_of, turn_of, enough}
use Rattle.bench.specs.Tape.{turn_events, tape_events_of}
use Rattle.bench.specs.Calls.{outset_of, bench_by, bench_verdict, bench_over}

-- k cycles so far
abbrev recount : ℕ → System → System
recount k s = record { driver = s.driver; level = s.level; buffer = s.buffer; chip = s.chip; mem = s.mem; cycles = k; clocks = s.clocks }

module _ (D : Machine) (count : Chip → ℕ → ℕ) (f : Facts) (en : ℕ) where
  abbrev inventing : Model
  inventing = inventing_model count f en

  answered : (k : ℕ) (s : System) (e : Driver) (b : List ℕ) (a : Answer)
      → answered_by inventing (recount k s) e b a ≡ recount (answered_by inventing (recount k s) e b a).cycles (answered_by (ours f en) s e b a)
  answered k s e b (Send x) = refl
  answered k s e b (Done polls bytes) = refl
  answered k s e b (Refused r polls bytes) = refl

  asked : (k : ℕ) (s : System) → asked_of D inventing (recount k s) ≡ recount (asked_of D inventing (recount k s)).cycles (asked_of D (ours f en) s)
  unfolding asked_of
  asked k s =
      answered k s (D.next s.driver s.level s.buffer).driver (D.leaves s.driver s.level s.buffer) (D.next s.driver s.level s.buffer).answer

  turned_by : (k : ℕ) (s : System) (b : Bool) → asked_of D inventing (cond b (cycle_ended_of inventing (recount k s)) (recount k s))
      ≡ recount (asked_of D inventing (cond b (cycle_ended_of inventing (recount k s)) (recount k s))).cycles (asked_of D (ours f en) (cond b (cycle_ended_of (ours f en) s) s))
  unfolding cycle_ended_of
  turned_by k s true = asked k (cycle_ended_of (ours f en) s)
  turned_by k s false = asked k s

  turned : (d k : ℕ) (s : System) → turn_of D inventing d (recount k s) ≡ recount (turn_of D inventing d (recount k s)).cycles (turn_of D (ours f en) d s)
  unfolding turn_of end_due_of
  turned d k s = turned_by k s (end_due_of d s)

  tape : (d n k : ℕ) (s : System) → tape_events_of D inventing d n (recount k s) ≡ tape_events_of D (ours f en) d n s
  unfolding tape_events_of turn_events end_due_of
  tape d zero k s = refl
  tape d (suc n) k s =
      ap (λ (t : List ℕ). turn_events D d s ++ t)
      (ap (tape_events_of D inventing d n) (turned d k s) ∙ tape d n (turn_of D inventing d (recount k s)).cycles (turn_of D (ours f en) d s))

-- refused or not
tape_by_lem : (D : Machine) (count : Chip → ℕ → ℕ) (r : Request) (en d : ℕ) (c : Chip) (m : Mem) (ys : List ℕ) (v : Verdict)
    → (bench_by D (inventing_model count (facts_of r.part) en) r d c m ys v).events ≡ (bench_by D (ours (facts_of r.part) en) r d c m ys v).events
tape_by_lem D count r en d c m ys (Ok _) = tape D count (facts_of r.part) en d enough 0 (outset_of r c m ys)
tape_by_lem D count r en d c m ys (Err x) = refl

pub same_events : (D : Machine) (count : Chip → ℕ → ℕ) (r : Request) (en d : ℕ) (c : Chip) (m : Mem) (ys : List ℕ)
    → (bench_over D (inventing_model count) r en d c m ys).events ≡ (bench_over D ours r en d c m ys).events
same_events D count r en d c m ys = tape_by_lem D count r en d c m ys (bench_verdict r en d c m ys)
