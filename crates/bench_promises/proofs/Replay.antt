-- The tape of a run, given to the same chip by the chip's own definitions, is the run.
-- Assumes nothing.
use Rattle.std.specs.Prelude.{Ok, Err}
use Prim.Native.Nat.{ℕ, zero, suc, ◌+◌}
use mathlib.Core.Path.{◌≡◌, refl, ◌∙◌, ap, subst}
use mathlib.Core.Bool.{Bool, true, false, cond}
use mathlib.Core.List.{List, [], ◌∷◌, ◌++◌}
use lib.ListN.{take}
use native.Mathlib.Omega.{arith}
use Rattle.parts.specs.declared.Facts.{Facts}
use Rattle.parts.specs.Verdict.{Verdict}
use Rattle.parts.specs.Table.{facts_of}
use Rattle.parts.specs.Events.{event_with}
use Rattle.line.specs.Rules.{level_of, begun_of}
use Rattle.state.specs.declared.Chip.{Chip}
use Rattle.chip.specs.Model.{ours}
use Rattle.chip.specs.Memory.{Mem, chip_level_of}
use Rattle.chip.specs.Runs.{after_of, memory_of, levels_of, cycles_of}
use Rattle.chip_laws.proofs.Bytes.{runs_join}
use Rattle.driver.specs.declared.Request.{Request}
use Rattle.driver.specs.declared.Driver.{Driver}
use Rattle.driver.specs.declared.Answer.{Answer}
use Rattle.driver.specs.declared.Answer.TheVariants.{Send, Done, Refused}
use Rattle.driver.specs.Step.{driver_next_of, buffer_of}
use Rattle.driver.specs.Machine.{our_driver}
use Rattle.driver_promises.specs.Run.{clocks_in}
use Rattle.bench.specs.Together.{System, start_of, answered_by, asked_of, cycle_ended_of, end_due_of, turn_of, turns_of, last_of, enough}
use Rattle.bench.specs.Tape.{sends_of, sent_code_of, tape_by, turn_events, turn_levels, tape_events_of, tape_levels_of}
use Rattle.bench.specs.Calls.{final_of, report_by, bench_by}
use Rattle.bench_promises.specs.Calls.{our_bench, verdict_of, ReplaysKept}

clocks_append : (xs ys : List ℕ) → clocks_in (xs ++ ys) ≡ clocks_in xs + clocks_in ys
clocks_append [] ys = omega arith
clocks_append (x ∷ xs) ys = omega (arith, clocks_append xs ys)

-- the chip of s, given xs, is that of t, and answers ys
record Played (f : Facts) (en : ℕ) (s t : System) (xs ys : List ℕ) : Type 0 where
  pub state : after_of (ours f en) s.chip xs ≡ t.chip
  pub mem : memory_of (ours f en) s.chip s.mem xs ≡ t.mem
  pub levels : levels_of (ours f en) s.chip s.mem xs ≡ ys
  pub cycles : s.cycles + cycles_of (ours f en) s.chip xs ≡ t.cycles
  pub clocks : s.clocks + clocks_in xs ≡ t.clocks

module _ (f : Facts) (en : ℕ) where
  join : (s t u : System) (xs ys vs ws : List ℕ) → Played f en s t xs ys → Played f en t u vs ws → Played f en s u (xs ++ vs) (ys ++ ws)
  join s t u xs ys vs ws p q =
      let j = runs_join (ours f en) s.chip s.mem xs vs in
      record {
        state = j.0 ∙ (ap (λ (c : Chip). after_of (ours f en) c vs) p.state ∙ q.state);
        mem = j.1 ∙ (ap (λ (c : Chip). memory_of (ours f en) c (memory_of (ours f en) s.chip s.mem xs) vs) p.state ∙ (ap (λ (m : Mem). memory_of (ours f en) t.chip m vs) p.mem ∙ q.mem));
        levels = j.2
            ∙ (ap (λ (l : List ℕ). l ++ levels_of (ours f en) (after_of (ours f en) s.chip xs) (memory_of (ours f en) s.chip s.mem xs) vs) p.levels
            ∙ (ap (λ (c : Chip). ys ++ levels_of (ours f en) c (memory_of (ours f en) s.chip s.mem xs) vs) p.state
            ∙ (ap (λ (m : Mem). ys ++ levels_of (ours f en) t.chip m vs) p.mem ∙ ap (λ (l : List ℕ). ys ++ l) q.levels)));
        cycles = omega (arith, j.3, p.cycles, q.cycles, ap (λ (c : Chip). cycles_of (ours f en) c vs) p.state);
        clocks = omega (arith, clocks_append xs vs, p.clocks, q.clocks);
      }

  none : (s : System) → Played f en s s [] []
  unfolding after_of memory_of levels_of cycles_of
  none s = record { state = refl; mem = refl; levels = refl; cycles = omega arith; clocks = omega arith }

  end : (s : System) → Played f en s (cycle_ended_of (ours f en) s) (4 ∷ []) (2 ∷ [])
  unfolding after_of memory_of levels_of cycles_of cycle_ended_of event_with chip_level_of level_of begun_of
  end s = record { state = refl; mem = refl; levels = refl; cycles = omega arith; clocks = omega arith }

  answered : (s : System) (d : Driver) (b : List ℕ) (a : Answer)
      → Played f en s (answered_by (ours f en) s d b a) (cond (sends_of a) (sent_code_of a ∷ []) []) (cond (sends_of a) ((answered_by (ours f en) s d b a).level ∷ []) [])
  unfolding after_of memory_of levels_of cycles_of
  answered s d b (Send e) = record { state = refl; mem = refl; levels = refl; cycles = omega arith; clocks = omega arith }
  answered s d b (Done q n) = none s
  answered s d b (Refused x q n) = none s

  abbrev answer : System → Answer
  answer s = (driver_next_of s.driver s.level s.buffer).answer

  asked : (s : System) → Played f en s (asked_of our_driver (ours f en) s) (cond (sends_of (answer s)) (sent_code_of (answer s) ∷ []) []) (cond (sends_of (answer s)) ((asked_of our_driver (ours f en) s).level ∷ []) [])
  unfolding asked_of
  asked s = answered s (driver_next_of s.driver s.level s.buffer).driver (buffer_of s.driver s.level s.buffer) (answer s)

  turned : (s : System) (b : Bool)
      → Played f en s (asked_of our_driver (ours f en) (cond b (cycle_ended_of (ours f en) s) s)) (tape_by b (sends_of (answer s)) 4 (sent_code_of (answer s))) (tape_by b (sends_of (answer s)) 2 (asked_of our_driver (ours f en) (cond b (cycle_ended_of (ours f en) s) s)).level)
  unfolding cycle_ended_of event_with
  turned s true = join s (cycle_ended_of (ours f en) s) (asked_of our_driver (ours f en) (cycle_ended_of (ours f en) s)) (4 ∷ []) (2 ∷ []) _ _ (end s) (asked (cycle_ended_of (ours f en) s))
  turned s false = asked s

  turn : (d : ℕ) (s : System) → Played f en s (turn_of our_driver (ours f en) d s) (turn_events our_driver d s) (turn_levels our_driver (ours f en) d s)
  unfolding turn_of turn_events turn_levels
  turn d s = turned s (end_due_of d s)

  turns : (d n : ℕ) (s : System) → Played f en s (turns_of our_driver (ours f en) d n s) (tape_events_of our_driver (ours f en) d n s) (tape_levels_of our_driver (ours f en) d n s)
  unfolding turns_of tape_events_of tape_levels_of
  turns d zero s = none s
  turns d (suc n) s = join s (turn_of our_driver (ours f en) d s) (turns_of our_driver (ours f en) d n (turn_of our_driver (ours f en) d s)) _ _ _ _ (turn d s) (turns d n (turn_of our_driver (ours f en) d s))

parts : (s : System) (a : Answer) → (s.chip ≡ (report_by s a).chip) × (s.cycles ≡ (report_by s a).cycles) × (s.clocks ≡ (report_by s a).clocks)
parts s (Send e) = (refl, refl, refl)
parts s (Done q k) = (refl, refl, refl)
parts s (Refused x q k) = (refl, refl, refl)

module _ (r : Request) (en d : ℕ) (c : Chip) (m : Mem) (ys : List ℕ) where
  abbrev F : Facts
  F = facts_of r.part

  abbrev first : System
  first = start_of r (take r.length ys) c m

  -- n: the turns, a name so that nobody counts them
  all : (n : ℕ) → n ≡ enough → Played F en first (final_of our_driver (ours (facts_of r.part) en) r d c m ys) (bench_by our_driver (ours (facts_of r.part) en) r d c m ys (Ok tt)).events (bench_by our_driver (ours (facts_of r.part) en) r d c m ys (Ok tt)).levels
  unfolding final_of
  all n e = subst (λ (i : ℕ). Played F en first (turns_of our_driver (ours F en) d i first) (tape_events_of our_driver (ours F en) d i first) (tape_levels_of our_driver (ours F en) d i first)) e (turns F en d n first)

  -- as the promise has it, of what the verdict leads to
  pub record By (v : Verdict) : Type 0 where
    pub state : after_of (ours F en) c (bench_by our_driver (ours (facts_of r.part) en) r d c m ys v).events ≡ (bench_by our_driver (ours (facts_of r.part) en) r d c m ys v).report.chip
    pub memory : memory_of (ours F en) c m (bench_by our_driver (ours (facts_of r.part) en) r d c m ys v).events ≡ (bench_by our_driver (ours (facts_of r.part) en) r d c m ys v).mem
    pub levels : levels_of (ours F en) c m (bench_by our_driver (ours (facts_of r.part) en) r d c m ys v).events ≡ (bench_by our_driver (ours (facts_of r.part) en) r d c m ys v).levels
    pub cycles : cycles_of (ours F en) c (bench_by our_driver (ours (facts_of r.part) en) r d c m ys v).events ≡ (bench_by our_driver (ours (facts_of r.part) en) r d c m ys v).report.cycles
    pub clocks : clocks_in (bench_by our_driver (ours (facts_of r.part) en) r d c m ys v).events ≡ (bench_by our_driver (ours (facts_of r.part) en) r d c m ys v).report.clocks

  pub by : (v : Verdict) → By v
  unfolding after_of memory_of levels_of cycles_of
  by (Ok _) =
      let p = all enough refl in
      let z = final_of our_driver (ours (facts_of r.part) en) r d c m ys in
      let q = parts z (last_of our_driver (ours F en) d enough (Done 0 0) first) in
      record { state = p.state ∙ q.0; memory = p.mem; levels = p.levels; cycles = omega (arith, p.cycles, q.1); clocks = omega (arith, p.clocks, q.2) }
  by (Err x) = record { state = refl; memory = refl; levels = refl; cycles = refl; clocks = refl }

pub replayed : ReplaysKept our_bench
replayed k =
    let p = by k.request k.own k.d k.chip k.mem k.buffer (verdict_of k) in
    record { state = p.state; memory = p.memory; levels = p.levels; cycles = p.cycles; clocks = p.clocks }
