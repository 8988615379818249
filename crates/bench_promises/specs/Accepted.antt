-- Demands 2 and 3, of calls: a user makes a run of driver and chip by `begin` and `next` of the driver and `step` of the chip alone. Of
-- a chip in range none of these calls is refused for the state at any moment, so the run of calls is the run of Together.antt and
-- Ends.antt, and every demand on that run is one on what calls answer and leave. Each statement is a type over any such calls.
-- Assumes nothing.
use Rattle.std.specs.Prelude.{ℕ, ◌+◌, ◌≡◌, Bool, true, false, cond, List, [], ◌∷◌, length, eqb, Ok}
use Rattle.parts.specs.declared.Refusal.TheVariants.{BadState, BadEvent}
use Rattle.state.specs.declared.Chip.{Chip}
use Rattle.chip.specs.Model.{old}
use Rattle.chip.specs.Calls.{step_of}
use Rattle.chip_promises.specs.Calls.{Step}
use Rattle.chip_promises.specs.Idle.{refusing_step}
use Rattle.driver.specs.declared.Request.{Request}
use Rattle.driver.specs.declared.Driver.{Driver}
use Rattle.driver.specs.declared.Answer.{Answer}
use Rattle.driver.specs.declared.Answer.TheVariants.{Send, Done, Refused}
use Rattle.driver.specs.Step.{range_of, begin_of}
use Rattle.driver.specs.Machine.{Machine, our_driver}
use Rattle.bench.specs.Together.{System, clock_of, ends}
use Rattle.bench_promises.specs.Together.{Runs, our_run, Session, Writes, Reads, answer_of, first, after_choices, ChipRanged, SafeAfter, ReadRightAfter}
use Rattle.bench_promises.specs.Ends.{Timely, Complete}

-- a session on a chip in range
abbrev pub Ranged : Session → Type 0
Ranged w = ChipRanged w.request w.chip

-- ---- no call is refused for the state

-- `begin` is not refused, and answers the driver that the run starts with
abbrev pub BeginAccepted : Type 0
BeginAccepted = (w : Session) → begin_of w.request ≡ record { verdict = Ok tt; driver = (first w).driver }

-- at one moment
pub record Accepts (S : Step) (r : Request) (s : System) : Type 0 where
  -- `step`, power kept, takes the event that the driver sends next, and the end of a cycle, whether one runs or not
  pub sent : (e : ℕ) → answer_of s ≡ Send e → (S r.part r.enable old s.chip s.mem e).answer.verdict ≡ Ok tt
  pub ended : (S r.part r.enable old s.chip s.mem ends).answer.verdict ≡ Ok tt
  -- the driver is in range with its buffer, and `next` does not answer refusal 4
  pub ranged : range_of s.driver (length s.buffer) ≡ true
  pub asked : (q n : ℕ) → answer_of s ≡ Refused BadState q n → ⊥

-- at every moment of every run
abbrev pub StepsAccepted : Step → Runs → Type 0
StepsAccepted S run = (w : Session) → Ranged w → Accepts S w.request (after_choices run w)

-- ---- the same interleaving, of calls only

-- a driver that has finished: nothing is given to the chip
abbrev pub finished_by : System → Driver → List ℕ → System
finished_by s d b = record { driver = d; level = s.level; buffer = b; chip = s.chip; mem = s.mem; cycles = s.cycles; clocks = s.clocks }

module _ (S : Step) (part enable : ℕ) where
  -- what `next` answers and leaves is taken; an event that it sends is given to `step`, and what that call answers and leaves is taken
  -- too, also where it is refused
  abbrev pub stepped_by : System → Driver → List ℕ → Answer → System
  stepped_by s d b (Send e) =
      record {
        driver = d;
        level = (S part enable old s.chip s.mem e).answer.level;
        buffer = b;
        chip = (S part enable old s.chip s.mem e).answer.chip;
        mem = (S part enable old s.chip s.mem e).mem;
        cycles = s.cycles + (S part enable old s.chip s.mem e).answer.cycles;
        clocks = s.clocks + clock_of e;
      }
  stepped_by s d b (Done polls bytes) = finished_by s d b
  stepped_by s d b (Refused f polls bytes) = finished_by s d b

  -- one call of `next`
  unfoldable pub next_called_of : Machine → System → System
  next_called_of D s =
      stepped_by s (D.next s.driver s.level s.buffer).driver (D.leaves s.driver s.level s.buffer)
      (D.next s.driver s.level s.buffer).answer

  -- the end of a cycle is given to `step`; the driver is told nothing of it
  unfoldable pub end_called_of : System → System
  end_called_of s =
      record {
        driver = s.driver;
        level = s.level;
        buffer = s.buffer;
        chip = (S part enable old s.chip s.mem ends).answer.chip;
        mem = (S part enable old s.chip s.mem ends).mem;
        cycles = s.cycles + (S part enable old s.chip s.mem ends).answer.cycles;
        clocks = s.clocks;
      }

  -- any interleaving: true calls `next`, false is an end
  unfoldable pub calls_of : Machine → List Bool → System → System
  calls_of D [] s = s
  calls_of D (true ∷ bs) s = calls_of D bs (next_called_of D s)
  calls_of D (false ∷ bs) s = calls_of D bs (end_called_of s)

-- the part is the one that the driver's request names
abbrev pub by_calls : Machine → Step → Runs
by_calls D S f enable bs s = calls_of S s.driver.request.part enable D bs s

-- the run of calls is that run
abbrev pub CallsAreRun : Machine → Step → Type 0
CallsAreRun D S = (w : Session) → Ranged w → after_choices (by_calls D S) w ≡ after_choices our_run w

-- ---- so whatever is true at a moment of that run is true of calls

module _ (D : Machine) (S : Step) where
  abbrev pub TrueOfCalls : Type 1
  TrueOfCalls = (P : System → Type 0) (w : Session) → Ranged w → P (after_choices our_run w) → P (after_choices (by_calls D S) w)

  -- `WritesSafe`, `ReadsRight` and `WritesEnd`
  abbrev pub CallsWriteSafe : Type 0
  CallsWriteSafe = (w : Session) → Ranged w → Writes w → SafeAfter (by_calls D S) w

  abbrev pub CallsReadRight : Type 0
  CallsReadRight = (w : Session) → Ranged w → Reads w → ReadRightAfter (by_calls D S) w

  abbrev pub CallsWriteEnd : Type 0
  CallsWriteEnd = (w : Session) → Ranged w → Timely w → Complete w.request (after_choices (by_calls D S) w)

-- ---- what is refused midway

-- the chip: as ours, but the end of a cycle is refused with 5
abbrev pub refusing_ends : Step
refusing_ends part enable w c m e = cond (eqb e ends) (refusing_step (BadEvent 0) part enable w c m e) (step_of part enable w c m e)

-- runs as ours, but with another chip and another buffer
abbrev pub spoiled : (Chip → Chip) → (List ℕ → List ℕ) → System → System
spoiled f g s =
    record { driver = s.driver; level = s.level; buffer = g s.buffer; chip = f s.chip; mem = s.mem; cycles = s.cycles; clocks = s.clocks }

-- nine bits of a byte to come: the chip is out of range
abbrev pub nine_left : Chip → Chip
nine_left c = record { line = record { core = c.line.core; phase = c.line.phase; left = 9; shift = c.line.shift }; latch = c.latch }

abbrev pub overfull_run : Runs
overfull_run f enable bs s = spoiled nine_left (λ b. b) (our_run f enable bs s)

-- a byte too many: the driver is out of range with its buffer
abbrev pub overlong_run : Runs
overlong_run f enable bs s = spoiled (λ c. c) (λ b. 0 ∷ b) (our_run f enable bs s)

pub record RefusedMidwayBreaks : Type 0 where
  pub ends_accepted : StepsAccepted refusing_ends our_run → ⊥
  pub ends_same : CallsAreRun our_driver refusing_ends → ⊥
  pub overfull : StepsAccepted step_of overfull_run → ⊥
  pub overlong : StepsAccepted step_of overlong_run → ⊥
