-- One event of a run over a capture, and what a run comes to from where it stands: for the contracts of the inner functions.
-- Assumes nothing.
use Rattle.std.specs.Prelude.{ℕ, ◌+◌, ◌≤◌, ◌<◌, ◌≡◌, Bool, cond, List, ◌++◌, length, get_or, Ok}
use Rattle.parts.specs.Bytes.{flag_of}
use Rattle.line.specs.declared.Line.{Line}
use Rattle.state.specs.declared.Chip.{Chip}
use Rattle.chip.specs.Memory.{Mem}
use Rattle.chip.specs.Model.{Model}
use Rattle.chip.specs.Runs.{after_of, memory_of, cycles_of}
use Rattle.capture.specs.declared.Mark.TheVariants.{Same, At}
use Rattle.capture.specs.declared.engine.Step.{Step}
use Rattle.capture.specs.declared.engine.Going.{Going}
use Rattle.capture.specs.Ends.{with_ends_of, ends_in}
use Rattle.capture.specs.Marks.{place_of, clock_of, clocks_in, differs_of, mark_from, sooner_mark}
use Rattle.capture.specs.Calls.{SeenLeft}
use Rattle.capture.specs.Steps.{one_of}

-- ---- one event

-- where an event takes a chip and what it stores, and what the code answers
pub record Moves (M : Model) (c : Chip) (m : Mem) (e : ℕ) (r : Step) (c' : Chip) (m' : Mem) : Type 0 where
  pub state : c' ≡ M.next c e
  pub stored : m' ≡ M.store c m e
  pub level : r.level ≡ M.level c m e
  pub begun : r.cycles ≡ M.begun c e

-- an end where it is due, before the event itself
pub record Ended (M : Model) (c : Chip) (m : Mem) (due : Bool) (g r : Going) (c' : Chip) (m' : Mem) : Type 0 where
  pub state : c' ≡ cond due (M.next c 4) c
  pub stored : m' ≡ cond due (M.store c m 4) m
  pub place : r.place ≡ g.place
  pub events : r.events ≡ g.events
  pub clocks : r.clocks ≡ g.clocks
  pub ends : r.ends ≡ g.ends + flag_of due
  pub cycles : r.cycles ≡ g.cycles
  pub mark : r.mark ≡ g.mark

-- what is counted and marked at an event, which takes the line so
abbrev pub noted_of : Going → Step → Bool → ℕ → ℕ → Going
noted_of g m differs at e =
    record {
      line = m.line;
      place = place_of g.place e;
      events = g.events + 1;
      clocks = g.clocks + clock_of e;
      ends = g.ends;
      cycles = g.cycles + m.cycles;
      mark = sooner_mark g.mark (cond differs (At at g.clocks e) Same);
    }

-- the event itself, made by the sample `at`
pub record Taken (M : Model) (c : Chip) (m : Mem) (at e : ℕ) (g r : Going) (c' : Chip) (m' : Mem) : Type 0 where
  pub state : c' ≡ M.next c e
  pub stored : m' ≡ M.store c m e
  pub place : r.place ≡ place_of g.place e
  pub events : r.events ≡ g.events + 1
  pub clocks : r.clocks ≡ g.clocks + clock_of e
  pub ends : r.ends ≡ g.ends
  pub cycles : r.cycles ≡ g.cycles + M.begun c e
  pub mark : r.mark ≡ sooner_mark g.mark (cond (differs_of M c m g.place e) (At at g.clocks e) Same)

-- ---- a run

abbrev pub start_of : Line → Going
start_of l = record { line = l; place = 0; events = 0; clocks = 0; ends = 0; cycles = 0; mark = Same }

-- where a run stands, as an answer
abbrev pub standing : Chip → Mem → Going → SeenLeft
standing c m g =
    record {
      answer = record { verdict = Ok tt; events = g.events; clocks = g.clocks; ends = g.ends; cycles = g.cycles; mark = g.mark; chip = c };
      mem = m;
    }

-- with so many events and clocks still to come, xs with the ends put in
abbrev pub over_of : Model → List ℕ → Chip → Mem → Going → ℕ → ℕ → List ℕ → SeenLeft
over_of M rises c m g events clocks xs =
    record {
      answer =
          record {
            verdict = Ok tt;
            events = g.events + events;
            clocks = g.clocks + clocks;
            ends = g.ends + ends_in xs;
            cycles = g.cycles + cycles_of M c xs;
            mark = sooner_mark g.mark (mark_from M c m g.place g.clocks rises xs);
            chip = after_of M c xs;
          };
      mem = memory_of M c m xs;
    }

-- what it comes to with these events still to come
unfoldable pub finish_of : Model → List ℕ → Chip → Mem → Going → List ℕ → SeenLeft
finish_of M rises c m g es = over_of M rises c m g (length es) (clocks_in es) (with_ends_of M c es)

-- past what was found at a sample: the run comes to the same, over the events that are left
pub record Turned (M : Model) (c : Chip) (m : Mem) (at code : ℕ) (es : List ℕ) (g r : Going) (c' : Chip) (m' : Mem) : Type 0 where
  pub finish : (rises : List ℕ) → (code < 2 → get_or rises g.clocks 0 ≡ at) → finish_of M rises c' m' r es ≡ finish_of M rises c m g (one_of code ++ es)
  pub events : r.events ≤ g.events + 1
  pub clocks : r.clocks ≡ g.clocks + clocks_in (one_of code)
  pub ends : r.ends ≤ g.ends + 1
  pub cycles : r.cycles ≤ g.cycles + 1
