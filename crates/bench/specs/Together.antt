-- Driver and chip together, of any behaviour each: the driver is asked for its next event, the chip answers it, the driver is told
-- the level; or the chip's cycle ends. Every interleaving is a list of choices between the two.
-- Assumes nothing.
use Rattle.std.specs.Prelude.{ℕ, zero, suc, ◌+◌, Bool, true, false, cond, List, [], ◌∷◌, eqb, ltb}
use Rattle.state.specs.declared.Chip.{Chip}
use Rattle.chip.specs.Memory.{Mem}
use Rattle.chip.specs.Model.{Model}
use Rattle.driver.specs.declared.Request.{Request}
use Rattle.driver.specs.declared.Slot.{Slot}
use Rattle.driver.specs.declared.Slot.TheVariants.{Select, High, Low, Data, Poll, Turn, Take}
use Rattle.driver.specs.declared.Phase.{Phase}
use Rattle.driver.specs.declared.Phase.TheVariants.{Ready, Bits, Heard, Rest, Over}
use Rattle.driver.specs.declared.Driver.{Driver}
use Rattle.driver.specs.declared.Answer.{Answer}
use Rattle.driver.specs.declared.Answer.TheVariants.{Send, Done, Refused}
use Rattle.driver.specs.Request.{allowed_of}
use Rattle.driver.specs.Step.{fresh}
use Rattle.driver.specs.Machine.{Machine}

-- `level`: what the driver is told next. `cycles`, `clocks`: begun and sent so far
pub record System : Type 0 where
  pub driver : Driver
  pub level : ℕ
  pub buffer : List ℕ
  pub chip : Chip
  pub mem : Mem
  pub cycles : ℕ
  pub clocks : ℕ

abbrev pub start_of : Request → List ℕ → Chip → Mem → System
start_of r buffer c m = record { driver = fresh r; level = 1; buffer = buffer; chip = c; mem = m; cycles = 0; clocks = 0 }

-- a clock among the event codes
abbrev pub clock_of : ℕ → ℕ
clock_of e = cond (ltb e 2) 1 0

-- the driver's answer is an event for the chip, or it is finished and nothing changes
abbrev pub answered_by : Model → System → Driver → List ℕ → Answer → System
answered_by M s d b (Send e) =
    record {
      driver = d;
      level = M.level s.chip s.mem e;
      buffer = b;
      chip = M.next s.chip e;
      mem = M.store s.chip s.mem e;
      cycles = s.cycles + M.begun s.chip e;
      clocks = s.clocks + clock_of e;
    }
answered_by M s d b (Done polls bytes) = s
answered_by M s d b (Refused r polls bytes) = s

-- the driver is asked once
unfoldable pub asked_of : Machine → Model → System → System
asked_of D M s =
    answered_by M s (D.next s.driver s.level s.buffer).driver (D.leaves s.driver s.level s.buffer) (D.next s.driver s.level s.buffer).answer

-- the chip is given an event from outside: nothing of it is told to the driver
abbrev pub outside_of : Model → ℕ → System → System
outside_of M e s =
    record {
      driver = s.driver;
      level = s.level;
      buffer = s.buffer;
      chip = M.next s.chip e;
      mem = M.store s.chip s.mem e;
      cycles = s.cycles;
      clocks = s.clocks;
    }

-- the code of the end of a cycle
abbrev pub ends : ℕ
ends = 4

-- the chip's cycle ends, if one runs
unfoldable pub cycle_ended_of : Model → System → System
cycle_ended_of M s = outside_of M ends s

-- any interleaving: true asks the driver, false is an end
unfoldable pub together_of : Machine → Model → List Bool → System → System
together_of D M [] s = s
together_of D M (true ∷ bs) s = together_of D M bs (asked_of D M s)
together_of D M (false ∷ bs) s = together_of D M bs (cycle_ended_of M s)

-- ---- the run with d: "each cycle ends just before its poll number d"

abbrev pub poll_by : Slot → ℕ → ℕ → ℕ → ℕ
poll_by Select tries allowed level = 0
poll_by High tries allowed level = 0
poll_by Low tries allowed level = 0
poll_by Data tries allowed level = 0
poll_by Poll tries allowed level = cond (eqb level 0) 0 (cond (ltb tries allowed) (tries + 1) 0)
poll_by Turn tries allowed level = 0
poll_by Take tries allowed level = 0

-- the number of the poll whose Start the driver sends next, from 1 for each page; 0 where it sends none
abbrev pub poll_next : Phase → ℕ → ℕ → ℕ → ℕ
poll_next Ready tries allowed level = 0
poll_next (Bits slot b) tries allowed level = 0
poll_next (Heard slot) tries allowed level = poll_by slot tries allowed level
poll_next Rest tries allowed level = tries + 1
poll_next (Over f) tries allowed level = 0

unfoldable pub end_due_of : ℕ → System → Bool
end_due_of d s = eqb (poll_next s.driver.phase s.driver.counts.tries (allowed_of s.driver.request) s.level) d

unfoldable pub turn_of : Machine → Model → ℕ → System → System
turn_of D M d s = asked_of D M (cond (end_due_of d s) (cycle_ended_of M s) s)

unfoldable pub turns_of : Machine → Model → ℕ → ℕ → System → System
turns_of D M d zero s = s
turns_of D M d (suc n) s = turns_of D M d n (turn_of D M d s)

-- what the driver answered when it was asked last, of n turns; a where it was not asked
unfoldable pub last_of : Machine → Model → ℕ → ℕ → Answer → System → Answer
last_of D M d zero a s = a
last_of D M d (suc n) a s = last_of D M d n (D.next s.driver s.level s.buffer).answer (turn_of D M d s)

-- more askings than any request takes: 9 clocks for each of 512 pages' select and address, 32,768 bytes and 512,000 polls, and
-- their Starts and Stops
abbrev pub enough : ℕ
enough = 6000000
