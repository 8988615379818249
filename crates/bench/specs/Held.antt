-- What the code keeps between two askings, beside the lent buffers, and what it needs of the chip.
-- Assumes nothing.
use Rattle.std.specs.Prelude.{ℕ, ◌+◌, ◌≡◌, Bool, true, cond, List, Ok, Err}
use Rattle.parts.specs.Table.{facts_of, enable_right_of, buffers_right_of}
use Rattle.state.specs.declared.Chip.{Chip}
use Rattle.state.specs.Range.{in_range_of}
use Rattle.chip.specs.Memory.{Mem}
use Rattle.chip.specs.Model.{Model}
use Rattle.chip_laws.specs.Range.{Typed}
use Rattle.wear.specs.declared.Most.{Most}
use Rattle.driver.specs.declared.Driver.{Driver}
use Rattle.driver.specs.declared.Answer.{Answer}
use Rattle.driver.specs.declared.Answer.TheVariants.{Send, Done, Refused}
use Rattle.driver.specs.Step.{driver_next_of}
use Rattle.bench.specs.declared.Held.{Held}
use Rattle.bench.specs.declared.Report.{Report}
use Rattle.bench.specs.Together.{System, clock_of, ends, end_due_of}
use Rattle.bench.specs.Tape.{sends_of}

-- the system, of what is held and what is lent
abbrev pub whole : Held → List ℕ → Mem → System
whole h b m = record { driver = h.driver; level = h.level; buffer = b; chip = h.chip; mem = m; cycles = h.cycles; clocks = h.clocks }

-- the chip takes an event that the driver sends
abbrev pub chip_takes_of : Model → Held → Mem → Driver → ℕ → Held
chip_takes_of M h m d e =
    record {
      driver = d;
      level = M.level h.chip m e;
      chip = M.next h.chip e;
      cycles = h.cycles + M.begun h.chip e;
      clocks = h.clocks + clock_of e;
      worst = h.worst;
    }

-- the chip's cycle ends, and leaves counts with this worst
abbrev pub at_end_of : Model → Held → Most → Held
at_end_of M h w =
    record { driver = h.driver; level = h.level; chip = M.next h.chip ends; cycles = h.cycles; clocks = h.clocks; worst = w }

-- false: a turn changes nothing any more
unfoldable pub going_of : ℕ → System → Bool
going_of d s = cond (end_due_of d s) true (sends_of (driver_next_of s.driver s.level s.buffer).answer)

-- what refuses a step of the chip does not apply; n and i are the lengths of the lent array and identification page
pub record Fit (part enable : ℕ) (c : Chip) (n i : ℕ) : Type 0 where
  pub known : (facts_of part).known ≡ true
  pub enabled : enable_right_of (facts_of part) enable ≡ true
  pub lent : buffers_right_of (facts_of part) n i ≡ true
  pub ranged : in_range_of (facts_of part) c ≡ true
  pub typed : Typed c

-- the report on what is held
abbrev pub made_of : Held → Answer → Report
made_of h (Send e) = record { verdict = Ok tt; polls = 0; bytes = 0; cycles = h.cycles; clocks = h.clocks; chip = h.chip }
made_of h (Done polls bytes) = record { verdict = Ok tt; polls = polls; bytes = bytes; cycles = h.cycles; clocks = h.clocks; chip = h.chip }
made_of h (Refused r polls bytes) = record { verdict = Err r; polls = polls; bytes = bytes; cycles = h.cycles; clocks = h.clocks; chip = h.chip }
