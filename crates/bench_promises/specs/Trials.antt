-- Document 01, 'Trials on the bench': all trials marked ●, the chip's and the driver's, as one table.
-- Assumes nothing.
use Rattle.std.specs.Prelude.{ℕ, ◌≡◌, Bool, false, ◌&&◌, List, [], ◌∷◌, ◌++◌, get_or, eqb, Ok}
use Rattle.parts.specs.Table.{facts_of}
use Rattle.parts.specs.Bytes.{same_of}
use Rattle.chip.specs.Delivery.{standby_of, delivered_of}
use Rattle.driver.specs.declared.Place.TheVariants.{Array}
use Rattle.driver.specs.declared.Request.{Request}
use Rattle.driver.specs.declared.Answer.{Answer}
use Rattle.driver.specs.declared.Answer.TheVariants.{Send, Done, Refused}
use Rattle.driver.specs.Split.{parts_of}
use Rattle.driver.specs.Machine.{our_driver}
use Rattle.bench.specs.Together.{System, start_of, turns_of}
use Rattle.chip_laws.specs.Trials.{Trial, first_wrong, chip_trials}
use Rattle.bench_promises.specs.Together.{answer_of}
use Rattle.chip.specs.Model.{ours}
use Rattle.state.specs.declared.Chip.{Chip}
use Rattle.chip.specs.Memory.{Mem}
use Rattle.bench.specs.declared.Report.{Report}
use Rattle.bench_promises.specs.Calls.{BenchCall, Bench, Called, OpenCall, BenchPromises}

-- 11. "Part 2, 5 bytes at 30: 30..31, 32..34; with d = 1, 117 clocks"
abbrev pub five_bytes : List ℕ
five_bytes = 0x11 ∷ 0x22 ∷ 0x33 ∷ 0x44 ∷ 0x55 ∷ []

abbrev pub five_at30 : Request
five_at30 = record { part = 2; enable = 0; place = Array (record { 0 = 30 }); reads = false; length = 5; budget = 1 }

-- 117 clocks, eight Starts and Stops; a driver that has finished stays so
unfoldable pub ran_at30 : System
ran_at30 = turns_of our_driver (ours (facts_of 2) 0) 1 130 (start_of five_at30 five_bytes (standby_of (facts_of 2) false) (delivered_of 2))

unfoldable pub done_with : Answer → ℕ → ℕ → Bool
done_with (Send e) polls bytes = false
done_with (Done q n) polls bytes = eqb q polls && eqb n bytes
done_with (Refused r q n) polls bytes = false

-- the bytes from address 29 to 35: one before, the five, one after
unfoldable pub around30 : System → List ℕ
around30 s =
    get_or s.mem.cells 29 0
    ∷ get_or s.mem.cells 30 0
    ∷ get_or s.mem.cells 31 0
    ∷ get_or s.mem.cells 32 0
    ∷ get_or s.mem.cells 33 0
    ∷ get_or s.mem.cells 34 0
    ∷ get_or s.mem.cells 35 0
    ∷ []

unfoldable pub driver_trials : List Trial
driver_trials =
    record { trial = 11; right = same_of (parts_of 32 5 30 5) (2 ∷ 3 ∷ []) }
    ∷ record { trial = 11; right = done_with (answer_of ran_at30) 2 5 && eqb ran_at30.clocks 117 && eqb ran_at30.cycles 2 }
    ∷ record { trial = 11; right = same_of (around30 ran_at30) (0xFF ∷ five_bytes ++ (0xFF ∷ [])) }
    ∷ []

-- the place of the first row that is not right, counted from 1; 0 where there is none
abbrev pub TrialsRight : Type 0
TrialsRight = first_wrong (chip_trials ++ driver_trials) ≡ 0

-- 12. "Part 0, 2,048 bytes at 0, d = 1: 128 cycles, 21,888 clocks": of every run that keeps the promises, on every idle chip whose pin allows it
abbrev pub whole_array : ℕ → Request
whole_array budget = record { part = 0; enable = 0; place = Array (record { 0 = 0 }); reads = false; length = 2048; budget = budget }

abbrev pub whole_array_on : ℕ → Chip → Mem → List ℕ → BenchCall
whole_array_on budget c m ys = record { request = whole_array budget; own = 0; d = 1; chip = c; mem = m; buffer = ys }

pub record WholeArrayWritten (p : Report) : Type 0 where
  pub done : p.verdict ≡ Ok tt
  pub cycles : p.cycles ≡ 128
  pub polls : p.polls ≡ 128
  pub clocks : p.clocks ≡ 21888

abbrev pub WholeArray : Type 0
WholeArray =
    (B : Bench) → BenchPromises B → (budget : ℕ) (c : Chip) (m : Mem) (ys : List ℕ) → Called (whole_array_on budget c m ys)
    → OpenCall (whole_array_on budget c m ys) → WholeArrayWritten (B.report (whole_array_on budget c m ys))
