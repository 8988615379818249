-- The idle versions of document 01, 'Strength of the promises', as runs of driver and chip: each breaks the one promise that is named with it.
-- A driver alone is in driver_promises/specs/Idle.antt, a chip alone in chip_promises/specs/Idle.antt and Invented.antt.
-- Assumes nothing.
use Rattle.std.specs.Prelude.{ℕ, ◌+◌, ◌<◌, ◌≡◌, cond, [], Ok, Err}
use Rattle.parts.specs.declared.Facts.{Facts}
use Rattle.parts.specs.declared.Refusal.{Refusal}
use Rattle.parts.specs.Refusals.{is_fine}
use Rattle.state.specs.declared.Chip.{Chip}
use Rattle.chip.specs.Model.{Model, ours}
use Rattle.chip_promises.specs.Idle.{constant}
use Rattle.chip_promises.specs.Invented.{inventing_model}
use Rattle.driver.specs.Machine.{our_driver}
use Rattle.driver_promises.specs.Idle.{refusing_driver}
use Rattle.bench.specs.declared.Report.{Report}
use Rattle.bench.specs.Calls.{refused_by}
use Rattle.bench_promises.specs.Calls.{BenchCall, Bench, bench_under, our_bench, WritesKept, ReadsKept, ReadsBackKept, EndsKept, UsesUpKept, RefusesKept, ReplaysKept}
use Rattle.bench_promises.specs.Numbers.{Judge, BenchNumbers}

-- ---- "the chip or driver that refuses everything (refusal table, demand 2)", whichever refusal it is

abbrev pub refusing_judge : Refusal → Judge
refusing_judge x k = Err x

-- the whole run, whichever of the two refuses
abbrev pub refusing_bench : Refusal → Bench
refusing_bench x =
    record { report = λ k. refused_by x k.chip; memory = λ k. k.mem; buffer = λ k. k.buffer; events = λ k. []; levels = λ k. [] }

pub record RefusingRunBreaks : Type 0 where
  -- the refusal table: a call in order has number 0, and bad calls have more numbers than one
  pub judge : (x : Refusal) → BenchNumbers (refusing_judge x) → ⊥
  pub table : (x : Refusal) → RefusesKept (refusing_bench x) → ⊥
  -- a read on an idle chip is done, and so is a write
  pub reads : (x : Refusal) → ReadsKept (refusing_bench x) → ⊥
  pub ends : (x : Refusal) → EndsKept (refusing_bench x) → ⊥
  -- also where only the driver refuses, on our chip, and bad calls are refused as they should be
  pub driver_reads : (x : Refusal) → ReadsKept (bench_under (refusing_driver x) ours) → ⊥
  pub driver_ends : (x : Refusal) → EndsKept (bench_under (refusing_driver x) ours) → ⊥

-- ---- "one constant line level (the select trials, demand 2)": our driver on the chips that break the select trials (`ConstantBreaks`,
-- chip_promises/specs/Idle.antt)

pub record ConstantRunBreaks : Type 0 where
  -- low, every byte is read as 00h
  pub low_reads : ReadsKept (bench_under our_driver (constant 0)) → ⊥
  -- and the first poll of a chip that is still busy is answered: done, and not yet stored
  pub low_writes : WritesKept (bench_under our_driver (constant 0)) → ⊥
  -- high, no select is acknowledged: refusal 9
  pub high_reads : ReadsKept (bench_under our_driver (constant 1)) → ⊥
  pub high_ends : EndsKept (bench_under our_driver (constant 1)) → ⊥

-- ---- "a model that stores nothing (driver and read-back, demand 2)"

-- ours but for what is stored
abbrev pub forgetful : Facts → ℕ → Model
forgetful f enable = record { next = (ours f enable).next; store = λ c m e. m; level = (ours f enable).level; begun = (ours f enable).begun }

pub record ForgetfulRunBreaks : Type 0 where
  -- reported, and not stored; done, and not read back
  pub writes : WritesKept (bench_under our_driver forgetful) → ⊥
  pub reads_back : ReadsBackKept (bench_under our_driver forgetful) → ⊥

-- ---- "invented cycle or poll counts (cycles are well-placed Stops, polls are events sent)"

-- ours, but it counts so many cycles and so many polls more
abbrev pub counting_more : ℕ → ℕ → Report → Report
counting_more cycles polls p =
    record { verdict = p.verdict; polls = p.polls + polls; bytes = p.bytes; cycles = p.cycles + cycles; clocks = p.clocks; chip = p.chip }

-- ours, but for what its report is made into
abbrev pub reporting : (BenchCall → Report → Report) → Bench
reporting f =
    record {
      report = λ k. f k (our_bench.report k);
      memory = our_bench.memory;
      buffer = our_bench.buffer;
      events = our_bench.events;
      levels = our_bench.levels;
    }

abbrev pub inventing_bench : ℕ → ℕ → Bench
inventing_bench cycles polls = reporting (λ k p. counting_more cycles polls p)

-- only in writes that are done
abbrev pub inventing_done : ℕ → Bench
inventing_done polls = reporting (λ k p. cond k.request.reads p (cond (is_fine p.verdict) (counting_more 0 polls p) p))

pub record InventingRunBreaks : Type 0 where
  -- the tape begins fewer
  pub cycles : (n k : ℕ) → 0 < n → ReplaysKept (inventing_bench n k) → ⊥
  -- a read polls nothing; a write that is refused with 11 spent its budget
  pub read_polls : (n k : ℕ) → 0 < k → ReadsKept (inventing_bench n k) → ⊥
  pub write_polls : (n k : ℕ) → 0 < k → UsesUpKept (inventing_bench n k) → ⊥
  -- and one that is done polled d times for each page
  pub done_polls : (k : ℕ) → 0 < k → EndsKept (inventing_done k) → ⊥
  -- the chip: one that begins no cycle, and one that begins a cycle at every event
  pub none_begun : EndsKept (bench_under our_driver (inventing_model (λ c e. 0))) → ⊥
  pub one_each : ReadsKept (bench_under our_driver (inventing_model (λ c e. 1))) → ⊥

-- whoever keeps the tape and sends what ours sends counts the cycles and the clocks that ours counts
abbrev pub CountsFromTape : Type 0
CountsFromTape =
    (B : Bench) → ReplaysKept B → (k : BenchCall) → B.events k ≡ our_bench.events k
    → ((B.report k).cycles ≡ (our_bench.report k).cycles) × ((B.report k).clocks ≡ (our_bench.report k).clocks)

-- so does our driver on a chip that is ours but for the cycles it says it begins, whatever it says
abbrev pub RunInventsNothing : Type 0
RunInventsNothing =
    (count : Chip → ℕ → ℕ) → ReplaysKept (bench_under our_driver (inventing_model count)) → (k : BenchCall)
    → ((bench_under our_driver (inventing_model count)).report k).cycles ≡ (our_bench.report k).cycles

-- ---- more of the kind

-- all bytes done, with nothing sent
abbrev pub claimed : BenchCall → Report
claimed k = record { verdict = Ok tt; polls = 0; bytes = k.request.length; cycles = 0; clocks = 0; chip = k.chip }

-- it reports everything done, and does nothing
abbrev pub boasting : Bench
boasting = record { report = claimed; memory = λ k. k.mem; buffer = λ k. k.buffer; events = λ k. []; levels = λ k. [] }

-- ours, but what was read is not in the buffer
abbrev pub blind : Bench
blind = record { report = our_bench.report; memory = our_bench.memory; buffer = λ k. k.buffer; events = our_bench.events; levels = our_bench.levels }

-- ours, with a tape that has nothing
abbrev pub untold : Bench
untold = record { report = our_bench.report; memory = our_bench.memory; buffer = our_bench.buffer; events = λ k. []; levels = λ k. [] }

pub record OtherRunsBreak : Type 0 where
  pub boasting_writes : WritesKept boasting → ⊥
  pub boasting_reads : ReadsKept boasting → ⊥
  pub blind : ReadsKept blind → ⊥
  pub untold : ReplaysKept untold → ⊥
