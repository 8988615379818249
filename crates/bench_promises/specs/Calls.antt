-- The demands as promises about the public run of driver and model (crate bench): what it answers, and what it leaves in the lent
-- buffers on an idle chip, and its tape on any. The run is a record of functions, so that a wrong one breaks them; `our_bench` is what its contract says.
-- Assumes nothing.
use Rattle.std.specs.Prelude.{ℕ, ◌+◌, ◌*◌, ◌<◌, ◌≤◌, ◌≡◌, true, false, ◌⊎◌, List, [], ◌++◌, length, get_or, take, drop, replicate, Ok, Err}
use Rattle.parts.specs.declared.Facts.{Facts}
use Rattle.parts.specs.declared.Refusal.{Refusal}
use Rattle.parts.specs.declared.Refusal.TheVariants.{NoData, PollsUsed}
use Rattle.parts.specs.Verdict.{Verdict}
use Rattle.parts.specs.Table.{facts_of}
use Rattle.parts.specs.Bytes.{AllBelow}
use Rattle.line.specs.declared.Target.{Target}
use Rattle.line.specs.declared.Phase.TheVariants.{Idle}
use Rattle.state.specs.declared.Chip.{Chip}
use Rattle.chip.specs.Model.{Model, ours}
use Rattle.chip.specs.Memory.{Mem, cells_of}
use Rattle.chip.specs.Runs.{after_of, memory_of, levels_of, cycles_of}
use Rattle.chip_laws.specs.Range.{Typed}
use Rattle.driver.specs.declared.Request.{Request}
use Rattle.driver.specs.Request.{from_of, k_of}
use Rattle.driver.specs.Machine.{Machine, our_driver}
use Rattle.driver_promises.specs.Run.{clocks_in, address_bytes}
use Rattle.bench.specs.declared.Report.{Report}
use Rattle.bench.specs.Calls.{BenchLeft, bench_verdict, bench_over}
use Rattle.bench_promises.specs.Ground.{target_of}
use Rattle.bench_promises.specs.Together.{other_of}
use Rattle.bench_promises.specs.Ends.{Writable, Shut}
use Rattle.bench_promises.specs.Tape.{polls_of_pages, Driven, EndsAt, CycleEach}

-- one call: the request, the chip's own enable, d, the chip, its two lent buffers, and the driver's
pub record BenchCall : Type 0 where
  pub request : Request
  pub own : ℕ
  pub d : ℕ
  pub chip : Chip
  pub mem : Mem
  pub buffer : List ℕ

-- a run of driver and model: what it answers, the two memories and the lent buffer after it
pub record Bench : Type 0 where
  pub report : BenchCall → Report
  pub memory : BenchCall → Mem
  pub buffer : BenchCall → List ℕ
  -- the tape: every event that the chip is given, and its level for each
  pub events : BenchCall → List ℕ
  pub levels : BenchCall → List ℕ

-- any driver on any chip, each call as crate bench defines it
module _ (D : Machine) (M : Facts → ℕ → Model) where
  abbrev left_by : BenchCall → BenchLeft
  left_by k = bench_over D M k.request k.own k.d k.chip k.mem k.buffer

  abbrev pub bench_under : Bench
  bench_under =
      record {
        report = λ k. (left_by k).report;
        memory = λ k. (left_by k).mem;
        buffer = λ k. (left_by k).buffer;
        events = λ k. (left_by k).events;
        levels = λ k. (left_by k).levels;
      }

abbrev pub our_bench : Bench
our_bench = bench_under our_driver ours

-- ---- calls

-- what refuses it before it begins (1 to 8)
abbrev pub verdict_of : BenchCall → Verdict
verdict_of k = bench_verdict k.request k.own k.d k.chip k.mem k.buffer

-- one that is not refused, on an idle chip of the named part and enable; the lent buffers hold bytes
pub record Called (k : BenchCall) : Type 0 where
  pub fine : verdict_of k ≡ Ok tt
  pub enabled : k.own ≡ k.request.enable
  pub idle : k.chip.line.phase ≡ Idle
  pub stored : (t : Target) → AllBelow 256 (cells_of t k.mem)
  pub lent : AllBelow 256 k.buffer

abbrev pub ReadCall : BenchCall → Type 0
ReadCall k = k.request.reads ≡ true

abbrev pub WriteCall : BenchCall → Type 0
WriteCall k = k.request.reads ≡ false

-- a write that pin and lock allow
pub record OpenCall (k : BenchCall) : Type 0 where
  pub writes : WriteCall k
  pub writable : Writable k.request.place k.chip.line.core

-- a write that the pin or the lock forbids
pub record ShutCall (k : BenchCall) : Type 0 where
  pub writes : WriteCall k
  pub shut : Shut k.request.place k.chip.line.core

-- the same place, read
abbrev pub read_of : Request → Request
read_of r = record { part = r.part; enable = r.enable; place = r.place; reads = true; length = r.length; budget = r.budget }

-- after a call, its place is read, with e for d and the buffer zs
abbrev pub read_back_lem : Bench → BenchCall → ℕ → List ℕ → BenchCall
read_back_lem B k e zs = record { request = read_of k.request; own = k.own; d = e; chip = (B.report k).chip; mem = B.memory k; buffer = zs }

-- any d from 1 to 65,535, and a buffer long enough
pub record RoomBack (k : BenchCall) (e : ℕ) (zs : List ℕ) : Type 0 where
  pub low : 1 ≤ e
  pub high : e ≤ 65535
  pub long : k.request.length ≤ length zs
  pub bytes : AllBelow 256 zs

-- ---- what a run makes of a call

module _ (B : Bench) (k : BenchCall) where
  abbrev r : Request
  r = k.request

  abbrev report : Report
  report = B.report k

  abbrev now : ℕ → ℕ
  now i = get_or (cells_of (target_of r.place) (B.memory k)) i 0

  abbrev before : ℕ → ℕ
  before i = get_or (cells_of (target_of r.place) k.mem) i 0

  -- the chip, at its own enable
  abbrev model : Model
  model = ours (facts_of r.part) k.own

  -- demand 2: "what our driver reports written is then stored ... and bytes it was not asked to write are as before"
  pub record Written : Type 0 where
    pub reported : (i : ℕ) → i < report.bytes → now (from_of r.place + i) ≡ get_or k.buffer i 0
    pub done : report.verdict ≡ Ok tt → report.bytes ≡ r.length
    pub outside : (i : ℕ) → (i < from_of r.place) ⊎ (from_of r.place + r.length ≤ i) → now i ≡ before i
    pub inside : (i : ℕ) → i < r.length
        → (now (from_of r.place + i) ≡ before (from_of r.place + i)) ⊎ (now (from_of r.place + i) ≡ get_or k.buffer i 0)
    pub other : cells_of (other_of (target_of r.place)) (B.memory k) ≡ cells_of (other_of (target_of r.place)) k.mem
    pub sizes : length (cells_of (target_of r.place) (B.memory k)) ≡ length (cells_of (target_of r.place) k.mem)
    pub lock : report.chip.line.core.locked ≡ k.chip.line.core.locked
    pub buffer : B.buffer k ≡ k.buffer
    -- done, the chip is idle again; and the memories hold bytes
    pub idle : report.verdict ≡ Ok tt → report.chip.line.phase ≡ Idle
    pub stored : (t : Target) → AllBelow 256 (cells_of t (B.memory k))

  -- demand 2: "what it reads is what is there"; bytes of the buffer past the answer keep their values
  pub record ReadThere : Type 0 where
    pub done : report.verdict ≡ Ok tt
    pub bytes : report.bytes ≡ r.length
    pub polls : report.polls ≡ 0
    pub cycles : report.cycles ≡ 0
    pub clocks : 1 ≤ r.length → report.clocks ≡ 9 * (2 + address_bytes r + r.length)
    pub buffer : B.buffer k ≡ take r.length (drop (from_of r.place) (cells_of (target_of r.place) k.mem)) ++ drop r.length k.buffer
    pub memory : B.memory k ≡ k.mem
    pub lock : report.chip.line.core.locked ≡ k.chip.line.core.locked
    pub idle : report.chip.line.phase ≡ Idle

  -- demand 3: "ends done and not refused, reports all n bytes and begins exactly one cycle for each page it meets"
  pub record Ended : Type 0 where
    pub done : report.verdict ≡ Ok tt
    pub bytes : report.bytes ≡ r.length
    pub cycles : report.cycles ≡ k_of r
    -- d polls for each page, and nine clocks for each byte on the bus: a select code and the address for each page, the data, the polls
    pub polls : report.polls ≡ k_of r * k.d
    pub each : polls_of_pages false 0 (B.events k) ≡ replicate (k_of r) k.d
    pub clocks : report.clocks ≡ 9 * (k_of r * (1 + address_bytes r) + r.length + k_of r * k.d)

  -- "A chip that stays busy for longer than our driver polls": refusal 11
  pub record UsedUp : Type 0 where
    pub refused : report.verdict ≡ Err PollsUsed
    pub polls : report.polls ≡ r.budget
    pub bytes : report.bytes ≡ 0
    pub cycles : report.cycles ≡ 1

  -- refusal 10 at the first data byte, and nothing stored changes
  pub record Protected : Type 0 where
    pub refused : report.verdict ≡ Err (NoData 0)
    pub bytes : report.bytes ≡ 0
    pub cycles : report.cycles ≡ 0
    pub memory : B.memory k ≡ k.mem

  -- demand 1: "A call refused for bad input changes no byte and no chip state"
  pub record Untouched (x : Refusal) : Type 0 where
    pub verdict : report.verdict ≡ Err x
    pub chip : report.chip ≡ k.chip
    pub memory : B.memory k ≡ k.mem
    pub buffer : B.buffer k ≡ k.buffer
    -- nothing was sent, so nothing is counted
    pub polls : report.polls ≡ 0
    pub bytes : report.bytes ≡ 0
    pub cycles : report.cycles ≡ 0
    pub clocks : report.clocks ≡ 0
    pub events : B.events k ≡ []
    pub levels : B.levels k ≡ []

  -- the tape is the run: its events, given to the same chip one after the other by the chip's own definitions, answer its levels
  -- and leave what the run leaves
  pub record Replayed : Type 0 where
    pub state : after_of model k.chip (B.events k) ≡ report.chip
    pub memory : memory_of model k.chip k.mem (B.events k) ≡ B.memory k
    pub levels : levels_of model k.chip k.mem (B.events k) ≡ B.levels k
    pub cycles : cycles_of model k.chip (B.events k) ≡ report.cycles
    pub clocks : clocks_in (B.events k) ≡ report.clocks

-- ---- the promises, one by one

module _ (B : Bench) where
  abbrev pub WritesKept : Type 0
  WritesKept = (k : BenchCall) → Called k → WriteCall k → Written B k

  abbrev pub ReadsKept : Type 0
  ReadsKept = (k : BenchCall) → Called k → ReadCall k → ReadThere B k

  -- a write that is done and then read back gives the bytes that were to be written; `Typed` is what the types say of every chip that
  -- code can hold
  abbrev pub ReadsBackKept : Type 0
  ReadsBackKept =
      (k : BenchCall) (e : ℕ) (zs : List ℕ) → Called k → Typed k.chip → WriteCall k → (B.report k).verdict ≡ Ok tt → RoomBack k e zs
      → B.buffer (read_back_lem B k e zs) ≡ k.buffer ++ drop k.request.length zs

  abbrev pub EndsKept : Type 0
  EndsKept = (k : BenchCall) → Called k → OpenCall k → k.d ≤ k.request.budget → Ended B k

  -- whatever d is: each part's own Stop begins a cycle of the chip M, at every moment of the tape, and nothing else does
  abbrev pub CycleEachKept : (Facts → ℕ → Model) → Type 0
  CycleEachKept M = (k : BenchCall) → Called k → OpenCall k → CycleEach (M (facts_of k.request.part) k.own) k.chip (B.events k)

  abbrev pub UsesUpKept : Type 0
  UsesUpKept = (k : BenchCall) → Called k → OpenCall k → 1 ≤ k.request.length → k.request.budget < k.d → UsedUp B k

  abbrev pub ProtectsKept : Type 0
  ProtectsKept = (k : BenchCall) → Called k → ShutCall k → 1 ≤ k.request.length → Protected B k

  -- also of a chip at another enable
  abbrev pub RefusesKept : Type 0
  RefusesKept = (k : BenchCall) (x : Refusal) → verdict_of k ≡ Err x → Untouched B k x

  -- every call that is not refused before it begins, on any chip, is our driver's run, so all that it promises over any levels holds
  abbrev pub DrivesKept : Type 0
  DrivesKept = (k : BenchCall) → verdict_of k ≡ Ok tt → Driven k.request k.buffer (B.report k) (B.buffer k) (B.events k) (B.levels k)

  abbrev pub EndsAtKept : Type 0
  EndsAtKept = (k : BenchCall) → EndsAt k.d (B.events k)

  -- of every call, refused or not
  abbrev pub ReplaysKept : Type 0
  ReplaysKept = (k : BenchCall) → Replayed B k

pub record BenchPromises (B : Bench) : Type 0 where
  pub writes : WritesKept B
  pub reads : ReadsKept B
  pub reads_back : ReadsBackKept B
  pub ends : EndsKept B
  pub cycle_each : CycleEachKept B ours
  pub uses_up : UsesUpKept B
  pub protects : ProtectsKept B
  pub refuses : RefusesKept B
  pub drives : DrivesKept B
  pub ends_at : EndsAtKept B
  pub replays : ReplaysKept B
