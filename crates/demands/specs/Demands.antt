-- The demands of document 00, each sentence quoted above what says it. One theorem, `demands` in proofs/Demands.antt, is of all of them.
-- What is said, is said of `deliver_of`, `step_of`, `run_of` (crate chip), `our_driver` (driver) and `our_bench` (bench_promises): the field `code`
-- has that the public functions answer and leave that and nothing else.
-- Assumes nothing.
use Rattle.std.specs.Prelude.{ℕ, ◌+◌, ◌<◌, ◌≤◌, ◌≡◌, ◌⊎◌, get_or}
use Rattle.chip.specs.Memory.{cells_of}
use Rattle.chip.specs.Calls.{deliver_of, step_of, run_of}
use Rattle.chip_laws.specs.Bytes.{ByteIn, ByteOut}
use Rattle.chip_promises.specs.Numbers.{DeliverNumbers, StepNumbers, RunNumbers}
use Rattle.chip_promises.specs.Refused.{RefusedChangesNothing}
use Rattle.chip_promises.specs.Pages.{differing_of, CountsEveryPage, CallsPagesFromDelivery}
use Rattle.chip_promises.specs.Stops.{CallsCyclesAreStopsFromDelivery}
use Rattle.chip_promises.specs.Lock.{CallsLockHolds}
use Rattle.chip_promises.specs.Pin.{CallsPinProtects}
use Rattle.image.specs.Calls.{saving, loading}
use Rattle.image.specs.Numbers.{SaveNumbers, LoadNumbers}
use Rattle.trace.specs.Numbers.{tracing, TraceNumbers}
use Rattle.page.specs.Look.{look_refusal_of}
use Rattle.page.specs.Promise.{RefusesRightly}
use Rattle.driver.specs.declared.Answer.{Answer}
use Rattle.driver.specs.declared.Answer.TheVariants.{Done}
use Rattle.driver.specs.Request.{from_of, judge_of, k_of}
use Rattle.driver_promises.specs.Numbers.{RequestNumbers}
use Rattle.bench.specs.Together.{System}
use Rattle.driver.specs.Machine.{our_driver}
use Rattle.bench_promises.specs.Ground.{target_of}
use Rattle.bench_promises.specs.Together.{our_run, Session, Writes, Reads, Enough, answer_of, reported_of, after_choices, other_of, byte_in, asked}
use Rattle.bench_promises.specs.Ends.{Timely}
use Rattle.bench_promises.specs.Accepted.{StepsAccepted, CallsAreRun}
use Rattle.bench_promises.specs.Calls.{our_bench, verdict_of, BenchPromises}
use Rattle.bench_promises.specs.Numbers.{BenchNumbers}
use Rattle.bench_promises.specs.Trials.{TrialsRight}
use Rattle.sapwoodle.specs.Promises.{BytesKept}
use Rattle.determined.specs.Functions.{EveryAnswer}
use Rattle.determined.specs.Machines.{EveryMachine}

-- "Every event, part, state, buffer and length gets an answer. Bad input is refused with the number that document 01 gives. A call refused
-- for bad input changes no byte and no chip state, and nobody has to check first."
pub record Demand1 : Type 0 where
  -- "Every event, part, state, buffer and length gets an answer .. and nobody has to check first": no contract asks anything of its
  -- input, and each allows exactly one answer to every input
  pub answered : EveryAnswer
  pub code : EveryMachine
  -- "Bad input is refused with the number that document 01 gives", and 0 is given where nothing is bad
  pub delivered : DeliverNumbers deliver_of
  pub stepped : StepNumbers step_of
  pub ran : RunNumbers run_of
  pub requested : RequestNumbers judge_of
  pub benched : BenchNumbers verdict_of
  pub looked : RefusesRightly look_refusal_of
  pub saved : SaveNumbers saving
  pub loaded : LoadNumbers loading
  pub traced : TraceNumbers tracing
  -- "A call refused for bad input changes no byte and no chip state": of the chip, of driver and chip, and of every call over bytes
  pub chip_kept : RefusedChangesNothing deliver_of step_of run_of
  pub bytes_kept : BytesKept

-- "On an idle chip of the named part and enable, power kept and no outside event but cycle ends": a `Session` of bench_promises/specs/Together.antt.
-- Driver and chip after its choices, and what the driver answers when it is asked next
abbrev pub now : Session → System
now = after_choices our_run

abbrev pub says : Session → Answer
says w = answer_of (now w)

-- "The model answers each bus event as the data sheets say, with document 01 deciding where they are silent. On an idle chip .., what our driver
-- reports written is then stored, what it reads is what is there, and bytes it was not asked to write are as before."
pub record Demand2 : Type 0 where
  -- "The model answers each bus event as the data sheets say": rules 1 to 9 are the definitions that `code` says the code is
  -- (line/specs/Rules.antt, chip/specs/Memory.antt); here document 01's trials, and that nine clocks are a byte
  pub trials : TrialsRight
  pub bytes : ByteIn × ByteOut
  -- "what our driver reports written is then stored"; and done is all of it
  pub written : (w : Session) → Writes w → (i : ℕ) → i < reported_of (says w) → asked w.request (now w).mem i ≡ get_or w.buffer i 0
  pub all : (w : Session) → (q n : ℕ) → says w ≡ Done q n → n ≡ w.request.length
  -- "what it reads is what is there"; and it does read, when it has been asked often enough
  pub read : (w : Session) → Reads w → (q n : ℕ) → says w ≡ Done q n → (i : ℕ) → i < w.request.length
      → get_or (now w).buffer i 0 ≡ asked w.request w.mem i
  pub reads : (w : Session) → Reads w → Enough w → says w ≡ Done 0 w.request.length
  -- "bytes it was not asked to write are as before": around what was asked, in the other memory, the lock, and all of them for a read
  pub around : (w : Session) (i : ℕ) → (i < from_of w.request.place) ⊎ (from_of w.request.place + w.request.length ≤ i)
      → byte_in w.request (now w).mem i ≡ byte_in w.request w.mem i
  pub other : (w : Session) → cells_of (other_of (target_of w.request.place)) (now w).mem ≡ cells_of (other_of (target_of w.request.place)) w.mem
  pub lock : (w : Session) → (now w).chip.line.core.locked ≡ w.chip.line.core.locked
  pub unread : (w : Session) → Reads w → (now w).mem ≡ w.mem
  -- on a chip in range these are calls of `next` and `step`, none of which is refused for the state; and the same of one call that runs
  -- driver and chip to the end, with what its tape says
  pub calls : CallsAreRun our_driver step_of × StepsAccepted step_of our_run
  pub run : BenchPromises our_bench

pub record Demand3 : Type 0 where
  -- "Over any events from delivery, the pages whose contents differ from delivery, the identification page counted as one, are never more
  -- than the write cycles begun": by any series of calls; pages are counted right, and cycles begun are the Stops that begin one
  pub pages : CallsPagesFromDelivery deliver_of step_of run_of
  pub counted : CountsEveryPage differing_of
  pub cycles : CallsCyclesAreStopsFromDelivery deliver_of step_of run_of
  -- "A locked identification page never changes or unlocks."
  pub lock : CallsLockHolds step_of run_of
  -- "With a Write Control pin high throughout and no cycle running at the start, nothing stored changes."
  pub pin : CallsPinProtects step_of run_of
  -- "Given an idle chip of the named part and enable, its pin not high, power kept, no outside event but cycle ends, and each cycle ended before
  -- the Start of a poll within the budget, our driver's write of n bytes inside the array, n at least 1, ends done and not refused, reports all n
  -- bytes": `Timely`, bench_promises/specs/Ends.antt
  pub ends : (w : Session) → Timely w → (q : ℕ) × (says w ≡ Done q w.request.length)
  -- "and begins exactly one cycle for each page it meets"; that it is the page's own Stop that begins it says `BenchPromises`, `cycle_each`
  pub one_each : (w : Session) → Timely w → (now w).cycles ≡ k_of w.request

pub record Demands : Type 0 where
  pub first : Demand1
  pub second : Demand2
  pub third : Demand3
