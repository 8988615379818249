-- What a run of driver and chip answers and leaves, for refused input too (document 01, refusals 1 to 8 in order).
-- Assumes nothing.
use Rattle.std.specs.Prelude.{ℕ, Bool, true, false, cond, not, List, [], ◌++◌, length, take, drop, eqb, ltb, Ok, Err}
use Rattle.parts.specs.declared.Facts.{Facts}
use Rattle.parts.specs.declared.Refusal.{Refusal}
use Rattle.parts.specs.declared.Refusal.TheVariants.{BadState, ShortBuffer, BadLimit}
use Rattle.parts.specs.Verdict.{Verdict}
use Rattle.parts.specs.Table.{facts_of}
use Rattle.parts.specs.Refusals.{claim_of, sooner_of}
use Rattle.state.specs.declared.Chip.{Chip}
use Rattle.chip.specs.Memory.{Mem}
use Rattle.chip.specs.Model.{Model, ours}
use Rattle.chip.specs.Calls.{held_verdict_of}
use Rattle.driver.specs.declared.Request.{Request}
use Rattle.driver.specs.declared.Answer.{Answer}
use Rattle.driver.specs.declared.Answer.TheVariants.{Send, Done, Refused}
use Rattle.driver.specs.Request.{judge_of}
use Rattle.driver.specs.Machine.{Machine, our_driver}
use Rattle.bench.specs.declared.Report.{Report}
use Rattle.bench.specs.Together.{System, start_of, turns_of, last_of, enough}
use Rattle.bench.specs.Tape.{tape_events_of, tape_levels_of}

-- ---- refusals: the driver's of the request (1, 2, 7, 8), the chip's of itself at its own enable (1 to 4), and the run's own

-- 4 also for data of another length than asked
unfoldable pub other_length_of : Bool → ℕ → ℕ → Bool
other_length_of reads length b = cond reads false (not (eqb b length))

-- 6: a read's buffer too short
unfoldable pub short_of : Bool → ℕ → ℕ → Bool
short_of reads length b = cond reads (ltb b length) false

-- 8: "d (1 to 65,535)"
unfoldable pub late_of : ℕ → Bool
late_of d = cond (ltb d 1) true (ltb 65535 d)

-- of the request, the chip's enable, d, the chip, and the lengths of the lent array, identification page and buffer
unfoldable pub bench_verdict_of : Request → ℕ → ℕ → Chip → ℕ → ℕ → ℕ → Verdict
bench_verdict_of r enable d c n i b =
    sooner_of (judge_of r)
    (sooner_of (held_verdict_of r.part enable c n i)
    (sooner_of (claim_of (other_length_of r.reads r.length b) BadState)
    (sooner_of (claim_of (short_of r.reads r.length b) ShortBuffer)
    (claim_of (late_of d) BadLimit))))

-- ---- the run, of any driver on any chip

-- the driver has what it was asked to write or read, and no more; a read's buffer may be longer
abbrev pub outset_of : Request → Chip → Mem → List ℕ → System
outset_of r c m buffer = start_of r (take r.length buffer) c m

-- the system when the driver has finished
unfoldable pub final_of : Machine → Model → Request → ℕ → Chip → Mem → List ℕ → System
final_of D M r d c m buffer = turns_of D M d enough (outset_of r c m buffer)

-- of the system and the driver's last answer; one that would still send cannot be (proved with the promises)
abbrev pub report_by : System → Answer → Report
report_by s (Send e) = record { verdict = Ok tt; polls = 0; bytes = 0; cycles = s.cycles; clocks = s.clocks; chip = s.chip }
report_by s (Done polls bytes) = record { verdict = Ok tt; polls = polls; bytes = bytes; cycles = s.cycles; clocks = s.clocks; chip = s.chip }
report_by s (Refused r polls bytes) = record { verdict = Err r; polls = polls; bytes = bytes; cycles = s.cycles; clocks = s.clocks; chip = s.chip }

abbrev pub refused_by : Refusal → Chip → Report
refused_by x c = record { verdict = Err x; polls = 0; bytes = 0; cycles = 0; clocks = 0; chip = c }

-- what a call answers and leaves: the report, the two lent buffers of the chip, the driver's buffer, and the tape
pub record BenchLeft : Type 0 where
  pub report : Report
  pub mem : Mem
  pub buffer : List ℕ
  pub events : List ℕ
  pub levels : List ℕ

-- bytes past the answer keep their values; a refused call changes nothing and sends nothing
abbrev pub bench_by : Machine → Model → Request → ℕ → Chip → Mem → List ℕ → Verdict → BenchLeft
bench_by D M r d c m buffer (Ok _) =
    record {
      report = report_by (final_of D M r d c m buffer) (last_of D M d enough (Done 0 0) (outset_of r c m buffer));
      mem = (final_of D M r d c m buffer).mem;
      buffer = (final_of D M r d c m buffer).buffer ++ drop r.length buffer;
      events = tape_events_of D M d enough (outset_of r c m buffer);
      levels = tape_levels_of D M d enough (outset_of r c m buffer);
    }
bench_by D M r d c m buffer (Err x) = record { report = refused_by x c; mem = m; buffer = buffer; events = []; levels = [] }

abbrev pub bench_verdict : Request → ℕ → ℕ → Chip → Mem → List ℕ → Verdict
bench_verdict r enable d c m buffer = bench_verdict_of r enable d c (length m.cells) (length m.ident) (length buffer)

-- of the request, the chip's enable, d, the chip, its two lent buffers, and the driver's buffer. The driver selects by the request's
-- enable, the chip, which is made for a row of the part table and an enable, answers at its own
abbrev pub bench_over : Machine → (Facts → ℕ → Model) → Request → ℕ → ℕ → Chip → Mem → List ℕ → BenchLeft
bench_over D M r enable d c m buffer = bench_by D (M (facts_of r.part) enable) r d c m buffer (bench_verdict r enable d c m buffer)

-- ours
abbrev pub bench_of : Request → ℕ → ℕ → Chip → Mem → List ℕ → BenchLeft
bench_of = bench_over our_driver ours
