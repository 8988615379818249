-- A run of driver and chip that counts wear: what it answers and leaves is the run's own, and the counts go on along the tape's events. "3 also for a
-- count buffer of another length" (document 02, §6).
-- Assumes nothing.
use Rattle.std.specs.Prelude.{ℕ, List, length}
use Rattle.parts.specs.declared.Facts.{Facts}
use Rattle.parts.specs.Verdict.{Verdict}
use Rattle.parts.specs.Table.{facts_of}
use Rattle.parts.specs.Refusals.{sooner_of}
use Rattle.state.specs.declared.Chip.{Chip}
use Rattle.chip.specs.Memory.{Mem}
use Rattle.chip.specs.Model.{Model, ours}
use Rattle.wear.specs.Wear.{Counter, our_counter, worn_by}
use Rattle.wear.specs.Calls.{counts_verdict_of, counts_by}
use Rattle.driver.specs.declared.Request.{Request}
use Rattle.driver.specs.Machine.{Machine, our_driver}
use Rattle.bench.specs.Together.{enough}
use Rattle.bench.specs.Tape.{tape_events_of}
use Rattle.bench.specs.Calls.{BenchLeft, outset_of, bench_by, bench_verdict}

-- the refusals of the run, and 3 for the counts too
abbrev pub worn_verdict : Request → ℕ → ℕ → Chip → Mem → List ℕ → List ℕ → Verdict
worn_verdict r enable d c m buffer counts = sooner_of (counts_verdict_of (facts_of r.part) (length counts)) (bench_verdict r enable d c m buffer)

-- what a call answers and leaves: all that a run does, and the counts
pub record BenchWorn : Type 0 where
  pub left : BenchLeft
  pub counts : List ℕ

-- what the tape's events make of the counts
unfoldable pub tape_worn_of : Counter → Machine → Model → Request → ℕ → Chip → Mem → List ℕ → List ℕ → List ℕ
tape_worn_of W D M r d c m buffer counts = worn_by W M (facts_of r.part) c counts (tape_events_of D M d enough (outset_of r c m buffer))

-- a refused call changes no count
abbrev pub bench_worn_by : Counter → Machine → Model → Request → ℕ → Chip → Mem → List ℕ → List ℕ → Verdict → BenchWorn
bench_worn_by W D M r d c m buffer counts v = record { left = bench_by D M r d c m buffer v; counts = counts_by (tape_worn_of W D M r d c m buffer counts) counts v }

-- of any counter, driver and chip, as `bench_over`
abbrev pub bench_worn_over : Counter → Machine → (Facts → ℕ → Model) → Request → ℕ → ℕ → Chip → Mem → List ℕ → List ℕ → BenchWorn
bench_worn_over W D M r enable d c m buffer counts = bench_worn_by W D (M (facts_of r.part) enable) r d c m buffer counts (worn_verdict r enable d c m buffer counts)

-- ours
abbrev pub bench_worn_of : Request → ℕ → ℕ → Chip → Mem → List ℕ → List ℕ → BenchWorn
bench_worn_of = bench_worn_over our_counter our_driver ours
