-- A run of driver and chip that counts wear and keeps the stored worst (document 02, §8): "4 also for a stored worst that the counts don't bear out".
-- Assumes nothing.
use Rattle.std.specs.Prelude.{ℕ, List}
use Rattle.parts.specs.Verdict.{Verdict}
use Rattle.parts.specs.Table.{facts_of}
use Rattle.parts.specs.Refusals.{sooner_of}
use Rattle.state.specs.declared.Chip.{Chip}
use Rattle.chip.specs.Memory.{Mem}
use Rattle.chip.specs.Model.{ours}
use Rattle.wear.specs.declared.Most.{Most}
use Rattle.wear.specs.Wear.{our_counter}
use Rattle.wear.specs.Worst.{worst_verdict_of, worst_by}
use Rattle.driver.specs.declared.Request.{Request}
use Rattle.driver.specs.Machine.{our_driver}
use Rattle.bench.specs.Worn.{BenchWorn, worn_verdict, bench_worn_by}

-- the refusals of the run with counts, and 4 for the worst too
abbrev pub bench_kept_verdict : Request → ℕ → ℕ → Chip → Mem → List ℕ → List ℕ → Most → Verdict
bench_kept_verdict r enable d c m buffer counts worst = sooner_of (worst_verdict_of counts worst) (worn_verdict r enable d c m buffer counts)

-- what a call answers and leaves: all that a run with counts does, and the worst
pub record BenchKept : Type 0 where
  pub worn : BenchWorn
  pub worst : Most

-- a call that was begun answers the worst of the counts that it left, also where the driver refused (9 to 11, 14, 15)
abbrev pub bench_kept_by : Request → ℕ → ℕ → Chip → Mem → List ℕ → List ℕ → Most → Verdict → BenchKept
bench_kept_by r enable d c m buffer counts worst v =
    record {
      worn = bench_worn_by our_counter our_driver (ours (facts_of r.part) enable) r d c m buffer counts v;
      worst = worst_by worst (bench_worn_by our_counter our_driver (ours (facts_of r.part) enable) r d c m buffer counts v).counts v;
    }

-- of the request, the chip's enable, d, the chip, its two lent buffers, the driver's buffer, the counts and the worst of them
abbrev pub bench_kept_of : Request → ℕ → ℕ → Chip → Mem → List ℕ → List ℕ → Most → BenchKept
bench_kept_of r enable d c m buffer counts worst = bench_kept_by r enable d c m buffer counts worst (bench_kept_verdict r enable d c m buffer counts worst)
