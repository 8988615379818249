-- Document 02, §8, of driver and chip together: of any function that is called as `bench::run_worn` is.
-- Assumes nothing.
use Rattle.std.specs.Prelude.{ℕ, ◌≡◌, List, Err}
use Rattle.parts.specs.declared.Refusal.TheVariants.{BadState}
use Rattle.parts.specs.Refusals.{sooner_of}
use Rattle.state.specs.declared.Chip.{Chip}
use Rattle.chip.specs.Memory.{Mem}
use Rattle.wear.specs.declared.Most.{Most}
use Rattle.wear.specs.Report.{most_of}
use Rattle.driver.specs.declared.Request.{Request}
use Rattle.bench.specs.Worn.{worn_verdict, bench_worn_of}
use Rattle.bench.specs.Kept.{BenchKept}

-- the request, the chip's enable, d, the chip, its two lent buffers, the driver's buffer, the counts and the worst of them
abbrev pub KeptBench : Type 0
KeptBench = Request → ℕ → ℕ → Chip → Mem → List ℕ → List ℕ → Most → BenchKept

-- from the worst that the walk finds on, refused or not, by us or by the driver: the worst of the counts that are left
abbrev pub BenchWorstIsWalk : KeptBench → Type 0
BenchWorstIsWalk B =
    (r : Request) (own d : ℕ) (c : Chip) (m : Mem) (buffer counts : List ℕ) (worst : Most) → worst ≡ most_of counts
    → (B r own d c m buffer counts worst).worst ≡ most_of (B r own d c m buffer counts worst).worn.counts

-- all else is the run's own
abbrev pub BenchAsBefore : KeptBench → Type 0
BenchAsBefore B =
    (r : Request) (own d : ℕ) (c : Chip) (m : Mem) (buffer counts : List ℕ) (worst : Most) → worst ≡ most_of counts
    → (B r own d c m buffer counts worst).worn ≡ bench_worn_of r own d c m buffer counts

-- any other worst is refused with 4, in its place among the refusals of §6, before anything changes
pub record BenchRefusesUnborne (B : KeptBench) : Type 0 where
  pub first : (r : Request) (own d : ℕ) (c : Chip) (m : Mem) (buffer counts : List ℕ) (worst : Most) → (worst ≡ most_of counts → ⊥)
      → (B r own d c m buffer counts worst).worn.left.report.verdict ≡ sooner_of (Err BadState) (worn_verdict r own d c m buffer counts)
  pub keeps : (r : Request) (own d : ℕ) (c : Chip) (m : Mem) (buffer counts : List ℕ) (worst : Most) → (worst ≡ most_of counts → ⊥)
      → ((B r own d c m buffer counts worst).worst ≡ worst)
      × ((B r own d c m buffer counts worst).worn.counts ≡ counts)
      × ((B r own d c m buffer counts worst).worn.left.mem ≡ m)
      × ((B r own d c m buffer counts worst).worn.left.buffer ≡ buffer)
      × ((B r own d c m buffer counts worst).worn.left.report.chip ≡ c)
