-- Document 02, §6, of driver and chip together: of any function that is called as `bench::run_worn` is, but for the worst (Kept.antt), the counts are what its tape says.
-- Assumes nothing.
use Rattle.std.specs.Prelude.{ℕ, ◌+◌, ◌<◌, ◌≤◌, ◌≡◌, List, [], length, get_or}
use Rattle.parts.specs.Table.{facts_of, groups_of}
use Rattle.parts.specs.Bytes.{topped}
use Rattle.line.specs.declared.Phase.TheVariants.{Idle}
use Rattle.state.specs.declared.Chip.{Chip}
use Rattle.chip.specs.Memory.{Mem}
use Rattle.chip_promises.specs.Stops.{watch_at}
use Rattle.wear_promises.specs.History.{times_of}
use Rattle.wear_promises.specs.Counts.{Counts}
use Rattle.driver.specs.declared.Request.{Request}
use Rattle.bench.specs.Calls.{bench_of}
use Rattle.bench.specs.Worn.{BenchWorn}

-- the request, the chip's enable, d, the chip, its two lent buffers, the driver's buffer, the counts
abbrev pub WornRun : Type 0
WornRun = Request → ℕ → ℕ → Chip → Mem → List ℕ → List ℕ → BenchWorn

-- From any chip with no transfer and no cycle under way, accepted or not: each count is the count before plus the completed cycles of the tape that
-- touched its group, at most the top.
abbrev pub BenchWearIsHistory : WornRun → Type 0
BenchWearIsHistory B =
    (r : Request) (own d : ℕ) (c : Chip) (m : Mem) (buffer counts : List ℕ) → c.line.phase ≡ Idle → Counts r.part counts
    → let x = B r own d c m buffer counts in
    Counts r.part x.counts
    × ((n : ℕ) → n < groups_of (facts_of r.part)
    → get_or x.counts n 0 ≡ topped (get_or counts n 0 + times_of (facts_of r.part) (watch_at c) [] x.left.events x.left.levels n))

-- all else is the run's own
abbrev pub WornIsBench : WornRun → Type 0
WornIsBench B =
    (r : Request) (own d : ℕ) (c : Chip) (m : Mem) (buffer counts : List ℕ) → r.part ≤ 5 → length counts ≡ groups_of (facts_of r.part)
    → (B r own d c m buffer counts).left ≡ bench_of r own d c m buffer
