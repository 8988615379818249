-- Four of the promises of the run leave nothing open: two runs that keep them have the same tape, and answer and leave the same, for every
-- call on every chip. So a run that differs from ours anywhere breaks one of the four.
-- Assumes nothing.
use Rattle.std.specs.Prelude.{◌≡◌}
use Rattle.bench_promises.specs.Calls.{BenchCall, Bench, our_bench, RefusesKept, DrivesKept, EndsAtKept, ReplaysKept, BenchPromises}

-- what a refused call leaves, whose events the others are, where their ends stand, and that the tape is the run
pub record Settled (B : Bench) : Type 0 where
  pub refuses : RefusesKept B
  pub drives : DrivesKept B
  pub ends_at : EndsAtKept B
  pub replays : ReplaysKept B

pub record SameRun (B C : Bench) (k : BenchCall) : Type 0 where
  pub report : B.report k ≡ C.report k
  pub memory : B.memory k ≡ C.memory k
  pub buffer : B.buffer k ≡ C.buffer k
  pub events : B.events k ≡ C.events k
  pub levels : B.levels k ≡ C.levels k

abbrev pub BenchPinned : Type 0
BenchPinned = (B C : Bench) → Settled B → Settled C → (k : BenchCall) → SameRun B C k

-- a run that keeps the promises is ours
abbrev pub OnlyOurs : Type 0
OnlyOurs = (B : Bench) → BenchPromises B → (k : BenchCall) → SameRun B our_bench k
