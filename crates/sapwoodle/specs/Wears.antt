-- What the calls that count wear leave for callers that hold bytes and numbers only: the number answered, the results, each lent byte, each
-- count and the worst of them (document 02, §8). A run that counts leaves what the same run without counts does.
-- Assumes nothing.
use Rattle.std.specs.Prelude.{ℕ, List}
use Rattle.parts.specs.Refusals.{verdict_number_of}
use Rattle.chip.specs.Memory.{Mem}
use Rattle.wear.specs.declared.Most.{Most}
use Rattle.wear.specs.declared.Found.{Found}
use Rattle.wear.specs.declared.Reported.{Reported}
use Rattle.wear.specs.Calls.{KeptLeft, JoinLeft, kept_of, found_of, report_of, join_of}
use Rattle.pack_chip.specs.Layout.{unpacked_chip_of}
use Rattle.driver.specs.declared.Request.{Request}
use Rattle.bench.specs.Kept.{BenchKept, bench_kept_of}
use Rattle.sapwoodle.specs.Chips.{BytesAfterRun, cut_from, ran_bytes}
use Rattle.sapwoodle.specs.Runs.{BytesAfterBench, benched_bytes}

-- ---- a list of events

pub record BytesAfterWear : Type 0 where
  pub run : BytesAfterRun
  pub counts : List ℕ
  pub worst : Most

abbrev pub worn_bytes : List ℕ → KeptLeft → BytesAfterWear
worn_bytes s left = record { run = ran_bytes s left.wear.run; counts = left.wear.counts; worst = left.worst }

-- of the part, the enable, the lent page and its flag, the state's bytes, what is stored, the counts and the worst of them, the events and the
-- answer buffer
abbrev pub wearing : ℕ → ℕ → List ℕ → ℕ → List ℕ → Mem → List ℕ → Most → List ℕ → List ℕ → BytesAfterWear
wearing part enable page lock s m counts worst es a = worn_bytes s (kept_of part enable (cut_from page lock) (unpacked_chip_of s) m counts worst es a)

-- ---- the worst, found by a walk

pub record NumbersAfterFind : Type 0 where
  pub number : ℕ
  pub group : ℕ
  pub count : ℕ

abbrev pub found_numbers : Found → NumbersAfterFind
found_numbers f = record { number = verdict_number_of f.verdict; group = f.worst.group; count = f.worst.count }

-- of the part and the counts
abbrev pub finding : ℕ → List ℕ → NumbersAfterFind
finding part counts = found_numbers (found_of part counts)

-- ---- what is told of the counts

pub record NumbersAfterReport : Type 0 where
  pub number : ℕ
  pub total : ℕ
  pub group : ℕ
  pub count : ℕ

abbrev pub reported_numbers : Reported → NumbersAfterReport
reported_numbers r = record { number = verdict_number_of r.verdict; total = r.total; group = r.group; count = r.count }

-- of the part and the counts
abbrev pub reporting : ℕ → List ℕ → NumbersAfterReport
reporting part counts = reported_numbers (report_of part counts)

-- ---- two heaps of traces

pub record CountsAfterJoin : Type 0 where
  pub number : ℕ
  pub counts : List ℕ

abbrev pub joined_counts : JoinLeft → CountsAfterJoin
joined_counts left = record { number = verdict_number_of left.verdict; counts = left.counts }

-- of the part, the counts that go on and the others
abbrev pub joining : ℕ → List ℕ → List ℕ → CountsAfterJoin
joining part counts more = joined_counts (join_of part counts more)

-- ---- driver and chip

pub record BytesAfterWearBench : Type 0 where
  pub bench : BytesAfterBench
  pub counts : List ℕ
  pub worst : Most

abbrev pub bench_worn_bytes : List ℕ → BenchKept → BytesAfterWearBench
bench_worn_bytes s kept = record { bench = benched_bytes s kept.worn.left; counts = kept.worn.counts; worst = kept.worst }

-- of the request, the chip's own enable, d, the state's bytes, what is stored, the buffer, the counts and the worst of them
abbrev pub bench_wearing : Request → ℕ → ℕ → List ℕ → Mem → List ℕ → List ℕ → Most → BytesAfterWearBench
bench_wearing r enable d s m b counts worst = bench_worn_bytes s (bench_kept_of r enable d (unpacked_chip_of s) m b counts worst)
