-- What a run of driver and chip leaves for callers that hold bytes only: the number answered, and each lent byte.
-- Assumes nothing.
use Rattle.std.specs.Prelude.{ℕ, cond, List}
use Rattle.parts.specs.Refusals.{verdict_number_of, verdict_place_of}
use Rattle.state.specs.declared.Chip.{Chip}
use Rattle.chip.specs.Memory.{Mem}
use Rattle.pack_chip.specs.Layout.{pack_chip_into, holds_chip_of, unpacked_chip_of}
use Rattle.driver.specs.declared.Request.{Request}
use Rattle.bench.specs.Calls.{BenchLeft, bench_of}

pub record BytesAfterBench : Type 0 where
  pub number : ℕ
  pub place : ℕ
  pub polls : ℕ
  pub bytes : ℕ
  pub cycles : ℕ
  pub clocks : ℕ
  pub state : List ℕ
  pub stored : Mem
  pub buffer : List ℕ

-- bytes that hold no state stay as they were; a refused call leaves its chip as it was, and so its bytes
unfoldable pub chip_bytes_after_bench : List ℕ → Chip → List ℕ
chip_bytes_after_bench s c = cond (holds_chip_of s) (pack_chip_into s c) s

-- of the state's bytes, and of what the run answers and leaves
abbrev pub benched_bytes : List ℕ → BenchLeft → BytesAfterBench
benched_bytes s left =
    record {
      number = verdict_number_of left.report.verdict;
      place = verdict_place_of left.report.verdict;
      polls = left.report.polls;
      bytes = left.report.bytes;
      cycles = left.report.cycles;
      clocks = left.report.clocks;
      state = chip_bytes_after_bench s left.report.chip;
      stored = left.mem;
      buffer = left.buffer;
    }

-- of the request, the chip's own enable, d, the state's bytes, what is stored and the buffer
abbrev pub benching : Request → ℕ → ℕ → List ℕ → Mem → List ℕ → BytesAfterBench
benching r enable d s m b = benched_bytes s (bench_of r enable d (unpacked_chip_of s) m b)
