-- Which number a run of driver and chip is given before it begins, by plain conditions, each with all earlier ones excluded (document 01,
-- 'Refusal numbers': 1 2 3 4 6 7 8), and 0 where none applies. Said of any function that judges a run, so that another order breaks it.
-- Assumes nothing.
use Rattle.std.specs.Prelude.{ℕ, ◌+◌, ◌<◌, ◌≤◌, ◌≡◌, true, false, cond, ◌⊎◌, length}
use Rattle.parts.specs.Verdict.{Verdict}
use Rattle.parts.specs.Table.{facts_of}
use Rattle.parts.specs.Refusals.{verdict_number_of, is_fine}
use Rattle.state.specs.Range.{in_range_of}
use Rattle.chip_promises.specs.Numbers.{Lent, Named, Ready}
use Rattle.driver.specs.declared.Request.{Request}
use Rattle.driver.specs.Request.{from_of, room_of, there_of, judge_of}
use Rattle.driver_promises.specs.Numbers.{Enabled, Inside}
use Rattle.bench_promises.specs.Calls.{BenchCall, verdict_of}

-- what refuses a call before it begins
abbrev pub Judge : Type 0
Judge = BenchCall → Verdict

-- 1 to 4 do not apply to the request's enable and to the chip
pub record Placed (k : BenchCall) : Type 0 where
  pub enabled : Enabled k.request
  pub ready : Ready k.request.part k.own k.chip k.mem

-- nor do 4 and 6 to the driver's buffer: data of the length that is asked for, or room for what is read
pub record Filled (k : BenchCall) : Type 0 where
  pub full : k.request.reads ≡ false → length k.buffer ≡ k.request.length
  pub room : k.request.reads ≡ true → k.request.length ≤ length k.buffer

module _ (judge : Judge) (k : BenchCall) where
  abbrev bench_number : ℕ
  bench_number = verdict_number_of (judge k)

  abbrev r : Request
  r = k.request

  pub record BenchNumber : Type 0 where
    pub no_part : 5 < r.part → bench_number ≡ 1
    -- the one that the driver selects by, or the chip's own
    pub wrong_enable : r.part ≤ 5 → ((facts_of r.part).enables ≤ r.enable) ⊎ ((facts_of r.part).enables ≤ k.own) → bench_number ≡ 2
    pub wrong_buffer : Enabled r → k.own < (facts_of r.part).enables → (Lent r.part k.mem → ⊥) → bench_number ≡ 3
    pub bad_state : Enabled r → Named r.part k.own k.mem → in_range_of (facts_of r.part) k.chip ≡ false → bench_number ≡ 4
    pub other_length : Placed k → r.reads ≡ false → (length k.buffer ≡ r.length → ⊥) → bench_number ≡ 4
    pub short_buffer : Placed k → r.reads ≡ true → length k.buffer < r.length → bench_number ≡ 6
    pub no_page : Placed k → Filled k → there_of (facts_of r.part) r.place ≡ false → bench_number ≡ 7
    pub beyond : Placed k → Filled k → there_of (facts_of r.part) r.place ≡ true
        → room_of (facts_of r.part) r.place < from_of r.place + r.length → bench_number ≡ 7
    pub bad_budget : Placed k → Filled k → Inside r → r.reads ≡ false → (r.budget < 1) ⊎ (1000 < r.budget) → bench_number ≡ 8
    -- "d (1 to 65,535)"
    pub bad_delay : Placed k → Filled k → Inside r → (k.d < 1) ⊎ (65535 < k.d) → bench_number ≡ 8
    pub none : Placed k → Filled k → Inside r → (r.reads ≡ false → (1 ≤ r.budget) × (r.budget ≤ 1000)) → 1 ≤ k.d → k.d ≤ 65535 → bench_number ≡ 0

abbrev pub BenchNumbers : Judge → Type 0
BenchNumbers judge = (k : BenchCall) → BenchNumber judge k

-- nothing is left open: two that keep it give one number, for every call
abbrev pub OneBenchNumber : Type 0
OneBenchNumber = (judge other : Judge) → BenchNumbers judge → BenchNumbers other → (k : BenchCall) → verdict_number_of (judge k) ≡ verdict_number_of (other k)

-- ---- another order: all that the driver refuses goes before all that the chip refuses

abbrev pub forward : Judge
forward k = cond (is_fine (judge_of k.request)) (verdict_of k) (judge_of k.request)

abbrev pub ForwardBreaks : Type 0
ForwardBreaks = BenchNumbers forward → ⊥
