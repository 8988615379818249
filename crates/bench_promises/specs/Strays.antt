-- Runs that stray from ours on the tape: each breaks a promise, at its field.
-- Assumes nothing.
use Rattle.std.specs.Prelude.{ℕ, ◌+◌, ◌-◌, Bool, cond, [], ◌∷◌, ◌++◌, eqb, ltb}
use Rattle.parts.specs.declared.Facts.{Facts}
use Rattle.chip.specs.Model.{Model, ours}
use Rattle.bench_promises.specs.Calls.{BenchCall, Bench, our_bench, EndsKept, DrivesKept, EndsAtKept, CycleEachKept}
use Rattle.bench_promises.specs.Idle.{claimed}

-- ---- `drives`: ours on a chip at the request's enable; at any other it sends nothing and reports all bytes done

abbrev pub named : BenchCall → Bool
named k = eqb k.own k.request.enable

abbrev pub aloof : Bench
aloof =
    record {
      report = λ k. cond (named k) (our_bench.report k) (claimed k);
      memory = λ k. cond (named k) (our_bench.memory k) k.mem;
      buffer = λ k. cond (named k) (our_bench.buffer k) k.buffer;
      events = λ k. cond (named k) (our_bench.events k) [];
      levels = λ k. cond (named k) (our_bench.levels k) [];
    }

-- ours, of a call with another d
abbrev pub delayed : (BenchCall → ℕ) → Bench
delayed by =
    let j : BenchCall → BenchCall = λ k. record { request = k.request; own = k.own; d = by k; chip = k.chip; mem = k.mem; buffer = k.buffer } in
    record {
      report = λ k. our_bench.report (j k);
      memory = λ k. our_bench.memory (j k);
      buffer = λ k. our_bench.buffer (j k);
      events = λ k. our_bench.events (j k);
      levels = λ k. our_bench.levels (j k);
    }

-- ---- `ends`, its polls: ours, but where the budget allows one poll more each cycle ends one poll late

abbrev pub late_within : Bench
late_within = delayed (λ k. cond (ltb k.d k.request.budget) (k.d + 1) k.d)

-- ---- `ends_at`: ours run with d + 1, so that each cycle ends one poll late; and ours with one end more, after all events

abbrev pub later : Bench
later = delayed (λ k. k.d + 1)

abbrev pub one_end_more : Bench
one_end_more =
    record {
      report = our_bench.report;
      memory = our_bench.memory;
      buffer = our_bench.buffer;
      events = λ k. our_bench.events k ++ (4 ∷ []);
      levels = λ k. our_bench.levels k ++ (2 ∷ []);
    }

-- ---- `cycle_each`: a Stop before all events, so that each Stop that begins a cycle is counted as the end of polls

abbrev pub stop_first : Bench
stop_first =
    record {
      report = our_bench.report;
      memory = our_bench.memory;
      buffer = our_bench.buffer;
      events = λ k. 3 ∷ our_bench.events k;
      levels = λ k. 2 ∷ our_bench.levels k;
    }

-- and a chip, ours but that the Stop at the end of a page's polls begins the cycle: as many in all, each at another place
abbrev pub closing : Facts → ℕ → Model
closing f en =
    record {
      next = (ours f en).next;
      store = (ours f en).store;
      level = (ours f en).level;
      begun = λ c e. cond (eqb e 3) (1 - (ours f en).begun c e) 0;
    }

pub record StraysBreak : Type 0 where
  pub aloof : DrivesKept aloof → ⊥
  pub late_within : EndsKept late_within → ⊥
  pub later : EndsAtKept later → ⊥
  pub one_end_more : EndsAtKept one_end_more → ⊥
  pub stop_first : CycleEachKept stop_first ours → ⊥
  pub closing : CycleEachKept our_bench closing → ⊥
