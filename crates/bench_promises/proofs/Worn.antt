-- The counts of driver and chip together are what the tape says: the tape is the run.
-- Assumes nothing.
use Rattle.std.specs.Prelude.{Ok, Err}
use Prim.Native.Nat.{ℕ, ◌+◌, ◌<◌}
use mathlib.Core.Path.{◌≡◌, ◌∙◌, ap}
use mathlib.Core.List.{List, []}
use native.Mathlib.Omega.{arith}
use lib.ListN.{length, get_or}
use Rattle.parts.specs.declared.Facts.{Facts}
use Rattle.parts.specs.Verdict.{Verdict}
use Rattle.parts.specs.Table.{facts_of, groups_of}
use Rattle.parts.specs.Refusals.{sooner_of}
use Rattle.parts.specs.Bytes.{topped}
use Rattle.parts.proofs.Laws.{known, sound}
use Rattle.chip.specs.Model.{old, ours}
use Rattle.chip_promises.specs.Stops.{watch_at}
use Rattle.wear.specs.Wear.{our_counter}
use Rattle.wear_promises.specs.History.{times_of}
use Rattle.wear_promises.specs.Counts.{Counts}
use Rattle.wear_promises.proofs.Beside.{counts_right_lem}
use Rattle.wear_promises.proofs.Times.{Went, still, went}
use Rattle.wear_promises.proofs.Counts.{meets_at}
use Rattle.driver.specs.Machine.{our_driver}
use Rattle.bench.specs.Together.{enough}
use Rattle.bench.specs.Tape.{tape_events_of}
use Rattle.bench.specs.Calls.{outset_of, bench_by, bench_verdict}
use Rattle.bench.specs.Worn.{worn_verdict, tape_worn_of, bench_worn_by, bench_worn_of}
use Rattle.bench_promises.specs.Worn.{BenchWearIsHistory, WornIsBench}
use Rattle.bench_promises.proofs.Replay.{by}

pub worn_is_bench : WornIsBench bench_worn_of
unfolding sooner_of
worn_is_bench r own d c m buffer counts k h =
    ap (λ (v : Verdict). bench_by our_driver (ours (facts_of r.part) own) r d c m buffer (sooner_of v (bench_verdict r own d c m buffer))) (counts_right_lem (facts_of r.part) (length counts) (known r.part k) h)

pub bench_wear_is_history : BenchWearIsHistory bench_worn_of
unfolding tape_worn_of times_of
bench_wear_is_history r own d c m buffer counts idle held = go (worn_verdict r own d c m buffer counts)
  where
    f : Facts
    f = facts_of r.part

    es : List ℕ
    es = tape_events_of our_driver (ours f own) d enough (outset_of r c m buffer)

    w : Went f (ours f own) c m counts es (watch_at c) []
    w = went f (sound r.part) own old es c m counts (watch_at c) [] held.wide (meets_at f c idle)

    go : (v : Verdict) → let x = bench_worn_by our_counter our_driver (ours f own) r d c m buffer counts v in
        Counts r.part x.counts
        × ((n : ℕ) → n < groups_of f → get_or x.counts n 0 ≡ topped (get_or counts n 0 + times_of f (watch_at c) [] x.left.events x.left.levels n))
    go (Ok _) = (
      record { size = w.size ∙ held.size; wide = w.wide },
      λ n h. w.each n (omega (arith, h, held.size)) ∙ ap (λ (z : List ℕ). topped (get_or counts n 0 + times_of f (watch_at c) [] es z n)) (by r own d c m buffer (Ok tt)).levels,
    )
    go (Err x) = (held, λ n h. still counts n held.wide)
