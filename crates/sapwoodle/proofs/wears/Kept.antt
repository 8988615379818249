-- `wearing` and `bench_wearing` keep what is promised of them.
-- Assumes nothing.
use Rattle.std.specs.Prelude.{Ok, Err}
use Prim.Native.Nat.{ℕ}
use mathlib.Core.Path.{◌≡◌, ◌∙◌, refl, ap}
use mathlib.Core.List.{List}
use native.Mathlib.Omega.{arith}
use Rattle.parts.specs.Verdict.{Verdict}
use Rattle.parts.proofs.Laws.{fine}
use Rattle.chip.specs.Memory.{Mem}
use Rattle.chip.specs.Model.{PowerCut}
use Rattle.wear.specs.declared.Most.{Most}
use Rattle.wear.specs.Report.{most_of}
use Rattle.wear.specs.Calls.{kept_verdict, kept_left_of}
use Rattle.pack_chip.specs.Layout.{unpacked_chip_of}
use Rattle.bench.specs.Kept.{bench_kept_verdict, bench_kept_by}
use Rattle.sapwoodle.specs.Chips.{cut_from}
use Rattle.sapwoodle.specs.Wears.{BytesAfterWear, BytesAfterWearBench, worn_bytes, wearing, bench_worn_bytes, bench_wearing}
use Rattle.sapwoodle.specs.Promises.{WearBytesKeep, BenchWearWalks, BenchWearKeeps}
use Rattle.sapwoodle.proofs.runs.Kept.{kept_same}

module _ (part en : ℕ) (w : PowerCut) (s : List ℕ) (m : Mem) (counts : List ℕ) (worst : Most) (es a : List ℕ) where
  abbrev left : Verdict → BytesAfterWear
  left v = worn_bytes s (kept_left_of part en w (unpacked_chip_of s) m counts worst es a v)

  keeps_by : (v : Verdict) → ((left v).run.number ≡ 0 → ⊥)
      → ((left v).run.state ≡ s) × ((left v).run.stored ≡ m) × ((left v).run.answers ≡ a) × ((left v).run.cycles ≡ 0) × ((left v).counts ≡ counts) × ((left v).worst ≡ worst)
  keeps_by (Ok _) h = absurd (h refl)
  keeps_by (Err r) h = (refl, refl, refl, refl, refl, refl)

  walks_by : (v : Verdict) → (left v).run.number ≡ 0 → (left v).worst ≡ most_of (left v).counts
  walks_by (Ok _) h = refl
  walks_by (Err r) h = let z : Err r ≡ (Ok tt) = fine (Err r) h in let y : ◌≡◌ {A = ℕ} 0 1 = cc in absurd (omega arith)

pub wear_bytes_keep : WearBytesKeep wearing
wear_bytes_keep =
    record {
      refused = λ part en page lock s m counts worst es a h.
          keeps_by part en (cut_from page lock) s m counts worst es a (kept_verdict part en (cut_from page lock) (unpacked_chip_of s) m counts worst es a) h;
      walk = λ part en page lock s m counts worst es a h.
          walks_by part en (cut_from page lock) s m counts worst es a (kept_verdict part en (cut_from page lock) (unpacked_chip_of s) m counts worst es a) h;
    }

pub bench_wear_walks : BenchWearWalks bench_wearing
bench_wear_walks r enable d s m b counts worst e = go (bench_kept_verdict r enable d (unpacked_chip_of s) m b counts worst)
  where
    go : (v : Verdict) → let x = bench_worn_bytes s (bench_kept_by r enable d (unpacked_chip_of s) m b counts worst v) in x.worst ≡ most_of x.counts
    go (Ok _) = refl
    go (Err r) = e

pub bench_wear_keeps : BenchWearKeeps bench_wearing
bench_wear_keeps r enable d s m b counts worst x a h =
    let of : Verdict → BytesAfterWearBench = λ v. bench_worn_bytes s (bench_kept_by r enable d (unpacked_chip_of s) m b counts worst v) in (
      ap (λ (v : Verdict). (of v).bench.number) h,
      ap (λ (v : Verdict). (of v).worst) h,
      ap (λ (v : Verdict). (of v).counts) h,
      ap (λ (v : Verdict). (of v).bench.state) h ∙ kept_same s a,
      ap (λ (v : Verdict). (of v).bench.stored) h,
      ap (λ (v : Verdict). (of v).bench.buffer) h,
    )
