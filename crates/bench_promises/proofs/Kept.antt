-- The stored worst of a run of driver and chip is what the walk would find, and any other is refused.
-- Assumes nothing.
use Rattle.std.specs.Prelude.{Ok, Err}
use Prim.Native.Nat.{ℕ}
use mathlib.Core.Path.{◌≡◌, ◌∙◌, refl, ap, subst⁻¹}
use mathlib.Core.List.{List}
use lib.Dec.{ltb}
use Rattle.parts.specs.declared.Refusal.{Refusal}
use Rattle.parts.specs.declared.Refusal.TheVariants.{BadState}
use Rattle.parts.specs.Verdict.{Verdict}
use Rattle.parts.specs.Table.{facts_of}
use Rattle.parts.specs.Refusals.{rank_of, sooner_of}
use Rattle.parts.proofs.Laws.{branch}
use Rattle.state.specs.declared.Chip.{Chip}
use Rattle.chip.specs.Memory.{Mem}
use Rattle.chip.specs.Model.{ours}
use Rattle.wear.specs.declared.Most.{Most}
use Rattle.wear.specs.Report.{most_of}
use Rattle.wear.specs.Wear.{our_counter}
use Rattle.wear_promises.proofs.Kept.{borne, unborne}
use Rattle.driver.specs.declared.Request.{Request}
use Rattle.driver.specs.Machine.{our_driver}
use Rattle.bench.specs.Worn.{worn_verdict, bench_worn_by}
use Rattle.bench.specs.Kept.{BenchKept, bench_kept_verdict, bench_kept_by, bench_kept_of}
use Rattle.bench_promises.specs.Kept.{BenchWorstIsWalk, BenchAsBefore, BenchRefusesUnborne}

module _ (r : Request) (own d : ℕ) (c : Chip) (m : Mem) (buffer counts : List ℕ) (worst : Most) where
  abbrev left : Verdict → BenchKept
  left v = bench_kept_by r own d c m buffer counts worst v

  abbrev judged : Verdict
  judged = worn_verdict r own d c m buffer counts

  kept_by : worst ≡ most_of counts → (v : Verdict) → (left v).worst ≡ most_of (left v).worn.counts
  kept_by e (Ok _) = refl
  kept_by e (Err x) = e

  -- told, and nothing changed
  abbrev Unchanged : Verdict → Type 0
  Unchanged v =
      ((left v).worn.left.report.verdict ≡ v)
      × ((left v).worst ≡ worst)
      × ((left v).worn.counts ≡ counts)
      × ((left v).worn.left.mem ≡ m)
      × ((left v).worn.left.buffer ≡ buffer)
      × ((left v).worn.left.report.chip ≡ c)

  by_refusal : (x : Refusal) → Unchanged (Err x)
  by_refusal x = (refl, refl, refl, refl, refl, refl)

  -- 4, or what goes before it: a refusal
  by_four : (v : Verdict) → Unchanged (sooner_of (Err BadState) v)
  unfolding sooner_of
  by_four (Ok _) = by_refusal BadState
  by_four (Err s) = branch Unchanged (ltb (rank_of s) (rank_of BadState)) (λ _. by_refusal s) (λ _. by_refusal BadState)

  by_unborne : (worst ≡ most_of counts → ⊥) → Unchanged (bench_kept_verdict r own d c m buffer counts worst)
  by_unborne o = subst⁻¹ (λ (v : Verdict). Unchanged (sooner_of v judged)) (unborne counts worst o) (by_four judged)

pub bench_worst_is_walk : BenchWorstIsWalk bench_kept_of
bench_worst_is_walk r own d c m buffer counts worst e = kept_by r own d c m buffer counts worst e (bench_kept_verdict r own d c m buffer counts worst)

pub bench_as_before : BenchAsBefore bench_kept_of
unfolding sooner_of
bench_as_before r own d c m buffer counts worst e =
    ap (λ (v : Verdict). bench_worn_by our_counter our_driver (ours (facts_of r.part) own) r d c m buffer counts (sooner_of v (worn_verdict r own d c m buffer counts))) (borne counts worst e)

pub bench_refuses_unborne : BenchRefusesUnborne bench_kept_of
bench_refuses_unborne =
    record {
      first = λ r own d c m buffer counts worst o.
          (by_unborne r own d c m buffer counts worst o).0 ∙ ap (λ (v : Verdict). sooner_of v (worn_verdict r own d c m buffer counts)) (unborne counts worst o);
      keeps = λ r own d c m buffer counts worst o. let x = by_unborne r own d c m buffer counts worst o in (x.1, x.2, x.3, x.4, x.5);
    }
