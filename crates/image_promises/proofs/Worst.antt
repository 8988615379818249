-- The worst that a load answers is what the walk finds, through a save and through both conversions.
-- Assumes nothing.
use Rattle.std.specs.Prelude.{Ok, Err}
use Prim.Native.Nat.{ℕ, zero, suc}
use mathlib.Core.Path.{◌≡◌, ◌∙◌, refl, sym, ap}
use mathlib.Core.List.{List, [], ◌∷◌}
use native.Mathlib.Omega.{arith}
use lib.ListN.{length, replicate}
use borrow.Author.Tests.{le-ltb}
use Rattle.parts.specs.Verdict.{Verdict}
use Rattle.parts.specs.Table.{facts_of, groups_of}
use Rattle.chip.specs.Memory.{Mem}
use Rattle.image.specs.Layout.{part_in}
use Rattle.image.specs.Promises.{Form}
use Rattle.wear.specs.declared.Most.{Most}
use Rattle.wear.specs.Report.{most, most_from, most_of}
use Rattle.wear.specs.Worst.{worst_by}
use Rattle.image_worn.specs.Layout.{counts_in}
use Rattle.image_worn.specs.Calls.{AfterLoadWorn, load_worn_verdict_of, load_worn_by, loading_worn, kept_at, loading_kept, saving_worn, to_worn_of, to_plain_of}
use Rattle.image_promises.specs.Form.{made_by, NoneWorn}
use Rattle.image_promises.specs.Worst.{LoadingKept, LoadAsBefore, LoadFindsIt, SavedWorst, ConvertKeepsIt, WrongWorst}
use Rattle.image_promises.proofs.Kept.{gives_back_worn}
use Rattle.image_promises.proofs.Either.{form_version, form_counts}
use Rattle.image_promises.proofs.Same.{there_had, there_converts_same, back_had, back_converts_same}
use Rattle.image_promises.proofs.Witness.{all, two, fresh, buffer, known, enabled, ranged, fits, counted, below, worn_room}

pub load_as_before : LoadAsBefore loading_kept
load_as_before l enable m counts = refl

pub load_finds_it : LoadFindsIt loading_kept
load_finds_it =
    record {
      found = λ l enable m counts h. ap (worst_by (most 0 0) (loading_worn l enable m counts).counts) h;
      refused = λ l enable m counts r h. ap (worst_by (most 0 0) (loading_worn l enable m counts).counts) h;
    }

pub saved_worst : SavedWorst saving_worn loading_kept
saved_worst part enable c m old counts was out k e i f g n b w r =
    ap (λ (x : AfterLoadWorn). (kept_at x).worst) (gives_back_worn part enable c m old counts was out k e i f g n b w r).1

-- ---- counts that are all zero

most_none : (counts : List ℕ) (n : ℕ) → NoneWorn counts → most_from (most 0 0) n counts ≡ most 0 0
most_none [] n h = refl
most_none (x ∷ xs) n h = rw (le-ltb 0 x (omega (arith, h 0))) (most_none xs (suc n) (λ i. h (suc i)))

none_zeros : (k : ℕ) → NoneWorn (replicate k 0)
none_zeros zero n = refl
none_zeros (suc k) zero = refl
none_zeros (suc k) (suc n) = none_zeros k n

none_loaded : (l : List ℕ) (enable : ℕ) (m : Mem) (counts : List ℕ) → NoneWorn (counts_in (facts_of (part_in l)) l) → (loading_kept l enable m counts).worst ≡ most 0 0
none_loaded l enable m counts h = go (load_worn_verdict_of l enable (length m.cells) (length m.ident) (length counts))
  where
    go : (v : Verdict) → (kept_at (load_worn_by l m counts v)).worst ≡ most 0 0
    go (Ok _) = most_none (counts_in (facts_of (part_in l)) l) 0 h
    go (Err r) = refl

plain_none : (l : List ℕ) → Form l → NoneWorn (counts_in (facts_of (part_in l)) l)
unfolding counts_in
plain_none l f = rw (form_version l f) (none_zeros (groups_of (facts_of (part_in l))))

pub there_keeps_it : ConvertKeepsIt to_worn_of loading_kept
there_keeps_it l out enable m counts b h =
    let z = none_loaded l enable m counts (plain_none l (there_had l out h).0) in
    (z, ap (λ (x : AfterLoadWorn). (kept_at x).worst) (there_converts_same l out enable m counts b h) ∙ z)

pub back_keeps_it : ConvertKeepsIt to_plain_of loading_kept
back_keeps_it l out enable m counts b h =
    let had = back_had l out b h in
    let z = none_loaded l enable m counts (rw (form_counts l had.form) had.none) in
    (z, ap (λ (x : AfterLoadWorn). (kept_at x).worst) (back_converts_same l out enable m counts b h) ∙ z)

-- ---- wrong ones: part 0, whose group 0 has one in the image and none before

abbrev saved : List ℕ
saved = made_by (saving_worn 0 fresh (all 0) (two 1 0) buffer)

back : (loading_worn saved 0 (all 0) (two 0 0)).answer.verdict ≡ Ok tt
back = ap (λ (x : AfterLoadWorn). x.answer.verdict) (gives_back_worn 0 0 fresh (all 0) (all 0) (two 1 0) (two 0 0) buffer known enabled ranged (fits 0) (fits 0) (counted 1 0) (below 1 0 (omega arith) (omega arith)) (counted 0 0) worn_room).1

module _ (load : LoadingKept) (before : LoadAsBefore load) (finds : LoadFindsIt load) where
  taken : (load saved 0 (all 0) (two 0 0)).load.answer.verdict ≡ Ok tt
  taken = ap (λ (x : AfterLoadWorn). x.answer.verdict) (before saved 0 (all 0) (two 0 0)) ∙ back

  one : (load saved 0 (all 0) (two 0 0)).worst ≡ most_of (two 1 0)
  one =
      finds.found saved 0 (all 0) (two 0 0) taken ∙ ap (λ (x : AfterLoadWorn). most_of x.counts) (before saved 0 (all 0) (two 0 0))
      ∙ ap (λ (x : AfterLoadWorn). most_of x.counts) (gives_back_worn 0 0 fresh (all 0) (all 0) (two 1 0) (two 0 0) buffer known enabled ranged (fits 0) (fits 0) (counted 1 0) (below 1 0 (omega arith) (omega arith)) (counted 0 0) worn_room).1

  apart : (load saved 0 (all 0) (two 0 0)).worst ≡ most 0 0 → ⊥
  apart h = let z : ◌≡◌ {A = ℕ} 0 1 = ap (λ (x : Most). x.count) (sym h ∙ one) in omega arith

pub wrong_worst : WrongWorst
wrong_worst =
    record {
      zero_breaks = λ load b f h. apart load b f (h saved 0 (all 0) (two 0 0) (taken load b f));
      old_breaks = λ load b f h. apart load b f (h saved 0 (all 0) (two 0 0) (taken load b f));
    }
