-- Ours keep the promises, and whoever else does is ours.
-- Assumes nothing.
use Rattle.std.specs.Prelude.{Ok, Err}
use Prim.Native.Nat.{ℕ, ◌≤◌}
use mathlib.Core.Path.{◌≡◌, ◌∙◌, sym, ap, refl, subst}
use mathlib.Core.Bool.{true}
use mathlib.Core.List.{List}
use mathlib.Core.Logic.{◌⊎◌, inl, inr}
use native.Mathlib.Omega.{arith}
use lib.ListN.{length}
use Rattle.parts.specs.Verdict.{Verdict}
use Rattle.parts.specs.Table.{facts_of, enable_right_of}
use Rattle.parts.specs.Bytes.{AllBelow}
use Rattle.state.specs.declared.Chip.{Chip}
use Rattle.chip.specs.Memory.{Mem}
use Rattle.image.specs.Layout.{image_length_of, part_in}
use Rattle.image.specs.Promises.{BuffersFit, Form}
use Rattle.image_worn.specs.Layout.{worn_length_of, version_in}
use Rattle.image_worn.specs.Calls.{saving_worn, loading_worn, to_worn_of, to_plain_of}
use Rattle.image_promises.specs.Form.{SavingWorn, LoadingWorn, Converting, CountsFit, WornForm}
use Rattle.image_promises.specs.Layout.{LayoutRead, ConvertsThere, ConvertsBack}
use Rattle.image_promises.specs.Promises.{RefusedKeeps}
use Rattle.image_promises.specs.Pinned.{WornSaver, WornLoader, ToWorn, ToPlain, WornOurs, WornPinned}
use Rattle.image_promises.proofs.Either.{form_sane, form_part, form_version, worn_part}
use Rattle.image_promises.proofs.Numbers.{save_worn_numbers, load_worn_numbers}
use Rattle.image_promises.proofs.ToNumbers.{to_worn_numbers, to_plain_numbers}
use Rattle.image_promises.proofs.Written.{holding, layout_written, layout_read, save_keeps, load_keeps, there_keeps, back_keeps}
use Rattle.image_promises.proofs.Kept.{Took, took, accepts_only_worn, plain_loads_zero}
use Rattle.image_promises.proofs.Converted.{unworn, converts_there, converts_back}
use Rattle.image_promises.proofs.Same.{there_had, BackHad, back_had}
use Rattle.image_promises.proofs.One.{one_worn_number}

pub refused_keeps : RefusedKeeps saving_worn loading_worn to_worn_of to_plain_of
refused_keeps = record { saved = save_keeps; loaded = load_keeps; to_worn = there_keeps; to_plain = back_keeps }

pub worn_ours : WornOurs
worn_ours =
    record {
      save = record { numbers = save_worn_numbers; layout = layout_written; keeps = save_keeps };
      load = record { numbers = load_worn_numbers; layout = layout_read; zeros = plain_loads_zero; keeps = load_keeps };
      there = record { numbers = to_worn_numbers; layout = converts_there; keeps = there_keeps };
      back = record { numbers = to_plain_numbers; layout = converts_back; keeps = back_keeps };
    }

-- ---- saving

pinned_save : (S : SavingWorn) → WornSaver S → (part : ℕ) (c : Chip) (m : Mem) (counts out : List ℕ) → S part c m counts out ≡ saving_worn part c m counts out
pinned_save S p part c m counts out =
    let ours = worn_ours.save in
    let e = one_worn_number.save S saving_worn p.numbers ours.numbers part c m counts out in
    by (saving_worn part c m counts out).answer.verdict refl e
  where
    by : (v : Verdict) → (saving_worn part c m counts out).answer.verdict ≡ v → (S part c m counts out).answer.verdict ≡ (saving_worn part c m counts out).answer.verdict
        → S part c m counts out ≡ saving_worn part c m counts out
    by (Ok _) h e = p.layout part c m counts out (e ∙ h) ∙ sym (layout_written part c m counts out h)
    by (Err r) h e = p.keeps part c m counts out r (e ∙ h) ∙ sym (save_keeps part c m counts out r h)

-- ---- loading

module _ (L : LoadingWorn) (p : WornLoader L) (l : List ℕ) (enable : ℕ) (m : Mem) (counts : List ℕ) where
  -- an image of version 2, and one of version 1
  load_fine : Took l enable m counts → Form l ⊎ WornForm l → L l enable m counts ≡ loading_worn l enable m counts
  load_fine t (inr f) =
      let q = worn_part l f in
      let e = subst (λ (x : ℕ). enable_right_of (facts_of x) enable ≡ true) q t.enabled in
      let o = subst (λ (x : ℕ). BuffersFit x m) q t.fits in
      let w = subst (λ (x : ℕ). CountsFit x counts) q t.counted in
      let held : (K : LoadingWorn) → LayoutRead K → K l enable m counts ≡ holding f.part f.lock f.stored f.counts = λ K r. ap (λ (x : List ℕ). K x enable m counts) f.bytes ∙ r f.part enable f.lock f.stored m f.counts counts f.sane f.counted f.below e o w in
      held L p.layout ∙ sym (held loading_worn layout_read)
  load_fine t (inl f) =
      let w : (version_in l ≡ 0x02 → ⊥) = λ e. let z : ◌≡◌ {A = ℕ} 1 2 = sym (form_version l f) ∙ e in omega (arith, z) in
      p.zeros l enable m counts w t.counted ∙ sym (plain_loads_zero l enable m counts w t.counted)

  pinned_load : AllBelow 256 l → L l enable m counts ≡ loading_worn l enable m counts
  pinned_load bytes =
      by (loading_worn l enable m counts).answer.verdict refl (one_worn_number.load L loading_worn p.numbers load_worn_numbers l enable m counts bytes)
    where
      by : (v : Verdict) → (loading_worn l enable m counts).answer.verdict ≡ v → (L l enable m counts).answer.verdict ≡ (loading_worn l enable m counts).answer.verdict
          → L l enable m counts ≡ loading_worn l enable m counts
      by (Ok _) h e = load_fine (took l enable m counts h) (accepts_only_worn l enable m counts bytes h)
      by (Err r) h e = p.keeps l enable m counts r (e ∙ h) ∙ sym (load_keeps l enable m counts r h)

-- ---- conversions

module _ (C : Converting) (l out : List ℕ) where
  there_fine : ConvertsThere C → Form l × (worn_length_of (facts_of (part_in l)) ≤ length out) → C l out ≡ to_worn_of l out
  there_fine p (f, room) =
      let r = subst (λ (x : ℕ). worn_length_of (facts_of x) ≤ length out) (form_part l f) room in
      let s = form_sane l f in
      ap (λ (x : List ℕ). C x out) f.bytes ∙ p f.part f.lock f.stored out s r ∙ sym (converts_there f.part f.lock f.stored out s r)
      ∙ ap (λ (x : List ℕ). to_worn_of x out) (sym f.bytes)

  pinned_there : ToWorn C → C l out ≡ to_worn_of l out
  pinned_there p = by (to_worn_of l out).answer.verdict refl (one_worn_number.there C to_worn_of p.numbers to_worn_numbers l out)
    where
      by : (v : Verdict) → (to_worn_of l out).answer.verdict ≡ v → (C l out).answer.verdict ≡ (to_worn_of l out).answer.verdict → C l out ≡ to_worn_of l out
      by (Ok _) h e = there_fine p.layout (there_had l out h)
      by (Err r) h e = p.keeps l out r (e ∙ h) ∙ sym (there_keeps l out r h)

  back_fine : ConvertsBack C → BackHad l out → C l out ≡ to_plain_of l out
  back_fine p k =
      let f = k.form in
      let r = subst (λ (x : ℕ). image_length_of (facts_of x) ≤ length out) (worn_part l f) k.room in
      let e = unworn l f k.none in
      ap (λ (x : List ℕ). C x out) e ∙ p f.part f.lock f.stored out f.sane r ∙ sym (converts_back f.part f.lock f.stored out f.sane r)
      ∙ ap (λ (x : List ℕ). to_plain_of x out) (sym e)

  pinned_back : ToPlain C → AllBelow 256 l → C l out ≡ to_plain_of l out
  pinned_back p bytes = by (to_plain_of l out).answer.verdict refl (one_worn_number.back C to_plain_of p.numbers to_plain_numbers l out bytes)
    where
      by : (v : Verdict) → (to_plain_of l out).answer.verdict ≡ v → (C l out).answer.verdict ≡ (to_plain_of l out).answer.verdict → C l out ≡ to_plain_of l out
      by (Ok _) h e = back_fine p.layout (back_had l out bytes h)
      by (Err r) h e = p.keeps l out r (e ∙ h) ∙ sym (back_keeps l out r h)

pub worn_pinned : WornPinned
worn_pinned =
    record {
      save = pinned_save;
      load = λ L p l enable m counts b. pinned_load L p l enable m counts b;
      there = λ C p l out. pinned_there C l out p;
      back = λ C p l out b. pinned_back C l out p b;
    }
