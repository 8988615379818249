-- Loading before and after a conversion gives the same.
-- Assumes nothing.
use Rattle.std.specs.Prelude.{Ok, Err}
use Prim.Native.Nat.{ℕ, ◌≤◌}
use mathlib.Core.Path.{◌≡◌, ◌∙◌, sym, ap, refl, subst}
use mathlib.Core.Bool.{Bool, true, false, not}
use mathlib.Core.List.{List}
use mathlib.Core.Logic.{◌⊎◌, inl, inr}
use native.Mathlib.Omega.{arith}
use lib.ListN.{length}
use lib.Dec.{ltb}
use borrow.Author.Tests.{ltb-false, le-ltb}
use Rattle.parts.specs.declared.Refusal.TheVariants.{NoPart, ShortBuffer, BadImage, CountsLost}
use Rattle.parts.specs.Verdict.{Verdict}
use Rattle.parts.specs.Table.{facts_of, groups_of}
use Rattle.parts.specs.Bytes.{AllBelow, word_end}
use Rattle.parts.specs.Refusals.{claim_of}
use Rattle.parts.proofs.Laws.{passed}
use Rattle.parts.proofs.Claims.{claim_fine, right_fine, sooner_fine}
use Rattle.chip.specs.Memory.{Mem}
use Rattle.chip.specs.Delivery.{standby_of}
use Rattle.image.specs.Layout.{image_of, image_length_of, part_in, formed_of}
use Rattle.image.specs.Promises.{Form}
use Rattle.image.proofs.Form.{part_of_image}
use Rattle.image_worn.specs.Layout.{worn_image_of, worn_length_of, worn_formed_of, counts_in, all_zero_of}
use Rattle.image_worn.specs.Calls.{either_formed_of, judged_worn_of, load_worn_verdict_of, load_worn_by, loading_worn, to_worn_verdict_of, to_worn_of, to_plain_verdict_of, to_plain_of}
use Rattle.image_promises.specs.Form.{made_by, zeros, NoneWorn, Sane, WornForm}
use Rattle.image_promises.specs.Promises.{ConvertsSame}
use Rattle.image_promises.proofs.Words.{zeros_below, told_none}
use Rattle.image_promises.proofs.Image.{part_of_worn}
use Rattle.image_promises.proofs.Read.{is_form, is_worn}
use Rattle.image_promises.proofs.Either.{form_sane, form_part, worn_part, form_counts, either_formed, either_long}
use Rattle.image_promises.proofs.Numbers.{saved_verdict}
use Rattle.image_promises.proofs.Written.{read_worn, read_plain}
use Rattle.image_promises.proofs.Converted.{plain_form, worn_form, counted, there_made, back_made, unworn}

-- two images of one part, both formed, that are read alike
alike : (l k : List ℕ) (enable : ℕ) (m : Mem) (counts : List ℕ)
    → part_in l ≡ part_in k → 6 ≤ length l → 6 ≤ length k → either_formed_of (part_in l) l ≡ true → either_formed_of (part_in k) k ≡ true
    → load_worn_by l m counts (Ok tt) ≡ load_worn_by k m counts (Ok tt)
    → loading_worn l enable m counts ≡ loading_worn k enable m counts
unfolding load_worn_verdict_of judged_worn_of
alike l k enable m counts p a b f g e =
    let n = length m.cells in
    let d = length m.ident in
    let v : load_worn_verdict_of l enable n d (length counts) ≡ load_worn_verdict_of k enable n d (length counts) = rw (le-ltb (length l) 6 a, le-ltb (length k) 6 b, f, g, p) refl in
    by (load_worn_verdict_of l enable n d (length counts)) ∙ ap (load_worn_by k m counts) v
  where
    by : (v : Verdict) → load_worn_by l m counts v ≡ load_worn_by k m counts v
    by (Ok _) = e
    by (Err r) = λ i. record { answer = record { verdict = Err r; part = p i; chip = standby_of (facts_of (p i)) false }; stored = m; counts = counts }

module _ (part : ℕ) (lock : Bool) (m : Mem) (s : Sane part lock m) (enable : ℕ) (old : Mem) (was : List ℕ) where
  both_read : loading_worn (worn_image_of part lock m (zeros part)) enable old was ≡ loading_worn (image_of part lock m) enable old was
  both_read =
      let f : Form (image_of part lock m) ⊎ WornForm (image_of part lock m) = inl (plain_form part lock m s) in
      let g : Form (worn_image_of part lock m (zeros part)) ⊎ WornForm (worn_image_of part lock m (zeros part)) = inr (worn_form part lock m s) in
      alike (worn_image_of part lock m (zeros part)) (image_of part lock m) enable old was (part_of_worn part lock m (zeros part) ∙ sym (part_of_image part lock m))
      (either_long _ g) (either_long _ f) (either_formed _ g) (either_formed _ f)
      (read_worn part lock m s.fits old was (zeros part) (counted part lock m s) (zeros_below (groups_of (facts_of part)) word_end (omega arith))
      ∙ sym (read_plain part lock m s.fits old was))

-- what a conversion that is done has
pub there_had : (l out : List ℕ) → (to_worn_of l out).answer.verdict ≡ Ok tt → Form l × (worn_length_of (facts_of (part_in l)) ≤ length out)
unfolding to_worn_verdict_of
there_had l out h =
    let v = (passed (ltb (length l) 6) _ _ (sym (saved_verdict (worn_length_of (facts_of (part_in l))) _) ∙ h)).1 in
    let a = sooner_fine (claim_of (not (facts_of (part_in l)).known) NoPart) _ v in
    let b = sooner_fine (claim_of (ltb (length out) (worn_length_of (facts_of (part_in l)))) ShortBuffer) (claim_of (not (formed_of (facts_of (part_in l)) l)) BadImage) a.1 in (
      is_form l (right_fine (facts_of (part_in l)).known NoPart a.0) (right_fine (formed_of (facts_of (part_in l)) l) BadImage b.1),
      ltb-false (length out) (worn_length_of (facts_of (part_in l))) (claim_fine _ ShortBuffer b.0),
    )

pub there_converts_same : ConvertsSame to_worn_of loading_worn
there_converts_same l out enable m counts _ h =
    let (f, room) = there_had l out h in
    let r : worn_length_of (facts_of f.part) ≤ length out = subst (λ (x : ℕ). worn_length_of (facts_of x) ≤ length out) (form_part l f) room in
    let s = form_sane l f in
    ap (λ (x : List ℕ). loading_worn (made_by (to_worn_of x out)) enable m counts) f.bytes
    ∙ ap (λ (x : List ℕ). loading_worn x enable m counts) (there_made f.part f.lock f.stored s out r)
    ∙ both_read f.part f.lock f.stored s enable m counts
    ∙ ap (λ (x : List ℕ). loading_worn x enable m counts) (sym f.bytes)

pub record BackHad (l out : List ℕ) : Type 0 where
  pub form : WornForm l
  pub none : NoneWorn form.counts
  pub room : image_length_of (facts_of (part_in l)) ≤ length out

pub back_had : (l out : List ℕ) → AllBelow 256 l → (to_plain_of l out).answer.verdict ≡ Ok tt → BackHad l out
unfolding to_plain_verdict_of
back_had l out b h =
    let v = (passed (ltb (length l) 6) _ _ (sym (saved_verdict (image_length_of (facts_of (part_in l))) _) ∙ h)).1 in
    let a = sooner_fine (claim_of (not (facts_of (part_in l)).known) NoPart) _ v in
    let c = sooner_fine (claim_of (ltb (length out) (image_length_of (facts_of (part_in l)))) ShortBuffer) _ a.1 in
    let d = sooner_fine (claim_of (not (worn_formed_of (facts_of (part_in l)) l)) BadImage) (claim_of (not (all_zero_of (counts_in (facts_of (part_in l)) l))) CountsLost) c.1 in
    let f = is_worn l (right_fine (facts_of (part_in l)).known NoPart a.0) (right_fine (worn_formed_of (facts_of (part_in l)) l) BadImage d.0) b in
    record {
      form = f;
      none = told_none f.counts (ap all_zero_of (sym (form_counts l f)) ∙ right_fine (all_zero_of (counts_in (facts_of (part_in l)) l)) CountsLost d.1);
      room = ltb-false (length out) (image_length_of (facts_of (part_in l))) (claim_fine _ ShortBuffer c.0);
    }

pub back_converts_same : ConvertsSame to_plain_of loading_worn
back_converts_same l out enable m counts b h =
    let k = back_had l out b h in
    let f = k.form in
    let r : image_length_of (facts_of f.part) ≤ length out = subst (λ (x : ℕ). image_length_of (facts_of x) ≤ length out) (worn_part l f) k.room in
    let e = unworn l f k.none in
    ap (λ (x : List ℕ). loading_worn (made_by (to_plain_of x out)) enable m counts) e
    ∙ ap (λ (x : List ℕ). loading_worn x enable m counts) (back_made f.part f.lock f.stored f.sane out r)
    ∙ sym (both_read f.part f.lock f.stored f.sane enable m counts)
    ∙ ap (λ (x : List ℕ). loading_worn x enable m counts) (sym e)
