-- The refusals of the conversions are given in the order of the documents.
-- Assumes nothing.
use Rattle.std.specs.Prelude.{Err}
use Prim.Native.Nat.{ℕ, ◌<◌, ◌≤◌}
use mathlib.Core.Path.{◌≡◌, refl, ap, ◌∙◌}
use mathlib.Core.Bool.{Bool, true, false, not}
use mathlib.Core.List.{List}
use native.Mathlib.Omega.{arith}
use lib.ListN.{length}
use lib.Dec.{ltb}
use borrow.Author.Tests.{lt-ltb, le-ltb}
use Rattle.parts.specs.declared.Refusal.TheVariants.{NoPart, ShortBuffer, BadImage, CountsLost}
use Rattle.parts.specs.Verdict.{Verdict}
use Rattle.parts.specs.Table.{facts_of}
use Rattle.parts.specs.Bytes.{AllBelow}
use Rattle.parts.specs.Refusals.{rank_of, claim_of, sooner_of}
use Rattle.parts.proofs.Laws.{known, unknown}
use Rattle.parts.proofs.Claims.{Later, later_claim, later_sooner, given_first}
use Rattle.image.specs.Layout.{image_length_of, part_in, formed_of}
use Rattle.image.specs.Promises.{Form}
use Rattle.image_worn.specs.Layout.{worn_length_of, worn_formed_of, counts_in, all_zero_of}
use Rattle.image_worn.specs.Calls.{to_worn_verdict_of, to_worn_of, to_plain_verdict_of, to_plain_of}
use Rattle.image_promises.specs.Form.{WornForm}
use Rattle.image_promises.specs.Numbers.{Roomy, ToWornNumbers, ToPlainNumbers}
use Rattle.image_promises.proofs.Words.{none_told, some_told}
use Rattle.image_promises.proofs.Read.{is_form, is_worn}
use Rattle.image_promises.proofs.Verdicts.{room_for, room_1, room_6, room_0}
use Rattle.image_promises.proofs.Either.{form_formed, form_worn, form_counts}
use Rattle.image_promises.proofs.Numbers.{saved_verdict}

-- ---- from version 1 to version 2

module _ (l out : List ℕ) where
  abbrev plain : Verdict
  plain = claim_of (not (formed_of (facts_of (part_in l)) l)) BadImage

  later_plain : Later (rank_of ShortBuffer) plain
  later_plain = later_claim _ (not (formed_of (facts_of (part_in l)) l)) BadImage (omega arith)

  abbrev there_is : Verdict
  there_is = room_for (facts_of (part_in l)).known (ltb (length out) (worn_length_of (facts_of (part_in l)))) plain later_plain

  there_answered : (v : Verdict) → to_worn_verdict_of l (length out) ≡ v → (to_worn_of l out).answer.verdict ≡ v
  there_answered v e = saved_verdict (worn_length_of (facts_of (part_in l))) (to_worn_verdict_of l (length out)) ∙ e

  there_unnamed : length l < 6 → (to_worn_of l out).answer.verdict ≡ Err BadImage
  unfolding to_worn_verdict_of
  there_unnamed h = there_answered (Err BadImage) (rw (lt-ltb (length l) 6 h) refl)

  there_held : (v : Verdict) → 6 ≤ length l → there_is ≡ v → (to_worn_of l out).answer.verdict ≡ v
  unfolding to_worn_verdict_of
  there_held v h e = there_answered v (rw (le-ltb (length l) 6 h) e)

  there_formed : (b : Bool) → Roomy (worn_length_of (facts_of (part_in l))) l out → formed_of (facts_of (part_in l)) l ≡ b → (to_worn_of l out).answer.verdict ≡ claim_of (not b) BadImage
  there_formed b r e =
      there_held (claim_of (not b) BadImage) r.named
      (room_0 _ _ plain later_plain (known (part_in l) r.known) (le-ltb (length out) (worn_length_of (facts_of (part_in l))) r.room) ∙ ap (λ (x : Bool). claim_of (not x) BadImage) e)

  there_formless : Roomy (worn_length_of (facts_of (part_in l))) l out → (Form l → ⊥) → (to_worn_of l out).answer.verdict ≡ Err BadImage
  there_formless r w = go (formed_of (facts_of (part_in l)) l) refl
    where
      go : (x : Bool) → formed_of (facts_of (part_in l)) l ≡ x → (to_worn_of l out).answer.verdict ≡ Err BadImage
      go true e = absurd (w (is_form l (known (part_in l) r.known) e))
      go false e = there_formed false r e

pub to_worn_numbers : ToWornNumbers to_worn_of
to_worn_numbers l out =
    record {
      no_part_byte = there_unnamed l out;
      no_part = λ h k. there_held l out (Err NoPart) h (room_1 _ (ltb (length out) (worn_length_of (facts_of (part_in l)))) (plain l out) (later_plain l out) (unknown (part_in l) k));
      short_buffer = λ h k s. there_held l out (Err ShortBuffer) h
          (room_6 _ _ (plain l out) (later_plain l out) (known (part_in l) k) (lt-ltb (length out) (worn_length_of (facts_of (part_in l))) s));
      bad_image = there_formless l out;
      none = λ r f. there_formed l out true r (form_formed l f);
    }

-- ---- back

module _ (l out : List ℕ) where
  abbrev lost : Verdict
  lost = claim_of (not (all_zero_of (counts_in (facts_of (part_in l)) l))) CountsLost

  abbrev malformed : Verdict
  malformed = claim_of (not (worn_formed_of (facts_of (part_in l)) l)) BadImage

  later_lost : (k : ℕ) → k ≤ rank_of CountsLost → Later k lost
  later_lost k h = later_claim k (not (all_zero_of (counts_in (facts_of (part_in l)) l))) CountsLost h

  later_malformed : Later (rank_of ShortBuffer) (sooner_of malformed lost)
  later_malformed =
      later_sooner _ malformed lost (later_claim _ (not (worn_formed_of (facts_of (part_in l)) l)) BadImage (omega arith)) (later_lost _ (omega arith))

  abbrev back_is_lem : Verdict
  back_is_lem = room_for (facts_of (part_in l)).known (ltb (length out) (image_length_of (facts_of (part_in l)))) (sooner_of malformed lost) later_malformed

  back_answered : (v : Verdict) → to_plain_verdict_of l (length out) ≡ v → (to_plain_of l out).answer.verdict ≡ v
  back_answered v e = saved_verdict (image_length_of (facts_of (part_in l))) (to_plain_verdict_of l (length out)) ∙ e

  back_unnamed : length l < 6 → (to_plain_of l out).answer.verdict ≡ Err BadImage
  unfolding to_plain_verdict_of
  back_unnamed h = back_answered (Err BadImage) (rw (lt-ltb (length l) 6 h) refl)

  back_held : (v : Verdict) → 6 ≤ length l → back_is_lem ≡ v → (to_plain_of l out).answer.verdict ≡ v
  unfolding to_plain_verdict_of
  back_held v h e = back_answered v (rw (le-ltb (length l) 6 h) e)

  back_roomy : (v : Verdict) → Roomy (image_length_of (facts_of (part_in l))) l out → sooner_of malformed lost ≡ v → (to_plain_of l out).answer.verdict ≡ v
  back_roomy v r e =
      back_held v r.named
      (room_0 _ _ (sooner_of malformed lost) later_malformed (known (part_in l) r.known) (le-ltb (length out) (image_length_of (facts_of (part_in l))) r.room) ∙ e)

  back_formless : AllBelow 256 l → Roomy (image_length_of (facts_of (part_in l))) l out → (WornForm l → ⊥) → (to_plain_of l out).answer.verdict ≡ Err BadImage
  back_formless b r w = go (worn_formed_of (facts_of (part_in l)) l) refl
    where
      go : (x : Bool) → worn_formed_of (facts_of (part_in l)) l ≡ x → (to_plain_of l out).answer.verdict ≡ Err BadImage
      go true e = absurd (w (is_worn l (known (part_in l) r.known) e b))
      go false e =
          back_roomy (Err BadImage) r
          (ap (λ (x : Bool). sooner_of (claim_of (not x) BadImage) lost) e ∙ given_first BadImage lost (later_lost _ (omega arith)))

  -- nothing but the counts is left to judge
  pub back_formed : (z : Bool) → Roomy (image_length_of (facts_of (part_in l))) l out → (f : WornForm l) → all_zero_of f.counts ≡ z → (to_plain_of l out).answer.verdict ≡ claim_of (not z) CountsLost
  unfolding sooner_of
  back_formed z r f e =
      let counts = form_counts l f in
      back_roomy (claim_of (not z) CountsLost) r
      (ap (λ (x : Bool). sooner_of (claim_of (not x) BadImage) lost) (form_worn l f) ∙ ap (λ (k : List ℕ). claim_of (not (all_zero_of k)) CountsLost) counts
      ∙ ap (λ (x : Bool). claim_of (not x) CountsLost) e)

pub to_plain_numbers : ToPlainNumbers to_plain_of
to_plain_numbers l out b =
    record {
      no_part_byte = back_unnamed l out;
      no_part = λ h k. back_held l out (Err NoPart) h (room_1 _ (ltb (length out) (image_length_of (facts_of (part_in l)))) (sooner_of (malformed l out) (lost l out)) (later_malformed l out) (unknown (part_in l) k));
      short_buffer = λ h k s. back_held l out (Err ShortBuffer) h
          (room_6 _ _ (sooner_of (malformed l out) (lost l out)) (later_malformed l out) (known (part_in l) k) (lt-ltb (length out) (image_length_of (facts_of (part_in l))) s));
      bad_image = back_formless l out b;
      counts_lost = λ r f w. back_formed l out false r f (some_told f.counts w);
      none = λ r f z. back_formed l out true r f (none_told f.counts z);
    }
