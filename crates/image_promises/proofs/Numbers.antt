-- The refusals are given in the order of the documents.
-- Assumes nothing.
use Rattle.std.specs.Prelude.{Ok, Err}
use Prim.Native.Nat.{ℕ, ◌<◌, ◌≤◌}
use mathlib.Core.Path.{◌≡◌, refl, ap, ◌∙◌}
use mathlib.Core.Bool.{Bool, true, false, not}
use mathlib.Core.List.{List}
use mathlib.Core.Logic.{◌⊎◌}
use native.Mathlib.Omega.{arith}
use lib.ListN.{length}
use lib.Dec.{ltb}
use borrow.Author.Tests.{lt-ltb, le-ltb}
use Rattle.parts.specs.declared.Refusal.TheVariants.{NoPart, WrongEnable, WrongBuffer, BadState, ShortBuffer, BadImage}
use Rattle.parts.specs.Verdict.{Verdict}
use Rattle.parts.specs.Table.{facts_of, enable_right_of}
use Rattle.parts.specs.Bytes.{AllBelow}
use Rattle.parts.specs.Refusals.{rank_of, claim_of, sooner_of, lent_verdict_of}
use Rattle.parts.proofs.Laws.{known, unknown}
use Rattle.parts.proofs.Claims.{Later, later_claim, later_sooner, given_first}
use Rattle.state.specs.declared.Chip.{Chip}
use Rattle.state.specs.Range.{in_range_of}
use Rattle.chip.specs.Memory.{Mem}
use Rattle.image.specs.Layout.{image_length_of, part_in}
use Rattle.image.specs.Calls.{saved_by, save_verdict_of}
use Rattle.image.specs.Promises.{Form}
use Rattle.image.proofs.Kept.{load_verdict}
use Rattle.wear.specs.Calls.{counts_verdict_of}
use Rattle.image_worn.specs.Layout.{worn_length_of}
use Rattle.image_worn.specs.Calls.{save_worn_verdict_of, saving_worn, either_formed_of, judged_worn_of, load_worn_verdict_of, loading_worn}
use Rattle.image_promises.specs.Form.{WornForm}
use Rattle.image_promises.specs.Numbers.{LentFit, Savable, SaveWornNumbers, Openable, LoadWornNumbers}
use Rattle.image_promises.proofs.Verdicts.{sooner_either, lent_all, lent_1, lent_2, lent_3, lent_0, longer}
use Rattle.image_promises.proofs.Either.{either_formed, either_form}

-- the verdict that is answered is the one that was judged
pub saved_verdict : (n : ℕ) (v : Verdict) → (saved_by n v).verdict ≡ v
saved_verdict n (Ok _) = refl
saved_verdict n (Err r) = refl

-- ---- what is lent

module _ (part : ℕ) (m : Mem) (counts : List ℕ) where
  abbrev lent : Verdict → Verdict
  lent = lent_all (facts_of part) (length m.cells) (length m.ident) (length counts)

  lent_fits : (v : Verdict) → part ≤ 5 → LentFit part m counts → lent v ≡ v
  lent_fits v k t = lent_0 (facts_of part) (length m.cells) (length m.ident) (length counts) (known part k) v t.0.cells t.0.ident t.1

  lent_wrong : (v : Verdict) → Later (rank_of WrongBuffer) v → part ≤ 5 → (LentFit part m counts → ⊥) → lent v ≡ Err WrongBuffer
  lent_wrong v h k w =
      lent_3 (facts_of part) (length m.cells) (length m.ident) (length counts) (known part k) v h (λ p. w (record { cells = p.0; ident = p.1 }, p.2))

-- ---- saving

module _ (part : ℕ) (c : Chip) (m : Mem) (counts out : List ℕ) where
  abbrev state : Verdict
  state = claim_of (not (in_range_of (facts_of part) c)) BadState

  abbrev short : Verdict
  short = claim_of (ltb (length out) (worn_length_of (facts_of part))) ShortBuffer

  save_is : save_worn_verdict_of part c (length m.cells) (length m.ident) (length counts) (length out) ≡ lent part m counts (sooner_of state short)
  unfolding save_worn_verdict_of save_verdict_of worn_length_of
  save_is =
      let first = claim_of (ltb (length out) (image_length_of (facts_of part))) ShortBuffer in
      let buffers = lent_verdict_of (facts_of part) (length m.cells) (length m.ident) in
      ap (sooner_of (counts_verdict_of (facts_of part) (length counts)))
      (sooner_either buffers (sooner_of state first) short ∙ ap (sooner_of buffers) (sooner_either state first short ∙ ap (sooner_of state) (longer (length out) (image_length_of (facts_of part)) (worn_length_of (facts_of part)) (omega arith))))

  saved : (v : Verdict) → lent part m counts (sooner_of state short) ≡ v → (saving_worn part c m counts out).answer.verdict ≡ v
  saved v e =
      saved_verdict (worn_length_of (facts_of part)) (save_worn_verdict_of part c (length m.cells) (length m.ident) (length counts) (length out)) ∙ save_is ∙ e

  later_short : (k : ℕ) → k ≤ rank_of ShortBuffer → Later k short
  later_short k h = later_claim k (ltb (length out) (worn_length_of (facts_of part))) ShortBuffer h

  later_state : (k : ℕ) → k ≤ rank_of BadState → Later k (sooner_of state short)
  later_state k h = later_sooner k state short (later_claim k (not (in_range_of (facts_of part) c)) BadState h) (later_short k (omega (arith, h)))

  -- nothing but the room is left to judge
  roomy : (b : Bool) → Savable part c m counts → ltb (length out) (worn_length_of (facts_of part)) ≡ b
      → lent part m counts (sooner_of state short) ≡ claim_of b ShortBuffer
  unfolding sooner_of
  roomy b s e = lent_fits part m counts (sooner_of state short) s.known s.fits ∙ rw (s.ranged, e) refl

pub save_worn_numbers : SaveWornNumbers saving_worn
unfolding sooner_of
save_worn_numbers part c m counts out =
    record {
      no_part = λ h. saved part c m counts out (Err NoPart)
          (lent_1 (facts_of part) (length m.cells) (length m.ident) (length counts) _ (unknown part h) (later_state part c m counts out _ (omega arith)));
      wrong_buffer = λ k w. saved part c m counts out (Err WrongBuffer) (lent_wrong part m counts _ (later_state part c m counts out _ (omega arith)) k w);
      bad_state = λ k t o. saved part c m counts out (Err BadState)
          (lent_fits part m counts _ k t ∙ ap (λ (b : Bool). sooner_of (claim_of (not b) BadState) (short part c m counts out)) o
          ∙ given_first BadState (short part c m counts out) (later_short part c m counts out _ (omega arith)));
      short_buffer = λ s h. saved part c m counts out (Err ShortBuffer) (roomy part c m counts out true s (lt-ltb (length out) (worn_length_of (facts_of part)) h));
      none = λ s h. saved part c m counts out (Ok tt) (roomy part c m counts out false s (le-ltb (length out) (worn_length_of (facts_of part)) h));
    }

-- ---- loading

module _ (l : List ℕ) (en : ℕ) (m : Mem) (counts : List ℕ) where
  abbrev enable : Verdict
  enable = claim_of (not (enable_right_of (facts_of (part_in l)) en)) WrongEnable

  abbrev form : Verdict
  form = claim_of (not (either_formed_of (part_in l) l)) BadImage

  answered : (v : Verdict) → load_worn_verdict_of l en (length m.cells) (length m.ident) (length counts) ≡ v → (loading_worn l en m counts).answer.verdict ≡ v
  answered v h = load_verdict l (load_worn_verdict_of l en (length m.cells) (length m.ident) (length counts)) ∙ h

  unnamed : length l < 6 → (loading_worn l en m counts).answer.verdict ≡ Err BadImage
  unfolding load_worn_verdict_of
  unnamed h = answered (Err BadImage) (rw (lt-ltb (length l) 6 h) refl)

  held : (v : Verdict) → 6 ≤ length l → lent (part_in l) m counts (sooner_of enable form) ≡ v → (loading_worn l en m counts).answer.verdict ≡ v
  unfolding load_worn_verdict_of judged_worn_of
  held v h e = answered v (rw (le-ltb (length l) 6 h) e)

  later_form : (k : ℕ) → k ≤ rank_of BadImage → Later k form
  later_form k h = later_claim k (not (either_formed_of (part_in l) l)) BadImage h

  later_enable : (k : ℕ) → k ≤ rank_of WrongEnable → Later k (sooner_of enable form)
  later_enable k h = later_sooner k enable form (later_claim k (not (enable_right_of (facts_of (part_in l)) en)) WrongEnable h) (later_form k (omega (arith, h)))

  no_enable : (facts_of (part_in l)).enables ≤ en → sooner_of enable form ≡ Err WrongEnable
  unfolding enable_right_of
  no_enable o =
      ap (λ (b : Bool). sooner_of (claim_of (not b) WrongEnable) form) (le-ltb en (facts_of (part_in l)).enables o)
      ∙ given_first WrongEnable form (later_form (rank_of WrongEnable) (omega arith))

  enabled : en < (facts_of (part_in l)).enables → sooner_of enable form ≡ form
  unfolding enable_right_of sooner_of
  enabled h = ap (λ (b : Bool). sooner_of (claim_of (not b) WrongEnable) form) (lt-ltb en (facts_of (part_in l)).enables h)

  -- nothing but the form is left to judge
  pub opened : (b : Bool) → Openable l en m counts → either_formed_of (part_in l) l ≡ b → (loading_worn l en m counts).answer.verdict ≡ claim_of (not b) BadImage
  opened b o e =
      held (claim_of (not b) BadImage) o.named
      (lent_fits (part_in l) m counts (sooner_of enable form) o.known o.fits ∙ enabled o.enabled ∙ ap (λ (x : Bool). claim_of (not x) BadImage) e)

  formless : AllBelow 256 l → Openable l en m counts → (Form l ⊎ WornForm l → ⊥) → (loading_worn l en m counts).answer.verdict ≡ Err BadImage
  formless b o w = go (either_formed_of (part_in l) l) refl
    where
      go : (x : Bool) → either_formed_of (part_in l) l ≡ x → (loading_worn l en m counts).answer.verdict ≡ Err BadImage
      go true e = absurd (w (either_form l b (known (part_in l) o.known) e))
      go false e = opened false o e

pub load_worn_numbers : LoadWornNumbers loading_worn
load_worn_numbers l en m counts b =
    record {
      no_part_byte = unnamed l en m counts;
      no_part = λ h k. held l en m counts (Err NoPart) h
          (lent_1 (facts_of (part_in l)) (length m.cells) (length m.ident) (length counts) _ (unknown (part_in l) k) (later_enable l en m counts _ (omega arith)));
      wrong_enable = λ h k o. held l en m counts (Err WrongEnable) h
          (ap (lent (part_in l) m counts) (no_enable l en m counts o)
          ∙ lent_2 (facts_of (part_in l)) (length m.cells) (length m.ident) (length counts) (known (part_in l) k));
      wrong_buffer = λ h k e w. held l en m counts (Err WrongBuffer) h
          (ap (lent (part_in l) m counts) (enabled l en m counts e) ∙ lent_wrong (part_in l) m counts _ (later_form l en m counts _ (omega arith)) k w);
      bad_image = formless l en m counts b;
      none = λ o f. opened l en m counts true o (either_formed l f);
    }
