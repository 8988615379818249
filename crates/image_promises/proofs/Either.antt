-- What has one of the two forms is told to be formed, and nothing else is.
-- Assumes nothing.
use Prim.Native.Nat.{ℕ, ◌≤◌}
use mathlib.Core.Path.{◌≡◌, ◌∙◌, sym, ap, refl}
use mathlib.Core.Bool.{Bool, true, false, cond}
use mathlib.Core.List.{List}
use mathlib.Core.Logic.{◌⊎◌, inl, inr}
use native.Mathlib.Omega.{arith}
use lib.ListN.{length}
use Rattle.parts.specs.Table.{facts_of}
use Rattle.parts.specs.Bytes.{AllBelow}
use Rattle.image.specs.Layout.{image_length_of, part_in, formed_of}
use Rattle.image.specs.Promises.{Form}
use Rattle.image.proofs.Form.{part_of_image, length_of_image}
use Rattle.image_worn.specs.Layout.{worn_length_of, worn_formed_of, version_in, counts_in}
use Rattle.image_worn.specs.Calls.{either_formed_of}
use Rattle.image_promises.specs.Form.{Sane, WornForm}
use Rattle.image_promises.proofs.Form.{other_version, formed_version}
use Rattle.image_promises.proofs.Image.{part_of_worn, version_of_worn, length_of_worn, counts_of_worn, plain_formed, worn_formed}
use Rattle.image_promises.proofs.Read.{is_form, is_worn}

-- ---- version 1

module _ (l : List ℕ) (f : Form l) where
  pub form_sane : Sane f.part f.lock f.stored
  form_sane = record { known = f.known; fits = f.fits; lockable = f.lockable }

  pub form_part : part_in l ≡ f.part
  form_part = ap part_in f.bytes ∙ part_of_image f.part f.lock f.stored

  form_known : (facts_of (part_in l)).known ≡ true
  form_known = ap (λ (p : ℕ). (facts_of p).known) form_part ∙ f.known

  pub form_formed : formed_of (facts_of (part_in l)) l ≡ true
  form_formed =
      (λ i. formed_of (facts_of (form_part i)) (f.bytes i)) ∙ plain_formed f.part f.lock f.stored form_sane

  pub form_long : length l ≡ image_length_of (facts_of (part_in l))
  form_long = ap length f.bytes ∙ length_of_image f.part f.lock f.stored f.fits ∙ ap (λ (p : ℕ). image_length_of (facts_of p)) (sym form_part)

  pub form_version : version_in l ≡ 0x01
  form_version = formed_version 0x01 (image_length_of (facts_of (part_in l))) (facts_of (part_in l)) l form_formed

-- ---- version 2

module _ (l : List ℕ) (f : WornForm l) where
  pub worn_part : part_in l ≡ f.part
  worn_part = ap part_in f.bytes ∙ part_of_worn f.part f.lock f.stored f.counts

  pub worn_known : (facts_of (part_in l)).known ≡ true
  worn_known = ap (λ (p : ℕ). (facts_of p).known) worn_part ∙ f.sane.known

  pub form_worn : worn_formed_of (facts_of (part_in l)) l ≡ true
  form_worn =
      (λ i. worn_formed_of (facts_of (worn_part i)) (f.bytes i)) ∙ worn_formed f.part f.lock f.stored f.sane f.counts f.counted

  pub worn_long : length l ≡ worn_length_of (facts_of (part_in l))
  worn_long =
      ap length f.bytes ∙ length_of_worn f.part f.lock f.stored f.counts f.sane.fits f.counted
      ∙ ap (λ (p : ℕ). worn_length_of (facts_of p)) (sym worn_part)

  pub worn_version : version_in l ≡ 0x02
  worn_version = ap version_in f.bytes ∙ version_of_worn f.part f.lock f.stored f.counts

  pub form_counts : counts_in (facts_of (part_in l)) l ≡ f.counts
  form_counts =
      (λ i. counts_in (facts_of (worn_part i)) (f.bytes i)) ∙ counts_of_worn f.part f.lock f.stored f.counts f.sane.fits f.counted f.below

  -- and not of version 1
  pub worn_other : formed_of (facts_of (part_in l)) l ≡ false
  worn_other =
      other_version 0x01 (image_length_of (facts_of (part_in l))) (facts_of (part_in l)) l (λ e. let z : ◌≡◌ {A = ℕ} 2 1 = sym worn_version ∙ e in omega (arith, z))

-- ---- either

pub either_formed : (l : List ℕ) → Form l ⊎ WornForm l → either_formed_of (part_in l) l ≡ true
unfolding either_formed_of
either_formed l (inl f) = rw (form_formed l f) refl
either_formed l (inr f) = rw (worn_other l f) (form_worn l f)

pub either_known : (l : List ℕ) → Form l ⊎ WornForm l → (facts_of (part_in l)).known ≡ true
either_known l (inl f) = form_known l f
either_known l (inr f) = worn_known l f

pub either_form : (l : List ℕ) → AllBelow 256 l → (facts_of (part_in l)).known ≡ true → either_formed_of (part_in l) l ≡ true → Form l ⊎ WornForm l
unfolding either_formed_of
either_form l b k h = go (formed_of (facts_of (part_in l)) l) refl h
  where
    go : (x : Bool) → formed_of (facts_of (part_in l)) l ≡ x → cond x true (worn_formed_of (facts_of (part_in l)) l) ≡ true → Form l ⊎ WornForm l
    go true e w = inl (is_form l k e)
    go false e w = inr (is_worn l k w b)

-- both hold their part byte
pub either_long : (l : List ℕ) → Form l ⊎ WornForm l → 6 ≤ length l
unfolding image_length_of worn_length_of
either_long l (inl f) = omega (arith, form_long l f)
either_long l (inr f) = omega (arith, worn_long l f)
