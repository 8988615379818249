-- The promises leave no choice: two looks that keep them give the same numbers and show the same bytes, refused or not.
-- Looks that do nothing, or show other bytes than the page, break them.
-- Assumes nothing.
use Rattle.std.specs.Prelude.{Err}
use mathlib.Core.Path.{◌≡◌, refl, sym, ◌∙◌}
use mathlib.Core.Bool.{Bool, true, false}
use mathlib.Core.List.{List, []}
use mathlib.Core.Logic.{⊎_elim}
use Prim.Native.Nat.{ℕ, ◌<◌, ◌≤◌}
use native.Mathlib.Nat.{eq-zero-or-pos}
use native.Mathlib.Omega.{arith}
use lib.Dec.{leb}
use lib.ListN.{length, take, drop, replicate, length-replicate}
use borrow.Author.Tests.{leb-true, leb-false}
use Rattle.parts.specs.declared.ArrayAddress.{ArrayAddress}
use Rattle.parts.specs.declared.Refusal.TheVariants.{Beyond}
use Rattle.parts.specs.Table.{facts_of, id_size_of, buffers_right_of}
use Rattle.parts.specs.Refusals.{verdict_number_of}
use Rattle.parts.proofs.Laws.{buffers_right_lem}
use Rattle.page.specs.declared.Place.{Place}
use Rattle.page.specs.declared.Place.TheVariants.{Array, Ident}
use Rattle.page.specs.Look.{look_refusal_of}
use Rattle.page.specs.Promise.{Refusing, Looking, Lengths, RefusesRightly, ShowsPages}
use Rattle.page.proofs.Laws.{lengths_right}
use Rattle.page.proofs.Promise.{refuses_rightly}

-- both ways of a test, each with what the test said
either {ℓ} : {A : Type ℓ} (b : Bool) → (b ≡ true → A) → (b ≡ false → A) → A
either true f g = f refl
either false f g = g refl

lengths_wrong : (part array id : ℕ) → buffers_right_of (facts_of part) array id ≡ false → Lengths part array id → ⊥
lengths_wrong part array id w l =
    let e = buffers_right_lem (facts_of part) array id l.0 l.1 in
    let z : ◌≡◌ {A = ℕ} 0 1 = cc in
    omega arith

module _ (r q : Refusing) (R : RefusesRightly r) (Q : RefusesRightly q) (part array id : ℕ) where
  known_same : part ≤ 5 → Lengths part array id → (place : Place) → verdict_number_of (r part array id place) ≡ verdict_number_of (q part array id place)
  known_same h l (Array a) =
      either (leb (facts_of part).size a.0)
      (λ t. R.beyond part array id a h l (leb-true _ _ t) ∙ sym (Q.beyond part array id a h l (leb-true _ _ t)))
      (λ t. R.in_array part array id a h l (leb-false _ _ t) ∙ sym (Q.in_array part array id a h l (leb-false _ _ t)))
  known_same h l Ident =
      either (facts_of part).ident
      (λ t. R.is_page part array id h l t ∙ sym (Q.is_page part array id h l t))
      (λ t. R.no_page part array id h l t ∙ sym (Q.no_page part array id h l t))

  pub same_number : (place : Place) → verdict_number_of (r part array id place) ≡ verdict_number_of (q part array id place)
  same_number place =
      either (leb part 5)
      (λ t.
      either (buffers_right_of (facts_of part) array id)
      (λ w. known_same (leb-true part 5 t) (lengths_right (facts_of part) array id w) place)
      (λ w.
      let n = lengths_wrong part array id w in
      R.wrong_buffer part array id place (leb-true part 5 t) n ∙ sym (Q.wrong_buffer part array id place (leb-true part 5 t) n)))
      (λ t. R.no_part part array id place (leb-false part 5 t) ∙ sym (Q.no_part part array id place (leb-false part 5 t)))

module _ (r q : Refusing) (R : RefusesRightly r) (Q : RefusesRightly q) (l k : Looking) (L : ShowsPages r l) (K : ShowsPages q k) (part : ℕ) (array id : List ℕ) where
  same : (place : Place) → verdict_number_of (q part (length array) (length id) place) ≡ verdict_number_of (r part (length array) (length id) place)
  same place = same_number q r Q R part (length array) (length id) place

  accepted_same : (place : Place) → verdict_number_of (r part (length array) (length id) place) ≡ 0 → l part array id place ≡ k part array id place
  accepted_same (Array a) h = (L.array part array id a h).part ∙ sym (K.array part array id a (same (Array a) ∙ h)).part
  accepted_same Ident h = (L.ident part array id h).0 ∙ sym (K.ident part array id (same Ident ∙ h)).0

  pub same_bytes : (place : Place) → l part array id place ≡ k part array id place
  same_bytes place =
      ⊎_elim
      (λ z. accepted_same place z)
      (λ p. L.refused part array id place p ∙ sym (K.refused part array id place (rw (same place) p)))
      (eq-zero-or-pos (verdict_number_of (r part (length array) (length id) place)))

-- ---- looks that break the promises

abbrev cells : List ℕ
cells = replicate 2048 0

abbrev ident : List ℕ
ident = replicate 16 0

abbrev at : ℕ → ArrayAddress
at a = record { 0 = a }

pub all_refused : RefusesRightly (λ part array id place. Err Beyond) → ⊥
unfolding facts_of id_size_of
all_refused R = let z : ◌≡◌ {A = ℕ} 7 0 = R.in_array 0 2048 16 (at 0) (omega arith) (refl, refl) (omega arith) in omega arith

-- part 0 with its buffers takes every address of its array
taken : (a : ℕ) → a < 2048 → verdict_number_of (look_refusal_of 0 (length cells) (length ident) (Array (at a))) ≡ 0
unfolding facts_of id_size_of
taken a h = refuses_rightly.in_array 0 (length cells) (length ident) (at a) (omega arith) (length-replicate {A = ℕ} 2048 0, length-replicate {A = ℕ} 16 0) h

pub nothing_shown : ShowsPages look_refusal_of (λ part array id place. []) → ⊥
unfolding facts_of
nothing_shown L = let z : ◌≡◌ {A = ℕ} 0 16 = (L.array 0 cells ident (at 0) (taken 0 (omega arith))).whole in omega arith

-- a page shown from the address on, and not from where it starts
abbrev from_address : Looking
from_address part array id (Array a) = take (facts_of part).page (drop a.0 array)
from_address part array id Ident = id

pub unaligned : ShowsPages look_refusal_of from_address → ⊥
unfolding facts_of
unaligned L = let z : length (take 16 (drop 2047 cells)) ≡ 16 = (L.array 0 cells ident (at 2047) (taken 2047 (omega arith))).whole in omega arith
