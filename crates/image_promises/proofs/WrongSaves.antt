-- Savers of another layout or length break the layout; and all wrong ways together.
-- Assumes nothing.
use Rattle.std.specs.Prelude.{Ok}
use Prim.Native.Nat.{ℕ, ◌-◌}
use mathlib.Core.Path.{◌≡◌, ◌∙◌, sym, ap, refl}
use mathlib.Core.Bool.{Bool}
use mathlib.Core.List.{List, ◌∷◌, ◌++◌}
use native.Mathlib.Omega.{arith}
use lib.ListN.{length, get_or, drop, replicate, length-append}
use lib.Seq.{drop-append-le}
use Rattle.parts.specs.declared.Facts.{Facts}
use Rattle.parts.specs.Table.{facts_of}
use Rattle.parts.specs.Bytes.{words_of}
use Rattle.chip.specs.Memory.{Mem}
use Rattle.image.specs.Layout.{head_of}
use Rattle.image.specs.Calls.{AfterSave}
use Rattle.image_worn.specs.Layout.{worn_image_of, worn_length_of}
use Rattle.image_worn.specs.Calls.{save_worn_verdict_of}
use Rattle.image_promises.specs.Layout.{LayoutWritten}
use Rattle.image_promises.specs.Wrong.{saves_as, low_words_of, low_first, counts_first, four_short, WrongWorn}
use Rattle.image_promises.proofs.Places.{behind}
use Rattle.image_promises.proofs.Numbers.{saved_verdict, save_worn_numbers}
use Rattle.image_promises.proofs.Witness.{all, two, fresh, buffer, ranged, fits, counted, worn_length_lem, worn_room}
use Rattle.image_promises.proofs.Wrong.{drops_breaks, first_breaks, low_breaks, lost_first_breaks, refuses_back_breaks, refuses_there_breaks, leaves_breaks, short_read_breaks, takes_worn_breaks, takes_worn_breaks_old, zeros_breaks}

-- ---- a save of part 0 that is not refused, with other bytes or of another length

module _ (bytes : ℕ → Bool → Mem → List ℕ → List ℕ) (long : Facts → ℕ) (v x : ℕ) where
  abbrev lock : Bool
  lock = fresh.line.core.locked

  judged : save_worn_verdict_of 0 fresh (length (all v).cells) (length (all v).ident) (length (two x 0)) (length buffer) ≡ Ok tt
  judged =
      sym (saved_verdict (worn_length_of (facts_of 0)) (save_worn_verdict_of 0 fresh (length (all v).cells) (length (all v).ident) (length (two x 0)) (length buffer)))
      ∙ (save_worn_numbers 0 fresh (all v) (two x 0) buffer).none record { known = omega arith; fits = (fits v, counted x 0); ranged = ranged } worn_room

  -- what it leaves would be what ours leaves
  same : LayoutWritten (saves_as bytes long) → (long (facts_of 0) ≡ worn_length_of (facts_of 0))
      × (bytes 0 lock (all v) (two x 0) ++ drop (long (facts_of 0)) buffer ≡ worn_image_of 0 lock (all v) (two x 0) ++ drop (worn_length_of (facts_of 0)) buffer)
  same kept =
      let fine : (saves_as bytes long 0 fresh (all v) (two x 0) buffer).answer.verdict ≡ (Ok tt) = saved_verdict (long (facts_of 0)) _ ∙ judged in
      let e = kept 0 fresh (all v) (two x 0) buffer fine in
      (rw judged at (ap (λ (r : AfterSave). r.answer.length) e), rw judged at (ap (λ (r : AfterSave). r.out) e))

four_short_breaks : LayoutWritten four_short → ⊥
four_short_breaks kept =
    let e = (same _ (λ f. worn_length_of f - 4) 0 0 kept).0 in
    omega (arith, e, worn_length_lem)

-- ---- what stands behind n bytes

behind_2 : (a b c d : List ℕ) (n : ℕ) → length a ≡ n → drop n (((a ++ b) ++ c) ++ d) ≡ (b ++ c) ++ d
behind_2 a b c d n e =
    drop-append-le n ((a ++ b) ++ c) d (omega (arith, length-append (a ++ b) c, length-append a b, e)) ∙ ap (λ (t : List ℕ). t ++ d) (behind a b c n e)

-- ---- at the first count: 1, and 0 where the high byte is first

module _ (lock : Bool) (m : Mem) (r s : List ℕ) where
  front : List ℕ
  front = (head_of 0x02 0 lock ++ m.cells) ++ m.ident

  low_apart : (front ++ low_words_of (two 1 0)) ++ r ≡ (front ++ words_of (two 1 0)) ++ s → ⊥
  low_apart e =
      let z : ◌≡◌ {A = ℕ} 1 0 = ap (λ (l : List ℕ). get_or l 0 0) (sym (behind front (low_words_of (two 1 0)) r (length front) refl) ∙ ap (drop (length front)) e ∙ behind front (words_of (two 1 0)) s (length front) refl) in
      omega (arith, z)

low_first_breaks : LayoutWritten low_first → ⊥
unfolding worn_image_of front
low_first_breaks kept =
    low_apart fresh.line.core.locked (all 0) (drop (worn_length_of (facts_of 0)) buffer) (drop (worn_length_of (facts_of 0)) buffer)
    (same (λ part lock m counts. ((head_of 0x02 part lock ++ m.cells) ++ m.ident) ++ low_words_of counts) worn_length_of 0 1 kept).1

-- ---- behind the array: 0, and 255 where the identification page comes first

module _ (lock : Bool) (cells more r s : List ℕ) where
  array : List ℕ
  array = head_of 0x02 0 lock ++ cells

  page_apart : ((array ++ words_of (two 0 0)) ++ (255 ∷ more)) ++ r ≡ ((array ++ (255 ∷ more)) ++ words_of (two 0 0)) ++ s → ⊥
  page_apart e =
      let z : ◌≡◌ {A = ℕ} 0 255 =
      ap (λ (l : List ℕ). get_or l 0 0)
      (sym (behind_2 array (words_of (two 0 0)) (255 ∷ more) r (length array) refl) ∙ ap (drop (length array)) e ∙ behind_2 array (255 ∷ more) (words_of (two 0 0)) s (length array) refl) in
      omega (arith, z)

counts_first_breaks : LayoutWritten counts_first → ⊥
unfolding worn_image_of array all
counts_first_breaks kept =
    page_apart fresh.line.core.locked (replicate 2048 255) (replicate 15 255) (drop (worn_length_of (facts_of 0)) buffer) (drop (worn_length_of (facts_of 0)) buffer)
    (same (λ part lock m counts. ((head_of 0x02 part lock ++ m.cells) ++ words_of counts) ++ m.ident) worn_length_of 255 0 kept).1

pub wrong_worn : WrongWorn
wrong_worn =
    record {
      drops_breaks = drops_breaks;
      first_breaks = first_breaks;
      low_breaks = low_breaks;
      lost_first_breaks = lost_first_breaks;
      refuses_back_breaks = refuses_back_breaks;
      refuses_there_breaks = refuses_there_breaks;
      leaves_breaks = leaves_breaks;
      short_read_breaks = short_read_breaks;
      takes_worn_breaks = λ plain kept takes. takes_worn_breaks plain takes kept;
      takes_worn_breaks_old = λ plain kept takes. takes_worn_breaks_old plain takes kept;
      zeros_breaks = zeros_breaks;
      low_first_breaks = low_first_breaks;
      counts_first_breaks = counts_first_breaks;
      four_short_breaks = four_short_breaks;
    }
