-- Laws of the form: an image with counts taken apart, and a list of bytes that is one.
-- Assumes nothing.
use Prim.Native.Nat.{ℕ, ◌+◌, ◌*◌}
use mathlib.Core.Path.{◌≡◌, ◌∙◌, sym, ap, refl, subst}
use mathlib.Core.Bool.{Bool, true}
use mathlib.Core.List.{List, [], ◌++◌, append-nil}
use native.Mathlib.Omega.{arith}
use lib.ListN.{length, get_or, drop, length-append, length-set}
use lib.Seq.{take_at, drop_at, drop-set-lt, set-set}
use Rattle.parts.specs.declared.Facts.{Facts}
use Rattle.parts.specs.Table.{facts_of, groups_of}
use Rattle.parts.specs.Bytes.{AllBelow, word_end, words_of}
use Rattle.parts.proofs.Bytes.{flag_back}
use Rattle.chip.specs.Memory.{Mem}
use Rattle.image.specs.Layout.{image_of, image_length_of, part_in, lock_in, stored_in, mark_right_of, lock_byte_right_of, formed_of}
use Rattle.image.specs.Promises.{BuffersFit}
use Rattle.image.proofs.Laws.{CanLoad, load_fine}
use Rattle.image.proofs.Form.{part_of_image, length_of_image, stored_of_image, accepted}
use Rattle.image_worn.specs.Layout.{worn_image_of, worn_length_of, worn_formed_of, plain_in, words_in, counts_in, version_in, as_version, worn_from, plain_from}
use Rattle.image_promises.specs.Form.{CountsFit, zeros, Sane}
use Rattle.image_worn.proofs.Laws.{words_length, counts_worn}
use Rattle.image_promises.proofs.Words.{words_back, words_zero}
use Rattle.image_promises.proofs.Form.{as_formed, zero_enabled}

-- ---- the version's number alone

pub stored_version : (f : Facts) (v : ℕ) (l : List ℕ) → stored_in f (as_version v l) ≡ stored_in f l
unfolding stored_in
stored_version f v l = rw (drop-set-lt 7 l 4 v (omega arith), drop-set-lt (7 + f.size) l 4 v (omega arith)) refl

first_again : (part : ℕ) (lock : Bool) (m : Mem) → as_version 0x01 (image_of part lock m) ≡ image_of part lock m
unfolding image_of
first_again part lock m = refl

-- counts that stand behind an image of version 2
pub counts_read : (f : Facts) (l counts : List ℕ) → version_in l ≡ 0x02 → drop (image_length_of f) l ≡ words_of counts → length counts ≡ groups_of f → AllBelow word_end counts
    → counts_in f l ≡ counts
counts_read f l counts v r k b = counts_worn f l v ∙ rw (r, ← k) (ap (words_in (length counts)) (sym (append-nil (words_of counts))) ∙ words_back counts [] b)

-- ---- an image with counts taken apart

module _ (part : ℕ) (lock : Bool) (m : Mem) (counts : List ℕ) where
  -- an image of version 1 but for its number, and the counts
  pub worn_is : worn_image_of part lock m counts ≡ as_version 0x02 (image_of part lock m) ++ words_of counts
  unfolding worn_image_of image_of
  worn_is = refl

  pub part_of_worn : part_in (worn_image_of part lock m counts) ≡ part
  unfolding part_in worn_image_of
  part_of_worn = refl

  pub lock_of_worn : lock_in (worn_image_of part lock m counts) ≡ lock
  unfolding lock_in worn_image_of
  lock_of_worn = flag_back lock

  pub version_of_worn : version_in (worn_image_of part lock m counts) ≡ 0x02
  unfolding version_in worn_image_of
  version_of_worn = refl

  mark_of_worn : mark_right_of 0x02 (worn_image_of part lock m counts) ≡ true
  unfolding mark_right_of worn_image_of
  mark_of_worn = refl

  same_flag : get_or (worn_image_of part lock m counts) 6 0 ≡ get_or (image_of part lock m) 6 0
  unfolding worn_image_of image_of
  same_flag = refl

  module _ (t : BuffersFit part m) where
    front : length (as_version 0x02 (image_of part lock m)) ≡ image_length_of (facts_of part)
    front = length-set (image_of part lock m) 4 0x02 ∙ length_of_image part lock m t

    plain_of_worn : plain_in (facts_of part) (worn_image_of part lock m counts) ≡ as_version 0x02 (image_of part lock m)
    plain_of_worn = rw worn_is (take_at (as_version 0x02 (image_of part lock m)) (words_of counts) (image_length_of (facts_of part)) front)

    rest_of_worn : drop (image_length_of (facts_of part)) (worn_image_of part lock m counts) ≡ words_of counts
    rest_of_worn = rw worn_is (drop_at (as_version 0x02 (image_of part lock m)) (words_of counts) (image_length_of (facts_of part)) front)

    pub stored_of_worn : stored_in (facts_of part) (plain_in (facts_of part) (worn_image_of part lock m counts)) ≡ m
    stored_of_worn = ap (stored_in (facts_of part)) plain_of_worn ∙ stored_version (facts_of part) 0x02 (image_of part lock m) ∙ stored_of_image part lock m t

    -- the number of version 1 again
    pub plain_from_worn : plain_from (facts_of part) (worn_image_of part lock m counts) ≡ image_of part lock m
    unfolding plain_from
    plain_from_worn = ap (as_version 0x01) plain_of_worn ∙ set-set (image_of part lock m) 4 0x02 0x01 ∙ first_again part lock m

    pub length_worn : length (worn_image_of part lock m counts) ≡ image_length_of (facts_of part) + 4 * length counts
    length_worn = rw worn_is (length-append (as_version 0x02 (image_of part lock m)) (words_of counts) ∙ rw (front, words_length counts) refl)

    module _ (k : CountsFit part counts) where
      pub length_of_worn : length (worn_image_of part lock m counts) ≡ worn_length_of (facts_of part)
      unfolding worn_length_of
      length_of_worn = length_worn ∙ rw k refl

      pub counts_of_worn : AllBelow word_end counts → counts_in (facts_of part) (worn_image_of part lock m counts) ≡ counts
      counts_of_worn b = counts_read (facts_of part) (worn_image_of part lock m counts) counts version_of_worn rest_of_worn k b

pub worn_from_plain : (part : ℕ) (lock : Bool) (m : Mem) → worn_from (facts_of part) (image_of part lock m) ≡ worn_image_of part lock m (zeros part)
unfolding worn_from
worn_from_plain part lock m =
    ap (λ (t : List ℕ). as_version 0x02 (image_of part lock m) ++ t) (sym (words_zero (groups_of (facts_of part)))) ∙ sym (worn_is part lock m (zeros part))

-- ---- both are formed

module _ (part : ℕ) (lock : Bool) (m : Mem) (s : Sane part lock m) where
  -- the reader of version 1 takes it, so each of its tests is passed
  can : CanLoad (image_of part lock m) 0 (length m.cells) (length m.ident)
  can = load_fine (image_of part lock m) 0 _ _ (accepted part lock m s.known s.fits s.lockable 0 m (zero_enabled part s.known) s.fits)

  flag_right : lock_byte_right_of (facts_of part) (get_or (image_of part lock m) 6 0) ≡ true
  flag_right = subst (λ (p : ℕ). lock_byte_right_of (facts_of p) (get_or (image_of part lock m) 6 0) ≡ true) (part_of_image part lock m) can.lock

  pub plain_formed : formed_of (facts_of part) (image_of part lock m) ≡ true
  plain_formed =
      as_formed 0x01 (image_length_of (facts_of part)) (facts_of part) (image_of part lock m) (length_of_image part lock m s.fits) can.marked flag_right

  pub worn_formed : (counts : List ℕ) → CountsFit part counts → worn_formed_of (facts_of part) (worn_image_of part lock m counts) ≡ true
  worn_formed counts k =
      as_formed 0x02 (worn_length_of (facts_of part)) (facts_of part) (worn_image_of part lock m counts) (length_of_worn part lock m counts s.fits k)
      (mark_of_worn part lock m counts) (ap (lock_byte_right_of (facts_of part)) (same_flag part lock m counts) ∙ flag_right)
