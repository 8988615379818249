-- A list of bytes that is formed is an image: of version 1, and of version 2 with its counts.
-- Assumes nothing.
use Prim.Native.Nat.{ℕ, ◌≤◌, ◌<◌}
use mathlib.Core.Path.{◌≡◌, ◌∙◌, sym, ap, refl, subst}
use mathlib.Core.Bool.{Bool, true}
use mathlib.Core.List.{List, ◌++◌}
use mathlib.Core.Logic.{◌≢◌}
use native.Mathlib.Omega.{arith}
use lib.ListN.{length, get_or, take, drop, length-set, take-append-drop}
use lib.Dec.{eqb}
use lib.Seq.{length-take-le, get_or-take, get_or-set_same, get_or-set_other, set-set, set-get_or}
use Rattle.parts.specs.declared.Facts.{Facts}
use Rattle.parts.specs.Table.{facts_of, id_size_of, groups_of}
use Rattle.parts.specs.Bytes.{AllBelow, words_of}
use Rattle.parts.proofs.Bytes.{below_drop}
use Rattle.chip.specs.Memory.{Mem}
use Rattle.image.specs.Layout.{image_of, image_length_of, part_in, lock_in, stored_in, lock_byte_right_of, formed_of}
use Rattle.image.specs.Promises.{Form}
use Rattle.image.proofs.Laws.{CanLoad}
use Rattle.image.proofs.Form.{is_image, stored_fits, lock_allowed}
use Rattle.image_worn.specs.Layout.{worn_length_of, worn_formed_of, plain_in, words_in, as_version}
use Rattle.image_worn.proofs.Laws.{words_in_length, Formed, formed_is, worn_rest}
use Rattle.image_promises.specs.Form.{Sane, WornForm}
use Rattle.image_promises.proofs.Words.{words_same, read_below}
use Rattle.image_promises.proofs.Form.{as_formed, Marked, marked_as, as_marked, zero_enabled}
use Rattle.image_promises.proofs.Image.{stored_version, worn_is}

-- ---- version 1

module _ (l : List ℕ) (known : (facts_of (part_in l)).known ≡ true) (h : formed_of (facts_of (part_in l)) l ≡ true) where
  can : CanLoad l 0 (facts_of (part_in l)).size (id_size_of (facts_of (part_in l)))
  can =
      let w = formed_is 0x01 (image_length_of (facts_of (part_in l))) (facts_of (part_in l)) l h in
      record { known = known; enabled = zero_enabled (part_in l) known; cells = refl; ident = refl; long = w.long; marked = w.marked; lock = w.lock }

  plain_sane : Sane (part_in l) (lock_in l) (stored_in (facts_of (part_in l)) l)
  plain_sane = record { known = known; fits = stored_fits l 0 _ _ can; lockable = lock_allowed l 0 _ _ can }

  plain_bytes : l ≡ image_of (part_in l) (lock_in l) (stored_in (facts_of (part_in l)) l)
  plain_bytes = is_image l 0 _ _ can

  pub is_form : Form l
  is_form =
      record {
        part = part_in l;
        lock = lock_in l;
        stored = stored_in (facts_of (part_in l)) l;
        known = known;
        fits = plain_sane.fits;
        lockable = plain_sane.lockable;
        bytes = plain_bytes;
      }

-- ---- version 2: what stands before the counts is of version 1, but for the number

module _ (l : List ℕ) (known : (facts_of (part_in l)).known ≡ true) (h : worn_formed_of (facts_of (part_in l)) l ≡ true) where
  abbrev f : Facts
  f = facts_of (part_in l)

  abbrev n : ℕ
  n = image_length_of (facts_of (part_in l))

  abbrev p : List ℕ
  p = as_version 0x01 (plain_in (facts_of (part_in l)) l)

  w : Formed 0x02 (worn_length_of f) f l
  w = formed_is 0x02 (worn_length_of f) f l h

  marks : Marked 0x02 l
  marks = marked_as 0x02 l w.marked

  head_fits : 7 ≤ n
  unfolding image_length_of
  head_fits = omega arith

  long : n ≤ length l
  unfolding worn_length_of
  long = omega (arith, w.long)

  same : (i : ℕ) → i < 7 → i ≢ 4 → get_or p i 0 ≡ get_or l i 0
  same i a b = get_or-set_other (take n l) 4 i 0x01 0 b ∙ get_or-take n l i 0 (omega (arith, a, head_fits))

  p_long : length p ≡ n
  p_long = length-set (take n l) 4 0x01 ∙ length-take-le n l long

  p_part : part_in p ≡ part_in l
  unfolding part_in
  p_part = same 5 (omega arith) (λ e. omega (arith, e))

  p_lock : lock_in p ≡ lock_in l
  unfolding lock_in
  p_lock = ap (λ (b : ℕ). eqb b 1) (same 6 (omega arith) (λ e. omega (arith, e)))

  p_marks : Marked 0x01 p
  p_marks =
      let at : (i x : ℕ) → i < 4 → eqb (get_or l i 0) x ≡ true → eqb (get_or p i 0) x ≡ true = λ i x a e. ap (λ (b : ℕ). eqb b x) (same i (omega arith) (λ z. omega (arith, z))) ∙ e in
      record {
        at_0 = at 0 0x45 (omega arith) marks.at_0;
        at_1 = at 1 0x50 (omega arith) marks.at_1;
        at_2 = at 2 0x52 (omega arith) marks.at_2;
        at_3 = at 3 0x00 (omega arith) marks.at_3;
        version = get_or-set_same (take n l) 4 0x01 0 (omega (arith, length-take-le n l long, head_fits));
      }

  p_formed : formed_of f p ≡ true
  p_formed =
      as_formed 0x01 n f p p_long (as_marked 0x01 p p_marks)
      (ap (lock_byte_right_of f) (same 6 (omega arith) (λ e. omega (arith, e))) ∙ w.lock)

  p_stored : stored_in f p ≡ stored_in f (plain_in f l)
  p_stored = stored_version f 0x01 (take n l)

  abbrev Holds : ℕ → Bool → Mem → Type 0
  Holds part lock m = Sane part lock m × (p ≡ image_of part lock m)

  p_holds : Holds (part_in l) (lock_in l) (stored_in f (plain_in f l))
  p_holds =
      let k : (facts_of (part_in p)).known ≡ true = rw p_part known in
      let g : formed_of (facts_of (part_in p)) p ≡ true = rw p_part p_formed in
      let t : Holds (part_in p) (lock_in p) (stored_in (facts_of (part_in p)) p) = (plain_sane p k g, plain_bytes p k g) in
      let u : Holds (part_in l) (lock_in p) (stored_in (facts_of (part_in l)) p) = subst (λ (x : ℕ). Holds x (lock_in p) (stored_in (facts_of x) p)) p_part t in
      subst (λ (m : Mem). Holds (part_in l) (lock_in l) m) p_stored (subst (λ (x : Bool). Holds (part_in l) x (stored_in f p)) p_lock u)

  -- the number of version 2 again
  front : plain_in f l ≡ as_version 0x02 p
  front =
      let two : get_or (take n l) 4 0 ≡ 0x02 = get_or-take n l 4 0 (omega (arith, head_fits)) ∙ marks.version in
      sym (set-set (take n l) 4 0x01 0x02 ∙ ap (λ (v : ℕ). as_version v (take n l)) (sym two) ∙ set-get_or (take n l) 4 0)

  pub is_worn : AllBelow 256 l → WornForm l
  is_worn b =
      let rest = words_same (groups_of f) (drop n l) (below_drop 256 n l b) (worn_rest f l w.long) in
      record {
        part = part_in l;
        lock = lock_in l;
        stored = stored_in f (plain_in f l);
        counts = words_in (groups_of f) (drop n l);
        sane = p_holds.0;
        counted = words_in_length (groups_of f) (drop n l);
        below = read_below (groups_of f) (drop n l) (below_drop 256 n l b);
        bytes = sym (take-append-drop n l) ∙ (λ i. front i ++ sym rest i)
            ∙ ap (λ (t : List ℕ). as_version 0x02 t ++ words_of (words_in (groups_of f) (drop n l))) p_holds.1
            ∙ sym (worn_is (part_in l) (lock_in l) (stored_in f (plain_in f l)) (words_in (groups_of f) (drop n l)));
      }
