-- Laws of the form: an image taken apart, and a list of bytes that is one.
-- Assumes nothing.
use Rattle.std.specs.Prelude.{Ok}
use Prim.Native.Nat.{ℕ, zero, suc, ◌+◌, ◌≤◌, ◌<◌}
use mathlib.Core.Path.{◌≡◌, ◌∙◌, sym, ap, refl}
use mathlib.Core.Bool.{Bool, true, false, cond}
use mathlib.Core.List.{List, [], ◌∷◌, ◌++◌}
use native.Mathlib.Omega.{arith}
use lib.ListN.{length, get_or, drop, length-append, length-take, length-drop, take-append-drop, replicate}
use lib.Seq.{drop-cons, take_at, drop_at, drop-drop}
use lib.Dec.{eqb, ltb, leb}
use borrow.Author.Tests.{eqb-true, eq-eqb, le-ltb, lt-ltb}
use Rattle.parts.specs.declared.Facts.{Facts}
use Rattle.parts.specs.Table.{facts_of, enable_right_of}
use Rattle.parts.specs.Sound.{Sound}
use Rattle.parts.specs.Refusals.{sooner_of}
use Rattle.parts.proofs.Tests.{both}
use Rattle.parts.proofs.Laws.{buffers_right_lem}
use Rattle.parts.proofs.Claims.{fine_lent}
use Rattle.parts.specs.Bytes.{flag_of}
use Rattle.parts.proofs.Bytes.{flag_back}
use Rattle.line.specs.declared.Pin.TheVariants.{Absent, Floating}
use Rattle.state.specs.declared.Chip.{Chip}
use Rattle.state.specs.Range.{empty_of, marks_right_of, pin_right_of, lock_right_of, phase_right_of, rest_right_of, in_range_of}
use Rattle.chip.specs.Memory.{Mem, no_latch}
use Rattle.chip.specs.Delivery.{pin_at_first_of, standby_of}
use Rattle.image.specs.Layout.{image_head_of, image_of, image_length_of, part_in, lock_in, stored_in, mark_right_of, lock_byte_right_of, formed_as, formed_of}
use Rattle.image.specs.Calls.{save_verdict_of, judged_of, load_verdict_of}
use Rattle.image.specs.Promises.{BuffersFit}
use Rattle.image.proofs.Laws.{CanLoad}

-- ---- an image taken apart

module _ (part : ℕ) (lock : Bool) (m : Mem) where
  pub part_of_image : part_in (image_of part lock m) ≡ part
  unfolding part_in image_of
  part_of_image = refl

  pub mark_of_image : mark_right_of 1 (image_of part lock m) ≡ true
  unfolding mark_right_of image_of
  mark_of_image = refl

  pub flag_of_image : get_or (image_of part lock m) 6 0 ≡ flag_of lock
  unfolding image_of
  flag_of_image = refl

pub lock_of_image : (part : ℕ) (lock : Bool) (m : Mem) → lock_in (image_of part lock m) ≡ lock
unfolding lock_in
lock_of_image part lock m = rw (flag_of_image part lock m) (flag_back lock)

pub length_of_image : (part : ℕ) (lock : Bool) (m : Mem) → BuffersFit part m → length (image_of part lock m) ≡ image_length_of (facts_of part)
unfolding image_of image_length_of
length_of_image part lock m t =
    length-append (image_head_of part lock ++ m.cells) m.ident ∙ rw (length-append (image_head_of part lock) m.cells, t.cells, t.ident)

pub stored_of_image : (part : ℕ) (lock : Bool) (m : Mem) → BuffersFit part m → stored_in (facts_of part) (image_of part lock m) ≡ m
unfolding image_of stored_in
stored_of_image part lock m t =
    let long : length (image_head_of part lock ++ m.cells) ≡ 7 + (facts_of part).size = length-append (image_head_of part lock) m.cells ∙ rw t.cells in
    rw (take_at m.cells m.ident (facts_of part).size t.cells, drop_at (image_head_of part lock ++ m.cells) m.ident (7 + (facts_of part).size) long)

-- ---- it is accepted

lockable_right : (f : Facts) (lock : Bool) → (lock ≡ true → f.ident ≡ true) → lock_byte_right_of f (flag_of lock) ≡ true
unfolding lock_byte_right_of
lockable_right f true h = h refl
lockable_right f false h = refl

module _ (part : ℕ) (lock : Bool) (m : Mem) (known : (facts_of part).known ≡ true) (t : BuffersFit part m) (h : lock ≡ true → (facts_of part).ident ≡ true) where
  formed : formed_of (facts_of part) (image_of part lock m) ≡ true
  unfolding formed_as
  formed =
      rw (eq-eqb (length (image_of part lock m)) (image_length_of (facts_of part)) (length_of_image part lock m t), mark_of_image part lock m, flag_of_image part lock m)
      (lockable_right (facts_of part) lock h)

  pub accepted : (enable : ℕ) (old : Mem) → enable_right_of (facts_of part) enable ≡ true → BuffersFit part old
      → load_verdict_of (image_of part lock m) enable (length old.cells) (length old.ident) ≡ Ok tt
  unfolding load_verdict_of judged_of sooner_of image_length_of
  accepted enable old e o =
      let long : 6 ≤ length (image_of part lock m) = omega (arith, length_of_image part lock m t) in
      rw (le-ltb (length (image_of part lock m)) 6 long, part_of_image part lock m, fine_lent (facts_of part) (length old.cells) (length old.ident) known (buffers_right_lem (facts_of part) (length old.cells) (length old.ident) o.cells o.ident), e, formed) refl

-- ---- a list of bytes that is accepted is one

seven : (l : List ℕ) → 7 ≤ length l → l ≡ get_or l 0 0 ∷ get_or l 1 0 ∷ get_or l 2 0 ∷ get_or l 3 0 ∷ get_or l 4 0 ∷ get_or l 5 0 ∷ get_or l 6 0 ∷ drop 7 l
seven l h =
    let at : (j : ℕ) → j < 7 → drop j l ≡ get_or l j 0 ∷ drop (suc j) l = λ j k. drop-cons l j 0 (omega arith) in
    at 0 (omega arith)
    ∙ ap (λ (t : List ℕ). get_or l 0 0 ∷ t) (at 1 (omega arith)
    ∙ ap (λ (t : List ℕ). get_or l 1 0 ∷ t) (at 2 (omega arith)
    ∙ ap (λ (t : List ℕ). get_or l 2 0 ∷ t) (at 3 (omega arith)
    ∙ ap (λ (t : List ℕ). get_or l 3 0 ∷ t) (at 4 (omega arith)
    ∙ ap (λ (t : List ℕ). get_or l 4 0 ∷ t) (at 5 (omega arith)
    ∙ ap (λ (t : List ℕ). get_or l 5 0 ∷ t) (at 6 (omega arith)))))))

flag_known : (f : Facts) (b : ℕ) → lock_byte_right_of f b ≡ true → b ≡ flag_of (eqb b 1)
unfolding lock_byte_right_of
flag_known f b h = by (eqb b 0) (eqb b 1) refl refl h
  where
    by : (x y : Bool) → eqb b 0 ≡ x → eqb b 1 ≡ y → cond x true (cond y f.ident false) ≡ true → b ≡ flag_of y
    by true true p q k = eqb-true b 1 q
    by true false p q k = eqb-true b 0 p
    by false true p q k = eqb-true b 1 q
    by false false p q k = let z : ◌≡◌ {A = ℕ} 0 1 = cc in absurd (omega arith)

pub flag_lockable : (f : Facts) (b : ℕ) → lock_byte_right_of f b ≡ true → eqb b 1 ≡ true → f.ident ≡ true
unfolding lock_byte_right_of
flag_lockable f b h e = let one : b ≡ 1 = eqb-true b 1 e in rw one at h

module _ (l : List ℕ) (enable n d : ℕ) (k : CanLoad l enable n d) where
  pub stored_fits : BuffersFit (part_in l) (stored_in (facts_of (part_in l)) l)
  unfolding stored_in image_length_of
  stored_fits =
      record { cells = simp (length-take, length-drop) (omega (arith, k.long)); ident = simp length-drop (omega (arith, k.long)) }

  rest : drop 7 l ≡ (stored_in (facts_of (part_in l)) l).cells ++ (stored_in (facts_of (part_in l)) l).ident
  unfolding stored_in
  rest = sym (take-append-drop (facts_of (part_in l)).size (drop 7 l)) ∙ rw drop-drop

  head : get_or l 0 0 ∷ get_or l 1 0 ∷ get_or l 2 0 ∷ get_or l 3 0 ∷ get_or l 4 0 ∷ get_or l 5 0 ∷ get_or l 6 0 ∷ [] ≡ image_head_of (part_in l) (lock_in l)
  unfolding mark_right_of part_in lock_in
  head =
      let a = both (eqb (get_or l 0 0) 0x45) _ k.marked in
      let b = both (eqb (get_or l 1 0) 0x50) _ a.1 in
      let c = both (eqb (get_or l 2 0) 0x52) _ b.1 in
      let e = both (eqb (get_or l 3 0) 0x00) (eqb (get_or l 4 0) 0x01) c.1 in
      rw (eqb-true (get_or l 0 0) 0x45 a.0, eqb-true (get_or l 1 0) 0x50 b.0, eqb-true (get_or l 2 0) 0x52 c.0, eqb-true (get_or l 3 0) 0x00 e.0, eqb-true (get_or l 4 0) 0x01 e.1)
      (ap (λ (x : ℕ). 0x45 ∷ 0x50 ∷ 0x52 ∷ 0x00 ∷ 0x01 ∷ get_or l 5 0 ∷ x ∷ []) (flag_known (facts_of (part_in l)) (get_or l 6 0) k.lock))

  pub is_image : l ≡ image_of (part_in l) (lock_in l) (stored_in (facts_of (part_in l)) l)
  unfolding image_of image_length_of
  is_image =
      let long : 7 ≤ length l = omega (arith, k.long) in
      seven l long ∙ ap (λ (t : List ℕ). get_or l 0 0 ∷ get_or l 1 0 ∷ get_or l 2 0 ∷ get_or l 3 0 ∷ get_or l 4 0 ∷ get_or l 5 0 ∷ get_or l 6 0 ∷ t) rest
      ∙ ap (λ (t : List ℕ). (t ++ (stored_in (facts_of (part_in l)) l).cells) ++ (stored_in (facts_of (part_in l)) l).ident) head

  pub lock_allowed : lock_in l ≡ true → (facts_of (part_in l)).ident ≡ true
  unfolding lock_in
  lock_allowed = flag_lockable (facts_of (part_in l)) (get_or l 6 0) k.lock

-- ---- the chip that is loaded is in range, and a chip in range is locked only where there is a page to lock

no_latch_empty : (n k : ℕ) → empty_of (drop n (replicate k 256)) ≡ true
no_latch_empty zero zero = refl
no_latch_empty zero (suc k) = no_latch_empty zero k
no_latch_empty (suc n) zero = refl
no_latch_empty (suc n) (suc k) = no_latch_empty n k

marks_right : (f : Facts) → marks_right_of f no_latch ≡ true
unfolding marks_right_of no_latch
marks_right f = no_latch_empty f.page 64

pin_right : (f : Facts) → pin_right_of f (pin_at_first_of f) ≡ true
unfolding pin_at_first_of pin_right_of
pin_right f = by f.pin refl
  where
    by : (b : Bool) → f.pin ≡ b → pin_right_of f (cond b Floating Absent) ≡ true
    by true e = e
    by false e = rw e refl

lock_right : (f : Facts) (lock : Bool) → (lock ≡ true → f.ident ≡ true) → cond lock f.ident true ≡ true
lock_right f true h = h refl
lock_right f false h = refl

pub standby_in_range : (f : Facts) (lock : Bool) → Sound f → (lock ≡ true → f.ident ≡ true) → in_range_of f (standby_of f lock) ≡ true
unfolding in_range_of standby_of rest_right_of lock_right_of phase_right_of
standby_in_range f lock s h =
    let size : ltb 0 f.size ≡ true = lt-ltb 0 f.size s.size_pos in
    rw (size, marks_right f, pin_right f, lock_right f lock h)

pub range_lockable : (f : Facts) (c : Chip) → in_range_of f c ≡ true → c.line.core.locked ≡ true → f.ident ≡ true
unfolding in_range_of rest_right_of lock_right_of
range_lockable f c h e =
    let a = both (ltb c.line.core.counter f.size) _ h in
    let b = both (leb c.line.left 8) _ a.1 in
    let d = both (marks_right_of f c.latch) _ b.1 in
    let g = both (pin_right_of f c.line.core.pin) _ d.1 in
    let i = both (cond c.line.core.locked f.ident true) _ g.1 in
    rw e at i.0

-- ---- a save that is not refused

module _ (part : ℕ) (c : Chip) (m : Mem) (known : (facts_of part).known ≡ true) (r : in_range_of (facts_of part) c ≡ true) (t : BuffersFit part m) where
  pub saves : (room : ℕ) → image_length_of (facts_of part) ≤ room → save_verdict_of part c (length m.cells) (length m.ident) room ≡ Ok tt
  unfolding save_verdict_of sooner_of
  saves room h =
      rw (fine_lent (facts_of part) (length m.cells) (length m.ident) known (buffers_right_lem (facts_of part) (length m.cells) (length m.ident) t.cells t.ident), r, le-ltb room (image_length_of (facts_of part)) h) refl
