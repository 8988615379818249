-- Laws that the proofs of the code share: copies one after another, and what a call that is not refused has.
-- Assumes nothing.
use Rattle.std.specs.Prelude.{Ok}
use Prim.Native.Nat.{ℕ, ◌+◌, ◌-◌, ◌≤◌}
use mathlib.Core.Path.{◌≡◌, ◌∙◌, refl}
use mathlib.Core.Bool.{Bool, true, false, not, cond}
use mathlib.Core.List.{List, ◌++◌}
use native.Mathlib.Nat.{add-sub_cancel_left}
use native.Mathlib.Omega.{arith}
use lib.ListN.{length, get_or, take, drop, length-append, length-take, length-drop}
use lib.Seq.{take_all}
use lib.Dec.{ltb, eqb}
use borrow.Author.Tests.{eqb-true, ltb-false}
use Rattle.parts.specs.declared.Facts.{Facts}
use Rattle.parts.specs.declared.Refusal.TheVariants.{WrongEnable, BadState, ShortBuffer, BadImage}
use Rattle.parts.specs.Table.{facts_of, id_size_of, enable_right_of}
use Rattle.parts.specs.Refusals.{claim_of, lent_verdict_of}
use Rattle.parts.specs.Bytes.{copied_of}
use Rattle.parts.proofs.Laws.{passed}
use Rattle.parts.proofs.Bytes.{copy_first, copy_next, copy_over}
use Rattle.parts.proofs.Claims.{claim_fine, right_fine, sooner_fine, lent_fine}
use Rattle.parts.proofs.Tests.{both}
use Rattle.state.specs.declared.Chip.{Chip}
use Rattle.state.specs.Range.{in_range_of}
use Rattle.chip.specs.Memory.{mem}
use Rattle.chip.proofs.Laws.{buffers_are}
use Rattle.image.specs.Layout.{image_head_of, image_of, image_length_of, part_in, stored_in, mark_right_of, lock_byte_right_of, formed_as}
use Rattle.image.specs.Calls.{save_verdict_of, judged_of, load_verdict_of}

-- ---- the three copies of a save

module _ (part : ℕ) (lock : Bool) (h a d o p q r : List ℕ)
    (hh : h ≡ image_head_of part lock)
    (hp : p ≡ copied_of o 0 h)
    (hq : q ≡ copied_of p 7 a)
    (hr : r ≡ copied_of q (7 + length a) d)
    (room : 7 + length a + length d ≤ length o) where
  pub written : r ≡ image_of part lock (mem a d) ++ drop (7 + length a + length d) o
  unfolding image_of
  written =
      let one : p ≡ image_head_of part lock ++ drop 7 o = hp ∙ rw hh (copy_first (image_head_of part lock) o (omega arith)) in
      let two : q ≡ (image_head_of part lock ++ a) ++ drop (7 + length a) o = hq ∙ rw one (copy_next (image_head_of part lock) a o 7 refl (omega arith)) in
      hr ∙ rw two (copy_next (image_head_of part lock ++ a) d o (7 + length a) (length-append (image_head_of part lock) a) room)

-- ---- the two copies of a load

pub part_cells : (f : Facts) (l s : List ℕ) (n : ℕ) → n ≡ f.size → length s ≡ n → 7 + n ≤ length l
    → copied_of s 0 (take (7 + n - 7) (drop 7 l)) ≡ (stored_in f l).cells
unfolding stored_in
part_cells f l s n e h k =
    let long : length s ≡ length (take n (drop 7 l)) = simp (length-take, length-drop) (omega arith) in
    rw (add-sub_cancel_left, ← e) (copy_over s (take n (drop 7 l)) long)

pub part_ident : (f : Facts) (l s : List ℕ) (n : ℕ) → n ≡ f.size → length l ≡ 7 + n + length s
    → copied_of s 0 (take (length l - (7 + n)) (drop (7 + n) l)) ≡ (stored_in f l).ident
unfolding stored_in
part_ident f l s n e h =
    let short : length (drop (7 + n) l) ≤ length l - (7 + n) = simp length-drop (omega arith) in
    let long : length s ≡ length (drop (7 + n) l) = simp length-drop (omega arith) in
    rw (take_all (length l - (7 + n)) (drop (7 + n) l) short, ← e) (copy_over s (drop (7 + n) l) long)

-- ---- what a call that is not refused has

pub id_most : (f : Facts) → f.page ≤ 64 → id_size_of f ≤ 64
unfolding id_size_of
id_most f h = most f.ident f.page h
  where
    most : (b : Bool) (p : ℕ) → p ≤ 64 → cond b p 0 ≤ 64
    most true p k = k
    most false p k = omega arith

pub record CanSave (part : ℕ) (c : Chip) (n d room : ℕ) : Type 0 where
  pub known : (facts_of part).known ≡ true
  pub cells : n ≡ (facts_of part).size
  pub ident : d ≡ id_size_of (facts_of part)
  pub ranged : in_range_of (facts_of part) c ≡ true
  pub fits : image_length_of (facts_of part) ≤ room

pub save_fine : (part : ℕ) (c : Chip) (n d room : ℕ) → save_verdict_of part c n d room ≡ Ok tt → CanSave part c n d room
unfolding save_verdict_of
save_fine part c n d room h =
    let (lent, r) = sooner_fine (lent_verdict_of (facts_of part) n d) _ h in
    let (state, short) = sooner_fine (claim_of (not (in_range_of (facts_of part) c)) BadState) (claim_of (ltb room (image_length_of (facts_of part))) ShortBuffer) r in
    let l = lent_fine (facts_of part) n d lent in
    let b = buffers_are (facts_of part) n d l.1 in
    record { known = l.0; cells = b.0; ident = b.1; ranged = right_fine _ BadState state; fits = ltb-false room (image_length_of (facts_of part)) (claim_fine _ ShortBuffer short) }

pub save_room : (part : ℕ) (c : Chip) (n d room : ℕ) → save_verdict_of part c n d room ≡ Ok tt
    → (image_length_of (facts_of part) ≡ 7 + n + d) × (7 + n + d ≤ room)
unfolding image_length_of
save_room part c n d room h =
    let k = save_fine part c n d room h in
    (omega (arith, k.cells, k.ident), omega (arith, k.cells, k.ident, k.fits))

pub record CanLoad (l : List ℕ) (enable n d : ℕ) : Type 0 where
  pub known : (facts_of (part_in l)).known ≡ true
  pub enabled : enable_right_of (facts_of (part_in l)) enable ≡ true
  pub cells : n ≡ (facts_of (part_in l)).size
  pub ident : d ≡ id_size_of (facts_of (part_in l))
  pub long : length l ≡ image_length_of (facts_of (part_in l))
  pub marked : mark_right_of 1 l ≡ true
  pub lock : lock_byte_right_of (facts_of (part_in l)) (get_or l 6 0) ≡ true

pub load_fine : (l : List ℕ) (enable n d : ℕ) → load_verdict_of l enable n d ≡ Ok tt → CanLoad l enable n d
unfolding load_verdict_of judged_of formed_as
load_fine l enable n d h =
    let (lent, r) = sooner_fine (lent_verdict_of (facts_of (part_in l)) n d) _ (passed (ltb (length l) 6) _ _ h).1 in
    let (enable-right, form) = sooner_fine (claim_of (not (enable_right_of (facts_of (part_in l)) enable)) WrongEnable) (claim_of (not (cond (eqb (length l) (image_length_of (facts_of (part_in l)))) (cond (mark_right_of 1 l) (lock_byte_right_of (facts_of (part_in l)) (get_or l 6 0)) false) false)) BadImage) r in
    let f = lent_fine (facts_of (part_in l)) n d lent in
    let b = buffers_are (facts_of (part_in l)) n d f.1 in
    let w = both (eqb (length l) (image_length_of (facts_of (part_in l)))) (cond (mark_right_of 1 l) (lock_byte_right_of (facts_of (part_in l)) (get_or l 6 0)) false) (right_fine _ BadImage form) in
    let t = both (mark_right_of 1 l) (lock_byte_right_of (facts_of (part_in l)) (get_or l 6 0)) w.1 in
    record { known = f.0; enabled = right_fine _ WrongEnable enable-right; cells = b.0; ident = b.1; long = eqb-true (length l) (image_length_of (facts_of (part_in l))) w.0; marked = t.0; lock = t.1 }

pub load_room : (l : List ℕ) (enable n d part : ℕ) → load_verdict_of l enable n d ≡ Ok tt → part ≡ part_in l
    → (n ≡ (facts_of part).size) × (length l ≡ 7 + n + d)
unfolding image_length_of
load_room l enable n d part h e =
    let k = load_fine l enable n d h in
    (rw e k.cells, omega (arith, k.cells, k.ident, k.long))
