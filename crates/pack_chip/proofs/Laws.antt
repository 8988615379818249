-- Laws that the proofs of the code share: numbers of 16 bits stored and read two bytes at a time.
-- Assumes nothing.
use borrow.Rule.Slice.PartMut.{put_mid}
use Rattle.std.proofs.lemmas.List.{drop-drop}
use Prim.Native.Nat.{ℕ, ◌+◌, ◌*◌, ◌/◌, ◌%◌, ◌≤◌, ◌<◌}
use mathlib.Core.Path.{◌≡◌, ◌∙◌, sym, refl, ap}
use mathlib.Core.Bool.{true}
use mathlib.Core.List.{List, [], ◌∷◌, ◌++◌, append-nil, append_assoc}
use native.Mathlib.Numerals.{add-one, add-two}
use native.Mathlib.Omega.{arith}
use lib.ListN.{length, get_or, take, drop, length-append, length-drop, drop_of_length-le}
use lib.Seq.{sets, sets-eq, drop-cons}
use lib.Dec.{eqb}
use borrow.Author.Tests.{eq-eqb, eqb-true}
use Rattle.state.specs.declared.Chip.{Chip}
use Rattle.pack_chip.specs.Layout.{chip_length, pairs_of, chip_head_of, packed_chip_of, pack_chip_into, pairs_in, chip_codes_right_of, holds_chip_of}
use Rattle.parts.proofs.Tests.{both}
use Rattle.parts.proofs.Bytes.{sets_whole}

-- ---- stored

-- what is copied over a part of a buffer is stored there
pub copied_over : (at n : ℕ) (out vs : List ℕ) → n ≡ length vs → at + n ≤ length out → put_mid at n out vs ≡ sets out at vs
copied_over at n out vs e h =
    let le : at + length vs ≤ length out = omega (arith, e) in
    rw (drop-drop n at out, e) (sym (sets-eq vs out at le ∙ append_assoc (take at out) vs (drop (at + length vs) out)))

-- the two bytes of one number of a row, copied to their place
pub pairs_copied : (out k vs : List ℕ) (i at next n : ℕ) → i < length k → get_or k i 0 < 65536 → vs ≡ get_or k i 0 / 256 % 256 ∷ get_or k i 0 % 256 ∷ []
    → n ≡ 2 → next ≡ at + 2 → next ≤ length out
    → sets (put_mid at n out vs) next (pairs_of (drop (i + 1) k)) ≡ sets out at (pairs_of (drop i k))
pairs_copied out k vs i at next n h low w m e r =
    let high : get_or k i 0 / 256 % 256 ≡ get_or k i 0 / 256 = omega arith in
    rw (copied_over at n out vs (rw (m, w) refl) (omega arith), w, high, e, add-one, add-two, drop-cons k i 0 h)

pub pairs_length : (k : List ℕ) → length (pairs_of k) ≡ 2 * length k
pairs_length [] = refl
pairs_length (x ∷ k) = let e = pairs_length k in omega (arith, e)

-- ---- read

pub row_length : (l : List ℕ) → length (pairs_in l) ≡ length l / 2
row_length [] = refl
row_length (x ∷ []) = refl
row_length (x ∷ y ∷ l) = let e = row_length l in omega (arith, e)

pub row_first : (k s : List ℕ) → length k ≡ 64 → length s ≡ 137 → sets k 0 (pairs_in (drop 9 s)) ≡ pairs_in (drop 9 s)
row_first k s e h =
    let n : length (drop 9 s) ≡ 128 = simp length-drop (omega arith) in
    sets_whole k (pairs_in (drop 9 s)) (rw (e, row_length, n) refl)

-- ---- packed and unpacked

pub holds_long : (l : List ℕ) → holds_chip_of l ≡ true → length l ≡ chip_length
unfolding holds_chip_of
holds_long l h =
    eqb-true (length l) chip_length
    (both (eqb (length l) chip_length) (chip_codes_right_of (get_or l 2 0) (get_or l 3 0) (get_or l 4 0) (get_or l 5 0) (get_or l 6 0)) h).0

-- the head, then the latches
pub packed : (out : List ℕ) (c : Chip) → length out ≡ chip_length → length c.latch ≡ 64
    → sets (sets out 0 (chip_head_of c.line)) 9 (pairs_of c.latch) ≡ pack_chip_into out c
unfolding pack_chip_into packed_chip_of
packed out c e k =
    let h = chip_head_of c.line in
    let p = pairs_of c.latch in
    let n : length p ≡ 128 = pairs_length c.latch ∙ omega (arith, k) in
    let one : sets out 0 h ≡ h ++ drop 9 out = sets-eq h out 0 (omega arith) in
    let m : length (h ++ drop 9 out) ≡ 137 = length-append h (drop 9 out) ∙ simp length-drop (omega arith) in
    let rest : drop (9 + length p) (h ++ drop 9 out) ≡ [] = drop_of_length-le (h ++ drop 9 out) {i = 9 + length p} (omega arith) in
    let two : sets (h ++ drop 9 out) 9 p ≡ h ++ p ++ drop (9 + length p) (h ++ drop 9 out) = sets-eq p (h ++ drop 9 out) 9 (omega arith) in
    rw (eq-eqb (length out) chip_length e, one, two, rest) (ap (λ (l : List ℕ). h ++ l) (append-nil p))
