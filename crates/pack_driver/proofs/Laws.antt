-- Laws that the proofs of the code share: numbers stored four bytes at a time, and a buffer that is stored over whole.
-- Assumes nothing.
use Prim.Native.Nat.{ℕ, suc, ◌+◌, ◌≤◌, ◌<◌}
use mathlib.Core.Path.{◌≡◌, ◌∙◌, sym, refl}
use mathlib.Core.Bool.{true}
use mathlib.Core.List.{List, append_assoc}
use native.Mathlib.Numerals.{add-one}
use native.Mathlib.Omega.{arith}
use borrow.Rule.Slice.PartMut.{put_mid}
use lib.ListN.{length, get_or, take, drop}
use lib.Seq.{sets, sets-eq, drop-cons}
use Rattle.std.proofs.lemmas.List.{drop-drop}
use lib.Dec.{eqb}
use borrow.Author.Tests.{eqb-true}
use Rattle.parts.specs.Bytes.{word_of, words_of}
use Rattle.parts.proofs.Tests.{both}
use Rattle.parts.proofs.Bytes.{sets_whole}
use Rattle.driver.specs.declared.Driver.{Driver}
use Rattle.pack_driver.specs.Layout.{driver_length, driver_head_of, numbers_of, packed_driver_of, holds_driver_of}

-- what is copied over a part of a buffer is stored there
pub copied_over : (at n : ℕ) (out vs : List ℕ) → n ≡ length vs → at + n ≤ length out → put_mid at n out vs ≡ sets out at vs
copied_over at n out vs e h =
    let le : at + length vs ≤ length out = omega (arith, e) in
    rw (drop-drop n at out, e) (sym (sets-eq vs out at le ∙ append_assoc (take at out) vs (drop (at + length vs) out)))

-- the four bytes of one number of a row, copied to their place
pub words_copied : (out k vs : List ℕ) (i at next n : ℕ) → i < length k → vs ≡ word_of (get_or k i 0) → n ≡ 4 → next ≡ at + 4 → next ≤ length out
    → sets (put_mid at n out vs) next (words_of (drop (i + 1) k)) ≡ sets out at (words_of (drop i k))
words_copied out k vs i at next n h w m e r =
    let four : next ≡ suc (suc (suc (suc at))) = omega (arith, e) in
    rw (copied_over at n out vs (rw (m, w) refl) (omega arith), w, four, add-one, drop-cons k i 0 h)

pub packed_put : (o o₁ o₂ : List ℕ) (d : Driver) → length o ≡ driver_length → o₁ ≡ sets o 0 (driver_head_of d) → o₂ ≡ sets o₁ 7 (words_of (numbers_of d))
    → o₂ ≡ packed_driver_of d
unfolding packed_driver_of
packed_put o o₁ o₂ d e e₁ e₂ = rw (e₂, e₁) (sets_whole o (packed_driver_of d) e)

pub holds_length : (l : List ℕ) → holds_driver_of l ≡ true → length l ≡ driver_length
unfolding holds_driver_of
holds_length l h = eqb-true (length l) driver_length (both (eqb (length l) driver_length) _ h).0
