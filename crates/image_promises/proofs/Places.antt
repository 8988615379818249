-- What stands where in an image with counts, and how long it is.
-- Assumes nothing.
use Prim.Native.Nat.{ℕ, ◌+◌, ◌*◌}
use mathlib.Core.Path.{◌≡◌, ◌∙◌, sym, ap, refl}
use mathlib.Core.List.{List, ◌++◌}
use native.Mathlib.Omega.{arith}
use lib.ListN.{length, take, drop, length-append}
use lib.Seq.{take_at, drop_at, drop-drop, take-append-le, drop-append-le}
use Rattle.parts.specs.Table.{facts_of, id_size_of, groups_of}
use Rattle.parts.specs.Bytes.{words_of}
use Rattle.image.specs.Layout.{head_of, image_length_of}
use Rattle.image_worn.specs.Layout.{worn_image_of, worn_length_of}
use Rattle.image_promises.specs.Layout.{WornPlaces, WornLengths}
use Rattle.image_promises.proofs.Words.{words_at}

-- of three lists, the second and the third
pub behind : (a b c : List ℕ) (n : ℕ) → length a ≡ n → drop n ((a ++ b) ++ c) ≡ b ++ c
behind a b c n e = drop-append-le n (a ++ b) c (omega (arith, length-append a b, e)) ∙ ap (λ (t : List ℕ). t ++ c) (drop_at a b n e)

second : (a b c : List ℕ) (n : ℕ) → length a ≡ n → take (length b) (drop n ((a ++ b) ++ c)) ≡ b
second a b c n e = ap (take (length b)) (behind a b c n e) ∙ take_at b c (length b) refl

pub worn_places : WornPlaces
unfolding worn_image_of
worn_places part lock m counts =
    let head = head_of 0x02 part lock in
    let n : length (head ++ m.cells) ≡ 7 + length m.cells = length-append head m.cells in
    let d : length ((head ++ m.cells) ++ m.ident) ≡ 7 + length m.cells + length m.ident = length-append (head ++ m.cells) m.ident ∙ ap (λ (k : ℕ). k + length m.ident) n in
    record {
      head = refl;
      array = take-append-le (length m.cells) (m.cells ++ m.ident) (words_of counts) (omega (arith, length-append m.cells m.ident)) ∙ take_at m.cells m.ident (length m.cells) refl;
      ident = second (head ++ m.cells) m.ident (words_of counts) (7 + length m.cells) n;
      count = λ k h. ap (take 4)
          (sym (drop-drop (4 * k) (7 + length m.cells + length m.ident) (((head ++ m.cells) ++ m.ident) ++ words_of counts))
          ∙ ap (drop (4 * k)) (drop_at ((head ++ m.cells) ++ m.ident) (words_of counts) (7 + length m.cells + length m.ident) d))
          ∙ words_at counts k h;
    }

pub worn_lengths : WornLengths
unfolding image_length_of worn_length_of facts_of id_size_of groups_of
worn_lengths =
    record { part_0 = (refl, refl); part_1 = (refl, refl); part_2 = (refl, refl); part_3 = (refl, refl); part_4 = (refl, refl); part_5 = (refl, refl) }
