-- The wrong ways of specs/Wrong.antt break the promises.
-- Assumes nothing.
use Prim.Native.Nat.{ℕ, zero, suc, ◌+◌, ◌%◌, ◌≤◌, ◌<◌}
use mathlib.Core.Path.{◌≡◌, ◌∙◌, sym, ap, refl, subst}
use mathlib.Core.Bool.{true, false}
use mathlib.Core.List.{List, [], ◌∷◌, ◌++◌}
use mathlib.Core.Logic.{◌⊎◌, inl, inr}
use native.Mathlib.Omega.{arith}
use lib.ListN.{length, get_or, drop, replicate, length-append, length-replicate}
use lib.Seq.{drop_at}
use lib.Dec.{eqb}
use Rattle.parts.specs.Table.{facts_of, enable_right_of}
use Rattle.parts.specs.Bytes.{AllBelow, word_end, words_of}
use Rattle.parts.specs.Refusals.{verdict_number_of}
use Rattle.parts.proofs.Bytes.{below_append, words_below}
use Rattle.parts.proofs.Claims.{refused_not}
use Rattle.image.specs.Layout.{head_of, image_of, image_length_of, part_in}
use Rattle.image.specs.Promises.{Loading, BuffersFit, Form, AcceptsOnly}
use Rattle.image.proofs.Form.{part_of_image}
use Rattle.image_worn.specs.Layout.{worn_image_of, worn_length_of, counts_in, version_in}
use Rattle.image_worn.specs.Calls.{AfterLoadWorn}
use Rattle.image_worn.proofs.Laws.{formed_is}
use Rattle.image_promises.specs.Form.{SavingWorn, LoadingWorn, Converting, made_by, CountsFit, NoneWorn, WornForm}
use Rattle.image_promises.specs.Promises.{GivesBackWorn, OldReaderRefuses, AcceptsOnlyWorn, ThereAndBack, LosesNothing}
use Rattle.image_promises.specs.Numbers.{ToPlainNumbers, Roomy}
use Rattle.image_promises.specs.Wrong.{DoneWhere, DropsCounts, LooksAtFirst, LooksAtLow, LostFirst, RefusesAll, LeavesCounts, TakesShort, TakesWorn, SavesZeros}
use Rattle.image_promises.proofs.Words.{zeros_none, zeros_below}
use Rattle.image_promises.proofs.Form.{marked_as}
use Rattle.image_promises.proofs.Image.{counts_read, part_of_worn, length_worn}
use Rattle.image_promises.proofs.Either.{form_long, form_version, form_worn, worn_long, worn_version}
use Rattle.image_promises.proofs.One.{true_not}
use Rattle.image_promises.proofs.Witness.{all, two, fresh, buffer, known, enabled, ranged, fits, sane, groups, counted, below, plain_length, worn_length_lem, worn_room, plain_room, image, form, part_is, image_room}

-- ---- ways back

-- counts that are not all zero, and are right by what is looked at
looked : (Right : List ℕ → Type 0) (back : Converting) (x y : ℕ) → x < word_end → y < word_end → (NoneWorn (two x y) → ⊥) → Right (two x y) → LosesNothing back → DoneWhere Right back → ⊥
unfolding form
looked Right back x y h k some right kept d =
    some ((kept (image x y) buffer (form x y h k) (image_room x y)).only (d (image x y) buffer (form x y h k) right (image_room x y)))

one_first : NoneWorn (two 1 0) → ⊥
one_first z = omega (arith, z 0)

pub drops_breaks : (back : Converting) → LosesNothing back → DropsCounts back → ⊥
drops_breaks back = looked (λ counts. Unit {0}) back 1 0 (omega arith) (omega arith) one_first tt

pub first_breaks : (back : Converting) → LosesNothing back → LooksAtFirst back → ⊥
first_breaks back = looked (λ counts. get_or counts 0 0 ≡ 0) back 0 1 (omega arith) (omega arith) (λ z. omega (arith, z 1)) refl

low_zero : (n : ℕ) → get_or (two 256 0) n 0 % 256 ≡ 0
low_zero zero = refl
low_zero (suc zero) = refl
low_zero (suc (suc n)) = ap (λ (x : ℕ). x % 256) (zeros_none 2046 n)

pub low_breaks : (back : Converting) → LosesNothing back → LooksAtLow back → ⊥
low_breaks back = looked (λ counts. (n : ℕ) → get_or counts n 0 % 256 ≡ 0) back 256 0 (omega arith) (omega arith) (λ z. omega (arith, z 0)) low_zero

pub refuses_back_breaks : (back : Converting) → LosesNothing back → RefusesAll back → ⊥
unfolding form
refuses_back_breaks back kept r =
    let f = form 0 0 (omega arith) (omega arith) in
    let z : NoneWorn (two 0 0) = zeros_none 2048 in
    refused_not (sym (r (image 0 0) buffer) ∙ (kept (image 0 0) buffer f (image_room 0 0)).done z)

pub refuses_there_breaks : (there back : Converting) → ThereAndBack there back → RefusesAll there → ⊥
refuses_there_breaks there back kept r =
    let l = image_of 0 false (all 0) in
    let f : Form l = record { part = 0; lock = false; stored = all 0; known = known; fits = fits 0; lockable = λ e. cc; bytes = refl } in
    let p : 0 ≡ part_in l = sym (part_of_image 0 false (all 0)) in
    let long : length l ≡ 2071 = form_long l f ∙ ap (λ (x : ℕ). image_length_of (facts_of x)) (sym p) ∙ plain_length in
    refused_not (sym (r l buffer) ∙ (kept l buffer buffer f (subst (λ (x : ℕ). worn_length_of (facts_of x) ≤ length buffer) p worn_room) (omega (arith, long, plain_room, plain_length))).0)

-- ---- 21 before 12: an image with a count, and a mark that is none

bare : List ℕ
bare = (0 ∷ 0x50 ∷ 0x52 ∷ 0x00 ∷ 0x02 ∷ 0 ∷ 0 ∷ []) ++ replicate 2064 0

bare_length : length bare ≡ 2071
unfolding bare
bare_length = let n = length-replicate {A = ℕ} 2064 0 in omega (arith, n)

unmarked : List ℕ
unmarked = bare ++ words_of (two 1 0)

unmarked_part : part_in unmarked ≡ 0
unfolding unmarked bare part_in
unmarked_part = refl

unmarked_bytes : AllBelow 256 unmarked
unfolding unmarked bare
unmarked_bytes =
    below_append 256 bare (words_of (two 1 0)) (omega arith, (omega arith, (omega arith, (omega arith, (omega arith, (omega arith, (omega arith, zeros_below 2064 256 (omega arith)))))))) (words_below (two 1 0))

unmarked_named : 6 ≤ length unmarked
unfolding unmarked
unmarked_named = omega (arith, length-append bare (words_of (two 1 0)), bare_length)

unmarked_roomy : Roomy (image_length_of (facts_of (part_in unmarked))) unmarked buffer
unmarked_roomy =
    record { named = unmarked_named; known = omega (arith, unmarked_part); room = subst (λ (p : ℕ). image_length_of (facts_of p) ≤ length buffer) (sym unmarked_part) plain_room }

unmarked_version : version_in unmarked ≡ 0x02
unfolding unmarked bare version_in
unmarked_version = refl

unmarked_rest : drop (image_length_of (facts_of (part_in unmarked))) unmarked ≡ words_of (two 1 0)
unfolding unmarked
unmarked_rest =
    let n : length bare ≡ image_length_of (facts_of (part_in unmarked)) = bare_length ∙ sym plain_length ∙ ap (λ (p : ℕ). image_length_of (facts_of p)) (sym unmarked_part) in
    drop_at bare (words_of (two 1 0)) (image_length_of (facts_of (part_in unmarked))) n

unmarked_counts : counts_in (facts_of (part_in unmarked)) unmarked ≡ two 1 0
unmarked_counts =
    counts_read (facts_of (part_in unmarked)) unmarked (two 1 0) unmarked_version unmarked_rest (subst (λ (p : ℕ). CountsFit p (two 1 0)) (sym unmarked_part) (counted 1 0))
    (below 1 0 (omega arith) (omega arith))

unmarked_none : WornForm unmarked → ⊥
unfolding unmarked bare
unmarked_none f =
    let w = formed_is 0x02 (worn_length_of (facts_of (part_in unmarked))) (facts_of (part_in unmarked)) unmarked (form_worn unmarked f) in
    let m = marked_as 0x02 unmarked w.marked in
    true_not {b = eqb 0 0x45} refl m.at_0

pub lost_first_breaks : (back : Converting) → ToPlainNumbers back → LostFirst back → ⊥
lost_first_breaks back kept lost =
    let some : (NoneWorn (counts_in (facts_of (part_in unmarked)) unmarked) → ⊥) = λ z. one_first (subst NoneWorn unmarked_counts z) in
    let a = lost unmarked buffer unmarked_roomy some in
    let b = (kept unmarked buffer unmarked_bytes).bad_image unmarked_roomy unmarked_none in
    let z : ◌≡◌ {A = ℕ} 21 12 = ap verdict_number_of (sym a ∙ b) in
    omega (arith, z)

-- ---- loaders

module _ (save : SavingWorn) (load : LoadingWorn) (kept : GivesBackWorn save load) where
  saved : ℕ → List ℕ
  saved x = made_by (save 0 fresh (all 0) (two x 0) buffer)

  back : (x : ℕ) → x < word_end → (load (saved x) 0 (all 0) (two 0 0)).counts ≡ two x 0
  unfolding saved
  back x h =
      ap (λ (r : AfterLoadWorn). r.counts)
      (kept 0 0 fresh (all 0) (all 0) (two x 0) (two 0 0) buffer known enabled ranged (fits 0) (fits 0) (counted x 0) (below x 0 h (omega arith)) (counted 0 0) worn_room).1

  apart : two 0 0 ≡ two 1 0 → ⊥
  apart e = let z : ◌≡◌ {A = ℕ} 0 1 = ap (λ (l : List ℕ). get_or l 0 0) e in omega (arith, z)

  pub leaves_breaks : LeavesCounts load → ⊥
  leaves_breaks h = apart (sym (h (saved 1) 0 (all 0) (two 0 0)) ∙ back 1 (omega arith))

  -- the same image for both
  pub zeros_breaks : SavesZeros save → ⊥
  unfolding saved
  zeros_breaks h =
      let n : length (two 1 0) ≡ 2048 = let k = length-replicate {A = ℕ} 2046 0 in omega (arith, k) in
      let same : saved 1 ≡ saved 0 = ap made_by (h 0 fresh (all 0) (two 1 0) buffer ∙ ap (λ (k : ℕ). save 0 fresh (all 0) (replicate k 0) buffer) n) in
      apart (sym (back 0 (omega arith)) ∙ ap (λ (l : List ℕ). (load l 0 (all 0) (two 0 0)).counts) (sym same) ∙ back 1 (omega arith))

-- ---- four bytes short: no image has this length

short : List ℕ
short = worn_image_of 0 false (all 0) (replicate 2047 0)

short-part : part_in short ≡ 0
unfolding short
short-part = part_of_worn 0 false (all 0) (replicate 2047 0)

short_length : length short ≡ 10259
unfolding short
short_length =
    let n = length-replicate {A = ℕ} 2047 0 in
    omega (arith, length_worn 0 false (all 0) (replicate 2047 0) (fits 0), plain_length, n)

short_bytes : AllBelow 256 short
unfolding short worn_image_of all
short_bytes =
    let z : (n : ℕ) → AllBelow 256 (replicate n 0) = λ n. zeros_below n 256 (omega arith) in
    below_append 256 ((head_of 0x02 0 false ++ replicate 2048 0) ++ replicate 16 0) (words_of (replicate 2047 0))
    (below_append 256 (head_of 0x02 0 false ++ replicate 2048 0) (replicate 16 0) (omega arith, (omega arith, (omega arith, (omega arith, (omega arith, (omega arith, (omega arith, z 2048))))))) (z 16))
    (words_below (replicate 2047 0))

short_none : Form short ⊎ WornForm short → ⊥
short_none (inl f) = omega (arith, form_long short f ∙ ap (λ (p : ℕ). image_length_of (facts_of p)) short-part ∙ plain_length, short_length)
short_none (inr f) = omega (arith, worn_long short f ∙ ap (λ (p : ℕ). worn_length_of (facts_of p)) short-part ∙ worn_length_lem, short_length)

pub short_read_breaks : (load : LoadingWorn) → AcceptsOnlyWorn load → TakesShort load → ⊥
unfolding short
short_read_breaks load kept takes =
    let n = length-replicate {A = ℕ} 2047 0 in
    let v = takes 0 0 false (all 0) (all 0) (replicate 2047 0) (two 0 0) (sane 0) (omega (arith, n, groups)) enabled (fits 0) (counted 0 0) in
    short_none (kept short 0 (all 0) (two 0 0) short_bytes v)

-- ---- the reader of version 1

module _ (plain : Loading) (takes : TakesWorn plain) where
  f : WornForm (image 0 0)
  f = form 0 0 (omega arith) (omega arith)

  p : 0 ≡ part_in (image 0 0)
  p = sym (part_is 0 0)

  right : enable_right_of (facts_of (part_in (image 0 0))) 0 ≡ true
  right = subst (λ (x : ℕ). enable_right_of (facts_of x) 0 ≡ true) p enabled

  fit : BuffersFit (part_in (image 0 0)) (all 0)
  fit = subst (λ (x : ℕ). BuffersFit x (all 0)) p (fits 0)

  pub takes_worn_breaks : OldReaderRefuses plain → ⊥
  takes_worn_breaks kept = refused_not (sym (kept (image 0 0) 0 (all 0) f right fit).0 ∙ takes (image 0 0) 0 (all 0) f right fit)

  pub takes_worn_breaks_old : AcceptsOnly plain → ⊥
  takes_worn_breaks_old kept =
      let g = kept (image 0 0) 0 (all 0) (takes (image 0 0) 0 (all 0) f right fit) in
      let z : ◌≡◌ {A = ℕ} 1 2 = sym (form_version (image 0 0) g) ∙ worn_version (image 0 0) f in
      omega (arith, z)
