-- Laws that the proofs of the code share: counts as bytes and back, the stored part of either version, and what a call that is not refused has.
-- Assumes nothing.
use Rattle.std.specs.Prelude.{Ok, Err}
use Prim.Native.Nat.{ℕ, zero, suc, ◌+◌, ◌-◌, ◌*◌, ◌≤◌, ◌<◌}
use mathlib.Core.Path.{◌≡◌, ◌∙◌, sym, ap, refl}
use mathlib.Core.Bool.{Bool, true, false, not, cond, ◌&&◌}
use mathlib.Core.List.{List, [], ◌∷◌, ◌++◌, append-nil, append_assoc}
use native.Mathlib.Numerals.{add-one}
use native.Mathlib.Omega.{arith}
use lib.ListN.{length, get_or, take, drop, set, replicate, length-set, length-append, length-take, length-drop, drop_of_length-le}
use lib.Seq.{sets, sets-eq, take_all, take-suc, take_at, take-take, take-set-lt, drop-set-lt, drop-append-add, drop-drop, drop-cons, set_at, set-append_left, get_or-drop, append_snoc}
use lib.Dec.{eqb, ltb}
use borrow.Author.Tests.{eqb-true, eq-eqb, ne_eqb, ltb-true, ltb-false, lt-ltb}
use Rattle.parts.specs.declared.Facts.{Facts}
use Rattle.parts.specs.declared.Refusal.TheVariants.{NoPart, WrongEnable, ShortBuffer, BadImage, CountsLost}
use Rattle.parts.specs.Table.{facts_of, groups_of, enable_right_of}
use Rattle.parts.specs.Sound.{Sound}
use Rattle.parts.specs.Refusals.{rank_of, claim_of, sooner_of, lent_verdict_of}
use Rattle.parts.specs.Bytes.{word_of, words_of, word_joined_of, number_in, all_below_of, copied_of}
use Rattle.parts.proofs.Bytes.{copy_first}
use Rattle.parts.proofs.Laws.{passed}
use Rattle.parts.proofs.Tests.{both, and_both}
use Rattle.parts.proofs.Claims.{claim_fine, right_fine, sooner_fine, lent_fine, later_claim, given_first}
use Rattle.state.specs.declared.Chip.{Chip}
use Rattle.chip.specs.Memory.{Mem}
use Rattle.chip.proofs.Laws.{buffers_are}
use Rattle.wear.specs.Calls.{counts_verdict_of}
use Rattle.wear.proofs.Laws.{counts_fine}
use Rattle.image.specs.Layout.{image_of, image_length_of, part_in, stored_in, mark_right_of, lock_byte_right_of, formed_as, formed_of}
use Rattle.image.specs.Calls.{save_verdict_of}
use Rattle.image.specs.Promises.{BuffersFit}
use Rattle.image.proofs.Laws.{id_most, part_cells, part_ident}
use Rattle.image.proofs.Form.{length_of_image}
use Rattle.image_worn.specs.Layout.{worn_image_of, worn_length_of, version_in, worn_formed_of, plain_in, words_in, counts_in, as_version, worn_from, plain_from, all_zero_of}
use Rattle.image_worn.specs.Calls.{save_worn_verdict_of, either_formed_of, judged_worn_of, load_worn_verdict_of, to_worn_verdict_of, to_plain_verdict_of}

-- ---- numbers to bytes

pub words_length : (xs : List ℕ) → length (words_of xs) ≡ 4 * length xs
words_length [] = refl
words_length (x ∷ xs) = let e = words_length xs in omega (arith, e)

words_snoc : (xs : List ℕ) (x : ℕ) → words_of (xs ++ (x ∷ [])) ≡ words_of xs ++ word_of x
words_snoc [] x = refl
words_snoc (y ∷ xs) x = ap (λ (t : List ℕ). word_of y ++ t) (words_snoc xs x)

-- one more is put
pub put_step : (o o₀ s : List ℕ) (i at : ℕ) → o ≡ words_of (take i s) ++ drop (4 * i) o₀ → at ≡ 4 * i → i < length s → length o₀ ≡ 4 * length s
    → sets o at (word_of (get_or s i 0)) ≡ words_of (take (i + 1) s) ++ drop (4 * (i + 1)) o₀
put_step o o₀ s i at e k h l =
    let w = word_of (get_or s i 0) in
    let front : length (words_of (take i s)) ≡ 4 * i = words_length (take i s) ∙ simp length-take (omega arith) in
    let long : length o ≡ length o₀ = ap (λ (t : List ℕ). length t) e ∙ simp (length-append, length-drop) (omega (arith, front)) in
    let room : at + 4 ≤ length o = omega arith in
    let next : 4 * i + 4 ≡ 4 * (i + 1) = omega arith in
    let more : words_of (take (i + 1) s) ≡ words_of (take i s) ++ w = rw (add-one, take-suc s i 0 h) (words_snoc (take i s) (get_or s i 0)) in
    let rest : drop (4 * i + 4) (words_of (take i s) ++ drop (4 * i) o₀) ≡ drop (4 * (i + 1)) o₀ =
    ap (λ (n : ℕ). drop (n + 4) (words_of (take i s) ++ drop (4 * i) o₀)) (sym front) ∙ drop-append-add (words_of (take i s)) (drop (4 * i) o₀) 4 ∙ drop-drop 4 (4 * i) o₀ ∙ ap (λ (n : ℕ). drop n o₀) next in
    sets-eq w o at room ∙ rw (more, e, k, take_at (words_of (take i s)) (drop (4 * i) o₀) (4 * i) front, rest)

mid_sets : (o w : List ℕ) (at k : ℕ) → k ≡ length w → at + length w ≤ length o → take at o ++ (w ++ drop k (drop at o)) ≡ sets o at w
mid_sets o w at k q r = rw (q, drop-drop (length w) at o) (sym (append_assoc (take at o) w (drop (at + length w) o)) ∙ sym (sets-eq w o at r))

-- a word written over a part of the buffer
pub put_mid_step : (o o₀ s : List ℕ) (i k : ℕ) (w : List ℕ) → o ≡ words_of (take i s) ++ drop (4 * i) o₀ → i < length s → length o₀ ≡ 4 * length s → k ≡ 4
    → w ≡ word_of (get_or s i 0) → take (4 * i) o ++ (w ++ drop k (drop (4 * i) o)) ≡ words_of (take (i + 1) s) ++ drop (4 * (i + 1)) o₀
put_mid_step o o₀ s i k w e h l q x =
    let front : length (words_of (take i s)) ≡ 4 * i = words_length (take i s) ∙ simp length-take (omega arith) in
    let long : length o ≡ length o₀ = ap (λ (t : List ℕ). length t) e ∙ simp (length-append, length-drop) (omega (arith, front)) in
    let room : 4 * i + 4 ≤ length o = omega arith in
    ap (λ (v : List ℕ). take (4 * i) o ++ (v ++ drop k (drop (4 * i) o))) x ∙ mid_sets o (word_of (get_or s i 0)) (4 * i) k q room ∙ put_step o o₀ s i (4 * i) e refl h l

pub put_end : (o o₀ s : List ℕ) (i : ℕ) → o ≡ words_of (take i s) ++ drop (4 * i) o₀ → length s ≤ i → length o₀ ≡ 4 * length s → o ≡ words_of s
put_end o o₀ s i e h l =
    let short : length o₀ ≤ 4 * i = omega arith in
    e ∙ rw (take_all i s h, drop_of_length-le o₀ short, append-nil)

-- ---- and back

-- one more is taken
words_in_suc : (n : ℕ) (l : List ℕ) → words_in (suc n) l ≡ words_in n l ++ (number_in l (4 * n) ∷ [])
words_in_suc zero l = refl
words_in_suc (suc n) l =
    let at : (k : ℕ) → get_or (drop 4 l) (4 * n + k) 0 ≡ get_or l (4 * suc n + k) 0 = λ k. get_or-drop 4 l (4 * n + k) 0 ∙ ap (λ (i : ℕ). get_or l i 0) (shift n k) in
    let zeroth : get_or (drop 4 l) (4 * n) 0 ≡ get_or l (4 * suc n) 0 = get_or-drop 4 l (4 * n) 0 ∙ ap (λ (i : ℕ). get_or l i 0) (step n) in
    let same : number_in (drop 4 l) (4 * n) ≡ number_in l (4 * suc n) = rw (zeroth, at 1, at 2, at 3) refl in
    ap (λ (t : List ℕ). number_in l 0 ∷ t) (words_in_suc n (drop 4 l) ∙ ap (λ (x : ℕ). words_in n (drop 4 l) ++ (x ∷ [])) same)
  where
    shift : (n k : ℕ) → 4 + (4 * n + k) ≡ 4 * suc n + k
    shift n k = omega arith

    step : (n : ℕ) → 4 + 4 * n ≡ 4 * suc n
    step n = omega arith

pub words_in_length : (n : ℕ) (l : List ℕ) → length (words_in n l) ≡ n
words_in_length zero l = refl
words_in_length (suc n) l = ap suc (words_in_length n (drop 4 l))

pub take_step : (c c₀ l : List ℕ) (i at : ℕ) → c ≡ words_in i l ++ drop i c₀ → at ≡ 4 * i → i < length c₀
    → set c i (number_in l at) ≡ words_in (i + 1) l ++ drop (i + 1) c₀
take_step c c₀ l i at e k h =
    let x = number_in l (4 * i) in
    let one : set c i (number_in l at) ≡ set (words_in i l ++ get_or c₀ i 0 ∷ drop (suc i) c₀) i x = rw (e, k, drop-cons c₀ i 0 h) refl in
    let two : words_in (suc i) l ++ drop (suc i) c₀ ≡ words_in (i + 1) l ++ drop (i + 1) c₀ = ap (λ (n : ℕ). words_in n l ++ drop n c₀) (sym (add-one i)) in
    one ∙ set_at (words_in i l) (get_or c₀ i 0) (drop (suc i) c₀) x i (words_in_length i l) ∙ sym (append_snoc (words_in i l) x (drop (suc i) c₀))
    ∙ ap (λ (t : List ℕ). t ++ drop (suc i) c₀) (sym (words_in_suc i l)) ∙ two

pub take_end : (c c₀ l : List ℕ) (i : ℕ) → c ≡ words_in i l ++ drop i c₀ → i ≤ length c₀ → length c₀ ≤ i → c ≡ words_in (length c₀) l
take_end c c₀ l i e h k =
    let same : i ≡ length c₀ = omega arith in
    e ∙ rw (drop_of_length-le c₀ k, append-nil, same)

-- ---- lengths

pub length_least : (f : Facts) → 7 ≤ image_length_of f
unfolding image_length_of
length_least f = omega arith

pub worn_is : (f : Facts) → worn_length_of f ≡ image_length_of f + 4 * groups_of f
unfolding worn_length_of
worn_is f = refl

pub length_most : (f : Facts) → Sound f → image_length_of f ≤ 32839
unfolding image_length_of
length_most f s = omega (arith, s.size_most, id_most f s.page_most)

-- ---- a part in the middle

mid : (a n k : ℕ) (l : List ℕ) → a + n ≤ k → take n (drop a (take k l)) ≡ take n (drop a l)
mid zero n k l h = take-take n k l (omega arith)
mid (suc a) n zero l h = absurd (omega arith)
mid (suc a) n (suc k) [] h = refl
mid (suc a) n (suc k) (x ∷ l) h = mid a n k l (omega arith)

-- what stands before the counts
module _ (f : Facts) (l : List ℕ) (n d : ℕ) (size : n ≡ f.size) (long : image_length_of f ≡ 7 + n + d) (room : image_length_of f ≤ length l) where
  plain_length : length (plain_in f l) ≡ 7 + n + d
  plain_length = simp length-take (omega arith)

  pub mid_cells : (s : List ℕ) → length s ≡ n → copied_of s 0 (take (7 + n - 7) (drop 7 l)) ≡ (stored_in f (plain_in f l)).cells
  mid_cells s e =
      let k : 7 + n ≤ length (plain_in f l) = omega (arith, plain_length) in
      let h : 7 + (7 + n - 7) ≤ image_length_of f = omega arith in
      ap (λ (t : List ℕ). copied_of s 0 t) (sym (mid 7 (7 + n - 7) (image_length_of f) l h)) ∙ part_cells f (plain_in f l) s n size e k

  pub mid_ident : (s : List ℕ) → length s ≡ d → copied_of s 0 (take (7 + n + d - (7 + n)) (drop (7 + n) l)) ≡ (stored_in f (plain_in f l)).ident
  mid_ident s e =
      let w : length (plain_in f l) ≡ 7 + n + length s = omega (arith, plain_length) in
      let h : 7 + n + (7 + n + d - (7 + n)) ≤ image_length_of f = omega arith in
      let same : 7 + n + d - (7 + n) ≡ length (plain_in f l) - (7 + n) = omega (arith, plain_length) in
      ap (λ (t : List ℕ). copied_of s 0 t) (sym (mid (7 + n) (7 + n + d - (7 + n)) (image_length_of f) l h) ∙ ap (λ (i : ℕ). take i (drop (7 + n) (plain_in f l))) same)
      ∙ part_ident f (plain_in f l) s n size w

-- ---- what is written

-- some bytes, under another version's number, and then what was there
pub versioned : (v : ℕ) (s o : List ℕ) → 4 < length s → length s ≤ length o → set (copied_of o 0 s) 4 v ≡ as_version v s ++ drop (length s) o
versioned v s o h k = ap (λ (t : List ℕ). set t 4 v) (copy_first s o k) ∙ set-append_left s (drop (length s) o) 4 v h

past : (l o : List ℕ) (end : ℕ) → length (as_version 2 l) ≡ length l → length l ≤ end → drop end (as_version 2 l ++ drop (length l) o) ≡ drop end o
past l o end e h =
    let a : end ≡ length (as_version 2 l) + (end - length l) = omega arith in
    let b : length l + (end - length l) ≡ end = omega arith in
    ap (λ (i : ℕ). drop i (as_version 2 l ++ drop (length l) o)) a ∙ drop-append-add (as_version 2 l) (drop (length l) o) (end - length l) ∙ drop-drop (end - length l) (length l) o
    ∙ ap (λ (i : ℕ). drop i o) b

-- a part in the middle put back
pub put_back : (a v : List ℕ) (n end : ℕ) → n ≤ end → take n a ++ (v ++ drop (end - n) (drop n a)) ≡ (take n a ++ v) ++ drop end a
put_back a v n end h =
    let same : n + (end - n) ≡ end = omega arith in
    sym (append_assoc (take n a) v (drop (end - n) (drop n a))) ∙ ap (λ (t : List ℕ). (take n a ++ v) ++ t) (drop-drop (end - n) n a ∙ ap (λ (i : ℕ). drop i a) same)

-- ---- whether all counts are zero

same_test : (x y : Bool) → (x ≡ true → y ≡ true) → (y ≡ true → x ≡ true) → x ≡ y
same_test true y f g = sym (f refl)
same_test false true f g = g refl
same_test false false f g = refl

-- four bytes at once
four : (a b c d : ℕ) → ((((true && ltb a 1) && ltb b 1) && ltb c 1) && ltb d 1) ≡ eqb (word_joined_of a b c d) 0
four a b c d = same_test _ (eqb (word_joined_of a b c d) 0) there back
  where
    there : ((((true && ltb a 1) && ltb b 1) && ltb c 1) && ltb d 1) ≡ true → eqb (word_joined_of a b c d) 0 ≡ true
    there h =
        let p = and_both (((true && ltb a 1) && ltb b 1) && ltb c 1) (ltb d 1) h in
        let q = and_both ((true && ltb a 1) && ltb b 1) (ltb c 1) p.0 in
        let r = and_both (true && ltb a 1) (ltb b 1) q.0 in
        let ha : a < 1 = ltb-true a 1 r.0 in
        let hb : b < 1 = ltb-true b 1 r.1 in
        let hc : c < 1 = ltb-true c 1 q.1 in
        let hd : d < 1 = ltb-true d 1 p.1 in
        eq-eqb (word_joined_of a b c d) 0 (omega arith)

    back : eqb (word_joined_of a b c d) 0 ≡ true → ((((true && ltb a 1) && ltb b 1) && ltb c 1) && ltb d 1) ≡ true
    back h =
        let z : word_joined_of a b c d ≡ 0 = eqb-true (word_joined_of a b c d) 0 h in
        let ha : a < 1 = omega arith in
        let hb : b < 1 = omega arith in
        let hc : c < 1 = omega arith in
        let hd : d < 1 = omega arith in
        rw (lt-ltb a 1 ha, lt-ltb b 1 hb, lt-ltb c 1 hc, lt-ltb d 1 hd) refl

stays_low : (l : List ℕ) → all_below_of 1 false l ≡ false
unfolding all_below_of
stays_low [] = refl
stays_low (x ∷ l) = stays_low l

-- the bytes behind, to the end
pub rest_low : (f : Facts) (l : List ℕ) (n : ℕ) → n ≡ image_length_of f → all_below_of 1 true (take (length l - n) (drop n l)) ≡ all_below_of 1 true (drop (image_length_of f) l)
rest_low f l n e =
    let short : length (drop n l) ≤ length l - n = simp length-drop (omega arith) in
    rw (take_all (length l - n) (drop n l) short, e) refl

pub none_low : (f : Facts) (l : List ℕ) → length l < image_length_of f → true ≡ all_below_of 1 true (drop (image_length_of f) l)
unfolding all_below_of
none_low f l h =
    let short : length l ≤ image_length_of f = omega arith in
    rw (drop_of_length-le l short) refl

pub zeros : (n : ℕ) (l : List ℕ) → length l ≡ 4 * n → all_below_of 1 true l ≡ all_zero_of (words_in n l)
unfolding all_below_of all_zero_of
zeros zero [] h = refl
zeros zero (x ∷ l) h = absurd (omega arith)
zeros (suc n) [] h = absurd (omega arith)
zeros (suc n) (a ∷ []) h = absurd (omega arith)
zeros (suc n) (a ∷ b ∷ []) h = absurd (omega arith)
zeros (suc n) (a ∷ b ∷ c ∷ []) h = absurd (omega arith)
zeros (suc n) (a ∷ b ∷ c ∷ d ∷ l) h =
    ap (λ (t : Bool). all_below_of 1 t l) (four a b c d) ∙ by (eqb (word_joined_of a b c d) 0) (zeros n l (omega arith))
  where
    by : (t : Bool) → all_below_of 1 true l ≡ all_zero_of (words_in n l) → all_below_of 1 t l ≡ cond t (all_zero_of (words_in n l)) false
    by true e = e
    by false e = stays_low l

-- ---- what a call that is not refused has

pub record Formed (version n : ℕ) (f : Facts) (l : List ℕ) : Type 0 where
  pub long : length l ≡ n
  pub marked : mark_right_of version l ≡ true
  pub lock : lock_byte_right_of f (get_or l 6 0) ≡ true

pub formed_is : (version n : ℕ) (f : Facts) (l : List ℕ) → formed_as version n f l ≡ true → Formed version n f l
unfolding formed_as
formed_is version n f l h =
    let a = both (eqb (length l) n) (cond (mark_right_of version l) (lock_byte_right_of f (get_or l 6 0)) false) h in
    let b = both (mark_right_of version l) (lock_byte_right_of f (get_or l 6 0)) a.1 in
    record { long = eqb-true (length l) n a.0; marked = b.0; lock = b.1 }

pub version_is : (version : ℕ) (l : List ℕ) → mark_right_of version l ≡ true → version_in l ≡ version
unfolding mark_right_of version_in
version_is version l h =
    let a = both (eqb (get_or l 0 0) 0x45) _ h in
    let b = both (eqb (get_or l 1 0) 0x50) _ a.1 in
    let c = both (eqb (get_or l 2 0) 0x52) _ b.1 in
    let e = both (eqb (get_or l 3 0) 0x00) (eqb (get_or l 4 0) version) c.1 in
    eqb-true (get_or l 4 0) version e.1

-- of either version
pub either_room : (part : ℕ) (l : List ℕ) → either_formed_of part l ≡ true
    → (image_length_of (facts_of part) ≤ length l) × (version_in l ≡ 2 → length l ≡ worn_length_of (facts_of part))
unfolding either_formed_of worn_length_of
either_room part l h = by (formed_of (facts_of part) l) refl h
  where
    by : (x : Bool) → formed_of (facts_of part) l ≡ x → cond x true (worn_formed_of (facts_of part) l) ≡ true
        → (image_length_of (facts_of part) ≤ length l) × (version_in l ≡ 2 → length l ≡ image_length_of (facts_of part) + 4 * groups_of (facts_of part))
    by true e k =
        let w = formed_is 1 (image_length_of (facts_of part)) (facts_of part) l e in
        let one = version_is 1 l w.marked in
        (omega (arith, w.long), λ two. let z : ◌≡◌ {A = ℕ} 1 2 = sym one ∙ two in absurd (omega (arith, z)))
    by false e k =
        let w = formed_is 2 (worn_length_of (facts_of part)) (facts_of part) l k in
        (omega (arith, w.long), λ two. w.long)

-- the counts of an image of version 2
pub counts_worn : (f : Facts) (l : List ℕ) → version_in l ≡ 2 → counts_in f l ≡ words_in (groups_of f) (drop (image_length_of f) l)
unfolding counts_in
counts_worn f l e = rw e refl

pub worn_counts : (f : Facts) (l : List ℕ) (k n : ℕ) → version_in l ≡ 2 → k ≡ groups_of f → n ≡ image_length_of f → words_in k (take (length l - n) (drop n l)) ≡ counts_in f l
worn_counts f l k n v e h =
    let short : length (drop n l) ≤ length l - n = simp length-drop (omega arith) in
    rw (take_all (length l - n) (drop n l) short, e, h) (sym (counts_worn f l v))

pub plain_counts : (f : Facts) (l : List ℕ) (k : ℕ) → (version_in l ≡ 2 → ⊥) → k ≡ groups_of f → replicate k 0 ≡ counts_in f l
unfolding counts_in
plain_counts f l k v e = rw (ne_eqb (version_in l) 2 v, e) refl

pub worn_rest : (f : Facts) (l : List ℕ) → length l ≡ worn_length_of f → length (drop (image_length_of f) l) ≡ 4 * groups_of f
unfolding worn_length_of
worn_rest f l h = simp length-drop (omega arith)

-- 12 goes before 21: whether bytes or counts are looked at is one, where there are counts
pub lost_same : (f : Facts) (l : List ℕ)
    → sooner_of (claim_of (not (worn_formed_of f l)) BadImage) (claim_of (not (all_below_of 1 true (drop (image_length_of f) l))) CountsLost)
    ≡ sooner_of (claim_of (not (worn_formed_of f l)) BadImage) (claim_of (not (all_zero_of (counts_in f l))) CountsLost)
lost_same f l = by (worn_formed_of f l) refl
  where
    first : (b : Bool) → sooner_of (Err BadImage) (claim_of b CountsLost) ≡ Err BadImage
    first b = given_first BadImage (claim_of b CountsLost) (later_claim (rank_of BadImage) b CountsLost (omega arith))

    same : worn_formed_of f l ≡ true → all_below_of 1 true (drop (image_length_of f) l) ≡ all_zero_of (counts_in f l)
    same e =
        let w = formed_is 2 (worn_length_of f) f l e in
        zeros (groups_of f) (drop (image_length_of f) l) (worn_rest f l w.long) ∙ ap all_zero_of (sym (counts_worn f l (version_is 2 l w.marked)))

    by : (x : Bool) → worn_formed_of f l ≡ x
        → sooner_of (claim_of (not x) BadImage) (claim_of (not (all_below_of 1 true (drop (image_length_of f) l))) CountsLost)
        ≡ sooner_of (claim_of (not x) BadImage) (claim_of (not (all_zero_of (counts_in f l))) CountsLost)
    by true e = ap (λ (b : Bool). sooner_of (Ok tt) (claim_of (not b) CountsLost)) (same e)
    by false e = first (not (all_below_of 1 true (drop (image_length_of f) l))) ∙ sym (first (not (all_zero_of (counts_in f l))))

pub record CanSaveWorn (part : ℕ) (c : Chip) (n d k room : ℕ) : Type 0 where
  pub plain : save_verdict_of part c n d room ≡ Ok tt
  pub counts : k ≡ groups_of (facts_of part)
  pub fits : worn_length_of (facts_of part) ≤ room

pub save_worn_fine : (part : ℕ) (c : Chip) (n d k room : ℕ) → save_worn_verdict_of part c n d k room ≡ Ok tt → CanSaveWorn part c n d k room
unfolding save_worn_verdict_of
save_worn_fine part c n d k room h =
    let (counted, r) = sooner_fine (counts_verdict_of (facts_of part) k) _ h in
    let (judged, short) = sooner_fine (save_verdict_of part c n d room) (claim_of (ltb room (worn_length_of (facts_of part))) ShortBuffer) r in
    record { plain = judged; counts = counts_fine (facts_of part) k counted; fits = ltb-false room (worn_length_of (facts_of part)) (claim_fine _ ShortBuffer short) }

pub record CanLoadWorn (part : ℕ) (l : List ℕ) (n d k : ℕ) : Type 0 where
  pub cells : n ≡ (facts_of part).size
  pub stored : image_length_of (facts_of part) ≡ 7 + n + d
  pub counts : k ≡ groups_of (facts_of part)
  pub either : either_formed_of part l ≡ true

pub load_worn_fine : (l : List ℕ) (enable n d k : ℕ) → load_worn_verdict_of l enable n d k ≡ Ok tt → CanLoadWorn (part_in l) l n d k
unfolding load_worn_verdict_of judged_worn_of image_length_of
load_worn_fine l enable n d k h =
    let f = facts_of (part_in l) in
    let (counted, r) = sooner_fine (counts_verdict_of f k) _ (passed (ltb (length l) 6) _ _ h).1 in
    let (lent, s) = sooner_fine (lent_verdict_of f n d) _ r in
    let (enable-right, form) = sooner_fine (claim_of (not (enable_right_of f enable)) WrongEnable) (claim_of (not (either_formed_of (part_in l) l)) BadImage) s in
    let b = buffers_are f n d (lent_fine f n d lent).1 in
    record { cells = b.0; stored = omega (arith, b.0, b.1); counts = counts_fine f k counted; either = right_fine _ BadImage form }

pub to_worn_fine : (l : List ℕ) (room : ℕ) → to_worn_verdict_of l room ≡ Ok tt
    → (length l ≡ image_length_of (facts_of (part_in l))) × (worn_length_of (facts_of (part_in l)) ≤ room)
unfolding to_worn_verdict_of
to_worn_fine l room h =
    let f = facts_of (part_in l) in
    let (known, r) = sooner_fine (claim_of (not f.known) NoPart) _ (passed (ltb (length l) 6) _ _ h).1 in
    let (short, form) = sooner_fine (claim_of (ltb room (worn_length_of f)) ShortBuffer) (claim_of (not (formed_of f l)) BadImage) r in
    ((formed_is 1 (image_length_of f) f l (right_fine _ BadImage form)).long, ltb-false room (worn_length_of f) (claim_fine _ ShortBuffer short))

pub to_plain_fine : (l : List ℕ) (room : ℕ) → to_plain_verdict_of l room ≡ Ok tt
    → (image_length_of (facts_of (part_in l)) ≤ length l) × (image_length_of (facts_of (part_in l)) ≤ room)
unfolding to_plain_verdict_of worn_length_of
to_plain_fine l room h =
    let f = facts_of (part_in l) in
    let (known, r) = sooner_fine (claim_of (not f.known) NoPart) _ (passed (ltb (length l) 6) _ _ h).1 in
    let (short, s) = sooner_fine (claim_of (ltb room (image_length_of f)) ShortBuffer) _ r in
    let (form, lost) = sooner_fine (claim_of (not (worn_formed_of f l)) BadImage) (claim_of (not (all_zero_of (counts_in f l))) CountsLost) s in
    let w = formed_is 2 (worn_length_of f) f l (right_fine _ BadImage form) in
    (omega (arith, w.long), ltb-false room (image_length_of f) (claim_fine _ ShortBuffer short))

-- ---- what a save leaves

module _ (part : ℕ) (lock : Bool) (m : Mem) (counts o p q : List ℕ) (fits : BuffersFit part m)
    (hp : p ≡ image_of part lock m ++ drop (image_length_of (facts_of part)) o)
    (hq : q ≡ (as_version 2 (plain_in (facts_of part) p) ++ words_of counts) ++ drop (worn_length_of (facts_of part)) p) where
  front : plain_in (facts_of part) p ≡ image_of part lock m
  front = ap (λ (t : List ℕ). plain_in (facts_of part) t) hp ∙ take_at (image_of part lock m) _ (image_length_of (facts_of part)) (length_of_image part lock m fits)

  rest : drop (worn_length_of (facts_of part)) p ≡ drop (worn_length_of (facts_of part)) o
  unfolding worn_length_of
  rest = rw (hp, ← length_of_image part lock m fits, drop-append-add, drop-drop) refl

  second : as_version 2 (image_of part lock m) ++ words_of counts ≡ worn_image_of part lock m counts
  unfolding image_of worn_image_of
  second = refl

  pub worn_written : q ≡ worn_image_of part lock m counts ++ drop (worn_length_of (facts_of part)) o
  worn_written = hq ∙ rw (front, rest, second) refl

-- ---- what else is written

-- the version's number and the counts, over what is there
pub worn_put : (f : Facts) (o v : List ℕ) (n end : ℕ) → n ≡ image_length_of f → end ≡ worn_length_of f
    → take n (set o 4 2) ++ (v ++ drop (end - n) (drop n (set o 4 2))) ≡ (as_version 2 (plain_in f o) ++ v) ++ drop (worn_length_of f) o
worn_put f o v n end e k =
    let least = length_least f in
    let is = worn_is f in
    let low : 4 < n = omega arith in
    let up : 4 < end = omega arith in
    put_back (set o 4 2) v n end (omega arith) ∙ rw (take-set-lt n o 4 2 low, drop-set-lt end o 4 2 up, e, k) refl

-- a plain image under the second version's number, and zeros
pub worn_from_lem : (f : Facts) (l o p v : List ℕ) (end : ℕ) → length l ≡ image_length_of f → end ≡ worn_length_of f → worn_length_of f ≤ length o → p ≡ copied_of o 0 l
    → v ≡ replicate (length (take (end - length l) (drop (length l) (set p 4 2)))) 0
    → take (length l) (set p 4 2) ++ (v ++ drop (end - length l) (drop (length l) (set p 4 2))) ≡ worn_from f l ++ drop (worn_length_of f) o
unfolding worn_from
worn_from_lem f l o p v end e k fit hp hv =
    let least = length_least f in
    let is = worn_is f in
    let low : 4 < length l = omega arith in
    let fits : length l ≤ length o = omega arith in
    let q : set p 4 2 ≡ as_version 2 l ++ drop (length l) o = ap (λ (t : List ℕ). set t 4 2) hp ∙ versioned 2 l o low fits in
    let long : length (as_version 2 l) ≡ length l = length-set l 4 2 in
    let many : end - length l ≡ 4 * groups_of f = omega arith in
    let front : take (length l) (set p 4 2) ≡ as_version 2 l = ap (λ (t : List ℕ). take (length l) t) q ∙ take_at (as_version 2 l) (drop (length l) o) (length l) long in
    let rest : drop end (set p 4 2) ≡ drop (worn_length_of f) o = ap (λ (t : List ℕ). drop end t) q ∙ past l o end long (omega arith) ∙ ap (λ (i : ℕ). drop i o) k in
    let room : length (set p 4 2) ≡ length o = ap (λ (t : List ℕ). length t) q ∙ simp (length-append, length-drop) (omega (arith, long)) in
    let all : length (take (end - length l) (drop (length l) (set p 4 2))) ≡ 4 * groups_of f = simp (length-take, length-drop) (omega (arith, room)) in
    put_back (set p 4 2) v (length l) end (omega arith) ∙ rw (front, rest, hv, all) refl

pub plain_from_lem : (f : Facts) (l o p : List ℕ) (n : ℕ) → n ≡ image_length_of f → image_length_of f ≤ length l → image_length_of f ≤ length o → p ≡ copied_of o 0 (take n l)
    → set p 4 1 ≡ plain_from f l ++ drop (image_length_of f) o
unfolding plain_from
plain_from_lem f l o p n e h k hp =
    let least = length_least f in
    let long : length (take n l) ≡ n = simp length-take (omega arith) in
    ap (λ (t : List ℕ). set t 4 1) hp ∙ versioned 1 (take n l) o (omega arith) (omega arith) ∙ rw (long, e) refl
