-- Laws that the proofs of the write side share: digits one after another, a part written behind what stands already, rows, and what a call that
-- is not refused has.
-- Assumes nothing.
use Rattle.std.specs.Prelude.{Ok}
use Prim.Native.Nat.{ℕ, zero, suc, ◌+◌, ◌-◌, ◌*◌, ◌/◌, ◌%◌, ◌≤◌, ◌<◌}
use mathlib.Core.Path.{◌≡◌, refl, sym, ap, ◌∙◌}
use mathlib.Core.List.{List, [], ◌∷◌, ◌++◌, append-nil, append_assoc}
use native.Mathlib.Numerals.{add-one}
use native.Mathlib.Nat.{add-zero, zero-add, suc-mul, add-sub_cancel_left}
use native.Mathlib.Omega.{arith}
use lib.ListN.{length, get_or, take, drop, set, length-append, length-drop, drop_of_length-le}
use lib.Seq.{sets, sets-eq, set_at, set_split, take_at, drop_at, take-suc, take_all, drop-cons, drop-drop, drop-append-add, length-take-le}
use lib.Dec.{eqb, ltb}
use borrow.Author.Tests.{eqb-true, ltb-false}
use Rattle.parts.specs.declared.Facts.{Facts}
use Rattle.parts.specs.declared.Refusal.TheVariants.{ShortBuffer}
use Rattle.parts.specs.Table.{facts_of, id_size_of, buffers_right_of}
use Rattle.parts.specs.Refusals.{claim_of}
use Rattle.parts.proofs.Laws.{sound}
use Rattle.parts.proofs.Claims.{claim_fine, sooner_fine, lent_fine}
use Rattle.parts.proofs.Tests.{both}
use Rattle.hexfile.proofs.Values.{sum-append}
use Rattle.text.specs.Digits.{hex_of}
use Rattle.hexfile.specs.Record.{sum_of, end_bytes}
use Rattle.hexfile.specs.Written.{digits_of, check_of, body_of, line_of, row_of, rows_of, text_of, text_length_of}
use Rattle.hexfile.specs.Calls.{array_verdict_of, write_verdict_of}

-- ---- digits and sums

pub digits_append : (v w : List ℕ) → digits_of (v ++ w) ≡ digits_of v ++ digits_of w
digits_append [] w = refl
digits_append (x ∷ v) w = rw (digits_append v w)

pub digits_length : (v : List ℕ) → length (digits_of v) ≡ 2 * length v
digits_length [] = refl
digits_length (x ∷ v) = omega (arith, digits_length v)

pub sum_step : (b : List ℕ) (i : ℕ) → i < length b → sum_of (take i b) + get_or b i 0 ≡ sum_of (take (i + 1) b)
sum_step b i h = rw (add-one, take-suc b i 0, sum-append) (omega arith)

drop_past : (a o : List ℕ) (n m : ℕ) → length a ≡ n → drop (n + m) (a ++ drop n o) ≡ drop (n + m) o
drop_past a o n m e = rw (← e, drop-append-add, drop-drop)

module _ (o o₀ b : List ℕ) (i : ℕ) (e : o ≡ digits_of (take i b) ++ drop (2 * i) o₀) (h : i < length b) (l : length o ≡ 2 * length b) where
  before : length (digits_of (take i b)) ≡ 2 * i
  before = digits_length (take i b) ∙ rw (length-take-le i b (omega arith))

  pub digits_step : sets o (2 * i) (hex_of (get_or b i 0)) ≡ digits_of (take (i + 1) b) ++ drop (2 * (i + 1)) o₀
  digits_step =
      let two : 2 * (i + 1) ≡ 2 * i + 2 = omega arith in
      let on : digits_of (take (i + 1) b) ≡ digits_of (take i b) ++ hex_of (get_or b i 0) = rw (add-one, take-suc b i 0, digits_append) in
      sets-eq (hex_of (get_or b i 0)) o (2 * i) (omega arith)
      ∙ rw (e, take_at (digits_of (take i b)) (drop (2 * i) o₀) (2 * i) before, drop_past (digits_of (take i b)) o₀ (2 * i) 2 before, two, on)

-- all bytes written over a buffer that has no room for more
pub digits_end : (o o₀ b : List ℕ) (i : ℕ) → o ≡ digits_of (take i b) ++ drop (2 * i) o₀ → i ≤ length b → length b ≤ i → length o₀ ≡ 2 * length b
    → o ≡ digits_of b
digits_end o o₀ b i e h k l =
    let short : length o₀ ≤ 2 * i = omega arith in
    e ∙ rw (take_all i b k, drop_of_length-le o₀ short, append-nil)

-- ---- a part written behind what stands already

-- a list with others in the place of k elements from a on
abbrev pub mid_put : ℕ → ℕ → List ℕ → List ℕ → List ℕ
mid_put a k l y = take a l ++ (y ++ drop k (drop a l))

pub mid_next : (p y o : List ℕ) (a k : ℕ) → length p ≡ a → mid_put a k (p ++ drop a o) y ≡ (p ++ y) ++ drop (a + k) o
mid_next p y o a k e = rw (take_at p (drop a o) a e, drop_at p (drop a o) a e, drop-drop, append_assoc)

set_last : (p o : List ℕ) (n x : ℕ) → length p ≡ n → length o ≡ suc n → set (p ++ drop n o) n x ≡ p ++ (x ∷ [])
set_last p o n x e l =
    let in_list : n < length o = omega arith in
    let none : length o ≤ suc n = omega arith in
    rw (drop-cons o n 0, drop_of_length-le o none) (set_at p (get_or o n 0) [] x n e)

-- ---- a line

line_first : (o y : List ℕ) (k : ℕ) → 0 < length o → mid_put 1 k (set o 0 58) y ≡ (58 ∷ y) ++ drop (1 + k) o
line_first o y k h = ap (λ (z : List ℕ). mid_put 1 k z y) (set_split o 0 58 h) ∙ ap (λ (z : List ℕ). 58 ∷ (y ++ z)) (drop-drop k 1 o)

abbrev head_bytes : ℕ → List ℕ
head_bytes a = 16 ∷ a / 256 ∷ a % 256 ∷ 0 ∷ []

module _ (a : ℕ) (d o f g l : List ℕ) (h s c : ℕ)
    (lo : length o ≡ 44)
    (ld : length d ≡ 16)
    (hf : f ≡ digits_of (head_bytes a))
    (hh : h ≡ sum_of (head_bytes a))
    (hg : g ≡ digits_of d)
    (hs : s ≡ sum_of d)
    (hc : c ≡ check_of (h + s))
    (hl : l ≡ digits_of (c ∷ [])) where
  sums : h + s ≡ sum_of (body_of a d)
  sums = omega arith

  pieces : digits_of (body_of a d ++ (check_of (sum_of (body_of a d)) ∷ [])) ≡ f ++ g ++ l
  pieces = rw (digits_append (body_of a d), hf, hg, hl, hc, sums, ld)

  pub row_written : set (mid_put 41 2 (mid_put 9 32 (mid_put 1 8 (set o 0 58) f) g) l) 43 10 ≡ row_of a d
  unfolding row_of
  row_written =
      let nf : length f ≡ 8 = rw hf refl in
      let ng : length g ≡ 32 = rw hg (omega (arith, digits_length d)) in
      let nl : length l ≡ 2 = rw hl refl in
      let n : length (f ++ g) ≡ 40 = omega (arith, length-append f g) in
      let m : length (f ++ g ++ l) ≡ 42 = omega (arith, length-append (f ++ g) l) in
      let two = ap (λ (z : List ℕ). mid_put 9 32 z g) (line_first o f 8 (omega arith)) ∙ mid_next (58 ∷ f) g o 9 32 (omega arith) in
      let three = ap (λ (z : List ℕ). mid_put 41 2 z l) two ∙ mid_next (58 ∷ (f ++ g)) l o 41 2 (omega arith) in
      ap (λ (z : List ℕ). set z 43 10) three
      ∙ set_last (58 ∷ (f ++ g ++ l)) o 43 10 (omega arith) lo
      ∙ ap (λ (v : List ℕ). 58 ∷ (v ++ (10 ∷ []))) (sym pieces)

pub end_written : (o y : List ℕ) → length o ≡ 12 → y ≡ digits_of end_bytes → set (mid_put 1 10 (set o 0 58) y) 11 10 ≡ line_of end_bytes
end_written o y lo e =
    let ny : length y ≡ 10 = rw e refl in
    ap (λ (z : List ℕ). set z 11 10) (line_first o y 10 (omega arith))
    ∙ set_last (58 ∷ y) o 11 10 (omega arith) lo
    ∙ ap (λ (v : List ℕ). 58 ∷ (v ++ (10 ∷ []))) e

-- ---- rows

pub row_length : (a : ℕ) (d : List ℕ) → length d ≡ 16 → length (row_of a d) ≡ 44
unfolding row_of
row_length a d e =
    let v : List ℕ = body_of a d ++ (check_of (sum_of (body_of a d)) ∷ []) in
    let n : length v ≡ 21 = omega (arith, length-append (body_of a d) (check_of (sum_of (body_of a d)) ∷ [])) in
    omega (arith, length-append (digits_of v) (10 ∷ []), digits_length v)

pub rows_length : (i a : ℕ) (m : List ℕ) → i * 16 ≤ length m → length (rows_of i a m) ≡ i * 44
rows_length zero a m h = omega arith
rows_length (suc i) a m h =
    let one = row_length a (take 16 m) (length-take-le 16 m (omega (arith, suc-mul i 16))) in
    omega
    (arith, suc-mul i 16, suc-mul i 44, length-append (row_of a (take 16 m)) (rows_of i (a + 16) (drop 16 m)), rows_length i (a + 16) (drop 16 m) (omega (arith, suc-mul i 16, length-drop 16 m)))

rows_more : (i a : ℕ) (m : List ℕ) → rows_of (suc i) a m ≡ rows_of i a m ++ row_of (a + i * 16) (take 16 (drop (i * 16) m))
rows_more zero a m = rw (add-zero a) (append-nil (row_of a (take 16 m)))
rows_more (suc i) a m =
    let at : a + 16 + i * 16 ≡ a + suc i * 16 = omega (arith, suc-mul i 16) in
    let from : 16 + i * 16 ≡ suc i * 16 = omega (arith, suc-mul i 16) in
    ap (λ (l : List ℕ). row_of a (take 16 m) ++ l) (rows_more i (a + 16) (drop 16 m))
    ∙ rw (drop-drop, at, from, append_assoc)

-- one row more
pub rows_step : (o o₀ m y : List ℕ) (i : ℕ) → o ≡ rows_of i 0 m ++ drop (i * 44) o₀ → i * 16 ≤ length m
    → y ≡ row_of (i * 16) (take (i * 16 + 16 - i * 16) (drop (i * 16) m))
    → mid_put (i * 44) (i * 44 + 44 - i * 44) o y ≡ rows_of (i + 1) 0 m ++ drop ((i + 1) * 44) o₀
rows_step o o₀ m y i e h k =
    let n : (i + 1) * 44 ≡ i * 44 + 44 = omega arith in
    let r : rows_of (i + 1) 0 m ≡ rows_of i 0 m ++ y = rw (add-one, k, add-sub_cancel_left) (rows_more i 0 m ∙ rw zero-add) in
    rw (e, add-sub_cancel_left, n, r) (mid_next (rows_of i 0 m) y o₀ (i * 44) 44 (rows_length i 0 m h))

pub rows_end : (o o₀ m : List ℕ) (i n : ℕ) → o ≡ rows_of i 0 m ++ drop (i * 44) o₀ → i ≤ n → n ≤ i → o ≡ rows_of n 0 m ++ drop (n * 44) o₀
rows_end o o₀ m i n e h k = let same : n ≡ i = omega arith in rw same e

-- the end record behind the rows
pub text_written : (o o₀ m y : List ℕ) → o ≡ rows_of (length m / 16) 0 m ++ drop (length m / 16 * 44) o₀ → y ≡ line_of end_bytes
    → mid_put (length m / 16 * 44) (length m / 16 * 44 + 12 - length m / 16 * 44) o y ≡ text_of (length m) m ++ drop (text_length_of (length m)) o₀
unfolding text_of text_length_of
text_written o o₀ m y e k =
    rw (e, add-sub_cancel_left, ← k) (mid_next (rows_of (length m / 16) 0 m) y o₀ (length m / 16 * 44) 12 (rows_length (length m / 16) 0 m (omega arith)))

-- ---- what a call that is not refused has

pub array_is : (f : Facts) (n : ℕ) → array_verdict_of f n ≡ Ok tt → n ≡ f.size
unfolding array_verdict_of buffers_right_of
array_is f n h = eqb-true n f.size (both (eqb n f.size) (eqb (id_size_of f) (id_size_of f)) (lent_fine f n (id_size_of f) h).1).0

pub write_fine : (part n room : ℕ) → write_verdict_of (facts_of part) n room ≡ Ok tt
    → (n ≡ (facts_of part).size) × (n ≤ 65536) × (text_length_of n ≤ room)
unfolding write_verdict_of
write_fine part n room h =
    let (lent, short) = sooner_fine (array_verdict_of (facts_of part) n) (claim_of (ltb room (text_length_of (facts_of part).size)) ShortBuffer) h in
    let e = array_is (facts_of part) n lent in
    let most = (sound part).size_most in
    (e, omega arith, rw e (ltb-false room (text_length_of (facts_of part).size) (claim_fine _ ShortBuffer short)))
