-- The text that is written is a file of the array's rows.
-- Assumes nothing.
use Prim.Native.Nat.{ℕ, zero, suc, ◌+◌, ◌-◌, ◌*◌, ◌/◌, ◌%◌, ◌<◌, ◌≤◌}
use mathlib.Core.Path.{◌≡◌, refl, sym, ap, ◌∙◌}
use mathlib.Core.Logic.{inl, inr}
use mathlib.Core.List.{List, [], ◌∷◌, ◌++◌, append_assoc}
use native.Mathlib.Omega.{arith}
use native.Mathlib.Nat.{suc-mul, sub-zero}
use native.Mathlib.Decide.{dec_lt}
use lib.Dec.{ltb}
use lib.ListN.{length, get_or, take, drop, length-append, length-take, length-drop}
use lib.Seq.{get_or-take, get_or-drop, ext_get_or}
use borrow.Author.Tests.{ltb-true, ltb-false}
use Rattle.parts.specs.Bytes.{AllBelow}
use Rattle.parts.specs.Table.{facts_of}
use Rattle.parts.proofs.Laws.{branch}
use Rattle.parts.proofs.Bytes.{below_append, below_take, below_drop}
use Rattle.hexfile.proofs.Values.{sum-append}
use Rattle.hexfile.proofs.Writes.{digits_length}
use Rattle.text.specs.Digits.{hex_digit_of}
use Rattle.hexfile.specs.Record.{sum_of, end_bytes}
use Rattle.hexfile.specs.Written.{digits_of, check_of, body_of, line_of, row_of, rows_of, text_of, text_length_of}
use Rattle.hexfile_promises.specs.Files.{Each, Digit, figure, capital, Digits, none, byte, Spells, GoodLine, lf, closed, Piece, Begins, rest, more, IsFile, Names, Apart, Placed, NamedBy, bytes_in}
use Rattle.hexfile_promises.specs.Promises.{size_of, Plain, rows_in, Text}

-- ---- digits

written_digit : (n : ℕ) → Digit (hex_digit_of 55 n) (n % 16) × Plain (hex_digit_of 55 n)
unfolding hex_digit_of
written_digit n =
    branch (λ (c : ℕ). Digit c (n % 16) × Plain c) (ltb (n % 16) 10)
    (λ h. let l = ltb-true (n % 16) 10 h in (figure refl l, inr (inr (inl (omega arith, omega arith)))))
    (λ h. let l = ltb-false (n % 16) 10 h in (capital refl l (omega arith), inr (inr (inr (omega arith, omega arith)))))

written_digits : (v : List ℕ) → AllBelow 256 v → Digits (digits_of v) v
written_digits [] h = none
written_digits (x ∷ v) h =
    let e : x ≡ 16 * (x / 16 % 16) + x % 16 = omega arith in
    byte (written_digit (x / 16)).0 (written_digit x).0 e (written_digits v h.1)

plain_digits : (v w : List ℕ) → Each Plain w → Each Plain (digits_of v ++ w)
plain_digits [] w h = h
plain_digits (x ∷ v) w h = ((written_digit (x / 16)).1, ((written_digit x).1, plain_digits v w h))

each_append : (v w : List ℕ) → Each Plain v → Each Plain w → Each Plain (v ++ w)
each_append [] w h g = g
each_append (x ∷ v) w h g = (h.0, each_append v w h.1 g)

line_plain : (v : List ℕ) → Each Plain (line_of v)
line_plain v = (inr (inl refl), plain_digits v (10 ∷ []) (inl refl, tt))

line_long : (v : List ℕ) → length (line_of v) ≡ 2 * length v + 2
line_long v = omega (arith, digits_length v, length-append (digits_of v) (10 ∷ []))

-- a line without its end
abbrev bare : List ℕ → List ℕ
bare v = 58 ∷ digits_of v

line_spells : (v : List ℕ) → AllBelow 256 v → Spells (bare v) v
line_spells v h = record { digits = digits_of v; colon = refl; spelled = written_digits v h }

-- ---- rows

sum-zero : (v : List ℕ) → sum_of (v ++ (check_of (sum_of v) ∷ [])) % 256 ≡ 0
unfolding check_of
sum-zero v = rw (sum-append v (check_of (sum_of v) ∷ [])) (omega arith)

module _ (a : ℕ) (d : List ℕ) where
  abbrev check : ℕ
  check = check_of (sum_of (body_of a d))

  abbrev row : List ℕ
  row = body_of a d ++ (check ∷ [])

  check_below : check < 256
  unfolding check_of
  check_below = omega arith

  row_sum : sum_of row % 256 ≡ 0
  row_sum = sum-zero (body_of a d)

  row_good : a < 65536 → length d < 256 → AllBelow 256 d → GoodLine (bare row) a d
  row_good h l b =
      record {
        formed = record { high = a / 256; low = a % 256; check = check; spells = line_spells row (l, (omega arith, (omega arith, (omega arith, below_append 256 d (check ∷ []) b (check_below, tt))))); address = omega arith };
        sum = row_sum;
      }

  row_long : length (row_of a d) ≡ 2 * length d + 12
  unfolding row_of
  row_long = omega (arith, line_long row, length-append d (check ∷ []))

  row_plain : Each Plain (row_of a d)
  unfolding row_of
  row_plain = line_plain row

  row_split : (u : List ℕ) → row_of a d ++ u ≡ bare row ++ (10 ∷ []) ++ u
  unfolding row_of
  row_split u = refl

-- ---- the text

short_row : (m : List ℕ) → length (take 16 m) ≤ 16
short_row m = omega (arith, length-take 16 m)

abbrev tail : List ℕ
tail = line_of end_bytes

rows_begin : (k a : ℕ) (m : List ℕ) → a + k * 16 ≤ 65536 → AllBelow 256 m → Begins (rows_of k a m ++ tail) (rows_in k a m) tail
rows_begin zero a m h b = rest
rows_begin (suc k) a m h b =
    let e : suc k * 16 ≡ 16 + k * 16 = omega (arith, suc-mul k 16) in
    let u : List ℕ = rows_of k (a + 16) (drop 16 m) ++ tail in
    more {l = bare (row a (take 16 m))} (append_assoc (row_of a (take 16 m)) (rows_of k (a + 16) (drop 16 m)) tail ∙ row_split a (take 16 m) u)
    (row_good a (take 16 m) (omega arith) (omega (arith, short_row m)) (below_take 256 16 m b)) lf
    (rows_begin k (a + 16) (drop 16 m) (omega arith) (below_drop 256 16 m b))

rows_plain : (k a : ℕ) (m : List ℕ) → Each Plain (rows_of k a m)
rows_plain zero a m = tt
rows_plain (suc k) a m = each_append (row_of a (take 16 m)) (rows_of k (a + 16) (drop 16 m)) (row_plain a (take 16 m)) (rows_plain k (a + 16) (drop 16 m))

rows_long : (k a : ℕ) (m : List ℕ) → length m ≡ k * 16 → length (rows_of k a m) ≡ k * 44
rows_long zero a m h = refl
rows_long (suc k) a m h =
    let e : suc k * 16 ≡ 16 + k * 16 = omega (arith, suc-mul k 16) in
    let f : suc k * 44 ≡ 44 + k * 44 = omega (arith, suc-mul k 44) in
    omega (arith, length-append (row_of a (take 16 m)) (rows_of k (a + 16) (drop 16 m)), row_long a (take 16 m), length-take 16 m, rows_long k (a + 16) (drop 16 m) (omega (arith, length-drop 16 m)))

-- ---- rows have their places

rows_apart : (p : Piece) (k a : ℕ) (m : List ℕ) → p.at + length p.bytes ≤ a → Each (Apart p) (rows_in k a m)
rows_apart p zero a m h = tt
rows_apart p (suc k) a m h = (λ i n o. omega arith, rows_apart p k (a + 16) (drop 16 m) (omega arith))

rows_placed : (size k a : ℕ) (m : List ℕ) → a + k * 16 ≤ size → Placed size (rows_in k a m)
rows_placed size zero a m h = tt
rows_placed size (suc k) a m h =
    let e : suc k * 16 ≡ 16 + k * 16 = omega (arith, suc-mul k 16) in
    let s = short_row m in
    (omega arith, rows_apart record { at = a; bytes = take 16 m } k (a + 16) (drop 16 m) (omega arith), rows_placed size k (a + 16) (drop 16 m) (omega arith))

rows_count : (k a : ℕ) (m : List ℕ) → length (rows_in k a m) ≡ k
rows_count zero a m = refl
rows_count (suc k) a m = ap suc (rows_count k (a + 16) (drop 16 m))

rows_bytes : (k a : ℕ) (m : List ℕ) → length m ≡ k * 16 → bytes_in (rows_in k a m) ≡ k * 16
rows_bytes zero a m h = refl
rows_bytes (suc k) a m h =
    let e : suc k * 16 ≡ 16 + k * 16 = omega (arith, suc-mul k 16) in
    omega (arith, length-take 16 m, rows_bytes k (a + 16) (drop 16 m) (omega (arith, length-drop 16 m)))

-- an array that has the rows' bytes at their places
rows_at : (n : List ℕ) (k a : ℕ) (m : List ℕ) → length m ≡ k * 16 → Each (λ p. (i : ℕ) → Names p i → get_or n i 0 ≡ get_or p.bytes (i - p.at) 0) (rows_in k a m)
    → (i : ℕ) → a ≤ i → i < a + k * 16 → get_or n i 0 ≡ get_or m (i - a) 0
rows_at n zero a m l h i f g = absurd (omega arith)
rows_at n (suc k) a m l h i f g =
    let e : suc k * 16 ≡ 16 + k * 16 = omega (arith, suc-mul k 16) in
    elim (dec_lt i (a + 16)) [
      | yes b ↦ h.0 i (f, omega (arith, length-take 16 m)) ∙ get_or-take 16 m (i - a) 0 (omega arith)
      | no b ↦ let s : 16 + (i - (a + 16)) ≡ i - a = omega arith in
          rows_at n k (a + 16) (drop 16 m) (omega (arith, length-drop 16 m)) h.1 i (omega arith) (omega arith) ∙ get_or-drop 16 m (i - (a + 16)) 0 ∙ ap (λ (j : ℕ). get_or m j 0) s
    ]

-- ---- of the six parts

abbrev Even : ℕ → Type 0
Even n = (n / 16 * 16 ≡ n) × (n ≤ 32768)

even : (part : ℕ) → part ≤ 5 → Even (size_of part)
unfolding facts_of
even zero h = omega arith
even (suc zero) h = omega arith
even (suc (suc zero)) h = omega arith
even (suc (suc (suc zero))) h = omega arith
even (suc (suc (suc (suc zero)))) h = omega arith
even (suc (suc (suc (suc (suc zero))))) h = omega arith
even (suc (suc (suc (suc (suc (suc n)))))) h = absurd (omega arith)

module _ (part : ℕ) (m : List ℕ) (k : part ≤ 5) (l : length m ≡ size_of part) where
  abbrev pub rows : List Piece
  rows = rows_in (size_of part / 16) 0 m

  full : length m ≡ size_of part / 16 * 16
  full = l ∙ sym (even part k).0

  pub text_long : length (text_of (size_of part) m) ≡ text_length_of (size_of part)
  unfolding text_of text_length_of
  text_long = omega (arith, length-append (rows_of (size_of part / 16) 0 m) tail, rows_long (size_of part / 16) 0 m full)

  pub placed_rows : Placed (size_of part) rows
  placed_rows = rows_placed (size_of part) (size_of part / 16) 0 m (omega (arith, even part k))

  pub count_rows : length rows ≡ size_of part / 16
  count_rows = rows_count (size_of part / 16) 0 m

  pub bytes_rows : bytes_in rows ≡ size_of part
  bytes_rows = rows_bytes (size_of part / 16) 0 m full ∙ (even part k).0

  pub named_rows : (n : List ℕ) → NamedBy (size_of part) rows n → n ≡ m
  named_rows n b =
      ext_get_or 0 n m (b.long ∙ sym l) (λ i h. rows_at n (size_of part / 16) 0 m full b.named i (omega arith) (omega (arith, even part k, b.long)) ∙ ap (λ (j : ℕ). get_or m j 0) (sub-zero i))

  module _ (b : AllBelow 256 m) where
    pub text_file : IsFile (text_of (size_of part) m) rows
    unfolding text_of
    text_file =
        record {
          line = bare end_bytes;
          stop = 10 ∷ [];
          begins = rows_begin (size_of part / 16) 0 m (omega (arith, even part k)) b;
          end = line_spells end_bytes (omega arith);
          ends = closed lf;
        }

    pub text_right : Text part m (text_of (size_of part) m)
    unfolding text_of text_length_of
    text_right = record { file = text_file; plain = each_append (rows_of (size_of part / 16) 0 m) tail (rows_plain (size_of part / 16) 0 m) (line_plain end_bytes); long = text_long }
