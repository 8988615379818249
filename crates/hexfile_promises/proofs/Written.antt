-- The promises of writing leave no choice: an array has one text.
-- Assumes nothing.
use Rattle.std.specs.Prelude.{Ok, Err}
use Prim.Native.Nat.{ℕ, zero, suc, ◌+◌, ◌/◌, ◌%◌, ◌<◌, ◌≤◌}
use mathlib.Core.Path.{◌≡◌, refl, sym, ap, ◌∙◌}
use mathlib.Core.Logic.{inl, inr}
use mathlib.Core.List.{List, [], ◌∷◌, ◌++◌, append_assoc}
use native.Mathlib.Omega.{arith}
use native.Mathlib.Decide.{ℕ_discrete, dec_le}
use lib.ListN.{length, take, drop, length-append}
use borrow.Author.Tests.{lt-ltb, le-ltb}
use Rattle.parts.specs.declared.Refusal.{Refusal}
use Rattle.parts.specs.declared.Refusal.TheVariants.{NoPart, WrongBuffer, ShortBuffer}
use Rattle.parts.specs.Bytes.{AllBelow}
use Rattle.text.specs.Digits.{hex_digit_of}
use Rattle.hexfile.proofs.Values.{sum-append}
use Rattle.hexfile.specs.Record.{sum_of, end_bytes}
use Rattle.hexfile.specs.Written.{digits_of, check_of, body_of, line_of, row_of, rows_of, text_of, text_length_of}
use Rattle.hexfile.specs.Calls.{AfterWrite, writing_of}
use Rattle.hexfile_promises.specs.Files.{Each, Digit, figure, capital, small, Digits, none, byte, Spells, data_bytes, GoodLine, LineEnd, lf, cr_lf, LastEnd, closed, missing, Piece, Begins, rest, more, unended}
use Rattle.hexfile_promises.specs.Promises.{Writing, size_of, Lent, text_in_lem, Plain, rows_in, Text}
use Rattle.hexfile_promises.specs.Pinned.{HexWriter, HexWriterPinned}
use Rattle.hexfile_promises.proofs.Digits.{value_of_lem, bytes_below}
use Rattle.hexfile_promises.proofs.Records.{spells_in}
use Rattle.hexfile_promises.proofs.Reading.{end_long}
use Rattle.hexfile_promises.proofs.Rows.{text_long}
use Rattle.hexfile_promises.proofs.Kept.{writes_plain, refused_keeps}
use Rattle.hexfile_promises.proofs.Numbers.{hex_write_numbers}

-- ---- plain bytes

-- no small letter, and no CR
up_to_f : (c : ℕ) → Plain c → c ≤ 70
up_to_f c (inl e) = omega arith
up_to_f c (inr (inl e)) = omega arith
up_to_f c (inr (inr (inl h))) = omega arith
up_to_f c (inr (inr (inr h))) = omega arith

no_cr : Plain 13 → ⊥
no_cr (inl e) = omega arith
no_cr (inr (inl e)) = omega arith
no_cr (inr (inr (inl h))) = omega arith
no_cr (inr (inr (inr h))) = omega arith

front : (v w : List ℕ) → Each Plain (v ++ w) → Each Plain v
front [] w h = tt
front (x ∷ v) w h = (h.0, front v w h.1)

back : (v w : List ℕ) → Each Plain (v ++ w) → Each Plain w
back [] w h = h
back (x ∷ v) w h = back v w h.1

-- ---- digits

plain_digit : {c x : ℕ} (n : ℕ) → Digit c x → Plain c → n % 16 ≡ x → c ≡ hex_digit_of 55 n
unfolding hex_digit_of
plain_digit n (figure {x = x} e h) p q = rw (q, lt-ltb x 10 h) e
plain_digit n (capital {x = x} e g h) p q = rw (q, le-ltb x 10 g) e
plain_digit n (small {c = c} e g h) p q = absurd (omega (arith, up_to_f c p))

plain_digits : {l v : List ℕ} → Digits l v → Each Plain l → l ≡ digits_of v
plain_digits none h = refl
plain_digits (byte {v = v} p q e r) h =
    let x = value_of_lem p in
    let y = value_of_lem q in
    let f = plain_digit (v / 16) p h.0 (omega arith) in
    let g = plain_digit v q h.1.0 (omega arith) in
    let s = plain_digits r h.1.1 in
    cc

plain_line : {l v : List ℕ} → Spells l v → Each Plain l → l ≡ 58 ∷ digits_of v
plain_line s h = s.colon ∙ ap (λ (k : List ℕ). 58 ∷ k) (plain_digits s.spelled (rw s.colon at h).1)

-- ---- records

last_below : (v : List ℕ) (x : ℕ) → AllBelow 256 (v ++ (x ∷ [])) → x < 256
last_below [] x h = h.0
last_below (y ∷ v) x h = last_below v x h.1

check_is : (s c : ℕ) → c < 256 → (s + c) % 256 ≡ 0 → c ≡ check_of s
unfolding check_of
check_is s c h e = omega arith

plain_row : {l : List ℕ} {a : ℕ} {d : List ℕ} → GoodLine l a d → Each Plain l → l ++ (10 ∷ []) ≡ row_of a d
unfolding row_of
plain_row {l} {a} {d} g h =
    let r = g.formed in
    let b = bytes_below (data_bytes r.high r.low d r.check) (spells_in r.spells).1 in
    let high : r.high ≡ a / 256 = omega (arith, r.address, b.1.1.0) in
    let low : r.low ≡ a % 256 = omega (arith, r.address, b.1.1.0) in
    let sum : sum_of (body_of a d) + r.check ≡ sum_of (data_bytes r.high r.low d r.check) = omega (arith, high, low, sum-append d (r.check ∷ [])) in
    let check : r.check ≡ check_of (sum_of (body_of a d)) =
    check_is (sum_of (body_of a d)) r.check (last_below d r.check b.1.1.1.1) (rw sum g.sum) in
    let e : data_bytes r.high r.low d r.check ≡ body_of a d ++ (check_of (sum_of (body_of a d)) ∷ []) = cc in
    ap (λ (k : List ℕ). k ++ (10 ∷ [])) (plain_line r.spells h) ∙ ap line_of e

-- ---- texts

abbrev rows_text : List Piece → List ℕ
rows_text [] = []
rows_text (p ∷ ps) = row_of p.at p.bytes ++ rows_text ps

rows_text_lem : (k a : ℕ) (m : List ℕ) → rows_text (rows_in k a m) ≡ rows_of k a m
rows_text_lem zero a m = refl
rows_text_lem (suc k) a m = ap (λ (l : List ℕ). row_of a (take 16 m) ++ l) (rows_text_lem k (a + 16) (drop 16 m))

plain_end : {z : List ℕ} → LineEnd z → Each Plain z → z ≡ 10 ∷ []
plain_end lf h = refl
plain_end cr_lf h = absurd (no_cr h.0)

plain_stop : {z : List ℕ} → LastEnd z → Each Plain z → 0 < length z → z ≡ 10 ∷ []
plain_stop (closed e) h n = plain_end e h
plain_stop missing h n = absurd (omega arith)

plain_begins : {t r : List ℕ} {ps : List Piece} → Begins t ps r → Each Plain t → 0 < length r → t ≡ rows_text ps ++ r
plain_begins rest h n = refl
plain_begins (more {l = l} {z = z} {u = u} {r = r} {p = p} {ps = ps} e g y b) h n =
    let f : Each Plain (l ++ z ++ u) = rw e at h in
    let k = front (l ++ z) u f in
    let i = plain_end y (back l z k) in
    let j = plain_row g (front l z k) in
    let s = plain_begins b (back (l ++ z) u f) n in
    e ∙ rw (i, j, s) (sym (append_assoc (row_of p.at p.bytes) (rows_text ps) r))
plain_begins (unended g) h n = absurd (omega arith)

module _ (part : ℕ) (m t : List ℕ) (l : Lent part m) (x : Text part m t) where
  abbrev line : List ℕ
  line = x.file.line

  abbrev stop : List ℕ
  stop = x.file.stop

  abbrev rows : List ℕ
  rows = rows_of (size_of part / 16) 0 m

  split : t ≡ rows ++ (line ++ stop)
  split =
      plain_begins x.file.begins x.plain (omega (arith, length-append line stop, end_long x.file.end))
      ∙ ap (λ (k : List ℕ). k ++ (line ++ stop)) (rows_text_lem (size_of part / 16) 0 m)

  pub one_text : t ≡ text_of (size_of part) m
  unfolding text_of text_length_of
  one_text =
      let p : Each Plain (line ++ stop) = back rows (line ++ stop) (rw split at x.plain) in
      let i : line ≡ 58 ∷ digits_of end_bytes = plain_line x.file.end (front line stop p) in
      let n : 0 < length stop =
      omega (arith, ap length split, length-append rows (line ++ stop), length-append line stop, ap length i, x.long, text_long part m l.known l.long, length-append rows (line_of end_bytes)) in
      let j : stop ≡ 10 ∷ [] = plain_stop x.file.ends (back line stop p) n in
      let f : line ++ stop ≡ line_of end_bytes = ap (λ (k : List ℕ). k ++ stop) i ∙ ap (λ (k : List ℕ). 58 ∷ (digits_of end_bytes ++ k)) j in
      split ∙ ap (λ (k : List ℕ). rows ++ k) f

-- ---- two writers

module _ (part : ℕ) (m out : List ℕ) where
  abbrev written : AfterWrite
  written =
      record { answer = record { verdict = Ok tt; length = length (text_of (size_of part) m) }; out = text_of (size_of part) m ++ drop (length (text_of (size_of part) m)) out }

  fine_written : (write : Writing) → HexWriter write → Lent part m → AllBelow 256 m → (write part m out).answer.verdict ≡ Ok tt → write part m out ≡ written
  fine_written write p l b v =
      let x = p.plain part m out b v in
      let e = one_text part m (text_in_lem (write part m out)) l x.0 in
      let n : (write part m out).answer.length ≡ length (text_of (size_of part) m) = x.1 ∙ ap length e in
      let o : (write part m out).out ≡ text_of (size_of part) m ++ drop (length (text_of (size_of part) m)) out = x.2 ∙ rw (e, n) refl in
      λ i. record { answer = record { verdict = v i; length = n i }; out = o i }

  module _ (write other : Writing) (p : HexWriter write) (q : HexWriter other) where
    both_refuse : (r : Refusal) → (write part m out).answer.verdict ≡ Err r → (other part m out).answer.verdict ≡ Err r → write part m out ≡ other part m out
    both_refuse r e f = p.keeps part m out r e ∙ sym (q.keeps part m out r f)

    lent_same : Lent part m → AllBelow 256 m → write part m out ≡ other part m out
    lent_same l b =
        elim (dec_le (text_length_of (size_of part)) (length out)) [
          | yes h ↦ fine_written write p l b ((p.numbers part m out).none l h) ∙ sym (fine_written other q l b ((q.numbers part m out).none l h))
          | no h ↦ let s : length out < text_length_of (size_of part) = omega arith in
              both_refuse ShortBuffer ((p.numbers part m out).short_buffer l s) ((q.numbers part m out).short_buffer l s)
        ]

pub hex_writer_pinned : HexWriterPinned
hex_writer_pinned write other p q part m out b = known (dec_le part 5)
  where
    long : part ≤ 5 → Dec (length m ≡ size_of part) → write part m out ≡ other part m out
    long k (yes e) = lent_same part m out write other p q record { known = k; long = e } b
    long k (no e) =
        both_refuse part m out write other p q WrongBuffer ((p.numbers part m out).wrong_buffer k e) ((q.numbers part m out).wrong_buffer k e)

    known : Dec (part ≤ 5) → write part m out ≡ other part m out
    known (yes k) = long k (ℕ_discrete (length m) (size_of part))
    known (no k) =
        let h : 5 < part = omega (arith, k) in
        both_refuse part m out write other p q NoPart ((p.numbers part m out).no_part h) ((q.numbers part m out).no_part h)

-- ---- ours is one of them

pub hex_writer : HexWriter writing_of
hex_writer = record { plain = writes_plain; keeps = refused_keeps.writing; numbers = hex_write_numbers }
