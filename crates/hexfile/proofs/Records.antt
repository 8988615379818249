-- A record in its line: what the bytes of its digits make it.
-- Assumes nothing.
use mathlib.Core.Path.{◌≡◌, refl, sym, ap, ◌∙◌}
use mathlib.Core.Bool.{Bool, true, false, cond, ◌&&◌}
use Rattle.std.specs.Prelude.{Ok, Err, OnOk}
use mathlib.Core.List.{List, [], ◌∷◌, ◌++◌}
use Prim.Native.Nat.{ℕ, ◌+◌, ◌*◌, ◌%◌, ◌≤◌, ◌<◌}
use native.Mathlib.Omega.{arith}
use lib.ListN.{length, get_or, take, drop, length-append, length-drop}
use lib.Dec.{eqb, leb, ltb}
use lib.Seq.{take_at, get_or-drop, length-take-le}
use borrow.Author.Tests.{le-leb, lt-ltb, le-ltb, eq-eqb, ne_eqb, ltb-true, leb-true, eqb-true}
use Rattle.parts.specs.Bytes.{same_of}
use Rattle.parts.proofs.Bytes.{same_eq}
use Rattle.parts.proofs.Tests.{both, and_both}
use Rattle.hexfile.specs.declared.reading.Kind.TheVariants.{Data}
use Rattle.hexfile.specs.declared.reading.Fault.TheVariants.{Malformed, WrongSum, Lapping}
use Rattle.hexfile.specs.declared.reading.Head.{Head}
use Rattle.hexfile.specs.Record.{malformed, bytes, last, pair_of, values_of, sum_of, bytes_of, formed_of, end_bytes, typed_of, record_in, record_of_lem}
use Rattle.hexfile.specs.File.{fits_of, entered_of}
use Rattle.hexfile.specs.Steps.{Found, found_of, taken_of, all_four, head_of, head_at, headed, data_found_of, ends_of}
use Rattle.hexfile.proofs.Kit.{clash, cond_same, cond_self, not_so}
use Rattle.hexfile.proofs.Values.{values_step, length-values, bytes_head, bytes_even, values_last, sum-append, bytes_more, bytes_spoilt}

-- ---- rows that are no record

pub unformed : (v : List ℕ) → (bytes_of v ≡ true → 5 ≤ length v → get_or v 0 0 + 5 ≡ length v → ⊥) → formed_of v ≡ false
unfolding formed_of
unformed v f =
    not_so (cond (bytes_of v) (cond (leb 5 (length v)) (eqb (get_or v 0 0 + 5) (length v)) false) false)
    (λ h. let a = both (bytes_of v) (cond (leb 5 (length v)) (eqb (get_or v 0 0 + 5) (length v)) false) h in
    let b = both (leb 5 (length v)) (eqb (get_or v 0 0 + 5) (length v)) a.1 in
    f a.0 (leb-true 5 (length v) b.0) (eqb-true (get_or v 0 0 + 5) (length v) b.1))

pub no_record : (v : List ℕ) → formed_of v ≡ false → record_in v ≡ malformed
unfolding record_in
no_record v h = rw h

some_no : (a b c d e : Bool) → cond a (cond b (cond c d false) false) false ≡ false → cond a (cond b (cond c (cond d e false) false) false) false ≡ false
some_no false b c d e h = refl
some_no true false c d e h = refl
some_no true true false d e h = refl
some_no true true true false e h = refl
some_no true true true true e h = clash h

module _ (p q r k : ℕ) (t : List ℕ) where
  abbrev pub row_at : List ℕ
  row_at = p ∷ q ∷ r ∷ k ∷ values_of t

  -- of the first four not all are bytes
  pub bad_four : all_four p q r k ≡ false → record_in row_at ≡ malformed
  unfolding all_four
  bad_four h =
      no_record row_at
      (unformed row_at (λ a _ _. clash (sym a ∙ some_no (ltb p 256) (ltb q 256) (ltb r 256) (ltb k 256) (bytes_of (values_of t)) h)))

  -- not as many as the first says
  pub bad_length : (length t ≡ 2 * p + 2 → ⊥) → record_in row_at ≡ malformed
  bad_length h =
      no_record row_at
      (unformed row_at (λ a _ c.
      let b = (bytes_head k (values_of t) (bytes_head r (k ∷ values_of t) (bytes_head q (r ∷ k ∷ values_of t) (bytes_head p (q ∷ r ∷ k ∷ values_of t) a).1).1).1).1 in
      h (omega (arith, length-values t, bytes_even t b, c))))

-- ---- a row as long as its first byte says, whose first four and last are bytes

nothing : (d : List ℕ) → length d ≡ 0 → d ≡ []
nothing [] h = refl
nothing (x ∷ d) h = absurd (omega arith)

end_last : record_in end_bytes ≡ last
unfolding record_in formed_of typed_of same_of
end_last = refl

fours_of : (p q r k : ℕ) → all_four p q r k ≡ true → (ltb p 256 ≡ true) × (ltb q 256 ≡ true) × (ltb r 256 ≡ true) × (ltb k 256 ≡ true)
unfolding all_four
fours_of p q r k four =
    let a = both (ltb p 256) (cond (ltb q 256) (cond (ltb r 256) (ltb k 256) false) false) four in
    let b = both (ltb q 256) (cond (ltb r 256) (ltb k 256) false) a.1 in
    let c = both (ltb r 256) (ltb k 256) b.1 in
    (a.0, b.0, c.0, c.1)

module _ (p q r k x : ℕ) (d : List ℕ) (four : all_four p q r k ≡ true) (len : length d ≡ p) where
  abbrev whole_at : List ℕ
  whole_at = p ∷ q ∷ r ∷ k ∷ (d ++ (x ∷ []))

  bytes_whole : bytes_of whole_at ≡ bytes_of (d ++ (x ∷ []))
  bytes_whole = let f = fours_of p q r k four in rw (f.0, f.1, f.2, f.3)

  -- the last is no byte
  pub bad_check : 256 ≤ x → record_in (p ∷ q ∷ r ∷ k ∷ (d ++ (x ∷ []))) ≡ malformed
  bad_check h = no_record whole_at (unformed whole_at (λ a _ _. clash (sym a ∙ bytes_whole ∙ bytes_spoilt d x h)))

  formed_whole : x ≤ 255 → formed_of whole_at ≡ bytes_of d
  unfolding formed_of
  formed_whole h =
      let n : length (d ++ (x ∷ [])) ≡ p + 1 = omega (arith, length-append d (x ∷ []), len) in
      let w : length whole_at ≡ p + 5 = omega (arith, n) in
      rw (bytes_whole, bytes_more d x (omega arith), le-leb 5 (length whole_at) (omega (arith, w)), eq-eqb (p + 5) (length whole_at) (sym w)) (cond_self (bytes_of d))

  whole_sum : sum_of whole_at ≡ p + q + r + k + x + sum_of d
  whole_sum = omega (arith, sum-append d (x ∷ []))

  -- a data record
  pub data_record : x ≤ 255 → k ≡ 0 → record_in (p ∷ q ∷ r ∷ k ∷ (d ++ (x ∷ []))) ≡ cond (bytes_of d) (bytes (256 * q + r) d (eqb ((p + q + r + k + x + sum_of d) % 256) 0)) malformed
  unfolding record_in typed_of
  data_record h z = rw (formed_whole h, eq-eqb k 0 z, whole_sum, take_at d (x ∷ []) p len)

  other_record : x ≤ 255 → (k ≡ 0 → ⊥) → record_in whole_at ≡ cond (bytes_of d) (cond (same_of whole_at end_bytes) last malformed) malformed
  unfolding record_in typed_of
  other_record h z = rw (formed_whole h, ne_eqb k 0 z)

  ends_whole : ends_of (head_of p q r k) x ≡ true → whole_at ≡ end_bytes
  unfolding ends_of
  ends_whole e =
      let a = and_both ((eqb p 0 && eqb (256 * q + r) 0) && eqb k 1) (eqb x 255) e in
      let b = and_both (eqb p 0 && eqb (256 * q + r) 0) (eqb k 1) a.0 in
      let c = and_both (eqb p 0) (eqb (256 * q + r) 0) b.0 in
      let hp = eqb-true p 0 c.0 in
      let hs = eqb-true (256 * q + r) 0 c.1 in
      let hq : q ≡ 0 = omega arith in
      let hr : r ≡ 0 = omega arith in
      rw (nothing d (len ∙ hp), hp, hq, hr, eqb-true k 1 b.1, eqb-true x 255 a.1)

  whole_ends : whole_at ≡ end_bytes → ends_of (head_of p q r k) x ≡ true
  unfolding ends_of
  whole_ends e =
      let hp : p ≡ 0 = ap (λ (l : List ℕ). get_or l 0 0) e in
      let hq : q ≡ 0 = ap (λ (l : List ℕ). get_or l 1 0) e in
      let hr : r ≡ 0 = ap (λ (l : List ℕ). get_or l 2 0) e in
      let hk : k ≡ 1 = ap (λ (l : List ℕ). get_or l 3 0) e in
      let hx : x ≡ 255 = rw (nothing d (len ∙ hp)) at (ap (λ (l : List ℕ). get_or l 4 0) e) in
      rw (eq-eqb p 0 hp, eq-eqb (256 * q + r) 0 (omega arith), eq-eqb k 1 hk, eq-eqb x 255 hx)

  pub end_record : ends_of (head_of p q r k) x ≡ true → record_in (p ∷ q ∷ r ∷ k ∷ (d ++ (x ∷ []))) ≡ last
  end_record e = ap record_in (ends_whole e) ∙ end_last

  pub bad_type : x ≤ 255 → (k ≡ 0 → ⊥) → ends_of (head_of p q r k) x ≡ false → record_in (p ∷ q ∷ r ∷ k ∷ (d ++ (x ∷ []))) ≡ malformed
  bad_type h z e =
      other_record h z
      ∙ rw (not_so (same_of whole_at end_bytes) (λ s. clash (sym (whole_ends (same_eq whole_at end_bytes s)) ∙ e))) (cond_same (bytes_of d) malformed)

-- ---- what a data record is to the cells

module _ (cells : List ℕ) (a : ℕ) (d : List ℕ) (right : Bool) where
  data_found : (b : Bool) → cond b (cond right (cond (fits_of cells a (length d)) (Ok Data) (Err Lapping)) (Err WrongSum)) (Err Malformed) ≡ found_of cells (cond b (bytes a d right) malformed)
  data_found true = refl
  data_found false = refl

module _ (cells after : List ℕ) (a : ℕ) (d : List ℕ) (right : Bool) where
  data_left : (b : Bool) → OnOk (found_of cells (cond b (bytes a d right) malformed)) (after ≡ entered_of cells a d) → OnOk (found_of cells (cond b (bytes a d right) malformed)) (after ≡ taken_of cells (cond b (bytes a d right) malformed))
  data_left true e = e
  data_left false e = tt

-- ---- the first four bytes of a line

module _ (l : List ℕ) where
  abbrev one : ℕ
  one = pair_of (get_or l 1 0) (get_or l 2 0)

  abbrev two : ℕ
  two = pair_of (get_or l 3 0) (get_or l 4 0)

  abbrev three : ℕ
  three = pair_of (get_or l 5 0) (get_or l 6 0)

  abbrev fourth : ℕ
  fourth = pair_of (get_or l 7 0) (get_or l 8 0)

  pub no_count : 256 ≤ one → headed l ≡ false
  unfolding headed all_four
  no_count h = rw (le-ltb one 256 h) refl

  pub no_high : 256 ≤ two → headed l ≡ false
  unfolding headed all_four
  no_high h = rw (le-ltb two 256 h) (cond_same (ltb one 256) false)

  pub no_low : 256 ≤ three → headed l ≡ false
  unfolding headed all_four
  no_low h = rw (le-ltb three 256 h, cond_same (ltb two 256) false) (cond_same (ltb one 256) false)

  pub no_kind : 256 ≤ fourth → headed l ≡ false
  unfolding headed all_four
  no_kind h = rw (le-ltb fourth 256 h, cond_same (ltb three 256) false, cond_same (ltb two 256) false) (cond_same (ltb one 256) false)

  pub headed_by : one < 256 → two < 256 → three < 256 → fourth < 256 → headed l ≡ true
  unfolding headed all_four
  headed_by a b c d = rw (lt-ltb one 256 a, lt-ltb two 256 b, lt-ltb three 256 c, lt-ltb fourth 256 d) refl

-- ---- a line

pub too_short : (l : List ℕ) → length l ≤ 10 → record_of_lem l ≡ malformed
too_short [] h = refl
too_short (c ∷ l) h =
    rw (no_record (values_of l) (unformed (values_of l) (λ a b _. omega (arith, length-values l, bytes_even l a)))) (cond_same (eqb c 58) malformed)

pub no_colon : (l : List ℕ) → (get_or l 0 0 ≡ 58 → ⊥) → record_of_lem l ≡ malformed
no_colon [] h = refl
no_colon (c ∷ l) h = rw (ne_eqb c 58 h)

with_colon : (l : List ℕ) → 0 < length l → get_or l 0 0 ≡ 58 → record_of_lem l ≡ record_in (values_of (drop 1 l))
with_colon [] h e = absurd (omega arith)
with_colon (c ∷ l) h e = rw (eq-eqb c 58 e)

module _ (l : List ℕ) (long : 11 ≤ length l) (colon : get_or l 0 0 ≡ 58) where
  row_of_four : record_of_lem l ≡ record_in (pair_of (get_or l 1 0) (get_or l 2 0) ∷ pair_of (get_or l 3 0) (get_or l 4 0) ∷ pair_of (get_or l 5 0) (get_or l 6 0) ∷ pair_of (get_or l 7 0) (get_or l 8 0) ∷ values_of (drop 9 l))
  row_of_four =
      with_colon l (omega arith) colon
      ∙ ap record_in (rw (values_step l 1 (omega arith), values_step l 3 (omega arith), values_step l 5 (omega arith), values_step l 7 (omega arith)))

  pub line_head : headed l ≡ false → record_of_lem l ≡ malformed
  unfolding headed
  line_head e =
      row_of_four
      ∙ bad_four (pair_of (get_or l 1 0) (get_or l 2 0)) (pair_of (get_or l 3 0) (get_or l 4 0)) (pair_of (get_or l 5 0) (get_or l 6 0)) (pair_of (get_or l 7 0) (get_or l 8 0)) (drop 9 l) e

module _ (l : List ℕ) (h : Head) (long : 11 ≤ length l) (colon : get_or l 0 0 ≡ 58) (head : h ≡ head_at l) (good : headed l ≡ true) where
  abbrev high : ℕ
  high = pair_of (get_or l 3 0) (get_or l 4 0)

  abbrev low : ℕ
  low = pair_of (get_or l 5 0) (get_or l 6 0)

  counted : pair_of (get_or l 1 0) (get_or l 2 0) ≡ h.count
  counted = sym (ap (λ (g : Head). g.count) head)

  kind : pair_of (get_or l 7 0) (get_or l 8 0) ≡ h.kind
  kind = sym (ap (λ (g : Head). g.kind) head)

  line_row : record_of_lem l ≡ record_in (h.count ∷ high ∷ low ∷ h.kind ∷ values_of (drop 9 l))
  line_row = row_of_four l long colon ∙ rw (counted, kind)

  four_good : all_four h.count high low h.kind ≡ true
  unfolding headed
  four_good = rw (← counted, ← kind) good

  head_ends : (x : ℕ) → ends_of (head_of h.count high low h.kind) x ≡ ends_of h x
  head_ends x =
      ap (λ (n : ℕ). ends_of (head_of n high low h.kind) x) (sym counted)
      ∙ ap (λ (n : ℕ). ends_of (head_of (pair_of (get_or l 1 0) (get_or l 2 0)) high low n) x) (sym kind)
      ∙ ap (λ (g : Head). ends_of g x) (sym head)

  head_place : 256 * high + low ≡ h.place
  head_place = sym (ap (λ (g : Head). g.place) head)

  head_sum : h.count + high + low + h.kind ≡ h.sum
  head_sum = rw (← counted, ← kind) (sym (ap (λ (g : Head). g.sum) head))

  pub line_long : (length l ≡ 2 * h.count + 9 + 2 → ⊥) → record_of_lem l ≡ malformed
  line_long e = line_row ∙ bad_length h.count high low h.kind (drop 9 l) (λ n. e (omega (arith, length-drop 9 l)))

  module _ (check : ℕ) (whole : length l ≡ 2 * h.count + 9 + 2)
      (last-two : check ≡ pair_of (get_or l (2 * h.count + 9) 0) (get_or l (2 * h.count + 9 + 1) 0)) where
    abbrev held : List ℕ
    held = values_of (take (2 * h.count) (drop 9 l))

    held_length : length held ≡ h.count
    held_length = omega (arith, length-values (take (2 * h.count) (drop 9 l)), length-take-le (2 * h.count) (drop 9 l) (omega (arith, length-drop 9 l)))

    high_at : 9 + 2 * h.count ≡ 2 * h.count + 9
    high_at = omega arith

    low_at : 9 + (2 * h.count + 1) ≡ 2 * h.count + 9 + 1
    low_at = omega arith

    row_whole : record_of_lem l ≡ record_in (h.count ∷ high ∷ low ∷ h.kind ∷ (held ++ (check ∷ [])))
    row_whole =
        line_row
        ∙ ap (λ (v : List ℕ). record_in (h.count ∷ high ∷ low ∷ h.kind ∷ v)) (values_last (drop 9 l) h.count (omega (arith, length-drop 9 l)) ∙ rw (get_or-drop 9 l (2 * h.count) 0, get_or-drop 9 l (2 * h.count + 1) 0, high_at, low_at, ← last-two))

    pub line_check : 256 ≤ check → record_of_lem l ≡ malformed
    line_check b = row_whole ∙ bad_check h.count high low h.kind check held four_good held_length b

    pub line_end : ends_of h check ≡ true → record_of_lem l ≡ last
    line_end e = row_whole ∙ end_record h.count high low h.kind check held four_good held_length (head_ends check ∙ e)

    pub line_type : check ≤ 255 → (h.kind ≡ 0 → ⊥) → ends_of h check ≡ false → record_of_lem l ≡ malformed
    line_type b z e = row_whole ∙ bad_type h.count high low h.kind check held four_good held_length b z (head_ends check ∙ e)

    line_data : check ≤ 255 → h.kind ≡ 0 → record_of_lem l ≡ cond (bytes_of held) (bytes h.place held (eqb ((h.sum + check + sum_of held) % 256) 0)) malformed
    line_data b z =
        row_whole
        ∙ data_record h.count high low h.kind check held four_good held_length b z
        ∙ rw (head_place, head_sum)

    module _ (cells after : List ℕ) (m : ℕ) (r : Found) (some : check ≤ 255) (zero-kind : h.kind ≡ 0) (hm : m ≡ 2 * h.count)
        (hr : r ≡ data_found_of cells h.place (h.sum + check) (values_of (take m (drop 9 l)))) where
      pub line_found : r ≡ found_of cells (record_of_lem l)
      unfolding data_found_of
      line_found =
          rw hm at hr
          ∙ data_found cells h.place held (eqb ((h.sum + check + sum_of held) % 256) 0) (bytes_of held)
          ∙ ap (found_of cells) (sym (line_data some zero-kind))

      pub line_left : OnOk r (after ≡ entered_of cells h.place (values_of (take m (drop 9 l)))) → OnOk r (after ≡ taken_of cells (record_of_lem l))
      line_left e =
          rw (line_found, line_data some zero-kind)
          (data_left cells after h.place held (eqb ((h.sum + check + sum_of held) % 256) 0) (bytes_of held)
          (rw (line_found, line_data some zero-kind, hm) at e))
