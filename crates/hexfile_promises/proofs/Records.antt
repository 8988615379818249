-- A line is read as the record that it is.
-- Assumes nothing.
use Prim.Native.Nat.{ℕ, zero, suc, ◌+◌, ◌*◌, ◌%◌, ◌≤◌}
use mathlib.Core.Path.{◌≡◌, refl, sym, ap, subst, ◌∙◌}
use mathlib.Core.Bool.{Bool, true, false, cond, ◌&&◌}
use mathlib.Core.List.{List, [], ◌∷◌, ◌++◌}
use native.Mathlib.Omega.{arith}
use lib.Dec.{eqb, leb}
use lib.ListN.{length, get_or, take, drop, length-append}
use lib.Seq.{take-append_seam}
use borrow.Author.Tests.{le-leb, eq-eqb, eqb-true, leb-true}
use Rattle.parts.specs.Bytes.{AllBelow, same_of}
use Rattle.parts.proofs.Laws.{branch}
use Rattle.parts.proofs.Bytes.{same_eq}
use Rattle.parts.proofs.Tests.{both}
use Rattle.hexfile.specs.Record.{Record, malformed, bytes, last, values_of, sum_of, bytes_of, formed_of, end_bytes, typed_of, record_in, record_of_lem}
use Rattle.hexfile_promises.specs.Files.{Spells, data_bytes, DataLine, GoodLine, EndLine}
use Rattle.hexfile_promises.proofs.Digits.{bytes_below, High, spelled, digits_at}

-- ---- what a record is read as

pub spells_in : {l v : List ℕ} → Spells l v → (record_of_lem l ≡ record_in v) × (bytes_of v ≡ true) × High l
spells_in s =
    let p = spelled s.spelled in
    (rw (s.colon, p.0), p.1, rw s.colon (omega arith, p.2))

abbrev sum_in : {l : List ℕ} {a : ℕ} {d : List ℕ} → DataLine l a d → Bool
sum_in {d = d} r = eqb (sum_of (data_bytes r.high r.low d r.check) % 256) 0

module _ (high low check : ℕ) (d : List ℕ) (b : bytes_of (data_bytes high low d check) ≡ true) where
  data_formed : formed_of (data_bytes high low d check) ≡ true
  unfolding formed_of
  data_formed =
      let n = length-append d (check ∷ []) in
      rw (b, le-leb 5 (length (data_bytes high low d check)) (omega arith), eq-eqb (length d + 5) (length (data_bytes high low d check)) (omega arith))

  data_in : record_in (data_bytes high low d check) ≡ bytes (256 * high + low) d (eqb (sum_of (data_bytes high low d check) % 256) 0)
  unfolding record_in typed_of
  data_in = rw (data_formed, take-append_seam d (check ∷ []))

pub data_record : {l : List ℕ} {a : ℕ} {d : List ℕ} (r : DataLine l a d) → record_of_lem l ≡ bytes a d (sum_in r)
data_record {d = d} r =
    let s = spells_in r.spells in
    s.0 ∙ data_in r.high r.low r.check d s.1 ∙ ap (λ (x : ℕ). bytes x d (sum_in r)) (sym r.address)

pub good_record : {l : List ℕ} {a : ℕ} {d : List ℕ} → GoodLine l a d → record_of_lem l ≡ bytes a d true
good_record {a = a} {d = d} g = data_record g.formed ∙ ap (bytes a d) (eq-eqb _ 0 g.sum)

pub end_record : {l : List ℕ} → EndLine l → record_of_lem l ≡ last
unfolding record_in formed_of typed_of same_of
end_record e = (spells_in e).0

-- ---- the bytes of a data record are bytes

below_front : (v w : List ℕ) → AllBelow 256 (v ++ w) → AllBelow 256 v
below_front [] w h = tt
below_front (x ∷ v) w h = (h.0, below_front v w h.1)

pub data_below : {l : List ℕ} {a : ℕ} {d : List ℕ} → DataLine l a d → AllBelow 256 d
data_below {d = d} r =
    let h = bytes_below (data_bytes r.high r.low d r.check) (spells_in r.spells).1 in
    below_front d (r.check ∷ []) h.1.1.1.1

pub data_high : {l : List ℕ} {a : ℕ} {d : List ℕ} → DataLine l a d → High l
data_high r = (spells_in r.spells).2

pub end_high : {l : List ℕ} → EndLine l → High l
end_high e = (spells_in e).2

-- ---- which record a line is

pub data Kind (l : List ℕ) : Record → Type 0 where
  is_none : ((a : ℕ) (d : List ℕ) → DataLine l a d → ⊥) → (EndLine l → ⊥) → Kind l malformed
  is_data : {a : ℕ} {d : List ℕ} (r : DataLine l a d) → Kind l (bytes a d (sum_in r))
  is_end : EndLine l → Kind l last

not_formed : {l : List ℕ} → record_of_lem l ≡ malformed → Kind l malformed
not_formed e =
    is_none (λ a d r. let p = data_record r in let z : ◌≡◌ {A = ℕ} 0 1 = cc in omega arith)
    (λ r. let p = end_record r in let z : ◌≡◌ {A = ℕ} 0 1 = cc in omega arith)

-- the last of so many
one_left : (n : ℕ) (r : List ℕ) → length r ≡ suc n → (x : ℕ) × (r ≡ take n r ++ (x ∷ [])) × (length (take n r) ≡ n)
one_left zero [] h = absurd (omega arith)
one_left zero (x ∷ []) h = (x, refl, refl)
one_left zero (x ∷ y ∷ r) h = absurd (omega arith)
one_left (suc n) [] h = absurd (omega arith)
one_left (suc n) (x ∷ r) h =
    let p = one_left n r (omega arith) in
    (p.0, ap (λ (k : List ℕ). x ∷ k) p.1, ap suc p.2)

-- five bytes and as many as the first says
data_shape : (v : List ℕ) → formed_of v ≡ true → get_or v 3 0 ≡ 0 → (x : ℕ) × (v ≡ data_bytes (get_or v 1 0) (get_or v 2 0) (take (get_or v 0 0) (drop 4 v)) x)
unfolding formed_of
data_shape v f z = go v (leb-true 5 (length v) q.0) (eqb-true (get_or v 0 0 + 5) (length v) q.1) z
  where
    p : (bytes_of v ≡ true) × (cond (leb 5 (length v)) (eqb (get_or v 0 0 + 5) (length v)) false ≡ true)
    p = both (bytes_of v) (cond (leb 5 (length v)) (eqb (get_or v 0 0 + 5) (length v)) false) f

    q : (leb 5 (length v) ≡ true) × (eqb (get_or v 0 0 + 5) (length v) ≡ true)
    q = both (leb 5 (length v)) (eqb (get_or v 0 0 + 5) (length v)) p.1

    go : (w : List ℕ) → 5 ≤ length w → get_or w 0 0 + 5 ≡ length w → get_or w 3 0 ≡ 0 → (x : ℕ) × (w ≡ data_bytes (get_or w 1 0) (get_or w 2 0) (take (get_or w 0 0) (drop 4 w)) x)
    go [] h n e = absurd (omega arith)
    go (a ∷ []) h n e = absurd (omega arith)
    go (a ∷ b ∷ []) h n e = absurd (omega arith)
    go (a ∷ b ∷ c ∷ []) h n e = absurd (omega arith)
    go (a ∷ b ∷ c ∷ t ∷ r) h n e =
        let o = one_left a r (omega arith) in
        let w : a ∷ b ∷ c ∷ t ∷ r ≡ length (take a r) ∷ b ∷ c ∷ 0 ∷ r = cc o.2 in
        (o.0, w ∙ ap (λ (k : List ℕ). length (take a r) ∷ b ∷ c ∷ 0 ∷ k) o.1)

module _ (c : ℕ) (l : List ℕ) (colon : c ≡ 58) where
  abbrev v : List ℕ
  v = values_of l

  line_of : {w : List ℕ} → bytes_of v ≡ true → v ≡ w → Spells (c ∷ l) w
  line_of b e = record { digits = l; colon = ap (λ (x : ℕ). x ∷ l) colon; spelled = rw e at (digits_at l b) }

  kind_data : bytes_of v ≡ true → formed_of v ≡ true → get_or v 3 0 ≡ 0
      → Kind (c ∷ l) (bytes (256 * get_or v 1 0 + get_or v 2 0) (take (get_or v 0 0) (drop 4 v)) (eqb (sum_of v % 256) 0))
  kind_data b f z =
      let s = data_shape v f z in
      let r : DataLine (c ∷ l) (256 * get_or v 1 0 + get_or v 2 0) (take (get_or v 0 0) (drop 4 v)) =
      record { high = get_or v 1 0; low = get_or v 2 0; check = s.0; spells = line_of b s.1; address = refl } in
      subst (λ (w : List ℕ). Kind (c ∷ l) (bytes (256 * get_or v 1 0 + get_or v 2 0) (take (get_or v 0 0) (drop 4 v)) (eqb (sum_of w % 256) 0))) (sym s.1) (is_data r)

  kind_in : record_of_lem (c ∷ l) ≡ record_in v → Kind (c ∷ l) (record_in v)
  unfolding record_in typed_of formed_of
  kind_in =
      branch Q (formed_of v)
      (λ f. let b = (both (bytes_of v) _ f).0 in
      branch Q (eqb (get_or v 3 0) 0) (λ z _. kind_data b f (eqb-true (get_or v 3 0) 0 z))
      (λ _. branch Q (same_of v end_bytes) (λ e _. is_end (line_of b (same_eq v end_bytes e))) (λ _. not_formed)))
      (λ _. not_formed)
    where
      Q : Record → Type 0
      Q x = record_of_lem (c ∷ l) ≡ x → Kind (c ∷ l) x

pub kind : (l : List ℕ) → Kind l (record_of_lem l)
kind [] = not_formed refl
kind (c ∷ l) = branch Q (eqb c 58) (λ e. kind_in c l (eqb-true c 58 e)) (λ _. not_formed) refl
  where
    Q : Record → Type 0
    Q x = record_of_lem (c ∷ l) ≡ x → Kind (c ∷ l) x

pub none_record : {l : List ℕ} → ((a : ℕ) (d : List ℕ) → DataLine l a d → ⊥) → (EndLine l → ⊥) → record_of_lem l ≡ malformed
none_record {l} n e = go (kind l)
  where
    go : {r : Record} → Kind l r → r ≡ malformed
    go (is_none a b) = refl
    go (is_data {a} {d} r) = absurd (n a d r)
    go (is_end r) = absurd (e r)
