-- The bytes of a row of digits, two by two, and a row of them entered into cells.
-- Assumes nothing.
use mathlib.Core.Path.{◌≡◌, refl, sym, ap, ◌∙◌}
use mathlib.Core.Bool.{Bool, true, false, cond, ◌&&◌}
use mathlib.Core.List.{List, [], ◌∷◌, ◌++◌, append-nil, append_assoc}
use Prim.Native.Nat.{ℕ, zero, suc, ◌+◌, ◌*◌, ◌/◌, ◌%◌, ◌≤◌, ◌<◌}
use native.Mathlib.Omega.{arith}
use native.Mathlib.Numerals.{add-one}
use lib.ListN.{length, get_or, take, drop, set, length-set, take-append-drop, drop_of_length-le}
use lib.Dec.{ltb}
use lib.Seq.{drop-cons, length-take-le, take-suc-set, drop-set-lt, take_all}
use borrow.Author.Tests.{lt-ltb, le-ltb, ltb-true, ltb-false}
use Rattle.parts.proofs.Laws.{branch}
use Rattle.parts.proofs.Tests.{both, either}
use Rattle.hexfile.specs.Record.{pair_of, values_of, sum_of, bytes_of}
use Rattle.hexfile.specs.File.{free_of}
use Rattle.hexfile.specs.Steps.{RowEntered}
use Rattle.hexfile.proofs.Kit.{clash, cond_self}

-- ---- bytes of digits

pub values_step : (d : List ℕ) (i : ℕ) → i + 1 < length d → values_of (drop i d) ≡ pair_of (get_or d i 0) (get_or d (i + 1) 0) ∷ values_of (drop (i + 2) d)
values_step d i h =
    let e : i + 2 ≡ suc (suc i) = omega arith in
    let f : i + 1 ≡ suc i = omega arith in
    rw (drop-cons d i 0 (omega arith), drop-cons d (suc i) 0 (omega arith), e, f)

pub length-values : (d : List ℕ) → length (values_of d) ≡ (length d + 1) / 2
length-values [] = refl
length-values (a ∷ []) = refl
length-values (a ∷ b ∷ d) = omega (arith, length-values d)

pub bytes_head : (x : ℕ) (v : List ℕ) → bytes_of (x ∷ v) ≡ true → (x < 256) × (bytes_of v ≡ true)
bytes_head x v h = let p = both (ltb x 256) (bytes_of v) h in (ltb-true x 256 p.0, p.1)

pub bytes_even : (d : List ℕ) → bytes_of (values_of d) ≡ true → length d % 2 ≡ 0
bytes_even [] h = refl
bytes_even (a ∷ []) h = clash (sym h)
bytes_even (a ∷ b ∷ d) h = omega (arith, bytes_even d (bytes_head (pair_of a b) (values_of d) h).1)

-- ---- two digits more at the end

pub values_more : (d : List ℕ) (n x y : ℕ) → length d ≡ 2 * n → values_of (d ++ (x ∷ y ∷ [])) ≡ values_of d ++ (pair_of x y ∷ [])
values_more [] n x y h = refl
values_more (a ∷ []) n x y h = absurd (omega arith)
values_more (a ∷ b ∷ d) zero x y h = absurd (omega arith)
values_more (a ∷ b ∷ d) (suc n) x y h = ap (λ (l : List ℕ). pair_of a b ∷ l) (values_more d n x y (omega arith))

two_more : (t : List ℕ) (n : ℕ) → length t ≡ n + 2 → t ≡ take n t ++ (get_or t n 0 ∷ get_or t (n + 1) 0 ∷ [])
two_more t n h =
    let f : n + 1 ≡ suc n = omega arith in
    let g : length t ≤ suc (suc n) = omega arith in
    sym (take-append-drop n t) ∙ rw (drop-cons t n 0 (omega arith), drop-cons t (suc n) 0 (omega arith), drop_of_length-le t g, f)

pub values_last : (t : List ℕ) (n : ℕ) → length t ≡ 2 * n + 2 → values_of t ≡ values_of (take (2 * n) t) ++ (pair_of (get_or t (2 * n) 0) (get_or t (2 * n + 1) 0) ∷ [])
values_last t n h =
    ap values_of (two_more t (2 * n) h)
    ∙ values_more (take (2 * n) t) n (get_or t (2 * n) 0) (get_or t (2 * n + 1) 0) (length-take-le (2 * n) t (omega arith))

pub sum-append : (v w : List ℕ) → sum_of (v ++ w) ≡ sum_of v + sum_of w
sum-append [] w = omega arith
sum-append (x ∷ v) w = omega (arith, sum-append v w)

-- a byte more at the end
pub bytes_more : (v : List ℕ) (x : ℕ) → x < 256 → bytes_of (v ++ (x ∷ [])) ≡ bytes_of v
bytes_more [] x h = rw (lt-ltb x 256 h)
bytes_more (y ∷ v) x h = ap (λ (b : Bool). cond (ltb y 256) b false) (bytes_more v x h)

-- no byte at the end
pub bytes_spoilt : (v : List ℕ) (x : ℕ) → 256 ≤ x → bytes_of (v ++ (x ∷ [])) ≡ false
bytes_spoilt [] x h = rw (le-ltb x 256 h)
bytes_spoilt (y ∷ v) x h = rw (bytes_spoilt v x h) (branch (λ (b : Bool). b ≡ false) (ltb y 256) (λ _. refl) (λ _. refl))

-- ---- a row of digits entered into cells: what is left of both gives the whole

pub record Entering (d before cells : List ℕ) (free : Bool) (sum i : ℕ) : Type 0 where
  pub within : i ≤ length cells
  pub long : length cells ≡ length before
  pub good : bytes_of (values_of (drop (2 * i) d)) ≡ bytes_of (values_of d)
  pub total : sum + sum_of (values_of (drop (2 * i) d)) ≡ sum_of (values_of d)
  pub row : take i cells ++ values_of (drop (2 * i) d) ≡ values_of d
  pub clear : cond free (free_of (drop i cells)) false ≡ free_of before
  pub most : sum ≤ 255 * i

pub entering : (d before : List ℕ) → Entering d before before true 0 0
entering d before = record { within = omega arith; long = refl; good = refl; total = omega arith; row = refl; clear = refl; most = omega arith }

turned : (b free rest : Bool) → cond (cond b false free) rest false ≡ cond free (cond b false rest) false
turned true true rest = refl
turned true false rest = refl
turned false free rest = refl

module _ (d before cells : List ℕ) (free : Bool) (sum i v : ℕ) (E : Entering d before cells free sum i) (lt : i < length cells)
    (len : length d ≡ 2 * length before) (e : v ≡ pair_of (get_or d (2 * i) 0) (get_or d (2 * i + 1) 0)) where
  turn : values_of (drop (2 * i) d) ≡ v ∷ values_of (drop (2 * (i + 1)) d)
  turn =
      let g : 2 * (i + 1) ≡ 2 * i + 2 = omega arith in
      let w : 2 * i + 1 < length d = omega arith in
      values_step d (2 * i) w ∙ rw (g, e)

  pub entering_bad : 255 < v → false ≡ bytes_of (values_of d)
  entering_bad h = sym (ap bytes_of turn ∙ rw (le-ltb v 256 h)) ∙ E.good

  pub entering_more : v ≤ 255 → (now : Bool) → now ≡ cond (ltb (get_or cells i 0) 256) false free → Entering d before (set cells i v) now (sum + v) (i + 1)
  entering_more h now f =
      let s : v < 256 = omega arith in
      let past : i < suc i = omega arith in
      let z : take (i + 1) (set cells i v) ≡ take i cells ++ (v ∷ []) = rw (add-one) (take-suc-set cells i v lt) in
      record {
        within = simp length-set (omega arith);
        long = simp length-set E.long;
        good = sym (ap bytes_of turn ∙ rw (lt-ltb v 256 s)) ∙ E.good;
        total = omega (arith, ap sum_of turn, E.total);
        row = rw z (append_assoc (take i cells) (v ∷ []) (values_of (drop (2 * (i + 1)) d)) ∙ ap (λ (l : List ℕ). take i cells ++ l) (sym turn) ∙ E.row);
        clear = rw (f, add-one i, drop-set-lt (suc i) cells i v past) (turned (ltb (get_or cells i 0) 256) free (free_of (drop (suc i) cells)) ∙ rw (drop-cons cells i 0 lt) at E.clear);
        most = omega (arith, E.most);
      }

none_of : (free : Bool) → (free && false) ≡ false
none_of true = refl
none_of false = refl

same_of_true : (free : Bool) → (free && true) ≡ free
same_of_true true = refl
same_of_true false = refl

-- a cell is free where it is no byte
pub free_more : (free : Bool) (x : ℕ) → (free && ltb 255 x) ≡ cond (ltb x 256) false free
free_more free x =
    either (ltb x 256)
    (λ h. let t = ltb-true x 256 h in rw (h, le-ltb 255 x (omega arith)) (none_of free))
    (λ h. let t = ltb-false x 256 h in rw (h, lt-ltb 255 x (omega arith)) (same_of_true free))

pub entered : (d before cells : List ℕ) (free : Bool) (sum i : ℕ) → Entering d before cells free sum i → length cells ≤ i → length d ≡ 2 * length before → i ≤ 256 → RowEntered d before cells (record { free = free; sum = sum })
entered d before cells free sum i E h len few =
    let all : length d ≤ 2 * i = omega (arith, E.within, E.long) in
    let w : drop (2 * i) d ≡ [] = drop_of_length-le d all in
    record {
      good = sym (rw w at E.good);
      sum = omega (arith, rw w at E.total);
      free = sym (cond_self free) ∙ rw (drop_of_length-le cells h) at E.clear;
      cells = rw (w, take_all i cells h, append-nil) at E.row;
      most = omega (arith, E.most);
    }
