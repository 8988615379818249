-- The lines of a text: the first one, and those of what is behind it.
-- Assumes nothing.
use Prim.Native.Nat.{ℕ, ◌<◌}
use mathlib.Core.Path.{◌≡◌, refl, sym, ap, ◌∙◌}
use mathlib.Core.Bool.{Bool, false}
use mathlib.Core.List.{List, [], ◌∷◌, ◌++◌, append_assoc, append-nil}
use native.Mathlib.Omega.{arith}
use native.Mathlib.Decide.{ℕ_discrete}
use lib.Dec.{eqb}
use lib.ListN.{length, get_or, length-append}
use borrow.Author.Tests.{ne_eqb, eqb-true}
use Rattle.parts.proofs.Laws.{branch}
use Rattle.hexfile.specs.File.{before_lf, lines_of}
use Rattle.hexfile_promises.specs.Files.{NoLf, FirstLine, by_lf, by_cr_lf, by_end, LineEnd, lf, cr_lf, LastEnd, closed, missing}
use Rattle.hexfile_promises.proofs.Digits.{High}

-- ---- the first line is the first of the lines

not-before : (x : ℕ) (t : List ℕ) → (x ≡ 13 → get_or t 0 0 ≡ 10 → ⊥) → before_lf x t ≡ false
not-before x t f = branch (λ (b : Bool). b ≡ false) (eqb x 13) (λ e. ne_eqb (get_or t 0 0) 10 (f (eqb-true x 13 e))) (λ _. refl)

-- one byte more before a line
module _ (x : ℕ) (t l : List ℕ) (ls : List (List ℕ)) (n : x ≡ 10 → ⊥) where
  joined : (x ≡ 13 → get_or t 0 0 ≡ 10 → ⊥) → lines_of t ≡ l ∷ ls → lines_of (x ∷ t) ≡ (x ∷ l) ∷ ls
  joined f e = rw (ne_eqb x 10 n, not-before x t f, e)

ended_cr : (l b : List ℕ) → NoLf l → lines_of (l ++ 13 ∷ 10 ∷ b) ≡ l ∷ lines_of b
ended_cr [] b h = refl
ended_cr (x ∷ []) b h = joined x (13 ∷ 10 ∷ b) [] (lines_of b) h.0 (λ _ e. omega arith) refl
ended_cr (x ∷ y ∷ l) b h = joined x (y ∷ l ++ 13 ∷ 10 ∷ b) (y ∷ l) (lines_of b) h.0 (λ _ e. h.1.0 e) (ended_cr (y ∷ l) b h.1)

ended_lf : (l b : List ℕ) → NoLf l → ((k : List ℕ) → l ≡ k ++ (13 ∷ []) → ⊥) → lines_of (l ++ 10 ∷ b) ≡ l ∷ lines_of b
ended_lf [] b h c = refl
ended_lf (x ∷ []) b h c = joined x (10 ∷ b) [] (lines_of b) h.0 (λ e _. c [] (ap (λ (y : ℕ). y ∷ []) e)) refl
ended_lf (x ∷ y ∷ l) b h c =
    joined x (y ∷ l ++ 10 ∷ b) (y ∷ l) (lines_of b) h.0 (λ _ e. h.1.0 e)
    (ended_lf (y ∷ l) b h.1 (λ k e. c (x ∷ k) (ap (λ (m : List ℕ). x ∷ m) e)))

unended_line : (l : List ℕ) → NoLf l → 0 < length l → lines_of l ≡ l ∷ []
unended_line [] h n = absurd (omega arith)
unended_line (x ∷ []) h n = rw (ne_eqb x 10 h.0, not-before x [] (λ _ e. omega arith))
unended_line (x ∷ y ∷ l) h n = joined x (y ∷ l) (y ∷ l) [] h.0 (λ _ e. h.1.0 e) (unended_line (y ∷ l) h.1 (omega arith))

pub first_of : {t l b : List ℕ} → FirstLine t l b → lines_of t ≡ l ∷ lines_of b
first_of (by_lf {l = l} {b = b} e h c) = rw e (ended_lf l b h c)
first_of (by_cr_lf {l = l} {b = b} e h) = rw e (ended_cr l b h)
first_of (by_end {t = t} h n) = unended_line t h n

pub first_shorter : {t l b : List ℕ} → FirstLine t l b → length b < length t
first_shorter (by_lf {l = l} {b = b} e h c) = rw e (omega (arith, length-append l (10 ∷ b)))
first_shorter (by_cr_lf {l = l} {b = b} e h) = rw e (omega (arith, length-append l (13 ∷ 10 ∷ b)))
first_shorter (by_end h n) = n

-- ---- every text that is not empty has one

pub record Split (t : List ℕ) : Type 0 where
  pub line : List ℕ
  pub behind : List ℕ
  pub first : FirstLine t line behind

not-nil : (k : List ℕ) → [] ≡ k ++ (13 ∷ []) → ⊥
not-nil k e = omega (arith, length-append k (13 ∷ []), ap length e)

-- of a byte that ends no line and a line
module _ (x : ℕ) (n : x ≡ 10 → ⊥) where
  no_cr : (y : ℕ) (l : List ℕ) → ((k : List ℕ) → y ∷ l ≡ k ++ (13 ∷ []) → ⊥) → (k : List ℕ) → x ∷ y ∷ l ≡ k ++ (13 ∷ []) → ⊥
  no_cr y l c [] e = let z : y ∷ l ≡ [] = cc in omega (arith, ap length z)
  no_cr y l c (z ∷ k) e = c k (cc)

  alone : (x ≡ 13 → ⊥) → (k : List ℕ) → x ∷ [] ≡ k ++ (13 ∷ []) → ⊥
  alone o [] e = o (cc)
  alone o (z ∷ k) e = not-nil k (cc)

  longer : {t l b : List ℕ} → FirstLine t l b → Split (x ∷ t)
  longer (by_lf {t = t} {l = []} {b = b} e h c) =
      elim (ℕ_discrete x 13) [
        | yes o ↦ let g : x ∷ t ≡ 13 ∷ 10 ∷ b = cc in record { line = []; behind = b; first = by_cr_lf g tt }
        | no o ↦ record { line = x ∷ []; behind = b; first = by_lf {l = x ∷ []} (ap (λ (m : List ℕ). x ∷ m) e) (n, tt) (alone o) }
      ]
  longer (by_lf {l = y ∷ l} {b = b} e h c) = record { line = x ∷ y ∷ l; behind = b; first = by_lf {l = x ∷ y ∷ l} (ap (λ (m : List ℕ). x ∷ m) e) (n, h) (no_cr y l c) }
  longer (by_cr_lf {l = l} {b = b} e h) = record { line = x ∷ l; behind = b; first = by_cr_lf {l = x ∷ l} (ap (λ (m : List ℕ). x ∷ m) e) (n, h) }
  longer (by_end {t = t} h m) = record { line = x ∷ t; behind = []; first = by_end {t = x ∷ t} (n, h) (omega arith) }

at_once : (x : ℕ) (t : List ℕ) → Dec (x ≡ 10) → ((x ≡ 10 → ⊥) → Split (x ∷ t)) → Split (x ∷ t)
at_once x t (yes e) f = record { line = []; behind = t; first = by_lf (ap (λ (y : ℕ). y ∷ t) e) tt not-nil }
at_once x t (no n) f = f n

pub split : (x : ℕ) (t : List ℕ) → Split (x ∷ t)
split x [] = at_once x [] (ℕ_discrete x 10) (λ n. record { line = x ∷ []; behind = []; first = by_end {t = x ∷ []} (n, tt) (omega arith) })
split x (y ∷ t) = at_once x (y ∷ t) (ℕ_discrete x 10) (λ n. longer x n (split y t).first)

-- ---- lines of digits

pub high_no_lf : (l : List ℕ) → High l → NoLf l
high_no_lf [] h = tt
high_no_lf (x ∷ l) h = (λ e. omega arith, high_no_lf l h.1)

high_no_cr : (l k : List ℕ) → High l → l ≡ k ++ (13 ∷ []) → ⊥
high_no_cr l k h e = go k (rw e at h)
  where
    go : (k : List ℕ) → High (k ++ (13 ∷ [])) → ⊥
    go [] h = omega arith
    go (x ∷ k) h = go k h.1

pub high_first : {t l z u : List ℕ} → High l → t ≡ l ++ z ++ u → LineEnd z → FirstLine t l u
high_first {l = l} {u = u} h e lf = by_lf (e ∙ append_assoc l (10 ∷ []) u) (high_no_lf l h) (λ k. high_no_cr l k h)
high_first {l = l} {u = u} h e cr_lf = by_cr_lf (e ∙ append_assoc l (13 ∷ 10 ∷ []) u) (high_no_lf l h)

pub high_last : {l z : List ℕ} → High l → 0 < length l → LastEnd z → lines_of (l ++ z) ≡ l ∷ []
high_last {l} {z} h n (closed e) = first_of (high_first {u = []} h (sym (append-nil (l ++ z))) e)
high_last {l} h n missing = rw (append-nil l) (unended_line l (high_no_lf l h) n)
