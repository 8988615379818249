-- Digits are read as what they spell, and only digits are read.
-- Assumes nothing.
use Prim.Native.Nat.{ℕ, ◌+◌, ◌*◌, ◌<◌, ◌≤◌}
use mathlib.Core.Path.{◌≡◌, refl}
use mathlib.Core.Bool.{true}
use mathlib.Core.List.{List, [], ◌∷◌}
use native.Mathlib.Omega.{arith}
use lib.Dec.{ltb}
use borrow.Author.Tests.{lt-ltb, le-ltb, ltb-true}
use Rattle.parts.specs.Bytes.{AllBelow}
use Rattle.parts.proofs.Laws.{branch}
use Rattle.hexfile.proofs.Digits.{ways}
use Rattle.hexfile.proofs.Values.{bytes_head}
use Rattle.text.specs.Digits.{value_of}
use Rattle.hexfile.specs.Record.{pair_at, pair_of, values_of, bytes_of}
use Rattle.hexfile_promises.specs.Files.{Digit, figure, capital, small, Digits, none, byte}

-- ---- one digit

pub value_of_lem : {c x : ℕ} → Digit c x → (value_of c ≡ x) × (x < 16) × (48 ≤ c)
unfolding value_of
value_of_lem {c} {x} (figure e h) =
    (rw (le-ltb c 48 (omega arith), lt-ltb c 58 (omega arith)) (omega arith), omega arith, omega arith)
value_of_lem {c} {x} (capital e g h) =
    (rw (le-ltb c 48 (omega arith), le-ltb c 58 (omega arith), le-ltb c 65 (omega arith), lt-ltb c 71 (omega arith)) (omega arith), omega arith, omega arith)
value_of_lem {c} {x} (small e g h) =
    (rw (le-ltb c 48 (omega arith), le-ltb c 58 (omega arith), le-ltb c 65 (omega arith), le-ltb c 71 (omega arith), le-ltb c 97 (omega arith), lt-ltb c 103 (omega arith)) (omega arith), omega arith, omega arith)

digit_at : (c : ℕ) → value_of c < 16 → Digit c (value_of c)
digit_at c =
    ways (λ (x : ℕ). x < 16 → Digit c x) c
    (λ _ h. absurd (omega arith))
    (λ a b h. figure (omega arith) (omega arith))
    (λ _ _ h. absurd (omega arith))
    (λ a b h. capital (omega arith) (omega arith) h)
    (λ _ _ h. absurd (omega arith))
    (λ a b h. small (omega arith) (omega arith) h)
    (λ _ h. absurd (omega arith))

-- ---- two digits a byte

pair_of_lem : {a b x y : ℕ} → Digit a x → Digit b y → pair_of a b ≡ 16 * x + y
unfolding pair_of pair_at
pair_of_lem {a} {b} {x} {y} p q =
    let u = value_of_lem p in
    let v = value_of_lem q in
    rw (u.0, v.0, lt-ltb x 16 u.1, lt-ltb y 16 v.1)

pair_at_lem : (a b : ℕ) → pair_of a b < 256 → (value_of a < 16) × (value_of b < 16) × (pair_of a b ≡ 16 * value_of a + value_of b)
unfolding pair_of pair_at
pair_at_lem a b =
    branch Q (ltb (value_of a) 16)
    (λ h. branch Q (ltb (value_of b) 16) (λ g _. (ltb-true (value_of a) 16 h, ltb-true (value_of b) 16 g, refl)) (λ _ l. absurd (omega arith)))
    (λ _ l. absurd (omega arith))
  where
    Q : ℕ → Type 0
    Q x = x < 256 → (value_of a < 16) × (value_of b < 16) × (x ≡ 16 * value_of a + value_of b)

pub bytes_cons : (x : ℕ) (v : List ℕ) → x < 256 → bytes_of v ≡ true → bytes_of (x ∷ v) ≡ true
bytes_cons x v h e = rw (lt-ltb x 256 h) e

pub bytes_below : (v : List ℕ) → bytes_of v ≡ true → AllBelow 256 v
bytes_below [] h = tt
bytes_below (x ∷ v) h = let p = bytes_head x v h in (p.0, bytes_below v p.1)

pub below_bytes : (v : List ℕ) → AllBelow 256 v → bytes_of v ≡ true
below_bytes [] h = refl
below_bytes (x ∷ v) h = bytes_cons x v h.0 (below_bytes v h.1)

-- no byte of a digit, nor ':', is a line end
abbrev pub High : List ℕ → Type 0
High [] = Unit {0}
High (x ∷ l) = (48 ≤ x) × High l

pub spelled : {l v : List ℕ} → Digits l v → (values_of l ≡ v) × (bytes_of v ≡ true) × High l
spelled none = (refl, refl, tt)
spelled (byte {v = v} {vs = vs} p q e r) =
    let s = spelled r in
    let x = value_of_lem p in
    let y = value_of_lem q in
    (rw (pair_of_lem p q, e, s.0), bytes_cons v vs (omega arith) s.1, (x.2, (y.2, s.2)))

pub digits_at : (l : List ℕ) → bytes_of (values_of l) ≡ true → Digits l (values_of l)
digits_at [] h = none
digits_at (a ∷ []) h = absurd (omega (arith, (bytes_head 256 [] h).0))
digits_at (a ∷ b ∷ l) h =
    let p = bytes_head (pair_of a b) (values_of l) h in
    let q = pair_at_lem a b p.0 in
    byte (digit_at a q.0) (digit_at b q.1) q.2 (digits_at l p.1)
