-- Digits without branches: which bytes are digits, and their values. Assumes nothing.
use mathlib.Core.Path.{◌≡◌, refl, sym, ◌∙◌}
use mathlib.Core.Bool.{Bool, true, false, ◌&&◌, ◌||◌}
use Prim.Native.Nat.{ℕ, ◌+◌, ◌-◌, ◌*◌, ◌/◌, ◌%◌, ◌≤◌, ◌<◌}
use native.Mathlib.Omega.{arith}
use lib.Dec.{ltb}
use borrow.Author.Tests.{lt-ltb, le-ltb, ltb-true, ltb-false}
use Rattle.parts.proofs.Laws.{branch}
use Rattle.parts.proofs.Tests.{and_both}
use Rattle.text.specs.Digits.{value_of}
use Rattle.hexfile.specs.Record.{pair_at, pair_of}
use Rattle.hexfile.proofs.Kit.{clash}

-- every way of `value_of`, each with what is known of the byte there
pub ways : (Q : ℕ → Type 0) (b : ℕ)
    → (b < 48 → Q 16)
    → (48 ≤ b → b < 58 → Q (b - 48))
    → (58 ≤ b → b < 65 → Q 16)
    → (65 ≤ b → b < 71 → Q (b - 55))
    → (71 ≤ b → b < 97 → Q 16)
    → (97 ≤ b → b < 103 → Q (b - 87))
    → (103 ≤ b → Q 16)
    → Q (value_of b)
unfolding value_of
ways Q b f0 f1 f2 f3 f4 f5 f6 =
    branch Q (ltb b 48) (λ h. f0 (ltb-true b 48 h)) (λ g0.
    branch Q (ltb b 58) (λ h. f1 (ltb-false b 48 g0) (ltb-true b 58 h)) (λ g1.
    branch Q (ltb b 65) (λ h. f2 (ltb-false b 58 g1) (ltb-true b 65 h)) (λ g2.
    branch Q (ltb b 71) (λ h. f3 (ltb-false b 65 g2) (ltb-true b 71 h)) (λ g3.
    branch Q (ltb b 97) (λ h. f4 (ltb-false b 71 g3) (ltb-true b 97 h)) (λ g4.
    branch Q (ltb b 103) (λ h. f5 (ltb-false b 97 g4) (ltb-true b 103 h)) (λ g5. f6 (ltb-false b 103 g5)))))))

module _ (b : ℕ) where
  abbrev test : Bool
  test = ((ltb 47 b && ltb b 58) || (ltb 64 b && ltb b 71)) || (ltb 96 b && ltb b 103)

  pub digit_test : test ≡ ltb (value_of b) 16
  digit_test =
      ways (λ (x : ℕ). test ≡ ltb x 16) b
      (λ h. rw (le-ltb 47 b (omega arith), le-ltb 64 b (omega arith), le-ltb 96 b (omega arith)) refl)
      (λ g h. rw (lt-ltb 47 b (omega arith), lt-ltb b 58 h, lt-ltb (b - 48) 16 (omega arith)) refl)
      (λ g h. rw (lt-ltb 47 b (omega arith), le-ltb b 58 g, le-ltb 64 b (omega arith), le-ltb 96 b (omega arith)) refl)
      (λ g h. rw (lt-ltb 47 b (omega arith), le-ltb b 58 (omega arith), lt-ltb 64 b (omega arith), lt-ltb b 71 h, lt-ltb (b - 55) 16 (omega arith)) refl)
      (λ g h. rw (lt-ltb 47 b (omega arith), le-ltb b 58 (omega arith), lt-ltb 64 b (omega arith), le-ltb b 71 g, le-ltb 96 b (omega arith)) refl)
      (λ g h. rw (lt-ltb 47 b (omega arith), le-ltb b 58 (omega arith), lt-ltb 64 b (omega arith), le-ltb b 71 (omega arith), lt-ltb 96 b (omega arith), lt-ltb b 103 h, lt-ltb (b - 87) 16 (omega arith)) refl)
      (λ g. rw (lt-ltb 47 b (omega arith), le-ltb b 58 (omega arith), lt-ltb 64 b (omega arith), le-ltb b 71 (omega arith), lt-ltb 96 b (omega arith), le-ltb b 103 g) refl)

  pub digit_value : value_of b < 16 → b % 16 + 9 * (b / 64) ≡ value_of b
  digit_value =
      ways (λ (x : ℕ). x < 16 → b % 16 + 9 * (b / 64) ≡ x) b
      (λ h q. absurd (omega arith))
      (λ g h q. omega arith)
      (λ g h q. absurd (omega arith))
      (λ g h q. omega arith)
      (λ g h q. absurd (omega arith))
      (λ g h q. omega arith)
      (λ g q. absurd (omega arith))

module _ (a b : ℕ) (d e : Bool) (hd : d ≡ ltb (value_of a) 16) (he : e ≡ ltb (value_of b) 16) where
  pub pair_right : (x y : ℕ) → (d && e) ≡ true → (value_of a < 16 → x ≡ value_of a) → (value_of b < 16 → y ≡ value_of b)
      → (16 * x + y ≡ pair_of a b) × (16 * x + y < 256)
  unfolding pair_of pair_at
  pair_right x y h fx fy =
      let (p, q) = and_both d e h in
      let va : value_of a < 16 = ltb-true (value_of a) 16 (sym hd ∙ p) in
      let vb : value_of b < 16 = ltb-true (value_of b) 16 (sym he ∙ q) in
      (rw (lt-ltb (value_of a) 16 va, lt-ltb (value_of b) 16 vb, fx va, fy vb) refl, omega (arith, fx va, fy vb))

  pub pair_wrong : (d && e) ≡ false → 256 ≡ pair_of a b
  unfolding pair_of pair_at
  pair_wrong h =
      branch (λ (z : ℕ). 256 ≡ z) (ltb (value_of a) 16)
      (λ p. branch (λ (z : ℕ). 256 ≡ z) (ltb (value_of b) 16) (λ q. clash (sym (rw (hd, p, he, q) refl) ∙ h)) (λ _. refl))
      (λ _. refl)
