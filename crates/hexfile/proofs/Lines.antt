-- The lines of a text: what stands before its first LF, or all of it, and the lines behind.
-- Assumes nothing.
use mathlib.Core.Path.{◌≡◌, refl, sym, ap, ◌∙◌}
use mathlib.Core.Bool.{Bool, true, false, cond, not}
use mathlib.Core.List.{List, [], ◌∷◌}
use Prim.Native.Nat.{ℕ, zero, suc, ◌+◌, ◌-◌, ◌≤◌, ◌<◌}
use native.Mathlib.Omega.{arith}
use lib.ListN.{length, get_or, take, drop, length-drop, drop_of_length-le}
use lib.Dec.{eqb, ltb}
use lib.Seq.{get_or-drop, drop-drop, take_all}
use borrow.Author.Tests.{lt-ltb, eq-eqb, ne_eqb, ltb-true, ltb-false, eqb-true, eqb-false}
use Rattle.parts.proofs.Laws.{branch}
use Rattle.parts.proofs.Tests.{either}
use Rattle.std.specs.List.{position, position_or_len}
use Rattle.std.specs.Prelude.{◌==◌, Option, Some, None}
use Rattle.std.proofs.lemmas.Option.{none-some}
use Rattle.std.proofs.lemmas.List.Quantifiers.{position-Some}
use Rattle.hexfile.specs.File.{lines_of}
use Rattle.hexfile.specs.Steps.{LineEnd, bare_of, next_of}

-- a byte that is no line end, before one that is no LF
joined : (x : ℕ) (s l : List ℕ) (ls : List (List ℕ)) → (x ≡ 10 → ⊥) → (get_or s 0 0 ≡ 10 → ⊥) → lines_of s ≡ l ∷ ls → lines_of (x ∷ s) ≡ (x ∷ l) ∷ ls
joined x s l ls h g e =
    rw (ne_eqb x 10 h, ne_eqb (get_or s 0 0) 10 g, e) (branch (λ (b : Bool). cond b (l ∷ ls) ((x ∷ l) ∷ ls) ≡ (x ∷ l) ∷ ls) (eqb x 13) (λ _. refl) (λ _. refl))

abbrev Before : List ℕ → ℕ → Type 0
Before s j = (k : ℕ) → k < j → get_or s k 0 ≡ 10 → ⊥

less : (x : ℕ) (s : List ℕ) (j : ℕ) → Before (x ∷ s) (suc j) → Before s j
less x s j none k h = none (suc k) (omega arith)

-- the last line, with no end
pub line_last : (s : List ℕ) (j : ℕ) → 0 < j → length s ≡ j → Before s j → lines_of s ≡ take j s ∷ []
line_last [] j p e none = absurd (omega arith)
line_last (x ∷ s) zero p e none = absurd (omega arith)
line_last (x ∷ []) (suc zero) p e none = rw (ne_eqb x 10 (none 0 (omega arith))) (branch (λ (b : Bool). cond b [] ((x ∷ []) ∷ []) ≡ (x ∷ []) ∷ []) (eqb x 13) (λ _. refl) (λ _. refl))
line_last (x ∷ []) (suc (suc j)) p e none = absurd (omega arith)
line_last (x ∷ y ∷ s) (suc zero) p e none = absurd (omega arith)
line_last (x ∷ y ∷ s) (suc (suc j)) p e none =
    joined x (y ∷ s) (y ∷ take j s) [] (none 0 (omega arith)) (none 1 (omega arith)) (line_last (y ∷ s) (suc j) (omega arith) (omega arith) (less x (y ∷ s) (suc j) none))

-- a line that ends with LF
pub line_lf : (s : List ℕ) (j : ℕ) → j < length s → Before s j → get_or s j 0 ≡ 10 → ((k : ℕ) → j ≡ suc k → get_or s k 0 ≡ 13 → ⊥) → lines_of s ≡ take j s ∷ lines_of (drop (suc j) s)
line_lf [] j h none e cr = absurd (omega arith)
line_lf (x ∷ s) zero h none e cr = rw (eq-eqb x 10 e)
line_lf (x ∷ []) (suc j) h none e cr = absurd (omega arith)
line_lf (x ∷ y ∷ s) (suc zero) h none e cr = rw (ne_eqb x 10 (none 0 (omega arith)), ne_eqb x 13 (cr 0 refl), eq-eqb y 10 e)
line_lf (x ∷ y ∷ s) (suc (suc j)) h none e cr =
    joined x (y ∷ s) (y ∷ take j s) (lines_of (drop (suc j) s)) (none 0 (omega arith)) (none 1 (omega arith))
    (line_lf (y ∷ s) (suc j) (omega arith) (less x (y ∷ s) (suc j) none) e (λ k q. cr (suc k) (ap suc q)))

-- a line that ends with CR LF
pub line_cr : (s : List ℕ) (j : ℕ) → suc j < length s → Before s (suc j) → get_or s j 0 ≡ 13 → get_or s (suc j) 0 ≡ 10 → lines_of s ≡ take j s ∷ lines_of (drop (suc (suc j)) s)
line_cr [] j h none c e = absurd (omega arith)
line_cr (x ∷ []) j h none c e = absurd (omega arith)
line_cr (x ∷ y ∷ s) zero h none c e = rw (ne_eqb x 10 (none 0 (omega arith)), eq-eqb x 13 c, eq-eqb y 10 e)
line_cr (x ∷ y ∷ s) (suc j) h none c e =
    joined x (y ∷ s) (take j (y ∷ s)) (lines_of (drop (suc j) s)) (none 0 (omega arith)) (none 1 (omega arith))
    (line_cr (y ∷ s) j (omega arith) (less x (y ∷ s) (suc j) none) c e)

-- ---- the line that begins at a place of a text

shorter : (n m : ℕ) → cond (ltb (1 + n) (suc m)) (Some (1 + n)) None ≡ None → cond (ltb n m) (Some n) None ≡ None
shorter n m e =
    either (ltb n m) (λ y. absurd (none-some {A = ℕ} (1 + n) (sym (rw (lt-ltb (1 + n) (suc m) (let z = ltb-true n m y in omega arith)) at e)))) (λ y. rw y refl)

no_first : (b : Bool) (n m : ℕ) → cond (ltb (cond (not b) (1 + n) 0) (suc m)) (Some (cond (not b) (1 + n) 0)) None ≡ None → (b ≡ false) × (cond (ltb n m) (Some n) None ≡ None)
no_first true n m e = absurd (none-some {A = ℕ} 0 (sym (rw (lt-ltb 0 (suc m) (omega arith)) at e)))
no_first false n m e = (refl, shorter n m e)

-- of bytes without an LF
no_feed : (xs : List ℕ) → position (λ b. b == 10) xs ≡ None → (k : ℕ) → get_or xs k 0 ≡ 10 → ⊥
no_feed [] e zero h = absurd (omega arith)
no_feed [] e (suc k) h = absurd (omega arith)
no_feed (x ∷ xs) e zero h = eqb-false x 10 (no_first (eqb x 10) (position_or_len (λ b. b == 10) xs) (length xs) e).0 h
no_feed (x ∷ xs) e (suc k) h = no_feed xs (no_first (eqb x 10) (position_or_len (λ b. b == 10) xs) (length xs) e).1 k h

module _ (t : List ℕ) (at : ℕ) (h : at ≤ length t) where
  behind_at : (k : ℕ) → at ≤ k → get_or (drop at t) (k - at) 0 ≡ get_or t k 0
  behind_at k a = let g : at + (k - at) ≡ k = omega arith in get_or-drop at t (k - at) 0 ∙ rw g

  rest : take (length t - at) (drop at t) ≡ drop at t
  rest = take_all (length t - at) (drop at t) (simp length-drop (omega arith))

  pub fed : (k : ℕ) → Some k ≡ position (λ b. b == 10) (take (length t - at) (drop at t)) → LineEnd t at (at + k)
  fed k e =
      let f = position-Some (λ b. b == 10) (drop at t) k 0 (sym (rw rest at e)) in
      let w : k < length t - at = rw length-drop at f.0 in
      record {
        from = omega arith;
        within = omega arith;
        none = λ n a b y. let m : n - at < k = omega arith in eqb-false (get_or (drop at t) (n - at) 0) 10 (f.2 (n - at) m) (behind_at n a ∙ y);
        found = λ _. sym (get_or-drop at t k 0) ∙ eqb-true (get_or (drop at t) k 0) 10 f.1;
      }

  pub unfed : None ≡ position (λ b. b == 10) (take (length t - at) (drop at t)) → LineEnd t at (length t)
  unfed e =
      record {
        from = h;
        within = omega arith;
        none = λ n a b y. no_feed (drop at t) (sym (rw rest at e)) (n - at) (behind_at n a ∙ y);
        found = λ z. absurd (omega arith);
      }

module _ (t : List ℕ) (at e : ℕ) (lt : at < length t) (E : LineEnd t at e) where
  before : Before (drop at t) (e - at)
  before k h x = E.none (at + k) (omega arith) (omega arith) (sym (get_or-drop at t k 0) ∙ x)

  placed : (n : ℕ) → at ≤ n → get_or (drop at t) (n - at) 0 ≡ get_or t n 0
  placed n h = let g : at + (n - at) ≡ n = omega arith in get_or-drop at t (n - at) 0 ∙ rw g

  past : (n : ℕ) → at ≤ n → drop (n - at) (drop at t) ≡ drop n t
  past n h = let g : at + (n - at) ≡ n = omega arith in drop-drop (n - at) at t ∙ rw g

  at-end : length t ≤ e → lines_of (drop at t) ≡ take (e - at) (drop at t) ∷ lines_of (drop e t)
  at-end h = line_last (drop at t) (e - at) (omega arith) (simp length-drop (omega (arith, E.within))) before ∙ rw (drop_of_length-le t h)

  at_lf : e < length t → ((k : ℕ) → e - at ≡ suc k → get_or (drop at t) k 0 ≡ 13 → ⊥) → lines_of (drop at t) ≡ take (e - at) (drop at t) ∷ lines_of (drop (e + 1) t)
  at_lf h cr =
      let g : suc (e - at) ≡ e + 1 - at = omega (arith, E.from) in
      line_lf (drop at t) (e - at) (simp length-drop (omega (arith, E.from))) before (placed e E.from ∙ E.found h) cr
      ∙ rw (g, past (e + 1) (omega (arith, E.from)))

  at_cr : e < length t → at < e → get_or t (e - 1) 0 ≡ 13 → lines_of (drop at t) ≡ take (e - 1 - at) (drop at t) ∷ lines_of (drop (e + 1) t)
  at_cr h l x =
      let f : e - at ≡ suc (e - 1 - at) = omega arith in
      let g : suc (suc (e - 1 - at)) ≡ e + 1 - at = omega arith in
      line_cr (drop at t) (e - 1 - at) (simp length-drop (omega arith)) (rw f at before) (placed (e - 1) (omega arith) ∙ x) (rw f at (placed e E.from ∙ E.found h))
      ∙ rw (g, past (e + 1) (omega arith))

  pub next_line : lines_of (drop at t) ≡ take (bare_of t at e - at) (drop at t) ∷ lines_of (drop (next_of (length t) e) t)
  unfolding bare_of next_of
  next_line =
      either (ltb e (length t))
      (λ h. let in-text = ltb-true e (length t) h in
      either (ltb at e)
      (λ l. let some = ltb-true at e l in
      either (eqb (get_or t (e - 1) 0) 13)
      (λ x. rw (h, l, x) (at_cr in-text some (eqb-true (get_or t (e - 1) 0) 13 x)))
      (λ x. rw (h, l, x) (at_lf in-text (λ k q y. let n : e - 1 - at ≡ k = omega arith in eqb-false (get_or t (e - 1) 0) 13 x (sym (placed (e - 1) (omega arith)) ∙ rw n y)))))
      (λ l. let empty = ltb-false at e l in rw (h, l) (at_lf in-text (λ k q y. omega arith))))
      (λ h. rw h (at-end (ltb-false e (length t) h)))

  pub next_after : (at < next_of (length t) e) × (next_of (length t) e ≤ length t)
  unfolding next_of
  next_after = branch (λ (n : ℕ). (at < n) × (n ≤ length t)) (ltb e (length t)) (λ h. let g = ltb-true e (length t) h in (omega (arith, E.from), omega arith)) (λ h. let g = ltb-false e (length t) h in (omega (arith, E.within), E.within))
