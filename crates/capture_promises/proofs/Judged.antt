-- Which captures are refused: the first sample above 3 decides.
-- Assumes nothing.
use Rattle.std.specs.Prelude.{Err}
use Prim.Native.Nat.{ℕ, zero, suc, ◌+◌, ◌<◌}
use mathlib.Core.Path.{◌≡◌, refl, ap, ◌∙◌}
use mathlib.Core.Bool.{Bool, true, false}
use mathlib.Core.Logic.{◌⊎◌, inl, inr}
use mathlib.Core.List.{List, [], ◌∷◌}
use native.Mathlib.Omega.{arith}
use lib.ListN.{length, get_or, take}
use lib.Dec.{ltb}
use borrow.Author.Tests.{lt-ltb, le-ltb, ltb-true, ltb-false}
use Rattle.parts.specs.declared.Refusal.TheVariants.{BadSample}
use Rattle.parts.specs.Bytes.{AllBelow}
use Rattle.capture.specs.Samples.{judge_from, judge_of}

-- ---- a capture is refused at its first sample above 3; which are not refused stands in capture/proofs/Sampled.antt

bad_from : (j k : ℕ) (ss : List ℕ) → k < length ss → AllBelow 4 (take k ss) → 3 < get_or ss k 0 → judge_from j ss ≡ Err (BadSample (j + k))
bad_from j k [] l h g = absurd (omega arith)
bad_from j zero (s ∷ ss) l h g = rw (lt-ltb 3 s g) (ap (λ (n : ℕ). Err (BadSample n)) (omega arith))
bad_from j (suc k) (s ∷ ss) l h g =
    rw (le-ltb 3 s (omega (arith, h.0))) (bad_from (suc j) k ss (omega arith) h.1 g ∙ ap (λ (n : ℕ). Err (BadSample n)) (omega arith))

pub bad_judge : (ss : List ℕ) (k : ℕ) → k < length ss → AllBelow 4 (take k ss) → 3 < get_or ss k 0 → judge_of ss ≡ Err (BadSample k)
unfolding judge_of
bad_judge ss k l h g = bad_from 0 k ss l h g ∙ ap (λ (n : ℕ). Err (BadSample n)) (omega arith)

-- of two ways one
pub record FirstBad (ss : List ℕ) : Type 0 where
  pub place : ℕ
  pub there : place < length ss
  pub before : AllBelow 4 (take place ss)
  pub above : 3 < get_or ss place 0

pub judged : (ss : List ℕ) → AllBelow 4 ss ⊎ FirstBad ss
judged [] = inl tt
judged (s ∷ ss) = go (ltb 3 s) refl (judged ss)
  where
    go : (b : Bool) → ltb 3 s ≡ b → AllBelow 4 ss ⊎ FirstBad ss → AllBelow 4 (s ∷ ss) ⊎ FirstBad (s ∷ ss)
    go true e more = inr (record { place = 0; there = omega arith; before = tt; above = ltb-true 3 s e })
    go false e (inl low) = inl (omega (arith, ltb-false 3 s e), low)
    go false e (inr f) =
        inr (record { place = suc f.place; there = omega (arith, f.there); before = (omega (arith, ltb-false 3 s e), f.before); above = f.above })
