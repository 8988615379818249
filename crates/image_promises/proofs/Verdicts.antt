-- Which verdict is given where a part, buffers and counts are lent.
-- Assumes nothing.
use Rattle.std.specs.Prelude.{Ok, Err}
use Prim.Native.Nat.{ℕ, ◌≤◌}
use mathlib.Core.Path.{◌≡◌, ◌∙◌, ap, refl}
use mathlib.Core.Bool.{Bool, true, false, not, cond}
use native.Mathlib.Omega.{arith}
use lib.Dec.{eqb, ltb}
use borrow.Author.Tests.{eqb-true, eq-eqb, lt-ltb, ltb-true, ltb-false}
use Rattle.parts.specs.declared.Facts.{Facts}
use Rattle.parts.specs.declared.Refusal.{Refusal}
use Rattle.parts.specs.declared.Refusal.TheVariants.{NoPart, WrongEnable, WrongBuffer, ShortBuffer}
use Rattle.parts.specs.Verdict.{Verdict}
use Rattle.parts.specs.Table.{id_size_of, groups_of, buffers_right_of}
use Rattle.parts.specs.Refusals.{rank_of, claim_of, sooner_of, lent_verdict_of}
use Rattle.parts.proofs.Laws.{buffers_right_lem, buffers_wrong}
use Rattle.parts.proofs.Claims.{Later, later_claim, later_sooner, given_first, lent_unknown}
use Rattle.wear.specs.Calls.{counts_verdict_of}

-- ---- of three claims, whichever two are judged first

module _ (r s t : Refusal) where
  abbrev first_of : Bool → Bool → Bool → Type 0
  first_of sr ts tr = sooner_of (cond sr (Err s) (Err r)) (Err t) ≡ sooner_of (Err r) (cond ts (Err t) (Err s))

  of_three : (sr ts tr : Bool) → ltb (rank_of s) (rank_of r) ≡ sr → ltb (rank_of t) (rank_of s) ≡ ts → ltb (rank_of t) (rank_of r) ≡ tr → first_of sr ts tr
  unfolding sooner_of
  of_three true true true a b c = rw (b, c) refl
  of_three true true false a b c = let x = ltb-true (rank_of s) (rank_of r) a in let y = ltb-true (rank_of t) (rank_of s) b in let z = ltb-false (rank_of t) (rank_of r) c in absurd (omega (arith, x, y, z))
  of_three true false tr a b c = rw (a, b) refl
  of_three false true tr a b c = refl
  of_three false false true a b c = let x = ltb-false (rank_of s) (rank_of r) a in let y = ltb-false (rank_of t) (rank_of s) b in let z = ltb-true (rank_of t) (rank_of r) c in absurd (omega (arith, x, y, z))
  of_three false false false a b c = rw (a, c) refl

pub sooner_either : (a b c : Verdict) → sooner_of (sooner_of a b) c ≡ sooner_of a (sooner_of b c)
unfolding sooner_of
sooner_either (Ok _) b c = refl
sooner_either (Err r) (Ok _) c = refl
sooner_either (Err r) (Err s) (Ok _) = by (ltb (rank_of s) (rank_of r))
  where
    by : (x : Bool) → sooner_of (cond x (Err s) (Err r)) (Ok tt) ≡ cond x (Err s) (Err r)
    by true = refl
    by false = refl
sooner_either (Err r) (Err s) (Err t) =
    of_three r s t (ltb (rank_of s) (rank_of r)) (ltb (rank_of t) (rank_of s)) (ltb (rank_of t) (rank_of r)) refl refl refl

-- ---- 1 and 3, of the two buffers and the counts, before what else is claimed

module _ (f : Facts) (n d k : ℕ) where
  abbrev pub lent_all : Verdict → Verdict
  lent_all v = sooner_of (counts_verdict_of f k) (sooner_of (lent_verdict_of f n d) v)

  counts_1 : f.known ≡ false → counts_verdict_of f k ≡ Err NoPart
  unfolding counts_verdict_of
  counts_1 u =
      ap (λ (b : Bool). sooner_of (claim_of (not b) NoPart) (claim_of (not (eqb k (groups_of f))) WrongBuffer)) u
      ∙ given_first NoPart (claim_of (not (eqb k (groups_of f))) WrongBuffer) (later_claim _ (not (eqb k (groups_of f))) WrongBuffer (omega arith))

  pub lent_1 : (v : Verdict) → f.known ≡ false → Later (rank_of NoPart) v → lent_all v ≡ Err NoPart
  lent_1 v u h =
      let a : sooner_of (lent_verdict_of f n d) v ≡ Err NoPart = ap (λ (w : Verdict). sooner_of w v) (lent_unknown f n d u) ∙ given_first NoPart v h in
      (λ i. sooner_of (counts_1 u i) (a i)) ∙ given_first NoPart (Err NoPart) (omega arith)

  -- of a part that there is
  known_all : (v : Verdict) → f.known ≡ true
      → lent_all v ≡ sooner_of (claim_of (not (eqb k (groups_of f))) WrongBuffer) (sooner_of (claim_of (not (buffers_right_of f n d)) WrongBuffer) v)
  unfolding counts_verdict_of lent_verdict_of sooner_of
  known_all v u = rw u refl

-- 2 goes before 3
two_first : (b c : Bool) → sooner_of (claim_of b WrongBuffer) (sooner_of (claim_of c WrongBuffer) (Err WrongEnable)) ≡ Err WrongEnable
unfolding sooner_of
two_first true true = refl
two_first true false = refl
two_first false true = refl
two_first false false = refl

-- either of two is enough
one_wrong : (b c : Bool) (v : Verdict) → Later (rank_of WrongBuffer) v → cond b c false ≡ false
    → sooner_of (claim_of (not b) WrongBuffer) (sooner_of (claim_of (not c) WrongBuffer) v) ≡ Err WrongBuffer
unfolding sooner_of
one_wrong true true v h e = cc
one_wrong true false v h e = given_first WrongBuffer v h
one_wrong false true v h e = given_first WrongBuffer v h
one_wrong false false v h e = ap (λ (w : Verdict). sooner_of (Err WrongBuffer) w) (given_first WrongBuffer v h)

module _ (f : Facts) (n d k : ℕ) (known : f.known ≡ true) where
  pub lent_2 : lent_all f n d k (Err WrongEnable) ≡ Err WrongEnable
  lent_2 = known_all f n d k (Err WrongEnable) known ∙ two_first (not (eqb k (groups_of f))) (not (buffers_right_of f n d))

  pub lent_3 : (v : Verdict) → Later (rank_of WrongBuffer) v → ((n ≡ f.size) × (d ≡ id_size_of f) × (k ≡ groups_of f) → ⊥) → lent_all f n d k v ≡ Err WrongBuffer
  lent_3 v h w = known_all f n d k v known ∙ one_wrong (eqb k (groups_of f)) (buffers_right_of f n d) v h (wrong (eqb k (groups_of f)) refl)
    where
      wrong : (b : Bool) → eqb k (groups_of f) ≡ b → cond b (buffers_right_of f n d) false ≡ false
      wrong true e = buffers_wrong f n d (λ p. w (p.0, p.1, eqb-true k (groups_of f) e))
      wrong false e = refl

  pub lent_0 : (v : Verdict) → n ≡ f.size → d ≡ id_size_of f → k ≡ groups_of f → lent_all f n d k v ≡ v
  unfolding sooner_of
  lent_0 v a b c = known_all f n d k v known ∙ rw (eq-eqb k (groups_of f) c, buffers_right_lem f n d a b) refl

-- ---- 1 and 6 of a conversion, before what else is claimed

later_than : (k j : ℕ) (v : Verdict) → k ≤ j → Later j v → Later k v
later_than k j (Ok _) h g = tt
later_than k j (Err r) h g = omega (arith, h, g)

module _ (known short : Bool) (v : Verdict) (later : Later (rank_of ShortBuffer) v) where
  abbrev pub room_for : Verdict
  room_for = sooner_of (claim_of (not known) NoPart) (sooner_of (claim_of short ShortBuffer) v)

  pub room_1 : known ≡ false → room_for ≡ Err NoPart
  room_1 u =
      ap (λ (b : Bool). sooner_of (claim_of (not b) NoPart) (sooner_of (claim_of short ShortBuffer) v)) u
      ∙ given_first NoPart (sooner_of (claim_of short ShortBuffer) v)
      (later_sooner (rank_of NoPart) (claim_of short ShortBuffer) v (later_claim (rank_of NoPart) short ShortBuffer (omega arith)) (later_than (rank_of NoPart) (rank_of ShortBuffer) v (omega arith) later))

  pub room_6 : known ≡ true → short ≡ true → room_for ≡ Err ShortBuffer
  unfolding sooner_of
  room_6 u s =
      (λ i. sooner_of (claim_of (not (u i)) NoPart) (sooner_of (claim_of (s i) ShortBuffer) v)) ∙ given_first ShortBuffer v later

  pub room_0 : known ≡ true → short ≡ false → room_for ≡ v
  unfolding sooner_of
  room_0 u s = λ i. sooner_of (claim_of (not (u i)) NoPart) (sooner_of (claim_of (s i) ShortBuffer) v)

-- of two lengths the longer decides
pub longer : (room a b : ℕ) → a ≤ b → sooner_of (claim_of (ltb room a) ShortBuffer) (claim_of (ltb room b) ShortBuffer) ≡ claim_of (ltb room b) ShortBuffer
unfolding sooner_of
longer room a b h = go (ltb room a) refl
  where
    go : (x : Bool) → ltb room a ≡ x → sooner_of (claim_of x ShortBuffer) (claim_of (ltb room b) ShortBuffer) ≡ claim_of (ltb room b) ShortBuffer
    go true e = let s = ltb-true room a e in rw (lt-ltb room b (omega (arith, s, h))) refl
    go false e = refl
