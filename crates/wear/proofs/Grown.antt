-- The walk finds the one most worn group; and where counts only grow, the worse of the worst before and of the most worn group that went on is the
-- worst after. Laws over any lists of numbers: no part, no group size and no width is in them.
-- Assumes nothing.
use Rattle.std.specs.Prelude.{Ok}
use Prim.Native.Nat.{ℕ, zero, suc, ◌+◌, ◌-◌, ◌<◌, ◌≤◌}
use mathlib.Core.Path.{◌≡◌, ◌∙◌, refl, sym, ap, subst, subst⁻¹}
use mathlib.Core.Bool.{Bool, true, false, cond, ◌&&◌}
use mathlib.Core.List.{List, [], ◌∷◌}
use native.Mathlib.Decide.{dec_lt}
use native.Mathlib.Omega.{arith}
use lib.Dec.{ltb, leb, eqb}
use lib.ListN.{length, get_or, set, take, drop, replicate, length-drop, get_or-eq_default}
use lib.Seq.{get_or-take, get_or-drop, length-take-le}
use borrow.Author.Tests.{lt-ltb, le-ltb, le-leb, lt-leb, ltb-true, ltb-false, eqb-true, eq-eqb, ne_eqb}
use Rattle.parts.specs.declared.Refusal.TheVariants.{BadState}
use Rattle.parts.proofs.Tests.{and_both}
use Rattle.parts.proofs.Claims.{right_fine}
use Rattle.parts.specs.Bytes.{all_below_of}
use Rattle.parts.proofs.Laws.{branch}
use Rattle.parts.proofs.Bytes.{low_before}
use Rattle.wear.specs.declared.Most.{Most}
use Rattle.wear.specs.Report.{most, most_from, most_of}
use Rattle.wear.specs.Worst.{IsWorst, born_out_of, worst_verdict_of, worse_of, raised_from, raised_of}

-- ---- the walk

-- none of the rest has more than what was most so far; or number k of it does, with which every earlier one has less and none has more
data Walked (xs : List ℕ) (n : ℕ) (b r : Most) : Type 0 where
  kept : r ≡ b → ((i : ℕ) → get_or xs i 0 ≤ b.count) → Walked xs n b r
  found : (k : ℕ) → k < length xs → r.group ≡ n + k → get_or xs k 0 ≡ r.count → b.count < r.count
      → ((i : ℕ) → i < k → get_or xs i 0 < r.count) → ((i : ℕ) → get_or xs i 0 ≤ r.count) → Walked xs n b r

module _ (x : ℕ) (xs : List ℕ) (n : ℕ) (b r : Most) where
  less : b.count < x → Walked xs (suc n) (most n x) r → Walked (x ∷ xs) n b r
  less h (kept e o) =
      found 0 (omega arith) (ap (λ (z : Most). z.group) e ∙ omega arith) (sym (ap (λ (z : Most). z.count) e)) (omega (arith, h, ap (λ (z : Most). z.count) e))
      (λ i l. absurd (omega arith)) (λ i. all i)
    where
      all : (i : ℕ) → get_or (x ∷ xs) i 0 ≤ r.count
      all zero = omega (arith, ap (λ (z : Most). z.count) e)
      all (suc i) = omega (arith, o i, ap (λ (z : Most). z.count) e)
  less h (found k l g v u q o) = found (suc k) (omega arith) (omega (arith, g)) v (omega (arith, h, u)) before all
    where
      before : (i : ℕ) → i < suc k → get_or (x ∷ xs) i 0 < r.count
      before zero m = u
      before (suc i) m = q i (omega arith)

      all : (i : ℕ) → get_or (x ∷ xs) i 0 ≤ r.count
      all zero = omega (arith, u)
      all (suc i) = o i

  same : x ≤ b.count → Walked xs (suc n) b r → Walked (x ∷ xs) n b r
  same h (kept e o) = kept e all
    where
      all : (i : ℕ) → get_or (x ∷ xs) i 0 ≤ b.count
      all zero = h
      all (suc i) = o i
  same h (found k l g v u q o) = found (suc k) (omega arith) (omega (arith, g)) v u before all
    where
      before : (i : ℕ) → i < suc k → get_or (x ∷ xs) i 0 < r.count
      before zero m = omega (arith, h, u)
      before (suc i) m = q i (omega arith)

      all : (i : ℕ) → get_or (x ∷ xs) i 0 ≤ r.count
      all zero = omega (arith, h, u)
      all (suc i) = o i

walked : (xs : List ℕ) (n : ℕ) (b : Most) → Walked xs n b (most_from b n xs)
walked [] n b = kept refl (λ i. omega arith)
walked (x ∷ xs) n b =
    branch (λ (z : Most). Walked xs (suc n) z (most_from z (suc n) xs) → Walked (x ∷ xs) n b (most_from z (suc n) xs)) (ltb b.count x)
    (λ h w. less x xs n b _ (ltb-true b.count x h) w) (λ h w. same x xs n b _ (ltb-false b.count x h) w)
    (walked xs (suc n) (cond (ltb b.count x) (most n x) b))

pub walk_finds_it : (counts : List ℕ) → 0 < length counts → IsWorst counts (most_of counts)
walk_finds_it counts some = go (walked counts 0 (most 0 0))
  where
    r : Most
    r = most_of counts

    go : Walked counts 0 (most 0 0) r → IsWorst counts r
    go (kept q o) =
        let g : r.group ≡ 0 = ap (λ (z : Most). z.group) q in
        let c : r.count ≡ 0 = ap (λ (z : Most). z.count) q in
        record {
          there = omega (arith, g, some);
          holds = omega (arith, o r.group, c);
          most = λ n. omega (arith, o n, c);
          first = λ n l. absurd (omega (arith, l, g));
        }
    go (found k l g v u q o) =
        record {
          there = omega (arith, l, g);
          holds = ap (λ (z : ℕ). get_or counts z 0) (g ∙ omega arith) ∙ v;
          most = o;
          first = λ n m. q n (omega (arith, m, g));
        }

pub most_ap : {a b : Most} → a.group ≡ b.group → a.count ≡ b.count → a ≡ b
most_ap {a} {b} g c = ap (λ (z : ℕ). most z a.count) g ∙ ap (λ (z : ℕ). most b.group z) c

pub only_one : (counts : List ℕ) (a b : Most) → IsWorst counts a → IsWorst counts b → a ≡ b
only_one counts a b p q =
    let c : a.count ≡ b.count = omega (arith, q.most a.group, p.holds, p.most b.group, q.holds) in
    most_ap (same_group (dec_lt a.group b.group) (dec_lt b.group a.group) c) c
  where
    same_group : Dec (a.group < b.group) → Dec (b.group < a.group) → a.count ≡ b.count → a.group ≡ b.group
    same_group (yes l) r c = absurd (omega (arith, q.first a.group l, p.holds, c))
    same_group (no l) (yes r) c = absurd (omega (arith, p.first b.group r, q.holds, c))
    same_group (no l) (no r) c = omega arith

-- ---- what the counts bear out

pub born_yes : (counts : List ℕ) (w : Most) → born_out_of counts w ≡ true → w ≡ most_of counts
unfolding born_out_of
born_yes counts w h =
    let b = and_both _ _ h in
    sym (most_ap (eqb-true _ _ b.0) (eqb-true _ _ b.1))

pub born_is : (counts : List ℕ) (w : Most) → w ≡ most_of counts → born_out_of counts w ≡ true
unfolding born_out_of
born_is counts w e =
    rw (e, eq-eqb (most_of counts).group (most_of counts).group refl, eq-eqb (most_of counts).count (most_of counts).count refl) refl

pub born_fine : (counts : List ℕ) (w : Most) → worst_verdict_of counts w ≡ Ok tt → w ≡ most_of counts
unfolding worst_verdict_of
born_fine counts w h = born_yes counts w (right_fine (born_out_of counts w) BadState h)

-- ---- the worse of two

module _ (a b : Most) where
  pub worse_right : a.count < b.count → worse_of a b ≡ b
  unfolding worse_of
  worse_right h = rw (lt-ltb a.count b.count h) refl

  pub worse_left : b.count < a.count → worse_of a b ≡ a
  unfolding worse_of
  worse_left h =
      let k : b.count ≤ a.count = omega arith in
      rw (le-ltb a.count b.count k, lt-ltb b.count a.count h) refl

  -- on a tie
  pub worse_stays : a.count ≡ b.count → a.group ≤ b.group → worse_of a b ≡ a
  unfolding worse_of
  worse_stays e h =
      let k : b.count ≤ a.count = omega arith in
      let l : a.count ≤ b.count = omega arith in
      rw (le-ltb a.count b.count k, le-ltb b.count a.count l, le-ltb b.group a.group h) refl

  worse_lower : a.count ≡ b.count → b.group < a.group → worse_of a b ≡ b
  unfolding worse_of
  worse_lower e h =
      let k : b.count ≤ a.count = omega arith in
      let l : a.count ≤ b.count = omega arith in
      rw (le-ltb a.count b.count k, le-ltb b.count a.count l, lt-ltb b.group a.group h) refl

  -- it is one of the two
  pub worse_one : (P : Most → Type 0) → P a → P b → P (worse_of a b)
  unfolding worse_of
  worse_one P pa pb = branch P (ltb a.count b.count) (λ _. pb) (λ _. branch P (ltb b.count a.count) (λ _. pa) (λ _. branch P (ltb b.group a.group) (λ _. pb) (λ _. pa)))

  -- and has no less than either
  worse_most : (a.count ≤ (worse_of a b).count) × (b.count ≤ (worse_of a b).count)
  worse_most = go (dec_lt a.count b.count) (dec_lt b.count a.count)
    where
      go : Dec (a.count < b.count) → Dec (b.count < a.count) → (a.count ≤ (worse_of a b).count) × (b.count ≤ (worse_of a b).count)
      go (yes h) d = rw (worse_right h) (omega arith, omega arith)
      go (no h) (yes k) = rw (worse_left k) (omega arith, omega arith)
      go (no h) (no k) = worse_one (λ (z : Most). (a.count ≤ z.count) × (b.count ≤ z.count)) (omega arith, omega arith) (omega arith, omega arith)

-- ---- counts that only grow

-- as many, and none fell
unfoldable pub Grew : List ℕ → List ℕ → Type 0
Grew [] [] = Unit {0}
Grew [] (y ∷ ys) = ⊥
Grew (x ∷ xs) [] = ⊥
Grew (x ∷ xs) (y ∷ ys) = (x ≤ y) × Grew xs ys

pub grew_same : (xs : List ℕ) → Grew xs xs
unfolding Grew
grew_same [] = tt
grew_same (x ∷ xs) = (omega arith, grew_same xs)

pub grew_on : (xs ys zs : List ℕ) → Grew xs ys → Grew ys zs → Grew xs zs
unfolding Grew
grew_on [] [] [] g h = tt
grew_on [] [] (z ∷ zs) g h = h
grew_on [] (y ∷ ys) zs g h = absurd g
grew_on (x ∷ xs) [] zs g h = absurd g
grew_on (x ∷ xs) (y ∷ ys) [] g h = h
grew_on (x ∷ xs) (y ∷ ys) (z ∷ zs) g h = (omega (arith, g.0, h.0), grew_on xs ys zs g.1 h.1)

pub grew_set : (xs : List ℕ) (i v : ℕ) → get_or xs i 0 ≤ v → Grew xs (set xs i v)
unfolding Grew
grew_set [] i v h = tt
grew_set (x ∷ xs) zero v h = (h, grew_same xs)
grew_set (x ∷ xs) (suc i) v h = (omega arith, grew_set xs i v h)

-- ---- the most worn of the groups that went on

-- what the walk makes of group n, whose count went from x to y
abbrev up : ℕ → ℕ → ℕ → Most → Most
up n x y b = cond (ltb x y) (cond (ltb b.count y) (most n y) b) b

module _ (n : ℕ) (b : Most) where
  up_stays : (x y : ℕ) → y ≤ x → up n x y b ≡ b
  up_stays x y h = rw (le-ltb x y h) refl

  up_more : (x y : ℕ) → x < y → b.count < y → up n x y b ≡ most n y
  up_more x y h k = rw (lt-ltb x y h, lt-ltb b.count y k) refl

  up_less : (x y : ℕ) → x < y → y ≤ b.count → up n x y b ≡ b
  up_less x y h k = rw (lt-ltb x y h, le-ltb b.count y k) refl

-- what was found before group n stands below it, if it is worn
abbrev Low : ℕ → Most → Type 0
Low n b = 0 < b.count → b.group < n

up_low : (n x y : ℕ) (b : Most) → Low n b → Low (suc n) (up n x y b)
up_low n x y b l = branch (Low (suc n)) (ltb x y) (λ _. branch (Low (suc n)) (ltb b.count y) (λ _ _. omega arith) (λ _ p. omega (arith, l p))) (λ _ p. omega (arith, l p))

module _ (n : ℕ) (a b : Most) (la : Low n a) (lb : Low n b) where
  -- group n went on in the first of two steps alone
  first_step : (x y z : ℕ) → x < y → y ≡ z → up n x z (worse_of a b) ≡ worse_of (up n x y a) b
  first_step x y z h e = go (dec_lt a.count y) (dec_lt b.count y) (dec_lt y b.count)
    where
      xz : x < z
      xz = omega arith

      go : Dec (a.count < y) → Dec (b.count < y) → Dec (y < b.count) → up n x z (worse_of a b) ≡ worse_of (up n x y a) b
      go (yes p) (yes q) d =
          let k : (worse_of a b).count < z = worse_one a b (λ (w : Most). w.count < z) (omega arith) (omega arith) in
          up_more n (worse_of a b) x z xz k ∙ ap (most n) (sym e) ∙ sym (worse_left (most n y) b q) ∙ ap (λ (w : Most). worse_of w b) (sym (up_more n a x y h p))
      go (yes p) (no q) (yes r) =
          ap (up n x z) (worse_right a b (omega arith)) ∙ up_less n b x z xz (omega arith) ∙ sym (worse_right (most n y) b r) ∙ ap (λ (w : Most). worse_of w b) (sym (up_more n a x y h p))
      go (yes p) (no q) (no r) =
          let t : y ≡ b.count = omega arith in
          ap (up n x z) (worse_right a b (omega arith)) ∙ up_less n b x z xz (omega arith) ∙ sym (worse_lower (most n y) b t (lb (omega arith))) ∙ ap (λ (w : Most). worse_of w b) (sym (up_more n a x y h p))
      go (no p) q r =
          up_less n (worse_of a b) x z xz (omega (arith, (worse_most a b).0)) ∙ ap (λ (w : Most). worse_of w b) (sym (up_less n a x y h (omega arith)))

  -- in the second
  second_step : (x y z : ℕ) → x < z → y < z → up n x z (worse_of a b) ≡ worse_of a (up n y z b)
  second_step x y z xz h = go (dec_lt b.count z) (dec_lt a.count z) (dec_lt z a.count)
    where
      go : Dec (b.count < z) → Dec (a.count < z) → Dec (z < a.count) → up n x z (worse_of a b) ≡ worse_of a (up n y z b)
      go (yes p) (yes q) d =
          let k : (worse_of a b).count < z = worse_one a b (λ (w : Most). w.count < z) q p in
          up_more n (worse_of a b) x z xz k ∙ sym (worse_right a (most n z) q) ∙ ap (worse_of a) (sym (up_more n b y z h p))
      go (yes p) (no q) (yes r) =
          ap (up n x z) (worse_left a b (omega arith)) ∙ up_less n a x z xz (omega arith) ∙ sym (worse_left a (most n z) r) ∙ ap (worse_of a) (sym (up_more n b y z h p))
      go (yes p) (no q) (no r) =
          let t : a.count ≡ z = omega arith in
          let l : a.group < n = la (omega arith) in
          ap (up n x z) (worse_left a b (omega arith)) ∙ up_less n a x z xz (omega arith) ∙ sym (worse_stays a (most n z) t (omega arith)) ∙ ap (worse_of a) (sym (up_more n b y z h p))
      go (no p) q r =
          up_less n (worse_of a b) x z xz (omega (arith, (worse_most a b).1)) ∙ ap (worse_of a) (sym (up_less n b y z h (omega arith)))

  -- in both
  both_steps : (x y z : ℕ) → x < y → y < z → up n x z (worse_of a b) ≡ worse_of (up n x y a) (up n y z b)
  both_steps x y z h k = go (dec_lt a.count y) (dec_lt b.count z)
    where
      xz : x < z
      xz = omega arith

      go : Dec (a.count < y) → Dec (b.count < z) → up n x z (worse_of a b) ≡ worse_of (up n x y a) (up n y z b)
      go (yes p) (yes q) =
          let m : (worse_of a b).count < z = worse_one a b (λ (w : Most). w.count < z) (omega arith) q in
          up_more n (worse_of a b) x z xz m ∙ sym (worse_right (most n y) (most n z) k) ∙ rw (up_more n a x y h p, up_more n b y z k q) refl
      go (yes p) (no q) =
          ap (up n x z) (worse_right a b (omega arith)) ∙ up_less n b x z xz (omega arith) ∙ sym (worse_right (most n y) b (omega arith)) ∙ rw (up_more n a x y h p, up_less n b y z k (omega arith)) refl
      go (no p) q = second_step x y z xz k ∙ ap (λ (w : Most). worse_of w (up n y z b)) (sym (up_less n a x y h (omega arith)))

  step : (x y z : ℕ) → x ≤ y → y ≤ z → up n x z (worse_of a b) ≡ worse_of (up n x y a) (up n y z b)
  step x y z h k = go (dec_lt x y) (dec_lt y z)
    where
      go : Dec (x < y) → Dec (y < z) → up n x z (worse_of a b) ≡ worse_of (up n x y a) (up n y z b)
      go (yes p) (yes q) = both_steps x y z p q
      go (yes p) (no q) = first_step x y z p (omega arith) ∙ ap (worse_of (up n x y a)) (sym (up_stays n b y z (omega arith)))
      go (no p) (yes q) = second_step x y z (omega arith) q ∙ ap (λ (w : Most). worse_of w (up n y z b)) (sym (up_stays n a x y (omega arith)))
      go (no p) (no q) = up_stays n (worse_of a b) x z (omega arith) ∙ rw (up_stays n a x y (omega arith), up_stays n b y z (omega arith)) refl

from_join : (xs ys zs : List ℕ) (n : ℕ) (a b : Most) → Low n a → Low n b → Grew xs ys → Grew ys zs
    → raised_from (worse_of a b) n xs zs ≡ worse_of (raised_from a n xs ys) (raised_from b n ys zs)
unfolding Grew
from_join [] [] zs n a b la lb g h = refl
from_join [] (y ∷ ys) zs n a b la lb g h = absurd g
from_join (x ∷ xs) [] zs n a b la lb g h = absurd g
from_join (x ∷ xs) (y ∷ ys) [] n a b la lb g h = absurd h
from_join (x ∷ xs) (y ∷ ys) (z ∷ zs) n a b la lb g h =
    ap (λ (w : Most). raised_from w (suc n) xs zs) (step n a b la lb x y z g.0 h.0)
    ∙ from_join xs ys zs (suc n) (up n x y a) (up n y z b) (up_low n x y a la) (up_low n y z b lb) g.1 h.1

-- over two steps it is the worse of the two
pub raised_join : (xs ys zs : List ℕ) → Grew xs ys → Grew ys zs → raised_of xs zs ≡ worse_of (raised_of xs ys) (raised_of ys zs)
unfolding raised_of
raised_join xs ys zs g h =
    ap (λ (w : Most). raised_from w 0 xs zs) (sym (worse_stays (most 0 0) (most 0 0) refl (omega arith)))
    ∙ from_join xs ys zs 0 (most 0 0) (most 0 0) (λ p. absurd (omega arith)) (λ p. absurd (omega arith)) g h

from_same : (xs : List ℕ) (n : ℕ) (b : Most) → raised_from b n xs xs ≡ b
from_same [] n b = refl
from_same (x ∷ xs) n b = ap (λ (w : Most). raised_from w (suc n) xs xs) (up_stays n b x x (omega arith)) ∙ from_same xs (suc n) b

pub raised_same : (xs : List ℕ) → raised_of xs xs ≡ most 0 0
unfolding raised_of
raised_same xs = from_same xs 0 (most 0 0)

from_set : (xs : List ℕ) (n : ℕ) (b : Most) (i v : ℕ) → i < length xs → get_or xs i 0 < v → b.count < v → raised_from b n xs (set xs i v) ≡ most (n + i) v
from_set [] n b i v l h k = absurd (omega arith)
from_set (x ∷ xs) n b zero v l h k =
    let e : n ≡ n + 0 = omega arith in
    ap (λ (w : Most). raised_from w (suc n) xs xs) (up_more n b x v h k) ∙ from_same xs (suc n) (most n v) ∙ ap (λ (z : ℕ). most z v) e
from_set (x ∷ xs) n b (suc i) v l h k =
    let e : suc n + i ≡ n + suc i = omega arith in
    ap (λ (w : Most). raised_from w (suc n) xs (set xs i v)) (up_stays n b x x (omega arith)) ∙ from_set xs (suc n) b i v (omega arith) h k ∙ ap (λ (z : ℕ). most z v) e

-- of one group that went on it is that one
pub raised_set : (xs : List ℕ) (i v : ℕ) → i < length xs → get_or xs i 0 < v → raised_of xs (set xs i v) ≡ most i v
unfolding raised_of
raised_set xs i v l h =
    let e : 0 + i ≡ i = omega arith in
    from_set xs 0 (most 0 0) i v l h (omega arith) ∙ ap (λ (z : ℕ). most z v) e

-- ---- the worst, kept

-- from no counts on every group that is worn went on: the walk is the same
from_none : (xs : List ℕ) (n : ℕ) (b : Most) → raised_from b n (replicate (length xs) 0) xs ≡ most_from b n xs
from_none [] n b = refl
from_none (zero ∷ xs) n b =
    ap (λ (w : Most). raised_from w (suc n) (replicate (length xs) 0) xs) (up_stays n b 0 0 (omega arith) ∙ sym (rw (le-ltb b.count 0 (omega arith)) refl)) ∙ from_none xs (suc n) _
from_none (suc x ∷ xs) n b = ap (λ (w : Most). raised_from w (suc n) (replicate (length xs) 0) xs) (rw (lt-ltb 0 (suc x) (omega arith)) refl) ∙ from_none xs (suc n) _

grew_none : (xs : List ℕ) → Grew (replicate (length xs) 0) xs
unfolding Grew
grew_none [] = tt
grew_none (x ∷ xs) = (omega arith, grew_none xs)

grew_length : (xs ys : List ℕ) → Grew xs ys → length xs ≡ length ys
unfolding Grew
grew_length [] [] g = refl
grew_length [] (y ∷ ys) g = absurd g
grew_length (x ∷ xs) [] g = absurd g
grew_length (x ∷ xs) (y ∷ ys) g = ap suc (grew_length xs ys g.1)

pub worst_kept : (before after : List ℕ) → Grew before after → worse_of (most_of before) (raised_of before after) ≡ most_of after
unfolding raised_of
worst_kept before after g =
    let zs : List ℕ = replicate (length before) 0 in
    ap (λ (w : Most). worse_of w (raised_of before after)) (sym (from_none before 0 (most 0 0)))
    ∙ sym (raised_join zs before after (grew_none before) g)
    ∙ ap (λ (n : ℕ). raised_of (replicate {A = ℕ} n 0) after) (grew_length before after g)
    ∙ from_none after 0 (most 0 0)

-- ---- the look

pub at_most : (x n : ℕ) → leb x n ≡ ltb x (n + 1)
at_most x n = go (dec_lt n x)
  where
    go : Dec (n < x) → leb x n ≡ ltb x (n + 1)
    go (yes h) = lt-leb x n h ∙ sym (le-ltb x (n + 1) (omega arith))
    go (no h) = le-leb x n (omega arith) ∙ sym (lt-ltb x (n + 1) (omega arith))

low_at : (b : ℕ) (l : List ℕ) → all_below_of b true l ≡ true → (n : ℕ) → n < length l → get_or l n 0 < b
unfolding all_below_of
low_at b [] h n k = absurd (omega arith)
low_at b (x ∷ l) h zero k = ltb-true x b (low_before b (ltb x b) l h)
low_at b (x ∷ l) h (suc n) k = low_at b l (rw (low_before b (ltb x b) l h) at h) n (omega arith)

low_all : (b : ℕ) (l : List ℕ) → ((n : ℕ) → n < length l → get_or l n 0 < b) → all_below_of b true l ≡ true
unfolding all_below_of
low_all b [] h = refl
low_all b (x ∷ l) h = rw (lt-ltb x b (h 0 (omega arith))) (low_all b l (λ n k. h (suc n) (omega arith)))

same_test : (a b : Bool) → (a ≡ true → b ≡ true) → (b ≡ true → a ≡ true) → a ≡ b
same_test true b h k = sym (h refl)
same_test false true h k = k refl
same_test false false h k = refl

-- what is looked at is what the walk finds
module _ (counts : List ℕ) (w : Most) where
  abbrev looked : Bool
  looked = (eqb (get_or counts w.group 0) w.count && all_below_of w.count true (take w.group counts)) && all_below_of (w.count + 1) true (drop w.group counts)

  looked_worst : w.group < length counts → looked ≡ true → IsWorst counts w
  looked_worst there h =
      let a = and_both _ _ h in
      let b = and_both _ _ a.0 in
      let first : (n : ℕ) → n < w.group → get_or counts n 0 < w.count = (λ n l. subst (λ (z : ℕ). z < w.count) (get_or-take w.group counts n 0 l) (low_at w.count (take w.group counts) b.1 n (omega (arith, length-take-le w.group counts (omega arith))))) in
      record { there = there; holds = eqb-true _ _ b.0; most = λ n. go n first a.1 (dec_lt n w.group) (dec_lt n (length counts)); first = first }
    where
      go : (n : ℕ) → ((n : ℕ) → n < w.group → get_or counts n 0 < w.count) → all_below_of (w.count + 1) true (drop w.group counts) ≡ true → Dec (n < w.group) → Dec (n < length counts) → get_or counts n 0 ≤ w.count
      go n f r (yes l) d = omega (arith, f n l)
      go n f r (no l) (yes k) =
          let e : w.group + (n - w.group) ≡ n = omega arith in
          omega (arith, low_at (w.count + 1) (drop w.group counts) r (n - w.group) (omega (arith, length-drop w.group counts)), get_or-drop w.group counts (n - w.group) 0, ap (λ (z : ℕ). get_or counts z 0) e)
      go n f r (no l) (no k) =
          let out : length counts ≤ n = omega arith in
          omega (arith, get_or-eq_default counts 0 out)

  worst_looked : IsWorst counts w → looked ≡ true
  worst_looked i =
      let short : w.group ≤ length counts = omega (arith, i.there) in
      rw (eq-eqb (get_or counts w.group 0) w.count i.holds, low_all w.count (take w.group counts) (λ n k. let l : n < w.group = omega (arith, k, length-take-le w.group counts short) in subst⁻¹ (λ (z : ℕ). z < w.count) (get_or-take w.group counts n 0 l) (i.first n l)), low_all (w.count + 1) (drop w.group counts) (λ n k. omega (arith, get_or-drop w.group counts n 0, i.most (w.group + n)))) refl

  pub borne : w.group < length counts → looked ≡ born_out_of counts w
  borne there =
      let found = walk_finds_it counts (omega arith) in
      same_test looked (born_out_of counts w) (λ h. born_is counts w (only_one counts w (most_of counts) (looked_worst there h) found))
      (λ h. worst_looked (subst⁻¹ (IsWorst counts) (born_yes counts w h) found))

-- a group that is not there is borne out by no counts at all alone, as 0 with 0
pub borne_none : (counts : List ℕ) (w : Most) → length counts ≤ w.group → ((eqb (length counts) 0 && eqb w.group 0) && eqb w.count 0) ≡ born_out_of counts w
unfolding born_out_of
borne_none [] w h = same_test _ _ (λ k. let a = and_both _ _ k in rw (eqb-true w.group 0 a.0, eqb-true w.count 0 a.1) refl) (λ k. let a = and_both _ _ k in rw (sym (eqb-true 0 w.group a.0), sym (eqb-true 0 w.count a.1)) refl)
borne_none (x ∷ xs) w h = rw (ne_eqb (suc (length xs)) 0 (λ e. omega arith), ne_eqb (most_of (x ∷ xs)).group w.group (λ e. omega (arith, e, h, (walk_finds_it (x ∷ xs) (omega arith)).there))) refl
