-- Laws that the proofs of the code share: walks along the counts, and a run from one end of a cycle to the next.
-- Assumes nothing.
use Rattle.std.specs.Prelude.{Ok}
use Prim.Native.Nat.{ℕ, suc, ◌+◌, ◌-◌, ◌*◌, ◌≤◌, ◌<◌}
use mathlib.Core.Path.{◌≡◌, ◌∙◌, refl, sym, ap, subst⁻¹}
use mathlib.Core.Bool.{Bool, true, false, not, cond}
use mathlib.Core.List.{List, [], ◌∷◌, ◌++◌, append_assoc, append-nil}
use native.Mathlib.Nat.{mul-le-mul_right, div-le_self}
use native.Mathlib.Numerals.{add-one}
use native.Mathlib.Decide.{dec_lt}
use native.Mathlib.Omega.{arith}
use lib.Dec.{ltb}
use lib.ListN.{length, get_or, take, drop, set, drop_of_length-le, length-set}
use lib.Seq.{drop-cons, take-suc-set, drop-set-lt, take_all, set-get_or, set_out}
use borrow.Author.Tests.{eqb-true, lt-ltb, le-ltb}
use Rattle.parts.specs.declared.Facts.{Facts}
use Rattle.parts.specs.declared.Refusal.TheVariants.{NoPart, WrongBuffer}
use Rattle.parts.specs.Table.{groups_of}
use Rattle.parts.specs.Sound.{Sound}
use Rattle.parts.specs.Refusals.{claim_of, sooner_of}
use Rattle.parts.specs.Bytes.{topped, up_of}
use Rattle.parts.proofs.Laws.{branch}
use Rattle.parts.proofs.Claims.{right_fine, sooner_fine}
use Rattle.chip.specs.Memory.{touched_of}
use Rattle.wear.specs.declared.Most.{Most}
use Rattle.wear.specs.Wear.{bumped_of, bumped_from}
use Rattle.wear.specs.Report.{sum_of, most, most_from, joined_of}
use Rattle.wear.specs.Worst.{later_of, worse_of, raised_of}
use Rattle.wear.specs.Calls.{counts_verdict_of}
use Rattle.wear.proofs.Grown.{Grew, grew_set, raised_same, raised_set, raised_join, worse_right, worse_left, worse_stays}

-- ---- the groups of a page

-- group number j of n begins at a place of the page
pub group_place : (j n g p : ℕ) → j < n → p ≡ n * g → j * g ≤ p
group_place j n g p h e = omega (arith, e, mul-le-mul_right g h)

pub bump_first : (g : ℕ) (k counts : List ℕ) (first n : ℕ) → bumped_from g k counts (first + 0) 0 (n - 0) ≡ bumped_from g k counts first 0 n
bump_first g k counts first n =
    let a : first + 0 ≡ first = omega arith in
    let b : n - 0 ≡ n = omega arith in
    rw (a, b) refl

pub bump_step : (g : ℕ) (k counts : List ℕ) (first j n : ℕ) → j < n
    → bumped_from g k (bumped_of counts (first + j) (touched_of g k j)) (first + (j + 1)) (j + 1) (n - (j + 1)) ≡ bumped_from g k counts (first + j) j (n - j)
bump_step g k counts first j n h =
    let e : n - j ≡ suc (n - (j + 1)) = omega arith in
    let at : first + (j + 1) ≡ suc (first + j) = omega arith in
    rw (e, at, add-one) refl

pub bump_end : (g : ℕ) (k counts : List ℕ) (at j n : ℕ) → n ≤ j → bumped_from g k counts at j (n - j) ≡ counts
bump_end g k counts at j n h =
    let e : n - j ≡ 0 = omega arith in
    rw e refl

pub bump_length : (counts : List ℕ) (at : ℕ) (on : Bool) → length (bumped_of counts at on) ≡ length counts
unfolding bumped_of
bump_length counts at on = length-set counts at _

-- a count that goes on does not fall
pub grew_bump : (counts : List ℕ) (at : ℕ) (on : Bool) (after : List ℕ) → after ≡ bumped_of counts at on → Grew counts after
unfolding bumped_of up_of
grew_bump counts at on after e = subst⁻¹ (Grew counts) e (grew_set counts at (up_of (get_or counts at 0) on) (up_more (get_or counts at 0) on))
  where
    up_more : (n : ℕ) (b : Bool) → n ≤ up_of n b
    up_more n true = branch (λ (z : ℕ). n ≤ z) (ltb n 4294967295) (λ _. omega arith) (λ _. omega arith)
    up_more n false = omega arith

-- where no count went on
pub later_none : (best : Most) (k : List ℕ) → later_of best (raised_of k k) ≡ best
later_none best k = ap (later_of best) (raised_same k) ∙ rw (le-ltb best.count 0 (omega arith)) refl

-- what a count that goes on changes, and one that does not
pub ruleset kept = (set_out, set-get_or, raised_set, later_none)

-- what was raised so far stands below the group at `at`, if anything was
abbrev pub Low : ℕ → Most → Type 0
Low at b = 0 < b.count → b.group < at

-- what a page has raised so far, and one group more
module _ (k₀ k : List ℕ) (at : ℕ) (best : Most) (g : Grew k₀ k) (b : best ≡ raised_of k₀ k) (low : Low at best) where
  on : List ℕ
  on = bumped_of k at true

  -- the group goes on to y
  later_more : (y : ℕ) → 0 < y → Dec (best.count < y) → Dec (y < best.count) → worse_of best (most at y) ≡ later_of best (most at y)
  later_more y p (yes h) d = worse_right best (most at y) h ∙ sym (rw (lt-ltb best.count y h) refl)
  later_more y p (no h) (yes q) =
      let l : y ≤ best.count = omega arith in
      worse_left best (most at y) q ∙ sym (rw (le-ltb best.count y l) refl)
  later_more y p (no h) (no q) =
      let l : y ≤ best.count = omega arith in
      let m : best.group < at = low (omega arith) in
      worse_stays best (most at y) (omega arith) (omega arith) ∙ sym (rw (le-ltb best.count y l) refl)

  raised_next : raised_of k₀ on ≡ later_of best (raised_of k on)
  unfolding on bumped_of up_of
  raised_next = go (dec_lt at (length k)) (dec_lt (get_or k at 0) 4294967295)
    where
      same : on ≡ k → raised_of k₀ on ≡ later_of best (raised_of k on)
      same e = ap (raised_of k₀) e ∙ sym b ∙ sym (ap (λ (z : List ℕ). later_of best (raised_of k z)) e ∙ later_none best k)

      go : Dec (at < length k) → Dec (get_or k at 0 < 4294967295) → raised_of k₀ on ≡ later_of best (raised_of k on)
      go (yes l) (yes h) =
          let y : ℕ = get_or k at 0 + 1 in
          let e : on ≡ set k at y = rw (lt-ltb (get_or k at 0) 4294967295 h) refl in
          let r : raised_of k on ≡ most at y = ap (raised_of k) e ∙ raised_set k at y l (omega arith) in
          raised_join k₀ k on g (grew_bump k at true on refl)
          ∙ ap (λ (z : Most). worse_of z (raised_of k on)) (sym b)
          ∙ ap (worse_of best) r
          ∙ later_more y (omega arith) (dec_lt best.count y) (dec_lt y best.count)
          ∙ sym (ap (later_of best) r)
      go (yes l) (no h) =
          let n : 4294967295 ≤ get_or k at 0 = omega arith in
          same (rw (le-ltb (get_or k at 0) 4294967295 n) (set-get_or k at 0))
      go (no l) d = same (set_out k at _ (omega arith))

  low_next : Low (suc at) (later_of best (raised_of k on))
  unfolding on bumped_of up_of
  low_next = go (dec_lt at (length k)) (dec_lt (get_or k at 0) 4294967295)
    where
      kept : raised_of k on ≡ most 0 0 → Low (suc at) (later_of best (raised_of k on))
      kept e = subst⁻¹ (λ (z : Most). Low (suc at) (later_of best z)) e (rw (le-ltb best.count 0 (omega arith)) (λ p. omega (arith, low p)))

      go : Dec (at < length k) → Dec (get_or k at 0 < 4294967295) → Low (suc at) (later_of best (raised_of k on))
      go (yes l) (yes h) =
          let y : ℕ = get_or k at 0 + 1 in
          let e : on ≡ set k at y = rw (lt-ltb (get_or k at 0) 4294967295 h) refl in
          let r : raised_of k on ≡ most at y = ap (raised_of k) e ∙ raised_set k at y l (omega arith) in
          subst⁻¹ (λ (z : Most). Low (suc at) (later_of best z)) r (branch (Low (suc at)) (ltb best.count y) (λ _ p. omega arith) (λ _ p. omega (arith, low p)))
      go (yes l) (no h) =
          let n : 4294967295 ≤ get_or k at 0 = omega arith in
          kept (ap (raised_of k) (rw (le-ltb (get_or k at 0) 4294967295 n) (set-get_or k at 0)) ∙ raised_same k)
      go (no l) d = kept (ap (raised_of k) (set_out k at _ (omega arith)) ∙ raised_same k)

  -- as a call says it
  pub raised_on : (t : Bool) (k' : List ℕ) (best' : Most) → k' ≡ bumped_of k at t → best' ≡ cond t (later_of best (raised_of k k')) best
      → (best' ≡ raised_of k₀ k') × Low (suc at) best'
  unfolding on bumped_of up_of
  raised_on true k' best' e r =
      let q : best' ≡ later_of best (raised_of k on) = r ∙ ap (λ (z : List ℕ). later_of best (raised_of k z)) e in
      (q ∙ sym raised_next ∙ ap (raised_of k₀) (sym e), subst⁻¹ (Low (suc at)) q low_next)
  raised_on false k' best' e r = (r ∙ b ∙ ap (raised_of k₀) (sym (e ∙ set-get_or k at 0)), subst⁻¹ (Low (suc at)) r (λ p. omega (arith, low p)))

-- ---- the sum and the most

pub sum_step : (counts : List ℕ) (i total : ℕ) → i < length counts → (total + get_or counts i 0) + sum_of (drop (i + 1) counts) ≡ total + sum_of (drop i counts)
sum_step counts i total h = rw (add-one, drop-cons counts i 0 h) (omega arith)

pub most_step : (counts : List ℕ) (i : ℕ) (b : Most) → i < length counts
    → most_from (cond (ltb b.count (get_or counts i 0)) (most i (get_or counts i 0)) b) (i + 1) (drop (i + 1) counts) ≡ most_from b i (drop i counts)
most_step counts i b h = rw (add-one, drop-cons counts i 0 h) refl

pub sum_end : (counts : List ℕ) (i total : ℕ) → length counts ≤ i → total + sum_of (drop i counts) ≡ total
sum_end counts i total h = rw (drop_of_length-le counts h) (omega arith)

pub most_end : (counts : List ℕ) (i : ℕ) (b : Most) → length counts ≤ i → most_from b i (drop i counts) ≡ b
most_end counts i b h = rw (drop_of_length-le counts h) refl

-- ---- two heaps

pub join_step : (xs ys : List ℕ) (i v : ℕ) → i < length xs → i < length ys → v ≡ topped (get_or xs i 0 + get_or ys i 0)
    → take (i + 1) (set xs i v) ++ joined_of (drop (i + 1) (set xs i v)) (drop (i + 1) ys) ≡ take i xs ++ joined_of (drop i xs) (drop i ys)
join_step xs ys i v h k e =
    let t : take (suc i) (set xs i v) ≡ take i xs ++ (v ∷ []) = take-suc-set xs i v h in
    let d : drop (suc i) (set xs i v) ≡ drop (suc i) xs = drop-set-lt (suc i) xs i v (omega arith) in
    rw (add-one, t, d, drop-cons xs i 0 h, drop-cons ys i 0 k)
    (append_assoc (take i xs) (v ∷ []) (joined_of (drop (suc i) xs) (drop (suc i) ys))
    ∙ ap (λ (z : ℕ). take i xs ++ (z ∷ joined_of (drop (suc i) xs) (drop (suc i) ys))) e)

pub join_end : (xs ys : List ℕ) (i : ℕ) → length xs ≤ i → take i xs ++ joined_of (drop i xs) (drop i ys) ≡ xs
join_end xs ys i h = rw (drop_of_length-le xs h, take_all i xs h) (append-nil xs)

-- ---- what a count buffer that is not refused has

pub counts_fine : (f : Facts) (n : ℕ) → counts_verdict_of f n ≡ Ok tt → n ≡ groups_of f
unfolding counts_verdict_of
counts_fine f n h = eqb-true n (groups_of f) (right_fine _ WrongBuffer (sooner_fine (claim_of (not f.known) NoPart) _ h).1)

pub groups_few : (f : Facts) → Sound f → groups_of f ≤ 32768
unfolding groups_of
groups_few f s = omega (arith, div-le_self f.size f.group, s.size_most)

pub join_fine : (f : Facts) (n k : ℕ) → sooner_of (counts_verdict_of f n) (counts_verdict_of f k) ≡ Ok tt → n ≡ k
join_fine f n k h =
    let r = sooner_fine (counts_verdict_of f n) (counts_verdict_of f k) h in
    counts_fine f n r.0 ∙ sym (counts_fine f k r.1)
