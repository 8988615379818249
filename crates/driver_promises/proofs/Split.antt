-- The laws of the splitter, over the page size P, once.
-- Assumes nothing.
use Prim.Native.Nat.{ℕ, zero, suc, ◌+◌, ◌-◌, ◌*◌, ◌/◌, ◌%◌, ◌≤◌, ◌<◌}
use mathlib.Core.Path.{◌≡◌, refl, sym, ◌∙◌, ap}
use native.Mathlib.Omega.{arith}
use native.Mathlib.Nat.{mod-lt, mod_self, div-eq_of_lt, add-div_right, mod-add-mod, mod-le, mul-add-div_right, div-add-mod'}
use borrow.Author.Tests.{leb-true, leb-false}
use lib.Dec.{leb}
use lib.ListN.{length}
use Rattle.parts.proofs.Laws.{branch}
use Rattle.driver.specs.Split.{to_page_end_of, pages_met_of, parts_of, sum}
use Rattle.driver.proofs.Facts.{pages_suc}
use Rattle.driver_promises.specs.Promises.{Splits}

-- what the splitter gives: at most all, never over the page's end, and all or up to the page's end
pub record First (P a n m : ℕ) : Type 0 where
  pub low : m ≤ n
  pub room : m + a % P ≤ P
  pub full : m < n → m + a % P ≡ P

pub first-is : (P a n : ℕ) → 0 < P → First P a n (to_page_end_of P a n)
unfolding to_page_end_of
first-is P a n h =
    let k = mod-lt a h in
    branch (First P a n) (leb n (P - a % P))
    (λ e. let l = leb-true n (P - a % P) e in record { low = omega arith; room = omega arith; full = omega arith })
    (λ e. let l = leb-false n (P - a % P) e in record { low = omega arith; room = omega arith; full = omega arith })

pub first_pos : (P a n : ℕ) → 0 < P → 0 < n → 0 < to_page_end_of P a n
first_pos P a n h o = go (to_page_end_of P a n) (first-is P a n h)
  where
    go : (m : ℕ) → First P a n m → 0 < m
    go zero r = let e = r.full (omega arith) in omega (arith, mod-lt a h)
    go (suc m) r = omega arith

pub pages_none : (P a : ℕ) → pages_met_of P a 0 ≡ 0
unfolding pages_met_of
pages_none P a = refl

-- one part more is one page more
cut : (P a n m : ℕ) → 0 < P → First P a (suc n) m → pages_met_of P a (suc n) ≡ suc (pages_met_of P (a + m) (suc n - m))
cut P a n m h r = go (suc n - m) refl
  where
    go : (k : ℕ) → suc n - m ≡ k → pages_met_of P a (suc n) ≡ suc (pages_met_of P (a + m) k)
    go zero e =
        let d = div-eq_of_lt {n = a % P + n} {m = P} (let l = r.low in let q = r.room in omega arith) in
        omega (arith, pages_suc P a n, pages_none P (a + m))
    go (suc k) e =
        let l = r.low in
        let q : m + a % P ≡ P = r.full (omega arith) in
        let s : a % P + m ≡ P = omega arith in
        let z : (a + m) % P ≡ 0 = sym (mod-add-mod a P m) ∙ (ap (λ (x : ℕ). x % P) s ∙ mod_self P) in
        omega (
          arith,
          pages_suc P a n,
          pages_suc P (a + m) k,
          add-div_right k {k = P} h,
          ap (λ (x : ℕ). (x + k) / P) z,
          ap (λ (x : ℕ). x / P) (let p : a % P + n ≡ k + P = omega arith in p),
          ap (λ (x : ℕ). x / P) (let p : 0 + k ≡ k = omega arith in p),
        )

pub cut_first : (P a n : ℕ) → 0 < P → 0 < n → pages_met_of P a n ≡ suc (pages_met_of P (a + to_page_end_of P a n) (n - to_page_end_of P a n))
cut_first P a zero h o = absurd (omega arith)
cut_first P a (suc n) h o = cut P a n (to_page_end_of P a (suc n)) h (first-is P a (suc n) h)

-- the parts add up to the length, for any number of cuts that is at least the length
pub parts_sum : (P most a n : ℕ) → 0 < P → n ≤ most → sum (parts_of P most a n) ≡ n
parts_sum P zero a n h l = omega arith
parts_sum P (suc most) a zero h l = refl
parts_sum P (suc most) a (suc n) h l =
    let low = (first-is P a (suc n) h).low in
    let pos = first_pos P a (suc n) h (omega arith) in
    omega (arith, parts_sum P most (a + to_page_end_of P a (suc n)) (suc n - to_page_end_of P a (suc n)) h (omega arith))

-- there are as many parts as pages met
pub parts_count : (P most a n : ℕ) → 0 < P → n ≤ most → length (parts_of P most a n) ≡ pages_met_of P a n
parts_count P zero a zero h l = sym (pages_none P a)
parts_count P zero a (suc n) h l = absurd (omega arith)
parts_count P (suc most) a zero h l = sym (pages_none P a)
parts_count P (suc most) a (suc n) h l =
    let low = (first-is P a (suc n) h).low in
    let pos = first_pos P a (suc n) h (omega arith) in
    omega (
      arith,
      cut_first P a (suc n) h (omega arith),
      parts_count P most (a + to_page_end_of P a (suc n)) (suc n - to_page_end_of P a (suc n)) h (omega arith),
    )

-- the last page less the first, and one
pub pages_formula : (P a n : ℕ) → 0 < P → 0 < n → pages_met_of P a n ≡ (a + (n - 1)) / P - a / P + 1
pages_formula P a zero h o = absurd (omega arith)
pages_formula P a (suc n) h o =
    let e : a / P * P + (a % P + n) ≡ a + (suc n - 1) = omega (arith, div-add-mod' a P) in
    omega (arith, pages_suc P a n, mul-add-div_right h (a / P) (a % P + n), ap (λ (x : ℕ). x / P) e)

-- what is within one page is one part
pub one_page : (P a n : ℕ) → 0 < P → 0 < n → a + n ≤ P → pages_met_of P a n ≡ 1
one_page P a zero h o l = absurd (omega arith)
one_page P a (suc n) h o l =
    omega (arith, pages_suc P a n, div-eq_of_lt {n = a % P + n} {m = P} (omega (arith, mod-le a P)))

pub splits : Splits
splits P a n h =
    record { whole = parts_sum P n a n h (omega arith); count = parts_count P n a n h (omega arith); formula = pages_formula P a n h }
