-- What a page write leaves, over any page size: latching a byte at the counter is one store more of what the cycle will leave.
-- Assumes nothing.
use Prim.Native.Nat.{ℕ, zero, suc, ◌+◌, ◌*◌, ◌/◌, ◌%◌, ◌≤◌, ◌<◌}
use mathlib.Core.Path.{◌≡◌, refl, sym, ◌∙◌, ap}
use mathlib.Core.Bool.{Bool, true, false, cond}
use mathlib.Core.Logic.{◌⊎◌, inl, inr, ⊎_elim}
use mathlib.Core.List.{List, [], ◌∷◌}
use lib.ListN.{length, get_or, set, take, replicate, length-set, length-take}
use lib.Seq.{get_or-set_same, get_or-set_other, set-set, set_comm, take-set-lt}
use lib.Dec.{ltb}
use native.Mathlib.Omega.{arith}
use native.Mathlib.Nat.{mod-lt, div-add-mod'}
use borrow.Author.Tests.{ltb-true, ltb-false, lt-ltb}
use Rattle.parts.specs.declared.Facts.{Facts}
use Rattle.line.specs.declared.Target.{Target}
use Rattle.line.specs.declared.Target.TheVariants.{Array, Ident}
use Rattle.line.specs.Rules.{roll_of}
use Rattle.chip.specs.Memory.{Mem, no_latch, one_of, entered_of, counter_page_of, cells_of, with_cells, committed_of}
use Rattle.chip_laws.proofs.Roll.{page_rule}

-- the first i bytes of xs, from place x on
abbrev pub wrote : List ℕ → ℕ → List ℕ → ℕ → List ℕ
wrote s x xs zero = s
wrote s x xs (suc i) = set (wrote s x xs i) (x + i) (get_or xs i 0)

-- ---- by places
pub less_or_same : (i n : ℕ) → i ≤ n → (i < n) ⊎ (i ≡ n)
less_or_same i n h = go (ltb i n) refl
  where
    go : (t : Bool) → ltb i n ≡ t → (i < n) ⊎ (i ≡ n)
    go true e = inl (ltb-true i n e)
    go false e = inr (omega (arith, ltb-false i n e))

pub wrote_long : (s : List ℕ) (x : ℕ) (xs : List ℕ) (i : ℕ) → length (wrote s x xs i) ≡ length s
wrote_long s x xs zero = refl
wrote_long s x xs (suc i) = length-set (wrote s x xs i) (x + i) (get_or xs i 0) ∙ wrote_long s x xs i

pub wrote_out : (s : List ℕ) (x : ℕ) (xs : List ℕ) (i y : ℕ) → (y < x) ⊎ (x + i ≤ y) → get_or (wrote s x xs i) y 0 ≡ get_or s y 0
wrote_out s x xs zero y h = refl
wrote_out s x xs (suc i) y h =
    get_or-set_other (wrote s x xs i) (x + i) y (get_or xs i 0) 0 (⊎_elim (λ l e. omega arith) (λ l e. omega arith) h)
    ∙ wrote_out s x xs i y (⊎_elim (λ l. inl l) (λ l. inr (omega arith)) h)

pub wrote_in : (s : List ℕ) (x : ℕ) (xs : List ℕ) (i j : ℕ) → j < i → x + i ≤ length s → get_or (wrote s x xs i) (x + j) 0 ≡ get_or xs j 0
wrote_in s x xs zero j h l = absurd (omega arith)
wrote_in s x xs (suc i) j h l =
    ⊎_elim
    (λ o. get_or-set_other (wrote s x xs i) (x + i) (x + j) (get_or xs i 0) 0 (λ e. omega arith) ∙ wrote_in s x xs i j o (omega arith))
    (λ o. ap (λ (k : ℕ). get_or (wrote s x xs (suc i)) (x + k) 0) o ∙ (get_or-set_same (wrote s x xs i) (x + i) (get_or xs i 0) 0 (omega (arith, wrote_long s x xs i)) ∙ ap (λ (k : ℕ). get_or xs k 0) (sym o)))
    (less_or_same j i (omega arith))

-- ---- a latch more is a store more

-- a store before the places that are entered
entered_set : (s : List ℕ) (a : ℕ) (ks : List ℕ) (j v : ℕ) → j < a → set (entered_of s a ks) j v ≡ entered_of (set s j v) a ks
unfolding one_of
entered_set s a [] j v h = refl
entered_set s a (x ∷ ks) j v h = go (ltb x 256) (λ l. entered_set l (suc a) ks j v (omega arith))
  where
    go : (t : Bool) → ((l : List ℕ) → set (entered_of l (suc a) ks) j v ≡ entered_of (set l j v) (suc a) ks) → set (entered_of (cond t (set s a x) s) (suc a) ks) j v ≡ entered_of (cond t (set (set s j v) a x) (set s j v)) (suc a) ks
    go true n = n (set s a x) ∙ ap (λ (l : List ℕ). entered_of l (suc a) ks) (set_comm s a j x v (λ z. omega arith))
    go false n = n s

one_set : (s : List ℕ) (a x v : ℕ) → set (one_of s a x) a v ≡ set s a v
unfolding one_of
one_set s a x v = go (ltb x 256)
  where
    go : (t : Bool) → set (cond t (set s a x) s) a v ≡ set s a v
    go true = set-set s a x v
    go false = refl

one_byte : (s : List ℕ) (a v : ℕ) → v < 256 → one_of s a v ≡ set s a v
unfolding one_of
one_byte s a v o = ap (λ (t : Bool). cond t (set s a v) s) (lt-ltb v 256 o)

pub entered_more : (ks s : List ℕ) (a i v : ℕ) → i < length ks → v < 256 → entered_of s a (set ks i v) ≡ set (entered_of s a ks) (a + i) v
entered_more [] s a i v h o = absurd (omega arith)
entered_more (x ∷ ks) s a zero v h o =
    let e : a + 0 ≡ a = omega arith in
    ap (λ (l : List ℕ). entered_of l (suc a) ks) (one_byte s a v o)
    ∙ (ap (λ (l : List ℕ). entered_of l (suc a) ks) (sym (one_set s a x v))
    ∙ (sym (entered_set (one_of s a x) (suc a) ks a v (omega arith)) ∙ ap (λ (j : ℕ). set (entered_of (one_of s a x) (suc a) ks) j v) (sym e)))
entered_more (x ∷ ks) s a (suc i) v h o =
    let e : suc a + i ≡ a + suc i = omega arith in
    entered_more ks (one_of s a x) (suc a) i v (omega arith) o ∙ ap (λ (j : ℕ). set (entered_of (one_of s a x) (suc a) ks) j v) e

-- no latch, nothing entered
entered_none : (n : ℕ) (s : List ℕ) (a : ℕ) → entered_of s a (replicate n 256) ≡ s
unfolding one_of
entered_none zero s a = refl
entered_none (suc n) s a = entered_none n s (suc a)

take_same : (p n : ℕ) → p ≤ n → take p (replicate {A = ℕ} n 256) ≡ replicate p 256
take_same zero n h = refl
take_same (suc p) zero h = absurd (omega arith)
take_same (suc p) (suc n) h = ap (λ (l : List ℕ). 256 ∷ l) (take_same p n (omega arith))

pub cells_with : (t : Target) (l : List ℕ) (m : Mem) → cells_of t (with_cells t l m) ≡ l
cells_with Array l m = refl
cells_with Ident l m = refl

pub with_with : (t : Target) (k l : List ℕ) (m : Mem) → with_cells t k (with_cells t l m) ≡ with_cells t k m
with_with Array k l m = refl
with_with Ident k l m = refl

pub with_same : (t : Target) (m : Mem) → with_cells t (cells_of t m) m ≡ m
with_same Array m = refl
with_same Ident m = refl

module _ (f : Facts) (pos : 0 < f.page) (most : f.page ≤ 64) where
  pub commit_none : (x : ℕ) (t : Target) (m : Mem) → committed_of f x no_latch t m ≡ m
  unfolding committed_of no_latch
  commit_none x t m =
      ap (λ (k : List ℕ). with_cells t (entered_of (cells_of t m) (counter_page_of f x) k) m) (take_same f.page 64 most)
      ∙ (ap (λ (l : List ℕ). with_cells t l m) (entered_none f.page (cells_of t m) (counter_page_of f x)) ∙ with_same t m)

  pub commit_more : (x v : ℕ) (k : List ℕ) (t : Target) (m : Mem) → length k ≡ 64 → v < 256
      → committed_of f (roll_of f.page x) (set k (x % f.page) v) t m ≡ with_cells t (set (cells_of t (committed_of f x k t m)) x v) (committed_of f x k t m)
  unfolding committed_of counter_page_of
  commit_more x v k t m n o =
      let P = f.page in
      let s = entered_of (cells_of t m) (x / P * P) (take P k) in
      let i = mod-lt x pos in
      let e : x / P * P + x % P ≡ x = omega (arith, div-add-mod' x P) in
      ap (λ (q : ℕ). with_cells t (entered_of (cells_of t m) (q * P) (take P (set k (x % P) v))) m) (page_rule P x pos).page
      ∙ (ap (λ (l : List ℕ). with_cells t (entered_of (cells_of t m) (x / P * P) l) m) (take-set-lt P k (x % P) v i)
      ∙ (ap (λ (l : List ℕ). with_cells t l m) (entered_more (take P k) (cells_of t m) (x / P * P) (x % P) v (omega (arith, length-take P k)) o)
      ∙ (ap (λ (j : ℕ). with_cells t (set s j v) m) e
      ∙ (ap (λ (l : List ℕ). with_cells t (set l x v) m) (sym (cells_with t s m)) ∙ sym (with_with t _ s m)))))
