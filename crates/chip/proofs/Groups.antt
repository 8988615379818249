-- Laws of error-correction groups: whether a byte is latched in one, and what comes up in a page.
-- Assumes nothing.
use Prim.Native.Nat.{ℕ, zero, suc, ◌+◌, ◌-◌, ◌*◌, ◌/◌, ◌≤◌, ◌<◌}
use mathlib.Core.Path.{◌≡◌, ◌∙◌, refl, sym, ap, subst}
use mathlib.Core.Bool.{Bool, true, false, cond, ◌||◌}
use mathlib.Core.List.{List, [], ◌∷◌}
use native.Mathlib.Nat.{add-zero, mul-le-mul_right, div-eq_of_lt-le}
use native.Mathlib.Decide.{dec_lt, ℕ_discrete}
use native.Mathlib.Numerals.{add-one}
use native.Mathlib.Omega.{arith}
use lib.Dec.{ltb}
use lib.ListN.{length, get_or, set, take, length-set, get_or-replicate, get_or-eq_default}
use lib.Seq.{take_all, ext_get_or, get_or-take, length-take-le, get_or-set_same, get_or-set_other}
use borrow.Author.Tests.{lt-ltb, le-ltb}
use Rattle.parts.specs.declared.Facts.{Facts}
use Rattle.parts.specs.declared.Loss.{Loss}
use Rattle.parts.specs.declared.Loss.TheVariants.{Lent}
use Rattle.line.specs.declared.Cycle.TheVariants.{Writing, Locking}
use Rattle.line.specs.declared.Phase.{Phase}
use Rattle.line.specs.declared.Phase.TheVariants.{Idle, Receive, Send, Busy}
use Rattle.line.specs.declared.Line.{Line}
use Rattle.chip.specs.Memory.{Mem, chip, no_latch, committed_of, cycle_stored_of, stored_of, latched_in, touched_of, risen_of, risen_from, lost_of}
use Rattle.chip.specs.Onward.{Lifted}

-- within a list it is the same what stands beyond its end
pub get_d_else : (l : List ℕ) (i d e : ℕ) → i < length l → get_or l i d ≡ get_or l i e
get_d_else [] zero d e h = absurd (omega arith)
get_d_else [] (suc i) d e h = absurd (omega arith)
get_d_else (x ∷ xs) zero d e h = refl
get_d_else (x ∷ xs) (suc i) d e h = get_d_else xs i d e (omega arith)

-- a group of n places, of which the first is at i
module _ (k : List ℕ) (i n : ℕ) (hi : i < length k) (hn : 0 < n) where
  latched_first : latched_in k i n ≡ cond (ltb (get_or k i 0) 256) true (latched_in k (i + 1) (n - 1))
  latched_first =
      let e : n ≡ suc (n - 1) = omega arith in
      ap (λ (z : ℕ). latched_in k i z) e ∙ rw (get_d_else k i 256 0 hi, add-one)

  pub latched_here : get_or k i 0 < 256 → true ≡ latched_in k i n
  latched_here h = sym (latched_first ∙ rw (lt-ltb (get_or k i 0) 256 h) refl)

  pub latched_on : 256 ≤ get_or k i 0 → latched_in k (i + 1) (n - 1) ≡ latched_in k i n
  latched_on h = sym (latched_first ∙ rw (le-ltb (get_or k i 0) 256 h) refl)

-- beyond the end of the list nothing is latched
pub latched_beyond : (k : List ℕ) (i n : ℕ) → length k ≤ i → latched_in k i n ≡ false
latched_beyond k i zero h = refl
latched_beyond k i (suc n) h = rw (get_or-eq_default k 256 h) (latched_beyond k (suc i) n (omega arith))

-- four places
pub latched_four : (k : List ℕ) (i : ℕ) → i + 4 ≤ length k
    → (((ltb (get_or k i 0) 256 || ltb (get_or k (i + 1) 0) 256) || ltb (get_or k (i + 2) 0) 256) || ltb (get_or k (i + 3) 0) 256) ≡ latched_in k i 4
latched_four k i h =
    let one : i + 1 ≡ suc i = omega arith in
    let two : i + 2 ≡ suc (suc i) = omega arith in
    let three : i + 3 ≡ suc (suc (suc i)) = omega arith in
    rw (get_d_else k i 0 256 (omega arith), get_d_else k (i + 1) 0 256 (omega arith), get_d_else k (i + 2) 0 256 (omega arith), get_d_else k (i + 3) 0 256 (omega arith), one, two, three)
    (four (ltb (get_or k i 256) 256) (ltb (get_or k (suc i) 256) 256) (ltb (get_or k (suc (suc i)) 256) 256) (ltb (get_or k (suc (suc (suc i))) 256) 256))
  where
    four : (a b c d : Bool) → (((a || b) || c) || d) ≡ cond a true (cond b true (cond c true (cond d true false)))
    four true b c d = refl
    four false true c d = refl
    four false false true d = refl
    four false false false true = refl
    four false false false false = refl

-- a group that begins in the page ends in it
pub group_room : (j p g : ℕ) → j < p / g → p ≡ p / g * g → j * g + g ≤ p
group_room j p g h whole = omega (arith, mul-le-mul_right g h, whole)

-- and behind the last one the page ends
pub groups_end : (j p g : ℕ) → p / g ≤ j → p ≡ p / g * g → p ≤ j * g
groups_end j p g h whole = omega (arith, mul-le-mul_right g h, whole)

-- ---- the lent bytes at some places

pub lift_none : (page : List ℕ) (from : ℕ) (k : List ℕ) → Lifted page from from k k
lift_none page from k = record { size = refl; inside = λ i a b. absurd (omega arith); outside = λ i o. refl }

pub lift_more : (page : List ℕ) (from i : ℕ) (k k' : List ℕ) → from ≤ i → i < length k → Lifted page from i k k' → Lifted page from (i + 1) k (set k' i (get_or page i 0))
lift_more page from i k k' h l r =
    record {
      size = length-set k' i (get_or page i 0) ∙ r.size;
      inside = λ j a b. go j a b (ℕ_discrete j i);
      outside = λ j o. get_or-set_other k' i j (get_or page i 0) 0 (λ e. o (omega arith) (omega arith)) ∙ r.outside j (λ a b. o a (omega arith));
    }
  where
    go : (j : ℕ) → from ≤ j → j < i + 1 → Dec (j ≡ i) → get_or (set k' i (get_or page i 0)) j 0 ≡ get_or page j 0
    go j a b (yes e) = rw e (get_or-set_same k' i (get_or page i 0) 0 (omega (arith, r.size)))
    go j a b (no e) = get_or-set_other k' i j (get_or page i 0) 0 e ∙ r.inside j a (omega (arith, e))

-- ---- what comes up, group by group

-- below place i it is there, and from there on nothing is
pub record Risen (g : ℕ) (k page : List ℕ) (i : ℕ) (up : List ℕ) : Type 0 where
  pub size : length up ≡ 64
  pub done : (q : ℕ) → q < i → get_or up q 0 ≡ risen_of g k page q
  pub rest : (q : ℕ) → i ≤ q → q < 64 → get_or up q 0 ≡ 256

module _ (g : ℕ) (k page : List ℕ) where
  pub rise_none : (up : List ℕ) → up ≡ no_latch → Risen g k page 0 up
  unfolding no_latch
  rise_none up e = record { size = ap length e; done = λ q h. absurd (omega arith); rest = λ q a b. rw e (get_or-replicate 64 q 256 0 b) }

  pub risen_length : (i n : ℕ) → length (risen_from g k page i n) ≡ n
  risen_length i zero = refl
  risen_length i (suc n) = ap suc (risen_length (suc i) n)

  pub risen_at : (i n j d : ℕ) → j < n → get_or (risen_from g k page i n) j d ≡ risen_of g k page (i + j)
  risen_at i zero j d h = absurd (omega arith)
  risen_at i (suc n) zero d h = ap (risen_of g k page) (sym (add-zero i))
  risen_at i (suc n) (suc j) d h =
      let e : suc i + j ≡ i + suc j = omega arith in
      risen_at (suc i) n j d (omega arith) ∙ ap (risen_of g k page) e

  pub rise_end : (p i : ℕ) (up : List ℕ) → Risen g k page i up → p ≤ i → p ≤ 64 → take p up ≡ risen_from g k page 0 p
  rise_end p i up r h l =
      let n : length (take p up) ≡ p = length-take-le p up (omega (arith, r.size)) in
      ext_get_or 0 (take p up) (risen_from g k page 0 p) (n ∙ sym (risen_length 0 p)) (λ q b. each q (omega (arith, b, n)))
    where
      each : (q : ℕ) → q < p → get_or (take p up) q 0 ≡ get_or (risen_from g k page 0 p) q 0
      each q b = get_or-take p up q 0 b ∙ r.done q (omega arith) ∙ sym (risen_at 0 p q 0 b ∙ ap (risen_of g k page) (omega arith))

  -- group number j, of which the first place is i
  module _ (i j : ℕ) (first : i ≡ j * g) where
    risen_in : (t : Bool) (q : ℕ) → t ≡ touched_of g k j → i ≤ q → q < i + g → risen_of g k page q ≡ cond t (get_or page q 0) 256
    unfolding risen_of
    risen_in t q e a b =
        let d : q / g ≡ j = div-eq_of_lt-le g (omega (arith, a, first)) (omega (arith, b, first)) in
        rw (d, ← e) refl

    module _ (up : List ℕ) (r : Risen g k page i up) (room : i + g ≤ 64) where
      pub rise_over : false ≡ touched_of g k j → Risen g k page (i + g) up
      rise_over t = record { size = r.size; done = λ q h. go q h (dec_lt q i); rest = λ q a b. r.rest q (omega arith) b }
        where
          go : (q : ℕ) → q < i + g → Dec (q < i) → get_or up q 0 ≡ risen_of g k page q
          go q h (yes l) = r.done q l
          go q h (no l) = r.rest q (omega arith) (omega arith) ∙ sym (risen_in false q t (omega arith) h)

      pub rise_on : (up' : List ℕ) → true ≡ touched_of g k j → Lifted page i (i + g) up up' → Risen g k page (i + g) up'
      rise_on up' t l =
          record { size = l.size ∙ r.size; done = λ q h. go q h (dec_lt q i); rest = λ q a b. l.outside q (λ u v. omega arith) ∙ r.rest q (omega arith) b }
        where
          go : (q : ℕ) → q < i + g → Dec (q < i) → get_or up' q 0 ≡ risen_of g k page q
          go q h (yes b) = l.outside q (λ u v. omega arith) ∙ r.done q b
          go q h (no b) = l.inside q (omega arith) h ∙ sym (risen_in true q t (omega arith) h)

-- ---- what a cycle stores is of the page's places alone

pub stored_same : (f : Facts) (l : Line) (k k' : List ℕ) (m : Mem) (ph : Phase) → take f.page k ≡ take f.page k' → stored_of f l k m ph ≡ stored_of f l k' m ph
unfolding stored_of cycle_stored_of committed_of
stored_same f l k k' m Idle e = refl
stored_same f l k k' m (Receive r) e = refl
stored_same f l k k' m (Send t) e = refl
stored_same f l k k' m (Busy (Writing t)) e = rw e refl
stored_same f l k k' m (Busy Locking) e = refl

risen_stored : (f : Facts) (l : Line) (k page up : List ℕ) (m : Mem) (lock : Bool) → take f.page up ≡ risen_from f.group k page 0 f.page
    → stored_of f l up m l.phase ≡ lost_of f (chip l k) page m (Lent lock)
unfolding lost_of
risen_stored f l k page up m lock e =
    let r = risen_from f.group k page 0 f.page in
    stored_same f l up r m l.phase (e ∙ sym (take_all f.page r (omega (arith, risen_length f.group k page 0 f.page))))

pub lost_is : (f F : Facts) (l : Line) (k page up : List ℕ) (m : Mem) (w : Loss) (lock : Bool) → f ≡ F → w ≡ Lent lock → take f.page up ≡ risen_from f.group k page 0 f.page
    → stored_of F l up m l.phase ≡ lost_of F (chip l k) page m w
lost_is f F l k page up m w lock hf hw e = subst (λ (z : Facts). stored_of z l up m l.phase ≡ lost_of z (chip l k) page m w) hf (rw hw (risen_stored f l k page up m lock e))
