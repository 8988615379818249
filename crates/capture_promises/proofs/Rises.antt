-- The samples at which clocks rise: each is where its clock is made, and there is one for each.
-- Assumes nothing.
use Prim.Native.Nat.{ℕ, zero, suc, ◌+◌, ◌≤◌, ◌<◌}
use mathlib.Core.Path.{◌≡◌, ◌∙◌, refl, sym, ap}
use mathlib.Core.Bool.{Bool, true, false, not, cond, ◌&&◌}
use mathlib.Core.Logic.{◌⊎◌, inl, inr}
use mathlib.Core.List.{List, [], ◌∷◌, ◌++◌, append_assoc}
use native.Mathlib.Omega.{arith}
use lib.ListN.{length, get_or, take, drop, length-append}
use lib.Dec.{eqb}
use borrow.Author.Tests.{lt-ltb, le-ltb, eq-eqb, eqb-true}
use Rattle.parts.specs.Bytes.{AllBelow}
use Rattle.parts.proofs.Bytes.{below_append}
use Rattle.parts.proofs.Tests.{both}
use Rattle.capture.specs.Samples.{clock_in, data_in, still_of, pair_of, events_from, events_of, rises_in, rises_from, rises_of}
use Rattle.capture.specs.Marks.{clock_of, clocks_in}
use Rattle.capture_promises.specs.Running.{RisesAt}
use Rattle.capture_promises.proofs.Cuts.{clocks_append}
use Rattle.capture_promises.proofs.Ends.{no_element}

-- ---- what a sample makes: nothing; a clock, where the clock was low; a Start or a Stop

data Pair (bus : Bool) (before s : ℕ) (ss : List ℕ) : Type 0 where
  none : pair_of bus before s ss ≡ [] → Pair bus before s ss
  clock : pair_of bus before s ss ≡ data_in s ∷ [] → clock_in before ≡ 0 → pair_of bus before s [] ≡ data_in s ∷ [] → Pair bus before s ss
  other : (e : ℕ) → pair_of bus before s ss ≡ e ∷ [] → 2 ≤ e → e < 4 → Pair bus before s ss

pair_is : (bus : Bool) (before s : ℕ) (ss : List ℕ) → Pair bus before s ss
pair_is bus before s ss = high (eqb (clock_in s) 0) refl
  where
    changed : eqb (clock_in s) 0 ≡ false → eqb (clock_in before) 0 ≡ false → eqb (data_in before) (data_in s) ≡ false → (b : Bool) → eqb (data_in s) 0 ≡ b → Pair bus before s ss
    changed h l d true e = other 2 (rw (h, l, d, e) refl) (omega arith) (omega arith)
    changed h l d false e = other 3 (rw (h, l, d, e) refl) (omega arith) (omega arith)

    stays : eqb (clock_in s) 0 ≡ false → eqb (clock_in before) 0 ≡ false → (b : Bool) → eqb (data_in before) (data_in s) ≡ b → Pair bus before s ss
    stays h l true e = none (rw (h, l, e) refl)
    stays h l false e = changed h l e (eqb (data_in s) 0) refl

    alone : (b : Bool) → cond (b && false) [] (data_in s ∷ []) ≡ data_in s ∷ []
    alone true = refl
    alone false = refl

    rises : eqb (clock_in s) 0 ≡ false → eqb (clock_in before) 0 ≡ true → (b : Bool) → (bus && not (still_of (data_in s) ss)) ≡ b → Pair bus before s ss
    rises h l true e = none (rw (h, l, e) refl)
    rises h l false e = clock (rw (h, l, e) refl) (eqb-true (clock_in before) 0 l) (rw (h, l) (alone bus))

    was : eqb (clock_in s) 0 ≡ false → (b : Bool) → eqb (clock_in before) 0 ≡ b → Pair bus before s ss
    was h true e = rises h e (bus && not (still_of (data_in s) ss)) refl
    was h false e = stays h e (eqb (data_in before) (data_in s)) refl

    high : (b : Bool) → eqb (clock_in s) 0 ≡ b → Pair bus before s ss
    high true h = none (rw h refl)
    high false h = was h (eqb (clock_in before) 0) refl

data_low : (s : ℕ) → data_in s < 2
data_low s = omega arith

-- a capture's events are clocks, Starts and Stops
pair_below : (bus : Bool) (before s : ℕ) (ss : List ℕ) → Pair bus before s ss → AllBelow 4 (pair_of bus before s ss)
pair_below bus before s ss (none e) = rw e tt
pair_below bus before s ss (clock e l a) = rw e (omega (arith, data_low s), tt)
pair_below bus before s ss (other x e l h) = rw e (h, tt)

from_below : (bus : Bool) (before : ℕ) (ss : List ℕ) → AllBelow 4 (events_from bus before ss)
from_below bus before [] = tt
from_below bus before (s ∷ ss) =
    below_append 4 (pair_of bus before s ss) (events_from bus s ss) (pair_below bus before s ss (pair_is bus before s ss)) (from_below bus s ss)

pub events_below : (bus : Bool) (ss : List ℕ) → AllBelow 4 (events_of bus ss)
unfolding events_of
events_below bus [] = tt
events_below bus (s ∷ ss) = from_below bus s ss

-- ---- the first samples alone

-- the clock falls among them: data stay still in both or in none
still_cut : (d i j : ℕ) (ss : List ℕ) → i < length ss → clock_in (get_or ss i 0) ≡ 0 → i < j → still_of d (take j ss) ≡ still_of d ss
still_cut d i j [] l h b = absurd (omega arith)
still_cut d i zero (s ∷ ss) l h b = absurd (omega arith)
still_cut d zero (suc j) (s ∷ ss) l h b = rw (eq-eqb (clock_in s) 0 h) refl
still_cut d (suc i) (suc j) (s ∷ ss) l h b = rw (still_cut d i j ss (omega arith) h (omega arith)) refl

pair_cut : (bus : Bool) (before s : ℕ) (ss : List ℕ) (i j : ℕ) → clock_in (get_or (s ∷ ss) i 0) ≡ 0 → i < suc (length ss) → i ≤ j
    → pair_of bus before s (take j ss) ≡ pair_of bus before s ss
pair_cut bus before s ss zero j h l b = rw (eq-eqb (clock_in s) 0 h) refl
pair_cut bus before s ss (suc i) j h l b = rw (still_cut (data_in s) i j ss (omega arith) h (omega arith)) refl

-- ---- the place of a clock

module _ (k : ℕ) (bus : Bool) (before s : ℕ) (ss : List ℕ) (rest : List ℕ) (n : ℕ) where
  rises_behind : Pair bus before s ss → get_or (rises_in k (pair_of bus before s ss) ++ rest) (clocks_in (pair_of bus before s ss) + n) 0 ≡ get_or rest n 0
  rises_behind (none e) = let z : 0 + n ≡ n = omega arith in rw (e, z) refl
  rises_behind (clock e l a) =
      let z : 1 + 0 + n ≡ suc n = omega arith in
      rw e (rw (lt-ltb (data_in s) 2 (data_low s)) (ap (λ (i : ℕ). get_or (k ∷ rest) i 0) z))
  rises_behind (other x e l h) =
      let z : 0 + 0 + n ≡ n = omega arith in
      rw e (rw (le-ltb x 2 l) (ap (λ (i : ℕ). get_or rest i 0) z))

record Risen (bus : Bool) (before k : ℕ) (ss : List ℕ) (n v : ℕ) : Type 0 where
  place : ℕ
  sample : get_or (rises_from bus before k ss) n 0 ≡ k + place
  there : place < length ss
  low : clock_in (get_or (before ∷ ss) place 0) ≡ 0
  number : clocks_in (events_from bus before (take place ss)) ≡ n
  made : events_from bus before (take (suc place) ss) ≡ events_from bus before (take place ss) ++ (v ∷ [])
  kept : events_from bus before ss ≡ events_from bus before (take place ss) ++ (v ∷ events_of bus (drop place ss))

risen_later : (bus : Bool) (before k s : ℕ) (ss : List ℕ) (n v m : ℕ) → Risen bus s (suc k) ss n v → m ≡ clocks_in (pair_of bus before s ss) + n
    → Risen bus before k (s ∷ ss) m v
risen_later bus before k s ss n v m r h =
    let P = pair_of bus before s ss in
    let A = events_from bus s (take r.place ss) in
    let here = pair_cut bus before s ss r.place r.place r.low (omega (arith, r.there)) (omega arith) in
    let more = pair_cut bus before s ss r.place (suc r.place) r.low (omega (arith, r.there)) (omega arith) in
    record {
      place = suc r.place;
      sample =
          ap (λ (i : ℕ). get_or (rises_in k P ++ rises_from bus s (suc k) ss) i 0) h
          ∙ rises_behind k bus before s ss (rises_from bus s (suc k) ss) n (pair_is bus before s ss)
          ∙ omega (arith, r.sample);
      there = omega (arith, r.there);
      low = r.low;
      number = ap (λ (l : List ℕ). clocks_in (l ++ A)) here ∙ clocks_append P A ∙ omega (arith, r.number, h);
      made =
          ap (λ (l : List ℕ). l ++ events_from bus s (take (suc r.place) ss)) more
          ∙ ap (λ (l : List ℕ). P ++ l) r.made
          ∙ sym (append_assoc P A (v ∷ []))
          ∙ ap (λ (l : List ℕ). (l ++ A) ++ (v ∷ [])) (sym here);
      kept =
          ap (λ (l : List ℕ). P ++ l) r.kept
          ∙ sym (append_assoc P A (v ∷ events_of bus (drop r.place ss)))
          ∙ ap (λ (l : List ℕ). (l ++ A) ++ (v ∷ events_of bus (drop r.place ss))) (sym here);
    }

risen_here : (bus : Bool) (before k s : ℕ) (ss : List ℕ) (v : ℕ) → pair_of bus before s ss ≡ data_in s ∷ [] → clock_in before ≡ 0 → pair_of bus before s [] ≡ data_in s ∷ []
    → v ≡ data_in s → Risen bus before k (s ∷ ss) 0 v
unfolding events_of
risen_here bus before k s ss v e l a d =
    record {
      place = 0;
      sample = ap (λ (es : List ℕ). get_or (rises_in k es ++ rises_from bus s (suc k) ss) 0 0) e ∙ rw (lt-ltb (data_in s) 2 (data_low s)) (omega arith);
      there = omega arith;
      low = l;
      number = refl;
      made = ap (λ (es : List ℕ). es ++ []) a ∙ ap (λ (x : ℕ). x ∷ []) (sym d);
      kept = ap (λ (es : List ℕ). es ++ events_from bus s ss) e ∙ ap (λ (x : ℕ). x ∷ events_from bus s ss) (sym d);
    }

no_front {ℓ} : {A : Type ℓ} (fs : List ℕ) (v : ℕ) (bs : List ℕ) → [] ≡ fs ++ (v ∷ bs) → A
no_front [] v bs h = no_element v bs (sym h)
no_front (a ∷ fs) v bs h = no_element a (fs ++ (v ∷ bs)) (sym h)

risen : (bus : Bool) (before k : ℕ) (ss : List ℕ) (n v : ℕ) (fs bs : List ℕ) → events_from bus before ss ≡ fs ++ (v ∷ bs) → v < 2 → clocks_in fs ≡ n
    → Risen bus before k ss n v
risen bus before k [] n v fs bs h l c = no_front fs v bs h
risen bus before k (s ∷ ss) n v fs bs h l c = go (pair_is bus before s ss) fs h c (λ m fs g c. risen bus s (suc k) ss m v fs bs g l c)
  where
    Rest : Type 0
    Rest = (m : ℕ) (fs : List ℕ) → events_from bus s ss ≡ fs ++ (v ∷ bs) → clocks_in fs ≡ m → Risen bus s (suc k) ss m v

    one : (e : ℕ) (fs : List ℕ) → pair_of bus before s ss ≡ e ∷ [] → e ∷ events_from bus s ss ≡ fs ++ (v ∷ bs) → clocks_in fs ≡ n
        → (e ≡ v → Risen bus before k (s ∷ ss) 0 v) → Rest → Risen bus before k (s ∷ ss) n v
    one e [] p g c first more =
        let z : n ≡ 0 = sym c in
        let d : e ≡ v = cc in
        rw z (first d)
    one e (a ∷ fs) p g c first more =
        let d : e ≡ a = cc in
        let t : events_from bus s ss ≡ fs ++ (v ∷ bs) = cc in
        risen_later bus before k s ss (clocks_in fs) v n (more (clocks_in fs) fs t refl)
        (sym c ∙ ap (λ (x : ℕ). clock_of x + clocks_in fs) (sym d) ∙ sum)
      where
        sum : clocks_in (e ∷ fs) ≡ clocks_in (pair_of bus before s ss) + clocks_in fs
        sum = rw p (omega arith)

    go : Pair bus before s ss → (fs : List ℕ) → pair_of bus before s ss ++ events_from bus s ss ≡ fs ++ (v ∷ bs) → clocks_in fs ≡ n → Rest → Risen bus before k (s ∷ ss) n v
    go (none e) fs h c more = risen_later bus before k s ss n v n (more n fs (rw e at h) c) (rw e (omega arith))
    go (clock e b a) fs h c more = one (data_in s) fs e (rw e at h) c (λ d. risen_here bus before k s ss v e b a (sym d)) more
    go (other x e b a) fs h c more = one x fs e (rw e at h) c (λ d. absurd (omega (arith, d, b, l))) more

pub rises_at : (bus : Bool) (ss : List ℕ) (n v : ℕ) (fs gs : List ℕ) → events_of bus ss ≡ fs ++ (v ∷ gs) → v < 2 → clocks_in fs ≡ n
    → RisesAt bus ss (get_or (rises_of bus ss) n 0) n v
unfolding events_of rises_of
rises_at bus [] n v fs gs h l c = no_front fs v gs h
rises_at bus (s ∷ ss) n v fs gs h l c = go (risen bus s 1 ss n v fs gs h l c)
  where
    go : Risen bus s 1 ss n v → RisesAt bus (s ∷ ss) (get_or (rises_from bus s 1 ss) n 0) n v
    go r =
        let z : get_or (rises_from bus s 1 ss) n 0 ≡ suc r.place = r.sample ∙ omega arith in
        rw z record { there = omega (arith, r.there); number = r.number; made = r.made; kept = r.kept }

-- ---- one sample for each clock

-- samples cut off take no event away, but one that the cut sample makes
still_front : (d j : ℕ) (ss : List ℕ) → still_of d ss ≡ true → still_of d (take j ss) ≡ true
still_front d zero ss h = refl
still_front d (suc j) [] h = refl
still_front d (suc j) (s ∷ ss) h = go (eqb (clock_in s) 0) h (eqb d (data_in s)) (λ g. still_front d j ss g)
  where
    go : (b : Bool) → cond b true (cond (eqb d (data_in s)) (still_of d ss) false) ≡ true → (e : Bool) → (still_of d ss ≡ true → still_of d (take j ss) ≡ true)
        → cond b true (cond (eqb d (data_in s)) (still_of d (take j ss)) false) ≡ true
    go true h e r = refl
    go false h e r = let w = both (eqb d (data_in s)) (still_of d ss) h in rw w.0 (r w.1)

-- a rise that the rest would undo counts as a clock where the rest is cut off
pair_front : (bus : Bool) (before s : ℕ) (ss : List ℕ) (j : ℕ)
    → (pair_of bus before s (take j ss) ≡ pair_of bus before s ss) ⊎ ((pair_of bus before s ss ≡ []) × (length (pair_of bus before s (take j ss)) ≡ 1))
pair_front bus before s ss j = high (eqb (clock_in s) 0) refl
  where
    Q : Type 0
    Q = (pair_of bus before s (take j ss) ≡ pair_of bus before s ss) ⊎ ((pair_of bus before s ss ≡ []) × (length (pair_of bus before s (take j ss)) ≡ 1))

    cut : eqb (clock_in s) 0 ≡ false → eqb (clock_in before) 0 ≡ true → bus ≡ true → still_of (data_in s) ss ≡ false → (b : Bool) → still_of (data_in s) (take j ss) ≡ b → Q
    cut h l u e true f = inr (rw (h, l, u, e) refl, rw (h, l, u, f) refl)
    cut h l u e false f = inl (rw (h, l, u, e, f) refl)

    whole : eqb (clock_in s) 0 ≡ false → eqb (clock_in before) 0 ≡ true → bus ≡ true → (b : Bool) → still_of (data_in s) ss ≡ b → Q
    whole h l u true e = inl (rw (h, l, u, e, still_front (data_in s) j ss e) refl)
    whole h l u false e = cut h l u e (still_of (data_in s) (take j ss)) refl

    read : eqb (clock_in s) 0 ≡ false → eqb (clock_in before) 0 ≡ true → (b : Bool) → bus ≡ b → Q
    read h l true u = whole h l u (still_of (data_in s) ss) refl
    read h l false u = inl (rw (h, l, u) refl)

    was : eqb (clock_in s) 0 ≡ false → (b : Bool) → eqb (clock_in before) 0 ≡ b → Q
    was h true e = read h e bus refl
    was h false e = inl (rw (h, e) refl)

    high : (b : Bool) → eqb (clock_in s) 0 ≡ b → Q
    high true h = inl (rw h refl)
    high false h = was h (eqb (clock_in before) 0) refl

short : (bus : Bool) (before s : ℕ) (ss : List ℕ) → Pair bus before s ss → length (pair_of bus before s ss) ≤ 1
short bus before s ss (none e) = rw e (omega arith)
short bus before s ss (clock e l a) = rw e (omega arith)
short bus before s ss (other x e l h) = rw e (omega arith)

front_length : (bus : Bool) (before s : ℕ) (ss : List ℕ) (j : ℕ) → length (pair_of bus before s ss) ≤ length (pair_of bus before s (take j ss))
front_length bus before s ss j = go (pair_front bus before s ss j)
  where
    go : (pair_of bus before s (take j ss) ≡ pair_of bus before s ss) ⊎ ((pair_of bus before s ss ≡ []) × (length (pair_of bus before s (take j ss)) ≡ 1))
        → length (pair_of bus before s ss) ≤ length (pair_of bus before s (take j ss))
    go (inl e) = rw e (omega arith)
    go (inr e) = rw e.0 (omega arith)

pieces_length : (bus : Bool) (before : ℕ) (ss : List ℕ) (j : ℕ) → j < length ss
    → length (events_from bus before ss) ≤ length (events_from bus before (take j ss)) + 1 + length (events_of bus (drop j ss))
unfolding events_of
pieces_length bus before [] j l = absurd (omega arith)
pieces_length bus before (s ∷ ss) zero l =
    omega (arith, length-append (pair_of bus before s ss) (events_from bus s ss), short bus before s ss (pair_is bus before s ss))
pieces_length bus before (s ∷ ss) (suc j) l =
    omega (
      arith,
      length-append (pair_of bus before s ss) (events_from bus s ss),
      length-append (pair_of bus before s (take j ss)) (events_from bus s (take j ss)),
      front_length bus before s ss j,
      pieces_length bus s ss j (omega arith),
    )

pair_cancel : (bus : Bool) (before s : ℕ) (ss xs ys : List ℕ) → Pair bus before s ss → pair_of bus before s ss ++ xs ≡ pair_of bus before s ss ++ ys → xs ≡ ys
pair_cancel bus before s ss xs ys (none e) h = rw e at h
pair_cancel bus before s ss xs ys (clock e l a) h = let g : data_in s ∷ xs ≡ data_in s ∷ ys = rw e at h in cc
pair_cancel bus before s ss xs ys (other x e l a) h = let g : x ∷ xs ≡ x ∷ ys = rw e at h in cc

pinned : (bus : Bool) (before k : ℕ) (ss : List ℕ) (s n v : ℕ) → v < 2 → s < length ss → clocks_in (events_from bus before (take s ss)) ≡ n
    → events_from bus before ss ≡ events_from bus before (take s ss) ++ (v ∷ events_of bus (drop s ss)) → get_or (rises_from bus before k ss) n 0 ≡ k + s
unfolding events_of
pinned bus before k [] s n v l t c h = absurd (omega arith)
pinned bus before k (x ∷ ss) zero n v l t c h = go (pair_is bus before x ss)
  where
    go : Pair bus before x ss → get_or (rises_in k (pair_of bus before x ss) ++ rises_from bus x (suc k) ss) n 0 ≡ k + 0
    go (none e) =
        let g : events_from bus x ss ≡ v ∷ events_from bus x ss = rw e at h in
        absurd (omega (arith, ap length g))
    go (clock e b a) = rw (e, ← c) (rw (lt-ltb (data_in x) 2 (data_low x)) (omega arith))
    go (other y e b a) =
        let g : y ∷ events_from bus x ss ≡ v ∷ events_from bus x ss = rw e at h in
        let z : y ≡ v = cc in
        absurd (omega arith)
pinned bus before k (x ∷ ss) (suc s) n v l t c h = go (pair_front bus before x ss s) (λ c h. pinned bus x (suc k) ss s (clocks_in (events_from bus x (take s ss))) v l (omega arith) c h)
  where
    P : List ℕ
    P = pair_of bus before x ss

    A : List ℕ
    A = events_from bus x (take s ss)

    B : List ℕ
    B = events_of bus (drop s ss)

    go : (pair_of bus before x (take s ss) ≡ P) ⊎ ((P ≡ []) × (length (pair_of bus before x (take s ss)) ≡ 1))
        → (clocks_in A ≡ clocks_in A → events_from bus x ss ≡ A ++ (v ∷ B) → get_or (rises_from bus x (suc k) ss) (clocks_in A) 0 ≡ suc k + s)
        → get_or (rises_in k P ++ rises_from bus x (suc k) ss) n 0 ≡ k + suc s
    go (inl e) more =
        let g : P ++ events_from bus x ss ≡ P ++ (A ++ (v ∷ B)) = h ∙ ap (λ (l : List ℕ). (l ++ A) ++ (v ∷ B)) e ∙ append_assoc P A (v ∷ B) in
        let r = more refl (pair_cancel bus before x ss (events_from bus x ss) (A ++ (v ∷ B)) (pair_is bus before x ss) g) in
        let m : n ≡ clocks_in P + clocks_in A = sym c ∙ ap (λ (l : List ℕ). clocks_in (l ++ A)) e ∙ clocks_append P A in
        ap (λ (i : ℕ). get_or (rises_in k P ++ rises_from bus x (suc k) ss) i 0) m
        ∙ rises_behind k bus before x ss (rises_from bus x (suc k) ss) (clocks_in A) (pair_is bus before x ss)
        ∙ omega (arith, r)
    go (inr e) more =
        absurd (omega (
          arith,
          ap length h,
          length-append P (events_from bus x ss),
          length-append (pair_of bus before x (take s ss) ++ A) (v ∷ B),
          length-append (pair_of bus before x (take s ss)) A,
          ap length e.0,
          e.1,
          pieces_length bus x ss s (omega arith),
        ))

pub rises_pinned : (bus : Bool) (ss : List ℕ) (s n v : ℕ) → v < 2 → RisesAt bus ss s n v → get_or (rises_of bus ss) n 0 ≡ s
unfolding events_of rises_of
rises_pinned bus [] s n v l r = absurd (omega (arith, r.there))
rises_pinned bus (x ∷ ss) zero n v l r =
    let g : events_from bus x ss ≡ v ∷ events_from bus x ss = r.kept in
    absurd (omega (arith, ap length g))
rises_pinned bus (x ∷ ss) (suc s) n v l r = pinned bus x 1 ss s n v l (omega (arith, r.there)) r.number r.kept ∙ omega arith
