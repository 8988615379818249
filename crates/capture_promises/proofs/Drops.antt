-- By the letter events depend on a sample and the one before it alone. On a bus a rise after which data do not stay still is a clock directly before
-- a Start or Stop, and the other way round.
-- Assumes nothing.
use Prim.Native.Nat.{ℕ, ◌<◌, ◌≤◌}
use native.Mathlib.Omega.{arith}
use mathlib.Core.Path.{◌≡◌, refl, sym, ap, ◌∙◌, subst}
use mathlib.Core.Bool.{Bool, true, false, not, cond}
use mathlib.Core.List.{List, [], ◌∷◌, ◌++◌, append_assoc}
use lib.Dec.{eqb}
use borrow.Author.Tests.{lt-ltb, le-ltb, eqb-true}
use Rattle.capture.specs.Samples.{clock_in, data_in, still_of, pair_of, events_from, events_of}
use Rattle.capture_promises.specs.Reading.{dropped_of}

-- ---- by the letter

letter_from : (b s : ℕ) (ws ys : List ℕ) → events_from false b (ws ++ s ∷ ys) ≡ events_from false b (ws ++ s ∷ []) ++ events_from false s ys
letter_from b s [] ys = sym (append_assoc (pair_of false b s []) [] (events_from false s ys))
letter_from b s (w ∷ ws) ys =
    rw (letter_from w s ws ys) (sym (append_assoc (pair_of false b w []) (events_from false w (ws ++ s ∷ [])) (events_from false s ys)))

pub letter_cut : (s : ℕ) (ws ys : List ℕ) → events_of false (ws ++ s ∷ ys) ≡ events_of false (ws ++ s ∷ []) ++ events_of false (s ∷ ys)
unfolding events_of
letter_cut s [] ys = refl
letter_cut s (w ∷ ws) ys = letter_from w s ws ys

-- ---- a list that begins with a clock, or is empty; and one that begins with a Start or Stop

abbrev Clocky : List ℕ → Type 0
Clocky [] = Unit {0}
Clocky (e ∷ es) = e < 2

abbrev Edgy : List ℕ → Type 0
Edgy [] = ⊥
Edgy (e ∷ es) = 2 ≤ e

abbrev First : Bool → List ℕ → Type 0
First true es = Clocky es
First false es = Edgy es

-- what follows while the clock is low begins with a clock
low_first : (s : ℕ) (ss : List ℕ) → eqb (clock_in s) 0 ≡ true → Clocky (events_from false s ss)
low_first s [] h = tt
low_first s (t ∷ ts) h = go (eqb (clock_in t) 0) refl (low_first t ts)
  where
    go : (b : Bool) → eqb (clock_in t) 0 ≡ b → (eqb (clock_in t) 0 ≡ true → Clocky (events_from false t ts)) → Clocky (events_from false s (t ∷ ts))
    go true e more = rw e (more e)
    go false e more = rw (e, h) (omega arith)

-- after a rise: a clock next, or none, where data stay still; a Start or Stop where they don't
changed : (x : ℕ) (es : List ℕ) → Edgy (cond (eqb x 0) (2 ∷ []) (3 ∷ []) ++ es)
changed x es = go (eqb x 0) refl
  where
    go : (b : Bool) → eqb x 0 ≡ b → Edgy (cond (eqb x 0) (2 ∷ []) (3 ∷ []) ++ es)
    go true e = rw e (omega arith)
    go false e = rw e (omega arith)

next_first : (s t : ℕ) (ts : List ℕ) → eqb (clock_in s) 0 ≡ false
    → (eqb (clock_in t) 0 ≡ false → First (still_of (data_in t) ts) (events_from false t ts))
    → (b : Bool) → eqb (clock_in t) 0 ≡ b → (d : Bool) → eqb (data_in s) (data_in t) ≡ d → First (still_of (data_in s) (t ∷ ts)) (events_from false s (t ∷ ts))
next_first s t ts h more true e d k = rw e (low_first t ts e)
next_first s t ts h more false e true k =
    rw (e, h, k) (subst (λ (x : ℕ). First (still_of x ts) (events_from false t ts)) (sym (eqb-true (data_in s) (data_in t) k)) (more e))
next_first s t ts h more false e false k = rw (e, h, k) (changed (data_in t) (events_from false t ts))

high_first : (s : ℕ) (ss : List ℕ) → eqb (clock_in s) 0 ≡ false → First (still_of (data_in s) ss) (events_from false s ss)
high_first s [] h = tt
high_first s (t ∷ ts) h = next_first s t ts h (high_first t ts) (eqb (clock_in t) 0) refl (eqb (data_in s) (data_in t)) refl

-- ---- dropping

keep_clock : (e : ℕ) (es : List ℕ) → e < 2 → Clocky es → dropped_of (e ∷ es) ≡ e ∷ dropped_of es
keep_clock e [] h c = refl
keep_clock e (d ∷ es) h c = rw (lt-ltb e 2 h, lt-ltb d 2 c)

drop_clock : (e : ℕ) (es : List ℕ) → e < 2 → Edgy es → dropped_of (e ∷ es) ≡ dropped_of es
drop_clock e [] h c = absurd c
drop_clock e (d ∷ es) h c = rw (lt-ltb e 2 h, le-ltb d 2 c)

keep_edge : (e : ℕ) (es : List ℕ) → 2 ≤ e → dropped_of (e ∷ es) ≡ e ∷ dropped_of es
keep_edge e [] h = refl
keep_edge e (d ∷ es) h = rw (le-ltb e 2 h)

rise : (e : ℕ) (es es' : List ℕ) → e < 2 → es' ≡ dropped_of es → (b : Bool) → First b es → cond (not b) [] (e ∷ []) ++ es' ≡ dropped_of (e ∷ es)
rise e es es' h i true c = ap (λ (x : List ℕ). e ∷ x) i ∙ sym (keep_clock e es h c)
rise e es es' h i false c = i ∙ sym (drop_clock e es h c)

edge : (x : ℕ) (es es' : List ℕ) → es' ≡ dropped_of es → cond (eqb x 0) (2 ∷ []) (3 ∷ []) ++ es' ≡ dropped_of (cond (eqb x 0) (2 ∷ []) (3 ∷ []) ++ es)
edge x es es' i = go (eqb x 0) refl
  where
    go : (b : Bool) → eqb x 0 ≡ b → cond (eqb x 0) (2 ∷ []) (3 ∷ []) ++ es' ≡ dropped_of (cond (eqb x 0) (2 ∷ []) (3 ∷ []) ++ es)
    go true e = rw e (ap (λ (y : List ℕ). 2 ∷ y) i ∙ sym (keep_edge 2 es (omega arith)))
    go false e = rw e (ap (λ (y : List ℕ). 3 ∷ y) i ∙ sym (keep_edge 3 es (omega arith)))

one : (before s : ℕ) (ss : List ℕ) → events_from true s ss ≡ dropped_of (events_from false s ss)
    → (a : Bool) → eqb (clock_in s) 0 ≡ a → (b : Bool) → eqb (clock_in before) 0 ≡ b → (d : Bool) → eqb (data_in before) (data_in s) ≡ d
    → events_from true before (s ∷ ss) ≡ dropped_of (events_from false before (s ∷ ss))
one before s ss i true e b k d m = rw e i
one before s ss i false e true k d m =
    rw (e, k) (rise (data_in s) (events_from false s ss) (events_from true s ss) (omega arith) i (still_of (data_in s) ss) (high_first s ss e))
one before s ss i false e false k true m = rw (e, k, m) i
one before s ss i false e false k false m = rw (e, k, m) (edge (data_in s) (events_from false s ss) (events_from true s ss) i)

drops_from : (before : ℕ) (ss : List ℕ) → events_from true before ss ≡ dropped_of (events_from false before ss)
drops_from before [] = refl
drops_from before (s ∷ ss) =
    one before s ss (drops_from s ss) (eqb (clock_in s) 0) refl (eqb (clock_in before) 0) refl (eqb (data_in before) (data_in s)) refl

pub drops : (ss : List ℕ) → events_of true ss ≡ dropped_of (events_of false ss)
unfolding events_of
drops [] = refl
drops (s ∷ ss) = drops_from s ss
