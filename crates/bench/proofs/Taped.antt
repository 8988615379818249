-- Laws of the tape: what a turn stores in the two lent buffers is what the definition has of it, and the rest of the run has the rest.
-- Assumes nothing.
use Prim.Native.Nat.{ℕ, zero, suc, ◌+◌, ◌-◌, ◌≤◌, ◌<◌}
use mathlib.Core.Path.{◌≡◌, refl, sym, ◌∙◌, ap, subst}
use mathlib.Core.Bool.{Bool, true, false, cond}
use mathlib.Core.List.{List, [], ◌∷◌, ◌++◌, append_assoc}
use lib.ListN.{length, set, length-append}
use lib.Seq.{sets, set_out, set-append_seam, take-nil}
use native.Mathlib.Numerals.{add-one}
use native.Mathlib.Omega.{arith}
use Rattle.parts.specs.declared.Facts.{Facts}
use Rattle.parts.proofs.Tests.{neither}
use Rattle.state.specs.declared.Chip.{Chip}
use Rattle.chip.specs.Memory.{Mem}
use Rattle.driver.specs.declared.Request.{Request}
use Rattle.driver.specs.declared.Begun.{Begun}
use Rattle.driver.specs.declared.Answer.{Answer}
use Rattle.driver.specs.Step.{driver_next_of, begin_of}
use Rattle.driver.specs.Machine.{our_driver}
use Rattle.bench.specs.Together.{System, start_of, end_due_of, turn_of}
use Rattle.bench.specs.Tape.{sends_of, sent_code_of, tape_by, turn_events, turn_levels, tape_events_of, tape_levels_of, laid_of}
use Rattle.bench.specs.Held.{whole, going_of}
use Rattle.bench.proofs.Laws.{still}
use Rattle.chip.specs.Model.{ours}
use Rattle.wear.specs.declared.Most.{Most}
use Rattle.wear.specs.Wear.{our_counter, worn_by}

-- ---- a list stored from a place on

sets_append : (xs l ys : List ℕ) (at : ℕ) → sets l at (xs ++ ys) ≡ sets (sets l at xs) (at + length xs) ys
sets_append [] l ys at = ap (λ (n : ℕ). sets l n ys) (omega arith)
sets_append (x ∷ xs) l ys at =
    let e : suc at + length xs ≡ at + suc (length xs) = omega arith in
    sets_append xs (set l at x) ys (suc at) ∙ ap (λ (n : ℕ). sets (sets (set l at x) (suc at) xs) n ys) e

sets_out : (xs l : List ℕ) (at : ℕ) → length l ≤ at → sets l at xs ≡ l
sets_out [] l at h = refl
sets_out (x ∷ xs) l at h = ap (λ (k : List ℕ). sets k (suc at) xs) (set_out l at x h) ∙ sets_out xs l (suc at) (omega arith)

sets_over : (a l xs : List ℕ) (at : ℕ) → length a ≡ at → sets (a ++ l) at xs ≡ a ++ laid_of l xs
unfolding laid_of
sets_over a l [] at e = ap (λ (k : List ℕ). a ++ (k ++ l)) (sym (take-nil (length l)))
sets_over a [] (x ∷ xs) at e = sets_out (x ∷ xs) (a ++ []) at (omega (arith, length-append a []))
sets_over a (y ∷ l) (x ∷ xs) at e =
    let n : length (a ++ (x ∷ [])) ≡ suc at = omega (arith, length-append a (x ∷ [])) in
    ap (λ (k : List ℕ). sets k (suc at) xs) (ap (λ (i : ℕ). set (a ++ (y ∷ l)) i x) (sym e) ∙ set-append_seam a y l x ∙ sym (append_assoc a (x ∷ []) l))
    ∙ sets_over (a ++ (x ∷ [])) l xs (suc at) n
    ∙ append_assoc a (x ∷ []) (laid_of l xs)

-- ---- what one turn stores

pub noted : (a b : Bool) (x y at next : ℕ) (l m k : List ℕ) → next ≡ cond a (at + 1) at → m ≡ cond a (set l at x) l → k ≡ cond b (set m next y) m
    → k ≡ sets l at (tape_by a b x y)
noted true true x y at next l m k hn hm hk = hk ∙ ap (λ (i : ℕ). set m i y) (hn ∙ add-one at) ∙ ap (λ (z : List ℕ). set z (suc at) y) hm
noted true false x y at next l m k hn hm hk = hk ∙ hm
noted false true x y at next l m k hn hm hk = hk ∙ ap (λ (i : ℕ). set m i y) hn ∙ ap (λ (z : List ℕ). set z at y) hm
noted false false x y at next l m k hn hm hk = hk ∙ hm

pub counted : (a b : Bool) (x y at next r : ℕ) → next ≡ cond a (at + 1) at → r ≡ cond b (next + 1) next → r ≡ at + length (tape_by a b x y)
counted true true x y at next r hn hr = omega arith
counted true false x y at next r hn hr = omega arith
counted false true x y at next r hn hr = omega arith
counted false false x y at next r hn hr = omega arith

pub few_noted : (a : Bool) (at next : ℕ) → next ≡ cond a (at + 1) at → next ≤ at + 1
few_noted true at next h = omega arith
few_noted false at next h = omega arith

same_count : (a b : Bool) (x y v w : ℕ) → length (tape_by a b x y) ≡ length (tape_by a b v w)
same_count true true x y v w = refl
same_count true false x y v w = refl
same_count false true x y v w = refl
same_count false false x y v w = refl

two_most : (a b : Bool) (x y : ℕ) → length (tape_by a b x y) ≤ 2
two_most true true x y = omega arith
two_most true false x y = omega arith
two_most false true x y = omega arith
two_most false false x y = omega arith

-- what the code makes of the driver's answer
pub told : (d : ℕ) (s : System) (ended sends : Bool) (code : ℕ) (a : Answer) → (ended ≡ end_due_of d s) × (a ≡ (driver_next_of s.driver s.level s.buffer).answer) → sends ≡ sends_of a → code ≡ sent_code_of a
    → (ended ≡ end_due_of d s) × (sends ≡ sends_of (driver_next_of s.driver s.level s.buffer).answer) × (code ≡ sent_code_of (driver_next_of s.driver s.level s.buffer).answer)
told d s ended sends code a (due, said) hs hc = (due, hs ∙ ap sends_of said, hc ∙ ap sent_code_of said)

-- ---- what is left of a run

-- the rest of the tape, stored from `at` on, makes the two buffers `es` and `ls`, and the count n
pub record Left (f : Facts) (en d k : ℕ) (s : System) (at : ℕ) (l v : List ℕ) (n : ℕ) (es ls : List ℕ) : Type 0 where
  pub count : at + length (tape_events_of our_driver (ours f en) d k s) ≡ n
  pub events : sets l at (tape_events_of our_driver (ours f en) d k s) ≡ es
  pub levels : sets v at (tape_levels_of our_driver (ours f en) d k s) ≡ ls

module _ (f : Facts) (en d : ℕ) where
  pub left_start : (k : ℕ) (s : System) (l v : List ℕ)
      → Left f en d k s 0 l v (length (tape_events_of our_driver (ours f en) d k s)) (laid_of l (tape_events_of our_driver (ours f en) d k s)) (laid_of v (tape_levels_of our_driver (ours f en) d k s))
  left_start k s l v =
      record {
        count = omega arith;
        events = sets_over [] l (tape_events_of our_driver (ours f en) d k s) 0 refl;
        levels = sets_over [] v (tape_levels_of our_driver (ours f en) d k s) 0 refl;
      }

  pub left_end : (k : ℕ) (s : System) (at : ℕ) (l v : List ℕ) (n : ℕ) (es ls : List ℕ) → k ≡ 0 → Left f en d k s at l v n es ls
      → (at ≡ n) × ((l ≡ es) × (v ≡ ls))
  unfolding tape_events_of tape_levels_of
  left_end zero s at l v n es ls e t = (let c = t.count in omega arith, (t.events, t.levels))
  left_end (suc k) s at l v n es ls e t = absurd (omega arith)

  pub rest_events : (k : ℕ) (s : System) → 0 < k → tape_events_of our_driver (ours f en) d k s ≡ turn_events our_driver d s ++ tape_events_of our_driver (ours f en) d (k - 1) (turn_of our_driver (ours f en) d s)
  unfolding tape_events_of
  rest_events zero s h = absurd (omega arith)
  rest_events (suc k) s h =
      let e : k ≡ suc k - 1 = omega arith in
      ap (λ (i : ℕ). turn_events our_driver d s ++ tape_events_of our_driver (ours f en) d i (turn_of our_driver (ours f en) d s)) e

  rest_levels : (k : ℕ) (s : System) → 0 < k → tape_levels_of our_driver (ours f en) d k s ≡ turn_levels our_driver (ours f en) d s ++ tape_levels_of our_driver (ours f en) d (k - 1) (turn_of our_driver (ours f en) d s)
  unfolding tape_levels_of
  rest_levels zero s h = absurd (omega arith)
  rest_levels (suc k) s h =
      let e : k ≡ suc k - 1 = omega arith in
      ap (λ (i : ℕ). turn_levels our_driver (ours f en) d s ++ tape_levels_of our_driver (ours f en) d i (turn_of our_driver (ours f en) d s)) e

  -- one turn: what the code found in it, and stored of it
  module _ (s t : System) (ended sends : Bool) (code : ℕ) (at at' : ℕ) (l l' v v' : List ℕ)
      (ht : t ≡ turn_of our_driver (ours f en) d s)
      (found : (ended ≡ end_due_of d s) × (sends ≡ sends_of (driver_next_of s.driver s.level s.buffer).answer) × (code ≡ sent_code_of (driver_next_of s.driver s.level s.buffer).answer))
      (ha : at' ≡ at + length (tape_by ended sends 4 code))
      (hl : l' ≡ sets l at (tape_by ended sends 4 code))
      (hv : v' ≡ sets v at (tape_by ended sends 2 t.level)) where
    turn_tape : (tape_by ended sends 4 code ≡ turn_events our_driver d s) × (tape_by ended sends 2 t.level ≡ turn_levels our_driver (ours f en) d s)
    unfolding turn_events turn_levels
    turn_tape = (rw (found.0, found.1, found.2) refl, rw (found.0, found.1, ht) refl)

    pub two : at' ≤ at + 2
    two = omega (arith, two_most ended sends 4 code)

    pub left_on : (k n : ℕ) (es ls : List ℕ) → 0 < k → Left f en d k s at l v n es ls → Left f en d (k - 1) t at' l' v' n es ls
    left_on k n es ls h w =
        let e = turn_tape in
        let after : (x : ℕ) → Left f en d (k - 1) (turn_of our_driver (ours f en) d s) at' l' v' n es ls = λ x.
        record {
          count = omega (arith, w.count, ap length (rest_events k s h), length-append (turn_events our_driver d s) (tape_events_of our_driver (ours f en) d (k - 1) (turn_of our_driver (ours f en) d s)), ap length e.0);
          events = on (turn_events our_driver d s) (tape_events_of our_driver (ours f en) d (k - 1) (turn_of our_driver (ours f en) d s)) l l' es (ap (sets l at) (sym (rest_events k s h)) ∙ w.events) (hl ∙ ap (sets l at) e.0) (omega (arith, ap length e.0));
          levels = on (turn_levels our_driver (ours f en) d s) (tape_levels_of our_driver (ours f en) d (k - 1) (turn_of our_driver (ours f en) d s)) v v' ls (ap (sets v at) (sym (rest_levels k s h)) ∙ w.levels) (hv ∙ ap (sets v at) e.1) (omega (arith, ap length e.1, same_count ended sends 4 code 2 t.level));
        }
        in
        subst (λ (z : System). Left f en d (k - 1) z at' l' v' n es ls) (sym ht) (after 0)
      where
        on : (xs ys a a' w : List ℕ) → sets a at (xs ++ ys) ≡ w → a' ≡ sets a at xs → at' ≡ at + length xs → sets a' at' ys ≡ w
        on xs ys a a' w p q r = ap (λ (z : List ℕ). sets z at' ys) q ∙ ap (λ (i : ℕ). sets (sets a at xs) i ys) r ∙ sym (sets_append xs a ys at) ∙ p

    -- neither an end nor an event: nothing comes any more
    none_now : cond ended true sends ≡ false → (turn_events our_driver d s ≡ []) × (turn_levels our_driver (ours f en) d s ≡ [])
    none_now h =
        let w = neither ended sends h in
        let e = turn_tape in
        (sym e.0 ∙ empty ended sends 4 code w.0 w.1, sym e.1 ∙ empty ended sends 2 t.level w.0 w.1)
      where
        empty : (a b : Bool) (x y : ℕ) → a ≡ false → b ≡ false → tape_by a b x y ≡ []
        empty a b x y p q = rw (p, q) refl

    pub not_going : cond ended true sends ≡ false → going_of d s ≡ false
    unfolding going_of
    not_going h = rw (found.0, found.1) at h

    stays : cond ended true sends ≡ false → turn_of our_driver (ours f en) d s ≡ s
    stays h = still f en d s (not_going h)

    none_ever : cond ended true sends ≡ false → (k : ℕ) → (tape_events_of our_driver (ours f en) d k s ≡ []) × (tape_levels_of our_driver (ours f en) d k s ≡ [])
    unfolding tape_events_of tape_levels_of
    none_ever h zero = (refl, refl)
    none_ever h (suc k) =
        let e = none_now h in
        let i = none_ever h k in
        (rw (e.0, stays h) i.0, rw (e.1, stays h) i.1)

    pub left_still : (k n : ℕ) (es ls : List ℕ) → 0 < k → cond ended true sends ≡ false → Left f en d k s at l v n es ls → (at' ≡ n) × ((l' ≡ es) × (v' ≡ ls))
    left_still k n es ls p h w =
        let z = left_on k n es ls p w in
        let i : (tape_events_of our_driver (ours f en) d (k - 1) t ≡ []) × (tape_levels_of our_driver (ours f en) d (k - 1) t ≡ []) = rw (ht, stays h) (none_ever h (k - 1)) in (
          let c = z.count in
              omega (arith, ap length i.0),
          (ap (sets l' at') (sym i.0) ∙ z.events, ap (sets v' at') (sym i.1) ∙ z.levels),
        )

-- ---- from the driver's first step

pub laid_none : (l : List ℕ) → l ≡ laid_of l []
unfolding laid_of
laid_none l = ap (λ (k : List ℕ). k ++ l) (sym (take-nil (length l)))

module _ (f : Facts) (en d k : ℕ) (r : Request) (c : Chip) (m : Mem) (b : List ℕ) (g : Begun) (o : Most) (hg : g ≡ begin_of r) where
  abbrev begun : System
  begun = whole record { driver = g.driver; level = 1; chip = c; cycles = 0; clocks = 0; worst = o } b m

  pub taped : (n : ℕ) (l l' v v' q q' : List ℕ) → n ≡ length (tape_events_of our_driver (ours f en) d k begun) → l' ≡ laid_of l (tape_events_of our_driver (ours f en) d k begun) → v' ≡ laid_of v (tape_levels_of our_driver (ours f en) d k begun) → q' ≡ worn_by our_counter (ours f en) f c q (tape_events_of our_driver (ours f en) d k begun)
      → (n ≡ length (tape_events_of our_driver (ours f en) d k (start_of r b c m))) × ((l' ≡ laid_of l (tape_events_of our_driver (ours f en) d k (start_of r b c m))) × ((v' ≡ laid_of v (tape_levels_of our_driver (ours f en) d k (start_of r b c m))) × (q' ≡ worn_by our_counter (ours f en) f c q (tape_events_of our_driver (ours f en) d k (start_of r b c m)))))
  taped n l l' v v' q q' hn hl hv hq =
      let e : begun ≡ start_of r b c m = rw hg refl in
      let es = ap (λ (s : System). tape_events_of our_driver (ours f en) d k s) e in
      (hn ∙ ap length es, (hl ∙ ap (laid_of l) es, (hv ∙ ap (λ (s : System). laid_of v (tape_levels_of our_driver (ours f en) d k s)) e, hq ∙ ap (worn_by our_counter (ours f en) f c q) es)))
