-- A run that goes from one end of a cycle to the next, and is marked there: what it has come to is the run of the events so far.
-- Assumes nothing.
use Prim.Native.Nat.{ℕ, zero, suc, ◌+◌, ◌-◌, ◌/◌, ◌≤◌, ◌<◌}
use mathlib.Core.Path.{◌≡◌, ◌∙◌, refl, sym, ap, subst⁻¹}
use mathlib.Core.Bool.{Bool, true, false, cond, false≢true}
use mathlib.Core.List.{List, [], ◌∷◌, ◌++◌, append_assoc, append-nil}
use native.Mathlib.Omega.{arith}
use lib.Dec.{eqb}
use borrow.Author.Tests.{eqb-true, le-ltb}
use borrow.Author.Rules.{part_to_end}
use lib.ListN.{length, get_or, take, drop, length-append, length-drop, drop_of_length-le}
use lib.Seq.{drop-cons, drop-drop, take-add, take_all, take-append_seam, drop-append_seam, length-take-le}
use Rattle.parts.specs.declared.Facts.{Facts}
use Rattle.parts.specs.declared.Event.{Event}
use Rattle.parts.specs.Events.{event_with}
use Rattle.parts.proofs.Laws.{branch}
use Rattle.state.specs.declared.Chip.{Chip}
use Rattle.line.specs.declared.Target.TheVariants.{Array, Ident}
use Rattle.line.specs.declared.Cycle.TheVariants.{Writing, Locking}
use Rattle.line.specs.declared.Phase.{Phase}
use Rattle.line.specs.declared.Phase.TheVariants.{Idle, Receive, Send, Busy}
use Rattle.chip.specs.Memory.{Mem, counter_page_of, touched_of}
use Rattle.chip.specs.Model.{Model, PowerCut, ours_with}
use Rattle.chip.specs.Runs.{after_of, memory_of, levels_of, cycles_of, closes_of, before_close_of, stretch_of, up_to_of}
use Rattle.chip.specs.Calls.{reach_of}
use Rattle.chip.proofs.Laws.{levels_length}
use Rattle.chip.proofs.Turns.{begun_most}
use Rattle.chip_laws.proofs.Bytes.{runs_join}
use Rattle.wear.specs.Wear.{Counter, bumped_of, bumped_from, page_worn_of, target_worn_of, cycle_worn_of, closed_in, closed_of, worn_of, our_counter, worn_by}
use Rattle.wear.proofs.Grown.{Grew, grew_same, grew_on}
use Rattle.wear.proofs.Laws.{grew_bump}

-- ---- counting along a list

pub worn_join : (W : Counter) (M : Model) (f : Facts) (c : Chip) (counts xs ys : List ℕ)
    → worn_by W M f c counts (xs ++ ys) ≡ worn_by W M f (after_of M c xs) (worn_by W M f c counts xs) ys
unfolding worn_by after_of
worn_join W M f c counts [] ys = refl
worn_join W M f c counts (x ∷ xs) ys = worn_join W M f (M.next c x) (W f c counts x) xs ys

-- an event that closes no cycle counts for nothing
open_codes : (e : ℕ) → closes_of e ≡ false → (eqb e 4 ≡ false) × (eqb e 8 ≡ false)
unfolding closes_of
open_codes e h = go (eqb e 4) h
  where
    go : (b : Bool) → cond b true (eqb e 8) ≡ false → (b ≡ false) × (eqb e 8 ≡ false)
    go true k = absurd (false≢true (sym k))
    go false k = (refl, k)

pub worn_open : (f : Facts) (c : Chip) (counts : List ℕ) (e : ℕ) → closes_of e ≡ false → our_counter f c counts e ≡ counts
unfolding worn_of event_with
worn_open f c counts e h =
    let Q : Event → Type 0 = λ z. worn_of f c counts z ≡ counts in
    let o = open_codes e h in
    branch Q (eqb e 0) (λ _. refl) (λ _. branch Q (eqb e 1) (λ _. refl) (λ _. branch Q (eqb e 2) (λ _. refl) (λ _. branch Q (eqb e 3) (λ _. refl)
    (λ _. branch Q (eqb e 4) (λ k. absurd (false≢true (sym o.0 ∙ k)))
    (λ _. branch Q (eqb e 5) (λ _. refl) (λ _. branch Q (eqb e 6) (λ _. refl) (λ _. branch Q (eqb e 7) (λ _. refl)
    (λ _. branch Q (eqb e 8) (λ k. absurd (false≢true (sym o.1 ∙ k))) (λ _. refl)))))))))

pub worn_close : (f : Facts) (c : Chip) (counts : List ℕ) (e : ℕ) → closes_of e ≡ true → our_counter f c counts e ≡ closed_of f c counts
unfolding worn_of event_with closes_of
worn_close f c counts e h = go (eqb e 4) refl h
  where
    go : (b : Bool) → eqb e 4 ≡ b → cond b true (eqb e 8) ≡ true → our_counter f c counts e ≡ closed_of f c counts
    go true k _ = rw (eqb-true e 4 k) refl
    go false k l = rw (eqb-true e 8 l) refl

-- no count falls

grew_from : (g : ℕ) (k counts : List ℕ) (at j n : ℕ) → Grew counts (bumped_from g k counts at j n)
grew_from g k counts at j zero = grew_same counts
grew_from g k counts at j (suc n) =
    grew_on counts (bumped_of counts at (touched_of g k j)) _ (grew_bump counts at (touched_of g k j) _ refl) (grew_from g k (bumped_of counts at (touched_of g k j)) (suc at) (suc j) n)

grew_closed : (f : Facts) (c : Chip) (counts : List ℕ) (p : Phase) → Grew counts (closed_in f c counts p)
unfolding closed_in cycle_worn_of target_worn_of page_worn_of
grew_closed f c counts Idle = grew_same counts
grew_closed f c counts (Receive r) = grew_same counts
grew_closed f c counts (Send t) = grew_same counts
grew_closed f c counts (Busy (Writing Array)) = grew_from f.group c.latch counts (counter_page_of f c.line.core.counter / f.group) 0 (f.page / f.group)
grew_closed f c counts (Busy (Writing Ident)) = grew_same counts
grew_closed f c counts (Busy Locking) = grew_same counts

pub grew_counter : (f : Facts) (c : Chip) (counts : List ℕ) (e : ℕ) (after : List ℕ) → after ≡ our_counter f c counts e → Grew counts after
grew_counter f c counts e after h = subst⁻¹ (Grew counts) h (go (closes_of e) refl)
  where
    go : (b : Bool) → closes_of e ≡ b → Grew counts (our_counter f c counts e)
    go true k = subst⁻¹ (Grew counts) (worn_close f c counts e k) (grew_closed f c counts c.line.phase)
    go false k = subst⁻¹ (Grew counts) (worn_open f c counts e k) (grew_same counts)

pub grew_worn : (M : Model) (f : Facts) (c : Chip) (counts es : List ℕ) → Grew counts (worn_by our_counter M f c counts es)
unfolding worn_by
grew_worn M f c counts [] = grew_same counts
grew_worn M f c counts (e ∷ es) = grew_on counts (our_counter f c counts e) _ (grew_counter f c counts e _ refl) (grew_worn M f (M.next c e) (our_counter f c counts e) es)

worn_before : (M : Model) (f : Facts) (c : Chip) (counts es : List ℕ) → worn_by our_counter M f c counts (before_close_of es) ≡ counts
unfolding worn_by
worn_before M f c counts [] = refl
worn_before M f c counts (e ∷ es) = go (closes_of e) refl (worn_before M f (M.next c e) counts es)
  where
    go : (b : Bool) → closes_of e ≡ b → worn_by our_counter M f (M.next c e) counts (before_close_of es) ≡ counts → worn_by our_counter M f c counts (cond b [] (e ∷ before_close_of es)) ≡ counts
    go true h r = refl
    go false h r = ap (λ (k : List ℕ). worn_by our_counter M f (M.next c e) k (before_close_of es)) (worn_open f c counts e h) ∙ r

-- ---- the events up to the next end or cut

before_front : (es : List ℕ) → before_close_of es ++ drop (length (before_close_of es)) es ≡ es
before_front [] = refl
before_front (e ∷ es) =
    branch (λ (z : List ℕ). z ++ drop (length z) (e ∷ es) ≡ e ∷ es) (closes_of e) (λ _. refl) (λ _. ap (λ (z : List ℕ). e ∷ z) (before_front es))

stretch_front : (es : List ℕ) → stretch_of es ++ drop (length (stretch_of es)) es ≡ es
stretch_front [] = refl
stretch_front (e ∷ es) = ap (λ (z : List ℕ). e ∷ z) (before_front es)

pub stretch_more : (es : List ℕ) (i : ℕ) → i < length es → 0 < length (stretch_of (drop i es))
stretch_more es i h = rw (drop-cons es i 0 h) (omega arith)

pub stretch_fits : (es : List ℕ) (i : ℕ) → i ≤ length es → i + length (stretch_of (drop i es)) ≤ length es
stretch_fits es i h =
    let s = stretch_of (drop i es) in
    omega (arith, ap length (stretch_front (drop i es)), length-append s (drop (length s) (drop i es)), length-drop i es)

-- nothing hinders a pass over the rest of a list that a run takes
pub reach_rest : (es a : List ℕ) (i : ℕ) → length es ≤ 32768 → length es ≤ length a → reach_of (drop i es) (length (drop i a)) ≡ stretch_of (drop i es)
unfolding up_to_of
reach_rest es a i h k =
    rw (le-ltb 32768 (length (drop i es)) (omega (arith, length-drop i es)), le-ltb (length (drop i a)) (length (drop i es)) (omega (arith, length-drop i es, length-drop i a))) refl

cycles_most : (w : PowerCut) (f : Facts) (en : ℕ) (c : Chip) (es : List ℕ) → cycles_of (ours_with w f en) c es ≤ length es
unfolding cycles_of
cycles_most w f en c [] = omega arith
cycles_most w f en c (e ∷ es) = omega (arith, begun_most c.line (event_with w.loss e), cycles_most w f en ((ours_with w f en).next c e) es)

pub cycles_within : (w : PowerCut) (f : Facts) (en : ℕ) (c : Chip) (us : List ℕ) (y x : ℕ) → y ≡ cycles_of (ours_with w f en) c us → x ≡ length us → y ≤ x
cycles_within w f en c us y x hy hx = omega (arith, hy, hx, cycles_most w f en c us)

-- ---- what a run has come to at its i-th event

module _ (M : Model) (f : Facts) (es : List ℕ) (c₀ : Chip) (m₀ : Mem) (k₀ a₀ : List ℕ) where
  pub record Come (c : Chip) (m : Mem) (k a : List ℕ) (n i : ℕ) : Type 0 where
    pub state : c ≡ after_of M c₀ (take i es)
    pub stored : m ≡ memory_of M c₀ m₀ (take i es)
    pub count : n ≡ cycles_of M c₀ (take i es)
    pub levels : a ≡ levels_of M c₀ m₀ (take i es) ++ drop i a₀
    pub worn : k ≡ worn_by our_counter M f c₀ k₀ (take i es)

  pub come_first : Come c₀ m₀ k₀ a₀ 0 0
  unfolding after_of memory_of levels_of cycles_of worn_by
  come_first = record { state = refl; stored = refl; count = refl; levels = refl; worn = refl }

  module _ (c : Chip) (m : Mem) (k a : List ℕ) (n i : ℕ) (g : Come c m k a n i) (h : i < length es) where
    abbrev us : List ℕ
    us = stretch_of (drop i es)

    so_far : take (i + length us) es ≡ take i es ++ us
    so_far =
        take-add i (length us) es
        ∙ ap (λ (z : List ℕ). take i es ++ z) (ap (take (length us)) (sym (stretch_front (drop i es))) ∙ take-append_seam us (drop (length us) (drop i es)))

    -- the levels so far are as many as the events
    front : length (levels_of M c₀ m₀ (take i es)) ≡ i
    front = levels_length M c₀ m₀ (take i es) ∙ length-take-le i es (omega arith)

    levels_are : take i a ++ (levels_of M c m us ++ drop (length us) (drop i a)) ≡ levels_of M c₀ m₀ (take i es ++ us) ++ drop (i + length us) a₀
    levels_are =
        let L = levels_of M c₀ m₀ (take i es) in
        let t : take i a ≡ L = ap (λ (z : List ℕ). take i z) g.levels ∙ ap (λ (z : ℕ). take z (L ++ drop i a₀)) (sym front) ∙ take-append_seam L (drop i a₀) in
        let d : drop i a ≡ drop i a₀ = ap (λ (z : List ℕ). drop i z) g.levels ∙ ap (λ (z : ℕ). drop z (L ++ drop i a₀)) (sym front) ∙ drop-append_seam L (drop i a₀) in
        let j : levels_of M c₀ m₀ (take i es ++ us) ≡ L ++ levels_of M c m us = (runs_join M c₀ m₀ (take i es) us).2 ∙ rw (← g.state, ← g.stored) refl in
        rw (t, d, drop-drop (length us) i a₀, j) (sym (append_assoc L (levels_of M c m us) (drop (i + length us) a₀)))

    worn_on : our_counter f c k (get_or es i 0) ≡ worn_by our_counter M f c k us
    unfolding worn_by
    worn_on = rw (drop-cons es i 0 h) (sym (worn_before M f (M.next c (get_or es i 0)) (our_counter f c k (get_or es i 0)) (drop (suc i) es)))

    pub come_on : (c' : Chip) (m' : Mem) (k' a' : List ℕ) (y x : ℕ) → c' ≡ after_of M c us → m' ≡ memory_of M c m us → y ≡ cycles_of M c us → x ≡ length us
        → k' ≡ our_counter f c k (get_or es i 0) → a' ≡ take i a ++ (levels_of M c m us ++ drop (length us) (drop i a))
        → Come c' m' k' a' (n + y) (i + x)
    come_on c' m' k' a' y x hc hm hy hx hk ha =
        let t : take (i + x) es ≡ take i es ++ us = ap (λ (z : ℕ). take (i + z) es) hx ∙ so_far in
        let r = runs_join M c₀ m₀ (take i es) us in
        record {
          state = rw t (hc ∙ ap (λ (z : Chip). after_of M z us) g.state ∙ sym r.0);
          stored = rw t (hm ∙ rw (← g.state, ← g.stored) refl ∙ sym r.1);
          count = rw t (omega (arith, hy, g.count, r.3, ap (λ (z : Chip). cycles_of M z us) g.state));
          levels = rw t (ha ∙ levels_are ∙ ap (λ (z : ℕ). levels_of M c₀ m₀ (take i es ++ us) ++ drop (i + z) a₀) (sym hx));
          worn = rw t (hk ∙ worn_on ∙ rw (← g.state, ← g.worn) refl ∙ sym (worn_join our_counter M f c₀ k₀ (take i es) us));
        }

    -- the same, as a call on the rest of the two slices says it
    pub come_part : length es ≤ 32768 → length es ≤ length a → (c' : Chip) (m' : Mem) (k' v : List ℕ) (y x : ℕ)
        → let U = reach_of (take (length es - i) (drop i es)) (length (take (length a - i) (drop i a))) in
        c' ≡ after_of M c U → m' ≡ memory_of M c m U → y ≡ cycles_of M c U → x ≡ length U
        → k' ≡ our_counter f c k (get_or es i 0) → v ≡ levels_of M c m U ++ drop (length U) (take (length a - i) (drop i a))
        → Come c' m' k' (take i a ++ (v ++ drop (length a - i) (drop i a))) (n + y) (i + x)
    come_part few room c' m' k' v y x hc hm hy hx hk hv =
        let U = reach_of (take (length es - i) (drop i es)) (length (take (length a - i) (drop i a))) in
        let same : U ≡ us = rw (part_to_end es i, part_to_end a i) (reach_rest es a i few room) in
        let none : drop (length a - i) (drop i a) ≡ [] = (let short : length (drop i a) ≤ length a - i = omega (arith, length-drop i a) in drop_of_length-le (drop i a) short) in
        let all : take i a ++ (v ++ drop (length a - i) (drop i a)) ≡ take i a ++ (levels_of M c m us ++ drop (length us) (drop i a)) =
        rw none (ap (λ (z : List ℕ). take i a ++ z) (append-nil v ∙ hv ∙ rw (same, part_to_end a i) refl)) in
        come_on c' m' k' _ y x (hc ∙ ap (after_of M c) same) (hm ∙ ap (memory_of M c m) same) (hy ∙ ap (cycles_of M c) same) (hx ∙ ap length same) hk all

  pub come_end : (c : Chip) (m : Mem) (k a : List ℕ) (n i : ℕ) → length es ≤ i → i ≤ length es → Come c m k a n i
      → (c ≡ after_of M c₀ es) × ((n ≡ cycles_of M c₀ es) × ((m ≡ memory_of M c₀ m₀ es) × ((a ≡ levels_of M c₀ m₀ es ++ drop (length es) a₀) × (k ≡ worn_by our_counter M f c₀ k₀ es))))
  come_end c m k a n i h j g =
      let t = take_all i es h in
      let e : i ≡ length es = omega arith in
      (g.state ∙ rw t refl, (g.count ∙ rw t refl, (g.stored ∙ rw t refl, (g.levels ∙ rw (t, e) refl, g.worn ∙ rw t refl))))

-- what a pass answers stays within the list, and comes further
module _ (es a : List ℕ) (i x : ℕ) (few : length es ≤ 32768) (room : length es ≤ length a) (h : i < length es)
    (hx : x ≡ length (reach_of (take (length es - i) (drop i es)) (length (take (length a - i) (drop i a))))) where
  pub come_within : (0 < x) × (i + x ≤ length es)
  come_within =
      let all : reach_of (take (length es - i) (drop i es)) (length (take (length a - i) (drop i a))) ≡ stretch_of (drop i es) =
      rw (part_to_end es i, part_to_end a i) (reach_rest es a i few room) in
      let same : x ≡ length (stretch_of (drop i es)) = hx ∙ ap length all in
      (omega (arith, same, stretch_more es i h), omega (arith, same, stretch_fits es i (omega arith)))
