-- Runs over captures put together: ends, marks, memory.
-- Assumes nothing.
use Prim.Native.Nat.{ℕ, zero, suc, ◌+◌, ◌<◌}
use mathlib.Core.Path.{◌≡◌, ◌∙◌, refl, sym, ap}
use mathlib.Core.Bool.{Bool, true, false, cond, ◌&&◌}
use mathlib.Core.List.{List, [], ◌∷◌, ◌++◌}
use native.Mathlib.Nat.{add-zero, zero-add, add_assoc}
use native.Mathlib.Omega.{arith}
use lib.ListN.{get_or}
use lib.Dec.{eqb, ltb}
use borrow.Author.Tests.{lt-ltb, le-ltb, eqb-true}
use Rattle.parts.specs.Bytes.{AllBelow}
use Rattle.parts.specs.Events.{event_of, event_right_of}
use Rattle.parts.specs.declared.Facts.{Facts}
use Rattle.parts.proofs.Laws.{branch}
use Rattle.parts.proofs.Tests.{either}
use Rattle.state.specs.declared.Chip.{Chip}
use Rattle.chip.specs.Model.{Model, ours}
use Rattle.chip.specs.Memory.{Mem, state_of, store_of}
use Rattle.chip.specs.Runs.{after_of, memory_of}
use Rattle.chip_laws.specs.Range.{AllTaken}
use Rattle.chip_laws.proofs.Runs.{SameLengths, store_lengths}
use Rattle.capture.specs.declared.Mark.{Mark}
use Rattle.capture.specs.declared.Mark.TheVariants.{Same, At}
use Rattle.capture.specs.Ends.{acked_of, busy_in, end_due_of, with_ends_of, ends_in}
use Rattle.capture.specs.Marks.{place_of, clock_of, clocks_in, differs_of, mark_from, sooner_mark}
use Rattle.capture_promises.specs.Running.{stripped_of, place_after}
use Rattle.capture_promises.proofs.Ends.{with_due, with_not}
use Rattle.capture_promises.proofs.Marks.{differs_is}

-- ---- ends: what comes behind a Stop does not tell where they stand before it

acked_cut : (k : ℕ) (fs gs hs : List ℕ) → acked_of k (fs ++ 3 ∷ gs) ≡ acked_of k (fs ++ 3 ∷ hs)
acked_cut zero fs gs hs = refl
acked_cut (suc k) [] gs hs = refl
acked_cut (suc k) (f ∷ fs) gs hs = ap (λ (b : Bool). cond (eqb k 0) (eqb f 0) (cond (ltb f 2) b false)) (acked_cut k fs gs hs)

due_cut : (c : Chip) (f : ℕ) (fs gs hs : List ℕ) → end_due_of c f (fs ++ 3 ∷ gs) ≡ end_due_of c f (fs ++ 3 ∷ hs)
unfolding end_due_of
due_cut c f fs gs hs = ap (λ (b : Bool). eqb f 2 && (busy_in c.line.phase && b)) (acked_cut 9 fs gs hs)

pub ends_cut : (M : Model) (c : Chip) (fs gs : List ℕ)
    → with_ends_of M c (fs ++ 3 ∷ gs) ≡ with_ends_of M c (fs ++ 3 ∷ []) ++ with_ends_of M (after_of M c (with_ends_of M c (fs ++ 3 ∷ []))) gs
unfolding with_ends_of after_of end_due_of
ends_cut M c [] gs = refl
ends_cut M c (f ∷ fs) gs = go (λ (d : Chip). ends_cut M d fs gs)
  where
    go : ((d : Chip) → with_ends_of M d (fs ++ 3 ∷ gs) ≡ with_ends_of M d (fs ++ 3 ∷ []) ++ with_ends_of M (after_of M d (with_ends_of M d (fs ++ 3 ∷ []))) gs)
        → with_ends_of M c (f ∷ fs ++ 3 ∷ gs) ≡ with_ends_of M c (f ∷ fs ++ 3 ∷ []) ++ with_ends_of M (after_of M c (with_ends_of M c (f ∷ fs ++ 3 ∷ []))) gs
    go r =
        either (end_due_of c f (fs ++ 3 ∷ []))
        (λ h.
        let d = M.next (M.next c 4) f in
        with_due M c f (fs ++ 3 ∷ gs) (due_cut c f fs gs [] ∙ h)
        ∙ ap (λ (l : List ℕ). 4 ∷ f ∷ l) (r d)
        ∙ ap (λ (l : List ℕ). l ++ with_ends_of M (after_of M c l) gs) (sym (with_due M c f (fs ++ 3 ∷ []) h)))
        (λ h.
        with_not M c f (fs ++ 3 ∷ gs) (due_cut c f fs gs [] ∙ h)
        ∙ ap (λ (l : List ℕ). f ∷ l) (r (M.next c f))
        ∙ ap (λ (l : List ℕ). l ++ with_ends_of M (after_of M c l) gs) (sym (with_not M c f (fs ++ 3 ∷ []) h)))

pub ends_append : (xs ys : List ℕ) → ends_in (xs ++ ys) ≡ ends_in xs + ends_in ys
ends_append [] ys = omega arith
ends_append (x ∷ xs) ys = omega (arith, ends_append xs ys)

-- an end moves no place in a byte
pub place_stripped : (place : ℕ) (xs : List ℕ) → place_after place (stripped_of xs) ≡ place_after place xs
unfolding place_of
place_stripped place [] = refl
place_stripped place (x ∷ xs) =
    either (eqb x 4)
    (λ h. let z : x ≡ 4 = eqb-true x 4 h in rw z (place_stripped place xs))
    (λ h. rw h (place_stripped (place_of place x) xs))

-- ---- marks

pub mark_append : (M : Model) (c : Chip) (m : Mem) (place n : ℕ) (rises xs ys : List ℕ)
    → mark_from M c m place n rises (xs ++ ys)
    ≡ sooner_mark (mark_from M c m place n rises xs) (mark_from M (after_of M c xs) (memory_of M c m xs) (place_after place xs) (n + clocks_in xs) rises ys)
unfolding mark_from after_of memory_of
mark_append M c m place n rises [] ys = ap (λ (k : ℕ). mark_from M c m place k rises ys) (sym (add-zero n))
mark_append M c m place n rises (x ∷ xs) ys =
    go (differs_of M c m place x) (mark_append M (M.next c x) (M.store c m x) (place_of place x) (n + clock_of x) rises xs ys)
  where
    d : Chip
    d = M.next c x

    s : Mem
    s = M.store c m x

    rest : ℕ → Mark
    rest k = mark_from M (after_of M d xs) (memory_of M d s xs) (place_after (place_of place x) xs) k rises ys

    go : (b : Bool)
        → mark_from M d s (place_of place x) (n + clock_of x) rises (xs ++ ys) ≡ sooner_mark (mark_from M d s (place_of place x) (n + clock_of x) rises xs) (rest (n + clock_of x + clocks_in xs))
        → cond b (At (get_or rises n 0) n x) (mark_from M d s (place_of place x) (n + clock_of x) rises (xs ++ ys))
        ≡ sooner_mark (cond b (At (get_or rises n 0) n x) (mark_from M d s (place_of place x) (n + clock_of x) rises xs)) (rest (n + (clock_of x + clocks_in xs)))
    go true r = refl
    go false r = r ∙ ap (λ (k : ℕ). sooner_mark (mark_from M d s (place_of place x) (n + clock_of x) rises xs) (rest k)) (add_assoc n (clock_of x) (clocks_in xs))

-- the same clocks, with other samples and numbers
abbrev pub moved_by : (ℕ → ℕ) → ℕ → Mark → Mark
moved_by g d Same = Same
moved_by g d (At s n v) = At (g s) (d + n) v

pub mark_moved : (M : Model) (c : Chip) (m : Mem) (place n k d : ℕ) (R S : List ℕ) (g : ℕ → ℕ) (xs : List ℕ) → n ≡ d + k
    → ((i : ℕ) → i < clocks_in xs → get_or R (n + i) 0 ≡ g (get_or S (k + i) 0))
    → mark_from M c m place n R xs ≡ moved_by g d (mark_from M c m place k S xs)
unfolding mark_from
mark_moved M c m place n k d R S g [] e h = refl
mark_moved M c m place n k d R S g (x ∷ xs) e h =
    go (differs_of M c m place x) refl
    (mark_moved M (M.next c x) (M.store c m x) (place_of place x) (n + clock_of x) (k + clock_of x) d R S g xs (omega arith) (λ i l. later i (h (clock_of x + i) (omega arith))))
  where
    later : (i : ℕ) → get_or R (n + (clock_of x + i)) 0 ≡ g (get_or S (k + (clock_of x + i)) 0) → get_or R (n + clock_of x + i) 0 ≡ g (get_or S (k + clock_of x + i) 0)
    later i q = ap (λ (j : ℕ). get_or R j 0) (add_assoc n (clock_of x) i) ∙ q ∙ ap (λ (j : ℕ). g (get_or S j 0)) (sym (add_assoc k (clock_of x) i))

    here : x < 2 → get_or R n 0 ≡ g (get_or S k 0)
    here l =
        let b : ltb x 2 ≡ true = lt-ltb x 2 l in
        let some : 0 < clocks_in (x ∷ xs) = rw b (omega arith) in
        ap (λ (j : ℕ). get_or R j 0) (sym (add-zero n)) ∙ h 0 some ∙ ap (λ (j : ℕ). g (get_or S j 0)) (add-zero k)

    A : Mark
    A = mark_from M (M.next c x) (M.store c m x) (place_of place x) (n + clock_of x) R xs

    B : Mark
    B = mark_from M (M.next c x) (M.store c m x) (place_of place x) (k + clock_of x) S xs

    go : (b : Bool) → differs_of M c m place x ≡ b → A ≡ moved_by g d B → cond b (At (get_or R n 0) n x) A ≡ moved_by g d (cond b (At (get_or S k 0) k x) B)
    go true f r = let z = here (differs_is M c m place x f).0 in cc
    go false f r = r

pub moved_same : (k : Mark) → moved_by (λ (s : ℕ). s) 0 k ≡ k
moved_same Same = refl
moved_same (At s n v) = ap (λ (j : ℕ). At s j v) (zero-add n)

-- ---- the second piece can be run too

pub memory_lengths : (f : Facts) (en : ℕ) (c : Chip) (m : Mem) (xs : List ℕ) → SameLengths m (memory_of (ours f en) c m xs)
unfolding memory_of
memory_lengths f en c m [] = (refl, refl)
memory_lengths f en c m (x ∷ xs) =
    let s = store_lengths [] f c m (event_of x) in
    let r = memory_lengths f en (state_of f en c (event_of x)) (store_of f c m (event_of x)) xs in
    (r.0 ∙ s.0, r.1 ∙ s.1)

-- clocks, Starts, Stops and ends are no pin events
taken_code : (pin : Bool) (e : ℕ) → e < 5 → event_right_of pin e ≡ true
unfolding event_right_of
taken_code pin e l = rw (le-ltb 8 e (omega arith), lt-ltb e 5 l) (go pin)
  where
    go : (b : Bool) → cond b true true ≡ true
    go true = refl
    go false = refl

pub all_taken : (f : Facts) (xs : List ℕ) → AllBelow 5 xs → AllTaken f xs
all_taken f [] h = tt
all_taken f (x ∷ xs) h = (taken_code f.pin x h.0, all_taken f xs h.1)

pub with_below : (M : Model) (c : Chip) (es : List ℕ) → AllBelow 4 es → AllBelow 5 (with_ends_of M c es)
unfolding with_ends_of
with_below M c [] h = tt
with_below M c (e ∷ es) h =
    branch (AllBelow 5) (end_due_of c e es)
    (λ _. (omega arith, (omega (arith, h.0), with_below M (M.next (M.next c 4) e) es h.1)))
    (λ _. (omega (arith, h.0), with_below M (M.next c e) es h.1))
