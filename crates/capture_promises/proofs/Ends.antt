-- The ends put into a capture's events: they stand where they are to stand, and there is one way to put them in.
-- Assumes nothing.
use Prim.Native.Nat.{ℕ, zero, suc, ◌<◌}
use mathlib.Core.Path.{◌≡◌, ◌∙◌, refl, sym, ap}
use mathlib.Core.Bool.{Bool, true, false, cond, ◌&&◌}
use mathlib.Core.List.{List, [], ◌∷◌}
use native.Mathlib.Decide.{ℕ_discrete}
use native.Mathlib.Omega.{arith}
use lib.Dec.{eqb, ltb}
use borrow.Author.Tests.{eq-eqb, ne_eqb, eqb-true, ltb-true}
use Rattle.parts.specs.declared.Facts.{Facts}
use Rattle.parts.specs.Bytes.{AllBelow}
use Rattle.parts.specs.Events.{event_with}
use Rattle.parts.proofs.Tests.{both, and_both, either}
use Rattle.line.specs.declared.Target.TheVariants.{Array, Ident}
use Rattle.line.specs.declared.Cycle.TheVariants.{Writing, Locking}
use Rattle.line.specs.declared.Phase.{Phase}
use Rattle.line.specs.declared.Phase.TheVariants.{Idle, Receive, Send, Busy}
use Rattle.line.specs.declared.Line.{Line}
use Rattle.line.specs.Rules.{ended_by_of, ended_of, next_of}
use Rattle.state.specs.declared.Chip.{Chip}
use Rattle.chip.specs.Model.{Model, ours}
use Rattle.chip.specs.Memory.{state_of}
use Rattle.chip_laws.proofs.Range.{no_way}
use Rattle.capture.specs.Ends.{acked_of, busy_in, end_due_of, with_ends_of}
use Rattle.capture_promises.specs.Running.{stripped_of, StartAcked, EndHere, EndsPlaced, EndsOneWay}

-- ---- without the ends

pub stripped_end : (e : ℕ) (es : List ℕ) → e ≡ 4 → stripped_of (e ∷ es) ≡ stripped_of es
stripped_end e es h = rw (eq-eqb e 4 h) refl

pub stripped_other : (e : ℕ) (es : List ℕ) → (e ≡ 4 → ⊥) → stripped_of (e ∷ es) ≡ e ∷ stripped_of es
stripped_other e es h = rw (ne_eqb e 4 h) refl

-- ---- a byte that is acknowledged

acked_clock : (k e : ℕ) (es : List ℕ) → acked_of (suc k) (e ∷ es) ≡ true → e < 2
acked_clock k e es h = go (eqb k 0) h
  where
    go : (b : Bool) → cond b (eqb e 0) (cond (ltb e 2) (acked_of k es) false) ≡ true → e < 2
    go true g = omega (arith, eqb-true e 0 g)
    go false g = ltb-true e 2 (both (ltb e 2) (acked_of k es) g).0

acked_more : (k e : ℕ) (es fs : List ℕ) → acked_of (suc k) (e ∷ es) ≡ true → (acked_of k es ≡ true → acked_of k fs ≡ true) → acked_of (suc k) (e ∷ fs) ≡ true
acked_more k e es fs h more = go (eqb k 0) h
  where
    go : (b : Bool) → cond b (eqb e 0) (cond (ltb e 2) (acked_of k es) false) ≡ true → cond b (eqb e 0) (cond (ltb e 2) (acked_of k fs) false) ≡ true
    go true g = g
    go false g = let w = both (ltb e 2) (acked_of k es) g in rw w.0 (more w.1)

-- a Start or an end is no clock
acked_not : (k e : ℕ) (es : List ℕ) → (e < 2 → ⊥) → acked_of (suc k) (e ∷ es) ≡ false
acked_not k e es h = either (acked_of (suc k) (e ∷ es)) (λ t. absurd (h (acked_clock k e es t))) (λ f. f)

-- ---- one way

pub no_element {ℓ} : {A : Type ℓ} (e : ℕ) (es : List ℕ) → e ∷ es ≡ [] → A
no_element e es h = let z : ◌≡◌ {A = ℕ} 0 1 = cc in absurd (omega arith)

start_shown : (es : List ℕ) → StartAcked es → (fs : List ℕ) × (es ≡ 2 ∷ fs) × (stripped_of es ≡ 2 ∷ stripped_of fs) × (acked_of 9 fs ≡ true)
start_shown [] h = absurd h
start_shown (e ∷ es) h = (es, ap (λ (x : ℕ). x ∷ es) h.0, stripped_other e es (λ q. omega arith) ∙ ap (λ (x : ℕ). x ∷ stripped_of es) h.0, h.1)

-- the same events without their ends: the same byte is acknowledged
acked_same : (k : ℕ) (M : Model) (c : Chip) (xs ys : List ℕ) → acked_of k xs ≡ true → stripped_of xs ≡ stripped_of ys → EndsPlaced M c ys → acked_of k ys ≡ true
acked_same zero M c xs ys h e p = no_way h
acked_same (suc k) M c [] ys h e p = no_way h
acked_same (suc k) M c (x ∷ xs) [] h e p =
    let l = acked_clock k x xs h in
    no_element x (stripped_of xs) (sym (stripped_other x xs (λ q. omega arith)) ∙ e)
acked_same (suc k) M c (x ∷ xs) (y ∷ ys) h e p = go (ℕ_discrete y 4) (λ g. acked_same k M (M.next c y) xs ys g)
  where
    low : x < 2
    low = acked_clock k x xs h

    front : x ∷ stripped_of xs ≡ stripped_of (y ∷ ys)
    front = sym (stripped_other x xs (λ q. omega (arith, low))) ∙ e

    go : Dec (y ≡ 4) → (acked_of k xs ≡ true → stripped_of xs ≡ stripped_of ys → EndsPlaced M (M.next c y) ys → acked_of k ys ≡ true) → acked_of (suc k) (y ∷ ys) ≡ true
    go (yes d) rest =
        let s = start_shown ys (p.0.before_start d) in
        let q : x ∷ stripped_of xs ≡ 2 ∷ stripped_of s.0 = front ∙ stripped_end y ys d ∙ s.2 in
        let z : x ≡ 2 = cc in
        absurd (omega (arith, low))
    go (no d) rest =
        let q : x ∷ stripped_of xs ≡ y ∷ stripped_of ys = front ∙ stripped_other y ys d in
        let z : x ≡ y = cc in
        let w : stripped_of xs ≡ stripped_of ys = cc in
        acked_more k y xs ys (rw z at h) (λ g. rest g w p.1)

-- the same front, but one list has an end there: the other has an acknowledged Start in a cycle, with no end before it
start_left {ℓ} : {A : Type ℓ} (M : Model) (c : Chip) (x : ℕ) (xs : List ℕ) (y : ℕ) (ys : List ℕ) → EndsPlaced M c (x ∷ xs) → EndsPlaced M c (y ∷ ys)
    → stripped_of (x ∷ xs) ≡ stripped_of (y ∷ ys) → x ≡ 4 → (y ≡ 4 → ⊥) → A
start_left M c x xs y ys p r e d n =
    let s = start_shown xs (p.0.before_start d) in
    let q : 2 ∷ stripped_of s.0 ≡ y ∷ stripped_of ys = sym s.2 ∙ sym (stripped_end x xs d) ∙ e ∙ stripped_other y ys n in
    let z : y ≡ 2 = cc in
    let w : stripped_of s.0 ≡ stripped_of ys = cc in
    let k = acked_same 9 M (M.next c y) s.0 ys s.3 w r.1 in
    no_way (sym (r.0.none_left (z, k)) ∙ p.0.in_cycle d)

pub ends_one_way : EndsOneWay
ends_one_way M c [] [] p r e = refl
ends_one_way M c [] (y ∷ ys) p r e = go (ℕ_discrete y 4)
  where
    go : Dec (y ≡ 4) → [] ≡ y ∷ ys
    go (yes d) = let s = start_shown ys (r.0.before_start d) in no_element 2 (stripped_of s.0) (sym s.2 ∙ sym (stripped_end y ys d) ∙ sym e)
    go (no d) = no_element y (stripped_of ys) (sym (stripped_other y ys d) ∙ sym e)
ends_one_way M c (x ∷ xs) [] p r e = go (ℕ_discrete x 4)
  where
    go : Dec (x ≡ 4) → x ∷ xs ≡ []
    go (yes d) = let s = start_shown xs (p.0.before_start d) in no_element 2 (stripped_of s.0) (sym s.2 ∙ sym (stripped_end x xs d) ∙ e)
    go (no d) = no_element x (stripped_of xs) (sym (stripped_other x xs d) ∙ e)
ends_one_way M c (x ∷ xs) (y ∷ ys) p r e = go (ℕ_discrete x 4) (ℕ_discrete y 4) (λ q. ends_one_way M (M.next c x) xs ys p.1 q)
  where
    go : Dec (x ≡ 4) → Dec (y ≡ 4) → (EndsPlaced M (M.next c x) ys → stripped_of xs ≡ stripped_of ys → xs ≡ ys) → x ∷ xs ≡ y ∷ ys
    go (yes d) (yes b) rest =
        let z : y ≡ x = cc in
        let t = rest (rw z at r.1) (sym (stripped_end x xs d) ∙ e ∙ stripped_end y ys b) in
        cc
    go (yes d) (no n) rest = start_left M c x xs y ys p r e d n
    go (no n) (yes d) rest = start_left M c y ys x xs r p (sym e) d n
    go (no d) (no b) rest =
        let q : x ∷ stripped_of xs ≡ y ∷ stripped_of ys = sym (stripped_other x xs d) ∙ e ∙ stripped_other y ys b in
        let z : y ≡ x = cc in
        let w : stripped_of xs ≡ stripped_of ys = cc in
        let t = rest (rw z at r.1) w in
        cc

-- ---- ours

-- what an end is due for
due_is : (c : Chip) (e : ℕ) (es : List ℕ) → end_due_of c e es ≡ true → (e ≡ 2) × (busy_in c.line.phase ≡ true) × (acked_of 9 es ≡ true)
unfolding end_due_of
due_is c e es h =
    let w = and_both (eqb e 2) (busy_in c.line.phase && acked_of 9 es) h in
    let v = and_both (busy_in c.line.phase) (acked_of 9 es) w.1 in
    (eqb-true e 2 w.0, v.0, v.1)

due_not : (c : Chip) (e : ℕ) (es : List ℕ) → end_due_of c e es ≡ false → e ≡ 2 → acked_of 9 es ≡ true → busy_in c.line.phase ≡ false
unfolding end_due_of
due_not c e es h d a =
    either (busy_in c.line.phase) (λ b. let t : end_due_of c e es ≡ true = rw (eq-eqb e 2 d, b, a) refl in no_way (sym h ∙ t)) (λ b. b)

pub with_due : (M : Model) (c : Chip) (e : ℕ) (es : List ℕ) → end_due_of c e es ≡ true → with_ends_of M c (e ∷ es) ≡ 4 ∷ e ∷ with_ends_of M (M.next (M.next c 4) e) es
unfolding with_ends_of
with_due M c e es h = rw h refl

pub with_not : (M : Model) (c : Chip) (e : ℕ) (es : List ℕ) → end_due_of c e es ≡ false → with_ends_of M c (e ∷ es) ≡ e ∷ with_ends_of M (M.next c e) es
unfolding with_ends_of
with_not M c e es h = rw h refl

-- an end is put before a Start only, so that it hides no byte
acked_with : (k : ℕ) (M : Model) (c : Chip) (es : List ℕ) → acked_of k (with_ends_of M c es) ≡ acked_of k es
unfolding with_ends_of
acked_with zero M c es = refl
acked_with (suc k) M c [] = refl
acked_with (suc k) M c (e ∷ es) = go (acked_with k M (M.next c e) es)
  where
    due : end_due_of c e es ≡ true → acked_of (suc k) (with_ends_of M c (e ∷ es)) ≡ acked_of (suc k) (e ∷ es)
    due h =
        let d = (due_is c e es h).0 in
        ap (acked_of (suc k)) (with_due M c e es h)
        ∙ acked_not k 4 (e ∷ with_ends_of M (M.next (M.next c 4) e) es) (λ l. omega arith)
        ∙ sym (acked_not k e es (λ l. omega arith))

    go : acked_of k (with_ends_of M (M.next c e) es) ≡ acked_of k es → acked_of (suc k) (with_ends_of M c (e ∷ es)) ≡ acked_of (suc k) (e ∷ es)
    go r =
        either (end_due_of c e es) due
        (λ h. ap (acked_of (suc k)) (with_not M c e es h) ∙ ap (λ (b : Bool). cond (eqb k 0) (eqb e 0) (cond (ltb e 2) b false)) r)

pub stripped_with : (M : Model) (c : Chip) (es : List ℕ) → AllBelow 4 es → stripped_of (with_ends_of M c es) ≡ es
unfolding with_ends_of
stripped_with M c [] h = refl
stripped_with M c (e ∷ es) h = go (λ (x : Chip). stripped_with M x es h.1)
  where
    go : ((x : Chip) → stripped_of (with_ends_of M x es) ≡ es) → stripped_of (with_ends_of M c (e ∷ es)) ≡ e ∷ es
    go r =
        either (end_due_of c e es)
        (λ d. ap stripped_of (with_due M c e es d) ∙ stripped_other e (with_ends_of M (M.next (M.next c 4) e) es) (λ q. omega (arith, h.0)) ∙ ap (λ (l : List ℕ). e ∷ l) (r (M.next (M.next c 4) e)))
        (λ d. ap stripped_of (with_not M c e es d) ∙ stripped_other e (with_ends_of M (M.next c e) es) (λ q. omega (arith, h.0)) ∙ ap (λ (l : List ℕ). e ∷ l) (r (M.next c e)))

-- after an end no cycle runs
ended_free : (f : Facts) (l : Line) (ph : Phase) → l.phase ≡ ph → busy_in (ended_of f l ph).phase ≡ false
unfolding ended_of ended_by_of
ended_free f l Idle h = rw h refl
ended_free f l (Receive r) h = rw h refl
ended_free f l (Send t) h = rw h refl
ended_free f l (Busy (Writing Array)) h = refl
ended_free f l (Busy (Writing Ident)) h = refl
ended_free f l (Busy Locking) h = refl

module _ (f : Facts) (en : ℕ) where
  abbrev M : Model
  M = ours f en

  free : (c : Chip) → busy_in (M.next c 4).line.phase ≡ false
  unfolding state_of next_of event_with
  free c = ended_free f c.line c.line.phase refl

  pub with_placed : (c : Chip) (es : List ℕ) → AllBelow 4 es → EndsPlaced M c (with_ends_of M c es)
  unfolding with_ends_of
  with_placed c [] h = tt
  with_placed c (e ∷ es) h = go (λ (x : Chip). with_placed x es h.1)
    where
      four : (x : Chip) (fs : List ℕ) → busy_in x.line.phase ≡ true → StartAcked fs → EndHere x 4 fs
      four x fs b s = record { in_cycle = λ _. b; before_start = λ _. s; none_left = λ q. absurd (omega (arith, q.0)) }

      other : (x : Chip) (fs : List ℕ) → (e ≡ 2 → acked_of 9 fs ≡ true → busy_in x.line.phase ≡ false) → EndHere x e fs
      other x fs n = record { in_cycle = λ q. absurd (omega (arith, q, h.0)); before_start = λ q. absurd (omega (arith, q, h.0)); none_left = λ q. n q.0 q.1 }

      due : end_due_of c e es ≡ true → ((x : Chip) → EndsPlaced M x (with_ends_of M x es)) → EndsPlaced M c (4 ∷ e ∷ with_ends_of M (M.next (M.next c 4) e) es)
      due d r =
          let a = due_is c e es d in
          let on = M.next (M.next c 4) e in
          (four c (e ∷ with_ends_of M on es) a.1 (a.0, acked_with 9 M on es ∙ a.2), (other (M.next c 4) (with_ends_of M on es) (λ _ _. free c), r on))

      go : ((x : Chip) → EndsPlaced M x (with_ends_of M x es)) → EndsPlaced M c (with_ends_of M c (e ∷ es))
      go r =
          either (end_due_of c e es)
          (λ d. rw (with_due M c e es d) (due d r))
          (λ d. rw (with_not M c e es d) (other c (with_ends_of M (M.next c e) es) (λ q a. due_not c e es d q (sym (acked_with 9 M (M.next c e) es) ∙ a)), r (M.next c e)))
