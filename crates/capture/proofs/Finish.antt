-- A run over a capture comes to the same before and after each of its events.
-- Assumes nothing.
use Rattle.std.specs.Prelude.{Ok}
use Prim.Native.Nat.{ℕ, suc, ◌+◌, ◌≤◌, ◌<◌}
use mathlib.Core.Path.{◌≡◌, ◌∙◌, sym, ap, refl, subst}
use mathlib.Core.Bool.{Bool, true, false, not, cond, ◌&&◌}
use mathlib.Core.List.{List, [], ◌∷◌, ◌++◌}
use native.Mathlib.Omega.{arith}
use native.Mathlib.Nat.{add-zero, zero-add}
use lib.ListN.{length, get_or, drop}
use lib.Seq.{get_or-drop, drop-drop}
use lib.Dec.{eqb, ltb}
use borrow.Author.Tests.{lt-ltb, ltb-true, ltb-false, eq-eqb, ne_eqb}
use Rattle.parts.proofs.Tests.{and_both, either}
use Rattle.parts.proofs.Laws.{branch}
use Rattle.parts.proofs.Claims.{sooner_fine}
use Rattle.parts.specs.Bytes.{flag_of, AllBelow}
use Rattle.parts.specs.declared.Facts.{Facts}
use Rattle.parts.specs.Events.{event_with, event_of}
use Rattle.line.specs.declared.Line.{Line}
use Rattle.line.specs.Rules.{begun_of}
use Rattle.state.specs.declared.Chip.{Chip}
use Rattle.chip.specs.Memory.{Mem, chip}
use Rattle.chip.specs.Model.{Model, ours}
use Rattle.chip.specs.Runs.{after_of, memory_of, cycles_of}
use Rattle.chip.specs.Calls.{held_verdict_of}
use Rattle.chip.proofs.Turns.{begun_most}
use Rattle.capture.specs.declared.Mark.{Mark}
use Rattle.capture.specs.declared.Mark.TheVariants.{Same, At}
use Rattle.capture.specs.declared.engine.Step.{Step}
use Rattle.capture.specs.declared.engine.Going.{Going}
use Rattle.capture.specs.Samples.{events_of, rises_of, rises_in, judge_of}
use Rattle.capture.specs.Ends.{acked_of, busy_in, end_due_of, with_ends_of, ends_in}
use Rattle.capture.specs.Marks.{place_of, clock_of, clocks_in, compared_of, differs_of, mark_from, sooner_mark}
use Rattle.capture.specs.Calls.{SeenLeft, seen_left_of, seen_verdict_of}
use Rattle.capture.specs.Steps.{one_of}
use Rattle.capture.specs.Course.{Moves, Ended, noted_of, Taken, start_of, standing, over_of, finish_of, Turned}
use Rattle.capture.proofs.Sampled.{judge_fine, one_made}

-- ---- the code's steps

module _ (M : Model) (c : Chip) (m : Mem) (g : Going) where
  pub ended_not : (due : Bool) → due ≡ false → Ended M c m due g g c m
  ended_not due h =
      subst (λ (d : Bool). Ended M c m d g g c m) (sym h)
      (record { state = refl; stored = refl; place = refl; events = refl; clocks = refl; ends = sym (add-zero g.ends); cycles = refl; mark = refl })

  pub ended_due : (due : Bool) → due ≡ true → (s : Step) (k : List ℕ) (m' : Mem) → Moves M c m 4 s (chip s.line k) m'
      → Ended M c m due g (record { line = s.line; place = g.place; events = g.events; clocks = g.clocks; ends = g.ends + 1; cycles = g.cycles; mark = g.mark })
      (chip s.line k) m'
  ended_due due h s k m' p =
      subst
      (λ (d : Bool). Ended M c m d g (record { line = s.line; place = g.place; events = g.events; clocks = g.clocks; ends = g.ends + 1; cycles = g.cycles; mark = g.mark })
      (chip s.line k) m')
      (sym h)
      (record { state = p.state; stored = p.stored; place = refl; events = refl; clocks = refl; ends = refl; cycles = refl; mark = refl })

  pub taken_so : (at e : ℕ) (r : Going) (s : Step) (looked differs : Bool) (k : List ℕ) (m' : Mem) → Moves M c m e s (chip s.line k) m'
      → looked ≡ compared_of c.line g.place → differs ≡ (ltb e 2 && (looked && not (eqb s.level e))) → r ≡ noted_of g s differs at e
      → Taken M c m at e g r (chip r.line k) m'
  unfolding differs_of
  taken_so at e r s looked differs k m' p hl hd hr =
      let same : differs ≡ differs_of M c m g.place e = hd ∙ rw (hl, p.level) refl in
      rw hr
      (record {
        state = p.state;
        stored = p.stored;
        place = refl;
        events = refl;
        clocks = refl;
        ends = refl;
        cycles = ap (λ (n : ℕ). g.cycles + n) p.begun;
        mark = ap (λ (d : Bool). sooner_mark g.mark (cond d (At at g.clocks e) Same)) same;
      })

-- ---- where an end is due

pub due_elsewhere : (c : Chip) (e : ℕ) (es : List ℕ) → (e ≡ 2 → ⊥) → false ≡ end_due_of c e es
unfolding end_due_of
due_elsewhere c e es h = rw (ne_eqb e 2 h) refl

module _ (c : Chip) (e : ℕ) (es : List ℕ) (h : e ≡ 2) where
  pub due_idle : busy_in c.line.phase ≡ false → false ≡ end_due_of c e es
  unfolding end_due_of
  due_idle b = rw (eq-eqb e 2 h, b) refl

  pub due_so : (a : Bool) → busy_in c.line.phase ≡ true → a ≡ acked_of 9 es → a ≡ end_due_of c e es
  unfolding end_due_of
  due_so a b q = q ∙ rw (eq-eqb e 2 h, b) refl

-- ---- the mark

pick : (d : Bool) (x y n e : ℕ) (rest : Mark) → (d ≡ true → y ≡ x) → sooner_mark (cond d (At x n e) Same) rest ≡ cond d (At y n e) rest
pick true x y n e rest h = ap (λ (z : ℕ). At z n e) (sym (h refl))
pick false x y n e rest h = refl

differs_clock : (M : Model) (c : Chip) (m : Mem) (p e : ℕ) → differs_of M c m p e ≡ true → e < 2
unfolding differs_of
differs_clock M c m p e h = ltb-true e 2 (and_both (ltb e 2) (compared_of c.line p && not (eqb (M.level c m e) e)) h).0

mark_step : (M : Model) (rises : List ℕ) (c : Chip) (m : Mem) (p n at e : ℕ) (k : Mark) (xs : List ℕ) → (e < 2 → get_or rises n 0 ≡ at)
    → sooner_mark (sooner_mark k (cond (differs_of M c m p e) (At at n e) Same)) (mark_from M (M.next c e) (M.store c m e) (place_of p e) (n + clock_of e) rises xs)
    ≡ sooner_mark k (mark_from M c m p n rises (e ∷ xs))
unfolding mark_from
mark_step M rises c m p n at e Same xs h =
    pick (differs_of M c m p e) at (get_or rises n 0) n e (mark_from M (M.next c e) (M.store c m e) (place_of p e) (n + clock_of e) rises xs)
    (λ d. h (differs_clock M c m p e d))
mark_step M rises c m p n at e (At a b d) xs h = refl

sooner_same : (k : Mark) → sooner_mark k Same ≡ k
sooner_same Same = refl
sooner_same (At a b d) = refl

-- ---- over the events with their ends

left_same : (e e' n n' d d' y y' : ℕ) (k k' : Mark) (c c' : Chip) (m m' : Mem) → e ≡ e' → n ≡ n' → d ≡ d' → y ≡ y' → k ≡ k' → c ≡ c' → m ≡ m'
    → ◌≡◌ {A = SeenLeft} (record { answer = record { verdict = Ok tt; events = e; clocks = n; ends = d; cycles = y; mark = k; chip = c }; mem = m })
    (record { answer = record { verdict = Ok tt; events = e'; clocks = n'; ends = d'; cycles = y'; mark = k'; chip = c' }; mem = m' })
left_same e e' n n' d d' y y' k k' c c' m m' h1 h2 h3 h4 h5 h6 h7 = rw (h1, h2, h3, h4, h5, h6, h7) refl

module _ (M : Model) (rises : List ℕ) (c : Chip) (m : Mem) (g r : Going) (c' : Chip) (m' : Mem) (len clocks : ℕ) (xs : List ℕ) where
  over_not : Ended M c m false g r c' m' → over_of M rises c' m' r len clocks xs ≡ over_of M rises c m g len clocks xs
  over_not t =
      left_same _ _ _ _ _ _ _ _ _ _ _ _ _ _
      (omega (arith, t.events)) (omega (arith, t.clocks)) (omega (arith, t.ends))
      (rw (t.state, t.cycles) refl)
      (rw (t.state, t.stored, t.mark, t.place, t.clocks) refl)
      (rw t.state refl) (rw (t.state, t.stored) refl)

  over_end : M.begun c 4 ≡ 0 → Ended M c m true g r c' m' → over_of M rises c' m' r len clocks xs ≡ over_of M rises c m g len clocks (4 ∷ xs)
  unfolding cycles_of after_of memory_of mark_from differs_of place_of
  over_end z t =
      left_same _ _ _ _ _ _ _ _ _ _ _ _ _ _
      (omega (arith, t.events)) (omega (arith, t.clocks)) (omega (arith, t.ends))
      (rw (t.state, t.cycles, z, zero-add) refl)
      (rw (t.state, t.stored, t.mark, t.place, t.clocks, add-zero) refl)
      (rw t.state refl) (rw (t.state, t.stored) refl)

  over_on : (at e : ℕ) → e < 4 → (e < 2 → get_or rises g.clocks 0 ≡ at) → Taken M c m at e g r c' m'
      → over_of M rises c' m' r len clocks xs ≡ over_of M rises c m g (suc len) (clock_of e + clocks) (e ∷ xs)
  unfolding cycles_of after_of memory_of
  over_on at e small h t =
      let no : eqb e 4 ≡ false = ne_eqb e 4 (λ q. omega arith) in
      left_same _ _ _ _ _ _ _ _ _ _ _ _ _ _
      (omega (arith, t.events)) (omega (arith, t.clocks)) (omega (arith, t.ends, ap flag_of no))
      (rw t.state (omega (arith, t.cycles)))
      (rw (t.state, t.stored, t.mark, t.place, t.clocks) (mark_step M rises c m g.place g.clocks at e g.mark xs h))
      (rw t.state refl) (rw (t.state, t.stored) refl)

-- ---- over the events of the capture

module _ (M : Model) (rises : List ℕ) (c : Chip) (m : Mem) (g ready r : Going) (c₁ c' : Chip) (m₁ m' : Mem) (at e : ℕ) (es : List ℕ)
    (small : e < 4)
    (h : e < 2 → get_or rises g.clocks 0 ≡ at)
    (none : M.begun c 4 ≡ 0) where
  finish_due : end_due_of c e es ≡ true → Ended M c m true g ready c₁ m₁ → Taken M c₁ m₁ at e ready r c' m' → finish_of M rises c' m' r es ≡ finish_of M rises c m g (e ∷ es)
  unfolding finish_of with_ends_of
  finish_due d x t =
      let xs = with_ends_of M c' es in
      let same : xs ≡ with_ends_of M (M.next (M.next c 4) e) es = rw (t.state, x.state) refl in
      over_on M rises c₁ m₁ ready r c' m' (length es) (clocks_in es) xs at e small (rw x.clocks h) t
      ∙ over_end M rises c m g ready c₁ m₁ (suc (length es)) (clock_of e + clocks_in es) (e ∷ xs) none x
      ∙ rw (d, same) refl

  finish_not : end_due_of c e es ≡ false → Ended M c m false g ready c₁ m₁ → Taken M c₁ m₁ at e ready r c' m' → finish_of M rises c' m' r es ≡ finish_of M rises c m g (e ∷ es)
  unfolding finish_of with_ends_of
  finish_not d x t =
      let xs = with_ends_of M c' es in
      let same : xs ≡ with_ends_of M (M.next c e) es = rw (t.state, x.state) refl in
      over_on M rises c₁ m₁ ready r c' m' (length es) (clocks_in es) xs at e small (rw x.clocks h) t
      ∙ over_not M rises c m g ready c₁ m₁ (suc (length es)) (clock_of e + clocks_in es) (e ∷ xs) x
      ∙ rw (d, same) refl

  finish_on : (due : Bool) → due ≡ end_due_of c e es → Ended M c m due g ready c₁ m₁ → Taken M c₁ m₁ at e ready r c' m' → finish_of M rises c' m' r es ≡ finish_of M rises c m g (e ∷ es)
  finish_on true q x t = finish_due (sym q) x t
  finish_on false q x t = finish_not (sym q) x t

flag_most : (b : Bool) → flag_of b ≤ 1
flag_most true = omega arith
flag_most false = omega arith

-- the end of a cycle begins none
end_none : (f : Facts) (en : ℕ) (c : Chip) → (ours f en).begun c 4 ≡ 0
unfolding event_with begun_of
end_none f en c = refl

module _ (f : Facts) (en : ℕ) (c : Chip) (m : Mem) (at e : ℕ) (es : List ℕ) (g : Going) where
  pub turned : (ready r : Going) (c₁ c' : Chip) (m₁ m' : Mem) (due : Bool) → e < 4 → due ≡ end_due_of c e es → Ended (ours f en) c m due g ready c₁ m₁
      → Taken (ours f en) c₁ m₁ at e ready r c' m' → Turned (ours f en) c m at e es g r c' m'
  turned ready r c₁ c' m₁ m' due small q x t =
      let one : one_of e ≡ e ∷ [] = rw (lt-ltb e 4 small) refl in
      record {
        finish =
            λ rises h. finish_on (ours f en) rises c m g ready r c₁ c' m₁ m' at e es small h (end_none f en c) due q x t
            ∙ ap (λ (l : List ℕ). finish_of (ours f en) rises c m g l) (sym (one_made e es small));
        events = omega (arith, x.events, t.events);
        clocks = rw one (omega (arith, x.clocks, t.clocks));
        ends = omega (arith, x.ends, t.ends, flag_most due);
        cycles = omega (arith, x.cycles, t.cycles, begun_most c₁.line (event_of e));
      }

-- ---- the samples at which the clocks rise

pub rises_on : (rises rest : List ℕ) (n at e : ℕ) → drop n rises ≡ rises_in at (one_of e) ++ rest → (drop (n + clocks_in (one_of e)) rises ≡ rest) × (e < 2 → get_or rises n 0 ≡ at)
rises_on rises rest n at e q =
    either (ltb e 2)
    (λ t.
    let small : e < 2 = ltb-true e 2 t in
    let four : ltb e 4 ≡ true = lt-ltb e 4 (omega arith) in
    let here : drop n rises ≡ at ∷ rest = q ∙ rw (four, t) refl in
    let one : n + clocks_in (one_of e) ≡ n + 1 = rw (four, t) refl in
    let past : drop (n + 1) rises ≡ rest = sym (drop-drop 1 n rises) ∙ ap (drop 1) here in
    let first : get_or rises n 0 ≡ at = ap (λ (k : ℕ). get_or rises k 0) (sym (add-zero n)) ∙ sym (get_or-drop n rises 0 0) ∙ ap (λ (l : List ℕ). get_or l 0 0) here in
    (rw one past, λ _. first))
    (λ t.
    let no = ltb-false e 2 t in
    either (ltb e 4)
    (λ four.
    let none : n + clocks_in (one_of e) ≡ n = rw (four, t) (add-zero n) in
    (rw none (q ∙ rw (four, t) refl), λ s. absurd (omega arith)))
    (λ four.
    let none : n + clocks_in (one_of e) ≡ n = rw four (add-zero n) in
    (rw none (q ∙ rw four refl), λ s. absurd (omega arith))))

-- at most one clock
pub one_most : (e : ℕ) → clocks_in (one_of e) ≤ 1
one_most e = branch (λ (l : List ℕ). clocks_in l ≤ 1) (ltb e 4) (λ _. omega (arith, flag_most (ltb e 2))) (λ _. omega arith)

-- ---- the whole

finish_none : (M : Model) (rises : List ℕ) (c : Chip) (m : Mem) (g : Going) → finish_of M rises c m g [] ≡ standing c m g
unfolding finish_of with_ends_of cycles_of mark_from after_of memory_of
finish_none M rises c m g =
    left_same _ _ _ _ _ _ _ _ _ _ _ _ _ _ (add-zero g.events) (add-zero g.clocks) (add-zero g.ends) (add-zero g.cycles) (sooner_same g.mark) refl refl

pub finished : (M : Model) (bus : Bool) (ss : List ℕ) (c₀ : Chip) (m₀ : Mem) (l : Line) (c : Chip) (m : Mem) (g : Going)
    → finish_of M (rises_of bus ss) c m g [] ≡ finish_of M (rises_of bus ss) c₀ m₀ (start_of l) (events_of bus ss)
    → standing c m g ≡ seen_left_of M c₀ m₀ bus ss (Ok tt)
unfolding finish_of
finished M bus ss c₀ m₀ l c m g q =
    let es = events_of bus ss in
    let xs = with_ends_of M c₀ es in
    sym (finish_none M (rises_of bus ss) c m g) ∙ q
    ∙ left_same _ _ _ _ _ _ _ _ _ _ _ _ _ _ (zero-add (length es)) (zero-add (clocks_in es)) (zero-add (ends_in xs)) (zero-add (cycles_of M c₀ xs)) refl refl refl

-- ---- a call that is not refused

pub seen_fine : (part en : ℕ) (c : Chip) (n d : ℕ) (ss : List ℕ) → seen_verdict_of part en c n d ss ≡ Ok tt → AllBelow 4 ss
unfolding seen_verdict_of
seen_fine part en c n d ss h = judge_fine ss (sooner_fine (held_verdict_of part en c n d) (judge_of ss) h).1
