-- A capture of a board that is as the model says is run as the board's own run, and not marked.
-- Assumes nothing.
use Rattle.std.specs.Prelude.{Ok}
use Prim.Native.Nat.{ℕ, zero, suc, ◌+◌, ◌<◌}
use mathlib.Core.Path.{◌≡◌, ◌∙◌, refl, sym, ap}
use mathlib.Core.Bool.{Bool, true, false, cond, ◌&&◌}
use mathlib.Core.List.{List, [], ◌∷◌}
use native.Mathlib.Omega.{arith}
use lib.ListN.{length, get_or}
use lib.Dec.{eqb, ltb}
use borrow.Author.Tests.{lt-ltb, eq-eqb, ne_eqb, eqb-true, eqb-false, ltb-true}
use Rattle.parts.specs.declared.Facts.{Facts}
use Rattle.parts.specs.declared.Event.TheVariants.{Clock}
use Rattle.parts.specs.Bytes.{AllBelow}
use Rattle.parts.specs.Events.{event_with, event_of}
use Rattle.parts.specs.Table.{facts_of}
use Rattle.parts.proofs.Laws.{clock_code}
use Rattle.parts.proofs.Tests.{either, and_both}
use Rattle.line.specs.declared.Target.{Target}
use Rattle.line.specs.declared.Phase.{Phase}
use Rattle.line.specs.declared.Phase.TheVariants.{Idle, Receive, Send, Busy}
use Rattle.line.specs.declared.Recv.{Recv}
use Rattle.line.specs.declared.Line.{Line}
use Rattle.line.specs.Rules.{taken_of, released_in, received_of, receive_level_of, sent_of, send_level_of, clocked_of, clock_level_of, next_of, act_of, level_of, begun_of}
use Rattle.state.specs.declared.Chip.{Chip}
use Rattle.chip.specs.Model.{Model, ours}
use Rattle.chip.specs.Memory.{Mem, seen_of, state_of, store_with, store_of, chip_level_of}
use Rattle.chip.specs.Runs.{after_of, memory_of, levels_of, cycles_of}
use Rattle.capture.specs.declared.Mark.TheVariants.{Same, At}
use Rattle.capture.specs.Samples.{events_of, rises_of}
use Rattle.capture.specs.Ends.{with_ends_of, ends_in}
use Rattle.capture.specs.Marks.{place_of, clock_of, clocks_in, compared_of, differs_of, mark_from}
use Rattle.capture.specs.Wires.{lined_of}
use Rattle.capture.specs.Calls.{SeenLeft, seen_over, seen_left_of, seeing_of}
use Rattle.capture_promises.specs.Running.{stripped_of}
use Rattle.capture_promises.specs.Good.{on_line, LineLevels, Releases, Mastered, wires_of, GoodUnmarked}
use Rattle.capture_promises.proofs.Drawn.{drawn_events, drawn_low}
use Rattle.capture_promises.proofs.Ends.{ends_one_way, stripped_with, with_placed}
use Rattle.capture_promises.proofs.Marks.{differs_is, stripped_clocks}
use Rattle.capture_promises.proofs.Running.{seen_fine}

-- ---- where the chip pulls the line low it does not look at it

module _ (f : Facts) (en : ℕ) (l : Line) (v w : Bool) where
  received_low : (r : Recv) (k : ℕ) → receive_level_of f en l r k ≡ 0 → received_of f en l v r k ≡ received_of f en l w r k
  unfolding receive_level_of received_of
  received_low r zero h = refl
  received_low r (suc k) h = absurd (omega arith)

  sent_low : (t : Target) (b k : ℕ) → send_level_of b k ≡ 0 → sent_of f l v t k ≡ sent_of f l w t k
  unfolding send_level_of sent_of
  sent_low t b zero h = absurd (omega arith)
  sent_low t b (suc k) h = refl

  clocked_low : (b : ℕ) (ph : Phase) → clock_level_of f en l b ph ≡ 0 → clocked_of f en l v ph ≡ clocked_of f en l w ph
  unfolding clock_level_of clocked_of
  clocked_low b Idle h = absurd (omega arith)
  clocked_low b (Receive r) h = received_low r l.left h
  clocked_low b (Send t) h = sent_low t b l.left h
  clocked_low b (Busy y) h = absurd (omega arith)

-- ---- a clock's level

released_below : (ph : Phase) → released_in ph < 2
released_below Idle = omega arith
released_below (Receive r) = omega arith
released_below (Send t) = omega arith
released_below (Busy y) = omega arith

level_below : (f : Facts) (en : ℕ) (l : Line) (b : ℕ) (ph : Phase) → clock_level_of f en l b ph < 2
unfolding clock_level_of receive_level_of send_level_of
level_below f en l b Idle = omega arith
level_below f en l b (Receive r) = go l.left
  where
    go : (k : ℕ) → receive_level_of f en l r k < 2
    go zero = released_below (taken_of f en l.core r l.shift).phase
    go (suc k) = omega arith
level_below f en l b (Send t) = go l.left
  where
    go : (k : ℕ) → send_level_of b k < 2
    go zero = omega arith
    go (suc k) = omega arith
level_below f en l b (Busy y) = omega arith

-- ---- a level of the line does to the chip what the master's does

record Alike (M : Model) (c : Chip) (m : Mem) (x e : ℕ) : Type 0 where
  next : M.next c x ≡ M.next c e
  store : M.store c m x ≡ M.store c m e
  level : M.level c m x ≡ M.level c m e
  begun : M.begun c x ≡ M.begun c e

lined_low : (e k : ℕ) → e < 2 → k ≡ 0 → lined_of e k ≡ 0
unfolding lined_of
lined_low e k h z = rw (lt-ltb e 2 h, eq-eqb k 0 z) refl

lined_as : (e k : ℕ) → (ltb e 2 && eqb k 0) ≡ false → lined_of e k ≡ e
unfolding lined_of
lined_as e k h = rw h refl

module _ (f : Facts) (en : ℕ) where
  abbrev M : Model
  M = ours f en

  clock_alike : (c : Chip) (m : Mem) (v w : Bool) → chip_level_of f en c m (Clock w) ≡ 0
      → (state_of f en c (Clock v) ≡ state_of f en c (Clock w)) × (store_of f c m (Clock v) ≡ store_of f c m (Clock w))
      × (chip_level_of f en c m (Clock v) ≡ chip_level_of f en c m (Clock w)) × (begun_of c.line (Clock v) ≡ begun_of c.line (Clock w))
  unfolding state_of store_with chip_level_of next_of act_of level_of begun_of
  clock_alike c m v w h =
      let z = clocked_low f en c.line v w (seen_of f c.line m c.line.phase) c.line.phase h in
      (rw z refl, refl, refl, refl)

  low_alike : (c : Chip) (m : Mem) (e : ℕ) → e < 2 → M.level c m e ≡ 0 → Alike M c m 0 e
  unfolding event_with
  low_alike c m e l h =
      let z = clock_code e l in
      let a = clock_alike c m false (eqb e 1) (sym (ap (chip_level_of f en c m) z) ∙ h) in
      record {
        next = a.0 ∙ sym (ap (state_of f en c) z);
        store = a.1 ∙ sym (ap (store_of f c m) z);
        level = a.2 ∙ sym (ap (chip_level_of f en c m) z);
        begun = a.3 ∙ sym (ap (begun_of c.line) z);
      }

  alike : (c : Chip) (m : Mem) (e : ℕ) → Alike M c m (lined_of e (M.level c m e)) e
  alike c m e =
      either (ltb e 2 && eqb (M.level c m e) 0)
      (λ h. let w = and_both (ltb e 2) (eqb (M.level c m e) 0) h in low (ltb-true e 2 w.0) (eqb-true (M.level c m e) 0 w.1))
      (λ h. same h)
    where
      low : e < 2 → M.level c m e ≡ 0 → Alike M c m (lined_of e (M.level c m e)) e
      low l z = rw (lined_low e (M.level c m e) l z) (low_alike c m e l z)

      same : (ltb e 2 && eqb (M.level c m e) 0) ≡ false → Alike M c m (lined_of e (M.level c m e)) e
      same h = rw (lined_as e (M.level c m e) h) record { next = refl; store = refl; level = refl; begun = refl }

  lines : (c : Chip) (m : Mem) (es : List ℕ)
      → (after_of M c (on_line M c m es) ≡ after_of M c es) × (memory_of M c m (on_line M c m es) ≡ memory_of M c m es)
      × (levels_of M c m (on_line M c m es) ≡ levels_of M c m es) × (cycles_of M c (on_line M c m es) ≡ cycles_of M c es)
  unfolding after_of memory_of levels_of cycles_of
  lines c m [] = (refl, refl, refl, refl)
  lines c m (e ∷ es) =
      let a = alike c m e in
      let r = lines (M.next c e) (M.store c m e) es in
      let x = lined_of e (M.level c m e) in
      let l = on_line M (M.next c e) (M.store c m e) es in (
        ap (λ (d : Chip). after_of M d l) a.next ∙ r.0,
        ap (λ (d : Chip). memory_of M d (M.store c m x) l) a.next ∙ ap (λ (n : Mem). memory_of M (M.next c e) n l) a.store ∙ r.1,
        ap (λ (d : Chip). M.level c m x ∷ levels_of M d (M.store c m x) l) a.next ∙ ap (λ (n : Mem). M.level c m x ∷ levels_of M (M.next c e) n l) a.store
            ∙ ap (λ (k : ℕ). k ∷ levels_of M (M.next c e) (M.store c m e) l) a.level ∙ ap (λ (ks : List ℕ). M.level c m e ∷ ks) r.2,
        ap (λ (d : Chip). M.begun c x + cycles_of M d l) a.next ∙ ap (λ (k : ℕ). k + cycles_of M (M.next c e) l) a.begun
            ∙ ap (λ (k : ℕ). M.begun c e + k) r.3,
      )

pub line_levels : LineLevels
line_levels part en c m es = lines (facts_of part) en c m es

-- ---- the line has the master's clocks, Starts, Stops and ends

record Kind (x e : ℕ) : Type 0 where
  is_end : eqb x 4 ≡ eqb e 4
  is_clock : ltb x 2 ≡ ltb e 2
  below : e < 5 → x < 5

lined_kind : (e k : ℕ) → Kind (lined_of e k) e
lined_kind e k =
    either (ltb e 2 && eqb k 0)
    (λ h. let w = and_both (ltb e 2) (eqb k 0) h in low (ltb-true e 2 w.0) (eqb-true k 0 w.1))
    (λ h. rw (lined_as e k h) record { is_end = refl; is_clock = refl; below = λ b. b })
  where
    low : e < 2 → k ≡ 0 → Kind (lined_of e k) e
    low l z = rw (lined_low e k l z) record { is_end = sym (ne_eqb e 4 (λ q. omega arith)); is_clock = sym (lt-ltb e 2 l); below = λ _. omega arith }

record Kinds (xs es : List ℕ) : Type 0 where
  count : length (stripped_of xs) ≡ length (stripped_of es)
  clocks : clocks_in xs ≡ clocks_in es
  ends : ends_in xs ≡ ends_in es
  below : AllBelow 5 es → AllBelow 4 (stripped_of xs)

kinds_more : (x e : ℕ) (xs es : List ℕ) → Kind x e → Kinds xs es → Kinds (x ∷ xs) (e ∷ es)
kinds_more x e xs es k r =
    record {
      count = either (eqb e 4) (λ h. rw (k.is_end ∙ h, h) r.count) (λ h. rw (k.is_end ∙ h, h) (ap suc r.count));
      clocks = rw (k.is_clock, r.clocks) refl;
      ends = rw (k.is_end, r.ends) refl;
      below = λ b.
          either (eqb e 4) (λ h. rw (k.is_end ∙ h) (r.below b.1))
          (λ h. rw (k.is_end ∙ h) (let n = eqb-false x 4 (k.is_end ∙ h) in omega (arith, k.below b.0), r.below b.1));
    }

kinds : (M : Model) (c : Chip) (m : Mem) (es : List ℕ) → Kinds (on_line M c m es) es
kinds M c m [] = record { count = refl; clocks = refl; ends = refl; below = λ _. tt }
kinds M c m (e ∷ es) = kinds_more (lined_of e (M.level c m e)) e _ es (lined_kind e (M.level c m e)) (kinds M (M.next c e) (M.store c m e) es)

lined_place : (place e k : ℕ) → place_of place (lined_of e k) ≡ place_of place e
unfolding place_of
lined_place place e k =
    either (ltb e 2 && eqb k 0)
    (λ h. let w = and_both (ltb e 2) (eqb k 0) h in rw (lined_low e k (ltb-true e 2 w.0) (eqb-true k 0 w.1), w.0) refl)
    (λ h. ap (place_of place) (lined_as e k h))

-- where the master releases the line it has the chip's level
lined_chip : (k : ℕ) → k < 2 → lined_of 1 k ≡ k
unfolding lined_of
lined_chip zero h = refl
lined_chip (suc zero) h = refl
lined_chip (suc (suc k)) h = absurd (omega arith)

-- ---- no mark

module _ (f : Facts) (en : ℕ) where
  clock_below : (c : Chip) (m : Mem) (e : ℕ) → e < 2 → chip_level_of f en c m (event_of e) < 2
  unfolding chip_level_of level_of
  clock_below c m e l = rw (clock_code e l) (level_below f en c.line (seen_of f c.line m c.line.phase) c.line.phase)

  not_differs : (c : Chip) (m : Mem) (place e : ℕ) → (e < 2 → compared_of c.line place ≡ true → e ≡ 1)
      → differs_of (ours f en) c m place (lined_of e ((ours f en).level c m e)) ≡ false
  not_differs c m place e h =
      either (differs_of (ours f en) c m place x) (λ d. differ (differs_is (ours f en) c m place x d)) (λ d. d)
    where
      x : ℕ
      x = lined_of e ((ours f en).level c m e)

      differ : (x < 2) × (compared_of c.line place ≡ true) × ((ours f en).level c m x ≡ x → ⊥) → differs_of (ours f en) c m place x ≡ false
      differ d =
          let l : e < 2 = ltb-true e 2 (sym (lined_kind e ((ours f en).level c m e)).is_clock ∙ lt-ltb x 2 d.0) in
          let one : e ≡ 1 = h l d.1 in
          let k : x ≡ (ours f en).level c m e = ap (λ (y : ℕ). lined_of y ((ours f en).level c m e)) one ∙ lined_chip ((ours f en).level c m e) (clock_below c m e l) in
          absurd (d.2 ((alike f en c m e).level ∙ sym k))

  unmarked : (c : Chip) (m : Mem) (place n : ℕ) (rises es : List ℕ) → Releases (ours f en) c m place es
      → mark_from (ours f en) c m place n rises (on_line (ours f en) c m es) ≡ Same
  unfolding mark_from
  unmarked c m place n rises [] h = refl
  unmarked c m place n rises (e ∷ es) h =
      let x = lined_of e ((ours f en).level c m e) in
      let a = alike f en c m e in
      let l = on_line (ours f en) ((ours f en).next c e) ((ours f en).store c m e) es in
      ap (λ (b : Bool). cond b (At (get_or rises n 0) n x) (mark_from (ours f en) ((ours f en).next c x) ((ours f en).store c m x) (place_of place x) (n + clock_of x) rises l))
      (not_differs c m place e h.0)
      ∙ ap (λ (d : Chip). mark_from (ours f en) d ((ours f en).store c m x) (place_of place x) (n + clock_of x) rises l) a.next
      ∙ ap (λ (d : Mem). mark_from (ours f en) ((ours f en).next c e) d (place_of place x) (n + clock_of x) rises l) a.store
      ∙ ap (λ (p : ℕ). mark_from (ours f en) ((ours f en).next c e) ((ours f en).store c m e) p (n + clock_of x) rises l) (lined_place place e ((ours f en).level c m e))
      ∙ unmarked ((ours f en).next c e) ((ours f en).store c m e) (place_of place e) (n + clock_of x) rises es h.1

-- ---- the run

-- over the events xs of a capture, with their ends ys
abbrev over : Model → Chip → Mem → List ℕ → List ℕ → List ℕ → SeenLeft
over M c m rises xs ys = record { answer = seen_over M c m rises xs ys; mem = memory_of M c m ys }

abbrev good : Model → Chip → Mem → List ℕ → SeenLeft
good M c m es =
    record {
      answer =
          record {
            verdict = Ok tt;
            events = length (stripped_of es);
            clocks = clocks_in es;
            ends = ends_in es;
            cycles = cycles_of M c es;
            mark = Same;
            chip = after_of M c es;
          };
      mem = memory_of M c m es;
    }

module _ (part en : ℕ) (c : Chip) (m : Mem) (es : List ℕ) (a : Mastered (ours (facts_of part) en) c m es) where
  abbrev run : Model
  run = ours (facts_of part) en

  abbrev line : List ℕ
  line = on_line run c m es

  low : AllBelow 4 (stripped_of line)
  low = (kinds run c m es).below a.codes

  read : events_of true (wires_of run c m es) ≡ stripped_of line
  read = drawn_events (stripped_of line) low

  ended : with_ends_of run c (stripped_of line) ≡ line
  ended =
      ends_one_way run c (with_ends_of run c (stripped_of line)) line (with_placed (facts_of part) en c (stripped_of line) low) a.shown (stripped_with run c (stripped_of line) low)

  -- over the line's levels, as over the master's
  seen : (rises : List ℕ) → over run c m rises (stripped_of line) line ≡ good run c m es
  seen rises =
      let k = kinds run c m es in
      let l = lines (facts_of part) en c m es in
      let count : length (stripped_of line) ≡ length (stripped_of es) = k.count in
      let clocks : clocks_in (stripped_of line) ≡ clocks_in es = stripped_clocks line ∙ k.clocks in
      let ends : ends_in line ≡ ends_in es = k.ends in
      let mark : mark_from run c m 0 0 rises line ≡ Same = unmarked (facts_of part) en c m 0 0 rises es a.releases in
      λ i. record {
        answer = record { verdict = Ok tt; events = count i; clocks = clocks i; ends = ends i; cycles = l.3 i; mark = mark i; chip = l.0 i };
        mem = l.1 i;
      }

pub good_unmarked : GoodUnmarked seeing_of
good_unmarked part en c m es r a =
    let M = ours (facts_of part) en in
    let ws = wires_of M c m es in
    let xs = stripped_of (on_line M c m es) in
    ap (seen_left_of M c m true ws) (seen_fine part en c m true ws r (drawn_low xs))
    ∙ ap (λ (l : List ℕ). over M c m (rises_of true ws) l (with_ends_of M c l)) (read part en c m es a)
    ∙ ap (over M c m (rises_of true ws) xs) (ended part en c m es a)
    ∙ seen part en c m es a (rises_of true ws)
