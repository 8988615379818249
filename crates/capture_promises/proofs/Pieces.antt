-- Captures in pieces, and captures with a sample repeated.
-- Assumes nothing.
use Rattle.std.specs.Prelude.{Ok, Err}
use Prim.Native.Nat.{ℕ, ◌+◌, ◌<◌}
use mathlib.Core.Path.{◌≡◌, ◌∙◌, refl, sym, ap}
use mathlib.Core.Bool.{Bool}
use mathlib.Core.List.{List, [], ◌∷◌, ◌++◌, map, append_assoc}
use native.Mathlib.Nat.{zero-add}
use native.Mathlib.Omega.{arith}
use lib.ListN.{length, get_or, length-append, get_or-append}
use lib.Seq.{get_or-append-add}
use Rattle.parts.specs.Verdict.{Verdict}
use Rattle.parts.specs.Bytes.{AllBelow}
use Rattle.parts.specs.Table.{facts_of}
use Rattle.parts.specs.Refusals.{sooner_of}
use Rattle.parts.proofs.Claims.{refused_not, sooner_fine}
use Rattle.parts.proofs.Bytes.{below_append, below_left, below_right}
use Rattle.state.specs.declared.Chip.{Chip}
use Rattle.chip.specs.Memory.{Mem}
use Rattle.chip.specs.Model.{Model, old, ours}
use Rattle.chip.specs.Runs.{after_of, memory_of, cycles_of}
use Rattle.chip.specs.Calls.{held_verdict_of}
use Rattle.chip.proofs.Laws.{Usable, held_fine, fine_held}
use Rattle.chip_laws.specs.Range.{Typed}
use Rattle.chip_laws.proofs.Range.{range_kept_by_runs}
use Rattle.chip_laws.proofs.Bytes.{runs_join}
use Rattle.capture.specs.declared.Mark.{Mark}
use Rattle.capture.specs.declared.Mark.TheVariants.{Same, At}
use Rattle.capture.specs.Samples.{events_of, rises_of, judge_of}
use Rattle.capture.specs.Ends.{with_ends_of, ends_in}
use Rattle.capture.specs.Marks.{clocks_in, mark_from, sooner_mark}
use Rattle.capture.specs.Calls.{SeenLeft, seen_verdict_of, seen_over, seen_by, seen_left_of, seeing_of}
use Rattle.capture_promises.specs.Running.{place_after}
use Rattle.capture_promises.specs.Pieces.{later_mark, joined, PiecesJoin, moved_mark, with_mark, RepeatsLeftOut}
use Rattle.capture.proofs.Sampled.{judge_fine, fine_judge}
use Rattle.capture_promises.proofs.Cuts.{events_cut, stopped, place_cut, clocks_append, rises_clocks, rises_cut, map_at, events_repeat, moved_past, rises_repeat}
use Rattle.capture_promises.proofs.Ends.{stripped_with}
use Rattle.capture_promises.proofs.Rises.{events_below}
use Rattle.capture_promises.proofs.Marks.{stripped_clocks}
use Rattle.capture_promises.proofs.Joined.{ends_cut, ends_append, place_stripped, mark_append, moved_by, mark_moved, moved_same, memory_lengths, all_taken, with_below}

-- ---- verdicts

abbrev verdict : ℕ → ℕ → Chip → Mem → List ℕ → Verdict
verdict part en c m ss = seen_verdict_of part en c (length m.cells) (length m.ident) ss

verdict_fine : (M : Model) (c : Chip) (m : Mem) (bus : Bool) (ss : List ℕ) (v : Verdict) → (seen_by M c m bus ss v).verdict ≡ Ok tt → v ≡ Ok tt
verdict_fine M c m bus ss (Ok _) h = refl
verdict_fine M c m bus ss (Err r) h = refused_not h

fine_parts : (part en : ℕ) (c : Chip) (m : Mem) (ss : List ℕ) → verdict part en c m ss ≡ Ok tt
    → Usable part en c (length m.cells) (length m.ident) × AllBelow 4 ss
unfolding seen_verdict_of
fine_parts part en c m ss h =
    let w = sooner_fine (held_verdict_of part en c (length m.cells) (length m.ident)) (judge_of ss) h in
    (held_fine part en c (length m.cells) (length m.ident) w.0, judge_fine ss w.1)

parts_fine : (part en : ℕ) (c : Chip) (m : Mem) (ss : List ℕ) → Usable part en c (length m.cells) (length m.ident) → AllBelow 4 ss → verdict part en c m ss ≡ Ok tt
unfolding seen_verdict_of sooner_of
parts_fine part en c m ss u h =
    ap (λ (v : Verdict). sooner_of v (judge_of ss)) (fine_held part en c (length m.cells) (length m.ident) u) ∙ fine_judge ss h

-- ---- a capture cut behind a Stop

module _ (part en : ℕ) (c : Chip) (m : Mem) (bus : Bool) (ws ys : List ℕ) where
  abbrev M : Model
  M = ours (facts_of part) en

  abbrev whole : List ℕ
  whole = ws ++ 1 ∷ 3 ∷ ys

  abbrev front : List ℕ
  front = ws ++ 1 ∷ 3 ∷ []

  abbrev E1 : List ℕ
  E1 = events_of bus front

  abbrev E2 : List ℕ
  E2 = events_of bus (3 ∷ ys)

  abbrev X1 : List ℕ
  X1 = with_ends_of M c E1

  abbrev c1 : Chip
  c1 = after_of M c X1

  abbrev m1 : Mem
  m1 = memory_of M c m X1

  abbrev X2 : List ℕ
  X2 = with_ends_of M c1 E2

  ends_cut_here : with_ends_of M c (events_of bus whole) ≡ X1 ++ X2
  ends_cut_here =
      let s = stopped bus ws in
      ap (with_ends_of M c) (events_cut bus ws ys ∙ ap (λ (l : List ℕ). l ++ E2) s.last ∙ append_assoc s.front (3 ∷ []) E2)
      ∙ ends_cut M c s.front E2
      ∙ ap (λ (l : List ℕ). with_ends_of M c l ++ with_ends_of M (after_of M c (with_ends_of M c l)) E2) (sym s.last)

  clocks_1 : clocks_in X1 ≡ clocks_in E1
  clocks_1 = sym (stripped_clocks X1) ∙ ap clocks_in (stripped_with M c E1 (events_below bus front))

  clocks_2 : clocks_in X2 ≡ clocks_in E2
  clocks_2 = sym (stripped_clocks X2) ∙ ap clocks_in (stripped_with M c1 E2 (events_below bus (3 ∷ ys)))

  place_1 : place_after 0 X1 ≡ 0
  place_1 = sym (place_stripped 0 X1) ∙ ap (place_after 0) (stripped_with M c E1 (events_below bus front)) ∙ place_cut bus ws

  abbrev R1 : List ℕ
  R1 = rises_of bus front

  abbrev R2 : List ℕ
  R2 = rises_of bus (3 ∷ ys)

  abbrev R : List ℕ
  R = R1 ++ map (λ (s : ℕ). length ws + 1 + s) R2

  mark_1 : mark_from M c m 0 0 R X1 ≡ mark_from M c m 0 0 R1 X1
  mark_1 =
      mark_moved M c m 0 0 0 0 R R1 (λ (s : ℕ). s) X1 (omega arith)
      (λ i l. get_or-append R1 (map (λ (s : ℕ). length ws + 1 + s) R2) 0 (0 + i) (omega (arith, rises_clocks bus front, clocks_1)))
      ∙ moved_same (mark_from M c m 0 0 R1 X1)

  mark_2 : mark_from M c1 m1 0 (0 + clocks_in X1) R X2 ≡ later_mark (length ws + 1) (clocks_in E1) (mark_from M c1 m1 0 0 R2 X2)
  mark_2 =
      mark_moved M c1 m1 0 (0 + clocks_in X1) 0 (clocks_in E1) R R2 (λ (s : ℕ). length ws + 1 + s) X2 (omega (arith, clocks_1)) at
      ∙ same (mark_from M c1 m1 0 0 R2 X2)
    where
      at : (i : ℕ) → i < clocks_in X2 → get_or R (0 + clocks_in X1 + i) 0 ≡ length ws + 1 + get_or R2 (0 + i) 0
      at i l =
          let z : 0 + clocks_in X1 + i ≡ length R1 + i = omega (arith, rises_clocks bus front, clocks_1) in
          let j : 0 + i ≡ i = omega arith in
          ap (λ (k : ℕ). get_or R k 0) z
          ∙ get_or-append-add R1 (map (λ (s : ℕ). length ws + 1 + s) R2) i 0
          ∙ map_at (λ (s : ℕ). length ws + 1 + s) R2 i (omega (arith, rises_clocks bus (3 ∷ ys), clocks_2))
          ∙ ap (λ (k : ℕ). length ws + 1 + get_or R2 k 0) (sym j)

      same : (k : Mark) → moved_by (λ (s : ℕ). length ws + 1 + s) (clocks_in E1) k ≡ later_mark (length ws + 1) (clocks_in E1) k
      same Same = refl
      same (At s n v) = refl

  mark_cut : mark_from M c m 0 0 (rises_of bus whole) (X1 ++ X2) ≡ sooner_mark (mark_from M c m 0 0 R1 X1) (later_mark (length ws + 1) (clocks_in E1) (mark_from M c1 m1 0 0 R2 X2))
  mark_cut =
      ap (λ (l : List ℕ). mark_from M c m 0 0 l (X1 ++ X2)) (rises_cut bus ws ys)
      ∙ mark_append M c m 0 0 R X1 X2
      ∙ ap (λ (p : ℕ). sooner_mark (mark_from M c m 0 0 R X1) (mark_from M c1 m1 p (0 + clocks_in X1) R X2)) place_1
      ∙ ap (λ (k : Mark). sooner_mark k (mark_from M c1 m1 0 (0 + clocks_in X1) R X2)) mark_1
      ∙ ap (sooner_mark (mark_from M c m 0 0 R1 X1)) mark_2

  both_run : seen_left_of M c m bus whole (Ok tt) ≡ joined (length ws + 1) (seen_by M c m bus front (Ok tt)) (seen_left_of M c1 m1 bus (3 ∷ ys) (Ok tt))
  both_run =
      let X = with_ends_of M c (events_of bus whole) in
      let e = ends_cut_here in
      let j = runs_join M c m X1 X2 in
      let events : length (events_of bus whole) ≡ length E1 + length E2 = ap length (events_cut bus ws ys) ∙ length-append E1 E2 in
      let clocks : clocks_in (events_of bus whole) ≡ clocks_in E1 + clocks_in E2 = ap clocks_in (events_cut bus ws ys) ∙ clocks_append E1 E2 in
      let ends : ends_in X ≡ ends_in X1 + ends_in X2 = ap ends_in e ∙ ends_append X1 X2 in
      let cycles : cycles_of M c X ≡ cycles_of M c X1 + cycles_of M c1 X2 = ap (cycles_of M c) e ∙ j.3 in
      let chip : after_of M c X ≡ after_of M c1 X2 = ap (after_of M c) e ∙ j.0 in
      let stored : memory_of M c m X ≡ memory_of M c1 m1 X2 = ap (memory_of M c m) e ∙ j.1 in
      let mark : mark_from M c m 0 0 (rises_of bus whole) X ≡ sooner_mark (mark_from M c m 0 0 R1 X1) (later_mark (length ws + 1) (clocks_in E1) (mark_from M c1 m1 0 0 R2 X2)) =
      ap (mark_from M c m 0 0 (rises_of bus whole)) e ∙ mark_cut in
      λ i. record {
        answer = record { verdict = Ok tt; events = events i; clocks = clocks i; ends = ends i; cycles = cycles i; mark = mark i; chip = chip i };
        mem = stored i;
      }

  -- the chip and the buffers that the first piece leaves
  left_usable : Typed c → Usable part en c (length m.cells) (length m.ident) → Usable part en c1 (length m1.cells) (length m1.ident)
  left_usable t u =
      let l = memory_lengths (facts_of part) en c m X1 in
      record {
        known = u.known;
        enabled = u.enabled;
        lent = rw (l.0, l.1) u.lent;
        ranged = (range_kept_by_runs part en old c X1 (all_taken (facts_of part) X1 (with_below M c E1 (events_below bus front))) t u.ranged).0;
      }

  pub pieces : Typed c → verdict part en c m whole ≡ Ok tt
      → (verdict part en c m front ≡ Ok tt) × (verdict part en c1 m1 (3 ∷ ys) ≡ Ok tt)
  pieces t h =
      let w = fine_parts part en c m whole h in
      let a = below_left 4 ws (1 ∷ 3 ∷ ys) w.1 in
      let b = below_right 4 ws (1 ∷ 3 ∷ ys) w.1 in (
        parts_fine part en c m front w.0 (below_append 4 ws (1 ∷ 3 ∷ []) a (omega arith, (omega arith, tt))),
        parts_fine part en c1 m1 (3 ∷ ys) (left_usable t w.0) b.1,
      )

  -- the first piece, as it was answered
  rest : (a : SeenLeft) → a ≡ seen_left_of M c m bus front (Ok tt) → verdict part en c1 m1 (3 ∷ ys) ≡ Ok tt
      → seen_left_of M c m bus whole (Ok tt) ≡ joined (length ws + 1) a.answer (seeing_of part en a.answer.chip a.mem bus (3 ∷ ys))
  rest a e v =
      both_run
      ∙ ap (λ (x : Verdict). joined (length ws + 1) (seen_by M c m bus front (Ok tt)) (seen_left_of M c1 m1 bus (3 ∷ ys) x)) (sym v)
      ∙ ap (λ (x : SeenLeft). joined (length ws + 1) x.answer (seeing_of part en x.answer.chip x.mem bus (3 ∷ ys))) (sym e)

pub pieces_join : PiecesJoin seeing_of
pieces_join part en c m bus ws ys t h =
    let M = ours (facts_of part) en in
    let w = verdict_fine M c m bus (ws ++ 1 ∷ 3 ∷ ys) (verdict part en c m (ws ++ 1 ∷ 3 ∷ ys)) h in
    let p = pieces part en c m bus ws ys t w in (
      ap (λ (v : Verdict). (seen_by M c m bus (ws ++ 1 ∷ 3 ∷ []) v).verdict) p.0,
      ap (seen_left_of M c m bus (ws ++ 1 ∷ 3 ∷ ys)) w
          ∙ rest part en c m bus ws ys (seeing_of part en c m bus (ws ++ 1 ∷ 3 ∷ [])) (ap (seen_left_of M c m bus (ws ++ 1 ∷ 3 ∷ [])) p.0) p.1,
    )

-- ---- a sample repeated

module _ (part en : ℕ) (c : Chip) (m : Mem) (bus : Bool) (ws ys : List ℕ) (s : ℕ) where
  abbrev once : List ℕ
  once = ws ++ s ∷ ys

  abbrev twice : List ℕ
  twice = ws ++ s ∷ s ∷ ys

  fine_twice : verdict part en c m once ≡ Ok tt → verdict part en c m twice ≡ Ok tt
  fine_twice h =
      let w = fine_parts part en c m once h in
      let a = below_left 4 ws (s ∷ ys) w.1 in
      let b = below_right 4 ws (s ∷ ys) w.1 in
      parts_fine part en c m twice w.0 (below_append 4 ws (s ∷ s ∷ ys) a (b.0, b))

  abbrev X : List ℕ
  X = with_ends_of (ours (facts_of part) en) c (events_of bus once)

  mark_repeat : mark_from (ours (facts_of part) en) c m 0 0 (rises_of bus twice) X ≡ moved_mark (length ws + 1) (mark_from (ours (facts_of part) en) c m 0 0 (rises_of bus once) X)
  mark_repeat =
      ap (λ (l : List ℕ). mark_from (ours (facts_of part) en) c m 0 0 l X) (rises_repeat bus s ws ys)
      ∙ mark_moved (ours (facts_of part) en) c m 0 0 0 0 (map (moved_past (length ws + 1)) (rises_of bus once)) (rises_of bus once) (moved_past (length ws + 1)) X (omega arith)
      (λ i l. map_at (moved_past (length ws + 1)) (rises_of bus once) (0 + i) (omega (arith, rises_clocks bus once, clocks)))
      ∙ same (mark_from (ours (facts_of part) en) c m 0 0 (rises_of bus once) X)
    where
      clocks : clocks_in X ≡ clocks_in (events_of bus once)
      clocks = sym (stripped_clocks X) ∙ ap clocks_in (stripped_with (ours (facts_of part) en) c (events_of bus once) (events_below bus once))

      same : (k : Mark) → moved_by (moved_past (length ws + 1)) 0 k ≡ moved_mark (length ws + 1) k
      same Same = refl
      same (At x n v) = ap (λ (j : ℕ). At (moved_past (length ws + 1) x) j v) (zero-add n)

  run_repeat : seen_left_of (ours (facts_of part) en) c m bus twice (Ok tt)
      ≡ with_mark (seen_left_of (ours (facts_of part) en) c m bus once (Ok tt)) (moved_mark (length ws + 1) (seen_by (ours (facts_of part) en) c m bus once (Ok tt)).mark)
  run_repeat =
      ap (λ (es : List ℕ). over es (mark_from (ours (facts_of part) en) c m 0 0 (rises_of bus twice) (with_ends_of (ours (facts_of part) en) c es))) (events_repeat bus s ws ys)
      ∙ ap (over (events_of bus once)) mark_repeat
    where
      over : List ℕ → Mark → SeenLeft
      over es k =
          with_mark
          record {
            answer = seen_over (ours (facts_of part) en) c m [] es (with_ends_of (ours (facts_of part) en) c es);
            mem = memory_of (ours (facts_of part) en) c m (with_ends_of (ours (facts_of part) en) c es);
          }
          k

  twice_run : (v w : Verdict) → v ≡ Ok tt → w ≡ Ok tt
      → seen_left_of (ours (facts_of part) en) c m bus twice v
      ≡ with_mark (seen_left_of (ours (facts_of part) en) c m bus once w) (moved_mark (length ws + 1) (seen_by (ours (facts_of part) en) c m bus once w).mark)
  twice_run v w e h = rw (e, h) run_repeat

pub repeats_left_out : RepeatsLeftOut seeing_of
repeats_left_out part en c m bus ws ys s h =
    let w = verdict_fine (ours (facts_of part) en) c m bus (ws ++ s ∷ ys) (verdict part en c m (ws ++ s ∷ ys)) h in
    twice_run part en c m bus ws ys s (verdict part en c m (ws ++ s ∷ s ∷ ys)) (verdict part en c m (ws ++ s ∷ ys)) (fine_twice part en c m bus ws ys s w) w
