-- The promises of the tally, kept by ours; and they leave nothing open.
-- Assumes nothing.
use Rattle.std.specs.Prelude.{Ok}
use Prim.Native.Nat.{ℕ, ◌+◌, ◌<◌, ◌≤◌}
use mathlib.Core.Path.{◌≡◌, refl, sym, ap, ◌∙◌}
use mathlib.Core.Bool.{Bool, true, false, ◌&&◌}
use mathlib.Core.Logic.{◌⊎◌, inl, inr}
use mathlib.Core.List.{List, [], ◌∷◌, ◌++◌}
use native.Mathlib.Nat.{add-zero}
use native.Mathlib.Numerals.{add-one}
use native.Mathlib.Omega.{arith}
use lib.ListN.{length}
use lib.Dec.{eqb, ltb}
use borrow.Author.Tests.{lt-ltb, le-ltb, ne_eqb, ltb-true, ltb-false, eqb-true, eqb-false}
use Rattle.parts.specs.Bytes.{AllBelow, flag_of, topped}
use Rattle.parts.specs.Verdict.{Verdict}
use Rattle.parts.proofs.Laws.{branch}
use Rattle.parts.proofs.Bytes.{below_append, below_left, below_right, top_low, up_wide, up_step}
use Rattle.capture.specs.declared.Tally.{Tally}
use Rattle.capture.specs.Samples.{events_of}
use Rattle.capture.specs.Marks.{place_of}
use Rattle.capture.specs.Tallies.{tally, tallied_of, tallies_of, counted_by, counted_of}
use Rattle.capture_promises.specs.Machines.{CountLeft, counting_of}
use Rattle.capture_promises.specs.Running.{place_after}
use Rattle.capture_promises.specs.Pieces.{TallyJoins}
use Rattle.capture_promises.specs.Tallied.{count_of, ninths_from, Wide, TallyCounts, CountNumbers, Counter, CounterPinned}
use Rattle.capture.proofs.Sampled.{judge_fine, fine_judge}
use Rattle.capture_promises.proofs.Rises.{events_below}
use Rattle.capture_promises.proofs.Judged.{FirstBad, judged, bad_judge}
use Rattle.capture_promises.proofs.Cuts.{events_cut, place_cut}

-- ---- the ninth clocks

ninths_step : (place e : ℕ) (es : List ℕ) → place ≤ 8 → e < 4
    → (length (ninths_from place (e ∷ es)) ≡ flag_of (eqb place 8 && ltb e 2) + length (ninths_from (place_of place e) es))
    × (count_of 1 (ninths_from place (e ∷ es)) ≡ flag_of (eqb place 8 && eqb e 1) + count_of 1 (ninths_from (place_of place e) es))
unfolding place_of
ninths_step place e es h g = go (ltb e 2) refl (eqb place 8) refl
  where
    go : (a : Bool) → ltb e 2 ≡ a → (b : Bool) → eqb place 8 ≡ b
        → (length (ninths_from place (e ∷ es)) ≡ flag_of (eqb place 8 && ltb e 2) + length (ninths_from (place_of place e) es))
        × (count_of 1 (ninths_from place (e ∷ es)) ≡ flag_of (eqb place 8 && eqb e 1) + count_of 1 (ninths_from (place_of place e) es))
    go true k true l = rw (k, l, le-ltb place 8 (omega (arith, eqb-true place 8 l))) (omega arith, refl)
    go true k false l =
        let small : place < 8 = omega (arith, eqb-false place 8 l) in
        rw (k, l, lt-ltb place 8 small, add-one) (omega arith, omega arith)
    go false k true l =
        let big = ltb-false e 2 k in
        rw (k, l, lt-ltb e 4 g, ne_eqb e 1 (λ (q : e ≡ 1). omega (arith, big, q))) (omega arith, omega arith)
    go false k false l = rw (k, l, lt-ltb e 4 g) (omega arith, omega arith)

place_below : (place e : ℕ) → place ≤ 8 → place_of place e ≤ 8
unfolding place_of
place_below place e h =
    branch Q (ltb e 2) (λ _. branch Q (ltb place 8) (λ l. omega (arith, ltb-true place 8 l)) (λ _. omega arith)) (λ _.
    branch Q (ltb e 4) (λ _. omega arith) (λ _. h))
  where
    Q : ℕ → Type 0
    Q n = n ≤ 8

-- ---- all four over a run

abbrev counts : Tally → ℕ → List ℕ → Tally
counts t place es =
    tally
    (topped (t.starts + count_of 2 es))
    (topped (t.stops + count_of 3 es))
    (topped (t.bytes + length (ninths_from place es)))
    (topped (t.unacknowledged + count_of 1 (ninths_from place es)))

wide_step : (t : Tally) (place e : ℕ) → Wide t → Wide (tallied_of t place e)
unfolding tallied_of
wide_step t place e w =
    record {
      starts = up_wide t.starts (eqb e 2) w.starts;
      stops = up_wide t.stops (eqb e 3) w.stops;
      bytes = up_wide t.bytes (eqb place 8 && ltb e 2) w.bytes;
      unacknowledged = up_wide t.unacknowledged (eqb place 8 && eqb e 1) w.unacknowledged;
    }

same_tally : {a b c d a' b' c' d' : ℕ} → a ≡ a' → b ≡ b' → c ≡ c' → d ≡ d' → tally a b c d ≡ tally a' b' c' d'
same_tally p q r s = cc

count_step : (t : Tally) (place e : ℕ) (es : List ℕ) → Wide t → place ≤ 8 → e < 4 → counts (tallied_of t place e) (place_of place e) es ≡ counts t place (e ∷ es)
unfolding tallied_of
count_step t place e es w h g =
    let ninths = ninths_step place e es h g in
    same_tally
    (up_step t.starts (count_of 2 es) (eqb e 2) w.starts)
    (up_step t.stops (count_of 3 es) (eqb e 3) w.stops)
    (up_step t.bytes (length (ninths_from (place_of place e) es)) (eqb place 8 && ltb e 2) w.bytes
    ∙ ap (λ (n : ℕ). topped (t.bytes + n)) (sym ninths.0))
    (up_step t.unacknowledged (count_of 1 (ninths_from (place_of place e) es)) (eqb place 8 && eqb e 1) w.unacknowledged
    ∙ ap (λ (n : ℕ). topped (t.unacknowledged + n)) (sym ninths.1))

run : (t : Tally) (place : ℕ) (es : List ℕ) → Wide t → place ≤ 8 → AllBelow 4 es → tallies_of t place es ≡ counts t place es
run t place [] w h g =
    same_tally (stays t.starts w.starts) (stays t.stops w.stops) (stays t.bytes w.bytes) (stays t.unacknowledged w.unacknowledged)
  where
    stays : (n : ℕ) → n < 4294967296 → n ≡ topped (n + 0)
    stays n l = rw add-zero (sym (top_low n l))
run t place (e ∷ es) w h g =
    run (tallied_of t place e) (place_of place e) es (wide_step t place e w) (place_below place e h) g.1 ∙ count_step t place e es w h g.0

-- ---- the call

counting_fine : (t : Tally) (bus : Bool) (ss : List ℕ) → AllBelow 4 ss → counting_of t bus ss ≡ record { verdict = Ok tt; tally = tallies_of t 0 (events_of bus ss) }
unfolding counted_of
counting_fine t bus ss h = ap (λ (v : Verdict). record { verdict = v; tally = counted_by t bus ss v }) (fine_judge ss h)

pub tally_counts : TallyCounts counting_of
tally_counts t bus ss w h =
    counting_fine t bus ss h ∙ ap (λ (u : Tally). record { verdict = Ok tt; tally = u }) (run t 0 (events_of bus ss) w (omega arith) (events_below bus ss))

pub count_numbers : CountNumbers counting_of
unfolding counted_of
count_numbers t bus ss k l h g = ap (λ (v : Verdict). record { verdict = v; tally = counted_by t bus ss v }) (bad_judge ss k l h g)

pub counter : Counter counting_of
counter = record { counts = tally_counts; numbers = count_numbers }

pub counter_pinned : CounterPinned
counter_pinned count other c d t bus ss w = go (judged ss)
  where
    go : AllBelow 4 ss ⊎ FirstBad ss → count t bus ss ≡ other t bus ss
    go (inl h) = c.counts t bus ss w h ∙ sym (d.counts t bus ss w h)
    go (inr f) = c.numbers t bus ss f.place f.there f.before f.above ∙ sym (d.numbers t bus ss f.place f.there f.before f.above)

-- ---- in pieces

tallies_append : (t : Tally) (place : ℕ) (xs ys : List ℕ) → tallies_of t place (xs ++ ys) ≡ tallies_of (tallies_of t place xs) (place_after place xs) ys
tallies_append t place [] ys = refl
tallies_append t place (x ∷ xs) ys = tallies_append (tallied_of t place x) (place_of place x) xs ys

joins : (t : Tally) (bus : Bool) (ws ys : List ℕ)
    → tallies_of t 0 (events_of bus (ws ++ 1 ∷ 3 ∷ ys)) ≡ tallies_of (tallies_of t 0 (events_of bus (ws ++ 1 ∷ 3 ∷ []))) 0 (events_of bus (3 ∷ ys))
joins t bus ws ys =
    ap (tallies_of t 0) (events_cut bus ws ys)
    ∙ tallies_append t 0 (events_of bus (ws ++ 1 ∷ 3 ∷ [])) (events_of bus (3 ∷ ys))
    ∙ ap (λ (p : ℕ). tallies_of (tallies_of t 0 (events_of bus (ws ++ 1 ∷ 3 ∷ []))) p (events_of bus (3 ∷ ys))) (place_cut bus ws)

pub tally_joins : TallyJoins counting_of
tally_joins t bus ws ys fine =
    let whole = judge_fine (ws ++ 1 ∷ 3 ∷ ys) fine in
    let right = below_right 4 ws (1 ∷ 3 ∷ ys) whole in
    let left = below_append 4 ws (1 ∷ 3 ∷ []) (below_left 4 ws (1 ∷ 3 ∷ ys) whole) (omega arith) in
    let first = ap (λ (a : CountLeft). a.tally) (counting_fine t bus (ws ++ 1 ∷ 3 ∷ []) left) in
    counting_fine t bus (ws ++ 1 ∷ 3 ∷ ys) whole
    ∙ ap (λ (u : Tally). record { verdict = Ok tt; tally = u }) (joins t bus ws ys)
    ∙ sym (ap (λ (u : Tally). counting_of u bus (3 ∷ ys)) first ∙ counting_fine (tallies_of t 0 (events_of bus (ws ++ 1 ∷ 3 ∷ []))) bus (3 ∷ ys) right.1)
