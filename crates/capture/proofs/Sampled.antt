-- Laws of samples: which are refused, what a run of equal samples makes, and what is left of a capture from a sample on.
-- Assumes nothing.
use Rattle.std.specs.Prelude.{Ok, Err}
use Prim.Native.Nat.{ℕ, zero, suc, ◌+◌, ◌-◌, ◌/◌, ◌%◌, ◌≤◌, ◌<◌}
use mathlib.Core.Path.{◌≡◌, ◌∙◌, refl, sym, ap}
use mathlib.Core.Bool.{Bool, true, false, not, cond, ◌&&◌}
use mathlib.Core.List.{List, [], ◌∷◌, ◌++◌, append-nil, append_assoc}
use native.Mathlib.Numerals.{add-one}
use native.Mathlib.Nat.{add-zero}
use native.Mathlib.Omega.{arith}
use lib.ListN.{length, get_or, take, drop, set, drop_of_length-le, take-append-drop}
use lib.Seq.{drop-cons, drop-drop, take-suc-set, drop-set-lt}
use lib.Dec.{eqb, ltb}
use borrow.Author.Tests.{lt-ltb, le-ltb, eq-eqb, ne_eqb, ltb-true, ltb-false, eqb-true, eqb-false}
use Rattle.parts.specs.Verdict.{Verdict}
use Rattle.parts.specs.declared.Refusal.{Refusal}
use Rattle.parts.specs.declared.Refusal.TheVariants.{BadSample, ShortBuffer}
use Rattle.parts.specs.Bytes.{AllBelow, all_below_of}
use Rattle.parts.specs.Refusals.{rank_of, claim_of, sooner_of}
use Rattle.parts.proofs.Tests.{either}
use Rattle.parts.proofs.Bytes.{low_before}
use Rattle.parts.proofs.Laws.{branch, passed}
use Rattle.parts.proofs.Claims.{Later, later_claim, given_first}
use Rattle.capture.specs.Samples.{clock_in, data_in, still_of, pair_of, events_from, events_of, rises_in, rises_from, rises_of, judge_from, judge_of}
use Rattle.capture.specs.Ends.{acked_of}
use Rattle.capture.specs.Calls.{list_verdict_of}
use Rattle.capture.specs.Steps.{SameTo, falls_of, code_of, left_of, rises_left, one_of}

-- ---- samples above 3

clear_from : (k : ℕ) (ss : List ℕ) → all_below_of 4 true ss ≡ true → Ok tt ≡ judge_from k ss
unfolding all_below_of
clear_from k [] h = refl
clear_from k (s ∷ ss) h =
    let small : ltb s 4 ≡ true = low_before 4 (ltb s 4) ss h in
    rw (le-ltb 3 s (omega (arith, ltb-true s 4 small))) (clear_from (suc k) ss (rw small at h))

pub judge_clear : (ss : List ℕ) → all_below_of 4 true ss ≡ true → Ok tt ≡ judge_of ss
unfolding judge_of
judge_clear ss h = clear_from 0 ss h

pub judge_step : (i : ℕ) (ss : List ℕ) → i < length ss → get_or ss i 0 ≤ 3 → judge_from (i + 1) (drop (i + 1) ss) ≡ judge_from i (drop i ss)
judge_step i ss h l = rw (add-one, drop-cons ss i 0 h) (rw (le-ltb 3 (get_or ss i 0) l) refl)

pub judge_stop : (i : ℕ) (ss : List ℕ) → i < length ss → 3 < get_or ss i 0 → Err (BadSample i) ≡ judge_from i (drop i ss)
judge_stop i ss h l = rw (drop-cons ss i 0 h) (rw (lt-ltb 3 (get_or ss i 0) l) refl)

pub judge_end : (i : ℕ) (ss : List ℕ) → length ss ≤ i → Ok tt ≡ judge_from i (drop i ss)
judge_end i ss h = rw (drop_of_length-le ss h) refl

-- a capture that is not refused has no sample above 3, and the other way round

fine_from : (k : ℕ) (ss : List ℕ) → judge_from k ss ≡ Ok tt → AllBelow 4 ss
fine_from k [] h = tt
fine_from k (s ∷ ss) h =
    let w = passed (ltb 3 s) (BadSample k) (judge_from (suc k) ss) h in
    (omega (arith, ltb-false 3 s w.0), fine_from (suc k) ss w.1)

pub judge_fine : (ss : List ℕ) → judge_of ss ≡ Ok tt → AllBelow 4 ss
unfolding judge_of
judge_fine ss h = fine_from 0 ss h

from_fine : (k : ℕ) (ss : List ℕ) → AllBelow 4 ss → judge_from k ss ≡ Ok tt
from_fine k [] h = refl
from_fine k (s ∷ ss) h = rw (le-ltb 3 s (omega (arith, h.0))) (from_fine (suc k) ss h.1)

pub fine_judge : (ss : List ℕ) → AllBelow 4 ss → judge_of ss ≡ Ok tt
unfolding judge_of
fine_judge ss h = from_fine 0 ss h

-- no refusal but 20 is given: those behind it leave it as it is

later_from : (n k : ℕ) (ss : List ℕ) → n ≤ rank_of (BadSample 0) → Later n (judge_from k ss)
later_from n k [] h = tt
later_from n k (s ∷ ss) h = branch (Later n) (ltb 3 s) (λ _. h) (λ _. later_from n (suc k) ss h)

pub judge_later : (n : ℕ) (ss : List ℕ) → n ≤ rank_of (BadSample 0) → Later n (judge_of ss)
unfolding judge_of
judge_later n ss h = later_from n 0 ss h

-- a refusal of the samples goes before any of a rank that is not lower
abbrev pub Sooner : Verdict → Type 0
Sooner (Ok _) = Unit {0}
Sooner (Err r) = rank_of r ≤ rank_of (BadSample 0)

sooner_from : (k : ℕ) (ss : List ℕ) → Sooner (judge_from k ss)
sooner_from k [] = tt
sooner_from k (s ∷ ss) = branch Sooner (ltb 3 s) (λ _. omega arith) (λ _. sooner_from (suc k) ss)

pub judge_sooner : (ss : List ℕ) → Sooner (judge_of ss)
unfolding judge_of
judge_sooner ss = sooner_from 0 ss

pub judge_first : (ss : List ℕ) (r : Refusal) (v : Verdict) → judge_of ss ≡ Err r → Later (rank_of (BadSample 0)) v → sooner_of (Err r) v ≡ Err r
judge_first ss r v e h = given_first r v (lower v h)
  where
    low : rank_of r ≤ rank_of (BadSample 0)
    low = rw e at (judge_sooner ss)

    lower : (v : Verdict) → Later (rank_of (BadSample 0)) v → Later (rank_of r) v
    lower (Ok _) h = tt
    lower (Err s) h = omega (arith, low, h)

pub judge_short : (ss : List ℕ) (r : Refusal) (b : Bool) → judge_of ss ≡ Err r → sooner_of (Err r) (claim_of b ShortBuffer) ≡ Err r
judge_short ss r b e = judge_first ss r (claim_of b ShortBuffer) e (later_claim (rank_of (BadSample 0)) b ShortBuffer (omega arith))

-- ---- a run of equal samples

pub below_in : (n : ℕ) (l : List ℕ) → AllBelow n l → (i : ℕ) → i < length l → get_or l i 0 < n
below_in n [] h i g = absurd (omega arith)
below_in n (x ∷ l) h zero g = h.0
below_in n (x ∷ l) h (suc i) g = below_in n l h.1 i (omega arith)

pub same_more : (ss : List ℕ) (s from i : ℕ) → ((k : ℕ) → from ≤ k → k < i → get_or ss k 0 ≡ s) → get_or ss i 0 ≡ s → (k : ℕ) → from ≤ k → k < i + 1 → get_or ss k 0 ≡ s
same_more ss s from i h e k l g = either (ltb k i) (λ t. h k l (ltb-true k i t)) (λ t. last (ltb-false k i t))
  where
    last : i ≤ k → get_or ss k 0 ≡ s
    last t = let same : k ≡ i = omega arith in ap (λ (n : ℕ). get_or ss n 0) same ∙ e

module _ {A : Type 0} (f : ℕ → List ℕ → A) (s : ℕ) (ss : List ℕ) (on : (k : ℕ) (l : List ℕ) → f k (s ∷ l) ≡ f (suc k) l) where
  run_on : (n i : ℕ) → i + n ≤ length ss → ((k : ℕ) → i ≤ k → k < i + n → get_or ss k 0 ≡ s) → f i (drop i ss) ≡ f (i + n) (drop (i + n) ss)
  run_on zero i h g = rw add-zero refl
  run_on (suc n) i h g =
      let here : get_or ss i 0 ≡ s = g i (omega arith) (omega arith) in
      let next : suc i + n ≡ i + suc n = omega arith in
      ap (f i) (drop-cons ss i 0 (omega arith)) ∙ ap (λ (x : ℕ). f i (x ∷ drop (suc i) ss)) here ∙ on i (drop (suc i) ss)
      ∙ run_on n (suc i) (omega arith) (λ k a b. g k (omega arith) (omega arith)) ∙ ap (λ (j : ℕ). f j (drop j ss)) next

  -- what looks past a sample that is s looks past all of a run
  pub run_past : (i j : ℕ) → i ≤ j → j ≤ length ss → ((k : ℕ) → i ≤ k → k < j → get_or ss k 0 ≡ s) → f i (drop i ss) ≡ f j (drop j ss)
  run_past i j h l g =
      let there : i + (j - i) ≡ j = omega arith in
      run_on (j - i) i (omega arith) (λ k a b. g k a (omega arith)) ∙ ap (λ (n : ℕ). f n (drop n ss)) there

same_none : (b : Bool) (d : ℕ) (x y : List ℕ) → cond b [] (cond b x (cond (eqb d d) [] y)) ≡ []
same_none true d x y = refl
same_none false d x y = rw (eq-eqb d d refl)

pub pair_same : (bus : Bool) (s : ℕ) (ss : List ℕ) → pair_of bus s s ss ≡ []
pair_same bus s ss = same_none (eqb (clock_in s) 0) (data_in s) (cond (bus && not (still_of (data_in s) ss)) [] (data_in s ∷ [])) (cond (eqb (data_in s) 0) (2 ∷ []) (3 ∷ []))

pub events_same : (bus : Bool) (s : ℕ) (ss : List ℕ) → events_from bus s (s ∷ ss) ≡ events_from bus s ss
events_same bus s ss = rw (pair_same bus s ss) refl

pub rises_same : (bus : Bool) (s k : ℕ) (ss : List ℕ) → rises_from bus s k (s ∷ ss) ≡ rises_from bus s (suc k) ss
rises_same bus s k ss = rw (pair_same bus s ss) refl

pub still_same : (s : ℕ) (ss : List ℕ) → eqb (clock_in s) 0 ≡ false → still_of (data_in s) (s ∷ ss) ≡ still_of (data_in s) ss
still_same s ss h = rw (h, eq-eqb (data_in s) (data_in s) refl) refl

-- where a run ends, data stay still if the clock falls there or nothing comes
pub still_end : (s : ℕ) (ss : List ℕ) (i : ℕ) → s < 4 → eqb (clock_in s) 0 ≡ false → AllBelow 4 ss → (i < length ss → get_or ss i 0 ≡ s → ⊥)
    → still_of (data_in s) (drop i ss) ≡ falls_of ss i
unfolding falls_of
still_end s ss i hs odd low g = either (ltb i (length ss)) (λ t. there (ltb-true i (length ss) t)) (λ t. past (ltb-false i (length ss) t))
  where
    other : (y : ℕ) (l : List ℕ) → y < 4 → (y ≡ s → ⊥) → still_of (data_in s) (y ∷ l) ≡ eqb (y % 2) 0
    other y l hy d =
        either (eqb (y % 2) 0) (λ e. rw e refl) (λ e.
        let high : y % 2 ≡ 0 → ⊥ = eqb-false (y % 2) 0 e in
        let up : s % 2 ≡ 0 → ⊥ = eqb-false (s % 2) 0 odd in
        rw (e, ne_eqb (data_in s) (data_in y) (λ q. d (omega arith))) refl)

    past : length ss ≤ i → still_of (data_in s) (drop i ss) ≡ cond (ltb i (length ss)) (eqb (get_or ss i 0 % 2) 0) true
    past t = rw (drop_of_length-le ss t, le-ltb i (length ss) t) refl

    there : i < length ss → still_of (data_in s) (drop i ss) ≡ cond (ltb i (length ss)) (eqb (get_or ss i 0 % 2) 0) true
    there t = rw (lt-ltb i (length ss) t, drop-cons ss i 0 t) (other (get_or ss i 0) (drop (suc i) ss) (below_in 4 ss low i (omega arith)) (g t))

-- ---- what one sample makes

one_or : (u : Bool) (d : ℕ) → d < 4 → one_of (cond u 9 d) ≡ cond u [] (d ∷ [])
one_or true d h = refl
one_or false d h = rw (lt-ltb d 4 h) refl

pub code_pair : (bus : Bool) (before s : ℕ) (ss : List ℕ) → before < 4 → s < 4 → one_of (code_of bus before s (still_of (data_in s) ss)) ≡ pair_of bus before s ss
unfolding code_of
code_pair bus before s ss hb hs =
    either (eqb (s % 2) 0) (λ e. rw e refl) (λ e.
    either (eqb (before % 2) 0) (λ f. rw (e, f) (rise e)) (λ f. rw (e, f) (turn e f)))
  where
    rise : eqb (s % 2) 0 ≡ false → one_of (cond (bus && not (still_of (data_in s) ss)) 9 (s / 2)) ≡ cond (bus && not (still_of (data_in s) ss)) [] (data_in s ∷ [])
    rise e =
        let small : s / 2 ≡ data_in s = omega arith in
        let u = bus && not (still_of (data_in s) ss) in
        ap (λ (d : ℕ). one_of (cond u 9 d)) small ∙ one_or u (data_in s) (omega arith)

    turn : eqb (s % 2) 0 ≡ false → eqb (before % 2) 0 ≡ false
        → one_of (cond (eqb before s) 9 (cond (eqb s 1) 2 3)) ≡ cond (eqb (data_in before) (data_in s)) [] (cond (eqb (data_in s) 0) (2 ∷ []) (3 ∷ []))
    turn e f =
        let odd : s % 2 ≡ 0 → ⊥ = eqb-false (s % 2) 0 e in
        let odd' : before % 2 ≡ 0 → ⊥ = eqb-false (before % 2) 0 f in
        either (eqb before s) (λ g. let same = eqb-true before s g in rw (g, eq-eqb (data_in before) (data_in s) (omega arith)) refl) (λ g.
        let other = eqb-false before s g in
        rw (g, ne_eqb (data_in before) (data_in s) (λ q. other (omega arith)))
        (either (eqb s 1) (λ h. let one = eqb-true s 1 h in rw (h, eq-eqb (data_in s) 0 (omega arith)) refl) (λ h.
        let not-one = eqb-false s 1 h in
        rw (h, ne_eqb (data_in s) 0 (λ q. not-one (omega arith))) refl)))

-- ---- what is left from a sample on

pub left_start : (bus : Bool) (ss : List ℕ) → events_of bus ss ≡ left_of bus ss 1
unfolding events_of
left_start bus [] = refl
left_start bus (s ∷ ss) = refl

pub rises_start : (bus : Bool) (ss : List ℕ) → rises_of bus ss ≡ rises_left bus ss 1
unfolding rises_of
rises_start bus [] = refl
rises_start bus (s ∷ ss) = refl

-- a sample and the run that it begins
module _ (bus : Bool) (ss : List ℕ) (i end : ℕ) (low : AllBelow 4 ss) (h : i < length ss) (w : SameTo ss (get_or ss i 0) (i + 1) end) where
  run_same : (k : ℕ) → suc i ≤ k → k < end → get_or ss k 0 ≡ get_or ss i 0
  run_same k a b = w.same k (omega arith) b

  run_last : get_or ss (end - 1) 0 ≡ get_or ss i 0
  run_last =
      let on : i + 1 ≤ end = w.onward in
      either (eqb end (i + 1)) (λ e. let at_i : end - 1 ≡ i = omega (arith, eqb-true end (i + 1) e) in ap (λ (k : ℕ). get_or ss k 0) at_i) (λ e.
      let more = eqb-false end (i + 1) e in
      w.same (end - 1) (omega arith) (omega arith))

  run_still : eqb (clock_in (get_or ss i 0)) 0 ≡ false → still_of (data_in (get_or ss i 0)) (drop (suc i) ss) ≡ falls_of ss end
  run_still odd =
      run_past (λ _ l. still_of (data_in (get_or ss i 0)) l) (get_or ss i 0) ss (λ _ l. still_same (get_or ss i 0) l odd) (suc i) end (omega (arith, w.onward)) w.within run_same
      ∙ still_end (get_or ss i 0) ss end (below_in 4 ss low i h) odd low w.stops

  run_code : (before : ℕ) → before < 4 → one_of (code_of bus before (get_or ss i 0) (falls_of ss end)) ≡ pair_of bus before (get_or ss i 0) (drop (suc i) ss)
  unfolding code_of
  run_code before hb =
      either (eqb (clock_in (get_or ss i 0)) 0) (λ e. rw e refl) (λ e.
      ap (λ (t : Bool). one_of (code_of bus before (get_or ss i 0) t)) (sym (run_still e)) ∙ code_pair bus before (get_or ss i 0) (drop (suc i) ss) hb (below_in 4 ss low i h))

  pub left_run : left_of bus ss i ≡ one_of (code_of bus (get_or ss (i - 1) 0) (get_or ss i 0) (falls_of ss end)) ++ left_of bus ss end
  left_run =
      let b = get_or ss (i - 1) 0 in
      let s = get_or ss i 0 in
      ap (events_from bus b) (drop-cons ss i 0 h)
      ∙ ap (λ (l : List ℕ). l ++ events_from bus s (drop (suc i) ss)) (sym (run_code b (below_in 4 ss low (i - 1) (omega arith))))
      ∙ ap (λ (l : List ℕ). one_of (code_of bus b s (falls_of ss end)) ++ l) (run_past (λ _ l. events_from bus s l) s ss (λ _ l. events_same bus s l) (suc i) end (omega (arith, w.onward)) w.within run_same)
      ∙ ap (λ (x : ℕ). one_of (code_of bus b s (falls_of ss end)) ++ events_from bus x (drop end ss)) (sym run_last)

  pub rises_run : rises_left bus ss i ≡ rises_in i (one_of (code_of bus (get_or ss (i - 1) 0) (get_or ss i 0) (falls_of ss end))) ++ rises_left bus ss end
  rises_run =
      let b = get_or ss (i - 1) 0 in
      let s = get_or ss i 0 in
      ap (rises_from bus b i) (drop-cons ss i 0 h)
      ∙ ap (λ (l : List ℕ). rises_in i l ++ rises_from bus s (suc i) (drop (suc i) ss)) (sym (run_code b (below_in 4 ss low (i - 1) (omega arith))))
      ∙ ap (λ (l : List ℕ). rises_in i (one_of (code_of bus b s (falls_of ss end))) ++ l) (run_past (rises_from bus s) s ss (λ k l. rises_same bus s k l) (suc i) end (omega (arith, w.onward)) w.within run_same)
      ∙ ap (λ (x : ℕ). rises_in i (one_of (code_of bus b s (falls_of ss end))) ++ rises_from bus x end (drop end ss)) (sym run_last)

-- one event more, or none
pub one_made : (code : ℕ) (es : List ℕ) → code < 4 → one_of code ++ es ≡ code ∷ es
one_made code es h = rw (lt-ltb code 4 h) refl

pub none_made : (code : ℕ) (es : List ℕ) → 4 ≤ code → one_of code ++ es ≡ es
none_made code es h = rw (le-ltb code 4 h) refl

-- ---- a byte that is acknowledged

pub acked_more : (k code : ℕ) (es : List ℕ) → 1 < k → code ≤ 1 → acked_of k (one_of code ++ es) ≡ acked_of (k - 1) es
acked_more zero code es h g = absurd (omega arith)
acked_more (suc k) code es h g =
    let back : suc k - 1 ≡ k = omega arith in
    rw (one_made code es (omega arith), back) (rw (ne_eqb k 0 (λ e. omega arith), lt-ltb code 2 (omega arith)) refl)

pub acked_last : (code : ℕ) (es : List ℕ) → (4 ≤ code → es ≡ []) → acked_of 1 (one_of code ++ es) ≡ eqb code 0
acked_last code es f =
    either (ltb code 4) (λ t. rw (one_made code es (ltb-true code 4 t)) refl) (λ t.
    let high = ltb-false code 4 t in
    rw (none_made code es high, f high, ne_eqb code 0 (λ e. omega arith)) refl)

-- ---- the events alone

pub list_bad : (bus : Bool) (ss : List ℕ) (room : ℕ) (r : Refusal) → judge_of ss ≡ Err r → list_verdict_of bus ss room ≡ Err r
unfolding list_verdict_of
list_bad bus ss room r e = rw e (judge_short ss r (ltb room (length (events_of bus ss))) e)

list_judged : (bus : Bool) (ss : List ℕ) (room : ℕ) → AllBelow 4 ss → list_verdict_of bus ss room ≡ claim_of (ltb room (length (events_of bus ss))) ShortBuffer
unfolding list_verdict_of sooner_of
list_judged bus ss room h = rw (fine_judge ss h) refl

pub list_short : (bus : Bool) (ss : List ℕ) (room : ℕ) → AllBelow 4 ss → room < length (events_of bus ss) → list_verdict_of bus ss room ≡ Err ShortBuffer
list_short bus ss room h g = list_judged bus ss room h ∙ rw (lt-ltb room (length (events_of bus ss)) g) refl

pub list_fits : (bus : Bool) (ss : List ℕ) (room : ℕ) → AllBelow 4 ss → length (events_of bus ss) ≤ room → list_verdict_of bus ss room ≡ Ok tt
list_fits bus ss room h g = list_judged bus ss room h ∙ rw (le-ltb room (length (events_of bus ss)) g) refl

-- one event more in a buffer: what stands before it and what behind
pub put_before : (out es : List ℕ) (n code : ℕ) (l : List ℕ) → n < length out → take n out ++ (code ∷ l) ≡ es → take (n + 1) (set out n code) ++ l ≡ es
put_before out es n code l h e = rw (add-one, take-suc-set out n code h) (append_assoc (take n out) (code ∷ []) l ∙ e)

pub put_behind : (out was : List ℕ) (n code : ℕ) → drop n out ≡ drop n was → drop (n + 1) (set out n code) ≡ drop (n + 1) was
put_behind out was n code e = drop-set-lt (n + 1) out n code (omega arith) ∙ sym (drop-drop 1 n out) ∙ ap (drop 1) e ∙ drop-drop 1 n was

pub put_all : (out was es l : List ℕ) (n : ℕ) → take n out ++ l ≡ es → drop n out ≡ drop n was → l ≡ [] → n ≡ length es → out ≡ es ++ drop (length es) was
put_all out was es l n e d f m =
    let front : take n out ≡ es = sym (append-nil (take n out)) ∙ ap (λ (k : List ℕ). take n out ++ k) (sym f) ∙ e in
    sym (take-append-drop n out) ∙ ap (λ (k : List ℕ). k ++ drop n out) front ∙ ap (λ (k : List ℕ). es ++ k) d ∙ ap (λ (k : ℕ). es ++ drop k was) m
