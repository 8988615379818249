-- The total comes from the history: while no count stands at the top, the sum of the counts grows by what the history has.
-- Assumes nothing.
use Prim.Native.Nat.{ℕ, zero, suc, ◌+◌, ◌<◌}
use mathlib.Core.Path.{◌≡◌, ◌∙◌, refl, sym, ap}
use mathlib.Core.Bool.{Bool, true, false, cond, ◌&&◌}
use mathlib.Core.List.{List, [], ◌∷◌}
use native.Mathlib.Decide.{dec_lt}
use native.Mathlib.Omega.{arith}
use lib.ListN.{length, get_or}
use Rattle.parts.specs.declared.Facts.{Facts}
use Rattle.parts.specs.Table.{facts_of, groups_of}
use Rattle.parts.specs.Events.{event_of}
use Rattle.parts.specs.Bytes.{flag_of, topped}
use Rattle.parts.proofs.Bytes.{top_low, top_high}
use Rattle.chip_promises.specs.Stops.{Byte, Watch, watch_of, watch_at}
use Rattle.wear.specs.Report.{sum_of}
use Rattle.wear.specs.Calls.{wear_of}
use Rattle.wear_promises.specs.History.{touches_of, touches_below, pending_of, completes_of, times_of, touched_in}
use Rattle.wear_promises.specs.Counts.{NoneAtTop, Worn, unworn, wear_calls_by, TotalIsHistory}
use Rattle.wear_promises.proofs.Worn.{below_get}
use Rattle.wear_promises.proofs.Counts.{wear_is_history}

-- ---- sums of the first n

abbrev pub sum_to : (ℕ → ℕ) → ℕ → ℕ
sum_to F zero = 0
sum_to F (suc n) = F n + sum_to F n

pub sum-zero : (n : ℕ) → 0 ≡ sum_to (λ i. 0) n
sum-zero zero = refl
sum-zero (suc n) = omega (arith, sum-zero n)

pub sum_plus : (F G : ℕ → ℕ) (n : ℕ) → sum_to (λ i. F i + G i) n ≡ sum_to F n + sum_to G n
sum_plus F G zero = omega arith
sum_plus F G (suc n) = omega (arith, sum_plus F G n)

sum_same : (F G : ℕ → ℕ) (n : ℕ) → ((i : ℕ) → i < n → F i ≡ G i) → sum_to F n ≡ sum_to G n
sum_same F G zero e = refl
sum_same F G (suc n) e = omega (arith, e n (omega arith), sum_same F G n (λ i h. e i (omega arith)))

sum_first : (F : ℕ → ℕ) (n : ℕ) → sum_to F (suc n) ≡ F 0 + sum_to (λ i. F (suc i)) n
sum_first F zero = refl
sum_first F (suc n) = omega (arith, sum_first F n)

sum_of_lem : (l : List ℕ) → sum_of l ≡ sum_to (λ i. get_or l i 0) (length l)
sum_of_lem [] = refl
sum_of_lem (x ∷ l) = ap (λ (z : ℕ). x + z) (sum_of_lem l) ∙ sym (sum_first (λ i. get_or (x ∷ l) i 0) (length l))

-- ---- below the top a count is the sum itself

below_top : (n : ℕ) → topped n < 4294967295 → topped n ≡ n
below_top n h = go (dec_lt n 4294967295)
  where
    go : Dec (n < 4294967295) → topped n ≡ n
    go (yes l) = top_low n (omega arith)
    go (no l) = absurd (omega (arith, top_high n (omega arith), h))

pub grown : (counts after : List ℕ) (T : ℕ → ℕ) (n : ℕ) → length counts ≡ n → length after ≡ n → NoneAtTop after
    → ((i : ℕ) → i < n → get_or after i 0 ≡ topped (get_or counts i 0 + T i)) → sum_of after ≡ sum_of counts + sum_to T n
grown counts after T n size size' low e =
    let one : (i : ℕ) → i < n → get_or after i 0 ≡ get_or counts i 0 + T i =
    (λ (i : ℕ) h. e i h ∙ below_top (get_or counts i 0 + T i) (omega (arith, e i h, below_get 4294967295 after i (omega arith) low))) in
    sum_of_lem after
    ∙ (ap (λ (z : ℕ). sum_to (λ i. get_or after i 0) z) size'
    ∙ (sum_same (λ i. get_or after i 0) (λ i. get_or counts i 0 + T i) n one
    ∙ (sum_plus (λ i. get_or counts i 0) T n
    ∙ ap (λ (z : ℕ). z + sum_to T n) (sym (sum_of_lem counts ∙ ap (λ (z : ℕ). sum_to (λ i. get_or counts i 0) z) size)))))

-- ---- over the groups, how often each was touched is how many the cycles touched

below_sum : (b : Bool) (f : Facts) (p : List Byte) (k : ℕ) → cond b (touches_below f p k) 0 ≡ sum_to (λ n. flag_of (b && touches_of f p n)) k
below_sum true f p zero = refl
below_sum true f p (suc k) = ap (λ (z : ℕ). flag_of (touches_of f p k) + z) (below_sum true f p k)
below_sum false f p k = sum-zero k

pub times_sum : (f : Facts) (w : Watch) (p : List Byte) (es xs : List ℕ) → touched_in f w p es xs ≡ sum_to (λ n. times_of f w p es xs n) (groups_of f)
unfolding times_of touched_in
times_sum f w p [] xs = sum-zero (groups_of f)
times_sum f w p (e ∷ es) [] = sum-zero (groups_of f)
times_sum f w p (e ∷ es) (x ∷ xs) =
    let w' : Watch = watch_of f w (event_of e) x in
    let p' : List Byte = pending_of f w.seen p (event_of e) in
    ap (λ (z : ℕ). z + touched_in f w' p' es xs) (below_sum (completes_of w.seen e) f p (groups_of f))
    ∙ (ap (λ (z : ℕ). sum_to (λ n. flag_of (completes_of w.seen e && touches_of f p n)) (groups_of f) + z) (times_sum f w' p' es xs)
    ∙ sym (sum_plus (λ n. flag_of (completes_of w.seen e && touches_of f p n)) (λ n. times_of f w' p' es xs n) (groups_of f)))

pub total_is_history : TotalIsHistory wear_of
total_is_history part en c m counts calls h held low =
    let f : Facts = facts_of part in
    let end : Worn = wear_calls_by wear_of part en (unworn c m counts) calls in
    let r = wear_is_history part en c m counts calls h held in
    grown counts end.counts (λ n. times_of f (watch_at c) [] end.events end.levels n) (groups_of f) held.size r.0.size low r.1
    ∙ ap (λ (z : ℕ). sum_of counts + z) (sym (times_sum f (watch_at c) [] end.events end.levels))
