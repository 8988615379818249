-- Traces run one after another, each from delivery: what the counts and their sum have in the end is what all the histories have.
-- Assumes nothing.
use Rattle.std.specs.Prelude.{Ok, Err}
use Prim.Native.Nat.{ℕ, ◌+◌, ◌<◌}
use mathlib.Core.Path.{◌≡◌, ◌∙◌, refl, sym, ap}
use mathlib.Core.Bool.{Bool, true, false, cond}
use mathlib.Core.List.{List, [], ◌∷◌, ◌++◌, append-nil}
use native.Mathlib.Nat.{add_assoc}
use native.Mathlib.Omega.{arith}
use lib.ListN.{length, get_or, drop, replicate, length-replicate, drop_of_length-le}
use Rattle.parts.specs.declared.Facts.{Facts}
use Rattle.parts.specs.Verdict.{Verdict}
use Rattle.parts.specs.Table.{facts_of, groups_of}
use Rattle.parts.specs.Refusals.{is_fine}
use Rattle.parts.specs.Bytes.{topped}
use Rattle.parts.proofs.Laws.{sound}
use Rattle.line.specs.declared.Phase.TheVariants.{Idle}
use Rattle.state.specs.declared.Chip.{Chip}
use Rattle.chip.specs.Memory.{Mem}
use Rattle.chip.specs.Delivery.{standby_of, delivered_of}
use Rattle.chip.specs.Model.{Model, old, ours_with}
use Rattle.chip.specs.Runs.{levels_of}
use Rattle.chip_promises.specs.Stops.{Watch, watch_at, fresh_watch}
use Rattle.chip_promises.proofs.Stops.{fresh_is}
use Rattle.wear.specs.Wear.{our_counter}
use Rattle.wear.specs.Report.{sum_of}
use Rattle.wear.specs.Calls.{WearLeft, wear_verdict, wear_left_of, wear_of}
use Rattle.wear_promises.specs.History.{times_of, touched_in}
use Rattle.wear_promises.specs.Counts.{Counts, trace_by, heap_by, heard_of, heap_times, heap_touched, TracesAddUp}
use Rattle.wear_promises.proofs.Times.{Went, still, top_in, went}
use Rattle.wear_promises.proofs.Counts.{meets_at}
use Rattle.wear_promises.proofs.Totals.{sum_to, sum-zero, sum_plus, grown, times_sum}

-- ---- one trace

record Traced (part : ℕ) (counts es : List ℕ) (x : WearLeft) : Type 0 where
  held : Counts part x.counts
  each : (n : ℕ) → n < groups_of (facts_of part)
      → get_or x.counts n 0 ≡ topped (get_or counts n 0 + heard_of x (times_of (facts_of part) fresh_watch [] es x.run.answers n))

standby_idle : (f : Facts) → (standby_of f false).line.phase ≡ Idle
unfolding standby_of
standby_idle f = refl

left_traced : (part en : ℕ) (counts es : List ℕ) → Counts part counts → (v : Verdict)
    → Traced part counts es (wear_left_of our_counter part en old (standby_of (facts_of part) false) (delivered_of part) counts es (replicate (length es) 0) v)
left_traced part en counts es held (Ok _) =
    let f : Facts = facts_of part in
    let c : Chip = standby_of f false in
    let m : Mem = delivered_of part in
    let M : Model = ours_with old f en in
    let xs : List ℕ = levels_of M c m es in
    let r : Went f M c m counts es (watch_at c) [] = went f (sound part) en old es c m counts (watch_at c) [] held.wide (meets_at f c (standby_idle f)) in
    let answers : xs ≡ xs ++ drop (length es) (replicate (length es) 0) =
    sym (ap (λ (z : List ℕ). xs ++ z) (drop_of_length-le (replicate (length es) 0) {i = length es} (omega (arith, length-replicate {A = ℕ} (length es) 0))) ∙ append-nil xs) in
    record {
      held = record { size = r.size ∙ held.size; wide = r.wide };
      each = λ n h.
          r.each n (omega (arith, h, held.size))
          ∙ (ap (λ (w : Watch). topped (get_or counts n 0 + times_of f w [] es xs n)) (fresh_is f)
          ∙ ap (λ (z : List ℕ). topped (get_or counts n 0 + times_of f fresh_watch [] es z n)) answers);
    }
left_traced part en counts es held (Err r) = record { held = held; each = λ n h. still counts n held.wide }

traced : (part en : ℕ) (counts es : List ℕ) → Counts part counts → Traced part counts es (trace_by wear_of part en counts es)
traced part en counts es held =
    left_traced part en counts es held (wear_verdict part en old (standby_of (facts_of part) false) (delivered_of part) counts es (replicate (length es) 0))

-- ---- many

heap_size : (part en : ℕ) (counts : List ℕ) (ess : List (List ℕ)) → Counts part counts → Counts part (heap_by wear_of part en counts ess)
unfolding heap_by
heap_size part en counts [] held = held
heap_size part en counts (es ∷ ess) held = heap_size part en (trace_by wear_of part en counts es).counts ess (traced part en counts es held).held

heap_each : (part en : ℕ) (counts : List ℕ) (ess : List (List ℕ)) → Counts part counts → (n : ℕ) → n < groups_of (facts_of part)
    → get_or (heap_by wear_of part en counts ess) n 0 ≡ topped (get_or counts n 0 + heap_times wear_of part en counts ess n)
unfolding heap_by heap_times
heap_each part en counts [] held n h = still counts n held.wide
heap_each part en counts (es ∷ ess) held n h =
    let x : WearLeft = trace_by wear_of part en counts es in
    let t : ℕ = heard_of x (times_of (facts_of part) fresh_watch [] es x.run.answers n) in
    let u : ℕ = heap_times wear_of part en x.counts ess n in
    let o : Traced part counts es x = traced part en counts es held in
    heap_each part en x.counts ess o.held n h
    ∙ (ap (λ (z : ℕ). topped (z + u)) (o.each n h) ∙ (top_in (get_or counts n 0 + t) u ∙ ap topped (add_assoc (get_or counts n 0) t u)))

heard_sum : (b : Bool) (x : ℕ) (F : ℕ → ℕ) (n : ℕ) → x ≡ sum_to F n → cond b x 0 ≡ sum_to (λ i. cond b (F i) 0) n
heard_sum true x F n e = e
heard_sum false x F n e = sum-zero n

heap_sum : (part en : ℕ) (counts : List ℕ) (ess : List (List ℕ))
    → heap_touched wear_of part en counts ess ≡ sum_to (λ n. heap_times wear_of part en counts ess n) (groups_of (facts_of part))
unfolding heap_times heap_touched
heap_sum part en counts [] = sum-zero (groups_of (facts_of part))
heap_sum part en counts (es ∷ ess) =
    let f : Facts = facts_of part in
    let x : WearLeft = trace_by wear_of part en counts es in
    let T : ℕ → ℕ = (λ (n : ℕ). times_of f fresh_watch [] es x.run.answers n) in
    let U : ℕ → ℕ = (λ (n : ℕ). heap_times wear_of part en x.counts ess n) in
    ap (λ (z : ℕ). z + heap_touched wear_of part en x.counts ess) (heard_sum (is_fine x.run.answer.verdict) (touched_in f fresh_watch [] es x.run.answers) T (groups_of f) (times_sum f fresh_watch [] es x.run.answers))
    ∙ (ap (λ (z : ℕ). sum_to (λ n. heard_of x (T n)) (groups_of f) + z) (heap_sum part en x.counts ess)
    ∙ sym (sum_plus (λ n. heard_of x (T n)) U (groups_of f)))

pub traces_add_up : TracesAddUp wear_of
traces_add_up =
    record {
      size = heap_size;
      each = heap_each;
      total = λ part en counts ess held low.
          grown counts (heap_by wear_of part en counts ess) (λ n. heap_times wear_of part en counts ess n) (groups_of (facts_of part)) held.size (heap_size part en counts ess held).size low (heap_each part en counts ess held)
          ∙ ap (λ (z : ℕ). sum_of counts + z) (sym (heap_sum part en counts ess));
    }
