-- The counts are what the history says, over any series of calls.
-- Assumes nothing.
use Rattle.std.specs.Prelude.{Ok, Err}
use Prim.Native.Nat.{ℕ, ◌+◌, ◌<◌}
use mathlib.Core.Path.{◌≡◌, ◌∙◌, refl, sym, ap, subst}
use mathlib.Core.List.{List, [], ◌∷◌, ◌++◌}
use native.Mathlib.Nat.{add_assoc}
use native.Mathlib.Omega.{arith}
use lib.ListN.{length, get_or, take, drop, length-append}
use lib.Seq.{take-append_seam}
use Rattle.parts.specs.declared.Facts.{Facts}
use Rattle.parts.specs.Verdict.{Verdict}
use Rattle.parts.specs.Table.{facts_of, groups_of}
use Rattle.parts.specs.Bytes.{topped}
use Rattle.parts.proofs.Laws.{sound}
use Rattle.line.specs.declared.Phase.{Phase}
use Rattle.line.specs.declared.Phase.TheVariants.{Idle}
use Rattle.line.specs.Rules.{NoTransfer}
use Rattle.state.specs.declared.Chip.{Chip}
use Rattle.chip.specs.Model.{Model, ours_with}
use Rattle.chip.specs.Runs.{after_of, memory_of, levels_of}
use Rattle.chip.proofs.Laws.{levels_length}
use Rattle.chip_promises.specs.Stops.{Byte, Watch, seen_at, watch_at}
use Rattle.chip_promises.proofs.Stops.{watches_of, beside_at}
use Rattle.wear.specs.Wear.{our_counter, worn_by}
use Rattle.wear.specs.Calls.{wear_verdict, wear_left_of, wear_of}
use Rattle.wear_promises.specs.History.{bytes_seen, times_of}
use Rattle.wear_promises.specs.Counts.{Counts, WearCall, Worn, unworn, after_wear, wear_calls_by, WearIsHistory}
use Rattle.wear_promises.proofs.Inside.{Inside}
use Rattle.wear_promises.proofs.Times.{pendings_of, watches_append, pendings_append, times_append, Meets, Went, still, top_in, went}

-- where no transfer and no cycle is under way
pub meets_at : (f : Facts) (c : Chip) → c.line.phase ≡ Idle → Meets f c (watch_at c) []
meets_at f c h =
    record {
      beside = beside_at f c (subst NoTransfer (sym h) tt);
      inside = subst (λ (ph : Phase). Inside f c.line.core.counter c.latch ph (bytes_seen (seen_at ph)) []) (sym h) tt;
    }

-- ---- what the calls so far have come to, with the history they leave

record Going (part : ℕ) (w : Watch) (counts : List ℕ) (e : Worn) : Type 0 where
  same : length e.events ≡ length e.levels
  meets : Meets (facts_of part) e.chip (watches_of (facts_of part) w e.events e.levels) (pendings_of (facts_of part) w [] e.events e.levels)
  held : Counts part e.counts
  each : (n : ℕ) → n < groups_of (facts_of part) → get_or e.counts n 0 ≡ topped (get_or counts n 0 + times_of (facts_of part) w [] e.events e.levels n)

module _ (part en : ℕ) (w : Watch) (counts : List ℕ) where
  call_going : (x : WearCall) (e : Worn) (v : Verdict) → Going part w counts e
      → Going part w counts (after_wear x.events (wear_left_of our_counter part en x.cut e.chip e.mem e.counts x.events x.answers v) e)
  unfolding after_wear
  call_going x e (Ok _) o =
      let f : Facts = facts_of part in
      let M : Model = ours_with x.cut f en in
      let es : List ℕ = x.events in
      let xs : List ℕ = levels_of M e.chip e.mem es in
      let v : Watch = watches_of f w e.events e.levels in
      let p : List Byte = pendings_of f w [] e.events e.levels in
      let r : Went f M e.chip e.mem e.counts es v p = went f (sound part) en x.cut es e.chip e.mem e.counts v p o.held.wide o.meets in
      let answered : xs ≡ take (length es) (xs ++ drop (length es) x.answers) =
      sym (ap (λ (n : ℕ). take n (xs ++ drop (length es) x.answers)) (sym (levels_length M e.chip e.mem es)) ∙ take-append_seam xs (drop (length es) x.answers)) in
      subst (λ (z : List ℕ). Going part w counts record { chip = after_of M e.chip es; mem = memory_of M e.chip e.mem es; counts = worn_by our_counter M f e.chip e.counts es; events = e.events ++ es; levels = e.levels ++ z }) answered
      record {
        same = omega (arith, length-append e.events es, length-append e.levels xs, o.same, levels_length M e.chip e.mem es);
        meets =
            subst (λ (z : Watch). Meets f (after_of M e.chip es) z (pendings_of f w [] (e.events ++ es) (e.levels ++ xs))) (sym (watches_append f es xs w e.events e.levels o.same))
            (subst (λ (z : List Byte). Meets f (after_of M e.chip es) (watches_of f v es xs) z) (sym (pendings_append f es xs w [] e.events e.levels o.same)) r.meets);
        held = record { size = r.size ∙ o.held.size; wide = r.wide };
        each = λ n h.
            let t : ℕ = times_of f w [] e.events e.levels n in
            let u : ℕ = times_of f v p es xs n in
            r.each n (omega (arith, h, o.held.size))
            ∙ (ap (λ (z : ℕ). topped (z + u)) (o.each n h)
            ∙ (top_in (get_or counts n 0 + t) u
            ∙ ap topped (add_assoc (get_or counts n 0) t u ∙ ap (λ (z : ℕ). get_or counts n 0 + z) (sym (times_append f es xs w [] e.events e.levels n o.same)))));
      }
  call_going x e (Err r) o = o

  calls_going : (xs : List WearCall) (e : Worn) → Going part w counts e → Going part w counts (wear_calls_by wear_of part en e xs)
  unfolding wear_calls_by
  calls_going [] e o = o
  calls_going (x ∷ xs) e o =
      calls_going xs _ (call_going x e (wear_verdict part en x.cut e.chip e.mem e.counts x.events x.answers) o)

pub wear_is_history : WearIsHistory wear_of
unfolding times_of
wear_is_history part en c m counts calls h held =
    let r : Going part (watch_at c) counts (wear_calls_by wear_of part en (unworn c m counts) calls) =
    calls_going part en (watch_at c) counts calls (unworn c m counts)
    record { same = refl; meets = meets_at (facts_of part) c h; held = held; each = λ n l. still counts n held.wide } in
    (r.held, r.each)
