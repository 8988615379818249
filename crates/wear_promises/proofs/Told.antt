-- What is told of the counts, and the counts of two heaps: the walk finds the most, and sums that stay at the top may be taken in any order.
-- Assumes nothing.
use Rattle.std.specs.Prelude.{Ok, Err}
use Prim.Native.Nat.{ℕ, zero, suc, ◌+◌, ◌-◌, ◌*◌, ◌/◌, ◌<◌, ◌≤◌}
use mathlib.Core.Path.{◌≡◌, ◌∙◌, refl, sym, ap}
use mathlib.Core.Bool.{false, not, cond}
use mathlib.Core.List.{List, [], ◌∷◌, ◌++◌}
use native.Mathlib.Nat.{add_comm, add_assoc, mul_assoc, mul-div_cancel}
use native.Mathlib.Decide.{dec_lt}
use native.Mathlib.Omega.{arith}
use lib.ListN.{length, get_or, replicate, get_or-replicate, length-replicate}
use lib.Seq.{ext_get_or}
use Rattle.parts.specs.declared.Facts.{Facts}
use Rattle.parts.specs.declared.Refusal.TheVariants.{NoPart, WrongBuffer}
use Rattle.parts.specs.Verdict.{Verdict}
use Rattle.parts.specs.Sound.{Sound}
use Rattle.parts.specs.Table.{facts_of, groups_of}
use Rattle.parts.specs.Refusals.{is_fine, verdict_number_of, sooner_of}
use Rattle.parts.specs.Bytes.{AllBelow, topped}
use Rattle.parts.proofs.Laws.{known, unknown, sound}
use Rattle.parts.proofs.Claims.{sooner_fine, exact, later_claim}
use Rattle.parts.proofs.Bytes.{top_low, top_high}
use Rattle.wear.specs.Report.{most_of, joined_of}
use Rattle.wear.specs.Worst.{IsWorst}
use Rattle.wear.specs.Calls.{counts_verdict_of, counts_by, WearLeft, wear_of, report_by, report_of, join_verdict, join_of}
use Rattle.wear.proofs.Grown.{walk_finds_it}
use Rattle.wear.proofs.Laws.{counts_fine}
use Rattle.chip.specs.Model.{old}
use Rattle.chip.specs.Calls.{RunLeft}
use Rattle.chip_promises.specs.Stops.{fresh_watch}
use Rattle.chip.specs.Delivery.{standby_of, delivered_of}
use Rattle.wear_promises.specs.History.{times_of}
use Rattle.wear_promises.specs.Counts.{Counts, trace_by, heap_by, heap_times}
use Rattle.wear_promises.specs.Told.{MostIsMost, ReportNumbers, ReportPinned, JoinAdds, JoinAnyOrder, zeros, HeapsMerge}
use Rattle.wear_promises.proofs.Times.{top_in}
use Rattle.wear_promises.proofs.Beside.{run_is_chips, counts_right_lem, counts_later, known_claim, no_counts, other_counts}
use Rattle.wear_promises.proofs.Traces.{traces_add_up}

-- ---- the walk

pub groups_some : (f : Facts) → Sound f → 0 < groups_of f
unfolding groups_of
groups_some f s =
    let q : ℕ = f.size / f.page * (f.page / f.group) in
    let all : f.size ≡ q * f.group = s.whole ∙ ap (λ (z : ℕ). f.size / f.page * z) s.groups ∙ sym (mul_assoc (f.size / f.page) (f.page / f.group) f.group) in
    let e : f.size / f.group ≡ q = ap (λ (z : ℕ). z / f.group) all ∙ mul-div_cancel q s.group_pos in
    omega (arith, e, some q f.group f.size all s.size_pos)
  where
    some : (q g p : ℕ) → p ≡ q * g → 0 < p → 0 < q
    some zero g p e h = absurd (omega (arith, e, h))
    some (suc q) g p e h = omega arith

-- of counts that are not refused
module _ (part : ℕ) (counts : List ℕ) (h : (report_of part counts).verdict ≡ Ok tt) where
  judged : counts_verdict_of (facts_of part) (length counts) ≡ Ok tt
  judged = go (counts_verdict_of (facts_of part) (length counts)) h
    where
      go : (v : Verdict) → (report_by counts v).verdict ≡ Ok tt → v ≡ Ok tt
      go (Ok _) e = refl
      go (Err r) e = e

  report_is : report_of part counts ≡ report_by counts (Ok tt)
  report_is = ap (report_by counts) judged

  size_is : length counts ≡ groups_of (facts_of part)
  size_is = counts_fine (facts_of part) (length counts) judged

  mosted : IsWorst counts (most_of counts)
  mosted = walk_finds_it counts (omega (arith, size_is, groups_some (facts_of part) (sound part)))

pub most_is_most : MostIsMost report_of
most_is_most =
    record {
      total = λ part counts h. rw (report_is part counts h) refl;
      within = λ part counts h. rw (report_is part counts h) (omega (arith, (mosted part counts h).there, size_is part counts h));
      holds = λ part counts h. rw (report_is part counts h) (mosted part counts h).holds;
      most = λ part counts h. rw (report_is part counts h) (mosted part counts h).most;
      lowest = λ part counts h. rw (report_is part counts h) (mosted part counts h).first;
    }

pub report_numbers : ReportNumbers report_of
report_numbers =
    record {
      no_part = λ part counts h.
          ap verdict_number_of (told counts (counts_verdict_of (facts_of part) (length counts)))
          ∙ exact NoPart (counts_verdict_of (facts_of part) (length counts)) (counts_later (facts_of part) 1001 (length counts) (omega arith) (later_claim 1001 (not (facts_of part).known) NoPart (omega arith))) (no_counts (facts_of part) (length counts) (unknown part h));
      wrong_buffer = λ part counts k o.
          ap verdict_number_of (told counts (counts_verdict_of (facts_of part) (length counts)))
          ∙ exact WrongBuffer (counts_verdict_of (facts_of part) (length counts)) (counts_later (facts_of part) 3003 (length counts) (omega arith) (known_claim part 3003 k)) (other_counts (facts_of part) (length counts) o);
      none = λ part counts k e. told counts (counts_verdict_of (facts_of part) (length counts)) ∙ counts_right_lem (facts_of part) (length counts) (known part k) e;
    }
  where
    told : (counts : List ℕ) (v : Verdict) → (report_by counts v).verdict ≡ v
    told counts (Ok _) = refl
    told counts (Err r) = refl

pub report_pinned : ReportPinned
report_pinned P Q p q part counts h k =
    let x = P part counts in
    let y = Q part counts in
    let g : x.group ≡ y.group = same_group (dec_lt x.group y.group) (dec_lt y.group x.group) in
    (p.total part counts h ∙ sym (q.total part counts k), g, sym (p.holds part counts h) ∙ ap (λ (z : ℕ). get_or counts z 0) g ∙ q.holds part counts k)
  where
    same_group : Dec ((P part counts).group < (Q part counts).group) → Dec ((Q part counts).group < (P part counts).group) → (P part counts).group ≡ (Q part counts).group
    same_group (yes l) d =
        absurd (omega (arith, q.lowest part counts k (P part counts).group l, p.holds part counts h, p.most part counts h (Q part counts).group, q.holds part counts k))
    same_group (no l) (yes m) =
        absurd (omega (arith, p.lowest part counts h (Q part counts).group m, q.holds part counts k, q.most part counts k (P part counts).group, p.holds part counts h))
    same_group (no l) (no m) = omega (arith, l, m)

-- ---- two heaps

joined_length : (xs ys : List ℕ) → length (joined_of xs ys) ≡ length xs
joined_length [] ys = refl
joined_length (x ∷ xs) [] = refl
joined_length (x ∷ xs) (y ∷ ys) = ap suc (joined_length xs ys)

joined_at : (xs ys : List ℕ) (n : ℕ) → length xs ≡ length ys → n < length xs → get_or (joined_of xs ys) n 0 ≡ topped (get_or xs n 0 + get_or ys n 0)
joined_at [] ys n e h = absurd (omega arith)
joined_at (x ∷ xs) [] n e h = absurd (omega arith)
joined_at (x ∷ xs) (y ∷ ys) zero e h = refl
joined_at (x ∷ xs) (y ∷ ys) (suc n) e h = joined_at xs ys n (omega arith) (omega arith)

top_wide : (n : ℕ) → topped n < 4294967296
top_wide n = go (dec_lt n 4294967296)
  where
    go : Dec (n < 4294967296) → topped n < 4294967296
    go (yes h) = omega (arith, top_low n h, h)
    go (no h) = omega (arith, top_high n (omega arith))

joined_wide : (xs ys : List ℕ) → AllBelow 4294967296 xs → AllBelow 4294967296 (joined_of xs ys)
joined_wide [] ys o = tt
joined_wide (x ∷ xs) [] o = o
joined_wide (x ∷ xs) (y ∷ ys) o = (top_wide (x + y), joined_wide xs ys o.1)

joined_turned : (xs ys : List ℕ) → length xs ≡ length ys → joined_of xs ys ≡ joined_of ys xs
joined_turned [] [] e = refl
joined_turned [] (y ∷ ys) e = absurd (omega arith)
joined_turned (x ∷ xs) [] e = absurd (omega arith)
joined_turned (x ∷ xs) (y ∷ ys) e = rw (add_comm x y, joined_turned xs ys (omega arith)) refl

top_behind : (n k : ℕ) → topped (n + topped k) ≡ topped (n + k)
top_behind n k = ap topped (add_comm n (topped k)) ∙ top_in k n ∙ ap topped (add_comm k n)

joined_grouped : (xs ys zs : List ℕ) → length xs ≡ length ys → length ys ≡ length zs → joined_of (joined_of xs ys) zs ≡ joined_of xs (joined_of ys zs)
joined_grouped [] ys zs e d = refl
joined_grouped (x ∷ xs) [] zs e d = absurd (omega arith)
joined_grouped (x ∷ xs) (y ∷ ys) [] e d = absurd (omega arith)
joined_grouped (x ∷ xs) (y ∷ ys) (z ∷ zs) e d =
    let h : topped (topped (x + y) + z) ≡ topped (x + topped (y + z)) = top_in (x + y) z ∙ ap topped (add_assoc x y z) ∙ sym (top_behind x (y + z)) in
    rw (h, joined_grouped xs ys zs (omega arith) (omega arith)) refl

module _ (part : ℕ) (xs ys : List ℕ) where
  join_fine : part ≤ 5 → Counts part xs → Counts part ys → join_verdict part xs ys ≡ Ok tt
  unfolding sooner_of
  join_fine k a b = rw (counts_right_lem (facts_of part) (length xs) (known part k) a.size, counts_right_lem (facts_of part) (length ys) (known part k) b.size) refl

  pub join_is : part ≤ 5 → Counts part xs → Counts part ys → (join_of part xs ys).counts ≡ joined_of xs ys
  join_is k a b = ap (counts_by (joined_of xs ys) xs) (join_fine k a b)

  join_size : Counts part xs → Counts part ys → Counts part (join_of part xs ys).counts
  join_size a b = go (join_verdict part xs ys)
    where
      go : (v : Verdict) → Counts part (counts_by (joined_of xs ys) xs v)
      go (Ok _) = record { size = joined_length xs ys ∙ a.size; wide = joined_wide xs ys a.wide }
      go (Err r) = a

pub join_adds : JoinAdds join_of
join_adds =
    record {
      each = λ part xs ys e n h.
          let r = sooner_fine (counts_verdict_of (facts_of part) (length xs)) (counts_verdict_of (facts_of part) (length ys)) e in
          let a = counts_fine (facts_of part) (length xs) r.0 in
          let b = counts_fine (facts_of part) (length ys) r.1 in
          ap (λ (v : Verdict). get_or (counts_by (joined_of xs ys) xs v) n 0) e ∙ joined_at xs ys n (a ∙ sym b) (omega (arith, h, a));
      size = join_size;
      fine = λ part xs ys k a b. join_fine part xs ys k a b;
      refused = λ part xs ys r e. ap (counts_by (joined_of xs ys) xs) e;
    }

pub join_any_order : JoinAnyOrder join_of
join_any_order =
    record {
      turned = λ part xs ys k a b. join_is part xs ys k a b ∙ joined_turned xs ys (a.size ∙ sym b.size) ∙ sym (join_is part ys xs k b a);
      grouped = λ part xs ys zs k a b c.
          join_is part (join_of part xs ys).counts zs k (join_size part xs ys a b) c
          ∙ ap (λ (z : List ℕ). joined_of z zs) (join_is part xs ys k a b)
          ∙ joined_grouped xs ys zs (a.size ∙ sym b.size) (b.size ∙ sym c.size)
          ∙ ap (joined_of xs) (sym (join_is part ys zs k b c))
          ∙ sym (join_is part xs (join_of part ys zs).counts k a (join_size part ys zs b c));
    }

-- ---- heaps of traces

module _ (part en : ℕ) (h : part ≤ 5) where
  -- what a trace is heard to do does not depend on what was counted before
  trace_any : (k k' es : List ℕ) → Counts part k → Counts part k' → (trace_by wear_of part en k es).run ≡ (trace_by wear_of part en k' es).run
  trace_any k k' es a b =
      let f : Facts = facts_of part in
      run_is_chips part en old (standby_of f false) (delivered_of part) k es (replicate (length es) 0) h a.size
      ∙ sym (run_is_chips part en old (standby_of f false) (delivered_of part) k' es (replicate (length es) 0) h b.size)

  times_any : (ess : List (List ℕ)) (k k' : List ℕ) (n : ℕ) → Counts part k → Counts part k' → heap_times wear_of part en k ess n ≡ heap_times wear_of part en k' ess n
  unfolding heap_times heap_by
  times_any [] k k' n a b = refl
  times_any (es ∷ ess) k k' n a b =
      let step : (z : List ℕ) → Counts part z → Counts part (trace_by wear_of part en z es).counts = (λ (z : List ℕ) o. traces_add_up.size part en z (es ∷ []) o) in
      let H : RunLeft → ℕ = (λ (r : RunLeft). cond (is_fine r.answer.verdict) (times_of (facts_of part) fresh_watch [] es r.answers n) 0) in
      let x : WearLeft = trace_by wear_of part en k es in
      let y : WearLeft = trace_by wear_of part en k' es in
      ap (λ (r : RunLeft). H r + heap_times wear_of part en x.counts ess n) (trace_any k k' es a b)
      ∙ ap (λ (z : ℕ). H y.run + z) (times_any ess x.counts y.counts n (step k a) (step k' b))

  times_append : (xs ys : List (List ℕ)) (k : List ℕ) (n : ℕ)
      → heap_times wear_of part en k (xs ++ ys) n ≡ heap_times wear_of part en k xs n + heap_times wear_of part en (heap_by wear_of part en k xs) ys n
  unfolding heap_times heap_by
  times_append [] ys k n = omega arith
  times_append (es ∷ xs) ys k n = omega (arith, times_append xs ys (trace_by wear_of part en k es).counts n)

pub zeros_counts : (part : ℕ) → Counts part (zeros part)
zeros_counts part = record { size = length-replicate (groups_of (facts_of part)) 0; wide = none (groups_of (facts_of part)) }
  where
    none : (n : ℕ) → AllBelow 4294967296 (replicate n 0)
    none zero = tt
    none (suc n) = (omega arith, none n)

pub heaps_merge : HeapsMerge join_of wear_of
heaps_merge part en counts xs ys h held =
    let t = traces_add_up in
    let a = t.size part en counts xs held in
    let b = t.size part en (zeros part) ys (zeros_counts part) in
    let c = t.size part en counts (xs ++ ys) held in
    let A = heap_by wear_of part en counts xs in
    let D = heap_by wear_of part en (zeros part) ys in
    join_is part A D h a b
    ∙ ext_get_or 0 (joined_of A D) (heap_by wear_of part en counts (xs ++ ys)) (joined_length A D ∙ a.size ∙ sym c.size)
    (λ n l.
    let m : n < groups_of (facts_of part) = omega (arith, l, joined_length A D, a.size) in
    let x = get_or counts n 0 in
    let u = heap_times wear_of part en counts xs n in
    let v = heap_times wear_of part en (zeros part) ys n in
    let z : get_or (zeros part) n 0 + v ≡ v = ap (λ (i : ℕ). i + v) (get_or-replicate (groups_of (facts_of part)) n 0 0 m) ∙ omega arith in
    let w : heap_times wear_of part en counts (xs ++ ys) n ≡ u + v =
    times_append part en h xs ys counts n ∙ ap (λ (i : ℕ). u + i) (times_any part en h ys A (zeros part) n a (zeros_counts part)) in
    joined_at A D n (a.size ∙ sym b.size) (omega (arith, m, a.size))
    ∙ rw (t.each part en counts xs held n m, t.each part en (zeros part) ys (zeros_counts part) n m, z)
    (top_in (x + u) (topped v) ∙ top_behind (x + u) v ∙ ap topped (add_assoc x u v ∙ ap (λ (i : ℕ). x + i) (sym w)))
    ∙ sym (t.each part en counts (xs ++ ys) held n m))
