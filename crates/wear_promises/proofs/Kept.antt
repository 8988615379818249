-- The stored worst is what the walk would find: after a call, after a series of calls, and for who compares and never walks.
-- Assumes nothing.
use Rattle.std.specs.Prelude.{Ok, Err}
use Prim.Native.Nat.{ℕ, suc, ◌<◌, ◌≤◌}
use mathlib.Core.Path.{◌≡◌, ◌∙◌, refl, sym, ap, subst, subst⁻¹}
use mathlib.Core.Bool.{Bool, true, false, not}
use mathlib.Core.List.{List, [], ◌∷◌}
use native.Mathlib.Decide.{dec_lt}
use native.Mathlib.Omega.{arith}
use lib.Dec.{eqb, ltb}
use lib.ListN.{length, get_or, set, replicate}
use lib.Seq.{set-get_or}
use borrow.Author.Tests.{lt-ltb, le-ltb, eq-eqb}
use Rattle.parts.specs.declared.Facts.{Facts}
use Rattle.parts.specs.declared.Refusal.{Refusal}
use Rattle.parts.specs.declared.Refusal.TheVariants.{WrongEnable, WrongBuffer, BadState, ShortBuffer, TooMany}
use Rattle.parts.specs.Verdict.{Verdict}
use Rattle.parts.specs.Table.{facts_of, groups_of, buffers_right_of, enable_right_of}
use Rattle.parts.specs.Events.{loss_size_of}
use Rattle.parts.specs.Refusals.{rank_of, verdict_number_of, claim_of, sooner_of, lent_verdict_of, loss_verdict_of}
use Rattle.parts.proofs.Laws.{branch, known, sound}
use Rattle.parts.proofs.Claims.{refused_not, Later, later_claim, later_sooner, unclaimed, fine_later, given_first}
use Rattle.state.specs.declared.Chip.{Chip}
use Rattle.state.specs.Range.{in_range_of}
use Rattle.chip.specs.Memory.{Mem}
use Rattle.chip.specs.Delivery.{standby_of, delivered_of}
use Rattle.chip.specs.Model.{PowerCut, old, ours_with}
use Rattle.chip.specs.Runs.{closes_of}
use Rattle.chip.specs.Calls.{held_verdict_of, cut_verdict_of, run_verdict_of}
use Rattle.chip.proofs.Laws.{scan_later}
use Rattle.wear.specs.declared.Most.{Most}
use Rattle.wear.specs.Report.{most, most_of}
use Rattle.wear.specs.Wear.{closed_of, our_counter}
use Rattle.wear.specs.Worst.{IsWorst, born_out_of, worst_verdict_of, worst_by, worse_of}
use Rattle.wear.specs.Calls.{WearLeft, counts_verdict_of, wear_verdict, wear_left_of, wear_of, KeptLeft, kept_verdict, kept_left_of, kept_of, found_by, found_of, report_by, report_of}
use Rattle.wear.proofs.Grown.{walk_finds_it, only_one, born_yes, born_is, Grew, grew_same, grew_set, raised_set, worst_kept}
use Rattle.wear.proofs.Stretches.{worn_close, grew_counter, grew_worn}
use Rattle.wear_promises.specs.Counts.{trace_by, heap_by}
use Rattle.wear_promises.specs.Kept.{WalkFindsIt, OnlyOne, KeptRun, WorstIsWalk, AsBefore, RefusesUnborne, holder_after, kept_calls_by, SeriesKeepsIt, NoneFell, RaisedKeepsIt, GrowthKeepsIt, GoesOn, MarkGoesOn, heap_worst, TracesKeepIt, FindsIt, KeptPinned}
use Rattle.wear_promises.proofs.Beside.{counts_right_lem, known_claim, wear_told}
use Rattle.wear_promises.proofs.Told.{groups_some, report_numbers}

pub walk_finds : WalkFindsIt
walk_finds = walk_finds_it

pub one_worst : OnlyOne
one_worst = only_one

-- ---- whether a worst is borne out is decided

pub borne : (counts : List ℕ) (w : Most) → w ≡ most_of counts → worst_verdict_of counts w ≡ Ok tt
unfolding worst_verdict_of
borne counts w e = rw (born_is counts w e) refl

pub unborne : (counts : List ℕ) (w : Most) → (w ≡ most_of counts → ⊥) → worst_verdict_of counts w ≡ Err BadState
unfolding worst_verdict_of
unborne counts w o = go (born_out_of counts w) refl
  where
    go : (b : Bool) → born_out_of counts w ≡ b → claim_of (not b) BadState ≡ Err BadState
    go true e = absurd (o (born_yes counts w e))
    go false e = refl

either_way : {A : Type 0} (counts : List ℕ) (w : Most) → (w ≡ most_of counts → A) → ((w ≡ most_of counts → ⊥) → A) → A
either_way {A} counts w f g = go (born_out_of counts w) refl
  where
    no_way : born_out_of counts w ≡ false → w ≡ most_of counts → ⊥
    no_way e h = let z : ◌≡◌ {A = Bool} false true = sym e ∙ born_is counts w h in let y : ◌≡◌ {A = ℕ} 0 1 = cc in omega arith

    go : (b : Bool) → born_out_of counts w ≡ b → A
    go true e = f (born_yes counts w e)
    go false e = g (no_way e)

-- ---- our run

module _ (part en : ℕ) (w : PowerCut) (c : Chip) (m : Mem) (counts : List ℕ) (worst : Most) (es a : List ℕ) where
  abbrev left : Verdict → KeptLeft
  left v = kept_left_of part en w c m counts worst es a v

  abbrev judged : Verdict
  judged = wear_verdict part en w c m counts es a

  told : (v : Verdict) → (left v).wear.run.answer.verdict ≡ v
  told v = wear_told part en w c m counts es a v

  kept_by : worst ≡ most_of counts → (v : Verdict) → (left v).worst ≡ most_of (left v).wear.counts
  kept_by e (Ok _) = refl
  kept_by e (Err r) = e

  fine_by : (v : Verdict) → v ≡ Ok tt → (left v).worst ≡ most_of (left v).wear.counts
  fine_by (Ok _) h = refl
  fine_by (Err r) h = refused_not h

  keeps_by : (r : Refusal) (v : Verdict) → v ≡ Err r
      → ((left v).worst ≡ worst) × ((left v).wear.counts ≡ counts) × ((left v).wear.run.mem ≡ m) × ((left v).wear.run.answer.chip ≡ c)
      × ((left v).wear.run.answer.cycles ≡ 0) × ((left v).wear.run.answers ≡ a)
  keeps_by r (Ok _) h = refused_not (sym h)
  keeps_by r (Err s) h = (refl, refl, refl, refl, refl, refl)

  -- nothing before 4 is wrong
  later : part ≤ 5 → en < (facts_of part).enables → length counts ≡ groups_of (facts_of part) → buffers_right_of (facts_of part) (length m.cells) (length m.ident) ≡ true
      → length w.page ≡ loss_size_of (facts_of part) w.loss → Later 4004 judged
  unfolding run_verdict_of cut_verdict_of loss_verdict_of held_verdict_of lent_verdict_of enable_right_of
  later k e n b p =
      let f : Facts = facts_of part in
      later_sooner 4004 _ _ (fine_later 4004 _ (counts_right_lem f (length counts) (known part k) n))
      (later_sooner 4004 _ _
      (later_sooner 4004 _ _ (unclaimed 4004 (not (eqb (length w.page) (loss_size_of f w.loss))) WrongBuffer (ap not (eq-eqb (length w.page) (loss_size_of f w.loss) p)))
      (later_sooner 4004 _ _ (later_sooner 4004 _ _ (known_claim part 4004 k) (unclaimed 4004 (not (buffers_right_of f (length m.cells) (length m.ident))) WrongBuffer (ap not b)))
      (later_sooner 4004 _ _ (unclaimed 4004 (not (enable_right_of f en)) WrongEnable (ap not (lt-ltb en f.enables e))) (later_claim 4004 (not (in_range_of f c)) BadState (omega arith)))))
      (later_sooner 4004 _ _ (later_claim 4004 (ltb 32768 (length es)) TooMany (omega arith))
      (later_sooner 4004 _ _ (scan_later 4004 f.pin 0 es (omega arith)) (later_claim 4004 (ltb (length a) (length es)) ShortBuffer (omega arith)))))

pub worst_is_walk : WorstIsWalk kept_of
worst_is_walk =
    record {
      kept = λ part en w c m counts worst es a e. kept_by part en w c m counts worst es a e (kept_verdict part en w c m counts worst es a);
      accepted = λ part en w c m counts worst es a h.
          let v = kept_verdict part en w c m counts worst es a in
          fine_by part en w c m counts worst es a v (sym (told part en w c m counts worst es a v) ∙ h);
    }

pub as_before : AsBefore kept_of
unfolding sooner_of
as_before part en w c m counts worst es a e =
    ap (λ (v : Verdict). wear_left_of our_counter part en w c m counts es a (sooner_of v (wear_verdict part en w c m counts es a))) (borne counts worst e)

pub refuses_unborne : RefusesUnborne kept_of
refuses_unborne =
    record {
      first = first;
      number = λ part en w c m counts worst es a k e n b p o.
          ap verdict_number_of (first part en w c m counts worst es a o ∙ ap (sooner_of (Err BadState)) (wear_told part en w c m counts es a (wear_verdict part en w c m counts es a))
          ∙ given_first BadState (wear_verdict part en w c m counts es a) (later part en w c m counts worst es a k e n b p));
      keeps = λ part en w c m counts worst es a r h.
          let v = kept_verdict part en w c m counts worst es a in
          keeps_by part en w c m counts worst es a r v (sym (told part en w c m counts worst es a v) ∙ h);
    }
  where
    first : (part en : ℕ) (w : PowerCut) (c : Chip) (m : Mem) (counts : List ℕ) (worst : Most) (es a : List ℕ) → (worst ≡ most_of counts → ⊥)
        → (kept_of part en w c m counts worst es a).wear.run.answer.verdict ≡ sooner_of (Err BadState) (wear_of part en w c m counts es a).run.answer.verdict
    first part en w c m counts worst es a o =
        told part en w c m counts worst es a (kept_verdict part en w c m counts worst es a)
        ∙ ap (λ (v : Verdict). sooner_of v (wear_verdict part en w c m counts es a)) (unborne counts worst o)
        ∙ ap (sooner_of (Err BadState)) (sym (wear_told part en w c m counts es a (wear_verdict part en w c m counts es a)))

-- ---- a series

pub series_keeps_it : SeriesKeepsIt kept_of
unfolding kept_calls_by
series_keeps_it part en h [] e = e
series_keeps_it part en h (x ∷ xs) e =
    series_keeps_it part en (holder_after (kept_of part en x.cut h.chip h.mem h.counts h.worst x.events x.answers)) xs
    (worst_is_walk.kept part en x.cut h.chip h.mem h.counts h.worst x.events x.answers e)

-- ---- who compares

grew : (xs ys : List ℕ) → NoneFell xs ys → Grew xs ys
unfolding Grew
grew [] [] n = tt
grew [] (y ∷ ys) n = absurd (omega (arith, n.size))
grew (x ∷ xs) [] n = absurd (omega (arith, n.size))
grew (x ∷ xs) (y ∷ ys) n = (n.each 0, grew xs ys (record { size = omega (arith, n.size); each = λ k. n.each (suc k) }))

pub raised_keeps_it : RaisedKeepsIt
raised_keeps_it before after n = worst_kept before after (grew before after n)

pub growth_keeps_it : GrowthKeepsIt
unfolding worse_of
growth_keeps_it counts n x h k = go (dec_lt (get_or counts n 0) x)
  where
    i : IsWorst counts (most_of counts)
    i = walk_finds_it counts (omega arith)

    stays : x ≤ get_or counts n 0 → Dec (x < (most_of counts).count) → Dec (n < (most_of counts).group) → worse_of (most_of counts) (most n x) ≡ most_of counts
    stays e (yes l) d =
        let q : x ≤ (most_of counts).count = omega arith in
        rw (le-ltb (most_of counts).count x q, lt-ltb x (most_of counts).count l) refl
    stays e (no l) (yes d) = absurd (omega (arith, i.first n d))
    stays e (no l) (no d) =
        let q : x ≤ (most_of counts).count = omega (arith, i.most n) in
        let r : (most_of counts).count ≤ x = omega arith in
        let s : (most_of counts).group ≤ n = omega arith in
        rw (le-ltb (most_of counts).count x q, le-ltb x (most_of counts).count r, le-ltb n (most_of counts).group s) refl

    go : Dec (get_or counts n 0 < x) → worse_of (most_of counts) (most n x) ≡ most_of (set counts n x)
    go (yes l) = ap (worse_of (most_of counts)) (sym (raised_set counts n x h l)) ∙ worst_kept counts (set counts n x) (grew_set counts n x k)
    go (no l) =
        let e : x ≡ get_or counts n 0 = omega arith in
        stays (omega arith) (dec_lt x (most_of counts).count) (dec_lt n (most_of counts).group) ∙ ap most_of (sym (ap (set counts n) e ∙ set-get_or counts n 0))

pub goes_on : GoesOn wear_of
goes_on part en w c m counts es a = worst_kept counts _ (go (wear_verdict part en w c m counts es a))
  where
    go : (v : Verdict) → Grew counts (wear_left_of our_counter part en w c m counts es a v).counts
    go (Ok _) = grew_worn (ours_with w (facts_of part) en) (facts_of part) c counts es
    go (Err r) = grew_same counts

pub mark_goes_on : MarkGoesOn
unfolding closes_of
mark_goes_on part c counts = worst_kept counts (closed_of (facts_of part) c counts) (grew_counter (facts_of part) c counts 4 (closed_of (facts_of part) c counts) (sym (worn_close (facts_of part) c counts 4 refl)))

pub traces_keep_it : TracesKeepIt wear_of
unfolding heap_worst heap_by
traces_keep_it part en counts [] = refl
traces_keep_it part en counts (es ∷ ess) =
    ap (λ (w : Most). heap_worst wear_of part en (trace_by wear_of part en counts es).counts w ess) (goes_on part en old (standby_of (facts_of part) false) (delivered_of part) counts es (replicate (length es) 0))
    ∙ traces_keep_it part en (trace_by wear_of part en counts es).counts ess

-- ---- who begins

pub finds_it : FindsIt found_of
finds_it =
    record {
      no_part = λ part counts h. ap verdict_number_of (same part counts) ∙ report_numbers.no_part part counts h;
      wrong_buffer = λ part counts k o. ap verdict_number_of (same part counts) ∙ report_numbers.wrong_buffer part counts k o;
      finds = λ part counts k e.
          let v : counts_verdict_of (facts_of part) (length counts) ≡ (Ok tt) = counts_right_lem (facts_of part) (length counts) (known part k) e in
          (v, subst⁻¹ (λ (z : Verdict). IsWorst counts (worst_by (most 0 0) counts z)) v (walk_finds_it counts (omega (arith, e, groups_some (facts_of part) (sound part)))));
      none = λ part counts r h. ap (worst_by (most 0 0) counts) h;
    }
  where
    told_so : (counts : List ℕ) (v : Verdict) → (found_by counts v).verdict ≡ (report_by counts v).verdict
    told_so counts (Ok _) = refl
    told_so counts (Err r) = refl

    same : (part : ℕ) (counts : List ℕ) → (found_of part counts).verdict ≡ (report_of part counts).verdict
    same part counts = told_so counts (counts_verdict_of (facts_of part) (length counts))

-- ---- nothing is left open

module _ (K L : KeptRun) (kr : RefusesUnborne K) (lr : RefusesUnborne L) (part en : ℕ) (w : PowerCut) (c : Chip) (m : Mem) (counts : List ℕ) (worst : Most) (es a : List ℕ) where
  abbrev of_k : KeptLeft
  of_k = K part en w c m counts worst es a

  abbrev of_l : KeptLeft
  of_l = L part en w c m counts worst es a

  abbrev Same : Type 0
  Same =
      (of_k.wear.run.answer.verdict ≡ of_l.wear.run.answer.verdict)
      × (of_k.worst ≡ of_l.worst)
      × (of_k.wear.counts ≡ of_l.wear.counts)
      × (of_k.wear.run.mem ≡ of_l.wear.run.mem)
      × (of_k.wear.run.answer.chip ≡ of_l.wear.run.answer.chip)
      × (of_k.wear.run.answer.cycles ≡ of_l.wear.run.answer.cycles)
      × (of_k.wear.run.answers ≡ of_l.wear.run.answers)

  same_refused : (r : Refusal) → of_k.wear.run.answer.verdict ≡ Err r → of_l.wear.run.answer.verdict ≡ Err r → Same
  same_refused r p q =
      let x = kr.keeps part en w c m counts worst es a r p in
      let y = lr.keeps part en w c m counts worst es a r q in
      (p ∙ sym q, x.0 ∙ sym y.0, x.1 ∙ sym y.1, x.2 ∙ sym y.2, x.3 ∙ sym y.3, x.4 ∙ sym y.4, x.5 ∙ sym y.5)

  -- 4, or what goes before it: a refusal
  same_unborne : (v : Verdict) → of_k.wear.run.answer.verdict ≡ sooner_of (Err BadState) v → of_l.wear.run.answer.verdict ≡ sooner_of (Err BadState) v → Same
  unfolding sooner_of
  same_unborne (Ok _) p q = same_refused BadState p q
  same_unborne (Err s) p q =
      branch (λ (z : Verdict). of_k.wear.run.answer.verdict ≡ z → of_l.wear.run.answer.verdict ≡ z → Same) (ltb (rank_of s) (rank_of BadState)) (λ _ x y. same_refused s x y)
      (λ _ x y. same_refused BadState x y) p q

pub kept_pinned : KeptPinned
kept_pinned K L kw ka kr lw la lr part en w c m counts worst es a = either_way counts worst same other
  where
    same : worst ≡ most_of counts → Same K L kr lr part en w c m counts worst es a
    same e =
        let x : (K part en w c m counts worst es a).wear ≡ (L part en w c m counts worst es a).wear = ka part en w c m counts worst es a e ∙ sym (la part en w c m counts worst es a e) in (
          ap (λ (z : WearLeft). z.run.answer.verdict) x,
          kw.kept part en w c m counts worst es a e ∙ ap (λ (z : WearLeft). most_of z.counts) x ∙ sym (lw.kept part en w c m counts worst es a e),
          ap (λ (z : WearLeft). z.counts) x,
          ap (λ (z : WearLeft). z.run.mem) x,
          ap (λ (z : WearLeft). z.run.answer.chip) x,
          ap (λ (z : WearLeft). z.run.answer.cycles) x,
          ap (λ (z : WearLeft). z.run.answers) x,
        )

    other : (worst ≡ most_of counts → ⊥) → Same K L kr lr part en w c m counts worst es a
    other o =
        same_unborne K L kr lr part en w c m counts worst es a (wear_of part en w c m counts es a).run.answer.verdict (kr.first part en w c m counts worst es a o)
        (lr.first part en w c m counts worst es a o)
