-- The count beside the chip: what a call answers of the chip is the chip's own, its refusals stand in their order, no count falls, and an event raises
-- counts of one page only.
-- Assumes nothing.
use Rattle.std.specs.Prelude.{Ok, Err}
use Prim.Native.Nat.{ℕ, zero, suc, ◌+◌, ◌-◌, ◌*◌, ◌/◌, ◌<◌, ◌≤◌}
use mathlib.Core.Path.{◌≡◌, ◌∙◌, refl, sym, ap}
use mathlib.Core.Bool.{Bool, true, false, not}
use mathlib.Core.List.{List, [], ◌∷◌}
use mathlib.Core.Logic.{◌⊎◌, inl, inr}
use native.Mathlib.Nat.{mul-div_cancel, mul_assoc, div-eq_of_lt-le}
use native.Mathlib.Decide.{dec_lt, ℕ_discrete}
use native.Mathlib.Omega.{arith}
use lib.Dec.{eqb, ltb}
use lib.ListN.{length, get_or, set}
use lib.Seq.{set_out, get_or-set_same, get_or-set_other}
use borrow.Author.Tests.{eq-eqb, ne_eqb, lt-ltb, le-ltb}
use Rattle.parts.specs.declared.Facts.{Facts}
use Rattle.parts.specs.declared.Event.{Event}
use Rattle.parts.specs.declared.Event.TheVariants.{Clock, Start, Stop, Ends, PinLow, PinHigh, PinFloat, Reset, Unknown}
use Rattle.parts.specs.declared.Refusal.{Refusal}
use Rattle.parts.specs.declared.Refusal.TheVariants.{NoPart, WrongEnable, WrongBuffer, BadState, ShortBuffer, TooMany}
use Rattle.parts.specs.Verdict.{Verdict}
use Rattle.parts.specs.Sound.{Sound}
use Rattle.parts.specs.Table.{facts_of, groups_of, buffers_right_of, enable_right_of}
use Rattle.parts.specs.Events.{event_of, loss_size_of}
use Rattle.parts.specs.Bytes.{up_of}
use Rattle.parts.specs.Refusals.{rank_of, verdict_number_of, claim_of, sooner_of, lent_verdict_of, loss_verdict_of}
use Rattle.parts.proofs.Laws.{branch, known, unknown, sound}
use Rattle.parts.proofs.Claims.{refused_not, Later, Within, later_claim, later_sooner, unclaimed, within_left, within_right, exact}
use Rattle.line.specs.declared.Target.TheVariants.{Array, Ident}
use Rattle.line.specs.declared.Cycle.TheVariants.{Writing, Locking}
use Rattle.line.specs.declared.Phase.{Phase}
use Rattle.line.specs.declared.Phase.TheVariants.{Idle, Receive, Send, Busy}
use Rattle.state.specs.declared.Chip.{Chip}
use Rattle.state.specs.Range.{in_range_of}
use Rattle.chip.specs.Memory.{Mem, counter_page_of, touched_of}
use Rattle.chip.specs.Model.{Model, PowerCut, ours_with}
use Rattle.chip.specs.Calls.{run_left_of, held_verdict_of, cut_verdict_of, run_verdict_of, run_verdict}
use Rattle.chip.proofs.Laws.{scan_later}
use Rattle.wear.specs.Wear.{bumped_of, bumped_from, page_worn_of, target_worn_of, cycle_worn_of, closed_in, worn_of, our_counter, worn_by}
use Rattle.wear.specs.Calls.{counts_verdict_of, wear_verdict, wear_left_of, wear_of}
use Rattle.wear_promises.specs.Counts.{RunIsChips, WearNumbers, CountsNeverFall, AtMostGroupsOfOnePage, WearRefusedChangesNothing}

-- ---- the chip's own answer

pub counts_right_lem : (f : Facts) (x : ℕ) → f.known ≡ true → x ≡ groups_of f → counts_verdict_of f x ≡ Ok tt
unfolding counts_verdict_of sooner_of
counts_right_lem f x k h = rw (eq-eqb x (groups_of f) h, k) refl

pub run_is_chips : RunIsChips wear_of
unfolding sooner_of
run_is_chips part en w c m counts es a k h =
    ap (λ (v : Verdict). run_left_of (ours_with w (facts_of part) en) c m es a (sooner_of v (run_verdict part en w c m es a))) (counts_right_lem (facts_of part) (length counts) (known part k) h)

-- ---- refusals

module _ (part en : ℕ) (w : PowerCut) (c : Chip) (n d : ℕ) (es : List ℕ) (room : ℕ) where
  abbrev part_claim : Verdict
  part_claim = claim_of (not (facts_of part).known) NoPart

  abbrev enable_claim : Verdict
  enable_claim = claim_of (not (enable_right_of (facts_of part) en)) WrongEnable

  -- behind 1 and 2 stands nothing before 3
  run_later : (k : ℕ) → k ≤ 3003 → Later k part_claim → Later k enable_claim → Later k (run_verdict_of part en w c n d es room)
  unfolding run_verdict_of cut_verdict_of loss_verdict_of held_verdict_of lent_verdict_of
  run_later k h p e =
      let f : Facts = facts_of part in
      later_sooner k _ _
      (later_sooner k _ _ (later_claim k (not (eqb (length w.page) (loss_size_of f w.loss))) WrongBuffer h)
      (later_sooner k _ _ (later_sooner k _ _ p (later_claim k (not (buffers_right_of f n d)) WrongBuffer h))
      (later_sooner k _ _ e (later_claim k (not (in_range_of f c)) BadState (omega arith)))))
      (later_sooner k _ _ (later_claim k (ltb 32768 (length es)) TooMany (omega arith))
      (later_sooner k _ _ (scan_later k f.pin 0 es (omega arith)) (later_claim k (ltb room (length es)) ShortBuffer (omega arith))))

  run_enable : enable_right_of (facts_of part) en ≡ false → Within 2002 (run_verdict_of part en w c n d es room)
  unfolding run_verdict_of cut_verdict_of held_verdict_of
  run_enable e = within_left 2002 _ _ (within_right 2002 _ _ (within_right 2002 _ _ (within_left 2002 _ _ (rw e (omega arith)))))

pub counts_later : (f : Facts) (k x : ℕ) → k ≤ 3003 → Later k (claim_of (not f.known) NoPart) → Later k (counts_verdict_of f x)
unfolding counts_verdict_of
counts_later f k x h p = later_sooner k _ _ p (later_claim k (not (eqb x (groups_of f))) WrongBuffer h)

pub known_claim : (part k : ℕ) → part ≤ 5 → Later k (claim_of (not (facts_of part).known) NoPart)
known_claim part k h = unclaimed k (not (facts_of part).known) NoPart (ap not (known part h))

pub no_counts : (f : Facts) (x : ℕ) → f.known ≡ false → Within 1001 (counts_verdict_of f x)
unfolding counts_verdict_of
no_counts f x e = within_left 1001 _ _ (rw e (omega arith))

pub other_counts : (f : Facts) (x : ℕ) → (x ≡ groups_of f → ⊥) → Within 3003 (counts_verdict_of f x)
unfolding counts_verdict_of
other_counts f x o = within_right 3003 _ _ (rw (ne_eqb x (groups_of f) o) (omega arith))

pub wear_told : (part en : ℕ) (w : PowerCut) (c : Chip) (m : Mem) (counts es a : List ℕ) (v : Verdict) → (wear_left_of our_counter part en w c m counts es a v).run.answer.verdict ≡ v
wear_told part en w c m counts es a (Ok _) = refl
wear_told part en w c m counts es a (Err s) = refl

pub wear_numbers : WearNumbers wear_of
unfolding enable_right_of
wear_numbers =
    record {
      no_part = λ part en w c m counts es a h.
          let n = length m.cells in
          let d = length m.ident in
          let p = later_claim 1001 (not (facts_of part).known) NoPart (omega arith) in
          let r = run_verdict_of part en w c n d es (length a) in
          numbered part en w c m counts es a NoPart
          (later_sooner 1001 _ r (counts_later (facts_of part) 1001 (length counts) (omega arith) p)
          (run_later part en w c n d es (length a) 1001 (omega arith) p (later_claim 1001 (not (enable_right_of (facts_of part) en)) WrongEnable (omega arith))))
          (within_left 1001 _ r (no_counts (facts_of part) (length counts) (unknown part h)));
      wrong_enable = λ part en w c m counts es a k h.
          let n = length m.cells in
          let d = length m.ident in
          let r = run_verdict_of part en w c n d es (length a) in
          numbered part en w c m counts es a WrongEnable
          (later_sooner 2002 _ r (counts_later (facts_of part) 2002 (length counts) (omega arith) (known_claim part 2002 k))
          (run_later part en w c n d es (length a) 2002 (omega arith) (known_claim part 2002 k) (later_claim 2002 (not (enable_right_of (facts_of part) en)) WrongEnable (omega arith))))
          (within_right 2002 _ r (run_enable part en w c n d es (length a) (le-ltb en (facts_of part).enables h)));
      wrong_counts = λ part en w c m counts es a k h o.
          let n = length m.cells in
          let d = length m.ident in
          let r = run_verdict_of part en w c n d es (length a) in
          numbered part en w c m counts es a WrongBuffer
          (later_sooner 3003 _ r (counts_later (facts_of part) 3003 (length counts) (omega arith) (known_claim part 3003 k))
          (run_later part en w c n d es (length a) 3003 (omega arith) (known_claim part 3003 k) (unclaimed 3003 (not (enable_right_of (facts_of part) en)) WrongEnable (ap not (lt-ltb en (facts_of part).enables h)))))
          (within_left 3003 _ r (other_counts (facts_of part) (length counts) o));
    }
  where
    numbered : (part en : ℕ) (w : PowerCut) (c : Chip) (m : Mem) (counts es a : List ℕ) (r : Refusal)
        → Later (rank_of r) (wear_verdict part en w c m counts es a) → Within (rank_of r) (wear_verdict part en w c m counts es a)
        → verdict_number_of (wear_of part en w c m counts es a).run.answer.verdict ≡ verdict_number_of (Err r)
    numbered part en w c m counts es a r l i = ap verdict_number_of (wear_told part en w c m counts es a (wear_verdict part en w c m counts es a)) ∙ exact r (wear_verdict part en w c m counts es a) l i

pub wear_refused_changes_nothing : WearRefusedChangesNothing wear_of
wear_refused_changes_nothing part en w c m counts es a r = go (wear_verdict part en w c m counts es a)
  where
    go : (v : Verdict) → let x = wear_left_of our_counter part en w c m counts es a v in
        x.run.answer.verdict ≡ Err r
        → (x.counts ≡ counts) × (x.run.mem ≡ m) × (x.run.answer.chip ≡ c) × (x.run.answer.cycles ≡ 0) × (x.run.answers ≡ a)
    go (Ok _) e = absurd (refused_not (sym e))
    go (Err s) e = (refl, refl, refl, refl, refl)

-- ---- one count

-- it stays, or goes on by one, which it does only in its place
up_or_same : (x : ℕ) (on : Bool) → (up_of x on ≡ x) ⊎ (up_of x on ≡ suc x)
unfolding up_of
up_or_same x false = inl refl
up_or_same x true = branch (λ (y : ℕ). (y ≡ x) ⊎ (y ≡ suc x)) (ltb x 4294967295) (λ _. inr (omega arith)) (λ _. inl refl)

bump_or_same : (counts : List ℕ) (at : ℕ) (on : Bool) (n : ℕ)
    → (get_or (bumped_of counts at on) n 0 ≡ get_or counts n 0) ⊎ ((n ≡ at) × (get_or (bumped_of counts at on) n 0 ≡ suc (get_or counts n 0)))
unfolding bumped_of
bump_or_same counts at on n = go (ℕ_discrete n at) (dec_lt at (length counts))
  where
    x : ℕ
    x = up_of (get_or counts at 0) on

    go : Dec (n ≡ at) → Dec (at < length counts) → (get_or (set counts at x) n 0 ≡ get_or counts n 0) ⊎ ((n ≡ at) × (get_or (set counts at x) n 0 ≡ suc (get_or counts n 0)))
    go (no e) l = inl (get_or-set_other counts at n x 0 e)
    go (yes e) (no l) = inl (ap (λ (z : List ℕ). get_or z n 0) (set_out counts at x (omega (arith, l))))
    go (yes e) (yes l) = there (up_or_same (get_or counts at 0) on)
      where
        is : get_or (set counts at x) n 0 ≡ x
        is = ap (λ (z : ℕ). get_or (set counts at x) z 0) e ∙ get_or-set_same counts at x 0 l

        there : (x ≡ get_or counts at 0) ⊎ (x ≡ suc (get_or counts at 0)) → (get_or (set counts at x) n 0 ≡ get_or counts n 0) ⊎ ((n ≡ at) × (get_or (set counts at x) n 0 ≡ suc (get_or counts n 0)))
        there (inl q) = inl (is ∙ q ∙ ap (λ (z : ℕ). get_or counts z 0) (sym e))
        there (inr q) = inr (e, is ∙ q ∙ ap (λ (z : ℕ). suc (get_or counts z 0)) (sym e))

-- what becomes of the counts at N places from `at` on
abbrev Raised : ℕ → ℕ → List ℕ → List ℕ → ℕ → Type 0
Raised at N counts after n = (get_or after n 0 ≡ get_or counts n 0) ⊎ ((at ≤ n) × (n < at + N) × (get_or after n 0 ≡ suc (get_or counts n 0)))

bumped_raised : (g : ℕ) (k counts : List ℕ) (at j N n : ℕ) → Raised at N counts (bumped_from g k counts at j N) n
bumped_raised g k counts at j zero n = inl refl
bumped_raised g k counts at j (suc N) n =
    go (bumped_raised g k (bumped_of counts at (touched_of g k j)) (suc at) (suc j) N n) (bump_or_same counts at (touched_of g k j) n)
  where
    one : List ℕ
    one = bumped_of counts at (touched_of g k j)

    go : Raised (suc at) N one (bumped_from g k one (suc at) (suc j) N) n → (get_or one n 0 ≡ get_or counts n 0) ⊎ ((n ≡ at) × (get_or one n 0 ≡ suc (get_or counts n 0)))
        → Raised at (suc N) counts (bumped_from g k one (suc at) (suc j) N) n
    go (inl r) (inl s) = inl (r ∙ s)
    go (inl r) (inr s) = inr (omega (arith, s.0), omega (arith, s.0), r ∙ s.1)
    go (inr r) (inl s) = inr (omega (arith, r.0), omega (arith, r.1), r.2 ∙ ap suc s)
    go (inr r) (inr s) = absurd (omega (arith, r.0, s.0))

-- an event, whatever the chip is doing: the groups of the counter's page, or none
abbrev first : Facts → Chip → ℕ
first f c = counter_page_of f c.line.core.counter / f.group

closed_raised : (f : Facts) (c : Chip) (counts : List ℕ) (ph : Phase) (n : ℕ) → Raised (first f c) (f.page / f.group) counts (closed_in f c counts ph) n
unfolding closed_in cycle_worn_of target_worn_of page_worn_of
closed_raised f c counts Idle n = inl refl
closed_raised f c counts (Receive r) n = inl refl
closed_raised f c counts (Send t) n = inl refl
closed_raised f c counts (Busy (Writing Array)) n = bumped_raised f.group c.latch counts (first f c) 0 (f.page / f.group) n
closed_raised f c counts (Busy (Writing Ident)) n = inl refl
closed_raised f c counts (Busy Locking) n = inl refl

worn_raised : (f : Facts) (c : Chip) (counts : List ℕ) (e : Event) (n : ℕ) → Raised (first f c) (f.page / f.group) counts (worn_of f c counts e) n
unfolding worn_of
worn_raised f c counts (Clock v) n = inl refl
worn_raised f c counts Start n = inl refl
worn_raised f c counts Stop n = inl refl
worn_raised f c counts Ends n = closed_raised f c counts c.line.phase n
worn_raised f c counts PinLow n = inl refl
worn_raised f c counts PinHigh n = inl refl
worn_raised f c counts PinFloat n = inl refl
worn_raised f c counts (Reset w) n = closed_raised f c counts c.line.phase n
worn_raised f c counts Unknown n = inl refl

never_less : (at N : ℕ) (counts after : List ℕ) (n : ℕ) → Raised at N counts after n → get_or counts n 0 ≤ get_or after n 0
never_less at N counts after n (inl e) = omega (arith, e)
never_less at N counts after n (inr e) = omega (arith, e.2)

worn_grows : (M : Model) (f : Facts) (c : Chip) (counts es : List ℕ) (n : ℕ) → get_or counts n 0 ≤ get_or (worn_by our_counter M f c counts es) n 0
unfolding worn_by
worn_grows M f c counts [] n = omega arith
worn_grows M f c counts (e ∷ es) n =
    omega (arith, never_less (first f c) (f.page / f.group) counts (worn_of f c counts (event_of e)) n (worn_raised f c counts (event_of e) n), worn_grows M f (M.next c e) (worn_of f c counts (event_of e)) es n)

pub counts_never_fall : CountsNeverFall wear_of
counts_never_fall part en w c m counts es a n = go (wear_verdict part en w c m counts es a)
  where
    go : (v : Verdict) → get_or counts n 0 ≤ get_or (wear_left_of our_counter part en w c m counts es a v).counts n 0
    go (Ok _) = worn_grows (ours_with w (facts_of part) en) (facts_of part) c counts es n
    go (Err r) = omega arith

-- the groups of a page are those of one number
page_of : (f : Facts) → Sound f → (c n : ℕ) → counter_page_of f c / f.group ≤ n → n < counter_page_of f c / f.group + f.page / f.group → n / (f.page / f.group) ≡ c / f.page
unfolding counter_page_of
page_of f s c n h k =
    let g : ℕ = f.group in
    let q : ℕ = f.page / f.group in
    let at : c / f.page * f.page / g ≡ c / f.page * q =
    ap (λ (z : ℕ). z / g) (ap (λ (z : ℕ). c / f.page * z) s.groups ∙ sym (mul_assoc (c / f.page) q g)) ∙ mul-div_cancel (c / f.page * q) s.group_pos in
    div-eq_of_lt-le q (omega (arith, at, h)) (omega (arith, at, k))

pub at_most_groups_of_one_page : AtMostGroupsOfOnePage wear_of
unfolding worn_by
at_most_groups_of_one_page part en w c m counts e a =
    record { page = c.line.core.counter / (facts_of part).page; each = λ n. go (wear_verdict part en w c m counts (e ∷ []) a) n }
  where
    f : Facts
    f = facts_of part

    by : (after : List ℕ) (n : ℕ) → Raised (first f c) (f.page / f.group) counts after n
        → (get_or after n 0 ≡ get_or counts n 0) ⊎ ((n / (f.page / f.group) ≡ c.line.core.counter / f.page) × (get_or after n 0 ≡ suc (get_or counts n 0)))
    by after n (inl r) = inl r
    by after n (inr r) = inr (page_of f (sound part) c.line.core.counter n r.0 r.1, r.2)

    go : (v : Verdict) (n : ℕ) → let after = (wear_left_of our_counter part en w c m counts (e ∷ []) a v).counts in
        (get_or after n 0 ≡ get_or counts n 0) ⊎ ((n / (f.page / f.group) ≡ c.line.core.counter / f.page) × (get_or after n 0 ≡ suc (get_or counts n 0)))
    go (Ok _) n = by (worn_of f c counts (event_of e)) n (worn_raised f c counts (event_of e) n)
    go (Err r) n = inl refl
