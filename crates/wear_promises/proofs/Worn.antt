-- What an event adds to the counts: one for each group that the bytes of a cycle's transfer touched, where the event ends or cuts that cycle.
-- Assumes nothing.
use Prim.Native.Nat.{ℕ, zero, suc, ◌+◌, ◌-◌, ◌*◌, ◌/◌, ◌<◌}
use mathlib.Core.Path.{◌≡◌, ◌∙◌, refl, sym, ap, subst}
use mathlib.Core.Bool.{Bool, true, false, cond, ◌&&◌}
use mathlib.Core.List.{List, [], ◌∷◌, append-nil}
use native.Mathlib.Nat.{zero-add, add-zero}
use native.Mathlib.Decide.{dec_lt}
use native.Mathlib.Omega.{arith}
use lib.Dec.{eqb}
use lib.ListN.{length, get_or, set, length-set}
use lib.Seq.{get_or-set_same, get_or-set_other}
use borrow.Author.Tests.{eqb-true}
use Rattle.parts.specs.declared.Facts.{Facts}
use Rattle.parts.specs.declared.Event.{Event}
use Rattle.parts.specs.declared.Event.TheVariants.{Clock, Start, Stop, Ends, PinLow, PinHigh, PinFloat, Reset, Unknown}
use Rattle.parts.specs.Sound.{Sound}
use Rattle.parts.specs.Events.{event_with, event_of}
use Rattle.parts.specs.Bytes.{AllBelow, up_of}
use Rattle.parts.proofs.Bytes.{up_wide}
use Rattle.parts.proofs.Laws.{branch}
use Rattle.line.specs.declared.Target.TheVariants.{Array, Ident}
use Rattle.line.specs.declared.Cycle.TheVariants.{Writing, Locking}
use Rattle.line.specs.declared.Phase.{Phase}
use Rattle.line.specs.declared.Phase.TheVariants.{Idle, Receive, Send, Busy}
use Rattle.line.specs.declared.Line.{Line}
use Rattle.state.specs.declared.Chip.{Chip}
use Rattle.chip.specs.Memory.{counter_page_of, touched_of}
use Rattle.chip.specs.Runs.{closes_of}
use Rattle.chip_promises.specs.Stops.{Byte, Seen, quiet, cycling, since, Watch}
use Rattle.chip_promises.proofs.Stops.{Side, Beside}
use Rattle.wear.specs.Wear.{bumped_of, bumped_from, page_worn_of, target_worn_of, cycle_worn_of, closed_in, worn_of}
use Rattle.wear_promises.specs.History.{address_of, data_count_of, lands_in, names_array, touches_of, bytes_seen, is_cycling, completes_of}
use Rattle.wear_promises.proofs.Landed.{first_of, Landed, page_is, outside}
use Rattle.wear_promises.proofs.Inside.{Other, Inside, InsideAt}

-- ---- n counts from `at` on

bumped_apart : (g : ℕ) (k counts : List ℕ) (at j n m : ℕ) → ((i : ℕ) → i < n → m ≡ at + i → ⊥) → get_or (bumped_from g k counts at j n) m 0 ≡ get_or counts m 0
unfolding bumped_of
bumped_apart g k counts at j zero m o = refl
bumped_apart g k counts at j (suc n) m o =
    bumped_apart g k (bumped_of counts at (touched_of g k j)) (suc at) (suc j) n m (λ i h e. o (suc i) (omega arith) (omega arith))
    ∙ get_or-set_other counts at m (up_of (get_or counts at 0) (touched_of g k j)) 0 (λ e. o 0 (omega arith) (omega arith))

bumped_at : (g : ℕ) (k counts : List ℕ) (at j n i : ℕ) → i < n → at + i < length counts
    → get_or (bumped_from g k counts at j n) (at + i) 0 ≡ up_of (get_or counts (at + i) 0) (touched_of g k (j + i))
unfolding bumped_of
bumped_at g k counts at j zero i h l = absurd (omega arith)
bumped_at g k counts at j (suc n) zero h l =
    let up : ℕ = up_of (get_or counts at 0) (touched_of g k j) in
    rw (add-zero at, add-zero j)
    (bumped_apart g k (bumped_of counts at (touched_of g k j)) (suc at) (suc j) n at (λ i q e. omega arith) ∙ get_or-set_same counts at up 0 (omega arith))
bumped_at g k counts at j (suc n) (suc i) h l =
    let up : ℕ = up_of (get_or counts at 0) (touched_of g k j) in
    let e : suc at + i ≡ at + suc i = omega arith in
    let d : suc j + i ≡ j + suc i = omega arith in
    subst (λ (z : ℕ). get_or (bumped_from g k (set counts at up) (suc at) (suc j) n) z 0 ≡ up_of (get_or counts z 0) (touched_of g k (j + suc i))) e
    (bumped_at g k (set counts at up) (suc at) (suc j) n i (omega arith) (omega (arith, length-set counts at up))
    ∙ (ap (λ (z : ℕ). up_of z (touched_of g k (suc j + i))) (get_or-set_other counts at (suc at + i) up 0 (λ q. omega arith))
    ∙ ap (λ (z : ℕ). up_of (get_or counts (suc at + i) 0) (touched_of g k z)) d))

bumped_length : (g : ℕ) (k counts : List ℕ) (at j n : ℕ) → length (bumped_from g k counts at j n) ≡ length counts
unfolding bumped_of
bumped_length g k counts at j zero = refl
bumped_length g k counts at j (suc n) =
    bumped_length g k (bumped_of counts at (touched_of g k j)) (suc at) (suc j) n ∙ length-set counts at (up_of (get_or counts at 0) (touched_of g k j))

pub below_get : (b : ℕ) (l : List ℕ) (i : ℕ) → 0 < b → AllBelow b l → get_or l i 0 < b
below_get b [] i h o = h
below_get b (x ∷ l) zero h o = o.0
below_get b (x ∷ l) (suc i) h o = below_get b l i h o.1

below_set : (b : ℕ) (l : List ℕ) (i x : ℕ) → x < b → AllBelow b l → AllBelow b (set l i x)
below_set b [] i x h o = tt
below_set b (y ∷ l) zero x h o = (h, o.1)
below_set b (y ∷ l) (suc i) x h o = (o.0, below_set b l i x h o.1)

bumped_wide : (g : ℕ) (k counts : List ℕ) (at j n : ℕ) → AllBelow 4294967296 counts → AllBelow 4294967296 (bumped_from g k counts at j n)
unfolding bumped_of
bumped_wide g k counts at j zero o = o
bumped_wide g k counts at j (suc n) o =
    let up : ℕ = up_of (get_or counts at 0) (touched_of g k j) in
    bumped_wide g k (set counts at up) (suc at) (suc j) n
    (below_set 4294967296 counts at up (up_wide (get_or counts at 0) (touched_of g k j) (below_get 4294967296 counts at (omega arith) o)) o)

-- ---- the page at the counter

page_worn : (f : Facts) → Sound f → (bs : List Byte) (n : ℕ) (k : List ℕ) → Landed f bs n k → (counts : List ℕ) (m : ℕ) → m < length counts
    → get_or (page_worn_of f n k counts) m 0 ≡ up_of (get_or counts m 0) (lands_in f bs m (data_count_of f bs))
unfolding page_worn_of counter_page_of up_of
page_worn f ok bs n k o counts m h =
    subst (λ (z : ℕ). get_or (bumped_from f.group k counts z 0 q) m 0 ≡ up_of (get_or counts m 0) (lands_in f bs m c))
    (sym (ap (λ (z : ℕ). z * f.page / f.group) (page_is f ok bs n k o))) (go (dec_lt m first) (dec_lt m (first + q)))
  where
    q : ℕ
    q = f.page / f.group

    c : ℕ
    c = data_count_of f bs

    first : ℕ
    first = first_of f (address_of f bs)

    Q : ℕ → Type 0
    Q z = z < length counts → get_or (bumped_from f.group k counts first 0 q) z 0 ≡ up_of (get_or counts z 0) (lands_in f bs z c)

    apart : ((i : ℕ) → i < q → m ≡ first + i → ⊥) → get_or (bumped_from f.group k counts first 0 q) m 0 ≡ up_of (get_or counts m 0) (lands_in f bs m c)
    apart u = bumped_apart f.group k counts first 0 q m u ∙ ap (λ (z : Bool). up_of (get_or counts m 0) z) (sym (outside f ok bs m c u))

    within : (i : ℕ) → i < q → Q (first + i)
    within i u l =
        bumped_at f.group k counts first 0 q i u l
        ∙ ap (λ (z : Bool). up_of (get_or counts (first + i) 0) z) (ap (touched_of f.group k) (zero-add i) ∙ o.touched i)

    go : Dec (m < first) → Dec (m < first + q) → get_or (bumped_from f.group k counts first 0 q) m 0 ≡ up_of (get_or counts m 0) (lands_in f bs m c)
    go (yes l) r = apart (λ i u e. omega arith)
    go (no l) (yes r) =
        let e : first + (m - first) ≡ m = omega arith in
        subst Q e (within (m - first) (omega arith)) h
    go (no l) (no r) = apart (λ i u e. omega arith)

-- ---- what the chip is doing

abbrev is_busy : Phase → Bool
is_busy Idle = false
is_busy (Receive r) = false
is_busy (Send t) = false
is_busy (Busy y) = true

-- "a locking or identification cycle for none"
unnamed : (f : Facts) (p : List Byte) (x m : ℕ) → Other p → x ≡ up_of x (touches_of f p m)
unfolding touches_of up_of
unnamed f p x m o = ap (λ (z : Bool). up_of x (z && lands_in f p m (data_count_of f p))) (sym (ap names_array (sym (append-nil p)) ∙ o []))

closed_worn : (f : Facts) → Sound f → (c : Chip) (counts : List ℕ) (ph : Phase) (bs p : List Byte) (m : ℕ) → m < length counts
    → Inside f c.line.core.counter c.latch ph bs p
    → get_or (closed_in f c counts ph) m 0 ≡ up_of (get_or counts m 0) (is_busy ph && touches_of f p m)
unfolding closed_in cycle_worn_of target_worn_of touches_of up_of
closed_worn f ok c counts Idle bs p m h o = refl
closed_worn f ok c counts (Receive r) bs p m h o = refl
closed_worn f ok c counts (Send t) bs p m h o = refl
closed_worn f ok c counts (Busy (Writing Array)) bs p m h o =
    page_worn f ok p c.line.core.counter c.latch o counts m h
    ∙ ap (λ (z : Bool). up_of (get_or counts m 0) (z && lands_in f p m (data_count_of f p))) (sym o.names)
closed_worn f ok c counts (Busy (Writing Ident)) bs p m h o = unnamed f p (get_or counts m 0) m o
closed_worn f ok c counts (Busy Locking) bs p m h o = unnamed f p (get_or counts m 0) m o

closed_kept : (f : Facts) (c : Chip) (counts : List ℕ) (ph : Phase)
    → (length (closed_in f c counts ph) ≡ length counts) × (AllBelow 4294967296 counts → AllBelow 4294967296 (closed_in f c counts ph))
unfolding closed_in cycle_worn_of target_worn_of page_worn_of
closed_kept f c counts Idle = (refl, λ o. o)
closed_kept f c counts (Receive r) = (refl, λ o. o)
closed_kept f c counts (Send t) = (refl, λ o. o)
closed_kept f c counts (Busy (Writing Array)) =
    let first : ℕ = counter_page_of f c.line.core.counter / f.group in
    (bumped_length f.group c.latch counts first 0 (f.page / f.group), bumped_wide f.group c.latch counts first 0 (f.page / f.group))
closed_kept f c counts (Busy (Writing Ident)) = (refl, λ o. o)
closed_kept f c counts (Busy Locking) = (refl, λ o. o)

-- a cycle runs for the chip where one does for the history
busy_is : (f : Facts) (l : Line) (ph : Phase) (s : Seen) → Side f l ph s → is_busy ph ≡ is_cycling s
busy_is f l Idle quiet o = refl
busy_is f l Idle cycling o = absurd o
busy_is f l Idle (since h bs j n) o = refl
busy_is f l (Receive r) quiet o = absurd o
busy_is f l (Receive r) cycling o = absurd o
busy_is f l (Receive r) (since h bs j n) o = refl
busy_is f l (Send t) quiet o = absurd o
busy_is f l (Send t) cycling o = absurd o
busy_is f l (Send t) (since h bs j n) o = refl
busy_is f l (Busy y) quiet o = absurd o
busy_is f l (Busy y) cycling o = refl
busy_is f l (Busy y) (since h bs j n) o = absurd o

-- ---- an event

abbrev closes : Event → Bool
closes (Clock v) = false
closes Start = false
closes Stop = false
closes Ends = true
closes PinLow = false
closes PinHigh = false
closes PinFloat = false
closes (Reset w) = true
closes Unknown = false

closes_is : (e : ℕ) → closes (event_of e) ≡ closes_of e
unfolding event_with closes_of
closes_is e =
    branch Q (eqb e 0) (is 0) (λ _.
    branch Q (eqb e 1) (is 1) (λ _.
    branch Q (eqb e 2) (is 2) (λ _.
    branch Q (eqb e 3) (is 3) (λ _.
    branch Q (eqb e 4) (is 4) (λ t.
    branch Q (eqb e 5) (is 5) (λ _.
    branch Q (eqb e 6) (is 6) (λ _.
    branch Q (eqb e 7) (is 7) (λ _.
    branch Q (eqb e 8) (is 8) (λ u. sym (ap (λ (z : Bool). cond z true (eqb e 8)) t ∙ u))))))))))
  where
    Q : Event → Type 0
    Q z = closes z ≡ closes_of e

    is : (i : ℕ) → eqb e i ≡ true → closes_of i ≡ closes_of e
    is i t = ap closes_of (sym (eqb-true e i t))

module _ (f : Facts) (c : Chip) (counts : List ℕ) where
  pub worn_kept : (d : Event) → (length (worn_of f c counts d) ≡ length counts) × (AllBelow 4294967296 counts → AllBelow 4294967296 (worn_of f c counts d))
  unfolding worn_of
  worn_kept (Clock v) = (refl, λ o. o)
  worn_kept Start = (refl, λ o. o)
  worn_kept Stop = (refl, λ o. o)
  worn_kept Ends = closed_kept f c counts c.line.phase
  worn_kept PinLow = (refl, λ o. o)
  worn_kept PinHigh = (refl, λ o. o)
  worn_kept PinFloat = (refl, λ o. o)
  worn_kept (Reset w) = closed_kept f c counts c.line.phase
  worn_kept Unknown = (refl, λ o. o)

  module _ (ok : Sound f) (v : Watch) (p : List Byte) (beside : Beside f c.line v) (inside : InsideAt f c v p) (m : ℕ) (h : m < length counts) where
    event_worn : (d : Event) → get_or (worn_of f c counts d) m 0 ≡ up_of (get_or counts m 0) ((closes d && is_busy c.line.phase) && touches_of f p m)
    unfolding worn_of up_of
    event_worn (Clock w) = refl
    event_worn Start = refl
    event_worn Stop = refl
    event_worn Ends = closed_worn f ok c counts c.line.phase (bytes_seen v.seen) p m h inside
    event_worn PinLow = refl
    event_worn PinHigh = refl
    event_worn PinFloat = refl
    event_worn (Reset w) = closed_worn f ok c counts c.line.phase (bytes_seen v.seen) p m h inside
    event_worn Unknown = refl

    pub worn_is : (e : ℕ) → get_or (worn_of f c counts (event_of e)) m 0 ≡ up_of (get_or counts m 0) (completes_of v.seen e && touches_of f p m)
    unfolding completes_of
    worn_is e =
        event_worn (event_of e)
        ∙ (ap (λ (z : Bool). up_of (get_or counts m 0) ((z && is_busy c.line.phase) && touches_of f p m)) (closes_is e)
        ∙ ap (λ (z : Bool). up_of (get_or counts m 0) ((closes_of e && z) && touches_of f p m)) (busy_is f c.line c.line.phase v.seen beside.side))
