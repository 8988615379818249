-- Promise 1 is kept: a cycle's end changes one page at most, and the pages that differ, with the cycle that is running, are never more
-- than the cycles begun.
-- Assumes nothing.
use Rattle.std.specs.Prelude.{Option, None, Some}
use mathlib.Core.Path.{◌≡◌, refl, sym, ap, ◌∙◌}
use Prim.Native.Nat.{ℕ, zero, suc, ◌+◌, ◌*◌, ◌/◌, ◌%◌, ◌≤◌, ◌<◌}
use native.Mathlib.Nat.{mul-le-mul_right, zero-add, div-lt_iff_lt-mul, mod-lt, div-add-mod'}
use native.Mathlib.Decide.{ℕ_discrete, dec_lt}
use native.Mathlib.Omega.{arith}
use mathlib.Core.Bool.{Bool, true, false, not, ◌&&◌}
use mathlib.Core.List.{List, [], ◌∷◌}
use mathlib.Core.Logic.{◌≢◌}
use lib.ListN.{length, get_or, take, drop, length-take, length-drop}
use lib.Seq.{ext_get_or, get_or-take, get_or-drop, get_or-set_other}
use lib.Dec.{ltb, eqb}
use borrow.Author.Tests.{eqb-true, eq-eqb}
use Rattle.parts.specs.declared.Facts.{Facts}
use Rattle.parts.specs.declared.Event.{Event}
use Rattle.parts.specs.declared.Event.TheVariants.{Clock, Start, Stop, Ends, PinLow, PinHigh, PinFloat, Reset, Unknown}
use Rattle.parts.specs.Table.{facts_of, pages_of}
use Rattle.parts.specs.declared.Loss.{Loss}
use Rattle.parts.specs.declared.Loss.TheVariants.{Old, Lent}
use Rattle.parts.specs.Events.{event_with}
use Rattle.parts.specs.Bytes.{flag_of, same_of}
use Rattle.parts.proofs.Laws.{branch}
use Rattle.parts.proofs.Bytes.{flag_below, same_eq}
use Rattle.chip.proofs.Laws.{entered_length}
use Rattle.line.specs.declared.Pin.{Pin}
use Rattle.line.specs.declared.Pin.TheVariants.{Low, High, Floating}
use Rattle.line.specs.declared.Target.{Target}
use Rattle.line.specs.declared.Target.TheVariants.{Array, Ident}
use Rattle.line.specs.declared.Recv.{Recv}
use Rattle.line.specs.declared.Cycle.TheVariants.{Writing, Locking}
use Rattle.line.specs.declared.Phase.{Phase}
use Rattle.line.specs.declared.Phase.TheVariants.{Idle, Receive, Send, Busy}
use Rattle.line.specs.declared.Core.{Core}
use Rattle.line.specs.declared.Line.{Line}
use Rattle.line.specs.declared.Cycle.{Cycle}
use Rattle.line.specs.Rules.{received_of, sent_of, clocked_of, started_of, stopped_by_lem, begun_by, due_of, placed_of, asks_of, stopped_of, stop_begun_of, ended_by_of, ended_of, pinned_of, reset_of, next_of, begun_of, taken_of}
use Rattle.parts.specs.Sound.{Sound}
use Rattle.state.specs.declared.Chip.{Chip}
use Rattle.chip.specs.Memory.{Mem, mem, one_of, entered_of, counter_page_of, committed_of, cycle_stored_of, stored_of, risen_from, lost_of, store_with, state_of}
use Rattle.chip.specs.Delivery.{standby_of, delivered_of}
use Rattle.chip_promises.specs.States.{NotBusy}
use Rattle.chip.specs.Model.{PowerCut, ours_with}
use Rattle.chip.specs.Calls.{deliver_of, step_of, run_of}
use Rattle.chip_promises.specs.Calls.{many, before_calls, after_run, call_by, calls_by}
use Rattle.chip_promises.specs.Pages.{page_of, count_of, differing_of, PagesAtMostCycles, PagesFromDelivery, CallsPagesFromDelivery, CountsEveryPage, CoarseBreaks}
use Rattle.chip_promises.specs.Forms.{RunPages, CallsPages}
use Rattle.chip_promises.proofs.Runs.{Invariant, Keeps, keeps, calls_keep, Any, every, every_call}
use Rattle.chip_promises.proofs.Steps.{taken_free}

-- ---- counting

count_same : (p q : ℕ → Bool) (n : ℕ) → ((k : ℕ) → k < n → p k ≡ q k) → count_of p n ≡ count_of q n
unfolding count_of
count_same p q zero h = refl
count_same p q (suc n) h = omega (arith, count_same p q n (λ k l. h k (omega arith)), ap flag_of (h n (omega arith)))

-- a change at one place only raises a count by one at most
count_one : (p q : ℕ → Bool) (x n : ℕ) → ((k : ℕ) → k ≢ x → p k ≡ q k) → count_of p n ≤ count_of q n + 1
unfolding count_of
count_one p q x zero h = omega arith
count_one p q x (suc n) h = go (count_one p q x n h) (ℕ_discrete n x)
  where
    go : count_of p n ≤ count_of q n + 1 → Dec (n ≡ x) → count_of p n + flag_of (p n) ≤ count_of q n + flag_of (q n) + 1
    go ih (yes e) = omega (arith, count_same p q n (λ k l. h k (omega arith)), flag_below (p n))
    go ih (no d) = omega (arith, ap flag_of (h n d))

count_none : (p : ℕ → Bool) (n : ℕ) → ((k : ℕ) → p k ≡ false) → count_of p n ≡ 0
unfolding count_of
count_none p zero h = refl
count_none p (suc n) h = omega (arith, count_none p n h, ap flag_of (h n))

same_refl : (xs : List ℕ) → same_of xs xs ≡ true
unfolding same_of
same_refl [] = refl
same_refl (x ∷ xs) = rw (eq-eqb x x refl) (same_refl xs)

differing_none : (f : Facts) (m : Mem) → differing_of f m m ≡ 0
unfolding differing_of
differing_none f m =
    omega (
      arith,
      count_none (λ k. not (same_of (page_of f.page k m.cells) (page_of f.page k m.cells))) (pages_of f) (λ k. ap not (same_refl (page_of f.page k m.cells))),
      ap (λ (b : Bool). flag_of (not b)) (same_refl m.ident),
    )

-- ---- what entering a page leaves alone

pub one_other : (s : List ℕ) (i x j : ℕ) → j ≢ i → get_or (one_of s i x) j 0 ≡ get_or s j 0
unfolding one_of
one_other s i x j d = branch (λ (l : List ℕ). get_or l j 0 ≡ get_or s j 0) (ltb x 256) (λ _. get_or-set_other s i j x 0 d) (λ _. refl)

pub entered_before : (s : List ℕ) (i : ℕ) (xs : List ℕ) (j : ℕ) → j < i → get_or (entered_of s i xs) j 0 ≡ get_or s j 0
entered_before s i [] j h = refl
entered_before s i (x ∷ xs) j h = entered_before (one_of s i x) (suc i) xs j (omega arith) ∙ one_other s i x j (omega arith)

pub entered_past : (s : List ℕ) (i : ℕ) (xs : List ℕ) (j : ℕ) → i + length xs ≤ j → get_or (entered_of s i xs) j 0 ≡ get_or s j 0
entered_past s i [] j h = refl
entered_past s i (x ∷ xs) j h = entered_past (one_of s i x) (suc i) xs j (omega arith) ∙ one_other s i x j (omega arith)

-- every page but page q is as before
page_other : (P k q : ℕ) (xs s : List ℕ) → length xs ≤ P → k ≢ q → page_of P k (entered_of s (q * P) xs) ≡ page_of P k s
page_other P k q xs s h d =
    ext_get_or 0 (page_of P k (entered_of s (q * P) xs)) (page_of P k s)
    (simp (length-take, length-drop, entered_length))
    (λ i l.
    let l' : i < P = omega (arith, length-take P (drop (k * P) (entered_of s (q * P) xs))) in
    rw (get_or-take, get_or-take, get_or-drop, get_or-drop) (at_other i l' (dec_lt k q)))
  where
    at_other : (i : ℕ) → i < P → Dec (k < q) → get_or (entered_of s (q * P) xs) (k * P + i) 0 ≡ get_or s (k * P + i) 0
    at_other i l (yes o) = entered_before s (q * P) xs (k * P + i) (omega (arith, mul-le-mul_right P o))
    at_other i l (no o) =
        let g : q < k = omega arith in
        entered_past s (q * P) xs (k * P + i) (omega (arith, mul-le-mul_right P g))

-- ---- the cycle that is running

abbrev running : Phase → ℕ
running Idle = 0
running (Receive r) = 0
running (Send t) = 0
running (Busy y) = 1

free_running : (ph : Phase) → NotBusy ph → running ph ≡ 0
free_running Idle h = refl
free_running (Receive r) h = refl
free_running (Send t) h = refl
free_running (Busy y) h = absurd h

stored_one : (f : Facts) (l : Line) (k : List ℕ) (m m₀ : Mem) (ph : Phase)
    → differing_of f (stored_of f l k m ph) m₀ ≤ differing_of f m m₀ + running ph
unfolding stored_of cycle_stored_of committed_of counter_page_of differing_of
stored_one f l k m m₀ Idle = omega arith
stored_one f l k m m₀ (Receive r) = omega arith
stored_one f l k m m₀ (Send t) = omega arith
stored_one f l k m m₀ (Busy Locking) = omega arith
stored_one f l k m m₀ (Busy (Writing Ident)) =
    omega (arith, flag_below (not (same_of (entered_of m.ident (l.core.counter / f.page * f.page) (take f.page k)) m₀.ident)))
stored_one f l k m m₀ (Busy (Writing Array)) =
    omega (
      arith,
      count_one
          (λ i. not (same_of (page_of f.page i (entered_of m.cells (l.core.counter / f.page * f.page) (take f.page k))) (page_of f.page i m₀.cells)))
          (λ i. not (same_of (page_of f.page i m.cells) (page_of f.page i m₀.cells)))
          (l.core.counter / f.page)
          (pages_of f)
          (λ i d. ap (λ (s : List ℕ). not (same_of s (page_of f.page i m₀.cells))) (page_other f.page i (l.core.counter / f.page) (take f.page k) m.cells (omega (arith, length-take f.page k)) d)),
    )

lost_one : (f : Facts) (c : Chip) (page : List ℕ) (m m₀ : Mem) (w : Loss) → differing_of f (lost_of f c page m w) m₀ ≤ differing_of f m m₀ + running c.line.phase
unfolding lost_of
lost_one f c page m m₀ Old = omega arith
lost_one f c page m m₀ (Lent lock) = stored_one f c.line (risen_from f.group c.latch page 0 f.page) m m₀ c.line.phase

received_running : (f : Facts) (en : ℕ) (l : Line) (v : Bool) (r : Recv) (n : ℕ) → running (received_of f en l v r n).phase ≡ 0
unfolding received_of
received_running f en l v r zero = free_running (taken_of f en l.core r l.shift).phase (taken_free f en l.core r l.shift)
received_running f en l v r (suc k) = refl

sent_running : (f : Facts) (l : Line) (v : Bool) (t : Target) (n : ℕ) → running (sent_of f l v t n).phase ≡ 0
unfolding sent_of
sent_running f l v t zero = branch (λ (ph : Phase). running ph ≡ 0) v (λ _. refl) (λ _. refl)
sent_running f l v t (suc k) = refl

clocked_running : (f : Facts) (en : ℕ) (l : Line) (v : Bool) (ph : Phase) → running (clocked_of f en l v ph).phase ≤ running l.phase
unfolding clocked_of
clocked_running f en l v Idle = omega arith
clocked_running f en l v (Busy y) = omega arith
clocked_running f en l v (Receive r) = omega (arith, received_running f en l v r l.left)
clocked_running f en l v (Send t) = omega (arith, sent_running f l v t l.left)

started_running : (l : Line) (ph : Phase) → running (started_of l ph).phase ≤ running l.phase
unfolding started_of
started_running l (Busy y) = omega arith
started_running l Idle = omega arith
started_running l (Receive r) = omega arith
started_running l (Send t) = omega arith

stopped_by : (c : Core) (a : Option Cycle) → running (stopped_by_lem c a).phase ≡ begun_by a
stopped_by c None = refl
stopped_by c (Some y) = refl

stopped_running : (l : Line) (ph : Phase) → running (stopped_of l ph).phase ≤ running l.phase + stop_begun_of l ph
unfolding stopped_of stop_begun_of
stopped_running l Idle = omega arith
stopped_running l (Busy y) = omega arith
stopped_running l (Receive r) = omega (arith, stopped_by l.core (due_of (placed_of l) (asks_of r)))
stopped_running l (Send t) = omega arith

ended_running : (f : Facts) (l : Line) (ph : Phase) → l.phase ≡ ph → running (ended_of f l ph).phase ≡ 0
unfolding ended_of ended_by_of
ended_running f l Idle e = ap running e
ended_running f l (Receive r) e = ap running e
ended_running f l (Send t) e = ap running e
ended_running f l (Busy (Writing Array)) e = refl
ended_running f l (Busy (Writing Ident)) e = refl
ended_running f l (Busy Locking) e = refl

pinned_running : (l : Line) (v : Pin) (ph : Phase) → running (pinned_of l v ph).phase ≡ running l.phase
unfolding pinned_of
pinned_running l v Idle = refl
pinned_running l v (Receive r) = refl
pinned_running l v (Send t) = refl
pinned_running l v (Busy y) = refl

-- one event: the pages that differ and the running cycle grow by no more than the cycles begun
step_count : (page : List ℕ) (f : Facts) (en : ℕ) (m₀ : Mem) (c : Chip) (m : Mem) (e : Event)
    → differing_of f (store_with page f c m e) m₀ + running (next_of f en c.line e).phase
    ≤ differing_of f m m₀ + running c.line.phase + begun_of c.line e
unfolding next_of store_with begun_of reset_of
step_count page f en m₀ c m (Clock v) = omega (arith, clocked_running f en c.line v c.line.phase)
step_count page f en m₀ c m Start = omega (arith, started_running c.line c.line.phase)
step_count page f en m₀ c m Stop = omega (arith, stopped_running c.line c.line.phase)
step_count page f en m₀ c m Ends =
    omega (arith, ended_running f c.line c.line.phase refl, stored_one f c.line c.latch m m₀ c.line.phase)
step_count page f en m₀ c m PinLow = omega (arith, pinned_running c.line Low c.line.phase)
step_count page f en m₀ c m PinHigh = omega (arith, pinned_running c.line High c.line.phase)
step_count page f en m₀ c m PinFloat = omega (arith, pinned_running c.line Floating c.line.phase)
step_count page f en m₀ c m (Reset w) = omega (arith, lost_one f c page m m₀ w)
step_count page f en m₀ c m Unknown = omega arith

-- ---- the promise

abbrev Paid : Facts → Mem → Invariant
Paid f m₀ c m n hs xs = differing_of f m m₀ + running c.line.phase ≤ n

paid_step : (w : PowerCut) (f : Facts) (en : ℕ) (m₀ : Mem) → Keeps (ours_with w f en) Any (Paid f m₀)
unfolding state_of
paid_step w f en m₀ c m n hs xs e _ i = omega (arith, step_count w.page f en m₀ c m (event_with w.loss e))

paid_first : (f : Facts) (c : Chip) (m : Mem) → NotBusy c.line.phase → Paid f m c m 0 [] []
paid_first f c m h = omega (arith, differing_none f m, free_running c.line.phase h)

pub pages_at_most_cycles : (w : PowerCut) → PagesAtMostCycles (ours_with w)
pages_at_most_cycles w f en c m es h =
    omega (arith, keeps (ours_with w f en) Any (Paid f m) (paid_step w f en m) es c m 0 [] [] (every es) (paid_first f c m h))

standby_free : (f : Facts) (lock : Bool) → NotBusy (standby_of f lock).line.phase
unfolding standby_of
standby_free f lock = tt

pub pages_from_delivery : (w : PowerCut) → PagesFromDelivery (ours_with w)
pages_from_delivery w part en es =
    pages_at_most_cycles w (facts_of part) en (standby_of (facts_of part) false) (delivered_of part) es (standby_free (facts_of part) false)

pub calls_pages : CallsPages step_of run_of
calls_pages part en c m xs h =
    omega (arith, calls_keep part en Any (Paid (facts_of part) m) (λ w. paid_step w (facts_of part) en m) xs (before_calls c m) (every_call xs) (paid_first (facts_of part) c m h))

pub run_pages : RunPages run_of
unfolding calls_by call_by after_run
run_pages part en w c m es a h = rw zero-add at (calls_pages part en c m (many w es a ∷ []) h)

pub calls_pages_from_delivery : CallsPagesFromDelivery deliver_of step_of run_of
calls_pages_from_delivery part en m xs e =
    calls_pages part en (standby_of (facts_of part) false) (deliver_of part m).mem xs (standby_free (facts_of part) false)

-- ---- no page is left out

count-zero : (p : ℕ → Bool) (n k : ℕ) → count_of p n ≡ 0 → k < n → flag_of (p k) ≡ 0
unfolding count_of
count-zero p zero k e h = absurd (omega arith)
count-zero p (suc n) k e h = go (ℕ_discrete k n) (λ l. count-zero p n k (omega arith) l)
  where
    go : Dec (k ≡ n) → (k < n → flag_of (p k) ≡ 0) → flag_of (p k) ≡ 0
    go (yes q) ih = ap (λ (i : ℕ). flag_of (p i)) q ∙ omega arith
    go (no d) ih = ih (omega arith)

bit_zero : (b : Bool) → flag_of (not b) ≡ 0 → b ≡ true
bit_zero true e = refl
bit_zero false e = absurd (omega arith)

-- a byte below a whole number of pages stands in one of them
pages_all : (n P : ℕ) (s t : List ℕ) → length s ≡ length t → length s ≡ n * P
    → ((k : ℕ) → k < n → page_of P k s ≡ page_of P k t) → 0 < P → s ≡ t
pages_all n P s t e w h pos =
    ext_get_or 0 s t e
    (λ i l.
    let q : i / P < n = (div-lt_iff_lt-mul pos).1 (omega arith) in
    let m : i % P < P = mod-lt i pos in
    let d : i / P * P + i % P ≡ i = div-add-mod' i P in
    ap (λ (j : ℕ). get_or s j 0) (sym d)
    ∙ sym (in_page s (i / P) (i % P) m)
    ∙ ap (λ (x : List ℕ). get_or x (i % P) 0) (h (i / P) q)
    ∙ in_page t (i / P) (i % P) m
    ∙ ap (λ (j : ℕ). get_or t j 0) d)
  where
    in_page : (x : List ℕ) (k j : ℕ) → j < P → get_or (page_of P k x) j 0 ≡ get_or x (k * P + j) 0
    in_page x k j l = rw (get_or-take, get_or-drop)

differing_all : (f : Facts) → Sound f → (m m₀ : Mem) → length m.cells ≡ f.size → length m₀.cells ≡ f.size → differing_of f m m₀ ≡ 0 → m ≡ m₀
unfolding differing_of pages_of
differing_all f sound m m₀ a b e =
    let none : count_of (λ k. not (same_of (page_of f.page k m.cells) (page_of f.page k m₀.cells))) (f.size / f.page) ≡ 0 = omega arith in
    let cells : m.cells ≡ m₀.cells =
    pages_all (f.size / f.page) f.page m.cells m₀.cells (a ∙ sym b) (omega (arith, sound.whole))
    (λ k l. same_eq (page_of f.page k m.cells) (page_of f.page k m₀.cells)
    (bit_zero (same_of (page_of f.page k m.cells) (page_of f.page k m₀.cells)) (count-zero (λ i. not (same_of (page_of f.page i m.cells) (page_of f.page i m₀.cells))) (f.size / f.page) k none l)))
    sound.page_pos in
    let ident : m.ident ≡ m₀.ident = same_eq m.ident m₀.ident (bit_zero (same_of m.ident m₀.ident) (omega arith)) in
    ap (λ (s : List ℕ). mem s m.ident) cells ∙ ap (mem m₀.cells) ident

-- one number more has the property
count_more : (p q : ℕ → Bool) (x n : ℕ) → x < n → p x ≡ true → q x ≡ false → ((k : ℕ) → k ≢ x → p k ≡ q k) → count_of p n ≡ count_of q n + 1
unfolding count_of
count_more p q x zero l a b h = absurd (omega arith)
count_more p q x (suc n) l a b h = go (ℕ_discrete n x) (λ i. count_more p q x n i a b h)
  where
    go : Dec (n ≡ x) → (x < n → count_of p n ≡ count_of q n + 1) → count_of p n + flag_of (p n) ≡ count_of q n + flag_of (q n) + 1
    go (yes e) ih =
        omega (arith, count_same p q n (λ k i. h k (omega arith)), ap (λ (k : ℕ). flag_of (p k)) e, ap (λ (k : ℕ). flag_of (q k)) e, ap flag_of a, ap flag_of b)
    go (no e) ih = omega (arith, ih (omega arith), ap flag_of (h n e))

differ : (xs ys : List ℕ) → (xs ≡ ys → ⊥) → not (same_of xs ys) ≡ true
differ xs ys h = go (same_of xs ys) (same_eq xs ys)
  where
    go : (b : Bool) → (b ≡ true → xs ≡ ys) → not b ≡ true
    go true f = absurd (h (f refl))
    go false f = refl

alike : (xs ys : List ℕ) → xs ≡ ys → not (same_of xs ys) ≡ false
alike xs ys e = ap (λ (z : List ℕ). not (same_of z ys)) e ∙ ap not (same_refl ys)

differing_one : (f : Facts) (m n m₀ : Mem) (k : ℕ) → k < pages_of f
    → page_of f.page k m.cells ≡ page_of f.page k m₀.cells → (page_of f.page k n.cells ≡ page_of f.page k m₀.cells → ⊥)
    → ((j : ℕ) → (j ≡ k → ⊥) → page_of f.page j n.cells ≡ page_of f.page j m.cells) → n.ident ≡ m.ident
    → differing_of f n m₀ ≡ differing_of f m m₀ + 1
unfolding differing_of
differing_one f m n m₀ k l a b h i =
    omega (
      arith,
      count_more (λ j. not (same_of (page_of f.page j n.cells) (page_of f.page j m₀.cells)))
          (λ j. not (same_of (page_of f.page j m.cells) (page_of f.page j m₀.cells))) k (pages_of f) l
          (differ (page_of f.page k n.cells) (page_of f.page k m₀.cells) b) (alike (page_of f.page k m.cells) (page_of f.page k m₀.cells) a)
          (λ j e. ap (λ (x : List ℕ). not (same_of x (page_of f.page j m₀.cells))) (h j e)),
      ap (λ (x : List ℕ). flag_of (not (same_of x m₀.ident))) i,
    )

differing_ident : (f : Facts) (m n m₀ : Mem) → n.cells ≡ m.cells → m.ident ≡ m₀.ident → (n.ident ≡ m₀.ident → ⊥) → differing_of f n m₀ ≡ differing_of f m m₀ + 1
unfolding differing_of
differing_ident f m n m₀ c a b =
    omega (
      arith,
      ap (λ (s : List ℕ). count_of (λ k. not (same_of (page_of f.page k s) (page_of f.page k m₀.cells))) (pages_of f)) c,
      ap flag_of (alike m.ident m₀.ident a),
      ap flag_of (differ n.ident m₀.ident b),
    )

pub counts_every_page : CountsEveryPage differing_of
counts_every_page = record { none = differing_none; one = differing_one; ident = differing_ident; all = differing_all }

-- a byte of the array differs, and then one of the identification page too
pub coarse_breaks : CoarseBreaks
unfolding same_of
coarse_breaks p =
    let z : ◌≡◌ {A = ℕ} 1 2 = p.ident (facts_of 0) (mem (1 ∷ []) []) (mem (1 ∷ []) (1 ∷ [])) (mem (0 ∷ []) []) refl refl (λ e. let l = ap (λ (x : List ℕ). length x) e in absurd (omega (arith, l))) in
    omega arith
