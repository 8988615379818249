-- A cut spoils the groups with a latched byte of the one page, and no other byte.
-- Assumes nothing.
use Rattle.std.specs.Prelude.{Ok, Err}
use Prim.Native.Nat.{ℕ, zero, suc, ◌+◌, ◌*◌, ◌/◌, ◌%◌, ◌<◌, ◌≤◌}
use native.Mathlib.Nat.{zero-add, mod-lt, div-add-mod', div-eq_of_lt-le}
use native.Mathlib.Decide.{ℕ_discrete, dec_lt}
use native.Mathlib.Omega.{arith}
use mathlib.Core.Path.{◌≡◌, refl, sym, ap, ◌∙◌, subst}
use mathlib.Core.Bool.{Bool, true, false, cond}
use mathlib.Core.List.{List, [], ◌∷◌}
use lib.ListN.{length, get_or, set, take, drop, take-append-drop, get_or-eq_default}
use lib.Seq.{take_all, ext_get_or, get_or-take, get_or-drop, get_or-set_same}
use lib.Dec.{eqb, ltb}
use borrow.Author.Tests.{lt-ltb, ltb-true, eqb-true, eqb-false}
use Rattle.parts.specs.declared.Facts.{Facts}
use Rattle.parts.specs.declared.Loss.{Loss}
use Rattle.parts.specs.declared.Loss.TheVariants.{Old, Lent}
use Rattle.parts.specs.declared.Event.{Event}
use Rattle.parts.specs.declared.Event.TheVariants.{Reset}
use Rattle.parts.specs.Verdict.{Verdict}
use Rattle.parts.specs.Table.{facts_of}
use Rattle.parts.specs.Events.{event_with}
use Rattle.parts.specs.Sound.{Sound}
use Rattle.parts.specs.Bytes.{AllBelow}
use Rattle.parts.proofs.Laws.{branch, sound}
use Rattle.parts.proofs.Claims.{refused_not}
use Rattle.parts.proofs.Bytes.{below_at, below_drop, below_left}
use Rattle.line.specs.declared.Target.{Target}
use Rattle.line.specs.declared.Target.TheVariants.{Array, Ident}
use Rattle.line.specs.declared.Cycle.TheVariants.{Writing, Locking}
use Rattle.line.specs.declared.Phase.{Phase}
use Rattle.line.specs.declared.Phase.TheVariants.{Idle, Receive, Send, Busy}
use Rattle.line.specs.declared.Line.{Line}
use Rattle.line.specs.Rules.{at, lock_at_reset, reset_of, next_of, act_of, level_of, begun_of}
use Rattle.state.specs.declared.Chip.{Chip}
use Rattle.chip.specs.Memory.{Mem, mem, chip, no_latch, cells_of, with_cells, one_of, entered_of, counter_page_of, committed_of, cycle_stored_of, stored_of, latched_in, touched_of, risen_of, risen_from, lost_of, store_with, state_of, chip_level_of}
use Rattle.chip.specs.Model.{Model, PowerCut, cut_by, old, ours_with}
use Rattle.chip.specs.Runs.{after_of, memory_of}
use Rattle.chip.specs.Calls.{step_left_of, step_verdict, step_of}
use Rattle.chip.proofs.Laws.{one_length, entered_length}
use Rattle.chip.proofs.Groups.{risen_length, risen_at}
use Rattle.chip_laws.proofs.Range.{no_way}
use Rattle.chip_promises.specs.States.{NotBusy}
use Rattle.chip_promises.specs.Pages.{page_of}
use Rattle.chip_promises.specs.Power.{PowerModel, GroupSizes, NotWriting, InGroup, Spoils, CutSpoilsGroups, SpoilsOneWay, NotLocking, lock_then, LockAsFlag, with_lock, ResetStands, CutOnlyInCycle, Powered, SameAt, PowerPinned, own, OldIsOwnPage, StepSpoils}
use Rattle.chip_promises.proofs.Steps.{reset_code, any_loss}
use Rattle.chip_promises.proofs.Pages.{one_other, entered_before, entered_past}

one_byte : (part : ℕ) → part < 2 → (facts_of part).group ≡ 1
unfolding facts_of
one_byte zero h = refl
one_byte (suc zero) h = refl
one_byte (suc (suc n)) h = absurd (omega arith)

four_bytes : (part : ℕ) → 2 ≤ part → part ≤ 5 → (facts_of part).group ≡ 4
unfolding facts_of
four_bytes zero l h = absurd (omega arith)
four_bytes (suc zero) l h = absurd (omega arith)
four_bytes (suc (suc zero)) l h = refl
four_bytes (suc (suc (suc zero))) l h = refl
four_bytes (suc (suc (suc (suc zero)))) l h = refl
four_bytes (suc (suc (suc (suc (suc zero))))) l h = refl
four_bytes (suc (suc (suc (suc (suc (suc n)))))) l h = absurd (omega arith)

pub group_sizes : GroupSizes
group_sizes = record { one = one_byte; four = four_bytes }

-- ---- a latched byte of a group

-- one is found where there is one
latched_there : (k : List ℕ) (i n by : ℕ) → i ≤ by → by < i + n → get_or k by 256 < 256 → latched_in k i n ≡ true
latched_there k i zero by a b h = absurd (omega arith)
latched_there k i (suc n) by a b h = go (ℕ_discrete i by) (ltb (get_or k i 256) 256) refl (λ x y. latched_there k (suc i) n by x y h)
  where
    go : Dec (i ≡ by) → (t : Bool) → ltb (get_or k i 256) 256 ≡ t → (suc i ≤ by → by < suc i + n → latched_in k (suc i) n ≡ true) → cond t true (latched_in k (suc i) n) ≡ true
    go d true e on = refl
    go (yes d) false e on = no_way (sym e ∙ ap (λ (j : ℕ). ltb (get_or k j 256) 256) d ∙ lt-ltb (get_or k by 256) 256 h)
    go (no d) false e on = on (omega (arith, d)) (omega arith)

-- and where none is found there is none
record Latched (k : List ℕ) (i n : ℕ) : Type 0 where
  by : ℕ
  from : i ≤ by
  to : by < i + n
  here : get_or k by 256 < 256

there_latched : (k : List ℕ) (i n : ℕ) → latched_in k i n ≡ true → Latched k i n
there_latched k i zero e = no_way e
there_latched k i (suc n) e = go (ltb (get_or k i 256) 256) refl e (λ q. there_latched k (suc i) n q)
  where
    go : (t : Bool) → ltb (get_or k i 256) 256 ≡ t → cond t true (latched_in k (suc i) n) ≡ true → (latched_in k (suc i) n ≡ true → Latched k (suc i) n) → Latched k i (suc n)
    go true d e on = record { by = i; from = omega arith; to = omega arith; here = ltb-true (get_or k i 256) 256 d }
    go false d e on =
        let r = on e in
        record { by = r.by; from = omega (arith, r.from); to = omega (arith, r.to); here = r.here }

module _ (g : ℕ) (k : List ℕ) (pos : 0 < g) where
  touched_by : (j by : ℕ) → by / g ≡ j → get_or k by 256 < 256 → touched_of g k j ≡ true
  unfolding touched_of
  touched_by j by e h =
      let d : j * g + by % g ≡ by = ap (λ (z : ℕ). z * g + by % g) (sym e) ∙ div-add-mod' by g in
      latched_there k (j * g) g by (omega (arith, d)) (omega (arith, d, mod-lt by pos)) h

  by_touched : (j : ℕ) → touched_of g k j ≡ true → (by : ℕ) × (by / g ≡ j) × (get_or k by 256 < 256)
  unfolding touched_of
  by_touched j t =
      let r = there_latched k (j * g) g t in
      (r.by, div-eq_of_lt-le g r.from (omega (arith, r.to)), r.here)

-- ---- the bytes that enter

abbrev chosen : ℕ → ℕ → ℕ
chosen x b = cond (ltb x 256) x b

one_here : (s : List ℕ) (i x : ℕ) → i < length s → get_or (one_of s i x) i 0 ≡ chosen x (get_or s i 0)
unfolding one_of
one_here s i x h = go (ltb x 256)
  where
    go : (b : Bool) → get_or (cond b (set s i x) s) i 0 ≡ cond b x (get_or s i 0)
    go true = get_or-set_same s i x 0 h
    go false = refl

pub entered_at : (s : List ℕ) (at : ℕ) (xs : List ℕ) (i : ℕ) → i < length xs → at + i < length s
    → get_or (entered_of s at xs) (at + i) 0 ≡ chosen (get_or xs i 256) (get_or s (at + i) 0)
entered_at s at [] i h k = absurd (omega arith)
entered_at s at (x ∷ xs) zero h k =
    let e : at + 0 ≡ at = omega arith in
    ap (λ (j : ℕ). get_or (entered_of (one_of s at x) (suc at) xs) j 0) e
    ∙ entered_before (one_of s at x) (suc at) xs at (omega arith)
    ∙ one_here s at x (omega arith)
    ∙ ap (λ (j : ℕ). chosen x (get_or s j 0)) (sym e)
entered_at s at (x ∷ xs) (suc i) h k =
    let e : at + suc i ≡ suc at + i = omega arith in
    ap (λ (j : ℕ). get_or (entered_of (one_of s at x) (suc at) xs) j 0) e
    ∙ entered_at (one_of s at x) (suc at) xs i (omega arith) (omega (arith, one_length s at x))
    ∙ ap (λ (j : ℕ). chosen (get_or xs i 256) (get_or (one_of s at x) j 0)) (sym e)
    ∙ ap (λ (b : ℕ). chosen (get_or xs i 256) b) (one_other s at x (at + suc i) (λ q. omega arith))

risen_in : (g : ℕ) (k page : List ℕ) (i b : ℕ) → AllBelow 256 page → touched_of g k (i / g) ≡ true → chosen (risen_of g k page i) b ≡ get_or page i 0
unfolding risen_of
risen_in g k page i b h t = rw (t, lt-ltb (get_or page i 0) 256 (below_at page h i)) refl

risen_out : (g : ℕ) (k page : List ℕ) (i b : ℕ) → touched_of g k (i / g) ≡ false → chosen (risen_of g k page i) b ≡ b
unfolding risen_of
risen_out g k page i b t = rw t refl

-- ---- a page that is cut: q is its number

module _ (P g q : ℕ) (pos : 0 < P) (k page s : List ℕ) where
  abbrev spoilt : List ℕ
  spoilt = entered_of s (q * P) (risen_from g k page 0 P)

  at_place : (j : ℕ) → j / P ≡ q → j < length s → get_or spoilt j 0 ≡ chosen (risen_of g k page (j % P)) (get_or s j 0)
  at_place j e h =
      let d : q * P + j % P ≡ j = ap (λ (z : ℕ). z * P + j % P) (sym e) ∙ div-add-mod' j P in
      let l : j % P < P = mod-lt j pos in
      ap (λ (z : ℕ). get_or spoilt z 0) (sym d)
      ∙ entered_at s (q * P) (risen_from g k page 0 P) (j % P) (omega (arith, l, risen_length g k page 0 P)) (omega (arith, d, h))
      ∙ ap (λ (z : ℕ). chosen z (get_or s (q * P + j % P) 0)) (risen_at g k page 0 P (j % P) 256 l ∙ ap (risen_of g k page) (zero-add (j % P)))
      ∙ ap (λ (z : ℕ). chosen (risen_of g k page (j % P)) (get_or s z 0)) d

  past_end : (j : ℕ) → length s ≤ j → get_or spoilt j 0 ≡ get_or s j 0
  past_end j h =
      get_or-eq_default spoilt 0 (omega (arith, entered_length s (q * P) (risen_from g k page 0 P), h)) ∙ sym (get_or-eq_default s 0 h)

  elsewhere : (j : ℕ) → (j / P ≡ q → ⊥) → get_or spoilt j 0 ≡ get_or s j 0
  elsewhere j d = go (dec_lt j (q * P)) (dec_lt j (q * P + P))
    where
      go : Dec (j < q * P) → Dec (j < q * P + P) → get_or spoilt j 0 ≡ get_or s j 0
      go (yes l) w = entered_before s (q * P) (risen_from g k page 0 P) j l
      go (no n) (yes l) = absurd (d (div-eq_of_lt-le P (omega arith) (omega (arith, l))))
      go (no n) (no l) = entered_past s (q * P) (risen_from g k page 0 P) j (omega (arith, risen_length g k page 0 P))

  kept_at : (j : ℕ) → ((j / P ≡ q) × (touched_of g k (j % P / g) ≡ true) → ⊥) → get_or spoilt j 0 ≡ get_or s j 0
  kept_at j n = go (ℕ_discrete (j / P) q) (dec_lt j (length s)) (touched_of g k (j % P / g)) refl
    where
      go : Dec (j / P ≡ q) → Dec (j < length s) → (b : Bool) → touched_of g k (j % P / g) ≡ b → get_or spoilt j 0 ≡ get_or s j 0
      go (no d) l b t = elsewhere j d
      go (yes e) (no l) b t = past_end j (omega arith)
      go (yes e) (yes l) true t = absurd (n (e, t))
      go (yes e) (yes l) false t = at_place j e l ∙ risen_out g k page (j % P) (get_or s j 0) t

  lent_at : AllBelow 256 page → (j : ℕ) → j / P ≡ q → touched_of g k (j % P / g) ≡ true → j < length s → get_or spoilt j 0 ≡ get_or page (j % P) 0
  lent_at h j e t l = at_place j e l ∙ risen_in g k page (j % P) (get_or s j 0) h t

-- ---- the promise

module _ (f : Facts) (whole : Sound f) (page : List ℕ) (c : Chip) (m : Mem) where
  abbrev up : List ℕ
  up = risen_from f.group c.latch page 0 f.page

  abbrev after : Phase → Mem
  after ph = stored_of f c.line up m ph

  quiet_in : (ph : Phase) → NotWriting ph → after ph ≡ m
  unfolding stored_of cycle_stored_of
  quiet_in Idle o = refl
  quiet_in (Receive r) o = refl
  quiet_in (Send t) o = refl
  quiet_in (Busy (Writing t)) o = absurd o
  quiet_in (Busy Locking) o = refl

  beside_in : (t u : Target) → (u ≡ t → ⊥) → cells_of u (after (Busy (Writing t))) ≡ cells_of u m
  unfolding stored_of cycle_stored_of committed_of
  beside_in Array Array n = absurd (n refl)
  beside_in Array Ident n = refl
  beside_in Ident Array n = refl
  beside_in Ident Ident n = absurd (n refl)

  size_in : (ph : Phase) (t : Target) → length (cells_of t (after ph)) ≡ length (cells_of t m)
  unfolding stored_of cycle_stored_of committed_of
  size_in Idle t = refl
  size_in (Receive r) t = refl
  size_in (Send u) t = refl
  size_in (Busy Locking) t = refl
  size_in (Busy (Writing Array)) Array = entered_length m.cells (counter_page_of f c.line.core.counter) (take f.page up)
  size_in (Busy (Writing Array)) Ident = refl
  size_in (Busy (Writing Ident)) Array = refl
  size_in (Busy (Writing Ident)) Ident = entered_length m.ident (counter_page_of f c.line.core.counter) (take f.page up)

  whole_up : take f.page up ≡ up
  whole_up = take_all f.page up (omega (arith, risen_length f.group c.latch page 0 f.page))

  cells_in : (t : Target) → cells_of t (after (Busy (Writing t))) ≡ entered_of (cells_of t m) (c.line.core.counter / f.page * f.page) up
  unfolding stored_of cycle_stored_of committed_of counter_page_of
  cells_in Array = rw whole_up refl
  cells_in Ident = rw whole_up refl

  in_group : (j : ℕ) → j / f.page ≡ c.line.core.counter / f.page → touched_of f.group c.latch (j % f.page / f.group) ≡ true → InGroup f c j
  in_group j e t =
      let (by, group, here) = by_touched f.group c.latch whole.group_pos (j % f.page / f.group) t in
      record { page = e; by = by; group = group; latched = here }

  pub spoils : AllBelow 256 page → Spoils f c m (after c.line.phase) page
  spoils bytes =
      record {
        quiet = λ o. quiet_in c.line.phase o;
        size = size_in c.line.phase;
        beside = λ t u e n. ap (λ (ph : Phase). cells_of u (after ph)) e ∙ beside_in t u n;
        kept = λ t e j n.
            ap (λ (ph : Phase). get_or (cells_of t (after ph)) j 0) e
            ∙ ap (λ (l : List ℕ). get_or l j 0) (cells_in t)
            ∙ kept_at f.page f.group (c.line.core.counter / f.page) whole.page_pos c.latch page (cells_of t m) j (λ w. n (in_group j w.0 w.1));
        lent = λ t e j i l.
            ap (λ (ph : Phase). get_or (cells_of t (after ph)) j 0) e
            ∙ ap (λ (x : List ℕ). get_or x j 0) (cells_in t)
            ∙ lent_at f.page f.group (c.line.core.counter / f.page) whole.page_pos c.latch page (cells_of t m) bytes j i.page
            (touched_by f.group c.latch whole.group_pos (j % f.page / f.group) i.by i.group i.latched) l;
      }

pub cut_spoils_groups : CutSpoilsGroups ours_with
unfolding event_with store_with lost_of
cut_spoils_groups f s enable lock page b c m es = spoils f s page _ _ b

-- ---- it leaves one memory

not_same {ℓ} : {A : Type ℓ} → Ident ≡ Array → A
not_same e = let z : ◌≡◌ {A = ℕ} 0 1 = cc in absurd (omega arith)

-- the bytes in the groups, and those around them, are all that there are
module _ (f : Facts) (whole : Sound f) (c : Chip) (m m' m'' : Mem) (page : List ℕ) (x : Spoils f c m m' page) (y : Spoils f c m m'' page) where
  same_byte : (t : Target) → c.line.phase ≡ Busy (Writing t) → (j : ℕ) → j < length (cells_of t m) → get_or (cells_of t m') j 0 ≡ get_or (cells_of t m'') j 0
  same_byte t e j l = go (ℕ_discrete (j / f.page) (c.line.core.counter / f.page)) (touched_of f.group c.latch (j % f.page / f.group)) refl
    where
      go : Dec (j / f.page ≡ c.line.core.counter / f.page) → (b : Bool) → touched_of f.group c.latch (j % f.page / f.group) ≡ b
          → get_or (cells_of t m') j 0 ≡ get_or (cells_of t m'') j 0
      go (yes d) true t' = let i = in_group f whole page c m j d t' in x.lent t e j i l ∙ sym (y.lent t e j i l)
      go (yes d) false t' =
          let n : InGroup f c j → ⊥ = (λ i. no_way (sym t' ∙ touched_by f.group c.latch whole.group_pos (j % f.page / f.group) i.by i.group i.latched)) in
          x.kept t e j n ∙ sym (y.kept t e j n)
      go (no d) b t' = let n : InGroup f c j → ⊥ = (λ i. d i.page) in x.kept t e j n ∙ sym (y.kept t e j n)

  same_cells : (t : Target) → c.line.phase ≡ Busy (Writing t) → cells_of t m' ≡ cells_of t m''
  same_cells t e = ext_get_or 0 (cells_of t m') (cells_of t m'') (x.size t ∙ sym (y.size t)) (λ j h. same_byte t e j (omega (arith, h, x.size t)))

  same_in : (ph : Phase) → c.line.phase ≡ ph → m' ≡ m''
  same_in Idle e = x.quiet (subst NotWriting (sym e) tt) ∙ sym (y.quiet (subst NotWriting (sym e) tt))
  same_in (Receive r) e = x.quiet (subst NotWriting (sym e) tt) ∙ sym (y.quiet (subst NotWriting (sym e) tt))
  same_in (Send t) e = x.quiet (subst NotWriting (sym e) tt) ∙ sym (y.quiet (subst NotWriting (sym e) tt))
  same_in (Busy Locking) e = x.quiet (subst NotWriting (sym e) tt) ∙ sym (y.quiet (subst NotWriting (sym e) tt))
  same_in (Busy (Writing Array)) e =
      let other : m'.ident ≡ m''.ident = x.beside Array Ident e (λ z. not_same z) ∙ sym (y.beside Array Ident e (λ z. not_same z)) in
      ap (λ (l : List ℕ). mem l m'.ident) (same_cells Array e) ∙ ap (mem m''.cells) other
  same_in (Busy (Writing Ident)) e =
      let other : m'.cells ≡ m''.cells = x.beside Ident Array e (λ z. not_same (sym z)) ∙ sym (y.beside Ident Array e (λ z. not_same (sym z))) in
      ap (λ (l : List ℕ). mem l m'.ident) other ∙ ap (mem m''.cells) (same_cells Ident e)

pub spoils_one_way : SpoilsOneWay
spoils_one_way f s c m m' m'' page x y = same_in f s c m m' m'' page x y c.line.phase refl

-- ---- the lock, and the rest of the chip

lock_kept : (w : Loss) (lock : Bool) (ph : Phase) → NotLocking ph → lock_at_reset w lock ph ≡ lock
lock_kept w lock Idle o = refl
lock_kept w lock (Receive r) o = refl
lock_kept w lock (Send t) o = refl
lock_kept w lock (Busy (Writing t)) o = refl
lock_kept w lock (Busy Locking) o = absurd o

pub lock_as_flag : LockAsFlag ours_with
unfolding event_with state_of next_of act_of reset_of
lock_as_flag =
    record {
      flag = λ f en lock page c e. ap (lock_at_reset (Lent lock) c.line.core.locked) e;
      none = λ f en page c e. ap (lock_at_reset Old c.line.core.locked) e;
      kept = λ f en w c o. lock_kept w.loss c.line.core.locked c.line.phase o;
    }

pub reset_stands : ResetStands ours_with
unfolding event_with state_of next_of act_of reset_of begun_of
reset_stands =
    record { standby = λ f en w c. refl; counter = λ f en w c. refl; latches = λ f en w c. refl; pin = λ f en w c. refl; begun = λ f en w c. refl; alike = λ f en w v c. refl }

-- ---- only a reset in a cycle asks what is given

free_stored : (f : Facts) (l : Line) (k : List ℕ) (m : Mem) (ph : Phase) → NotBusy ph → stored_of f l k m ph ≡ m
unfolding stored_of
free_stored f l k m Idle o = refl
free_stored f l k m (Receive r) o = refl
free_stored f l k m (Send t) o = refl
free_stored f l k m (Busy y) o = absurd o

free_lost : (f : Facts) (c : Chip) (page : List ℕ) (m : Mem) (w : Loss) → NotBusy c.line.phase → lost_of f c page m w ≡ m
unfolding lost_of
free_lost f c page m Old o = refl
free_lost f c page m (Lent lock) o = free_stored f c.line (risen_from f.group c.latch page 0 f.page) m c.line.phase o

free_lock : (w v : Loss) (lock : Bool) (ph : Phase) → NotBusy ph → lock_at_reset w lock ph ≡ lock_at_reset v lock ph
free_lock w v lock Idle o = refl
free_lock w v lock (Receive r) o = refl
free_lock w v lock (Send t) o = refl
free_lock w v lock (Busy y) o = absurd o

-- a reset, or the same whatever page is lent
abbrev Alike : Facts → ℕ → PowerCut → PowerCut → Chip → Mem → Event → Event → Type 0
Alike f en w v c m d e = (state_of f en c d ≡ state_of f en c e) × (store_with w.page f c m d ≡ store_with v.page f c m e)

reset_alike : (f : Facts) (en : ℕ) (w v : PowerCut) (c : Chip) (m : Mem) → NotBusy c.line.phase → Alike f en w v c m (Reset w.loss) (Reset v.loss)
unfolding state_of next_of act_of reset_of store_with
reset_alike f en w v c m o = (
  ap (λ (b : Bool). chip (at record { counter = 0; pin = c.line.core.pin; inhibited = false; locked = b } Idle) no_latch) (free_lock w.loss v.loss c.line.core.locked c.line.phase o),
  free_lost f c w.page m w.loss o ∙ sym (free_lost f c v.page m v.loss o),
)

other_alike : (f : Facts) (en : ℕ) (w v : PowerCut) (c : Chip) (m : Mem) (e : ℕ) → eqb e 8 ≡ false → Alike f en w v c m (event_with w.loss e) (event_with v.loss e)
unfolding event_with store_with
other_alike f en w v c m e t =
    let Q : Event → Type 0 = (λ (d : Event). Alike f en w v c m d d) in
    rw t
    (branch Q (eqb e 0) (λ _. (refl, refl)) (λ _.
    branch Q (eqb e 1) (λ _. (refl, refl)) (λ _.
    branch Q (eqb e 2) (λ _. (refl, refl)) (λ _.
    branch Q (eqb e 3) (λ _. (refl, refl)) (λ _.
    branch Q (eqb e 4) (λ _. (refl, refl)) (λ _.
    branch Q (eqb e 5) (λ _. (refl, refl)) (λ _.
    branch Q (eqb e 6) (λ _. (refl, refl)) (λ _.
    branch Q (eqb e 7) (λ _. (refl, refl)) (λ _. (refl, refl))))))))))

moved_alike : (f : Facts) (en : ℕ) (w v : PowerCut) (c : Chip) (m : Mem) (e : ℕ) → (e ≡ 8 → NotBusy c.line.phase) → Alike f en w v c m (event_with w.loss e) (event_with v.loss e)
moved_alike f en w v c m e o = go (eqb e 8) refl
  where
    go : (b : Bool) → eqb e 8 ≡ b → Alike f en w v c m (event_with w.loss e) (event_with v.loss e)
    go false t = other_alike f en w v c m e t
    go true t =
        let e8 : e ≡ 8 = eqb-true e 8 t in
        let at-w : Reset w.loss ≡ event_with w.loss e = sym (ap (event_with w.loss) e8 ∙ reset_code w.loss) in
        let at-v : Reset v.loss ≡ event_with v.loss e = sym (ap (event_with v.loss) e8 ∙ reset_code v.loss) in
        subst (λ (d : Event). Alike f en w v c m d (event_with v.loss e)) at-w (subst (λ (d : Event). Alike f en w v c m (Reset w.loss) d) at-v (reset_alike f en w v c m (o e8)))

pub cut_only_in_cycle : CutOnlyInCycle ours_with
unfolding chip_level_of level_of begun_of
cut_only_in_cycle =
    record {
      told = λ f en w v c m e. (
        any_loss (λ (d : Event). chip_level_of f en c m d ≡ chip_level_of f en c m (event_with v.loss e)) (λ u u' h. h) v.loss w.loss e refl,
        any_loss (λ (d : Event). begun_of c.line d ≡ begun_of c.line (event_with v.loss e)) (λ u u' h. h) v.loss w.loss e refl,
      );
      moved = moved_alike;
    }

pub powered : Powered ours_with
powered = record { spoils = cut_spoils_groups; lock = lock_as_flag; stands = reset_stands; only = cut_only_in_cycle }

-- ---- nothing is left open

-- a chip is its lock and the rest
same_chip : (c d : Chip) → with_lock false c ≡ with_lock false d → c.line.core.locked ≡ d.line.core.locked → c ≡ d
same_chip c d e l = ap (with_lock c.line.core.locked) e ∙ ap (λ (b : Bool). with_lock b d) l

module _ (M N : PowerModel) (p : Powered M) (q : Powered N) (f : Facts) (en : ℕ) (lock : Bool) (page : List ℕ) (c : Chip) where
  abbrev w : PowerCut
  w = cut_by (Lent lock) page

  same_lock : (ph : Phase) → c.line.phase ≡ ph → lock_then (M w f en) c ≡ lock_then (N w f en) c
  same_lock (Busy Locking) e = p.lock.flag f en lock page c e ∙ sym (q.lock.flag f en lock page c e)
  same_lock Idle e = p.lock.kept f en w c (subst NotLocking (sym e) tt) ∙ sym (q.lock.kept f en w c (subst NotLocking (sym e) tt))
  same_lock (Receive r) e = p.lock.kept f en w c (subst NotLocking (sym e) tt) ∙ sym (q.lock.kept f en w c (subst NotLocking (sym e) tt))
  same_lock (Send t) e = p.lock.kept f en w c (subst NotLocking (sym e) tt) ∙ sym (q.lock.kept f en w c (subst NotLocking (sym e) tt))
  same_lock (Busy (Writing t)) e = p.lock.kept f en w c (subst NotLocking (sym e) tt) ∙ sym (q.lock.kept f en w c (subst NotLocking (sym e) tt))

  module _ (m : Mem) (e : ℕ) (s : SameAt (M old f en) (N old f en) c m e) where
    same_next : e ≡ 8 → (M w f en).next c 8 ≡ (N w f en).next c 8
    same_next e8 =
        same_chip ((M w f en).next c 8) ((N w f en).next c 8)
        (p.stands.alike f en w old c ∙ ap (with_lock false) (subst (λ (z : ℕ). (M old f en).next c z ≡ (N old f en).next c z) e8 s.next) ∙ q.stands.alike f en old w c)
        (same_lock c.line.phase refl)

    same_store : Sound f → AllBelow 256 page → (M w f en).store c m 8 ≡ (N w f en).store c m 8
    unfolding after_of memory_of
    same_store sound b = spoils_one_way f sound c m ((M w f en).store c m 8) ((N w f en).store c m 8) page (p.spoils f sound en lock page b c m []) (q.spoils f sound en lock page b c m [])

    same_moved : Sound f → AllBelow 256 page → (b : Bool) → eqb e 8 ≡ b → ((M w f en).next c e ≡ (N w f en).next c e) × ((M w f en).store c m e ≡ (N w f en).store c m e)
    same_moved sound y true t =
        let e8 : e ≡ 8 = eqb-true e 8 t in
        subst (λ (z : ℕ). ((M w f en).next c z ≡ (N w f en).next c z) × ((M w f en).store c m z ≡ (N w f en).store c m z)) (sym e8) (same_next e8, same_store sound y)
    same_moved sound y false t =
        let n : e ≡ 8 → NotBusy c.line.phase = (λ e8. absurd (eqb-false e 8 t e8)) in
        let x = p.only.moved f en w old c m e n in
        let z = q.only.moved f en old w c m e n in
        (x.0 ∙ s.next ∙ z.0, x.1 ∙ s.store ∙ z.1)

pub power_pinned : PowerPinned
power_pinned M N p q s f sound en lock page b c m e =
    let v = cut_by (Lent lock) page in
    let moved = same_moved M N p q f en lock page c m e (s f en c m e) sound b (eqb e 8) refl in
    let x = p.only.told f en v old c m e in
    let z = q.only.told f en old v c m e in
    record { next = moved.0; store = moved.1; level = x.0 ∙ (s f en c m e).level ∙ z.0; begun = x.1 ∙ (s f en c m e).begun ∙ z.1 }

-- ---- the old contents

module _ (P g q : ℕ) (pos : 0 < P) (k s : List ℕ) (bytes : AllBelow 256 s) where
  abbrev held : List ℕ
  held = page_of P q s

  held_at : (j : ℕ) → j / P ≡ q → get_or held (j % P) 0 ≡ get_or s j 0
  held_at j e =
      let d : q * P + j % P ≡ j = ap (λ (z : ℕ). z * P + j % P) (sym e) ∙ div-add-mod' j P in
      get_or-take P (drop (q * P) s) (j % P) 0 (mod-lt j pos) ∙ get_or-drop (q * P) s (j % P) 0 ∙ ap (λ (z : ℕ). get_or s z 0) d

  held_bytes : AllBelow 256 held
  held_bytes = below_left 256 held (drop P (drop (q * P) s)) (subst (AllBelow 256) (sym (take-append-drop P (drop (q * P) s))) (below_drop 256 (q * P) s bytes))

  own_same : entered_of s (q * P) (risen_from g k held 0 P) ≡ s
  own_same =
      ext_get_or 0 (spoilt P g q pos k held s) s (entered_length s (q * P) (risen_from g k held 0 P))
      (λ j h. go j (omega (arith, h, entered_length s (q * P) (risen_from g k held 0 P))) (ℕ_discrete (j / P) q) (touched_of g k (j % P / g)) refl)
    where
      go : (j : ℕ) → j < length s → Dec (j / P ≡ q) → (b : Bool) → touched_of g k (j % P / g) ≡ b → get_or (spoilt P g q pos k held s) j 0 ≡ get_or s j 0
      go j l (no d) b t = elsewhere P g q pos k held s j d
      go j l (yes e) true t = lent_at P g q pos k held s held_bytes j e t l ∙ held_at j e
      go j l (yes e) false t = at_place P g q pos k held s j e l ∙ risen_out g k held (j % P) (get_or s j 0) t

same_mem : (t : Target) (m : Mem) (l : List ℕ) → l ≡ cells_of t m → with_cells t l m ≡ m
same_mem Array m l e = ap (λ (z : List ℕ). with_cells Array z m) e
same_mem Ident m l e = ap (λ (z : List ℕ). with_cells Ident z m) e

reset_same : (f : Facts) (en : ℕ) (c : Chip) → state_of f en c (Reset (Lent false)) ≡ state_of f en c (Reset Old)
unfolding state_of next_of act_of reset_of
reset_same f en c = ap (λ (b : Bool). chip (at record { counter = 0; pin = c.line.core.pin; inhibited = false; locked = b } Idle) no_latch) (go c.line.phase)
  where
    go : (ph : Phase) → lock_at_reset (Lent false) c.line.core.locked ph ≡ lock_at_reset Old c.line.core.locked ph
    go Idle = refl
    go (Receive r) = refl
    go (Send t) = refl
    go (Busy (Writing t)) = refl
    go (Busy Locking) = refl

own_stored : (f : Facts) → Sound f → (c : Chip) (m : Mem) (t : Target) → c.line.phase ≡ Busy (Writing t) → AllBelow 256 (cells_of t m)
    → lost_of f c (own f c m t).page m (Lent false) ≡ m
unfolding lost_of stored_of cycle_stored_of committed_of counter_page_of
own_stored f s c m t e b =
    let page = (own f c m t).page in
    ap (stored_of f c.line (up f s page c m) m) e
    ∙ same_mem t m _ (ap (entered_of (cells_of t m) (c.line.core.counter / f.page * f.page)) (whole_up f s page c m)
    ∙ own_same f.page f.group (c.line.core.counter / f.page) s.page_pos c.latch (cells_of t m) b)

lock_stored : (f : Facts) (c : Chip) (page : List ℕ) (m : Mem) → c.line.phase ≡ Busy Locking → lost_of f c page m (Lent false) ≡ m
unfolding lost_of stored_of cycle_stored_of
lock_stored f c page m e = ap (stored_of f c.line (risen_from f.group c.latch page 0 f.page) m) e

pub old_is_own_page : OldIsOwnPage ours_with
unfolding event_with store_with lost_of
old_is_own_page =
    record {
      writing = λ f s en c m t e b. record { chip = reset_same f en c; mem = own_stored f s c m t e b };
      locking = λ f en c m page e. record { chip = reset_same f en c; mem = lock_stored f c page m e };
      still = λ f en c m. refl;
    }

-- ---- a call

module _ (part en : ℕ) (lock : Bool) (page : List ℕ) (c : Chip) (m : Mem) where
  abbrev N : Model
  N = ours_with (cut_by (Lent lock) page) (facts_of part) en

  bytes_left : AllBelow 256 page → (v : Verdict) → (step_left_of N c m 8 v).answer.verdict ≡ Ok tt → Spoils (facts_of part) c m (step_left_of N c m 8 v).mem page
  unfolding event_with store_with lost_of
  bytes_left b (Ok _) h = spoils (facts_of part) (sound part) page c m b
  bytes_left b (Err r) h = refused_not h

  lock_left : c.line.phase ≡ Busy Locking → (v : Verdict) → (step_left_of N c m 8 v).answer.verdict ≡ Ok tt → (step_left_of N c m 8 v).answer.chip.line.core.locked ≡ lock
  lock_left e (Ok _) h = lock_as_flag.flag (facts_of part) en lock page c e
  lock_left e (Err r) h = refused_not h

pub step_spoils : StepSpoils step_of
step_spoils =
    record {
      bytes = λ part en lock page c m b h. bytes_left part en lock page c m b (step_verdict part en (cut_by (Lent lock) page) c m 8) h;
      lock = λ part en lock page c m e h. lock_left part en lock page c m e (step_verdict part en (cut_by (Lent lock) page) c m 8) h;
    }
