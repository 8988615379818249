-- The numbers of a run of driver and chip are given in document 01's order.
-- Assumes nothing.
use Rattle.std.specs.Prelude.{Ok, Err}
use Prim.Native.Nat.{ℕ, ◌+◌, ◌<◌, ◌≤◌}
use mathlib.Core.Path.{◌≡◌, refl, sym, ap, ◌∙◌}
use mathlib.Core.Bool.{Bool, true, false, not, cond}
use mathlib.Core.Logic.{◌⊎◌, inl, inr, ⊎_elim}
use mathlib.Core.List.{List, []}
use lib.ListN.{length}
use lib.Dec.{ltb}
use native.Mathlib.Omega.{arith}
use native.Mathlib.Decide.{ℕ_discrete}
use borrow.Author.Tests.{lt-ltb, le-ltb, eq-eqb, ne_eqb}
use Rattle.parts.specs.declared.Refusal.{Refusal}
use Rattle.parts.specs.declared.Refusal.TheVariants.{NoPart, WrongEnable, WrongBuffer, BadState, ShortBuffer, Beyond, BadLimit}
use Rattle.parts.specs.Verdict.{Verdict}
use Rattle.parts.specs.Table.{facts_of, enable_right_of, buffers_right_of}
use Rattle.parts.specs.Refusals.{number_of, rank_of, verdict_number_of, claim_of, sooner_of, lent_verdict_of}
use Rattle.parts.proofs.Laws.{known}
use Rattle.parts.proofs.Claims.{Later, later_claim, later_sooner, Within, within_left, within_right, exact, is_later, is_within, fine_later, unclaimed}
use Rattle.state.specs.declared.Chip.{Chip}
use Rattle.state.specs.Range.{in_range_of}
use Rattle.chip.specs.Memory.{Mem, mem}
use Rattle.chip.specs.Delivery.{standby_of}
use Rattle.chip.specs.Calls.{held_verdict_of}
use Rattle.chip_promises.proofs.Numbers.{held_1, held_2, held_3, held_4, held_0, held_or_not}
use Rattle.driver.specs.declared.Place.TheVariants.{Array}
use Rattle.driver.specs.declared.Request.{Request}
use Rattle.driver.specs.Request.{from_of, room_of, there_of, beyond_at, limit_of, judge_of}
use Rattle.driver_promises.specs.Numbers.{Enabled, Inside}
use Rattle.driver_promises.proofs.Numbers.{off, enable, far, limit, judged_1, from_2, judged_2, from_7, judged_7, none_there, too_far, judged_8, low, large, less_or_more}
use Rattle.bench.specs.Calls.{other_length_of, short_of, late_of, bench_verdict_of}
use Rattle.bench_promises.specs.Calls.{BenchCall, verdict_of}
use Rattle.bench_promises.specs.Numbers.{Judge, Placed, Filled, BenchNumber, BenchNumbers, OneBenchNumber, forward, ForwardBreaks}

-- ---- the request alone

module _ (r : Request) where
  judge_later : (k : ℕ) → k ≤ rank_of Beyond → Enabled r → Later k (judge_of r)
  judge_later k h e =
      is_later k (judge_of r) (sooner_of (far r) (limit r)) (from_7 r e)
      (later_sooner k (far r) (limit r) (later_claim k (off r) Beyond h) (later_claim k (limit_of r.reads r.budget) BadLimit (omega (arith, h))))

  judge_later_2 : r.part ≤ 5 → Later (rank_of WrongEnable) (judge_of r)
  judge_later_2 h =
      is_later (rank_of WrongEnable) (judge_of r) (sooner_of (enable r) (sooner_of (far r) (limit r))) (from_2 r h)
      (later_sooner (rank_of WrongEnable) (enable r) (sooner_of (far r) (limit r)) (later_claim (rank_of WrongEnable) (not (enable_right_of (facts_of r.part) r.enable)) WrongEnable (omega arith))
      (later_sooner (rank_of WrongEnable) (far r) (limit r) (later_claim (rank_of WrongEnable) (off r) Beyond (omega arith)) (later_claim (rank_of WrongEnable) (limit_of r.reads r.budget) BadLimit (omega arith))))

  judge_later_8 : Inside r → Later (rank_of BadLimit) (judge_of r)
  judge_later_8 i =
      is_later (rank_of BadLimit) (judge_of r) (claim_of (limit_of r.reads r.budget) BadLimit) (judged_8 r (limit_of r.reads r.budget) i refl)
      (later_claim (rank_of BadLimit) (limit_of r.reads r.budget) BadLimit (omega arith))

-- ---- the chip alone: behind 1, no refusal before 2

module _ (part en : ℕ) (c : Chip) (n i : ℕ) where
  abbrev part_1 : Verdict
  part_1 = claim_of (not (facts_of part).known) NoPart

  abbrev lent_3 : Verdict
  lent_3 = claim_of (not (buffers_right_of (facts_of part) n i)) WrongBuffer

  abbrev enable_2 : Verdict
  enable_2 = claim_of (not (enable_right_of (facts_of part) en)) WrongEnable

  abbrev state_4 : Verdict
  state_4 = claim_of (not (in_range_of (facts_of part) c)) BadState

  held_later : part ≤ 5 → Later (rank_of WrongEnable) (held_verdict_of part en c n i)
  unfolding held_verdict_of lent_verdict_of
  held_later h =
      later_sooner (rank_of WrongEnable) (sooner_of part_1 lent_3) (sooner_of enable_2 state_4)
      (later_sooner (rank_of WrongEnable) part_1 lent_3 (unclaimed (rank_of WrongEnable) (not (facts_of part).known) NoPart (ap not (known part h)))
      (later_claim (rank_of WrongEnable) (not (buffers_right_of (facts_of part) n i)) WrongBuffer (omega arith)))
      (later_sooner (rank_of WrongEnable) enable_2 state_4 (later_claim (rank_of WrongEnable) (not (enable_right_of (facts_of part) en)) WrongEnable (omega arith))
      (later_claim (rank_of WrongEnable) (not (in_range_of (facts_of part) c)) BadState (omega arith)))

-- ---- the driver's buffer, and d

module _ (r : Request) (ys : List ℕ) where
  abbrev others : Bool
  others = other_length_of r.reads r.length (length ys)

  abbrev shorts : Bool
  shorts = short_of r.reads r.length (length ys)

  others_true : r.reads ≡ false → (length ys ≡ r.length → ⊥) → others ≡ true
  unfolding other_length_of
  others_true w h = ap (λ (b : Bool). other_length_of b r.length (length ys)) w ∙ ap not (ne_eqb (length ys) r.length h)

  others_read : r.reads ≡ true → others ≡ false
  unfolding other_length_of
  others_read w = ap (λ (b : Bool). other_length_of b r.length (length ys)) w

  shorts_true : r.reads ≡ true → length ys < r.length → shorts ≡ true
  unfolding short_of
  shorts_true w h = ap (λ (b : Bool). short_of b r.length (length ys)) w ∙ lt-ltb (length ys) r.length h

  fills : (b : Bool) → (b ≡ false → length ys ≡ r.length) → (b ≡ true → r.length ≤ length ys)
      → (other_length_of b r.length (length ys) ≡ false) × (short_of b r.length (length ys) ≡ false)
  unfolding other_length_of short_of
  fills true f g = (refl, le-ltb (length ys) r.length (g refl))
  fills false f g = (ap not (eq-eqb (length ys) r.length (f refl)), refl)

filled : (k : BenchCall) → Filled k → (others k.request k.buffer ≡ false) × (shorts k.request k.buffer ≡ false)
filled k f = fills k.request k.buffer k.request.reads f.full f.room

allowed : (reads : Bool) (n : ℕ) → (reads ≡ false → (1 ≤ n) × (n ≤ 1000)) → limit_of reads n ≡ false
unfolding limit_of
allowed true n h = refl
allowed false n h = ap (λ (b : Bool). cond b true (ltb 1000 n)) (le-ltb n 1 (h refl).0) ∙ le-ltb 1000 n (h refl).1

late_true : (d : ℕ) → (d < 1) ⊎ (65535 < d) → late_of d ≡ true
unfolding late_of
late_true d (inl h) = ap (λ (b : Bool). cond b true (ltb 65535 d)) (lt-ltb d 1 h)
late_true d (inr h) = ap (λ (b : Bool). cond b true (ltb 65535 d)) (le-ltb d 1 (omega (arith, h))) ∙ lt-ltb 65535 d h

late_false : (d : ℕ) → 1 ≤ d → d ≤ 65535 → late_of d ≡ false
unfolding late_of
late_false d l h = ap (λ (b : Bool). cond b true (ltb 65535 d)) (le-ltb d 1 l) ∙ le-ltb 65535 d h

-- ---- all together

module _ (k : BenchCall) where
  abbrev r : Request
  r = k.request

  abbrev en : ℕ
  en = k.own

  abbrev d : ℕ
  d = k.d

  abbrev c : Chip
  c = k.chip

  abbrev m : Mem
  m = k.mem

  abbrev ys : List ℕ
  ys = k.buffer

  abbrev held : Verdict
  held = held_verdict_of r.part en c (length m.cells) (length m.ident)

  abbrev other : Verdict
  other = claim_of (others r ys) BadState

  abbrev short : Verdict
  short = claim_of (shorts r ys) ShortBuffer

  abbrev late : Verdict
  late = claim_of (late_of d) BadLimit

  abbrev given : Verdict
  given = sooner_of (judge_of r) (sooner_of held (sooner_of other (sooner_of short late)))

  -- none of the five gives a lower rank
  record Lowest (x : Refusal) : Type 0 where
    asked : Later (rank_of x) (judge_of r)
    chip : Later (rank_of x) held
    full : Later (rank_of x) other
    room : Later (rank_of x) short
    delay : Later (rank_of x) late

  number : (x : Refusal) → Lowest x → Within (rank_of x) given → verdict_number_of (verdict_of k) ≡ number_of x
  unfolding bench_verdict_of
  number x l w =
      exact x given
      (later_sooner (rank_of x) (judge_of r) (sooner_of held (sooner_of other (sooner_of short late))) l.asked
      (later_sooner (rank_of x) held (sooner_of other (sooner_of short late)) l.chip
      (later_sooner (rank_of x) other (sooner_of short late) l.full (later_sooner (rank_of x) short late l.room l.delay))))
      w

  -- 1 to 4: what comes of the buffer and d is later
  early : (x : Refusal) → rank_of x ≤ rank_of BadState → Later (rank_of x) (judge_of r) → Later (rank_of x) held → Lowest x
  early x h a b =
      record {
        asked = a;
        chip = b;
        full = later_claim (rank_of x) (others r ys) BadState h;
        room = later_claim (rank_of x) (shorts r ys) ShortBuffer (omega (arith, h));
        delay = later_claim (rank_of x) (late_of d) BadLimit (omega (arith, h));
      }

  -- 7 and 8: the chip and the buffer are right
  end : (x : Refusal) → rank_of x ≤ rank_of BadLimit → Placed k → Filled k → Later (rank_of x) (judge_of r) → Lowest x
  end x h p f a =
      record {
        asked = a;
        chip = fine_later (rank_of x) held (held_0 r.part en c m p.ready);
        full = unclaimed (rank_of x) (others r ys) BadState (filled k f).0;
        room = unclaimed (rank_of x) (shorts r ys) ShortBuffer (filled k f).1;
        delay = later_claim (rank_of x) (late_of d) BadLimit h;
      }

  by_request : (x : Refusal) → judge_of r ≡ Err x → Within (rank_of x) given
  by_request x e = within_left (rank_of x) (judge_of r) (sooner_of held (sooner_of other (sooner_of short late))) (is_within x (judge_of r) e)

  by_chip : (x : Refusal) → held ≡ Err x → Within (rank_of x) given
  by_chip x e =
      within_right (rank_of x) (judge_of r) (sooner_of held (sooner_of other (sooner_of short late)))
      (within_left (rank_of x) held (sooner_of other (sooner_of short late)) (is_within x held e))

  past_chip : (n : ℕ) → Within n (sooner_of other (sooner_of short late)) → Within n given
  past_chip n w =
      within_right n (judge_of r) (sooner_of held (sooner_of other (sooner_of short late))) (within_right n held (sooner_of other (sooner_of short late)) w)

  number_1 : 5 < r.part → verdict_number_of (verdict_of k) ≡ 1
  number_1 h =
      let a = judged_1 r h in
      number NoPart (early NoPart (omega arith) (is_later (rank_of NoPart) (judge_of r) (Err NoPart) a (omega arith))
      (is_later (rank_of NoPart) held (Err NoPart) (held_1 r.part en c (length m.cells) (length m.ident) h) (omega arith)))
      (by_request NoPart a)

  number_2 : r.part ≤ 5 → ((facts_of r.part).enables ≤ r.enable) ⊎ ((facts_of r.part).enables ≤ en) → verdict_number_of (verdict_of k) ≡ 2
  number_2 n h =
      number WrongEnable (early WrongEnable (omega arith) (judge_later_2 r n) (held_later r.part en c (length m.cells) (length m.ident) n)) (by h)
    where
      by : ((facts_of r.part).enables ≤ r.enable) ⊎ ((facts_of r.part).enables ≤ en) → Within (rank_of WrongEnable) given
      by (inl g) = by_request WrongEnable (judged_2 r n g)
      by (inr g) = by_chip WrongEnable (held_2 r.part en c (length m.cells) (length m.ident) n g)

  -- 3 and 4 of the chip
  of_chip : (x : Refusal) → rank_of x ≤ rank_of BadState → Enabled r → held ≡ Err x → verdict_number_of (verdict_of k) ≡ number_of x
  of_chip x h e g =
      number x (early x h (judge_later r (rank_of x) (omega (arith, h)) e) (is_later (rank_of x) held (Err x) g (omega arith))) (by_chip x g)

  number_4 : Placed k → r.reads ≡ false → (length ys ≡ r.length → ⊥) → verdict_number_of (verdict_of k) ≡ 4
  number_4 p w h =
      number BadState (early BadState (omega arith) (judge_later r (rank_of BadState) (omega arith) p.enabled) (fine_later (rank_of BadState) held (held_0 r.part en c m p.ready)))
      (past_chip (rank_of BadState) (within_left (rank_of BadState) other (sooner_of short late) (is_within BadState other (ap (λ (b : Bool). claim_of b BadState) (others_true r ys w h)))))

  number_6 : Placed k → r.reads ≡ true → length ys < r.length → verdict_number_of (verdict_of k) ≡ 6
  number_6 p w h =
      number ShortBuffer
      record {
        asked = judge_later r (rank_of ShortBuffer) (omega arith) p.enabled;
        chip = fine_later (rank_of ShortBuffer) held (held_0 r.part en c m p.ready);
        full = unclaimed (rank_of ShortBuffer) (others r ys) BadState (others_read r ys w);
        room = later_claim (rank_of ShortBuffer) (shorts r ys) ShortBuffer (omega arith);
        delay = later_claim (rank_of ShortBuffer) (late_of d) BadLimit (omega arith);
      }
      (past_chip (rank_of ShortBuffer) (within_right (rank_of ShortBuffer) other (sooner_of short late)
      (within_left (rank_of ShortBuffer) short late (is_within ShortBuffer short (ap (λ (b : Bool). claim_of b ShortBuffer) (shorts_true r ys w h))))))

  number_7 : Placed k → Filled k → off r ≡ true → verdict_number_of (verdict_of k) ≡ 7
  number_7 p f h =
      number Beyond (end Beyond (omega arith) p f (judge_later r (rank_of Beyond) (omega arith) p.enabled)) (by_request Beyond (judged_7 r p.enabled h))

  number_8 : Placed k → Filled k → Inside r → Within (rank_of BadLimit) given → verdict_number_of (verdict_of k) ≡ 8
  number_8 p f i w = number BadLimit (end BadLimit (omega arith) p f (judge_later_8 r i)) w

  over : r.reads ≡ false → (r.budget < 1) ⊎ (1000 < r.budget) → limit_of r.reads r.budget ≡ true
  over w (inl h) = low r w h
  over w (inr h) = large r w h

  delayed : (d < 1) ⊎ (65535 < d) → Within (rank_of BadLimit) given
  delayed h =
      past_chip (rank_of BadLimit) (within_right (rank_of BadLimit) other (sooner_of short late)
      (within_right (rank_of BadLimit) short late (is_within BadLimit late (ap (λ (b : Bool). claim_of b BadLimit) (late_true d h)))))

  number_0 : Placed k → Filled k → Inside r → limit_of r.reads r.budget ≡ false → late_of d ≡ false → verdict_number_of (verdict_of k) ≡ 0
  unfolding bench_verdict_of sooner_of
  number_0 p f i l t = rw (judged_8 r false i l, held_0 r.part en c m p.ready, (filled k f).0, (filled k f).1, t) refl

pub bench_numbers : BenchNumbers verdict_of
bench_numbers k =
    let r = k.request in
    record {
      no_part = number_1 k;
      wrong_enable = number_2 k;
      wrong_buffer = λ e n w. of_chip k WrongBuffer (omega arith) e (held_3 r.part k.own k.chip (length k.mem.cells) (length k.mem.ident) e.known n w);
      bad_state = λ e n w. of_chip k BadState (omega arith) e (held_4 r.part k.own k.chip k.mem n w);
      other_length = number_4 k;
      short_buffer = number_6 k;
      no_page = λ p f h. number_7 k p f (none_there r h);
      beyond = λ p f h g. number_7 k p f (too_far r h g);
      bad_budget = λ p f i w h. number_8 k p f i (by_request k BadLimit (judged_8 r true i (over k w h)));
      bad_delay = λ p f i h. number_8 k p f i (delayed k h);
      none = λ p f i b l h. number_0 k p f i (allowed r.reads r.budget b) (late_false k.d l h);
    }

-- ---- one of the conditions holds of every call

clash : {A : Type 0} {b : Bool} → b ≡ true → b ≡ false → A
clash t f = let z : ◌≡◌ {A = ℕ} 0 1 = cc in absurd (omega arith)

module _ (judge other : Judge) (p : BenchNumbers judge) (q : BenchNumbers other) (k : BenchCall) where
  abbrev asked : Request
  asked = k.request

  abbrev lent : List ℕ
  lent = k.buffer

  abbrev Same : Type 0
  Same = verdict_number_of (judge k) ≡ verdict_number_of (other k)

  abbrev P : BenchNumber judge k
  P = p k

  abbrev Q : BenchNumber other k
  Q = q k

  -- of d
  same_delay : Placed k → Filled k → Inside asked → (asked.reads ≡ false → (1 ≤ asked.budget) × (asked.budget ≤ 1000)) → Same
  same_delay a f i b =
      ⊎_elim (λ h. P.bad_delay a f i (inl h) ∙ sym (Q.bad_delay a f i (inl h)))
      (λ l. ⊎_elim (λ h. P.bad_delay a f i (inr h) ∙ sym (Q.bad_delay a f i (inr h))) (λ h. P.none a f i b l h ∙ sym (Q.none a f i b l h)) (less_or_more 65535 k.d))
      (less_or_more k.d 1)

  -- of the budget
  same_budget : Placed k → Filled k → Inside asked → Same
  same_budget a f i = go asked.reads refl
    where
      go : (b : Bool) → asked.reads ≡ b → Same
      go true w = same_delay a f i (λ e. clash w e)
      go false w =
          ⊎_elim (λ h. P.bad_budget a f i w (inl h) ∙ sym (Q.bad_budget a f i w (inl h)))
          (λ l. ⊎_elim (λ h. P.bad_budget a f i w (inr h) ∙ sym (Q.bad_budget a f i w (inr h))) (λ h. same_delay a f i (λ _. (l, h))) (less_or_more 1000 asked.budget))
          (less_or_more asked.budget 1)

  -- of the place
  same_place : Placed k → Filled k → Same
  same_place a f = go (there_of (facts_of asked.part) asked.place) refl
    where
      go : (b : Bool) → there_of (facts_of asked.part) asked.place ≡ b → Same
      go false h = P.no_page a f h ∙ sym (Q.no_page a f h)
      go true h =
          ⊎_elim (λ g. P.beyond a f h g ∙ sym (Q.beyond a f h g)) (λ g. same_budget a f record { enabled = a.enabled; there = h; fits = g })
          (less_or_more (room_of (facts_of asked.part) asked.place) (from_of asked.place + asked.length))

  -- of the driver's buffer
  same_buffer : Placed k → Same
  same_buffer a = go asked.reads refl
    where
      data_of : asked.reads ≡ false → Dec (length lent ≡ asked.length) → Same
      data_of w (yes e) = same_place a record { full = λ _. e; room = λ z. clash z w }
      data_of w (no e) = P.other_length a w e ∙ sym (Q.other_length a w e)

      go : (b : Bool) → asked.reads ≡ b → Same
      go false w = data_of w (ℕ_discrete (length lent) asked.length)
      go true w =
          ⊎_elim (λ h. P.short_buffer a w h ∙ sym (Q.short_buffer a w h))
          (λ h. same_place a record { full = λ z. clash w z; room = λ _. h }) (less_or_more (length lent) asked.length)

  wrong : asked.part ≤ 5 → ((facts_of asked.part).enables ≤ asked.enable) ⊎ ((facts_of asked.part).enables ≤ k.own) → Same
  wrong n h = P.wrong_enable n h ∙ sym (Q.wrong_enable n h)

  -- of the request's enable
  driven : asked.part ≤ 5 → (Enabled asked → Same) → Same
  driven n f = ⊎_elim (λ e. f record { known = n; enable = e }) (λ h. wrong n (inl h)) (less_or_more asked.enable (facts_of asked.part).enables)

  same : Same
  same =
      held_or_not asked.part k.own k.chip k.mem (λ h. P.no_part h ∙ sym (Q.no_part h)) (λ n h. wrong n (inr h))
      (λ n h w. driven n (λ e. P.wrong_buffer e h w ∙ sym (Q.wrong_buffer e h w))) (λ n h. driven n.known (λ e. P.bad_state e n h ∙ sym (Q.bad_state e n h)))
      (λ x. driven x.named.known (λ e. same_buffer record { enabled = e; ready = x }))

pub one_bench_number : OneBenchNumber
one_bench_number = same

-- a read of one byte beyond part 2, with nothing lent for the chip
abbrev astray : Chip → BenchCall
astray c =
    record {
      request = record { part = 2; enable = 0; place = Array (record { 0 = 8192 }); reads = true; length = 1; budget = 0 };
      own = 0;
      d = 1;
      chip = c;
      mem = mem [] [];
      buffer = [];
    }

forward_7 : (c : Chip) → verdict_number_of (forward (astray c)) ≡ 7
unfolding judge_of sooner_of facts_of enable_right_of beyond_at limit_of
forward_7 c = refl

given_3 : BenchNumbers forward → (c : Chip) → verdict_number_of (forward (astray c)) ≡ 3
unfolding facts_of
given_3 p c =
    (p (astray c)).wrong_buffer record { known = omega arith; enable = omega arith } (omega arith) (λ l. let e = l.0 in absurd (omega (arith, e)))

pub forward_breaks : ForwardBreaks
forward_breaks p =
    let c : Chip = standby_of (facts_of 2) false in
    let z : ◌≡◌ {A = ℕ} 7 3 = sym (forward_7 c) ∙ given_3 p c in
    omega arith
