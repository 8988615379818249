-- Each asking of the driver keeps the relation, one law for each way of a step; so does each end of a cycle.
-- Assumes nothing.
use Rattle.std.specs.Prelude.{Some, Option}
use Prim.Native.Nat.{ℕ, zero, suc, ◌+◌, ◌-◌, ◌*◌, ◌/◌, ◌%◌, ◌^◌, ◌≤◌, ◌<◌}
use mathlib.Core.Path.{◌≡◌, refl, sym, ◌∙◌, ap, subst}
use mathlib.Core.Bool.{Bool, true, false, cond, ◌||◌, false≢true}
use mathlib.Core.Logic.{inl, inr, ⊎_elim}
use mathlib.Core.List.{List}
use lib.ListN.{length, get_or, set, length-set, length-replicate}
use lib.Seq.{get_or-set_same, get_or-set_other}
use lib.Dec.{eqb}
use native.Mathlib.Omega.{arith}
use native.Mathlib.Numerals.{add-one}
use native.Mathlib.Nat.{mod-lt, mod-eq_of_lt}
use borrow.Author.Tests.{eqb-true, eqb-false, lt-ltb}
use Rattle.parts.specs.declared.Event.TheVariants.{Ends}
use Rattle.parts.specs.Events.{event_of}
use Rattle.parts.proofs.Laws.{sound, branch}
use Rattle.parts.proofs.Tests.{not_yes}
use Rattle.chip_laws.proofs.Bytes.{moved_more}
use Rattle.chip_laws.proofs.Roll.{page_rule}
use Rattle.line.specs.declared.Pin.{Pin}
use Rattle.line.specs.declared.Target.{Target}
use Rattle.line.specs.declared.Target.TheVariants.{Array as TheArray, Ident as TheIdent}
use Rattle.line.specs.declared.Recv.{Recv}
use Rattle.line.specs.declared.Recv.TheVariants.{Select as SelectByte, AddressHigh, AddressLow, Fill}
use Rattle.line.specs.declared.Cycle.TheVariants.{Writing}
use Rattle.line.specs.declared.Phase.TheVariants.{Idle, Receive, Send as Sending, Busy}
use Rattle.line.specs.declared.Core.{Core}
use Rattle.line.specs.declared.Line.{Line}
use Rattle.line.specs.Rules.{is_high, at, opened, roll_of, address_start_of, selected_of, decode_of, loaded_of, refuses_of, given_up, latched_of, filled_of, taken_of, landed, released_in, asks_of, moved_of, send_level_of, ended_by_of, NoTransfer}
use Rattle.state.specs.declared.Chip.{Chip}
use Rattle.chip.specs.Memory.{Mem, no_latch, latch_of, cells_of, with_cells, committed_of, cycle_stored_of, shown_of}
use Rattle.driver.specs.declared.Request.{Request}
use Rattle.driver.specs.declared.Slot.{Slot}
use Rattle.driver.specs.declared.Slot.TheVariants.{Select, High, Low, Data, Poll, Turn, Take}
use Rattle.driver.specs.declared.Failed.TheVariants.{AtSelect, AtHigh, AtLow, AtData, AtPolls}
use Rattle.driver.specs.declared.Phase.{Phase}
use Rattle.driver.specs.declared.Phase.TheVariants.{Ready, Bits, Heard, Rest, Over}
use Rattle.driver.specs.declared.Counts.{Counts}
use Rattle.driver.specs.declared.Answer.{Answer}
use Rattle.driver.specs.declared.Answer.TheVariants.{Send, Done, Refused}
use Rattle.driver.specs.declared.Move.{Move}
use Rattle.driver.specs.Request.{room_of, GoodRequest}
use Rattle.driver.specs.Step.{select_name_of, select_at, wire_of, bit_of, shift_of, with_byte, with_next, with_seen, with_poll, told_counts_of, sent_counts_of}
use Rattle.driver.proofs.Facts.{enable_most, name_most, select_most}
use Rattle.driver_promises.proofs.Split.{first-is}
use Rattle.driver_promises.proofs.View.{leads, takes, clock_of, Way, w_done, w_open, w_bit, w_ninth, w_got, w_nack, w_high, w_only, w_low, w_turn, w_data, w_more, w_close, w_drop, w_poll, w_again, w_give, w_page, w_take, w_next, w_end, w_over}
use Rattle.driver_promises.proofs.Inv.{stop, Inv, less}
use Rattle.driver_promises.proofs.Grow.{bit_lt}
use Rattle.driver_promises.proofs.Bytes.{register, register_none, register_all, shift-next}
use Rattle.chip_promises.specs.States.{NotBusy}
use Rattle.bench_promises.proofs.Hears.{After, bit_heard, ninth_heard, deaf_heard, sent_heard, end_heard, start_free, start_busy, stop_idle, stop_busy, stop_none, stop_begins, end_free, end_busy}
use Rattle.bench_promises.proofs.Wrote.{wrote, less_or_same, commit_none, commit_more, cells_with, with_with}
use Rattle.bench_promises.proofs.Codes.{decode_hit, asks_none, first_wide, first_narrow, Placed, room_most, load_is, shown_is, moved_last, register_step, inside_page}
use Rattle.line.specs.declared.Phase.{Phase as ChipPhase}
use Rattle.line.specs.declared.After.{After as Outcome}
use Rattle.bench_promises.proofs.Rel.{Taking, refusing, Given, F, T, from, W, there, select_b, high_b, low_b, Heading, Lower, Filling, Filled, Dropped, Running, Settled, Pending, Polled, Reading, Read, InBits, InHeard, At, Buffer, Rel}

-- what is wanted of a start: bytes are bytes
pub record Sane (g : Given) : Type 0 where
  pub good : GoodRequest g.request
  pub bytes : (i : ℕ) → get_or g.bytes i 0 < 256
  pub stored : (i : ℕ) → get_or (cells_of (T g) g.stored) i 0 < 256

refuses_is : (c : Core) (t : Target) (pin : Pin) (lock : Bool) → c.inhibited ≡ is_high pin → c.locked ≡ lock → refuses_of c t ≡ refusing t pin lock
unfolding refuses_of
refuses_is c TheArray pin lock e k = e
refuses_is c TheIdent pin lock e k = ap (λ (b : Bool). b || c.locked) e ∙ ap (λ (b : Bool). is_high pin || b) k

high_free : (t : Target) (pin : Pin) (lock : Bool) → refusing t pin lock ≡ false → is_high pin ≡ false
high_free TheArray pin lock e = e
high_free TheIdent pin lock e = go (is_high pin) e
  where
    go : (b : Bool) → (b || lock) ≡ false → b ≡ false
    go true e = absurd (false≢true (sym e))
    go false e = refl

taking_any : (rc : Recv) (v : ℕ) (l : Line) → v < 256 → Taking rc 0 0 l → Taking rc 0 v l
taking_any rc v l h t = record { phase = t.phase; left = t.left; shift = t.shift ∙ sym (register_none v h) }

no_latch_long : length no_latch ≡ 64
unfolding no_latch
no_latch_long = length-replicate {A = ℕ} 64 256

module _ (g : Given) (s : Sane g) where
  abbrev r : Request
  r = g.request

  abbrev New : Phase → Counts → List ℕ → Line → List ℕ → Mem → ℕ → ℕ → Type 0
  New p c ys l k m v n = Rel g p c ys l k m v

  -- ---- numbers
  pub select_lt : (x : ℕ) → select_b g x < 255
  select_lt x = omega (arith, select_most (select_name_of r.place) r.enable (from g + x) (F g).wide (name_most r.place) (enable_most r s.good))

  in_place : (x : ℕ) → x < r.length → Placed (F g) r.place (from g + x)
  in_place x h = record { there = s.good.there; room = omega (arith, s.good.fits) }

  select_hit : (x z : ℕ) → z < 2 → (b : ℕ) → b ≡ select_b g x + z → decode_of (F g) r.enable b ≡ Some ((T g), (eqb z 1))
  unfolding select_at
  select_hit x z o b e =
      decode_hit (F g) r.enable r.place b (cond (F g).wide r.enable ((from g + x) / 256 % 8)) z e
      (branch (λ (k : ℕ). k ≤ 7) (F g).wide (λ _. enable_most r s.good) (λ _. omega (arith, mod-lt ((from g + x) / 256) (let q : 0 < 8 = omega arith in q))))
      o (λ w. simp w) s.good.there

  pub W-read : (i : ℕ) → r.reads ≡ true → W g i ≡ g.stored
  W-read i e = ap (λ (b : Bool). cond b g.stored (with_cells (T g) (wrote (cells_of (T g) g.stored) (from g) g.bytes i) g.stored)) e

  pub W-write : (i : ℕ) → r.reads ≡ false → W g i ≡ with_cells (T g) (wrote (cells_of (T g) g.stored) (from g) g.bytes i) g.stored
  W-write i e = ap (λ (b : Bool). cond b g.stored (with_cells (T g) (wrote (cells_of (T g) g.stored) (from g) g.bytes i) g.stored)) e

  -- one byte more
  W-next : (i : ℕ) → r.reads ≡ false → with_cells (T g) (set (cells_of (T g) (W g i)) (from g + i) (get_or g.bytes i 0)) (W g i) ≡ W g (i + 1)
  W-next i e =
      let s0 = cells_of (T g) g.stored in
      let w = wrote s0 (from g) g.bytes i in
      let a = W-write i e in
      ap (λ (m : Mem). with_cells (T g) (set (cells_of (T g) m) (from g + i) (get_or g.bytes i 0)) m) a
      ∙ (ap (λ (l : List ℕ). with_cells (T g) (set l (from g + i) (get_or g.bytes i 0)) (with_cells (T g) w g.stored)) (cells_with (T g) w g.stored)
      ∙ (with_with (T g) (set w (from g + i) (get_or g.bytes i 0)) w g.stored
      ∙ (ap (λ (j : ℕ). with_cells (T g) (wrote s0 (from g) g.bytes j) g.stored) (sym (add-one i)) ∙ sym (W-write (i + 1) e))))

  -- ---- one chip
  module _ (ch : Chip) (m : Mem) where
    abbrev pub l : Line
    l = ch.line

    abbrev pub After' : (Line → List ℕ → Mem → ℕ → ℕ → Type 0) → ℕ → Type 0
    After' Q e = After (F g) r.enable ch m Q (event_of e)

    -- one bit of a byte
    take_bit : (Q : Line → List ℕ → Mem → ℕ → ℕ → Type 0) (rc : Recv) (b v x : ℕ) → v < 256 → b < 8 → x ≡ bit_of v b → Taking rc b v l
        → ((n y : ℕ) → Taking rc (b + 1) v (record { core = l.core; phase = Receive rc; left = n; shift = y }) → Q (record { core = l.core; phase = Receive rc; left = n; shift = y }) ch.latch m 1 0)
        → After' Q x
    take_bit Q rc b v x o h e t q =
        bit_heard (F g) r.enable ch m Q x (7 - b) rc (omega (arith, bit_lt v b)) t.phase (t.left ∙ (let z : 8 - b ≡ suc (7 - b) = omega arith in z))
        (q (7 - b) (l.shift % 128 * 2 + x) (record { phase = refl; left = omega arith; shift = omega (arith, register_step v b l.shift o h t.shift) }))

    -- the ninth clock of a byte
    take_ninth : (Q : Line → List ℕ → Mem → ℕ → ℕ → Type 0) (rc : Recv) (b v : ℕ) → b ≡ 8 → Taking rc b v l
        → Q (landed (taken_of (F g) r.enable l.core rc v)) (latch_of ch.latch (taken_of (F g) r.enable l.core rc v).act) m (released_in (taken_of (F g) r.enable l.core rc v).phase) 0
        → After' Q 1
    take_ninth Q rc b v e t q =
        ninth_heard (F g) r.enable ch m Q 1 rc (omega arith) t.phase (t.left ∙ (let z : 8 - b ≡ 0 = omega arith in z))
        (subst (λ (x : ℕ). Q (landed (taken_of (F g) r.enable l.core rc x)) (latch_of ch.latch (taken_of (F g) r.enable l.core rc x).act) m (released_in (taken_of (F g) r.enable l.core rc x).phase) 0)
        (sym (t.shift ∙ (ap (register v) e ∙ register_all v))) q)

    -- the ninth clock of a select code that names the request's memory
    select_ninth : (Q : Line → List ℕ → Mem → ℕ → ℕ → Type 0) (b v z x : ℕ) → b ≡ 8 → z < 2 → v ≡ select_b g x + z → Taking SelectByte b v l
        → Q (landed (selected_of (F g) l.core v (Some ((T g), (eqb z 1))))) (latch_of ch.latch (selected_of (F g) l.core v (Some ((T g), (eqb z 1)))).act) m (released_in (selected_of (F g) l.core v (Some ((T g), (eqb z 1)))).phase) 0
        → After' Q 1
    unfolding taken_of
    select_ninth Q b v z x e o k t q =
        take_ninth Q SelectByte b v e t
        (subst (λ (h : Option (Target × Bool)). Q (landed (selected_of (F g) l.core v h)) (latch_of ch.latch (selected_of (F g) l.core v h).act) m (released_in (selected_of (F g) l.core v h).phase) 0) (sym (select_hit x z o v k)) q)

    -- ---- the steps, each with what is to hold after it
    abbrev pub Goal : Type 1
    Goal = Line → List ℕ → Mem → ℕ → ℕ → Type 0

    -- pin and lock are as given
    pub record Same (n : Line) : Type 0 where
      pub pin : n.core.pin ≡ g.pin
      pub lock : n.core.locked ≡ g.locked

    -- a Start where no cycle runs
    pub k_start : (Q : Goal) (ph : ChipPhase) → l.phase ≡ ph → NotBusy ph → Same l
        → ((n : Line) → Same n → n.core.inhibited ≡ is_high g.pin → n.core.counter ≡ l.core.counter → ((w : ℕ) → w < 256 → Taking SelectByte 0 w n) → Q n no_latch m 2 0)
        → After' Q 2
    k_start Q ph e f o q =
        start_free (F g) r.enable ch m Q ph f e
        (q (opened l.core) (record { pin = o.pin; lock = o.lock }) (ap is_high o.pin) refl (λ w h. record { phase = refl; left = refl; shift = sym (register_none w h) }))

    -- a Start of a poll
    pub k_poll : (Q : Goal) (a x : ℕ) → Same l → Pending g a x l ch.latch m
        → (Running g a x l ch.latch m → Q l ch.latch m 2 0)
        → ((n : Line) → Same n → Polled g SelectByte 0 (select_b g x) a n m → Q n no_latch m 2 0) → After' Q 2
    k_poll Q a x o (inl p) u w = start_busy (F g) r.enable ch m Q (Writing (T g)) p.phase (u p)
    k_poll Q a x o (inr p) u w =
        k_start Q Idle p.phase tt o (λ n q d e t. w n q (record { taking = t (select_b g x) (omega (arith, select_lt x)); mem = p.mem }))

    -- a bit of the head
    k_heading : (Q : Goal) (rc : Recv) (b w a x : ℕ) → w < 256 → b < 8 → x ≡ bit_of w b → Same l → Heading g rc b w a l m
        → ((n : Line) → Same n → n.core.counter ≡ l.core.counter → Heading g rc (b + 1) w a n m → Q n ch.latch m 1 0) → After' Q x
    k_heading Q rc b w a x o h e i t q =
        take_bit Q rc b w x o h e t.taking (λ n y z. q (record { core = l.core; phase = Receive rc; left = n; shift = y }) (record { pin = i.pin; lock = i.lock }) refl (record { taking = z; marked = t.marked; mem = t.mem }))

    -- a bit of data
    k_filling : (Q : Goal) (b a z x : ℕ) → b < 8 → x ≡ bit_of (get_or g.bytes a 0) b → Same l → Filling g b a z l ch.latch m
        → ((n : Line) → Same n → Filling g (b + 1) a z n ch.latch m → Q n ch.latch m 1 0) → After' Q x
    k_filling Q b a z x h e i f q =
        take_bit Q (Fill (T g) f.acked) b (get_or g.bytes a 0) x (s.bytes a) h e f.taking
        (λ n y t. q (record { core = l.core; phase = Receive (Fill (T g) f.acked); left = n; shift = y }) (record { pin = i.pin; lock = i.lock })
        (record { acked = f.acked; taking = t; marked = f.marked; mem = f.mem; counter = f.counter; long = f.long; commit = f.commit }))

    -- a bit of a poll that is heard
    pub k_polled : (Q : Goal) (b w a x : ℕ) → w < 256 → b < 8 → x ≡ bit_of w b → Same l → Polled g SelectByte b w a l m
        → ((n : Line) → Same n → Polled g SelectByte (b + 1) w a n m → Q n ch.latch m 1 0) → After' Q x
    k_polled Q b w a x o h e i t q =
        take_bit Q SelectByte b w x o h e t.taking (λ n y z. q (record { core = l.core; phase = Receive SelectByte; left = n; shift = y }) (record { pin = i.pin; lock = i.lock }) (record { taking = z; mem = t.mem }))

    -- a clock that is not heard
    pub k_deaf : (Q : Goal) (a x e : ℕ) → e < 2 → Pending g a x l ch.latch m → Q l ch.latch m 1 0 → After' Q e
    k_deaf Q a x e h (inl p) q = deaf_heard (F g) r.enable ch m Q e h (subst NoTransfer (sym p.phase) tt) q
    k_deaf Q a x e h (inr p) q = deaf_heard (F g) r.enable ch m Q e h (subst NoTransfer (sym p.phase) tt) q

    -- ---- ninth clocks
    -- the select of a write
    pub k_select : (Q : Goal) (b x : ℕ) → b ≡ 8 → Taking SelectByte b (select_b g x) l
        → ((n : Line) → n.core ≡ l.core → Taking (address_start_of (F g) (T g) (select_b g x)) 0 0 n → Q n ch.latch m 0 0) → After' Q 1
    unfolding selected_of
    k_select Q b x e t q =
        select_ninth Q b (select_b g x) 0 x e (omega arith) (omega arith) t
        (q (at l.core (Receive (address_start_of (F g) (T g) (select_b g x)))) refl (record { phase = refl; left = refl; shift = refl }))

    -- the select of a read
    k_reads : (Q : Goal) (b x : ℕ) → b ≡ 8 → Taking SelectByte b (select_b g x + 1) l → Q (at l.core (Sending (T g))) ch.latch m 0 0 → After' Q 1
    unfolding selected_of
    k_reads Q b x e t q = select_ninth Q b (select_b g x + 1) 1 x e (omega arith) refl t q

    -- the first of two address bytes
    k_high : (Q : Goal) (b a x : ℕ) → b ≡ 8 → x < r.length → Same l → Heading g (AddressHigh (T g)) b (high_b g x) a l m
        → ((n : Line) → Same n → Lower g 0 0 a x n m → Q n ch.latch m 0 0) → After' Q 1
    unfolding taken_of
    k_high Q b a x e h i t q =
        take_ninth Q (AddressHigh (T g)) b (high_b g x) e t.taking
        (q (at l.core (Receive (AddressLow (T g) (high_b g x)))) (record { pin = i.pin; lock = i.lock })
        (record { bits = high_b g x; address = omega (arith, room_most r.part r.place (from g + x) (in_place x h)); head = record { taking = record { phase = refl; left = refl; shift = refl }; marked = t.marked; mem = t.mem } }))

    -- the last: the counter is loaded
    k_low : (Q : Goal) (b a x : ℕ) → b ≡ 8 → x < r.length → Same l → Lower g b (low_b g x) a x l m
        → ((n : Line) → Same n → n.core.counter ≡ from g + x → Heading g (Fill (T g) false) 0 0 a n m → Q n no_latch m 0 0) → After' Q 1
    unfolding taken_of
    k_low Q b a x e h i t q =
        take_ninth Q (AddressLow (T g) t.bits) b (low_b g x) e t.head.taking
        (subst (λ (o : Outcome). Q (landed o) (latch_of ch.latch o.act) m (released_in o.phase) 0)
        (sym (ap (loaded_of (F g) l.core (T g)) t.address ∙ load_is r.part l.core r.place (from g + x) (in_place x h)))
        (q (at (record { counter = from g + x; pin = l.core.pin; inhibited = l.core.inhibited; locked = l.core.locked }) (Receive (Fill (T g) false))) (record { pin = i.pin; lock = i.lock }) refl
        (record { taking = record { phase = refl; left = refl; shift = refl }; marked = t.head.marked; mem = t.head.mem })))

    -- the places of a part are in one page
    part_page : (a x : ℕ) → x ≤ a → a + 1 < stop r x → (from g + a) % (F g).page + 1 < (F g).page
    part_page a x lo hi =
        let P = (F g).page in
        let f = first-is P (from g + x) (r.length - x) (sound r.part).page_pos in
        let o = f.room in
        let k : (from g + x + (a - x)) % P ≡ (from g + x) % P + (a - x) = inside_page P (from g + x) (a - x) (omega arith) in
        let z : from g + x + (a - x) ≡ from g + a = omega arith in
        omega (arith, ap (λ (n : ℕ). n % P) z)

    latched : (a x : ℕ) → r.reads ≡ false → x ≤ a → refusing (T g) g.pin g.locked ≡ false → Filling g 8 a x l ch.latch m
        → Filled g (a + 1) x (landed (latched_of (F g) l.core (T g) (get_or g.bytes a 0))) (latch_of ch.latch (latched_of (F g) l.core (T g) (get_or g.bytes a 0)).act) m 0
    unfolding latched_of
    latched a x e lo z t =
        let v = get_or g.bytes a 0 in
        let n = l.core.counter in
        record {
          level = refl;
          taking = record { phase = refl; left = refl; shift = refl };
          free = z;
          marked = t.marked;
          mem = t.mem;
          counter =
              λ h.
              ap (roll_of (F g).page) t.counter
              ∙ ((page_rule (F g).page (from g + a) (sound r.part).page_pos).next (part_page a x lo h) ∙ omega arith);
          long = length-set ch.latch (n % (F g).page) v ∙ t.long;
          commit =
              commit_more (F g) (sound r.part).page_pos (sound r.part).page_most n v ch.latch (T g) (W g x) t.long (s.bytes a)
              ∙ (ap (λ (y : Mem). with_cells (T g) (set (cells_of (T g) y) n v) y) t.commit
              ∙ (ap (λ (j : ℕ). with_cells (T g) (set (cells_of (T g) (W g a)) j v) (W g a)) t.counter ∙ W-next a e));
        }

    -- a data byte: latched, or refused
    k_data : (Q : Goal) (b a x : ℕ) → b ≡ 8 → r.reads ≡ false → x ≤ a → Same l → Filling g b a x l ch.latch m
        → ((n : Line) (k : List ℕ) → Same n → Filled g (a + 1) x n k m 0 → Q n k m 0 0)
        → ((n : Line) (k : List ℕ) → Same n → Dropped g x n m → Q n k m 1 0) → After' Q 1
    unfolding taken_of filled_of latched_of
    k_data Q b a x e w lo i t q u =
        take_ninth Q (Fill (T g) t.acked) b (get_or g.bytes a 0) e t.taking
        (subst (λ (o : Bool). Q (landed (cond o (given_up l.core) (latched_of (F g) l.core (T g) (get_or g.bytes a 0)))) (latch_of ch.latch (cond o (given_up l.core) (latched_of (F g) l.core (T g) (get_or g.bytes a 0))).act) m (released_in (cond o (given_up l.core) (latched_of (F g) l.core (T g) (get_or g.bytes a 0))).phase) 0)
        (sym (refuses_is l.core (T g) g.pin g.locked t.marked i.lock))
        (branch (λ (o : Outcome). Q (landed o) (latch_of ch.latch o.act) m (released_in o.phase) 0) (refusing (T g) g.pin g.locked)
        (λ z. u (at l.core Idle) no_latch (record { pin = i.pin; lock = i.lock }) (record { phase = refl; shut = z; mem = t.mem }))
        (λ z. q (landed (latched_of (F g) l.core (T g) (get_or g.bytes a 0))) (latch_of ch.latch (latched_of (F g) l.core (T g) (get_or g.bytes a 0)).act) (record { pin = i.pin; lock = i.lock }) (latched a x w lo z (subst (λ (j : ℕ). Filling g j a x l ch.latch m) e t)))))

    -- ---- Stops

    -- after the data of a part: a cycle begins
    pub k_close : (Q : Goal) (a x v : ℕ) → Same l → Filled g a x l ch.latch m v → ((n : Line) → Same n → Running g a x n ch.latch m → Q n ch.latch m 2 1) → After' Q 3
    unfolding asks_of
    k_close Q a x v i t q =
        stop_begins (F g) r.enable ch m Q (Fill (T g) true) (Writing (T g)) t.taking.phase refl t.taking.left (t.marked ∙ high_free (T g) g.pin g.locked t.free)
        (q (at l.core (Busy (Writing (T g)))) (record { pin = i.pin; lock = i.lock }) (record { phase = refl; mem = t.mem; commit = t.commit }))

    pub k_drop : (Q : Goal) (x : ℕ) → Same l → Dropped g x l m → ((n : Line) → Same n → Dropped g x n m → Q n no_latch m 2 0) → After' Q 3
    k_drop Q x i t q =
        stop_idle (F g) r.enable ch m Q t.phase (q (at l.core Idle) (record { pin = i.pin; lock = i.lock }) (record { phase = refl; shut = t.shut; mem = t.mem }))

    pub k_give : (Q : Goal) (a x : ℕ) → Same l → Pending g a x l ch.latch m → ((n : Line) (k : List ℕ) → Same n → Pending g a x n k m → Q n k m 2 0) → After' Q 3
    k_give Q a x i (inl p) q = stop_busy (F g) r.enable ch m Q (Writing (T g)) p.phase (q l ch.latch i (inl p))
    k_give Q a x i (inr p) q =
        stop_idle (F g) r.enable ch m Q p.phase (q (at l.core Idle) no_latch (record { pin = i.pin; lock = i.lock }) (inr (record { phase = refl; mem = p.mem })))

    -- a poll was answered: the page is done
    pub k_page : (Q : Goal) (a x : ℕ) → Same l → Polled g (address_start_of (F g) (T g) (select_b g x)) 0 0 a l m → ((n : Line) → Same n → Settled g a n m → Q n no_latch m 2 0) → After' Q 3
    k_page Q a x i t q =
        stop_none (F g) r.enable ch m Q (address_start_of (F g) (T g) (select_b g x)) t.taking.phase (asks_none (F g) (T g) (select_b g x))
        (q (at l.core Idle) (record { pin = i.pin; lock = i.lock }) (record { phase = refl; mem = t.mem }))

    -- the end of a read
    pub k_end : (Q : Goal) (a : ℕ) → Same l → l.phase ≡ Idle → m ≡ W g a → ((n : Line) → Same n → Settled g a n m → Q n no_latch m 2 0) → After' Q 3
    k_end Q a i e w q = stop_idle (F g) r.enable ch m Q e (q (at l.core Idle) (record { pin = i.pin; lock = i.lock }) (record { phase = refl; mem = w }))

    -- ---- a byte that is read

    moved_same : (k : ℕ) (n : Line) → Same l → Same (record { core = moved_of (F g) l.core (T g) k; phase = n.phase; left = n.left; shift = n.shift })
    moved_same zero n i =
        let e = moved_last r.part l.core r.place s.good.there in
        record { pin = ap (λ (c : Core). c.pin) e ∙ i.pin; lock = ap (λ (c : Core). c.locked) e ∙ i.lock }
    moved_same (suc k) n i =
        let e = moved_more (F g) l.core (T g) k in
        record { pin = ap (λ (c : Core). c.pin) e ∙ i.pin; lock = ap (λ (c : Core). c.locked) e ∙ i.lock }

    bit_is : (v b : ℕ) → b < 8 → bit_of v b ≡ v / 2 ^ (7 - b) % 2
    unfolding bit_of
    bit_is v b h = simp (lt-ltb b 8 h)

    -- one bit more; y: the bits got before it
    k_sent : (Q : Goal) (b a y x : ℕ) → x < 2 → b < 8 → r.reads ≡ true → a < r.length → Same l → l.phase ≡ Sending (T g) → l.left ≡ 8 - b → l.core.counter ≡ from g + a → m ≡ W g a → y ≡ register (there g a) b
        → ((n : Line) (v : ℕ) → Same n → Reading g (b + 1) a y n m v → Q n ch.latch m v 0) → After' Q x
    unfolding send_level_of
    k_sent Q b a y x o h w lt i ph lf ct me re q =
        let byte = there g a in
        let stay : (b + 1 < 8) → (moved_of (F g) l.core (T g) (7 - b)).counter ≡ from g + a = λ k. (let z : 7 - b ≡ suc (6 - b) = omega arith in ap (λ (j : ℕ). (moved_of (F g) l.core (T g) j).counter) z ∙ (ap (λ (c : Core). c.counter) (moved_more (F g) l.core (T g) (6 - b)) ∙ ct)) in
        let go : (b + 1 ≡ 8) → (moved_of (F g) l.core (T g) (7 - b)).counter ≡ (from g + a + 1) % room_of (F g) r.place = λ k. (let z : 7 - b ≡ 0 = omega arith in ap (λ (j : ℕ). (moved_of (F g) l.core (T g) j).counter) z ∙ (ap (λ (c : Core). c.counter) (moved_last r.part l.core r.place s.good.there) ∙ ap (λ (j : ℕ). (j + 1) % room_of (F g) r.place) ct)) in
        let sh : shown_of (F g) l.core.counter m (T g) ≡ byte = ap (λ (j : ℕ). shown_of (F g) j m (T g)) ct ∙ (shown_is r.part m r.place (from g + a) (in_place a lt) ∙ ap (λ (k : Mem). get_or (cells_of (T g) k) (from g + a) 0) (me ∙ W-read a w)) in
        let back : b + 1 - 1 ≡ b = omega arith in
        sent_heard (F g) r.enable ch m Q x (7 - b) (T g) o ph (lf ∙ (let z : 8 - b ≡ suc (7 - b) = omega arith in z))
        (q (record { core = moved_of (F g) l.core (T g) (7 - b); phase = Sending (T g); left = 7 - b; shift = l.shift }) _ (moved_same (7 - b) (record { core = l.core; phase = Sending (T g); left = 7 - b; shift = l.shift }) i)
        (record {
          some = omega arith;
          phase = refl;
          left = omega arith;
          counter = stay;
          moved = go;
          mem = me;
          byte = re ∙ ap (register byte) (sym back);
          level = ap (λ (k : ℕ). k / 2 ^ (7 - b) % 2) sh ∙ (sym (bit_is byte b h) ∙ ap (bit_of byte) (sym back));
        }))

    -- ---- one asking
    module _ (c : Counts) (ys : List ℕ) (v : ℕ) where
      -- after an answer: the relation of the driver that moved, with the chip after the event
      abbrev pub Next : Move → List ℕ → Answer → Type 0
      Next mv zs (Send e) = After' (New mv.phase mv.counts zs) e
      Next mv zs (Done q n) = Rel g mv.phase mv.counts zs l ch.latch m v
      Next mv zs (Refused f q n) = Rel g mv.phase mv.counts zs l ch.latch m v

      same : {p : Phase} → Rel g p c ys l ch.latch m v → Same l
      same o = record { pin = o.pin; lock = o.lock }

      -- put together again
      rel : (p : Phase) (d : Counts) (zs : List ℕ) (n : Line) (k : List ℕ) (e : ℕ) → Same n → Buffer g r.reads d.at zs → At g p d n k m e → Rel g p d zs n k m e
      rel p d zs n k e i b a = record { pin = i.pin; lock = i.lock; buffer = b; place = a }

      small : (x : ℕ) → x % 256 < 256
      small x = mod-lt x (let q : 0 < 256 = omega arith in q)

      write_buffer : r.reads ≡ false → (a : ℕ) → Buffer g r.reads a ys → (ys ≡ g.bytes) × ((i : ℕ) → Buffer g r.reads i ys)
      write_buffer w a b =
          let e = subst (λ (t : Bool). Buffer g t a ys) w b in
          (e, λ i. subst (λ (t : Bool). Buffer g t i ys) (sym w) e)

      data_bit : r.reads ≡ false → Buffer g r.reads c.at ys → (b : ℕ) → bit_of (get_or ys c.at 0) b ≡ bit_of (get_or g.bytes c.at 0) b
      data_bit w u b = ap (λ (zs : List ℕ). bit_of (get_or zs c.at 0) b) (write_buffer w c.at u).0

      -- the first clock of a byte after a head: from the byte before
      opens_heading : {p : Phase} (rc : Recv) (w : ℕ) → w < 256 → Rel g p c ys l ch.latch m v → Heading g rc 0 0 c.at l m
          → (Q : Goal) → ((n : Line) → Same n → n.core.counter ≡ l.core.counter → Heading g rc 1 w c.at n m → Q n ch.latch m 1 0) → After' Q (bit_of w 0)
      opens_heading rc w h o t Q q =
          k_heading Q rc 0 w c.at (bit_of w 0) h (omega arith) refl (same o) (record { taking = taking_any rc w l h t.taking; marked = t.marked; mem = t.mem }) q

      start_bits : (b : ℕ) → b < 8 → (sl : Slot) → Inv r (Bits sl b) c → Rel g (Bits sl b) c ys l ch.latch m v → Next (record { answer = Send (clock_of r c ys sl b); phase = Bits sl (b + 1); counts = told_counts_of sl c v }) ys (Send (clock_of r c ys sl b))
      unfolding wire_of
      start_bits b h Select i o =
          k_heading (New (Bits Select (b + 1)) c ys) SelectByte b (select_b g c.seen) c.at _ (omega (arith, select_lt c.seen)) h refl (same o) o.place
          (λ n u e t. rel (Bits Select (b + 1)) c ys n ch.latch 1 u o.buffer t)
      start_bits b h High i o =
          k_heading (New (Bits High (b + 1)) c ys) (AddressHigh (T g)) b (high_b g c.seen) c.at _ (small _) h refl (same o) o.place
          (λ n u e t. rel (Bits High (b + 1)) c ys n ch.latch 1 u o.buffer t)
      start_bits b h Low i o =
          let p = o.place in
          k_heading (New (Bits Low (b + 1)) c ys) (AddressLow (T g) p.bits) b (low_b g c.seen) c.at _ (small _) h refl (same o) p.head
          (λ n u e t. rel (Bits Low (b + 1)) c ys n ch.latch 1 u o.buffer (record { bits = p.bits; address = p.address; head = t }))
      start_bits b h Data i o =
          k_filling (New (Bits Data (b + 1)) c ys) b c.at c.seen _ h (data_bit (not_yes r.reads i.right) o.buffer b) (same o) o.place
          (λ n u t. rel (Bits Data (b + 1)) c ys n ch.latch 1 u o.buffer t)
      start_bits b h Poll i o = go o.place
        where
          go : InBits g Poll b c l ch.latch m v → After' (New (Bits Poll (b + 1)) c ys) (bit_of (select_b g c.seen) b)
          go (inl p) = k_deaf (New (Bits Poll (b + 1)) c ys) c.at c.seen _ (bit_lt (select_b g c.seen) b) p (rel (Bits Poll (b + 1)) c ys l ch.latch 1 (same o) o.buffer (inl p))
          go (inr p) =
              k_polled (New (Bits Poll (b + 1)) c ys) b (select_b g c.seen) c.at _ (omega (arith, select_lt c.seen)) h refl (same o) p
              (λ n u t. rel (Bits Poll (b + 1)) c ys n ch.latch 1 u o.buffer (inr t))
      start_bits b h Turn i o =
          let p = o.place in
          k_heading (New (Bits Turn (b + 1)) c ys) SelectByte b (select_b g c.seen + 1) c.at _ (omega (arith, select_lt c.seen)) h refl (same o) p.0
          (λ n u e t. rel (Bits Turn (b + 1)) c ys n ch.latch 1 u o.buffer (t, e ∙ p.1))
      start_bits b h Take i o =
          let p = o.place in
          let q = p.some in
          let y = there g c.at in
          let z : b - 1 + 1 ≡ b = omega arith in
          let e : shift_of c.byte v ≡ register y b =
          ap (λ (j : ℕ). shift_of j v) p.byte ∙ (ap (shift_of (register y (b - 1))) p.level ∙ (shift-next y (b - 1) (s.stored (from g + c.at)) (omega arith) ∙ ap (register y) z))
          in
          k_sent (New (Bits Take (b + 1)) (with_byte c (shift_of c.byte v)) ys) b c.at (shift_of c.byte v) _ (bit_lt 255 b) h i.right i.here.1 (same o) p.phase p.left (p.counter h) p.mem e
          (λ n w u t. rel (Bits Take (b + 1)) (with_byte c (shift_of c.byte v)) ys n ch.latch w u o.buffer t)

      head_in : (sl : Slot) (b : ℕ) → Inv r (Bits sl b) c → leads sl ≡ true → (c.seen ≡ c.at) × (c.at < r.length)
      head_in Select b i e = (i.here.same, i.here.more)
      head_in High b i e = (i.here.0.same, i.here.0.more)
      head_in Low b i e = (i.here.same, i.here.more)
      head_in Data b i e = absurd (false≢true e)
      head_in Poll b i e = absurd (false≢true e)
      head_in Turn b i e = (i.here.same, i.here.more)
      head_in Take b i e = absurd (false≢true e)

      ninth : (b : ℕ) → b ≡ 8 → (sl : Slot) → Inv r (Bits sl b) c → Rel g (Bits sl b) c ys l ch.latch m v → (sl ≡ Take → ⊥) → After' (New (Heard sl) (sent_counts_of sl c) ys) 1
      ninth b e Select i o f =
          let p = o.place in
          k_select (New (Heard Select) c ys) b c.seen e p.taking
          (λ n z t. rel (Heard Select) c ys n ch.latch 0 (record { pin = ap (λ (k : Core). k.pin) z ∙ o.pin; lock = ap (λ (k : Core). k.locked) z ∙ o.lock }) o.buffer
          (refl, record { taking = t; marked = ap (λ (k : Core). k.inhibited) z ∙ p.marked; mem = p.mem }))
      ninth b e High i o f =
          let (x, y) = head_in High b i refl in
          k_high (New (Heard High) c ys) b c.at c.seen e (omega arith) (same o) o.place
          (λ n u t. rel (Heard High) c ys n ch.latch 0 u o.buffer (refl, t))
      ninth b e Low i o f =
          let (x, y) = head_in Low b i refl in
          k_low (New (Heard Low) c ys) b c.at c.seen e (omega arith) (same o) o.place
          (λ n u z t. rel (Heard Low) c ys n no_latch 0 u o.buffer (refl, t, z ∙ ap (λ (j : ℕ). from g + j) x, refl))
      ninth b e Data i o f =
          let w = not_yes r.reads i.right in
          let u = (write_buffer w c.at o.buffer).1 (c.at + 1) in
          k_data (New (Heard Data) (with_next c) ys) b c.at c.seen e w i.common.seen (same o) o.place
          (λ n k z t. rel (Heard Data) (with_next c) ys n k 0 z u (inl t))
          (λ n k z t. rel (Heard Data) (with_next c) ys n k 1 z u (inr (t, omega arith)))
      ninth b e Poll i o f = go o.place
        where
          go : InBits g Poll b c l ch.latch m v → After' (New (Heard Poll) c ys) 1
          go (inl p) = k_deaf (New (Heard Poll) c ys) c.at c.seen 1 (omega arith) p (rel (Heard Poll) c ys l ch.latch 1 (same o) o.buffer (inl (p, omega arith)))
          go (inr p) =
              k_select (New (Heard Poll) c ys) b c.seen e p.taking
              (λ n z t. rel (Heard Poll) c ys n ch.latch 0 (record { pin = ap (λ (k : Core). k.pin) z ∙ o.pin; lock = ap (λ (k : Core). k.locked) z ∙ o.lock }) o.buffer (inr (record { taking = t; mem = p.mem }, refl)))
      ninth b e Turn i o f =
          let (x, y) = head_in Turn b i refl in
          let p = o.place in
          k_reads (New (Heard Turn) c ys) b c.seen e p.0.taking
          (rel (Heard Turn) c ys (at l.core (Sending (T g))) ch.latch 0 (record { pin = o.pin; lock = o.lock }) o.buffer
          (refl, record { more = λ _. (refl, refl, p.1); last = λ z. absurd (omega arith); mem = p.0.mem }))
      ninth b e Take i o f = absurd (f refl)

      -- the eight bits of a byte that is read are in
      got : (b : ℕ) → b ≡ 8 → c.at < r.length → length ys ≡ r.length → Inv r (Bits Take b) c → Rel g (Bits Take b) c ys l ch.latch m v
          → After' (New (Heard Take) (with_next c) (set ys c.at (shift_of c.byte v))) (cond (eqb (c.at + 1) r.length) 1 0)
      got b e h n i o =
          branch (λ (x : ℕ). After' Goal' x) (eqb (c.at + 1) r.length)
          (λ t.
          let z : c.at + 1 ≡ r.length = eqb-true (c.at + 1) r.length t in
          end_heard (F g) r.enable ch m Goal' 1 (T g) (omega arith) p.phase done
          (rel (Heard Take) (with_next c) zs (at l.core Idle) ch.latch 1 (record { pin = o.pin; lock = o.lock }) bytes
          (record { more = λ k. absurd (omega arith); last = λ k. refl; mem = same_mem })))
          (λ t.
          let z : c.at + 1 < r.length = less (c.at + 1) r.length (eqb-false (c.at + 1) r.length t) (omega arith) in
          end_heard (F g) r.enable ch m Goal' 0 (T g) (omega arith) p.phase done
          (rel (Heard Take) (with_next c) zs (at l.core (Sending (T g))) ch.latch 1 (record { pin = o.pin; lock = o.lock }) bytes
          (record { more = λ k. (refl, refl, next z); last = λ k. absurd (omega arith); mem = same_mem })))
        where
          p : Reading g b c.at c.byte l m v
          p = o.place

          zs : List ℕ
          zs = set ys c.at (shift_of c.byte v)

          Goal' : Line → List ℕ → Mem → ℕ → ℕ → Type 0
          Goal' = New (Heard Take) (with_next c) zs

          done : l.left ≡ 0
          done = p.left ∙ (let z : 8 - b ≡ 0 = omega arith in z)

          same_mem : m ≡ W g (c.at + 1)
          same_mem = p.mem ∙ (W-read c.at i.right ∙ sym (W-read (c.at + 1) i.right))

          next : c.at + 1 < r.length → l.core.counter ≡ from g + (c.at + 1)
          next z = p.moved e ∙ (mod-eq_of_lt {n = from g + c.at + 1} {m = room_of (F g) r.place} (omega (arith, s.good.fits)) ∙ omega arith)

          byte : shift_of c.byte v ≡ there g c.at
          byte =
              let y = there g c.at in
              let a : b - 1 ≡ 7 = omega arith in
              ap (λ (j : ℕ). shift_of j v) p.byte ∙ (ap (shift_of (register y (b - 1))) p.level ∙ (ap (λ (j : ℕ). shift_of (register y j) (bit_of y j)) a ∙ (shift-next y 7 (s.stored (from g + c.at)) (omega arith) ∙ register_all y)))

          bytes : Buffer g r.reads (c.at + 1) zs
          bytes = subst (λ (t : Bool). Buffer g t (c.at + 1) zs) (sym i.right) each
            where
              before : (j : ℕ) → j < c.at → get_or ys j 0 ≡ there g j
              before = subst (λ (t : Bool). Buffer g t c.at ys) i.right o.buffer

              each : (j : ℕ) → j < c.at + 1 → get_or zs j 0 ≡ there g j
              each j k = ⊎_elim
                  (λ a. get_or-set_other ys c.at j (shift_of c.byte v) 0 (λ x. omega arith) ∙ before j a)
                  (λ a. ap (λ (x : ℕ). get_or zs x 0) a ∙ (get_or-set_same ys c.at (shift_of c.byte v) 0 (omega arith) ∙ (byte ∙ ap (there g) (sym a))))
                  (less_or_same j c.at (omega arith))

      -- a select or address byte is always acknowledged
      pub no_nack : (sl : Slot) → leads sl ≡ true → Rel g (Heard sl) c ys l ch.latch m v → 0 < v → ⊥
      no_nack Select e o h = let z = o.place.0 in omega arith
      no_nack High e o h = let z = o.place.0 in omega arith
      no_nack Low e o h = let z = o.place.0 in omega arith
      no_nack Data e o h = false≢true e
      no_nack Poll e o h = false≢true e
      no_nack Turn e o h = let z = o.place.0 in omega arith
      no_nack Take e o h = false≢true e

      not_take : (sl : Slot) → takes sl ≡ false → sl ≡ Take → ⊥
      not_take sl e z = false≢true (sym e ∙ ap takes z)

      low_opens : Rel g (Heard Select) c ys l ch.latch m v → Inv r (Heard Select) c → (F g).wide ≡ false → After' (New (Bits Low 1) (with_byte c 0) ys) (bit_of (low_b g c.seen) 0)
      low_opens o i w =
          let h = i.here.more in
          let y = i.here.same in
          let (bits, e, a) = first_narrow r.part r.place (from g + c.seen) r.enable (in_place c.seen (omega arith)) w in
          let t = subst (λ (rc : Recv). Heading g rc 0 0 c.at l m) e o.place.1 in
          opens_heading (AddressLow (T g) bits) (low_b g c.seen) (small _) o t (New (Bits Low 1) (with_byte c 0) ys)
          (λ n u z q. rel (Bits Low 1) (with_byte c 0) ys n ch.latch 1 u o.buffer (record { bits = bits; address = a; head = q }))

      more_read : {p : Phase} → Rel g p c ys l ch.latch m v → r.reads ≡ true → c.at < r.length → Read g c.at l m → After' (New (Bits Take 1) (with_byte c 0) ys) (bit_of 255 0)
      more_read o w h t =
          let q = t.more h in
          k_sent (New (Bits Take 1) (with_byte c 0) ys) 0 c.at 0 (bit_of 255 0) (bit_lt 255 0) (omega arith) w h (same o) q.0 q.1 q.2 t.mem (sym (register_none (there g c.at) (s.stored (from g + c.at))))
          (λ n x u z. rel (Bits Take 1) (with_byte c 0) ys n ch.latch x u o.buffer z)

      poll_again : {p : Phase} → Rel g p c ys l ch.latch m v → Pending g c.at c.seen l ch.latch m → After' (New (Bits Poll 0) (with_poll c) ys) 2
      poll_again o p =
          k_poll (New (Bits Poll 0) (with_poll c) ys) c.at c.seen (same o) p
          (λ q. rel (Bits Poll 0) (with_poll c) ys l ch.latch 2 (same o) o.buffer (inl (inl q)))
          (λ n u q. rel (Bits Poll 0) (with_poll c) ys n no_latch 2 u o.buffer (inr q))

      pub keeps : {p : Phase} {mv : Move} {zs : List ℕ} → length ys ≡ r.length → Inv r p c → Rel g p c ys l ch.latch m v → Way r c v ys p mv zs → Next mv zs mv.answer
      unfolding wire_of
      keeps n i o (w_done e) = o
      keeps n i o (w_open f) =
          k_start (New (Bits Select 0) c ys) Idle o.place.phase tt (same o)
          (λ q u d e t. rel (Bits Select 0) c ys q no_latch 2 u o.buffer (record { taking = t (select_b g c.seen) (omega (arith, select_lt c.seen)); marked = d; mem = o.place.mem }))
      keeps n i o (w_bit sl b h) = start_bits b h sl i o
      keeps n i o (w_ninth sl b e h) = ninth b h sl i o (not_take sl e)
      keeps n i o (w_got b e h) = got b e h n i o
      keeps n i o (w_nack sl e h) = absurd (no_nack sl e o h)
      keeps n i o (w_high z e) =
          opens_heading (AddressHigh (T g)) (high_b g c.seen) (small _) o (subst (λ (rc : Recv). Heading g rc 0 0 c.at l m) (first_wide (F g) r.place (select_b g c.seen) e) o.place.1) (New (Bits High 1) (with_byte c 0) ys)
          (λ q u x t. rel (Bits High 1) (with_byte c 0) ys q ch.latch 1 u o.buffer t)
      keeps n i o (w_only z e) = low_opens o i e
      keeps n i o (w_low z) =
          let p = o.place.1 in
          opens_heading (AddressLow (T g) p.bits) (low_b g c.seen) (small _) o p.head (New (Bits Low 1) (with_byte c 0) ys)
          (λ q u x t. rel (Bits Low 1) (with_byte c 0) ys q ch.latch 1 u o.buffer (record { bits = p.bits; address = p.address; head = t }))
      keeps n i o (w_turn z e) =
          let p = o.place in
          k_start (New (Bits Turn 0) c ys) (Receive (Fill (T g) false)) p.1.taking.phase tt (same o)
          (λ q u d x t. rel (Bits Turn 0) c ys q no_latch 2 u o.buffer (record { taking = t (select_b g c.seen + 1) (omega (arith, select_lt c.seen)); marked = d; mem = p.1.mem }, x ∙ p.2))
      keeps n i o (w_data z e) =
          let p = o.place in
          let t = p.1 in
          let x = i.here.same in
          k_filling (New (Bits Data 1) (with_byte c 0) ys) 0 c.at c.seen _ (omega arith) (data_bit e o.buffer 0) (same o)
          (record {
            acked = false;
            taking = taking_any (Fill (T g) false) (get_or g.bytes c.at 0) l (s.bytes c.at) t.taking;
            marked = t.marked;
            mem = t.mem ∙ ap (W g) (sym x);
            counter = p.2;
            long = ap (λ (k : List ℕ). length k) p.3 ∙ no_latch_long;
            commit = ap (λ (k : List ℕ). committed_of (F g) l.core.counter k (T g) (W g c.seen)) p.3 ∙ (commit_none (F g) (sound r.part).page_pos (sound r.part).page_most l.core.counter (T g) (W g c.seen) ∙ ap (W g) x);
          })
          (λ q u f. rel (Bits Data 1) (with_byte c 0) ys q ch.latch 1 u o.buffer f)
      keeps n i o (w_more z f) = go o.place
        where
          go : InHeard g Data c l ch.latch m v → After' (New (Bits Data 1) (with_byte c 0) ys) (bit_of (get_or ys c.at 0) 0)
          go (inl t) =
              k_filling (New (Bits Data 1) (with_byte c 0) ys) 0 c.at c.seen _ (omega arith) (data_bit (not_yes r.reads i.right) o.buffer 0) (same o)
              (record {
                acked = true;
                taking = taking_any (Fill (T g) true) (get_or g.bytes c.at 0) l (s.bytes c.at) t.taking;
                marked = t.marked;
                mem = t.mem;
                counter = t.counter (less c.at (stop r c.seen) f i.here.most);
                long = t.long;
                commit = t.commit;
              })
              (λ q u y. rel (Bits Data 1) (with_byte c 0) ys q ch.latch 1 u o.buffer y)
          go (inr (t, h)) = absurd (omega arith)
      keeps n i o (w_close z e) = go o.place
        where
          go : InHeard g Data c l ch.latch m v → After' (New Rest c ys) 3
          go (inl t) = k_close (New Rest c ys) c.at c.seen v (same o) t (λ q u y. rel Rest c ys q ch.latch 2 u o.buffer (inl y))
          go (inr (t, h)) = absurd (omega arith)
      keeps n i o (w_drop z) = go o.place
        where
          go : InHeard g Data c l ch.latch m v → After' (New (Over AtData) c ys) 3
          go (inl t) = let e = t.level in absurd (omega arith)
          go (inr (t, h)) = k_drop (New (Over AtData) c ys) c.seen (same o) t (λ q u y. rel (Over AtData) c ys q no_latch 2 u o.buffer (y, not_yes r.reads i.right))
      keeps n i o w_poll = poll_again o o.place
      keeps n i o (w_again z h) = go o.place
        where
          go : InHeard g Poll c l ch.latch m v → After' (New (Bits Poll 0) (with_poll c) ys) 2
          go (inl (p, k)) = poll_again o p
          go (inr (p, k)) = absurd (omega arith)
      keeps n i o (w_give z h) = go o.place
        where
          go : InHeard g Poll c l ch.latch m v → After' (New (Over AtPolls) c ys) 3
          go (inl (p, k)) = k_give (New (Over AtPolls) c ys) c.at c.seen (same o) p (λ q y u t. rel (Over AtPolls) c ys q y 2 u o.buffer (t, not_yes r.reads i.right))
          go (inr (p, k)) = absurd (omega arith)
      keeps n i o (w_page z) = go o.place
        where
          go : InHeard g Poll c l ch.latch m v → After' (New Ready (with_seen c) ys) 3
          go (inl (p, k)) = absurd (omega arith)
          go (inr (p, k)) = k_page (New Ready (with_seen c) ys) c.at c.seen (same o) p (λ q u t. rel Ready (with_seen c) ys q no_latch 2 u o.buffer t)
      keeps n i o (w_take z) = more_read o i.right i.here.more o.place.1
      keeps n i o (w_next f) = more_read o i.right (less c.at r.length f i.common.low) o.place
      keeps n i o (w_end e) =
          k_end (New Ready (with_seen c) ys) c.at (same o) (o.place.last e) o.place.mem (λ q u t. rel Ready (with_seen c) ys q no_latch 2 u o.buffer t)
      keeps n i o (w_over f) = o

    -- ---- the end of a cycle, or of none: at any place
    ended_same : (t : Target) (k : Core) → ((ended_by_of (F g) k (Writing t)).core.pin ≡ k.pin) × ((ended_by_of (F g) k (Writing t)).core.locked ≡ k.locked) × ((ended_by_of (F g) k (Writing t)).phase ≡ Idle)
    unfolding ended_by_of
    ended_same TheArray k = (refl, refl, refl)
    ended_same TheIdent k = (refl, refl, refl)

    module _ (p : Phase) (c : Counts) (ys : List ℕ) (v : ℕ) where
      -- the level told stays
      abbrev pub Ended : Type 0
      Ended = After (F g) r.enable ch m (λ n k y w q. Rel g p c ys n k y v) Ends

      still : (ph : ChipPhase) → l.phase ≡ ph → NotBusy ph → Rel g p c ys l ch.latch m v → Ended
      still ph e f o = end_free (F g) r.enable ch m (λ n k y w q. Rel g p c ys n k y v) ph f e o

      -- what is pending is then settled
      pend : Rel g p c ys l ch.latch m v → Pending g c.at c.seen l ch.latch m → ((n : Line) (k : List ℕ) (y : Mem) → Pending g c.at c.seen n k y → At g p c n k y v) → Ended
      unfolding cycle_stored_of
      pend o (inl t) q =
          let e = ended_same (T g) l.core in
          end_busy (F g) r.enable ch m (λ n k y w q. Rel g p c ys n k y v) (Writing (T g)) t.phase
          (record {
            pin = e.0 ∙ o.pin;
            lock = e.1 ∙ o.lock;
            buffer = o.buffer;
            place = q (ended_by_of (F g) l.core (Writing (T g))) no_latch _ (inr (record { phase = e.2; mem = ap (λ (y : Mem). committed_of (F g) l.core.counter ch.latch (T g) y) t.mem ∙ t.commit }));
          })
      pend o (inr t) q = still Idle t.phase tt o

    pub end_keeps : (p : Phase) (c : Counts) (ys : List ℕ) (v : ℕ) → Inv r p c → Rel g p c ys l ch.latch m v → Ended p c ys v
    end_keeps Ready c ys v i o = still Ready c ys v Idle o.place.phase tt o
    end_keeps (Bits Select b) c ys v i o = still (Bits Select b) c ys v _ o.place.taking.phase tt o
    end_keeps (Bits High b) c ys v i o = still (Bits High b) c ys v _ o.place.taking.phase tt o
    end_keeps (Bits Low b) c ys v i o = still (Bits Low b) c ys v _ o.place.head.taking.phase tt o
    end_keeps (Bits Data b) c ys v i o = still (Bits Data b) c ys v _ o.place.taking.phase tt o
    end_keeps (Bits Poll b) c ys v i o = go o.place
      where
        go : InBits g Poll b c l ch.latch m v → Ended (Bits Poll b) c ys v
        go (inl t) = pend (Bits Poll b) c ys v o t (λ n k y q. inl q)
        go (inr t) = still (Bits Poll b) c ys v _ t.taking.phase tt o
    end_keeps (Bits Turn b) c ys v i o = still (Bits Turn b) c ys v _ o.place.0.taking.phase tt o
    end_keeps (Bits Take b) c ys v i o = still (Bits Take b) c ys v _ o.place.phase tt o
    end_keeps (Heard Select) c ys v i o =
        still (Heard Select) c ys v (Receive (address_start_of (F g) (T g) (select_b g c.seen))) o.place.1.taking.phase tt o
    end_keeps (Heard High) c ys v i o = still (Heard High) c ys v _ o.place.1.head.taking.phase tt o
    end_keeps (Heard Low) c ys v i o = still (Heard Low) c ys v _ o.place.1.taking.phase tt o
    end_keeps (Heard Data) c ys v i o = go o.place
      where
        go : InHeard g Data c l ch.latch m v → Ended (Heard Data) c ys v
        go (inl t) = still (Heard Data) c ys v _ t.taking.phase tt o
        go (inr (t, h)) = still (Heard Data) c ys v Idle t.phase tt o
    end_keeps (Heard Poll) c ys v i o = go o.place
      where
        go : InHeard g Poll c l ch.latch m v → Ended (Heard Poll) c ys v
        go (inl (t, h)) = pend (Heard Poll) c ys v o t (λ n k y q. inl (q, h))
        go (inr (t, h)) = still (Heard Poll) c ys v (Receive (address_start_of (F g) (T g) (select_b g c.seen))) t.taking.phase tt o
    end_keeps (Heard Turn) c ys v i o = still (Heard Turn) c ys v _ (o.place.1.more i.here.more).0 tt o
    end_keeps (Heard Take) c ys v i o =
        ⊎_elim (λ h. still (Heard Take) c ys v (Sending (T g)) (o.place.more h).0 tt o) (λ h. still (Heard Take) c ys v Idle (o.place.last h) tt o) (less_or_same c.at r.length i.common.low)
    end_keeps Rest c ys v i o = pend Rest c ys v o o.place (λ n k y q. q)
    end_keeps (Over AtSelect) c ys v i o = absurd o.place
    end_keeps (Over AtHigh) c ys v i o = absurd o.place
    end_keeps (Over AtLow) c ys v i o = absurd o.place
    end_keeps (Over AtData) c ys v i o = still (Over AtData) c ys v Idle o.place.0.phase tt o
    end_keeps (Over AtPolls) c ys v i o = pend (Over AtPolls) c ys v o o.place.0 (λ n k y q. (q, o.place.1))
