-- Select and address bytes on any chip, at any enable of its own, with its power kept: by the driver's phase, what the chip is about to
-- hear. After a Start it hears the select, or is busy and hears nothing; who acknowledged the select hears the address.
-- Assumes nothing.
use Rattle.std.specs.Prelude.{Ok, Option, None, Some}
use Prim.Native.Nat.{ℕ, zero, suc, ◌+◌, ◌-◌, ◌*◌, ◌/◌, ◌%◌, ◌<◌, ◌≤◌}
use mathlib.Core.Path.{◌≡◌, refl, sym, ◌∙◌, ap, subst}
use mathlib.Core.Bool.{Bool, true, false, cond}
use mathlib.Core.Logic.{◌⊎◌, inl, inr}
use mathlib.Core.List.{List, [], ◌∷◌, ◌++◌, map}
use lib.ListN.{take, replicate}
use lib.Dec.{eqb}
use native.Mathlib.Omega.{arith}
use native.Mathlib.Nat.{div-one}
use borrow.Author.Tests.{ne_eqb}
use Rattle.parts.specs.declared.Facts.{Facts}
use Rattle.parts.specs.Table.{facts_of, enable_right_of}
use Rattle.parts.specs.Events.{event_with, event_of}
use Rattle.parts.specs.Verdict.{Verdict}
use Rattle.parts.specs.Refusals.{number_of, verdict_number_of, sooner_of}
use Rattle.parts.proofs.Laws.{branch}
use Rattle.line.specs.declared.Pin.{Pin}
use Rattle.line.specs.declared.Pin.TheVariants.{Low as PinIsLow, High as PinIsHigh, Floating}
use Rattle.line.specs.declared.Target.{Target}
use Rattle.line.specs.declared.Target.TheVariants.{Array as TheArray, Ident as TheIdent}
use Rattle.line.specs.declared.Recv.{Recv}
use Rattle.line.specs.declared.Recv.TheVariants.{Select as SelectByte, AddressHigh, AddressLow}
use Rattle.line.specs.declared.Cycle.{Cycle}
use Rattle.line.specs.declared.Cycle.TheVariants.{Writing, Locking}
use Rattle.line.specs.declared.Phase.{Phase as ChipPhase}
use Rattle.line.specs.declared.Phase.TheVariants.{Idle, Receive, Send as Sends, Busy}
use Rattle.line.specs.declared.Line.{Line}
use Rattle.line.specs.Rules.{landed, released_in, enabled_of, named_of, decode_of, address_start_of, selected_of, load_array_of, load_id_of, loaded_of, taken_of, received_of, receive_act_of, receive_level_of, clocked_of, clock_act_of, clock_level_of, started_of, start_act_of, stopped_of, stop_act_of, ended_by_of, ended_of, pinned_of, reset_of, next_of, act_of, level_of, NoTransfer}
use Rattle.state.specs.declared.Chip.{Chip}
use Rattle.chip.specs.Memory.{Mem, mem, no_latch, seen_of, state_of, chip_level_of}
use Rattle.chip.specs.Model.{Model, ours}
use Rattle.chip.specs.Delivery.{pin_at_first_of, standby_of}
use Rattle.driver.specs.declared.Request.{Request}
use Rattle.driver.specs.declared.Slot.{Slot}
use Rattle.driver.specs.declared.Slot.TheVariants.{Select, High, Low, Data, Poll, Turn, Take}
use Rattle.driver.specs.declared.Failed.{Failed}
use Rattle.driver.specs.declared.Failed.TheVariants.{AtSelect, AtHigh, AtLow, AtData, AtPolls}
use Rattle.driver.specs.declared.Phase.{Phase}
use Rattle.driver.specs.declared.Phase.TheVariants.{Ready, Bits, Heard, Rest, Over}
use Rattle.driver.specs.declared.Counts.{Counts}
use Rattle.driver.specs.declared.Answer.{Answer}
use Rattle.driver.specs.declared.Answer.TheVariants.{Send, Done, Refused}
use Rattle.driver.specs.declared.Move.{Move}
use Rattle.driver.specs.declared.Asked.{Asked}
use Rattle.driver.specs.Split.{pages_met_of}
use Rattle.driver.specs.Request.{beyond_at, limit_of, judge_of, allowed_of, k_of}
use Rattle.driver.specs.Step.{select_at, wire_of, bit_of, ready_of, bits_at, lead_at, low_at, heard_move_of, bits_move_of, driver_step_of, counts_right, range_of, driver_next_of, byte_kept_of, buffer_of}
use Rattle.driver.specs.Machine.{Machine, our_driver}
use Rattle.driver_promises.specs.Plan.{select_of}
use Rattle.driver_promises.specs.Run.{bound_of}
use Rattle.driver_promises.specs.Promises.{Accepted}
use Rattle.driver_promises.proofs.View.{at, clock_of, Way, w_done, w_open, w_bit, w_ninth, w_got, w_nack, w_high, w_only, w_low, w_turn, w_data, w_more, w_close, w_drop, w_poll, w_again, w_give, w_page, w_take, w_next, w_end, w_over}
use Rattle.driver_promises.proofs.Grow.{bit_lt}
use Rattle.driver_promises.proofs.Extra.{seven_bits}
use Rattle.bench.specs.declared.Report.{Report}
use Rattle.bench.specs.Together.{System, start_of, answered_by, asked_of, outside_of, cycle_ended_of, together_of, turns_of, last_of, enough}
use Rattle.bench.specs.Calls.{report_by, final_of, bench_by, bench_verdict, bench_of}
use Rattle.bench_promises.specs.Together.{answer_of}
use Rattle.bench_promises.specs.Calls.{our_bench}
use Rattle.bench_promises.specs.Answered.{Happens, asks, outside, amid, choice_of, ChoicesAmid, Outside, PowerKept, Addressed, AddressAnswered, AddressedKept, on_page2, ResetBreaks, BlamingBreaks}
use Rattle.bench_promises.proofs.Steps.{Drives, Step, step, ask_elim, ask_drives, drives_of}
use Rattle.bench_promises.proofs.Turns.{choices, choices_same, spare_turn}
use Rattle.bench_promises.proofs.Tape.{last, accepted}
use Rattle.bench_promises.proofs.Hears.{bit_heard, ninth_heard, deaf_heard, start_free, start_busy}

-- a byte is being received: b of its bits are in
record Hears (rc : Recv) (b : ℕ) (l : Line) : Type 0 where
  phase : l.phase ≡ Receive rc
  left : l.left ≡ 8 - b

module _ (r : Request) (own : ℕ) where
  abbrev F : Facts
  F = facts_of r.part

  -- in a select: it is heard, and its last bit is 0; or nothing is
  abbrev Chosen : ℕ → Line → Type 0
  Chosen b l = (Hears SelectByte b l × (b ≡ 8 → l.shift % 2 ≡ 0)) ⊎ NoTransfer l.phase

  -- the first address byte comes next
  abbrev First : Line → Type 0
  First l = (t : Target) × (n : ℕ) × Hears (cond F.wide (AddressHigh t) (AddressLow t n)) 0 l

  -- in the last address byte
  abbrev Last : ℕ → Line → Type 0
  Last b l = (t : Target) × (n : ℕ) × Hears (AddressLow t n) b l

  abbrev InBits : Slot → ℕ → Line → Type 0
  InBits Select b l = Chosen b l
  InBits High b l = (t : Target) × Hears (AddressHigh t) b l
  InBits Low b l = Last b l
  InBits Data b l = Unit {0}
  InBits Poll b l = Unit {0}
  InBits Turn b l = Unit {0}
  InBits Take b l = Unit {0}

  abbrev InHeard : Slot → Line → ℕ → Type 0
  InHeard Select l v = First l ⊎ (0 < v)
  InHeard High l v = (v ≡ 0) × Last 0 l
  InHeard Low l v = v ≡ 0
  InHeard Data l v = Unit {0}
  InHeard Poll l v = Unit {0}
  InHeard Turn l v = Unit {0}
  InHeard Take l v = Unit {0}

  abbrev InOver : Failed → Type 0
  InOver AtSelect = Unit {0}
  InOver AtHigh = ⊥
  InOver AtLow = ⊥
  InOver AtData = Unit {0}
  InOver AtPolls = Unit {0}

  -- the driver's phase, the chip's line, the level told
  abbrev At : Phase → Line → ℕ → Type 0
  At Ready l v = Unit {0}
  At (Bits s b) l v = InBits s b l
  At (Heard s) l v = InHeard s l v
  At Rest l v = Unit {0}
  At (Over f) l v = InOver f

  -- ---- an asking
  module _ (ch : Chip) (m : Mem) (c : Counts) (ys : List ℕ) where
    abbrev l : Line
    l = ch.line

    heard_bit : (rc : Recv) (b x : ℕ) → x < 2 → b < 8 → Hears rc b l → Hears rc (b + 1) (state_of F own ch (event_of x)).line
    heard_bit rc b x h o k =
        let e : 8 - b ≡ suc (7 - b) = omega arith in
        let f : 7 - b ≡ 8 - (b + 1) = omega arith in
        bit_heard F own ch m (λ n _ _ _ _. Hears rc (b + 1) n) x (7 - b) rc h k.phase (k.left ∙ e) (record { phase = refl; left = f })

    -- the last bit of a select code with write
    last_bit : (b : ℕ) → b ≡ 7 → clock_of r c ys Select b ≡ 0
    unfolding wire_of bit_of
    last_bit b e = ap (bit_of (select_of r c.seen)) e ∙ omega (arith, (seven_bits r c.seen).even, div-one (select_of r c.seen))

    select_bit : (b : ℕ) → b < 8 → Chosen b l → Chosen (b + 1) (state_of F own ch (event_of (clock_of r c ys Select b))).line
    select_bit b o (inl (k, _)) =
        let x = clock_of r c ys Select b in
        let e : 8 - b ≡ suc (7 - b) = omega arith in
        let f : 7 - b ≡ 8 - (b + 1) = omega arith in
        bit_heard F own ch m (λ n _ _ _ _. Chosen (b + 1) n) x (7 - b) SelectByte (bit_lt _ b) k.phase (k.left ∙ e)
        (inl (record { phase = refl; left = f }, λ z. (let y = last_bit b (omega arith) in omega arith)))
    select_bit b o (inr d) = deaf_heard F own ch m (λ n _ _ _ _. Chosen (b + 1) n) (clock_of r c ys Select b) (bit_lt _ b) d (inr d)

    -- a select code that ends in 0 is missed, or it is a write
    decoded : (Q : Option (Target × Bool) → Type 0) (b : ℕ) → b % 2 ≡ 0 → Q None → ((t : Target) → Q (Some (t, false))) → Q (decode_of F own b)
    unfolding decode_of named_of
    decoded Q b e n y =
        let w : eqb (b % 2) 1 ≡ false = ne_eqb (b % 2) 1 (λ z. omega arith) in
        branch Q (enabled_of F own b)
        (λ _. branch Q (eqb (b / 16) 10) (λ _. subst (λ (t : Bool). Q (Some (TheArray, t))) (sym w) (y TheArray))
        (λ _. branch Q (eqb (b / 16) 11) (λ _. branch Q F.ident (λ _. subst (λ (t : Bool). Q (Some (TheIdent, t))) (sym w) (y TheIdent)) (λ _. n)) (λ _. n)))
        (λ _. n)

    select_ninth : Chosen 8 l → InHeard Select (state_of F own ch (event_of 1)).line (chip_level_of F own ch m (event_of 1))
    unfolding taken_of selected_of address_start_of
    select_ninth (inl (k, e)) =
        ninth_heard F own ch m (λ n _ _ v _. First n ⊎ (0 < v)) 1 SelectByte (omega arith) k.phase k.left
        (decoded (λ (s : Option (Target × Bool)). First (landed (selected_of F l.core l.shift s)) ⊎ (0 < released_in (selected_of F l.core l.shift s).phase)) l.shift (e refl) (inr (omega arith)) hit)
      where
        hit : (t : Target) → First (landed (selected_of F l.core l.shift (Some (t, false)))) ⊎ (0 < 0)
        hit TheArray = inl (TheArray, l.shift / 2 % 8, record { phase = refl; left = refl })
        hit TheIdent = inl (TheIdent, 0, record { phase = refl; left = refl })
    select_ninth (inr d) = deaf_heard F own ch m (λ n _ _ v _. First n ⊎ (0 < v)) 1 (omega arith) d (inr (omega arith))

    high_ninth : (t : Target) → Hears (AddressHigh t) 8 l → InHeard High (state_of F own ch (event_of 1)).line (chip_level_of F own ch m (event_of 1))
    unfolding taken_of
    high_ninth t k =
        ninth_heard F own ch m (λ n _ _ v _. (v ≡ 0) × Last 0 n) 1 (AddressHigh t) (omega arith) k.phase k.left (refl, (t, l.shift, record { phase = refl; left = refl }))

    low_ninth : (t : Target) (h : ℕ) → Hears (AddressLow t h) 8 l → InHeard Low (state_of F own ch (event_of 1)).line (chip_level_of F own ch m (event_of 1))
    unfolding taken_of loaded_of load_array_of load_id_of
    low_ninth TheArray h k = ninth_heard F own ch m (λ _ _ _ v _. v ≡ 0) 1 (AddressLow TheArray h) (omega arith) k.phase k.left refl
    low_ninth TheIdent h k = ninth_heard F own ch m (λ _ _ _ v _. v ≡ 0) 1 (AddressLow TheIdent h) (omega arith) k.phase k.left refl

    started : Chosen 0 (state_of F own ch (event_of 2)).line
    started = go l.phase refl
      where
        Q : Line → List ℕ → Mem → ℕ → ℕ → Type 0
        Q n _ _ _ _ = Chosen 0 n

        go : (p : ChipPhase) → l.phase ≡ p → Chosen 0 (state_of F own ch (event_of 2)).line
        go Idle e = start_free F own ch m Q Idle tt e (inl (record { phase = refl; left = refl }, λ z. absurd (omega arith)))
        go (Receive rc) e = start_free F own ch m Q (Receive rc) tt e (inl (record { phase = refl; left = refl }, λ z. absurd (omega arith)))
        go (Sends t) e = start_free F own ch m Q (Sends t) tt e (inl (record { phase = refl; left = refl }, λ z. absurd (omega arith)))
        go (Busy y) e = start_busy F own ch m Q y e (inr (subst NoTransfer (sym e) tt))

    abbrev Goes : Answer → Phase → Type 0
    Goes (Send e) p = At p (state_of F own ch (event_of e)).line (chip_level_of F own ch m (event_of e))
    Goes (Done q n) p = Unit {0}
    Goes (Refused f q n) p = Unit {0}

    keeps : {v : ℕ} {p : Phase} {mv : Move} {zs : List ℕ} → At p l v → Way r c v ys p mv zs → Goes mv.answer mv.phase
    keeps t (w_done e) = tt
    keeps t (w_open n) = started
    keeps t (w_bit Select b h) = select_bit b h t
    keeps t (w_bit High b h) = (t.0, heard_bit (AddressHigh t.0) b (clock_of r c ys High b) (bit_lt _ b) h t.1)
    keeps t (w_bit Low b h) = (t.0, t.1, heard_bit (AddressLow t.0 t.1) b (clock_of r c ys Low b) (bit_lt _ b) h t.2)
    keeps t (w_bit Data b h) = tt
    keeps t (w_bit Poll b h) = tt
    keeps t (w_bit Turn b h) = tt
    keeps t (w_bit Take b h) = tt
    keeps t (w_ninth Select b e h) = select_ninth (subst (λ (n : ℕ). Chosen n l) h t)
    keeps t (w_ninth High b e h) = high_ninth t.0 (subst (λ (n : ℕ). Hears (AddressHigh t.0) n l) h t.1)
    keeps t (w_ninth Low b e h) = low_ninth t.0 t.1 (subst (λ (n : ℕ). Hears (AddressLow t.0 t.1) n l) h t.2)
    keeps t (w_ninth Data b e h) = tt
    keeps t (w_ninth Poll b e h) = tt
    keeps t (w_ninth Turn b e h) = tt
    keeps t (w_ninth Take b e h) = tt
    keeps t (w_got b e h) = tt
    keeps t (w_nack Select e h) = tt
    keeps t (w_nack High e h) = omega (arith, t.0)
    keeps t (w_nack Low e h) = omega arith
    keeps t (w_nack Data e h) = tt
    keeps t (w_nack Poll e h) = tt
    keeps t (w_nack Turn e h) = tt
    keeps t (w_nack Take e h) = tt
    keeps (inl (t, n, k)) (w_high z e) = (t, heard_bit (AddressHigh t) 0 (clock_of r c ys High 0) (bit_lt _ 0) (omega arith) (subst (λ (w : Bool). Hears (cond w (AddressHigh t) (AddressLow t n)) 0 l) e k))
    keeps (inr o) (w_high z e) = absurd (omega arith)
    keeps (inl (t, n, k)) (w_only z e) = (t, n, heard_bit (AddressLow t n) 0 (clock_of r c ys Low 0) (bit_lt _ 0) (omega arith) (subst (λ (w : Bool). Hears (cond w (AddressHigh t) (AddressLow t n)) 0 l) e k))
    keeps (inr o) (w_only z e) = absurd (omega arith)
    keeps (u, (t, n, k)) (w_low z) = (t, n, heard_bit (AddressLow t n) 0 (clock_of r c ys Low 0) (bit_lt _ 0) (omega arith) k)
    keeps t (w_turn z e) = tt
    keeps t (w_data z e) = tt
    keeps t (w_more z n) = tt
    keeps t (w_close z e) = tt
    keeps t (w_drop z) = tt
    keeps t w_poll = tt
    keeps t (w_again z o) = tt
    keeps t (w_give z o) = tt
    keeps t (w_page z) = tt
    keeps t (w_take z) = tt
    keeps t (w_next n) = tt
    keeps t (w_end e) = tt
    keeps t (w_over f) = tt

  -- what it answers there
  addressed : {c : Counts} {v : ℕ} {ys zs : List ℕ} {p : Phase} {mv : Move} (n : Line) → At p n v → Way r c v ys p mv zs → Addressed mv.answer
  addressed n t (w_done e) = tt
  addressed n t (w_open f) = tt
  addressed n t (w_bit s b h) = tt
  addressed n t (w_ninth s b e h) = tt
  addressed n t (w_got b e h) = tt
  addressed n t (w_nack s e h) = tt
  addressed n t (w_high z e) = tt
  addressed n t (w_only z e) = tt
  addressed n t (w_low z) = tt
  addressed n t (w_turn z e) = tt
  addressed n t (w_data z e) = tt
  addressed n t (w_more z f) = tt
  addressed n t (w_close z e) = tt
  addressed n t (w_drop z) = tt
  addressed n t w_poll = tt
  addressed n t (w_again z o) = tt
  addressed n t (w_give z o) = tt
  addressed n t (w_page z) = tt
  addressed n t (w_take z) = tt
  addressed n t (w_next f) = tt
  addressed n t (w_end e) = tt
  addressed n t (w_over AtSelect) = (λ e. omega arith, λ e. omega arith)
  addressed n t (w_over AtHigh) = absurd t
  addressed n t (w_over AtLow) = absurd t
  addressed n t (w_over AtData) = (λ e. omega arith, λ e. omega arith)
  addressed n t (w_over AtPolls) = (λ e. omega arith, λ e. omega arith)

  -- ---- an event from outside: a byte that is being received is received on, and who is deaf stays so
  abbrev Same : ChipPhase → Line → Line → Type 0
  Same Idle l k = NoTransfer k.phase
  Same (Receive rc) l k = (k.phase ≡ Receive rc) × (k.left ≡ l.left) × (k.shift ≡ l.shift)
  Same (Sends t) l k = Unit {0}
  Same (Busy y) l k = NoTransfer k.phase

  ended : (l : Line) (p : ChipPhase) → l.phase ≡ p → Same p l (ended_of F l p)
  unfolding ended_of ended_by_of
  ended l Idle e = subst NoTransfer (sym e) tt
  ended l (Receive rc) e = (e, refl, refl)
  ended l (Sends t) e = tt
  ended l (Busy (Writing TheArray)) e = tt
  ended l (Busy (Writing TheIdent)) e = tt
  ended l (Busy Locking) e = tt

  pinned : (l : Line) (w : Pin) (p : ChipPhase) → l.phase ≡ p → Same p l (pinned_of l w p)
  unfolding pinned_of
  pinned l w Idle e = subst NoTransfer (sym e) tt
  pinned l w (Receive rc) e = (e, refl, refl)
  pinned l w (Sends t) e = tt
  pinned l w (Busy y) e = subst NoTransfer (sym e) tt

  same : (l : Line) (e : ℕ) → PowerKept e → Same l.phase l (next_of F own l (event_of e))
  unfolding next_of event_with
  same l zero h = absurd (omega (arith, h.0))
  same l (suc zero) h = absurd (omega (arith, h.0))
  same l (suc (suc zero)) h = absurd (omega (arith, h.0))
  same l (suc (suc (suc zero))) h = absurd (omega (arith, h.0))
  same l (suc (suc (suc (suc zero)))) h = ended l l.phase refl
  same l (suc (suc (suc (suc (suc zero))))) h = pinned l PinIsLow l.phase refl
  same l (suc (suc (suc (suc (suc (suc zero)))))) h = pinned l PinIsHigh l.phase refl
  same l (suc (suc (suc (suc (suc (suc (suc zero))))))) h = pinned l Floating l.phase refl
  same l (suc (suc (suc (suc (suc (suc (suc (suc e)))))))) h = absurd (omega (arith, h.1))

  module _ (l k : Line) (s : Same l.phase l k) where
    still_deaf : NoTransfer l.phase → NoTransfer k.phase
    still_deaf = go l.phase s
      where
        go : (p : ChipPhase) → Same p l k → NoTransfer p → NoTransfer k.phase
        go Idle h d = h
        go (Receive rc) h d = absurd d
        go (Sends t) h d = absurd d
        go (Busy y) h d = h

    received : (rc : Recv) (b : ℕ) → Hears rc b l → Hears rc b k × (k.shift ≡ l.shift)
    received rc b h =
        let t = subst (λ (p : ChipPhase). Same p l k) h.phase s in
        (record { phase = t.0; left = t.1 ∙ h.left }, t.2)

    bits_on : (sl : Slot) (b : ℕ) → InBits sl b l → InBits sl b k
    bits_on Select b (inl (h, e)) = let t = received SelectByte b h in inl (t.0, λ z. ap (λ (n : ℕ). n % 2) t.1 ∙ e z)
    bits_on Select b (inr d) = inr (still_deaf d)
    bits_on High b h = (h.0, (received (AddressHigh h.0) b h.1).0)
    bits_on Low b h = (h.0, h.1, (received (AddressLow h.0 h.1) b h.2).0)
    bits_on Data b h = tt
    bits_on Poll b h = tt
    bits_on Turn b h = tt
    bits_on Take b h = tt

    heard_on : (sl : Slot) (v : ℕ) → InHeard sl l v → InHeard sl k v
    heard_on Select v (inl (t, n, h)) = inl (t, n, (received _ 0 h).0)
    heard_on Select v (inr o) = inr o
    heard_on High v (e, (t, n, h)) = (e, (t, n, (received (AddressLow t n) 0 h).0))
    heard_on Low v h = h
    heard_on Data v h = tt
    heard_on Poll v h = tt
    heard_on Turn v h = tt
    heard_on Take v h = tt

    on : (p : Phase) (v : ℕ) → At p l v → At p k v
    on Ready v h = tt
    on (Bits sl b) v h = bits_on sl b h
    on (Heard sl) v h = heard_on sl v h
    on Rest v h = tt
    on (Over f) v h = h

  -- ---- a whole run
  abbrev M : Model
  M = ours F own

  record Goes_on (y : System) : Type 0 where
    drives : Drives r y
    at : At y.driver.phase y.chip.line y.level

  ask_on : (y : System) → Goes_on y → Goes_on (asked_of our_driver M y)
  ask_on y h = record { drives = ask_drives r M y h.drives; at = go (step r y h.drives) }
    where
      Now : System → Type 0
      Now z = At z.driver.phase z.chip.line z.level

      go : Step r y → Now (asked_of our_driver M y)
      go t = ask_elim r M Now y t (by t.move.answer (keeps y.chip y.mem y.driver.counts y.buffer h.at t.way))
        where
          by : (a : Answer) → Goes y.chip y.mem y.driver.counts y.buffer a t.move.phase → Now (answered_by M y (Rattle.driver_promises.proofs.View.at r t.move.phase t.move.counts) (buffer_of y.driver y.level y.buffer) a)
          by (Send e) n = n
          by (Done q k) n = h.at
          by (Refused f q k) n = h.at

  outside_on : (y : System) (e : ℕ) → PowerKept e → Goes_on y → Goes_on (outside_of M e y)
  unfolding state_of
  outside_on y e p h =
      record {
        drives = record { request = h.drives.request; inv = h.drives.inv; size = h.drives.size };
        at = on y.chip.line (next_of F own y.chip.line (event_of e)) (same y.chip.line e p) y.driver.phase y.level h.at;
      }

  all_on : (hs : List Happens) (y : System) → Outside PowerKept hs → Goes_on y → Goes_on (amid our_driver M hs y)
  all_on [] y p h = h
  all_on (asks ∷ hs) y p h = all_on hs (asked_of our_driver M y) p (ask_on y h)
  all_on (outside e ∷ hs) y p h = all_on hs (outside_of M e y) p.1 (outside_on y e p.0 h)

  answered : (y : System) → Goes_on y → Addressed (driver_next_of y.driver y.level y.buffer).answer
  answered y h =
      let t = step r y h.drives in
      subst (λ (a : Asked). Addressed a.answer) (sym t.asked) (addressed y.chip.line h.at t.way)

pub address_answered : AddressAnswered our_driver ours
address_answered r xs a own c m hs p =
    answered r own _ (all_on r own hs (start_of r xs c m) p (record { drives = drives_of r xs a (start_of r xs c m) [] refl; at = tt }))

pub choices_amid : ChoicesAmid
unfolding together_of cycle_ended_of
choices_amid D M [] s = refl
choices_amid D M (true ∷ bs) s = choices_amid D M bs (asked_of D M s)
choices_amid D M (false ∷ bs) s = choices_amid D M bs (cycle_ended_of M s)

-- ---- the public run
ends_only : (bs : List Bool) → Outside PowerKept (map choice_of bs)
ends_only [] = tt
ends_only (true ∷ bs) = ends_only bs
ends_only (false ∷ bs) = ((omega arith, omega arith), ends_only bs)

module _ (r : Request) (own d : ℕ) (c : Chip) (m : Mem) (ys : List ℕ) (fine : bench_verdict r own d c m ys ≡ Ok tt) where
  abbrev M₁ : Model
  M₁ = ours (facts_of r.part) own

  abbrev first : System
  first = start_of r (take r.length ys) c m

  turn_addressed : (n : ℕ) → Addressed (answer_of (turns_of our_driver M₁ d n first))
  turn_addressed n =
      let bs = choices (facts_of r.part) own d n first in
      subst (λ (y : System). Addressed (answer_of y)) (choices_amid our_driver M₁ bs first ∙ sym (choices_same (facts_of r.part) own d n first))
      (address_answered r (take r.length ys) (accepted r own d c m ys fine) own c m (map choice_of bs) (ends_only bs))

  abbrev Neither : Report → Type 0
  Neither p = (verdict_number_of p.verdict ≡ 14 → ⊥) × (verdict_number_of p.verdict ≡ 15 → ⊥)

  reported : (y : System) (a : Answer) → Addressed a → Neither (report_by y a)
  reported y (Send e) h = (λ z. omega arith, λ z. omega arith)
  reported y (Done q k) h = (λ z. omega arith, λ z. omega arith)
  reported y (Refused f q k) h = h

  -- `enough` is not computed
  by_turns : (n : ℕ) → n ≡ enough → Neither (bench_by our_driver M₁ r d c m ys (Ok tt)).report
  unfolding final_of
  by_turns n e =
      let a = accepted r own d c m ys fine in
      let spare : bound_of r + 1 < n = subst (λ (i : ℕ). bound_of r + 1 < i) (sym e) (spare_turn r (take r.length ys) a) in
      subst (λ (i : ℕ). Neither (report_by (turns_of our_driver M₁ d i first) (last_of our_driver M₁ d i (Done 0 0) first))) e
      (reported (turns_of our_driver M₁ d n first) (last_of our_driver M₁ d n (Done 0 0) first) (subst Addressed (sym (last r (take r.length ys) a M₁ d n c m spare)) (turn_addressed n)))

  run_addressed : Neither (bench_of r own d c m ys).report
  run_addressed = subst (λ (v : Verdict). Neither (bench_by our_driver M₁ r d c m ys v).report) (sym fine) (by_turns enough refl)

pub addressed_kept : AddressedKept our_bench
addressed_kept k f = run_addressed k.request k.own k.d k.chip k.mem k.buffer f

-- ---- power kept is needed
fits : Accepted on_page2 (90 ∷ [])
unfolding judge_of sooner_of facts_of enable_right_of beyond_at limit_of
fits = record { fine = refl; size = refl }

pub reset_breaks : ResetBreaks
unfolding facts_of enable_right_of event_with sooner_of enabled_of named_of decode_of address_start_of selected_of load_array_of load_id_of loaded_of taken_of received_of receive_act_of receive_level_of clocked_of clock_act_of clock_level_of started_of start_act_of stopped_of stop_act_of reset_of next_of act_of level_of no_latch seen_of state_of chip_level_of pin_at_first_of standby_of beyond_at limit_of judge_of allowed_of k_of pages_met_of select_at wire_of bit_of ready_of bits_at lead_at low_at heard_move_of bits_move_of driver_step_of counts_right range_of driver_next_of byte_kept_of buffer_of asked_of
reset_breaks =
    record {
      first = refl;
      second = refl;
      breaks = λ p. (p on_page2 (90 ∷ []) fits 0 (standby_of (facts_of 2) false) (mem [] []) (replicate 10 asks ++ (outside 8 ∷ replicate 10 asks)) (refl, tt)).0 refl;
    }

-- a chip with other straps
pub blaming_breaks : BlamingBreaks
unfolding facts_of enable_right_of event_with sooner_of enabled_of named_of decode_of address_start_of selected_of load_array_of load_id_of loaded_of taken_of received_of receive_act_of receive_level_of clocked_of clock_act_of clock_level_of started_of start_act_of stopped_of stop_act_of reset_of next_of act_of level_of no_latch seen_of state_of chip_level_of pin_at_first_of standby_of beyond_at limit_of judge_of allowed_of k_of pages_met_of select_at wire_of bit_of ready_of bits_at lead_at low_at heard_move_of bits_move_of driver_step_of counts_right range_of driver_next_of byte_kept_of buffer_of asked_of
blaming_breaks p = (p on_page2 (90 ∷ []) fits 1 (standby_of (facts_of 2) false) (mem [] []) (replicate 11 asks) tt).0 refl
