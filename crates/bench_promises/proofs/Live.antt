-- Demand 3, the last sentence: with each cycle ended in time a write ends done, with one cycle for each page.
-- Assumes nothing.
use Prim.Native.Nat.{ℕ, ◌+◌, ◌<◌, ◌≤◌}
use mathlib.Core.Path.{◌≡◌, refl, sym, ◌∙◌, ap, subst}
use mathlib.Core.Bool.{Bool, true, false, ◌||◌, false≢true}
use mathlib.Core.Logic.{inl, inr}
use mathlib.Core.List.{List, [], ◌∷◌}
use native.Mathlib.Omega.{arith}
use Rattle.parts.specs.declared.Event.TheVariants.{Ends}
use Rattle.parts.specs.declared.Refusal.TheVariants.{NoData}
use Rattle.parts.specs.Refusals.{number_of}
use Rattle.parts.specs.Table.{facts_of}
use Rattle.line.specs.Rules.{NoTransfer}
use Rattle.line.specs.declared.Target.{Target}
use Rattle.line.specs.declared.Target.TheVariants.{Array as TheArray, Ident as TheIdent}
use Rattle.line.specs.declared.Phase.TheVariants.{Receive}
use Rattle.line.specs.declared.Line.{Line}
use Rattle.state.specs.declared.Chip.{Chip}
use Rattle.chip.specs.Memory.{Mem, state_of}
use Rattle.driver.specs.declared.Place.{Place}
use Rattle.driver.specs.declared.Place.TheVariants.{Array, Ident}
use Rattle.driver.specs.declared.Request.{Request}
use Rattle.driver.specs.declared.Slot.{Slot}
use Rattle.driver.specs.declared.Slot.TheVariants.{Select, High, Low, Data, Poll, Turn, Take}
use Rattle.driver.specs.declared.Failed.{Failed}
use Rattle.driver.specs.declared.Failed.TheVariants.{AtSelect, AtHigh, AtLow, AtData, AtPolls}
use Rattle.driver.specs.declared.Phase.{Phase}
use Rattle.driver.specs.declared.Phase.TheVariants.{Ready, Bits, Heard, Rest, Over}
use Rattle.driver.specs.declared.Counts.{Counts}
use Rattle.driver.specs.declared.Answer.{Answer}
use Rattle.driver.specs.declared.Answer.TheVariants.{Send, Done, Refused}
use Rattle.driver.specs.declared.Move.{Move}
use Rattle.driver.specs.Request.{allowed_of, k_of}
use Rattle.driver.specs.Step.{bit_of, wire_of, buffer_of, refusal_of}
use Rattle.driver.specs.Machine.{our_driver}
use Rattle.driver_promises.specs.Run.{Finished, bound_of}
use Rattle.driver_promises.specs.Where.{left_of}
use Rattle.driver_promises.proofs.View.{at, Way, w_done, w_open, w_bit, w_ninth, w_got, w_nack, w_high, w_only, w_low, w_turn, w_data, w_more, w_close, w_drop, w_poll, w_again, w_give, w_page, w_take, w_next, w_end, w_over}
use Rattle.driver_promises.proofs.Inv.{Inv, left_none}
use Rattle.driver_promises.proofs.Grow.{bit_lt}
use Rattle.driver_promises.specs.Promises.{OnIdent}
use Rattle.driver_promises.proofs.Extra.{ident_one}
use Rattle.bench.specs.Together.{System, start_of, answered_by, asked_of, cycle_ended_of, together_of, poll_next}
use Rattle.bench_promises.specs.Ground.{target_of}
use Rattle.bench_promises.specs.Together.{Begins, answer_of, askings}
use Rattle.bench_promises.specs.Ends.{Writable, poll_number_of, InTime, Complete}
use Rattle.bench_promises.proofs.Hears.{end_free}
use Rattle.bench_promises.proofs.Rel.{refusing, Given, F, T, select_b, Pending, InBits, InHeard, Rel}
use Rattle.bench_promises.proofs.Keep.{Sane, Same, After', k_poll, k_polled, k_deaf, k_select, select_lt, no_nack}
use Rattle.bench_promises.proofs.Steps.{again_next}
use Rattle.bench_promises.proofs.Whole.{Holds, Stepped, stepped, asked_elim, asked_holds, ended_holds, G, sane, start_holds}
use Rattle.bench_promises.proofs.Cycles.{Cyc}
use Rattle.line.specs.declared.Recv.TheVariants.{Select as SelectByte}
use Rattle.line.specs.declared.Phase.{Phase as ChipPhase}
use Rattle.bench_promises.proofs.Stored.{spoken, over_is, all_done, cycles_now, finished}
use Rattle.parts.specs.Events.{event_with}
use Rattle.chip.specs.Model.{ours}
use Rattle.chip_promises.specs.States.{NotBusy}

-- the last poll allowed for a page is heard, and then acknowledged
abbrev live_bits : Slot → Request → Counts → Line → Type 0
live_bits Select r c l = Unit {0}
live_bits High r c l = Unit {0}
live_bits Low r c l = Unit {0}
live_bits Data r c l = Unit {0}
live_bits Poll r c l = c.tries ≡ allowed_of r → l.phase ≡ Receive SelectByte
live_bits Turn r c l = Unit {0}
live_bits Take r c l = Unit {0}

abbrev live_heard : Slot → Request → Counts → ℕ → Type 0
live_heard Select r c v = Unit {0}
live_heard High r c v = Unit {0}
live_heard Low r c v = Unit {0}
live_heard Data r c v = Unit {0}
live_heard Poll r c v = c.tries ≡ allowed_of r → v ≡ 0
live_heard Turn r c v = Unit {0}
live_heard Take r c v = Unit {0}

abbrev pub Live : Phase → Request → Counts → Line → ℕ → Type 0
Live Ready r c l v = Unit {0}
Live (Bits s b) r c l v = live_bits s r c l
Live (Heard s) r c l v = live_heard s r c v
Live Rest r c l v = Unit {0}
Live (Over f) r c l v = ⊥

-- who waits for a Start, or is busy, is not hearing a byte
not_deaf : (l : Line) (p : ChipPhase) → NoTransfer p → l.phase ≡ p → l.phase ≡ Receive SelectByte → ⊥
not_deaf l p d e f = subst NoTransfer (sym e ∙ f) d

module _ (g : Given) (s : Sane g) (free : refusing (T g) g.pin g.locked ≡ false) where
  abbrev r : Request
  r = g.request

  module _ (ch : Chip) (m : Mem) (c : Counts) (ys : List ℕ) (v : ℕ) where
    abbrev l : Line
    l = ch.line

    same : {p : Phase} → Rel g p c ys l ch.latch m v → Same g s ch m l
    same o = record { pin = o.pin; lock = o.lock }

    abbrev NextLive : Move → Answer → Type 0
    NextLive mv (Send e) = After' g s ch m (λ n k y w q. Live mv.phase r mv.counts n w) e
    NextLive mv (Done q n) = Unit {0}
    NextLive mv (Refused f q n) = Unit {0}

    -- the Start of a poll
    l_poll : {p : Phase} → Rel g p c ys l ch.latch m v → Pending g c.at c.seen l ch.latch m → (c.tries + 1 ≡ allowed_of r → NotBusy l.phase)
        → After' g s ch m (λ n k y w q. c.tries + 1 ≡ allowed_of r → n.phase ≡ Receive SelectByte) 2
    l_poll o p f =
        k_poll g s ch m (λ n k y w q. c.tries + 1 ≡ allowed_of r → n.phase ≡ Receive SelectByte) c.at c.seen (same o) p
        (λ q e. absurd (subst NotBusy q.phase (f e)))
        (λ n u q e. q.taking.phase)

    deaf_absurd : Pending g c.at c.seen l ch.latch m → l.phase ≡ Receive SelectByte → ⊥
    deaf_absurd (inl p) e = not_deaf l _ tt p.phase e
    deaf_absurd (inr p) e = not_deaf l _ tt p.phase e

    l_bit : (b : ℕ) → b < 8 → Rel g (Bits Poll b) c ys l ch.latch m v → Live (Bits Poll b) r c l v
        → After' g s ch m (λ n k y w q. c.tries ≡ allowed_of r → n.phase ≡ Receive SelectByte) (bit_of (select_b g c.seen) b)
    l_bit b h o t = go o.place
      where
        go : InBits g Poll b c l ch.latch m v → After' g s ch m (λ n k y w q. c.tries ≡ allowed_of r → n.phase ≡ Receive SelectByte) (bit_of (select_b g c.seen) b)
        go (inl p) = k_deaf g s ch m (λ n k y w q. c.tries ≡ allowed_of r → n.phase ≡ Receive SelectByte) c.at c.seen _ (bit_lt (select_b g c.seen) b) p (λ e. absurd (deaf_absurd p (t e)))
        go (inr p) =
            k_polled g s ch m (λ n k y w q. c.tries ≡ allowed_of r → n.phase ≡ Receive SelectByte) b (select_b g c.seen) c.at _ (omega (arith, select_lt g s c.seen)) h refl (same o) p
            (λ n u q e. q.taking.phase)

    l_ninth : (b : ℕ) → b ≡ 8 → Rel g (Bits Poll b) c ys l ch.latch m v → Live (Bits Poll b) r c l v
        → After' g s ch m (λ n k y w q. c.tries ≡ allowed_of r → w ≡ 0) 1
    l_ninth b h o t = go o.place
      where
        go : InBits g Poll b c l ch.latch m v → After' g s ch m (λ n k y w q. c.tries ≡ allowed_of r → w ≡ 0) 1
        go (inl p) = k_deaf g s ch m (λ n k y w q. c.tries ≡ allowed_of r → w ≡ 0) c.at c.seen 1 (omega arith) p (λ e. absurd (deaf_absurd p (t e)))
        go (inr p) = k_select g s ch m (λ n k y w q. c.tries ≡ allowed_of r → w ≡ 0) b c.seen h p.taking (λ n z q e. refl)

    lives : {p : Phase} {mv : Move} {zs : List ℕ} → Inv r p c → Rel g p c ys l ch.latch m v → Live p r c l v → (poll_next p c.tries (allowed_of r) v ≡ allowed_of r → NotBusy l.phase) → Way r c v ys p mv zs → NextLive mv mv.answer
    unfolding wire_of
    lives i o t f (w_done e) = tt
    lives i o t f (w_open n) = tt
    lives i o t f (w_bit Select b h) = tt
    lives i o t f (w_bit High b h) = tt
    lives i o t f (w_bit Low b h) = tt
    lives i o t f (w_bit Data b h) = tt
    lives i o t f (w_bit Poll b h) = l_bit b h o t
    lives i o t f (w_bit Turn b h) = tt
    lives i o t f (w_bit Take b h) = tt
    lives i o t f (w_ninth Select b e h) = tt
    lives i o t f (w_ninth High b e h) = tt
    lives i o t f (w_ninth Low b e h) = tt
    lives i o t f (w_ninth Data b e h) = tt
    lives i o t f (w_ninth Poll b e h) = l_ninth b h o t
    lives i o t f (w_ninth Turn b e h) = tt
    lives i o t f (w_ninth Take b e h) = tt
    lives i o t f (w_got b e h) = tt
    lives i o t f (w_nack sl e h) = absurd (no_nack g s ch m c ys v sl e o h)
    lives i o t f (w_high z e) = tt
    lives i o t f (w_only z e) = tt
    lives i o t f (w_low z) = tt
    lives i o t f (w_turn z e) = tt
    lives i o t f (w_data z e) = tt
    lives i o t f (w_more z n) = tt
    lives i o t f (w_close z e) = tt
    lives i o t f (w_drop z) = absurd (go o.place)
      where
        go : InHeard g Data c l ch.latch m v → ⊥
        go (inl q) = let e = q.level in omega arith
        go (inr (q, h)) = false≢true (sym free ∙ q.shut)
    lives i o t f w_poll = l_poll o o.place f
    lives i o t f (w_again z h) = go o.place
      where
        go : InHeard g Poll c l ch.latch m v → After' g s ch m (λ n k y w q. c.tries + 1 ≡ allowed_of r → n.phase ≡ Receive SelectByte) 2
        go (inl (p, k)) = l_poll o p (λ e. f (again_next c.tries (allowed_of r) v z h ∙ e))
        go (inr (p, k)) = absurd (omega arith)
    lives i o t f (w_give z h) = let q = i.common.tries in let e = t (omega arith) in absurd (omega arith)
    lives i o t f (w_page z) = tt
    lives i o t f (w_take z) = tt
    lives i o t f (w_next n) = tt
    lives i o t f (w_end e) = tt
    lives i o t f (w_over w) = absurd t

    -- an end changes nothing here
    live_end : (p : Phase) → Live p r c l v → Live p r c (state_of (F g) r.enable ch Ends).line v
    live_end Ready t = tt
    live_end (Bits Select b) t = tt
    live_end (Bits High b) t = tt
    live_end (Bits Low b) t = tt
    live_end (Bits Data b) t = tt
    live_end (Bits Poll b) t = λ e. end_free (F g) r.enable ch m (λ n k y w q. n.phase ≡ Receive SelectByte) (Receive SelectByte) tt (t e) (t e)
    live_end (Bits Turn b) t = tt
    live_end (Bits Take b) t = tt
    live_end (Heard sl) t = t
    live_end Rest t = tt
    live_end (Over f) t = t

  abbrev pub LiveNow : System → Type 0
  LiveNow y = Live y.driver.phase r y.driver.counts y.chip.line y.level

  asked_live : (y : System) → Holds g y → LiveNow y → (poll_number_of y ≡ allowed_of y.driver.request → NotBusy y.chip.line.phase) → LiveNow (asked_of our_driver (ours (F g) r.enable) y)
  asked_live y h t f = go (stepped g s y h)
    where
      fair : poll_next y.driver.phase y.driver.counts.tries (allowed_of r) y.level ≡ allowed_of r → NotBusy y.chip.line.phase
      fair = subst (λ (q : Request). poll_next y.driver.phase y.driver.counts.tries (allowed_of q) y.level ≡ allowed_of q → NotBusy y.chip.line.phase) h.request f

      go : Stepped g s y → LiveNow (asked_of our_driver (ours (F g) r.enable) y)
      go w = asked_elim g s LiveNow y w (by w.move.answer (lives y.chip y.mem y.driver.counts y.buffer y.level h.inv h.rel t fair w.way))
        where
          by : (a : Answer) → NextLive y.chip y.mem y.driver.counts y.buffer y.level w.move a
              → LiveNow (answered_by (ours (F g) r.enable) y (at r w.move.phase w.move.counts) (buffer_of y.driver y.level y.buffer) a)
          by (Send e) n = n
          by (Done q n) k = t
          by (Refused z q n) k = t

  pub live_all : (bs : List Bool) (y : System) → Holds g y → LiveNow y → InTime (F g) r.enable bs y → LiveNow (together_of our_driver (ours (F g) r.enable) bs y)
  unfolding together_of cycle_ended_of event_with
  live_all [] y h t f = t
  live_all (true ∷ bs) y h t f = live_all bs (asked_of our_driver (ours (F g) r.enable) y) (asked_holds g s y h) (asked_live y h t f.0) f.1
  live_all (false ∷ bs) y h t f =
      live_all bs (cycle_ended_of (ours (F g) r.enable) y) (ended_holds g s y h) (live_end y.chip y.mem y.driver.counts y.buffer y.level y.driver.phase t) f

-- what may be written is not refused
pub not_refusing : (p : Place) (c : Chip) → Writable p c.line.core → refusing (target_of p) c.line.core.pin c.line.core.locked ≡ false
not_refusing (Array a) c w = w
not_refusing (Ident i) c w = ap (λ (b : Bool). b || c.line.core.locked) w.0 ∙ w.1

ident_named : (p : Place) → target_of p ≡ TheIdent → OnIdent p
ident_named (Array a) e = go e
  where
    kind : Target → Bool
    kind TheArray = false
    kind TheIdent = true

    go : TheArray ≡ TheIdent → OnIdent (Array a)
    go e = absurd (false≢true (ap kind e))
ident_named (Ident i) e = tt

module _ (r : Request) (xs : List ℕ) (c : Chip) (m : Mem) (b : Begins r xs c m) (bs : List Bool) where
  abbrev Y : System
  Y = together_of our_driver (ours (facts_of r.part) r.enable) bs (start_of r xs c m)

  pub done_cycles : r.reads ≡ false → (q n : ℕ) → answer_of Y ≡ Done q n → Y.cycles ≡ k_of r
  done_cycles w q n e =
      let z = spoken r xs c m b bs (Done q n) e in
      let k = (subst (λ (p : Phase). Cyc r p Y.driver.counts Y.cycles) z.0 (cycles_now r xs c m b bs)).1 w in
      omega (arith, left_none r, ap (left_of r) (sym z.2 ∙ all_done r xs c m b bs q n e))

  pub write_ends : r.reads ≡ false → Writable r.place c.line.core → InTime (facts_of r.part) r.enable bs (start_of r xs c m) → bound_of r < askings bs → Complete r Y
  write_ends w u f h = go (answer_of Y) refl (finished r xs c m b bs h)
    where
      live : Live Y.driver.phase r Y.driver.counts Y.chip.line Y.level
      live = live_all (G r xs c m b) (sane r xs c m b) (not_refusing r.place c u) bs (start_of r xs c m) (start_holds r xs c m b) tt f

      go : (a : Answer) → answer_of Y ≡ a → Finished a → Complete r Y
      go (Send e) z k = absurd k
      go (Done q n) z k = record { polls = q; done = z ∙ ap (Done q) (all_done r xs c m b bs q n z); cycles = done_cycles w q n z }
      go (Refused x q n) z k =
          let t = spoken r xs c m b bs (Refused x q n) z in
          absurd (subst (λ (p : Phase). Live p r Y.driver.counts Y.chip.line Y.level) t.1 live)

  -- the identification page is one page
  pub ident_one_cycle : r.reads ≡ false → target_of r.place ≡ TheIdent → 1 ≤ r.length → (q n : ℕ) → answer_of Y ≡ Done q n → Y.cycles ≡ 1
  ident_one_cycle w t o q n e = done_cycles w q n e ∙ ident_one r xs b.accepted (ident_named r.place t) o

  -- a refusal's number tells where the driver was refused
  pub never_ten : Writable r.place c.line.core → (i q n : ℕ) → answer_of Y ≡ Refused (NoData i) q n → ⊥
  never_ten u j q n e = let z = spoken r xs c m b bs (Refused (NoData j) q n) e in go z.0 z.1 z.2
    where
      go : (f : Failed) → Y.driver.phase ≡ Over f → NoData j ≡ refusal_of r Y.driver.counts f → ⊥
      go AtSelect p k = omega (arith, ap number_of k)
      go AtHigh p k = over_is r xs c m b bs AtHigh p
      go AtLow p k = over_is r xs c m b bs AtLow p
      go AtData p k = false≢true (sym (not_refusing r.place c u) ∙ (over_is r xs c m b bs AtData p).0.shut)
      go AtPolls p k = omega (arith, ap number_of k)
