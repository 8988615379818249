-- The numbers are given in document 01's order.
-- Assumes nothing.
use Rattle.std.specs.Prelude.{Ok, Err}
use Prim.Native.Nat.{ℕ, zero, suc, ◌+◌, ◌<◌, ◌≤◌}
use mathlib.Core.Path.{◌≡◌, refl, sym, ap, ◌∙◌}
use mathlib.Core.Bool.{Bool, true, false, not}
use mathlib.Core.List.{List, [], ◌∷◌}
use native.Mathlib.Decide.{ℕ_discrete, dec_lt}
use Rattle.chip_promises.specs.Calls.{Deliver, Step, Run}
use lib.ListN.{length, get_or, replicate, length-replicate}
use lib.Dec.{eqb, ltb}
use native.Mathlib.Omega.{arith}
use borrow.Author.Tests.{lt-ltb, le-ltb, eq-eqb, ne_eqb}
use Rattle.parts.specs.declared.Refusal.{Refusal}
use Rattle.parts.specs.declared.Refusal.TheVariants.{NoPart, WrongEnable, WrongBuffer, BadState, BadEvent, ShortBuffer, TooMany}
use Rattle.parts.specs.Verdict.{Verdict}
use Rattle.parts.specs.Table.{facts_of, id_size_of, buffers_right_of, enable_right_of}
use Rattle.parts.specs.Events.{event_right_of, loss_size_of}
use Rattle.parts.specs.Refusals.{rank_of, verdict_number_of, verdict_place_of, claim_of, sooner_of, lent_verdict_of, loss_verdict_of}
use Rattle.parts.proofs.Laws.{known, unknown, buffers_right_lem, buffers_wrong}
use Rattle.parts.proofs.Claims.{Later, later_claim, later_sooner, given_first, unclaimed, lent_unknown, lent_wrong}
use Rattle.state.specs.declared.Chip.{Chip}
use Rattle.state.specs.Range.{marks_right_of, pin_right_of, lock_right_of, phase_right_of, rest_right_of, in_range_of}
use Rattle.chip.specs.Memory.{Mem, mem, no_latch}
use Rattle.chip.specs.Delivery.{pin_at_first_of, standby_of}
use Rattle.chip.specs.Model.{PowerCut, old, ours_with}
use Rattle.chip.specs.Calls.{deliver_verdict_of, deliver_of, held_verdict_of, cut_verdict_of, step_verdict_of, step_by, step_of, scan_of, run_verdict_of, run_by, run_of}
use Rattle.chip.proofs.Laws.{fine_held, held_out, scan_later, step_behind, run_behind}
use Rattle.chip_promises.specs.Numbers.{Lent, PageLent, Named, Ready, ReadyWith, TakenTo, DeliverNumbers, StepNumbers, RunNumbers, OneChipNumber, step_number, run_verdict_by, run_number, eager, EagerBreaks}

-- ---- delivery: 1, 3

pub deliver_numbers : DeliverNumbers deliver_of
unfolding deliver_verdict_of lent_verdict_of sooner_of
deliver_numbers =
    record {
      no_part = λ part m h. ap verdict_number_of (lent_unknown (facts_of part) (length m.cells) (length m.ident) (unknown part h));
      wrong_buffer = λ part m k w.
          ap verdict_number_of (lent_wrong (facts_of part) (length m.cells) (length m.ident) (known part k) (buffers_wrong (facts_of part) (length m.cells) (length m.ident) w));
      none = λ part m k l. rw (buffers_right_lem (facts_of part) (length m.cells) (length m.ident) l.0 l.1, known part k) refl;
    }

-- ---- a chip with its buffers: 1 to 4

module _ (part en : ℕ) (c : Chip) (n d : ℕ) where
  abbrev enable : Verdict
  enable = claim_of (not (enable_right_of (facts_of part) en)) WrongEnable

  abbrev state : Verdict
  state = claim_of (not (in_range_of (facts_of part) c)) BadState

  -- what stands behind the part and its buffers
  behind : (r : Refusal) → rank_of r ≤ rank_of WrongEnable → Later (rank_of r) (sooner_of enable state)
  behind r h =
      later_sooner (rank_of r) enable state (later_claim (rank_of r) (not (enable_right_of (facts_of part) en)) WrongEnable h)
      (later_claim (rank_of r) (not (in_range_of (facts_of part) c)) BadState (omega arith))

  pub held_1 : 5 < part → held_verdict_of part en c n d ≡ Err NoPart
  unfolding held_verdict_of
  held_1 h =
      ap (λ (v : Verdict). sooner_of v (sooner_of enable state)) (lent_unknown (facts_of part) n d (unknown part h))
      ∙ given_first NoPart (sooner_of enable state) (behind NoPart (omega arith))

  -- 2 goes before 3
  before_3 : (b : Bool) → sooner_of (sooner_of (claim_of false NoPart) (claim_of (not b) WrongBuffer)) (Err WrongEnable) ≡ Err WrongEnable
  unfolding sooner_of
  before_3 true = refl
  before_3 false = refl

  pub held_2 : part ≤ 5 → (facts_of part).enables ≤ en → held_verdict_of part en c n d ≡ Err WrongEnable
  unfolding held_verdict_of lent_verdict_of enable_right_of
  held_2 k h =
      let e : ltb en (facts_of part).enables ≡ false = le-ltb en (facts_of part).enables h in
      let s : sooner_of enable state ≡ Err WrongEnable =
      ap (λ (b : Bool). sooner_of (claim_of (not b) WrongEnable) state) e
      ∙ given_first WrongEnable state (later_claim (rank_of WrongEnable) (not (in_range_of (facts_of part) c)) BadState (omega arith)) in
      ap (λ (v : Verdict). sooner_of (sooner_of (claim_of (not (facts_of part).known) NoPart) (claim_of (not (buffers_right_of (facts_of part) n d)) WrongBuffer)) v) s
      ∙ ap (λ (b : Bool). sooner_of (sooner_of (claim_of (not b) NoPart) (claim_of (not (buffers_right_of (facts_of part) n d)) WrongBuffer)) (Err WrongEnable)) (known part k)
      ∙ before_3 (buffers_right_of (facts_of part) n d)

  pub enabled : en < (facts_of part).enables → enable_right_of (facts_of part) en ≡ true
  unfolding enable_right_of
  enabled h = lt-ltb en (facts_of part).enables h

  pub held_3 : part ≤ 5 → en < (facts_of part).enables → ((n ≡ (facts_of part).size) × (d ≡ id_size_of (facts_of part)) → ⊥) → held_verdict_of part en c n d ≡ Err WrongBuffer
  unfolding held_verdict_of
  held_3 k e w =
      ap (λ (v : Verdict). sooner_of v (sooner_of enable state)) (lent_wrong (facts_of part) n d (known part k) (buffers_wrong (facts_of part) n d w))
      ∙ ap (λ (b : Bool). sooner_of (Err WrongBuffer) (sooner_of (claim_of (not b) WrongEnable) state)) (enabled e)
      ∙ last
    where
      last : sooner_of (Err WrongBuffer) (sooner_of (claim_of false WrongEnable) state) ≡ Err WrongBuffer
      last =
          given_first WrongBuffer (sooner_of (claim_of false WrongEnable) state)
          (later_sooner (rank_of WrongBuffer) (claim_of false WrongEnable) state tt (later_claim (rank_of WrongBuffer) (not (in_range_of (facts_of part) c)) BadState (omega arith)))

module _ (part en : ℕ) (c : Chip) (m : Mem) where
  abbrev held : Verdict
  held = held_verdict_of part en c (length m.cells) (length m.ident)

  pub held_4 : Named part en m → in_range_of (facts_of part) c ≡ false → held ≡ Err BadState
  held_4 a o =
      held_out part en c (length m.cells) (length m.ident) (known part a.known) (enabled part en c (length m.cells) (length m.ident) a.enabled)
      (buffers_right_lem (facts_of part) (length m.cells) (length m.ident) a.lent.0 a.lent.1) o

  pub held_0 : Ready part en c m → held ≡ Ok tt
  held_0 r =
      let a = r.named in
      fine_held part en c (length m.cells) (length m.ident)
      record {
        known = known part a.known;
        enabled = enabled part en c (length m.cells) (length m.ident) a.enabled;
        lent = buffers_right_lem (facts_of part) (length m.cells) (length m.ident) a.lent.0 a.lent.1;
        ranged = r.ranged;
      }

-- ---- with the page that is lent for a loss of power: 3 too

module _ (part en : ℕ) (w : PowerCut) (c : Chip) (n d : ℕ) where
  abbrev lost : Verdict
  lost = loss_verdict_of (facts_of part) w.loss (length w.page)

  -- 1 and 2 go before it
  cut_before : (r : Refusal) → rank_of r < rank_of WrongBuffer → held_verdict_of part en c n d ≡ Err r → cut_verdict_of part en w c n d ≡ Err r
  unfolding cut_verdict_of loss_verdict_of sooner_of
  cut_before r h e = ap (sooner_of lost) e ∙ go (eqb (length w.page) (loss_size_of (facts_of part) w.loss))
    where
      go : (b : Bool) → sooner_of (claim_of (not b) WrongBuffer) (Err r) ≡ Err r
      go true = refl
      go false = rw (lt-ltb (rank_of r) (rank_of WrongBuffer) h) refl

  cut_held : PageLent part w → cut_verdict_of part en w c n d ≡ held_verdict_of part en c n d
  unfolding cut_verdict_of loss_verdict_of sooner_of
  cut_held h = rw (eq-eqb (length w.page) (loss_size_of (facts_of part) w.loss) h) refl

  -- whatever else is wrong has at least its rank
  held_later : part ≤ 5 → en < (facts_of part).enables → Later (rank_of WrongBuffer) (held_verdict_of part en c n d)
  unfolding held_verdict_of lent_verdict_of
  held_later k e =
      let r = rank_of WrongBuffer in
      let lent = claim_of (not (buffers_right_of (facts_of part) n d)) WrongBuffer in
      later_sooner r (sooner_of (claim_of (not (facts_of part).known) NoPart) lent) (sooner_of (enable part en c n d) (state part en c n d))
      (later_sooner r (claim_of (not (facts_of part).known) NoPart) lent (unclaimed r (not (facts_of part).known) NoPart (ap not (known part k))) (later_claim r (not (buffers_right_of (facts_of part) n d)) WrongBuffer (omega arith)))
      (later_sooner r (enable part en c n d) (state part en c n d) (unclaimed r (not (enable_right_of (facts_of part) en)) WrongEnable (ap not (enabled part en c n d e)))
      (later_claim r (not (in_range_of (facts_of part) c)) BadState (omega arith)))

  cut_lost : part ≤ 5 → en < (facts_of part).enables → (PageLent part w → ⊥) → cut_verdict_of part en w c n d ≡ Err WrongBuffer
  unfolding cut_verdict_of loss_verdict_of
  cut_lost k e h =
      ap (λ (b : Bool). sooner_of (claim_of (not b) WrongBuffer) (held_verdict_of part en c n d)) (ne_eqb (length w.page) (loss_size_of (facts_of part) w.loss) h)
      ∙ given_first WrongBuffer (held_verdict_of part en c n d) (held_later k e)

  cut_1 : 5 < part → cut_verdict_of part en w c n d ≡ Err NoPart
  cut_1 h = cut_before NoPart (omega arith) (held_1 part en c n d h)

  cut_2 : part ≤ 5 → (facts_of part).enables ≤ en → cut_verdict_of part en w c n d ≡ Err WrongEnable
  cut_2 k h = cut_before WrongEnable (omega arith) (held_2 part en c n d k h)

  cut_3 : part ≤ 5 → en < (facts_of part).enables → ((n ≡ (facts_of part).size) × (d ≡ id_size_of (facts_of part)) × PageLent part w → ⊥) → cut_verdict_of part en w c n d ≡ Err WrongBuffer
  cut_3 k e h = go (ℕ_discrete (length w.page) (loss_size_of (facts_of part) w.loss))
    where
      go : Dec (PageLent part w) → cut_verdict_of part en w c n d ≡ Err WrongBuffer
      go (no l) = cut_lost k e l
      go (yes l) = cut_held l ∙ held_3 part en c n d k e (λ b. h (b.0, b.1, l))

module _ (part en : ℕ) (w : PowerCut) (c : Chip) (m : Mem) where
  abbrev cut : Verdict
  cut = cut_verdict_of part en w c (length m.cells) (length m.ident)

  cut_4 : Named part en m → PageLent part w → in_range_of (facts_of part) c ≡ false → cut ≡ Err BadState
  cut_4 a l o = cut_held part en w c (length m.cells) (length m.ident) l ∙ held_4 part en c m a o

  cut_0 : ReadyWith part en w c m → cut ≡ Ok tt
  cut_0 r = cut_held part en w c (length m.cells) (length m.ident) r.1 ∙ held_0 part en c m r.0

-- ---- one event

step_number_lem : (part en : ℕ) (w : PowerCut) (c : Chip) (m : Mem) (e : ℕ) (v : Verdict) → step_verdict_of part en w c (length m.cells) (length m.ident) e ≡ v
    → verdict_number_of (step_of part en w c m e).answer.verdict ≡ verdict_number_of v
step_number_lem part en w c m e v h = ap (λ (x : Verdict). verdict_number_of (step_by (ours_with w (facts_of part) en) c m e x).verdict) h ∙ by v
  where
    by : (x : Verdict) → verdict_number_of (step_by (ours_with w (facts_of part) en) c m e x).verdict ≡ verdict_number_of x
    by (Ok _) = refl
    by (Err r) = refl

module _ (part en : ℕ) (w : PowerCut) (c : Chip) (m : Mem) (e : ℕ) where
  step_cut : (r : Refusal) → rank_of r ≤ rank_of BadState → cut part en w c m ≡ Err r → verdict_number_of (step_of part en w c m e).answer.verdict ≡ verdict_number_of (Err r)
  unfolding step_verdict_of
  step_cut r low h =
      step_number_lem part en w c m e (Err r)
      (ap (λ (v : Verdict). sooner_of v (claim_of (not (event_right_of (facts_of part).pin e)) (BadEvent 0))) h ∙ step_behind r part e low)

  step_ready : (b : Bool) → ReadyWith part en w c m → event_right_of (facts_of part).pin e ≡ b → verdict_number_of (step_of part en w c m e).answer.verdict ≡ verdict_number_of (claim_of (not b) (BadEvent 0))
  unfolding step_verdict_of sooner_of
  step_ready b r h =
      step_number_lem part en w c m e (claim_of (not b) (BadEvent 0))
      (ap (λ (v : Verdict). sooner_of v (claim_of (not (event_right_of (facts_of part).pin e)) (BadEvent 0))) (cut_0 part en w c m r)
      ∙ ap (λ (x : Bool). claim_of (not x) (BadEvent 0)) h)

pub step_numbers : StepNumbers step_of
step_numbers part en w c m e =
    let n = length m.cells in
    let d = length m.ident in
    record {
      no_part = λ h. step_cut part en w c m e NoPart (omega arith) (cut_1 part en w c n d h);
      wrong_enable = λ k h. step_cut part en w c m e WrongEnable (omega arith) (cut_2 part en w c n d k h);
      wrong_buffer = λ k h l. step_cut part en w c m e WrongBuffer (omega arith) (cut_3 part en w c n d k h (λ b. l ((b.0, b.1), b.2)));
      bad_state = λ a l o. step_cut part en w c m e BadState (omega arith) (cut_4 part en w c m a l o);
      bad_event = λ r h. step_ready part en w c m e false r h;
      none = λ r h. step_ready part en w c m e true r h;
    }

-- ---- a list of events

scan_at : (pin : Bool) (s k : ℕ) (es : List ℕ) → k < length es → ((j : ℕ) → j < k → event_right_of pin (get_or es j 0) ≡ true) → event_right_of pin (get_or es k 0) ≡ false
    → scan_of pin s es ≡ Err (BadEvent (s + k))
scan_at pin s k [] h t b = absurd (omega arith)
scan_at pin s zero (e ∷ es) h t b = rw b (ap (λ (n : ℕ). Err (BadEvent n)) (omega arith))
scan_at pin s (suc k) (e ∷ es) h t b =
    rw (t 0 (omega arith)) (scan_at pin (suc s) k es (omega arith) (λ j i. t (suc j) (omega arith)) b ∙ ap (λ (n : ℕ). Err (BadEvent n)) (omega arith))

scan_clean : (pin : Bool) (s : ℕ) (es : List ℕ) → ((j : ℕ) → j < length es → event_right_of pin (get_or es j 0) ≡ true) → scan_of pin s es ≡ Ok tt
scan_clean pin s [] t = refl
scan_clean pin s (e ∷ es) t = rw (t 0 (omega arith)) (scan_clean pin (suc s) es (λ j i. t (suc j) (omega arith)))

run_verdict_lem : (part en : ℕ) (w : PowerCut) (c : Chip) (m : Mem) (es a : List ℕ) → (run_of part en w c m es a).answer.verdict ≡ run_verdict_of part en w c (length m.cells) (length m.ident) es (length a)
run_verdict_lem part en w c m es a = by (run_verdict_of part en w c (length m.cells) (length m.ident) es (length a))
  where
    by : (x : Verdict) → (run_by (ours_with w (facts_of part) en) c es x).verdict ≡ x
    by (Ok _) = refl
    by (Err r) = refl

module _ (part en : ℕ) (w : PowerCut) (c : Chip) (m : Mem) (es a : List ℕ) where
  abbrev scan : Verdict
  scan = scan_of (facts_of part).pin 0 es

  abbrev short : Verdict
  short = claim_of (ltb (length a) (length es)) ShortBuffer

  run_cut : (r : Refusal) → rank_of r ≤ rank_of BadState → cut part en w c m ≡ Err r → verdict_number_of (run_of part en w c m es a).answer.verdict ≡ verdict_number_of (Err r)
  unfolding run_verdict_of
  run_cut r low h =
      ap verdict_number_of
      (run_verdict_lem part en w c m es a
      ∙ (ap (λ (v : Verdict). sooner_of v (sooner_of (claim_of (ltb 32768 (length es)) TooMany) (sooner_of scan short))) h ∙ run_behind r part es (length a) low))

  -- 1 to 4 do not apply
  ready : ReadyWith part en w c m → (run_of part en w c m es a).answer.verdict ≡ sooner_of (claim_of (ltb 32768 (length es)) TooMany) (sooner_of scan short)
  unfolding run_verdict_of sooner_of
  ready r =
      run_verdict_lem part en w c m es a
      ∙ ap (λ (v : Verdict). sooner_of v (sooner_of (claim_of (ltb 32768 (length es)) TooMany) (sooner_of scan short))) (cut_0 part en w c m r)

  many : ReadyWith part en w c m → 32768 < length es → (run_of part en w c m es a).answer.verdict ≡ Err TooMany
  many r h =
      ready r
      ∙ ap (λ (b : Bool). sooner_of (claim_of b TooMany) (sooner_of scan short)) (lt-ltb 32768 (length es) h)
      ∙ given_first TooMany (sooner_of scan short)
      (later_sooner (rank_of TooMany) scan short (scan_later (rank_of TooMany) (facts_of part).pin 0 es (omega arith)) (later_claim (rank_of TooMany) (ltb (length a) (length es)) ShortBuffer (omega arith)))

  -- nor does 13
  few : ReadyWith part en w c m → length es ≤ 32768 → (run_of part en w c m es a).answer.verdict ≡ sooner_of scan short
  unfolding sooner_of
  few r h = ready r ∙ ap (λ (b : Bool). sooner_of (claim_of b TooMany) (sooner_of scan short)) (le-ltb 32768 (length es) h)

  bad : (k : ℕ) → ReadyWith part en w c m → length es ≤ 32768 → k < length es → TakenTo part k es → event_right_of (facts_of part).pin (get_or es k 0) ≡ false
      → (run_of part en w c m es a).answer.verdict ≡ Err (BadEvent k)
  bad k r h i t b =
      few r h
      ∙ ap (λ (v : Verdict). sooner_of v short) (scan_at (facts_of part).pin 0 k es i t b ∙ ap (λ (n : ℕ). Err (BadEvent n)) (omega arith))
      ∙ given_first (BadEvent k) short (later_claim (rank_of (BadEvent k)) (ltb (length a) (length es)) ShortBuffer (omega arith))

  room : (b : Bool) → ReadyWith part en w c m → length es ≤ 32768 → TakenTo part (length es) es → ltb (length a) (length es) ≡ b
      → (run_of part en w c m es a).answer.verdict ≡ claim_of b ShortBuffer
  unfolding sooner_of
  room b r h t e =
      few r h ∙ ap (λ (v : Verdict). sooner_of v short) (scan_clean (facts_of part).pin 0 es t) ∙ ap (λ (x : Bool). claim_of x ShortBuffer) e

pub run_numbers : RunNumbers run_of
run_numbers part en w c m es a =
    let n = length m.cells in
    let d = length m.ident in
    record {
      no_part = λ h. run_cut part en w c m es a NoPart (omega arith) (cut_1 part en w c n d h);
      wrong_enable = λ k h. run_cut part en w c m es a WrongEnable (omega arith) (cut_2 part en w c n d k h);
      wrong_buffer = λ k h l. run_cut part en w c m es a WrongBuffer (omega arith) (cut_3 part en w c n d k h (λ b. l ((b.0, b.1), b.2)));
      bad_state = λ q l o. run_cut part en w c m es a BadState (omega arith) (cut_4 part en w c m q l o);
      too_many = λ r h. ap verdict_number_of (many part en w c m es a r h);
      bad_event = λ k r h i t b. (ap verdict_number_of (bad part en w c m es a k r h i t b), ap verdict_place_of (bad part en w c m es a k r h i t b));
      short_buffer = λ r h t s. ap verdict_number_of (room part en w c m es a true r h t (lt-ltb (length a) (length es) s));
      none = λ r h t s. ap verdict_number_of (room part en w c m es a false r h t (le-ltb (length a) (length es) s));
    }

-- ---- 5 before 13

abbrev mem₀ : Mem
mem₀ = mem (replicate 2048 255) (replicate 16 255)

abbrev chip₀ : Chip
chip₀ = standby_of (facts_of 0) false

-- one event too many, and none that the part takes
abbrev events : List ℕ
events = replicate 32769 9

ready₀ : ReadyWith 0 0 old chip₀ mem₀
unfolding facts_of id_size_of marks_right_of pin_right_of lock_right_of phase_right_of rest_right_of in_range_of standby_of pin_at_first_of no_latch
ready₀ = (record { named = record { known = omega arith; enabled = omega arith; lent = (refl, refl) }; ranged = refl }, refl)

eager_5 : verdict_number_of (eager 0 0 old chip₀ mem₀ events []).answer.verdict ≡ 5
unfolding cut_verdict_of held_verdict_of sooner_of loss_verdict_of lent_verdict_of facts_of id_size_of enable_right_of event_right_of buffers_right_of marks_right_of pin_right_of lock_right_of phase_right_of rest_right_of in_range_of standby_of pin_at_first_of no_latch
eager_5 = refl

pub eager_breaks : EagerBreaks
eager_breaks p =
    let q = (p 0 0 old chip₀ mem₀ events []).too_many ready₀ (omega (arith, length-replicate {A = ℕ} 32769 9)) in
    let z : ◌≡◌ {A = ℕ} 5 13 = sym eager_5 ∙ q in
    omega arith

-- ---- one of the conditions holds of every call

-- a part and its enable, the lent buffers, the state: what is said of the last is said of all
module _ {G : Type 0} (part en : ℕ) (c : Chip) (m : Mem) where
  lent_or_not : (Lent part m → G) → ((Lent part m → ⊥) → G) → G
  lent_or_not f g = go (ℕ_discrete (length m.cells) (facts_of part).size) (ℕ_discrete (length m.ident) (id_size_of (facts_of part)))
    where
      go : Dec (length m.cells ≡ (facts_of part).size) → Dec (length m.ident ≡ id_size_of (facts_of part)) → G
      go (yes x) (yes y) = f (x, y)
      go (yes x) (no y) = g (λ z. y z.1)
      go (no x) y = g (λ z. x z.0)

  part_or_not : (5 < part → G) → (part ≤ 5 → G) → G
  part_or_not f g = go (dec_lt 5 part)
    where
      go : Dec (5 < part) → G
      go (yes h) = f h
      go (no h) = g (omega (arith, h))

  pub held_or_not : (5 < part → G) → (part ≤ 5 → (facts_of part).enables ≤ en → G) → (part ≤ 5 → en < (facts_of part).enables → (Lent part m → ⊥) → G)
      → (Named part en m → in_range_of (facts_of part) c ≡ false → G) → (Ready part en c m → G) → G
  held_or_not f1 f2 f3 f4 f0 = part_or_not f1 (λ k. enables k (dec_lt en (facts_of part).enables))
    where
      state : Named part en m → (b : Bool) → in_range_of (facts_of part) c ≡ b → G
      state n false h = f4 n h
      state n true h = f0 record { named = n; ranged = h }

      enables : part ≤ 5 → Dec (en < (facts_of part).enables) → G
      enables k (yes h) =
          lent_or_not (λ l. state record { known = k; enabled = h; lent = l } (in_range_of (facts_of part) c) refl) (λ w. f3 k h w)
      enables k (no h) = f2 k (omega (arith, h))

-- the same with the page that is lent for a loss of power
cut_or_not : {G : Type 0} (part en : ℕ) (w : PowerCut) (c : Chip) (m : Mem) → (5 < part → G) → (part ≤ 5 → (facts_of part).enables ≤ en → G)
    → (part ≤ 5 → en < (facts_of part).enables → (Lent part m × PageLent part w → ⊥) → G)
    → (Named part en m → PageLent part w → in_range_of (facts_of part) c ≡ false → G) → (ReadyWith part en w c m → G) → G
cut_or_not {G} part en w c m f1 f2 f3 f4 f0 = go (ℕ_discrete (length w.page) (loss_size_of (facts_of part) w.loss))
  where
    go : Dec (PageLent part w) → G
    go (yes l) = held_or_not part en c m f1 f2 (λ k h b. f3 k h (λ z. b z.0)) (λ n h. f4 n l h) (λ r. f0 (r, l))
    go (no l) =
        held_or_not part en c m f1 f2 (λ k h b. f3 k h (λ z. l z.1))
        (λ n h. f3 n.known n.enabled (λ z. l z.1)) (λ r. f3 r.named.known r.named.enabled (λ z. l z.1))

-- the first event below n that the part does not take, or none
first_wrong : {G : Type 0} (part : ℕ) (es : List ℕ) (n : ℕ) → (TakenTo part n es → G)
    → ((k : ℕ) → k < n → TakenTo part k es → event_right_of (facts_of part).pin (get_or es k 0) ≡ false → G) → G
first_wrong part es zero f g = f (λ j h. absurd (omega (arith, h)))
first_wrong {G} part es (suc n) f g = first_wrong part es n (λ t. go t (event_right_of (facts_of part).pin (get_or es n 0)) refl) (λ k h t e. g k (omega (arith, h)) t e)
  where
    further : TakenTo part n es → event_right_of (facts_of part).pin (get_or es n 0) ≡ true → TakenTo part (suc n) es
    further t e j h = at (ℕ_discrete j n)
      where
        at : Dec (j ≡ n) → event_right_of (facts_of part).pin (get_or es j 0) ≡ true
        at (yes i) = ap (λ (x : ℕ). event_right_of (facts_of part).pin (get_or es x 0)) i ∙ e
        at (no i) = t j (omega (arith, h, i))

    go : TakenTo part n es → (b : Bool) → event_right_of (facts_of part).pin (get_or es n 0) ≡ b → G
    go t true e = f (further t e)
    go t false e = g n (omega arith) t e

one_deliver : (D E : Deliver) → DeliverNumbers D → DeliverNumbers E
    → (part : ℕ) (m : Mem) → verdict_number_of (D part m).answer.verdict ≡ verdict_number_of (E part m).answer.verdict
one_deliver D E p q part m =
    part_or_not part 0 chip₀ m (λ h. p.no_part part m h ∙ sym (q.no_part part m h))
    (λ k. lent_or_not part 0 chip₀ m (λ l. p.none part m k l ∙ sym (q.none part m k l)) (λ w. p.wrong_buffer part m k w ∙ sym (q.wrong_buffer part m k w)))

one_step : (S T : Step) → StepNumbers S → StepNumbers T
    → (part en : ℕ) (w : PowerCut) (c : Chip) (m : Mem) (e : ℕ) → step_number S part en w c m e ≡ step_number T part en w c m e
one_step S T p q part en w c m e =
    let a = p part en w c m e in
    let b = q part en w c m e in
    cut_or_not part en w c m (λ h. a.no_part h ∙ sym (b.no_part h)) (λ k h. a.wrong_enable k h ∙ sym (b.wrong_enable k h))
    (λ k h l. a.wrong_buffer k h l ∙ sym (b.wrong_buffer k h l)) (λ n l h. a.bad_state n l h ∙ sym (b.bad_state n l h))
    (λ r. go r (event_right_of (facts_of part).pin e) refl)
  where
    go : ReadyWith part en w c m → (x : Bool) → event_right_of (facts_of part).pin e ≡ x → step_number S part en w c m e ≡ step_number T part en w c m e
    go r true h = (p part en w c m e).none r h ∙ sym ((q part en w c m e).none r h)
    go r false h = (p part en w c m e).bad_event r h ∙ sym ((q part en w c m e).bad_event r h)

module _ (R Q : Run) (p : RunNumbers R) (q : RunNumbers Q) (part en : ℕ) (w : PowerCut) (c : Chip) (m : Mem) (es a : List ℕ) where
  abbrev Same : Type 0
  Same =
      (run_number R part en w c m es a ≡ run_number Q part en w c m es a)
      × (run_number R part en w c m es a ≡ 5 → verdict_place_of (run_verdict_by R part en w c m es a) ≡ verdict_place_of (run_verdict_by Q part en w c m es a))

  -- another number than 5
  not_5 : (k : ℕ) → (k ≡ 5 → ⊥) → run_number R part en w c m es a ≡ k → run_number Q part en w c m es a ≡ k → Same
  not_5 k n x y = (x ∙ sym y, λ z. absurd (n (sym x ∙ z)))

  same_room : ReadyWith part en w c m → length es ≤ 32768 → TakenTo part (length es) es → Dec (length a < length es) → Same
  same_room r l t (yes h) = not_5 6 (λ e. omega (arith, e)) ((p part en w c m es a).short_buffer r l t h) ((q part en w c m es a).short_buffer r l t h)
  same_room r l t (no h) =
      not_5 0 (λ e. omega (arith, e)) ((p part en w c m es a).none r l t (omega (arith, h))) ((q part en w c m es a).none r l t (omega (arith, h)))

  same_events : ReadyWith part en w c m → Dec (32768 < length es) → Same
  same_events r (yes h) = not_5 13 (λ e. omega (arith, e)) ((p part en w c m es a).too_many r h) ((q part en w c m es a).too_many r h)
  same_events r (no h) =
      let l : length es ≤ 32768 = omega (arith, h) in
      first_wrong part es (length es) (λ t. same_room r l t (dec_lt (length a) (length es)))
      (λ k i t e.
      let x = (p part en w c m es a).bad_event k r l i t e in
      let y = (q part en w c m es a).bad_event k r l i t e in
      (x.0 ∙ sym y.0, λ _. x.1 ∙ sym y.1))

  one_run : Same
  one_run =
      let x = p part en w c m es a in
      let y = q part en w c m es a in
      cut_or_not part en w c m (λ h. not_5 1 (λ e. omega (arith, e)) (x.no_part h) (y.no_part h))
      (λ k h. not_5 2 (λ e. omega (arith, e)) (x.wrong_enable k h) (y.wrong_enable k h))
      (λ k h l. not_5 3 (λ e. omega (arith, e)) (x.wrong_buffer k h l) (y.wrong_buffer k h l))
      (λ n l h. not_5 4 (λ e. omega (arith, e)) (x.bad_state n l h) (y.bad_state n l h)) (λ r. same_events r (dec_lt 32768 (length es)))

pub one_chip_number : OneChipNumber
one_chip_number = record { deliver = one_deliver; step = one_step; run = one_run }
