-- `stepping`, `running` and `delivering` keep what is promised of them.
-- Assumes nothing.
use Rattle.std.specs.Prelude.{Ok, Err, None}
use Prim.Native.Nat.{ℕ, zero, suc, ◌+◌}
use mathlib.Core.Path.{◌≡◌, refl, ap}
use mathlib.Core.Bool.{Bool, true, false, not}
use mathlib.Core.List.{List, [], ◌∷◌}
use lib.ListN.{length}
use lib.Dec.{eqb, ltb}
use native.Mathlib.Omega.{arith}
use borrow.Author.Tests.{eq-eqb, ne_eqb, eqb-true}
use Rattle.parts.specs.declared.Facts.{Facts}
use Rattle.parts.specs.declared.Refusal.{Refusal}
use Rattle.parts.specs.declared.Refusal.TheVariants.{NoPart, WrongEnable, WrongBuffer, BadState, BadEvent, ShortBuffer, TooMany}
use Rattle.parts.specs.Verdict.{Verdict}
use Rattle.parts.specs.Table.{facts_of, id_size_of, enable_right_of, buffers_right_of}
use Rattle.parts.specs.Events.{event_right_of, loss_size_of}
use Rattle.parts.specs.Refusals.{number_of, rank_of, spot_of, place_told, verdict_number_of, verdict_place_of, claim_of, sooner_of, lent_verdict_of, loss_verdict_of}
use Rattle.parts.proofs.Laws.{branch, fine, buffers_right_lem}
use Rattle.parts.proofs.Claims.{Later, later_claim, later_sooner, given_first}
use Rattle.state.specs.declared.Chip.{Chip}
use Rattle.state.specs.Range.{in_range_of}
use Rattle.chip.specs.Model.{Model, PowerCut, ours_with}
use Rattle.chip.specs.Memory.{Mem}
use Rattle.chip.specs.Delivery.{standby_of}
use Rattle.chip.specs.Calls.{held_verdict_of, cut_verdict_of, scan_of, step_verdict_of, step_verdict, step_by, step_mem, run_verdict_of, run_verdict, run_by, run_mem, run_answers}
use Rattle.chip.proofs.Laws.{held_out, step_behind, run_behind}
use Rattle.pack_chip.specs.Layout.{chip_length, packed_chip_of, pack_chip_into, holds_chip_of, unpacked_chip_of}
use Rattle.pack_chip.specs.Promises.{ChipFits}
use Rattle.pack_chip.proofs.Laws.{holds_long}
use Rattle.pack_chip.proofs.Kept.{chip_packs_back, chip_refuses_others}
use Rattle.sapwoodle.specs.Answers.{chip_bytes_after}
use Rattle.sapwoodle.specs.Chips.{loss_from, cut_from, deliver_verdict_in, stepping, running, delivering}
use Rattle.sapwoodle.proofs.chips.Laws.{delivers_nothing}
use Rattle.sapwoodle.specs.Promises.{StepKeeps, RunKeeps, DeliverKeeps, StepIsChips, RunIsChips, DeliverHolds, StepOld, RunOld, StepRefuses3, RunRefuses3, StepRefuses4, RunRefuses4}
use Rattle.sapwoodle.proofs.answers.Laws.{sooner_one, unheld_refused, standby_fits}

-- ---- a refused call changes nothing

step_keeps_by : (M : Model) (c : Chip) (s : List ℕ) (m : Mem) (e : ℕ) (v : Verdict) → (verdict_number_of (step_by M c m e v).verdict ≡ 0 → ⊥)
    → (chip_bytes_after (step_by M c m e v).verdict (step_by M c m e v).chip s ≡ s) × (step_mem M c m e v ≡ m)
    × ((step_by M c m e v).level ≡ 2) × ((step_by M c m e v).cycles ≡ 0)
step_keeps_by M c s m e (Ok _) h = absurd (h refl)
step_keeps_by M c s m e (Err r) h = (refl, refl, refl, refl)

pub step_keeps : StepKeeps stepping
step_keeps part enable page lock s m e h =
    let w = cut_from page lock in
    step_keeps_by (ours_with w (facts_of part) enable) (unpacked_chip_of s) s m e (step_verdict part enable w (unpacked_chip_of s) m e) h

-- of what a run can refuse, only 5 has a place
abbrev Placeless : Verdict → Type 0
Placeless v = (verdict_number_of v ≡ number_of (BadEvent 0) → ⊥) → verdict_place_of v ≡ 0

claim_placeless : (wrong : Bool) (r : Refusal) → spot_of r ≡ None → Placeless (claim_of wrong r)
claim_placeless true r h k = ap place_told h
claim_placeless false r h k = refl

scan_placeless : (pin : Bool) (k : ℕ) (es : List ℕ) → Placeless (scan_of pin k es)
scan_placeless pin k [] = λ h. refl
scan_placeless pin k (e ∷ es) =
    branch Placeless (event_right_of pin e) (λ _. scan_placeless pin (suc k) es) (λ _ h. absurd (h refl))

run_placeless : (part enable : ℕ) (w : PowerCut) (c : Chip) (n d : ℕ) (es : List ℕ) (room : ℕ) → Placeless (run_verdict_of part enable w c n d es room)
unfolding run_verdict_of cut_verdict_of loss_verdict_of held_verdict_of lent_verdict_of
run_placeless part enable w c n d es room =
    sooner_one Placeless _ _
    (sooner_one Placeless _ _ (claim_placeless (not (eqb (length w.page) (loss_size_of (facts_of part) w.loss))) WrongBuffer refl)
    (sooner_one Placeless _ _
    (sooner_one Placeless _ _ (claim_placeless (not (facts_of part).known) NoPart refl) (claim_placeless (not (buffers_right_of (facts_of part) n d)) WrongBuffer refl))
    (sooner_one Placeless _ _ (claim_placeless (not (enable_right_of (facts_of part) enable)) WrongEnable refl) (claim_placeless (not (in_range_of (facts_of part) c)) BadState refl))))
    (sooner_one Placeless _ _ (claim_placeless (ltb 32768 (length es)) TooMany refl)
    (sooner_one Placeless _ _ (scan_placeless (facts_of part).pin 0 es) (claim_placeless (ltb room (length es)) ShortBuffer refl)))

run_keeps_by : (M : Model) (c : Chip) (s : List ℕ) (m : Mem) (es a : List ℕ) (v : Verdict) → Placeless v → (verdict_number_of (run_by M c es v).verdict ≡ 0 → ⊥)
    → (chip_bytes_after (run_by M c es v).verdict (run_by M c es v).chip s ≡ s) × (run_mem M c m es v ≡ m) × (run_answers M c m es a v ≡ a)
    × ((run_by M c es v).cycles ≡ 0)
    × ((verdict_number_of (run_by M c es v).verdict ≡ number_of (BadEvent 0) → ⊥) → verdict_place_of (run_by M c es v).verdict ≡ 0)
run_keeps_by M c s m es a (Ok _) p h = absurd (h refl)
run_keeps_by M c s m es a (Err r) p h = (refl, refl, refl, refl, p)

pub run_keeps : RunKeeps running
run_keeps part enable page lock s m es a h =
    let w = cut_from page lock in
    let c = unpacked_chip_of s in
    run_keeps_by (ours_with w (facts_of part) enable) c s m es a (run_verdict part enable w c m es a)
    (run_placeless part enable w c (length m.cells) (length m.ident) es (length a)) h

pub deliver_keeps : DeliverKeeps delivering
deliver_keeps part s m h = delivers_nothing part _ s m (deliver_verdict_in part s m) (λ e. h (rw e refl))

-- ---- on the bytes of a state

-- packed over a state's bytes
pub over : (c n : Chip) → ChipFits c → pack_chip_into (packed_chip_of c) n ≡ packed_chip_of n
unfolding pack_chip_into
over c n f = rw (eq-eqb (length (packed_chip_of c)) chip_length (holds_long (packed_chip_of c) (chip_packs_back c f).1)) refl

step_state : (M : Model) (c : Chip) (m : Mem) (e : ℕ) (v : Verdict) → ChipFits c
    → chip_bytes_after (step_by M c m e v).verdict (step_by M c m e v).chip (packed_chip_of c) ≡ packed_chip_of (step_by M c m e v).chip
step_state M c m e (Ok _) f = over c (step_by M c m e (Ok tt)).chip f
step_state M c m e (Err r) f = refl

pub step_is_chips : StepIsChips stepping
step_is_chips part enable page lock c m e f =
    let w = cut_from page lock in
    rw ((chip_packs_back c f).2, step_state (ours_with w (facts_of part) enable) c m e (step_verdict part enable w c m e) f) refl

run_state : (M : Model) (c : Chip) (m : Mem) (es : List ℕ) (v : Verdict) → ChipFits c
    → chip_bytes_after (run_by M c es v).verdict (run_by M c es v).chip (packed_chip_of c) ≡ packed_chip_of (run_by M c es v).chip
run_state M c m es (Ok _) f = over c (run_by M c es (Ok tt)).chip f
run_state M c m es (Err r) f = refl

pub run_is_chips : RunIsChips running
run_is_chips part enable page lock c m es a f =
    let w = cut_from page lock in
    rw ((chip_packs_back c f).2, run_state (ours_with w (facts_of part) enable) c m es (run_verdict part enable w c m es a) f) refl

deliver_long : (part : ℕ) (s : List ℕ) (m : Mem) → deliver_verdict_in part s m ≡ Ok tt → length s ≡ chip_length
unfolding deliver_verdict_in
deliver_long part s m =
    branch (λ (v : Verdict). v ≡ Ok tt → length s ≡ chip_length) (eqb (length s) chip_length)
    (λ e _. eqb-true (length s) chip_length e)
    (λ _ h. absurd (unheld_refused part 0 m h))

pub deliver_holds : DeliverHolds delivering
unfolding pack_chip_into
deliver_holds part s m h =
    let v = fine (deliver_verdict_in part s m) h in
    let b = chip_packs_back (standby_of (facts_of part) false) (standby_fits (facts_of part) false) in
    rw (v, eq-eqb (length s) chip_length (deliver_long part s m v)) (b.1, b.2)

-- ---- bytes that hold no state

module _ (part enable : ℕ) (s : List ℕ) (m : Mem) (k : (facts_of part).known ≡ true) (n : enable_right_of (facts_of part) enable ≡ true)
    (a : length m.cells ≡ (facts_of part).size) (d : length m.ident ≡ id_size_of (facts_of part)) (h : holds_chip_of s ≡ false) where
  pub out : held_verdict_of part enable (unpacked_chip_of s) (length m.cells) (length m.ident) ≡ Err BadState
  out = held_out part enable (unpacked_chip_of s) (length m.cells) (length m.ident) k n (buffers_right_lem (facts_of part) (length m.cells) (length m.ident) a d) (chip_refuses_others s h part)

  -- the page for a loss of power is right too
  module _ (w : PowerCut) (p : length w.page ≡ loss_size_of (facts_of part) w.loss) where
    cut_out : cut_verdict_of part enable w (unpacked_chip_of s) (length m.cells) (length m.ident) ≡ Err BadState
    unfolding cut_verdict_of loss_verdict_of sooner_of
    cut_out = rw (eq-eqb _ _ p, out) refl

    step_4 : (e : ℕ) → step_verdict part enable w (unpacked_chip_of s) m e ≡ Err BadState
    unfolding step_verdict_of
    step_4 e = rw cut_out (step_behind BadState part e (omega arith))

    run_4 : (es b : List ℕ) → run_verdict part enable w (unpacked_chip_of s) m es b ≡ Err BadState
    unfolding run_verdict_of
    run_4 es b = rw cut_out (run_behind BadState part es (length b) (omega arith))

pub step_refuses_4 : StepRefuses4 stepping
step_refuses_4 part enable page lock s m e k n a d p h =
    let w = cut_from page lock in
    ap (λ (v : Verdict). verdict_number_of (step_by (ours_with w (facts_of part) enable) (unpacked_chip_of s) m e v).verdict) (step_4 part enable s m k n a d h w p e)

pub run_refuses_4 : RunRefuses4 running
run_refuses_4 part enable page lock s m es b k n a d p h =
    let w = cut_from page lock in
    ap (λ (v : Verdict). verdict_number_of (run_by (ours_with w (facts_of part) enable) (unpacked_chip_of s) es v).verdict) (run_4 part enable s m k n a d h w p es b)

-- ---- what is given for a loss of power

pub step_old : StepOld stepping
unfolding loss_from
step_old part enable c m e f = step_is_chips part enable [] 0 c m e f

pub run_old : RunOld running
unfolding loss_from
run_old part enable c m es a f = run_is_chips part enable [] 0 c m es a f

-- with a page or a flag P bytes are wanted
lent_size : (f : Facts) (n lock : ℕ) → (n + lock ≡ 0 → ⊥) → loss_size_of f (loss_from n lock) ≡ f.page
unfolding loss_from
lent_size f n zero h = rw (ne_eqb n 0 (λ e. h (omega (arith, e)))) refl
lent_size f n (suc l) h = rw (ne_eqb (suc l) 0 (λ e. omega (arith, e))) refl

loss_wrong : (f : Facts) (n lock : ℕ) → (n + lock ≡ 0 → ⊥) → (n ≡ f.page → ⊥) → loss_verdict_of f (loss_from n lock) n ≡ Err WrongBuffer
unfolding loss_verdict_of
loss_wrong f n lock h k = rw (lent_size f n lock h, ne_eqb n f.page k) refl

-- what is right claims nothing
later_right : (k : ℕ) (b : Bool) (x : Refusal) → b ≡ true → Later k (claim_of (not b) x)
later_right k b x e = rw e tt

module _ (part enable : ℕ) (page : List ℕ) (lock : ℕ) (k : (facts_of part).known ≡ true) (n : enable_right_of (facts_of part) enable ≡ true)
    (h : length page + lock ≡ 0 → ⊥) (p : length page ≡ (facts_of part).page → ⊥) where
  held_3 : (c : Chip) (a d : ℕ) → Later (rank_of WrongBuffer) (held_verdict_of part enable c a d)
  unfolding held_verdict_of lent_verdict_of
  held_3 c a d =
      let r = rank_of WrongBuffer in
      later_sooner r _ _
      (later_sooner r _ _ (later_right r (facts_of part).known NoPart k) (later_claim r (not (buffers_right_of (facts_of part) a d)) WrongBuffer (omega arith)))
      (later_sooner r _ _ (later_right r (enable_right_of (facts_of part) enable) WrongEnable n) (later_claim r (not (in_range_of (facts_of part) c)) BadState (omega arith)))

  cut_3 : (c : Chip) (a d : ℕ) → cut_verdict_of part enable (cut_from page lock) c a d ≡ Err WrongBuffer
  unfolding cut_verdict_of
  cut_3 c a d = rw (loss_wrong (facts_of part) (length page) lock h p) (given_first WrongBuffer (held_verdict_of part enable c a d) (held_3 c a d))

  step_3 : (c : Chip) (m : Mem) (e : ℕ) → step_verdict part enable (cut_from page lock) c m e ≡ Err WrongBuffer
  unfolding step_verdict_of
  step_3 c m e = rw (cut_3 c (length m.cells) (length m.ident)) (step_behind WrongBuffer part e (omega arith))

  run_3 : (c : Chip) (m : Mem) (es b : List ℕ) → run_verdict part enable (cut_from page lock) c m es b ≡ Err WrongBuffer
  unfolding run_verdict_of
  run_3 c m es b = rw (cut_3 c (length m.cells) (length m.ident)) (run_behind WrongBuffer part es (length b) (omega arith))

pub step_refuses_3 : StepRefuses3 stepping
step_refuses_3 part enable page lock s m e k n h p =
    let M = ours_with (cut_from page lock) (facts_of part) enable in
    ap (λ (v : Verdict). verdict_number_of (step_by M (unpacked_chip_of s) m e v).verdict) (step_3 part enable page lock k n h p (unpacked_chip_of s) m e)

pub run_refuses_3 : RunRefuses3 running
run_refuses_3 part enable page lock s m es b k n h p =
    let M = ours_with (cut_from page lock) (facts_of part) enable in
    ap (λ (v : Verdict). verdict_number_of (run_by M (unpacked_chip_of s) es v).verdict) (run_3 part enable page lock k n h p (unpacked_chip_of s) m es b)
