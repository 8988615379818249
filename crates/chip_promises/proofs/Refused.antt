-- Promise 5 is kept, and a chip that refusal 4 refuses is refused by every call of a series.
-- Assumes nothing.
use Rattle.std.specs.Prelude.{Ok, Err}
use mathlib.Core.Path.{◌≡◌, refl, sym, ap, ◌∙◌}
use Prim.Native.Nat.{ℕ}
use native.Mathlib.Nat.{add-zero}
use native.Mathlib.Omega.{arith}
use mathlib.Core.Bool.{Bool, true, false, not}
use mathlib.Core.List.{List, [], ◌∷◌}
use lib.ListN.{length}
use lib.Dec.{ltb}
use Rattle.parts.specs.declared.Refusal.{Refusal}
use Rattle.parts.specs.Verdict.{Verdict}
use Rattle.parts.specs.declared.Refusal.TheVariants.{BadEvent, ShortBuffer, TooMany}
use Rattle.parts.specs.Table.{facts_of}
use Rattle.parts.specs.Events.{event_right_of}
use Rattle.parts.specs.Refusals.{claim_of, sooner_of}
use Rattle.parts.proofs.Claims.{sooner_fine}
use Rattle.chip.proofs.Laws.{cut_fine}
use Rattle.state.specs.declared.Chip.{Chip}
use Rattle.state.specs.Range.{in_range_of}
use Rattle.chip.specs.Memory.{Mem}
use Rattle.chip.specs.Model.{Model, PowerCut, ours_with}
use Rattle.chip.specs.Calls.{scan_of, cut_verdict_of, deliver_verdict_of, step_verdict_of, run_verdict_of, deliver_left_of, deliver_of, step_left_of, step_verdict, step_of, run_left_of, run_verdict, run_of}
use Rattle.chip_promises.specs.Calls.{Call, one, many, Ending, after_step, after_run, call_by, calls_by}
use Rattle.chip_promises.specs.Refused.{DeliverRefusedChangesNothing, StepRefusedChangesNothing, RunRefusedChangesNothing, RefusedChangesNothing}

deliver_left : (part : ℕ) (m : Mem) (v : Verdict) (r : Refusal) → (deliver_left_of part m v).answer.verdict ≡ Err r → (deliver_left_of part m v).mem ≡ m
deliver_left part m (Ok _) r e = cc
deliver_left part m (Err q) r e = refl

step_left : (M : Model) (c : Chip) (m : Mem) (code : ℕ) (v : Verdict) (r : Refusal) → (step_left_of M c m code v).answer.verdict ≡ Err r
    → ((step_left_of M c m code v).mem ≡ m)
    × ((step_left_of M c m code v).answer.chip ≡ c)
    × ((step_left_of M c m code v).answer.cycles ≡ 0)
    × ((step_left_of M c m code v).answer.level ≡ 2)
step_left M c m code (Ok _) r e = (cc, cc, cc, cc)
step_left M c m code (Err q) r e = (refl, refl, refl, refl)

run_left : (M : Model) (c : Chip) (m : Mem) (es a : List ℕ) (v : Verdict) (r : Refusal) → (run_left_of M c m es a v).answer.verdict ≡ Err r
    → ((run_left_of M c m es a v).mem ≡ m)
    × ((run_left_of M c m es a v).answer.chip ≡ c)
    × ((run_left_of M c m es a v).answer.cycles ≡ 0)
    × ((run_left_of M c m es a v).answers ≡ a)
run_left M c m es a (Ok _) r e = (cc, cc, cc, cc)
run_left M c m es a (Err q) r e = (refl, refl, refl, refl)

deliver_refused : DeliverRefusedChangesNothing deliver_of
deliver_refused part m r e = deliver_left part m (deliver_verdict_of part (length m.cells) (length m.ident)) r e

step_refused : StepRefusedChangesNothing step_of
step_refused part en w c m code r e = step_left (ours_with w (facts_of part) en) c m code (step_verdict part en w c m code) r e

run_refused : RunRefusedChangesNothing run_of
run_refused part en w c m es a r e = run_left (ours_with w (facts_of part) en) c m es a (run_verdict part en w c m es a) r e

pub refused_changes_nothing : RefusedChangesNothing deliver_of step_of run_of
refused_changes_nothing = record { deliver = deliver_refused; step = step_refused; run = run_refused }

-- ---- a chip out of range: 1, 2 and 3 go before 4, and one of them is given

abbrev IsRefused : Verdict → Type 0
IsRefused (Ok _) = ⊥
IsRefused (Err r) = Unit {0}

not_fine : (v : Verdict) → (v ≡ Ok tt → ⊥) → IsRefused v
not_fine (Ok _) h = h refl
not_fine (Err r) h = tt

cut_out : (part en : ℕ) (w : PowerCut) (c : Chip) (n d : ℕ) → in_range_of (facts_of part) c ≡ false → cut_verdict_of part en w c n d ≡ Ok tt → ⊥
cut_out part en w c n d e h =
    let y : ◌≡◌ {A = Bool} true false = sym (cut_fine part en w c n d h).1.ranged ∙ e in
    let z : ◌≡◌ {A = ℕ} 0 1 = cc in
    omega arith

run_out : (part en : ℕ) (w : PowerCut) (c : Chip) (n d : ℕ) (es : List ℕ) (room : ℕ) → in_range_of (facts_of part) c ≡ false → IsRefused (run_verdict_of part en w c n d es room)
unfolding run_verdict_of
run_out part en w c n d es room e =
    let rest = sooner_of (claim_of (ltb 32768 (length es)) TooMany) (sooner_of (scan_of (facts_of part).pin 0 es) (claim_of (ltb room (length es)) ShortBuffer)) in
    not_fine (sooner_of (cut_verdict_of part en w c n d) rest) (λ h. cut_out part en w c n d e (sooner_fine (cut_verdict_of part en w c n d) rest h).0)

step_out : (part en : ℕ) (w : PowerCut) (c : Chip) (n d code : ℕ) → in_range_of (facts_of part) c ≡ false → IsRefused (step_verdict_of part en w c n d code)
unfolding step_verdict_of
step_out part en w c n d code e =
    let rest = claim_of (not (event_right_of (facts_of part).pin code)) (BadEvent 0) in
    not_fine (sooner_of (cut_verdict_of part en w c n d) rest) (λ h. cut_out part en w c n d e (sooner_fine (cut_verdict_of part en w c n d) rest h).0)

after_step_out : (M : Model) (code : ℕ) (e : Ending) (v : Verdict) → IsRefused v → after_step code (step_left_of M e.chip e.mem code v) e ≡ e
unfolding after_step
after_step_out M code e (Ok _) o = absurd o
after_step_out M code e (Err r) o = rw add-zero

after_run_out : (M : Model) (es a : List ℕ) (e : Ending) (v : Verdict) → IsRefused v → after_run es (run_left_of M e.chip e.mem es a v) e ≡ e
unfolding after_run
after_run_out M es a e (Ok _) o = absurd o
after_run_out M es a e (Err r) o = rw add-zero

-- a series of calls on it leaves everything as it was
pub calls_out : (part en : ℕ) (e : Ending) (xs : List Call) → in_range_of (facts_of part) e.chip ≡ false → calls_by step_of run_of part en e xs ≡ e
unfolding calls_by call_by
calls_out part en e [] o = refl
calls_out part en e (one w code ∷ xs) o =
    ap (λ (x : Ending). calls_by step_of run_of part en x xs)
    (after_step_out (ours_with w (facts_of part) en) code e (step_verdict part en w e.chip e.mem code) (step_out part en w e.chip (length e.mem.cells) (length e.mem.ident) code o))
    ∙ calls_out part en e xs o
calls_out part en e (many w es a ∷ xs) o =
    ap (λ (x : Ending). calls_by step_of run_of part en x xs)
    (after_run_out (ours_with w (facts_of part) en) es a e (run_verdict part en w e.chip e.mem es a) (run_out part en w e.chip (length e.mem.cells) (length e.mem.ident) es (length a) o))
    ∙ calls_out part en e xs o
