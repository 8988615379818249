-- Ours keeps the refusal table and the select trials; the chips that only seem to work do not.
-- Assumes nothing.
use Rattle.std.specs.Prelude.{Ok, Err}
use Prim.Native.Nat.{ℕ}
use native.Mathlib.Omega.{arith}
use mathlib.Core.Path.{◌≡◌, refl, ap, ◌∙◌}
use mathlib.Core.Bool.{Bool, true, false, false≢true}
use mathlib.Core.List.{List, []}
use lib.ListN.{length, replicate}
use Rattle.parts.specs.Verdict.{Verdict}
use Rattle.parts.specs.Table.{facts_of, id_size_of, enable_right_of, buffers_right_of}
use Rattle.parts.specs.Events.{event_with, event_right_of}
use Rattle.parts.specs.Refusals.{sooner_of, lent_verdict_of, loss_verdict_of}
use Rattle.line.specs.Rules.{decode_of, enabled_of, named_of, address_start_of, selected_of, taken_of, received_of, receive_level_of, clocked_of, clock_level_of, started_of, next_of, level_of}
use Rattle.state.specs.declared.Chip.{Chip}
use Rattle.state.specs.Range.{marks_right_of, pin_right_of, lock_right_of, phase_right_of, rest_right_of, in_range_of}
use Rattle.chip.specs.Memory.{Mem, mem, no_latch, state_of, chip_level_of}
use Rattle.chip.specs.Delivery.{pin_at_first_of, standby_of}
use Rattle.chip.specs.Calls.{held_verdict_of, cut_verdict_of, deliver_verdict_of, step_verdict_of, run_verdict_of, deliver_of, step_left_of, step_of, run_left_of, run_of, step_verdict, run_verdict}
use Rattle.chip.specs.Model.{Model, PowerCut, old, ours_with}
use Rattle.chip.specs.Runs.{levels_of}
use Rattle.chip_promises.specs.Idle.{RefusesByTable, RefusingBreaks, SelectTrials, ConstantBreaks}

-- ---- the refusal table

step_verdict_lem : (M : Model) (c : Chip) (m : Mem) (code : ℕ) (v : Verdict)
    → (step_left_of M c m code v).answer.verdict ≡ v
step_verdict_lem M c m code (Ok _) = refl
step_verdict_lem M c m code (Err r) = refl

run_verdict_lem : (M : Model) (c : Chip) (m : Mem) (es a : List ℕ) (v : Verdict)
    → (run_left_of M c m es a v).answer.verdict ≡ v
run_verdict_lem M c m es a (Ok _) = refl
run_verdict_lem M c m es a (Err r) = refl

pub refuses_by_table : RefusesByTable deliver_of step_of run_of
refuses_by_table =
    record {
      deliver = λ part m. refl;
      step = λ part enable w c m code. step_verdict_lem (ours_with w (facts_of part) enable) c m code _;
      run = λ part enable w c m es a. run_verdict_lem (ours_with w (facts_of part) enable) c m es a _;
    }

abbrev fine : Verdict → Bool
fine (Ok _) = true
fine (Err r) = false

-- part 0 as delivered, a Start: nothing refuses it
abbrev mem₀ : Mem
mem₀ = mem (replicate 2048 255) (replicate 16 255)

abbrev chip₀ : Chip
chip₀ = standby_of (facts_of 0) false

delivers : deliver_verdict_of 0 (length mem₀.cells) (length mem₀.ident) ≡ Ok tt
unfolding deliver_verdict_of sooner_of lent_verdict_of facts_of id_size_of buffers_right_of
delivers = refl

steps : step_verdict 0 0 old chip₀ mem₀ 2 ≡ Ok tt
unfolding step_verdict_of sooner_of lent_verdict_of loss_verdict_of held_verdict_of cut_verdict_of facts_of id_size_of enable_right_of event_right_of buffers_right_of marks_right_of pin_right_of lock_right_of phase_right_of rest_right_of in_range_of standby_of pin_at_first_of no_latch
steps = refl

runs : run_verdict 0 0 old chip₀ mem₀ [] [] ≡ Ok tt
unfolding run_verdict_of sooner_of lent_verdict_of loss_verdict_of held_verdict_of cut_verdict_of facts_of id_size_of enable_right_of buffers_right_of marks_right_of pin_right_of lock_right_of phase_right_of rest_right_of in_range_of standby_of pin_at_first_of no_latch
runs = refl

pub refusing_breaks : RefusingBreaks
refusing_breaks =
    record {
      deliver = λ r T R p. false≢true (ap fine (p.deliver 0 mem₀ ∙ delivers));
      step = λ r D R p. false≢true (ap fine (p.step 0 0 old chip₀ mem₀ 2 ∙ steps));
      run = λ r D T p. false≢true (ap fine (p.run 0 0 old chip₀ mem₀ [] [] ∙ runs));
    }

-- ---- the select trials

pub select_trials : (w : PowerCut) → SelectTrials (ours_with w)
unfolding levels_of facts_of event_with standby_of pin_at_first_of state_of chip_level_of decode_of enabled_of named_of address_start_of selected_of taken_of received_of receive_level_of clocked_of clock_level_of started_of next_of level_of
select_trials w = record { acknowledged = λ m. refl; released = λ m. refl }

pub constant_breaks : ConstantBreaks
unfolding levels_of event_with
constant_breaks v p =
    let zero : v ≡ 0 = p.acknowledged (mem [] []) in
    let one : v ≡ 1 = p.released (mem [] []) in
    omega (arith, zero, one)
