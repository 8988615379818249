-- The whole table comes out as document 01 says, by computation.
-- Assumes nothing.
use Prim.Native.Nat.{ℕ, ◌+◌, ◌*◌, ◌≤◌}
use mathlib.Core.Path.{◌≡◌, refl, ◌∙◌, ap}
use mathlib.Core.List.{List}
use lib.ListN.{length}
use Rattle.parts.specs.Table.{facts_of, id_size_of, enable_right_of, buffers_right_of, address_bytes_of}
use Rattle.parts.specs.Events.{event_with, event_right_of}
use Rattle.parts.specs.Refusals.{sooner_of, lent_verdict_of, loss_verdict_of, is_fine}
use Rattle.parts.specs.Bytes.{same_of}
use Rattle.line.specs.Rules.{roll_of, before_of, onward_of, enabled_of, named_of, decode_of, address_start_of, selected_of, load_array_of, load_id_of, loaded_of, refuses_of, latched_of, filled_of, locked_by_of, taken_of, received_of, receive_act_of, receive_level_of, moved_of, sent_of, send_level_of, clocked_of, clock_act_of, clock_level_of, started_of, start_act_of, asks_of, placed_of, stopped_of, stop_act_of, stop_begun_of, ended_by_of, ended_of, end_act_of, pinned_of, reset_of, next_of, act_of, level_of, begun_of}
use Rattle.state.specs.Range.{marks_right_of, pin_right_of, lock_right_of, phase_right_of, rest_right_of, in_range_of}
use Rattle.state.specs.declared.Chip.{Chip}
use Rattle.chip.specs.Memory.{Mem, no_latch, one_of, counter_page_of, committed_of, cycle_stored_of, stored_of, store_with, shown_of, seen_of, state_of, chip_level_of}
use Rattle.chip.specs.Runs.{after_of, memory_of, levels_of, cycles_of}
use Rattle.chip.specs.Delivery.{pin_at_first_of, standby_of, coded_of, delivered_id_of, delivered_of}
use Rattle.chip.specs.Calls.{held_verdict_of, cut_verdict_of, run_verdict_of}
use Rattle.chip_laws.specs.Bytes.{bits_of, byte_of}
use Rattle.chip_laws.specs.Trials.{first_wrong, trial_run_of, trial_of, sends, read_one, writes, last_level, acknowledged, released, cell_is, counter_is, begins, ends_with, chip_trials}
use Rattle.driver.specs.Request.{beyond_at, limit_of, judge_of, allowed_of, k_of}
use Rattle.driver.specs.Split.{to_page_end_of, pages_met_of}
use Rattle.driver.specs.Step.{select_at, wire_of, bit_of, shift_of, ready_of, bits_at, lead_at, low_at, data_at, poll_move_of, answered_of, take_at, heard_move_of, bits_move_of, driver_step_of, counts_right, range_of, driver_next_of, byte_kept_of, buffer_of}
use Rattle.driver.proofs.Facts.{good_request}
use Rattle.driver_promises.specs.Run.{address_bytes}
use Rattle.bench.specs.Together.{asked_of, cycle_ended_of, end_due_of, turn_of, turns_of}
use Rattle.bench.proofs.Laws.{granted}
use Rattle.bench_promises.specs.Calls.{Called}
use Rattle.bench_promises.specs.Trials.{ran_at30, done_with, around30, driver_trials, TrialsRight, whole_array, whole_array_on, WholeArray}

pub trials_right : TrialsRight
unfolding facts_of id_size_of enable_right_of event_with event_right_of sooner_of lent_verdict_of loss_verdict_of held_verdict_of cut_verdict_of roll_of before_of onward_of enabled_of named_of decode_of address_start_of selected_of load_array_of load_id_of loaded_of refuses_of latched_of filled_of locked_by_of taken_of received_of receive_act_of receive_level_of moved_of sent_of send_level_of clocked_of clock_act_of clock_level_of started_of start_act_of asks_of placed_of stopped_of stop_act_of stop_begun_of ended_by_of ended_of end_act_of pinned_of reset_of next_of act_of level_of begun_of marks_right_of pin_right_of lock_right_of phase_right_of rest_right_of in_range_of no_latch one_of counter_page_of committed_of cycle_stored_of stored_of store_with shown_of seen_of state_of chip_level_of after_of memory_of levels_of cycles_of pin_at_first_of standby_of coded_of delivered_id_of delivered_of buffers_right_of run_verdict_of bits_of byte_of first_wrong trial_run_of trial_of sends read_one writes last_level acknowledged released cell_is counter_is begins same_of ends_with chip_trials beyond_at limit_of judge_of allowed_of k_of to_page_end_of pages_met_of select_at wire_of bit_of shift_of ready_of bits_at lead_at low_at data_at poll_move_of answered_of take_at heard_move_of bits_move_of driver_step_of counts_right range_of driver_next_of byte_kept_of buffer_of asked_of cycle_ended_of end_due_of turn_of turns_of ran_at30 done_with around30 driver_trials
trials_right = refl

-- ---- the whole array of part 0
pages : (budget : ℕ) → k_of (whole_array budget) ≡ 128
unfolding k_of pages_met_of facts_of
pages budget = refl

bytes : (budget : ℕ) → address_bytes (whole_array budget) ≡ 1
unfolding address_bytes_of facts_of
bytes budget = refl

-- its budget is not refused
some_polls : (budget : ℕ) (c : Chip) (m : Mem) (ys : List ℕ) → Called (whole_array_on budget c m ys) → 1 ≤ budget
unfolding allowed_of
some_polls budget c m ys k =
    let a = (granted (whole_array budget) 0 1 c (length m.cells) (length m.ident) (length ys) k.fine).asked in
    (good_request (whole_array budget) (ap is_fine a)).low refl

pub whole_array_lem : WholeArray
whole_array_lem B p budget c m ys k u =
    let z = p.ends (whole_array_on budget c m ys) k u (some_polls budget c m ys k) in
    let n = pages budget in
    record {
      done = z.done;
      cycles = z.cycles ∙ n;
      polls = z.polls ∙ ap (λ (i : ℕ). i * 1) n;
      clocks = z.clocks ∙ (ap (λ (i : ℕ). 9 * (k_of (whole_array budget) * (1 + i) + 2048 + k_of (whole_array budget) * 1)) (bytes budget) ∙ ap (λ (i : ℕ). 9 * (i * 2 + 2048 + i * 1)) n);
    }
