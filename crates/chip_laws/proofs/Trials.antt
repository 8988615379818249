-- The trials come out as document 01 says, by computation.
-- Assumes nothing.
use mathlib.Core.Path.{refl}
use Rattle.parts.specs.Table.{facts_of, id_size_of, enable_right_of, buffers_right_of}
use Rattle.parts.specs.Events.{event_with, event_right_of}
use Rattle.parts.specs.Refusals.{sooner_of, lent_verdict_of, loss_verdict_of}
use Rattle.parts.specs.Bytes.{same_of}
use Rattle.line.specs.Rules.{roll_of, before_of, onward_of, enabled_of, named_of, decode_of, address_start_of, selected_of, load_array_of, load_id_of, loaded_of, refuses_of, latched_of, filled_of, locked_by_of, taken_of, received_of, receive_act_of, receive_level_of, moved_of, sent_of, send_level_of, clocked_of, clock_act_of, clock_level_of, started_of, start_act_of, asks_of, placed_of, stopped_of, stop_act_of, stop_begun_of, ended_by_of, ended_of, end_act_of, pinned_of, reset_of, next_of, act_of, level_of, begun_of}
use Rattle.state.specs.Range.{marks_right_of, pin_right_of, lock_right_of, phase_right_of, rest_right_of, in_range_of}
use Rattle.chip.specs.Memory.{no_latch, one_of, counter_page_of, committed_of, cycle_stored_of, stored_of, store_with, shown_of, seen_of, state_of, chip_level_of}
use Rattle.chip.specs.Runs.{after_of, memory_of, levels_of, cycles_of}
use Rattle.chip.specs.Delivery.{pin_at_first_of, standby_of, coded_of, delivered_id_of, delivered_of}
use Rattle.chip.specs.Calls.{held_verdict_of, cut_verdict_of, run_verdict_of}
use Rattle.chip_laws.specs.Bytes.{bits_of, byte_of}
use Rattle.chip_laws.specs.Trials.{first_wrong, trial_run_of, trial_of, sends, read_one, writes, last_level, acknowledged, released, cell_is, counter_is, begins, ends_with, chip_trials, ChipTrialsRight}

pub chip_trials_right : ChipTrialsRight
unfolding facts_of id_size_of enable_right_of event_with event_right_of sooner_of lent_verdict_of loss_verdict_of held_verdict_of cut_verdict_of roll_of before_of onward_of enabled_of named_of decode_of address_start_of selected_of load_array_of load_id_of loaded_of refuses_of latched_of filled_of locked_by_of taken_of received_of receive_act_of receive_level_of moved_of sent_of send_level_of clocked_of clock_act_of clock_level_of started_of start_act_of asks_of placed_of stopped_of stop_act_of stop_begun_of ended_by_of ended_of end_act_of pinned_of reset_of next_of act_of level_of begun_of marks_right_of pin_right_of lock_right_of phase_right_of rest_right_of in_range_of no_latch one_of counter_page_of committed_of cycle_stored_of stored_of store_with shown_of seen_of state_of chip_level_of after_of memory_of levels_of cycles_of pin_at_first_of standby_of coded_of delivered_id_of delivered_of buffers_right_of run_verdict_of bits_of byte_of first_wrong trial_run_of trial_of sends read_one writes last_level acknowledged released cell_is counter_is begins same_of ends_with chip_trials
chip_trials_right = refl
