-- The promises are not empty, by computation.
-- Assumes nothing.
use mathlib.Core.Path.{refl}
use Rattle.parts.specs.Table.{facts_of, id_size_of, pages_of}
use Rattle.parts.specs.Events.{event_with}
use Rattle.parts.specs.Bytes.{same_of}
use Rattle.line.specs.Rules.{roll_of, before_of, onward_of, enabled_of, named_of, decode_of, address_start_of, selected_of, load_array_of, load_id_of, loaded_of, refuses_of, latched_of, filled_of, locked_by_of, taken_of, received_of, receive_act_of, receive_level_of, moved_of, sent_of, send_level_of, clocked_of, clock_act_of, clock_level_of, started_of, start_act_of, asks_of, placed_of, stopped_of, stop_act_of, stop_begun_of, ended_by_of, ended_of, end_act_of, pinned_of, reset_of, next_of, act_of, level_of, begun_of, move_of}
use Rattle.state.specs.Range.{marks_right_of, pin_right_of, mark_right_of, target_right_of, lock_right_of, location_right_of, last_right_of, acked_right_of, open_right_of, fill_right_of, unlocked_right_of, recv_right_of, writing_right_of, cycle_right_of, phase_right_of, rest_right_of, in_range_of}
use Rattle.chip.specs.Memory.{no_latch, one_of, counter_page_of, committed_of, cycle_stored_of, stored_of, store_with, shown_of, seen_of, state_of, chip_level_of}
use Rattle.chip.specs.Delivery.{pin_at_first_of, standby_of, coded_of, delivered_id_of, delivered_of}
use Rattle.chip.specs.Model.{ours}
use Rattle.chip.specs.Runs.{after_of, memory_of, cycles_of}
use Rattle.chip_promises.specs.Pages.{count_of, differing_of}
use Rattle.chip_promises.specs.Reached.{BoundIsMet, LockIsReached, HighIsReached}

pub bound_is_met : BoundIsMet ours
unfolding cycles_of memory_of facts_of id_size_of pages_of event_with differing_of same_of count_of roll_of enabled_of named_of decode_of address_start_of selected_of load_array_of load_id_of loaded_of refuses_of latched_of filled_of locked_by_of taken_of received_of receive_act_of receive_level_of moved_of sent_of send_level_of clocked_of clock_act_of clock_level_of started_of start_act_of asks_of placed_of stopped_of stop_act_of stop_begun_of ended_by_of ended_of end_act_of pinned_of reset_of next_of act_of level_of begun_of move_of no_latch one_of counter_page_of committed_of cycle_stored_of stored_of store_with shown_of seen_of state_of chip_level_of pin_at_first_of standby_of coded_of delivered_id_of delivered_of
bound_is_met = (refl, refl)

pub lock_is_reached : LockIsReached ours
unfolding cycles_of memory_of after_of facts_of id_size_of pages_of event_with roll_of before_of onward_of enabled_of named_of decode_of address_start_of selected_of load_array_of load_id_of loaded_of refuses_of latched_of filled_of locked_by_of taken_of received_of receive_act_of receive_level_of moved_of sent_of send_level_of clocked_of clock_act_of clock_level_of started_of start_act_of asks_of placed_of stopped_of stop_act_of stop_begun_of ended_by_of ended_of end_act_of pinned_of reset_of next_of act_of level_of begun_of move_of no_latch one_of counter_page_of committed_of cycle_stored_of stored_of store_with shown_of seen_of state_of chip_level_of pin_at_first_of standby_of coded_of delivered_id_of delivered_of marks_right_of pin_right_of mark_right_of target_right_of lock_right_of location_right_of last_right_of acked_right_of open_right_of fill_right_of unlocked_right_of recv_right_of writing_right_of cycle_right_of phase_right_of rest_right_of in_range_of
lock_is_reached = (refl, refl)

pub high_is_reached : HighIsReached ours
unfolding cycles_of memory_of after_of facts_of id_size_of pages_of event_with roll_of before_of onward_of enabled_of named_of decode_of address_start_of selected_of load_array_of load_id_of loaded_of refuses_of latched_of filled_of locked_by_of taken_of received_of receive_act_of receive_level_of moved_of sent_of send_level_of clocked_of clock_act_of clock_level_of started_of start_act_of asks_of placed_of stopped_of stop_act_of stop_begun_of ended_by_of ended_of end_act_of pinned_of reset_of next_of act_of level_of begun_of move_of no_latch one_of counter_page_of committed_of cycle_stored_of stored_of store_with shown_of seen_of state_of chip_level_of pin_at_first_of standby_of coded_of delivered_id_of delivered_of marks_right_of pin_right_of mark_right_of target_right_of lock_right_of location_right_of last_right_of acked_right_of open_right_of fill_right_of unlocked_right_of recv_right_of writing_right_of cycle_right_of phase_right_of rest_right_of in_range_of
high_is_reached = (refl, refl)
