-- The captures of specs/Worked.antt come out so, by computation.
-- Assumes nothing.
use mathlib.Core.Path.{refl}
use Rattle.parts.specs.Table.{facts_of, id_size_of, enable_right_of, buffers_right_of}
use Rattle.parts.specs.Events.{event_with}
use Rattle.parts.specs.Refusals.{sooner_of, lent_verdict_of}
use Rattle.line.specs.Rules.{roll_of, before_of, onward_of, enabled_of, named_of, decode_of, address_start_of, selected_of, load_array_of, load_id_of, loaded_of, refuses_of, latched_of, filled_of, locked_by_of, taken_of, received_of, receive_act_of, receive_level_of, moved_of, sent_of, send_level_of, clocked_of, clock_act_of, clock_level_of, started_of, start_act_of, asks_of, placed_of, stopped_of, stop_act_of, stop_begun_of, ended_by_of, ended_of, end_act_of, next_of, act_of, level_of, begun_of}
use Rattle.state.specs.Range.{marks_right_of, pin_right_of, lock_right_of, phase_right_of, rest_right_of, in_range_of}
use Rattle.chip.specs.Memory.{no_latch, one_of, counter_page_of, committed_of, cycle_stored_of, stored_of, store_with, shown_of, seen_of, state_of, chip_level_of}
use Rattle.chip.specs.Runs.{after_of, memory_of, cycles_of}
use Rattle.chip.specs.Delivery.{pin_at_first_of, standby_of, coded_of, delivered_id_of, delivered_of}
use Rattle.chip.specs.Calls.{held_verdict_of}
use Rattle.chip_laws.specs.Bytes.{bits_of, byte_of}
use Rattle.capture.specs.Samples.{events_of, rises_of, judge_of}
use Rattle.capture.specs.Ends.{end_due_of, with_ends_of}
use Rattle.capture.specs.Marks.{place_of, compared_of, differs_of, mark_from}
use Rattle.capture.specs.Wires.{stroke_of, drawn_from}
use Rattle.capture.specs.Calls.{seen_verdict_of}
use Rattle.capture_promises.specs.Worked.{byte_written, selected, over, WorkedCaptures}

pub worked : WorkedCaptures
unfolding facts_of id_size_of enable_right_of buffers_right_of event_with sooner_of lent_verdict_of held_verdict_of roll_of before_of onward_of enabled_of named_of decode_of address_start_of selected_of load_array_of load_id_of loaded_of refuses_of latched_of filled_of locked_by_of taken_of received_of receive_act_of receive_level_of moved_of sent_of send_level_of clocked_of clock_act_of clock_level_of started_of start_act_of asks_of placed_of stopped_of stop_act_of stop_begun_of ended_by_of ended_of end_act_of next_of act_of level_of begun_of marks_right_of pin_right_of lock_right_of phase_right_of rest_right_of in_range_of no_latch one_of counter_page_of committed_of cycle_stored_of stored_of store_with shown_of seen_of state_of chip_level_of after_of memory_of cycles_of pin_at_first_of standby_of coded_of delivered_id_of delivered_of bits_of byte_of events_of rises_of judge_of end_due_of with_ends_of place_of compared_of differs_of mark_from stroke_of drawn_from seen_verdict_of byte_written selected over
worked =
    record {
      fine = refl;
      events = refl;
      clocks = refl;
      cycles = refl;
      ends = refl;
      mark = refl;
      not_yet = refl;
      letter_clocks = refl;
      letter_cycles = refl;
      letter_mark = refl;
      shown_ends = refl;
      shown_events = refl;
      shown_mark = refl;
      shown_stored = refl;
      poll_ends = refl;
      poll_mark = refl;
      poll_stored = refl;
      unacknowledged = refl;
    }
