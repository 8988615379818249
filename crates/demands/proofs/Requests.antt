-- Every change request that has landed is kept: each field is a promise that is proved in the crate that its name comes from.
-- Assumes nothing.
use Rattle.driver.specs.Machine.{our_driver}
use Rattle.wear_promises.proofs.Counts.{wear_is_history}
use Rattle.wear_promises.proofs.Totals.{total_is_history}
use Rattle.wear_promises.proofs.Traces.{traces_add_up}
use Rattle.wear_promises.proofs.Beside.{run_is_chips as wear-run-is-chips, wear_numbers, counts_never_fall, at_most_groups_of_one_page, wear_refused_changes_nothing}
use Rattle.wear_promises.proofs.Told.{most_is_most, report_numbers, report_pinned, join_adds, join_any_order, heaps_merge}
use Rattle.wear_promises.proofs.Pinned.{wear_pinned}
use Rattle.wear_promises.proofs.Histories.{histories_worn}
use Rattle.wear_promises.proofs.Kept.{walk_finds, one_worst, finds_it, worst_is_walk, series_keeps_it, raised_keeps_it, growth_keeps_it, goes_on, mark_goes_on, traces_keep_it, refuses_unborne, as_before, kept_pinned}
use Rattle.wear_promises.proofs.WrongKeepers.{wrong_keepers}
use Rattle.image_promises.proofs.Worst.{load_finds_it, saved_worst, there_keeps_it, back_keeps_it, load_as_before, wrong_worst}
use Rattle.bench_promises.proofs.Kept.{bench_worst_is_walk, bench_as_before, bench_refuses_unborne}
use Rattle.sapwoodle.proofs.wears.Kept.{wear_bytes_keep, bench_wear_walks, bench_wear_keeps}
use Rattle.wear_promises.proofs.WrongCounters.{wrong_counters}
use Rattle.image_promises.proofs.Places.{worn_places, worn_lengths}
use Rattle.image_promises.proofs.Numbers.{save_worn_numbers, load_worn_numbers}
use Rattle.image_promises.proofs.ToNumbers.{to_worn_numbers, to_plain_numbers}
use Rattle.image_promises.proofs.Written.{layout_written, layout_read, accepts_all_worn}
use Rattle.image_promises.proofs.Kept.{gives_back_worn, saves_same_worn, accepts_only_worn, old_reader_refuses, plain_loads_zero}
use Rattle.image_promises.proofs.Converted.{converts_there, converts_back, there_and_back, back_and_there, loses_nothing}
use Rattle.image_promises.proofs.Same.{there_converts_same, back_converts_same}
use Rattle.image_promises.proofs.One.{one_worn_number}
use Rattle.image_promises.proofs.Pinned.{refused_keeps as worn-refused-keeps, worn_ours, worn_pinned}
use Rattle.image_promises.proofs.Swapped.{swap_keeps_history}
use Rattle.image_promises.proofs.WrongSaves.{wrong_worn}
use Rattle.wear.specs.Calls.{wear_of}
use Rattle.image_worn.specs.Calls.{saving_worn, loading_worn}
use Rattle.sapwoodle.proofs.worns.Kept.{worn_bytes_kept, load_worn_finds}
use Rattle.bench_promises.proofs.Worn.{bench_wear_is_history, worn_is_bench}
use Rattle.chip_laws.proofs.Roll.{page_rule}
use Rattle.chip_laws.proofs.Runs.{run_is_steps}
use Rattle.chip_promises.proofs.Numbers.{step_numbers, run_numbers}
use Rattle.chip_promises.proofs.Pages.{calls_pages_from_delivery}
use Rattle.chip_promises.proofs.Stops.{calls_cycles_are_stops_from_delivery}
use Rattle.chip_promises.proofs.Lock.{calls_lock_holds}
use Rattle.chip_promises.proofs.Pin.{calls_pin_protects}
use Rattle.chip_promises.proofs.Power.{group_sizes, cut_spoils_groups, spoils_one_way, step_spoils, lock_as_flag, reset_stands, cut_only_in_cycle, powered, power_pinned, old_is_own_page}
use Rattle.chip_promises.proofs.WrongCuts.{wrong_cuts}
use Rattle.trace.proofs.Promises.{prints_as_judged}
use Rattle.driver_promises.proofs.Promises.{promises}
use Rattle.driver_promises.proofs.Which.{refused_says, one_address_byte, faulty_line}
use Rattle.bench_promises.proofs.Answered.{address_answered, addressed_kept, reset_breaks}
use Rattle.hexfile_promises.proofs.Kept.{gives_back, settles, accepts_all, accepts_only, names_each, stops_first, writes_plain, refused_keeps}
use Rattle.hexfile_promises.proofs.OneWay.{reads_one_way}
use Rattle.hexfile_promises.proofs.Numbers.{hex_read_numbers, hex_write_numbers}
use Rattle.hexfile_promises.proofs.Pinned.{hex_reader, hex_pinned}
use Rattle.hexfile_promises.proofs.Written.{hex_writer, hex_writer_pinned}
use Rattle.hexfile_promises.proofs.Worked.{worked_lines}
use Rattle.hexfile_promises.proofs.Idle.{wrong_hex}
use Rattle.capture_promises.proofs.Reading.{letter_pairs, letter_joins, bus_drops, drawn_back, letter_late, repeats, list_numbers, reader, reader_pinned}
use Rattle.capture_promises.proofs.Ends.{ends_one_way}
use Rattle.capture_promises.proofs.Running.{ends_right, mark_first, see_numbers, viewer, viewer_pinned}
use Rattle.capture_promises.proofs.Good.{line_levels, good_unmarked}
use Rattle.capture_promises.proofs.Pieces.{pieces_join, repeats_left_out}
use Rattle.capture_promises.proofs.Tallied.{tally_counts, count_numbers, counter, counter_pinned, tally_joins}
use Rattle.capture_promises.proofs.Wrong.{wrong_readers, wrong_tallies}
use Rattle.capture_promises.proofs.WrongRuns.{wrong_runs}
use Rattle.capture_promises.proofs.Worked.{worked}
use Rattle.sapwoodle.proofs.chips.Kept.{step_is_chips, run_is_chips, step_old, run_old, step_refuses_3, run_refuses_3}
use Rattle.sapwoodle.proofs.captures.Kept.{capture_is_chips, capture_refuses_4}
use Rattle.sapwoodle.proofs.drivers.Kept.{next_is_drivers}
use Rattle.sapwoodle.proofs.runs.Kept.{bench_is_benchs}
use Rattle.demands.specs.Requests.{Requests}

pub requests : Requests
requests =
    record {
      first =
          record {
            which = refused_says our_driver promises.refused_at;
            one_address = one_address_byte;
            ending = promises;
            answered = address_answered;
            run = addressed_kept;
            power = reset_breaks;
            faulty = faulty_line;
            bytes = (next_is_drivers, bench_is_benchs);
          };
      second =
          record {
            all = accepts_all;
            only = accepts_only;
            one_way = reads_one_way;
            names = names_each;
            plain = writes_plain;
            back = gives_back;
            settles = settles;
            first = stops_first;
            numbers = (hex_read_numbers, hex_write_numbers);
            keeps = refused_keeps;
            ours = (hex_reader, hex_writer);
            pinned = (hex_pinned, hex_writer_pinned);
            wrong = wrong_hex;
            worked = worked_lines;
          };
      third =
          record {
            pairs = letter_pairs;
            joins = letter_joins;
            late = letter_late;
            drops = bus_drops;
            back = drawn_back;
            ends = ends_right;
            one_way = ends_one_way;
            marks = mark_first;
            good = good_unmarked;
            line = line_levels;
            counts = tally_counts;
            numbers = (see_numbers, list_numbers, count_numbers);
            pieces = (pieces_join, tally_joins);
            repeats = (repeats, repeats_left_out);
            ours = (reader, viewer, counter);
            pinned = (reader_pinned, viewer_pinned, counter_pinned);
            wrong = (wrong_readers, wrong_runs, wrong_tallies);
            worked = worked;
            bytes = (capture_is_chips, capture_refuses_4);
          };
      fourth = record { turns = page_rule };
      fifth =
          record {
            spoils = cut_spoils_groups;
            one_way = spoils_one_way;
            called = step_spoils;
            lock = lock_as_flag;
            groups = group_sizes;
            whole_run = run_is_steps;
            stands = reset_stands;
            only = cut_only_in_cycle;
            program = prints_as_judged;
            old_contents = old_is_own_page;
            pages = calls_pages_from_delivery;
            cycles = calls_cycles_are_stops_from_delivery;
            lock_holds = calls_lock_holds;
            pin = calls_pin_protects;
            numbers = (step_numbers, run_numbers);
            bytes = (step_is_chips, run_is_chips);
            bytes_old = (step_old, run_old);
            bytes_numbers = (step_refuses_3, run_refuses_3);
            ours = powered;
            pinned = power_pinned;
            wrong = wrong_cuts;
          };
      sixth =
          record {
            history = wear_is_history;
            pinned = wear_pinned;
            traces = traces_add_up;
            most = most_is_most;
            most_pinned = report_pinned;
            once = at_most_groups_of_one_page;
            never_fall = counts_never_fall;
            histories = histories_worn;
            total = total_is_history;
            numbers = (wear_numbers, report_numbers);
            chips = wear-run-is-chips;
            refused = wear_refused_changes_nothing;
            bench = bench_wear_is_history;
            bench_own = worn_is_bench;
            join = join_adds;
            any_order = join_any_order;
            heaps = heaps_merge;
            wrong = wrong_counters;
          };
      seventh =
          record {
            swapped = swap_keeps_history wear_of saving_worn loading_worn wear_is_history gives_back_worn;
            places = worn_places;
            lengths = worn_lengths;
            written = layout_written;
            read = layout_read;
            gives_back = gives_back_worn;
            saves_same = saves_same_worn;
            all = accepts_all_worn;
            only = accepts_only_worn;
            zero = plain_loads_zero;
            there = converts_there;
            back = converts_back;
            loses_nothing = loses_nothing;
            there_and_back = there_and_back;
            back_and_there = back_and_there;
            same = (there_converts_same, back_converts_same);
            old = old_reader_refuses;
            numbers = (save_worn_numbers, load_worn_numbers, to_worn_numbers, to_plain_numbers);
            one_number = one_worn_number;
            refused = worn-refused-keeps;
            bytes_refused = worn_bytes_kept;
            ours = worn_ours;
            pinned = worn_pinned;
            wrong = wrong_worn;
          };
      eighth =
          record {
            walk = walk_finds;
            one = one_worst;
            begins = finds_it;
            kept = worst_is_walk;
            series = series_keeps_it;
            bench = bench_worst_is_walk;
            raised = raised_keeps_it;
            growth = growth_keeps_it;
            goes_on = (goes_on, mark_goes_on);
            traces = traces_keep_it;
            load = load_finds_it;
            saved = saved_worst;
            converted = (there_keeps_it, back_keeps_it);
            refused = refuses_unborne;
            bench_refused = bench_refuses_unborne;
            before = (as_before, bench_as_before, load_as_before);
            bytes = (wear_bytes_keep, bench_wear_walks, bench_wear_keeps, load_worn_finds);
            pinned = kept_pinned;
            wrong = (wrong_keepers, wrong_worst);
          };
    }
