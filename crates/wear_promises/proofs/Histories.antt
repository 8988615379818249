-- The histories come to what they are to be, by computation.
-- Assumes nothing.
use mathlib.Core.Path.{◌≡◌, refl}
use mathlib.Core.Bool.{true}
use Rattle.parts.specs.Table.{facts_of, address_bytes_of, groups_of}
use Rattle.parts.specs.Events.{event_with}
use Rattle.chip.specs.Runs.{closes_of}
use Rattle.chip_promises.specs.Stops.{lock_chosen_of, writes_of, asks_cycle_of, well_placed_of, start_seen, clock_seen, stop_seen, end_seen, pin_seen, watch_of, stop_of}
use Rattle.wear_promises.specs.History.{address_of, data_count_of, lands_of, names_array, touches_of, pending_of, completes_of, times_of, touched_in}
use Rattle.wear_promises.specs.Histories.{worn_hold, worn_histories}

pub histories_worn : worn_hold worn_histories ≡ true
unfolding worn_histories times_of touched_in completes_of pending_of touches_of names_array lands_of data_count_of address_of closes_of groups_of stop_of watch_of well_placed_of start_seen clock_seen stop_seen end_seen pin_seen asks_cycle_of writes_of lock_chosen_of address_bytes_of facts_of event_with
histories_worn = refl
