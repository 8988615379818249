-- The histories come to what they are to be, by computation.
-- Assumes nothing.
use mathlib.Core.Path.{◌≡◌, refl}
use mathlib.Core.Bool.{true}
use Rattle.parts.specs.Table.{facts_of, address_bytes_of}
use Rattle.parts.specs.Events.{event_with}
use Rattle.chip_promises.specs.Stops.{lock_chosen_of, writes_of, asks_cycle_of, well_placed_of, start_seen, clock_seen, stop_seen, end_seen, pin_seen, watch_of, stop_of, stops_of}
use Rattle.chip_promises.specs.Histories.{all_hold, histories}

pub histories_hold : all_hold histories ≡ true
unfolding histories stops_of stop_of watch_of well_placed_of start_seen clock_seen stop_seen end_seen pin_seen asks_cycle_of writes_of lock_chosen_of address_bytes_of facts_of event_with
histories_hold = refl
