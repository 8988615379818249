-- Invented cycle counts break promise 4: the levels are ours, so the well-placed Stops are, and so the counts.
-- Assumes nothing.
use mathlib.Core.Path.{◌≡◌, refl, sym, ap, ◌∙◌}
use Prim.Native.Nat.{ℕ}
use native.Mathlib.Omega.{arith}
use mathlib.Core.Bool.{false}
use mathlib.Core.List.{List, [], ◌∷◌}
use Rattle.parts.specs.declared.Facts.{Facts}
use Rattle.parts.specs.Table.{facts_of}
use Rattle.parts.specs.Events.{event_with}
use Rattle.line.specs.Rules.{decode_of, enabled_of, named_of, address_start_of, selected_of, load_array_of, loaded_of, refuses_of, latched_of, filled_of, taken_of, received_of, clocked_of, started_of, asks_of, placed_of, stopped_of, stop_begun_of, next_of, begun_of}
use Rattle.state.specs.declared.Chip.{Chip}
use Rattle.chip.specs.Memory.{Mem, mem, state_of}
use Rattle.chip.specs.Delivery.{pin_at_first_of, standby_of}
use Rattle.chip.specs.Model.{old, ours}
use Rattle.chip.specs.Runs.{levels_of, cycles_of}
use Rattle.chip_promises.specs.Stops.{stops_of, watch_at}
use Rattle.chip_promises.specs.Histories.{S, P, byte_sent, item_codes_of}
use Rattle.chip_promises.specs.Invented.{inventing_model, InventsNothing, NoneBreaks, OneEachBreaks}
use Rattle.chip_promises.proofs.Stops.{cycles_are_stops, standby_still}

same_levels : (count : Chip → ℕ → ℕ) (f : Facts) (en : ℕ) (c : Chip) (m : Mem) (es : List ℕ)
    → levels_of (inventing_model count f en) c m es ≡ levels_of (ours f en) c m es
unfolding levels_of
same_levels count f en c m [] = refl
same_levels count f en c m (e ∷ es) = rw (same_levels count f en ((ours f en).next c e) ((ours f en).store c m e) es)

pub invents_nothing : InventsNothing
invents_nothing count kept f en c es h =
    kept f en c (mem [] []) es h
    ∙ ap (stops_of f (watch_at c) es) (same_levels count f en c (mem [] []) es)
    ∙ sym (cycles_are_stops old f en c (mem [] []) es h)

-- a write of one byte on part 2, from delivery: one cycle
abbrev write : List ℕ
write = item_codes_of (S ∷ byte_sent 0xA0 0 ∷ byte_sent 0 0 ∷ byte_sent 5 0 ∷ byte_sent 7 0 ∷ P ∷ [])

one_cycle : cycles_of (ours (facts_of 2) 0) (standby_of (facts_of 2) false) write ≡ 1
unfolding cycles_of facts_of event_with standby_of pin_at_first_of state_of decode_of enabled_of named_of address_start_of selected_of load_array_of loaded_of refuses_of latched_of filled_of taken_of received_of clocked_of started_of asks_of placed_of stopped_of stop_begun_of next_of begun_of
one_cycle = refl

no_cycle : cycles_of (inventing_model (λ c e. 0) (facts_of 2) 0) (standby_of (facts_of 2) false) write ≡ 0
unfolding cycles_of
no_cycle = refl

pub none_breaks : NoneBreaks
none_breaks kept =
    omega (arith, one_cycle, no_cycle, invents_nothing (λ c e. 0) kept (facts_of 2) 0 (standby_of (facts_of 2) false) write (standby_still (facts_of 2)))

-- an event that is no Stop
started : (f : Facts) (en : ℕ) (c : Chip) → cycles_of (ours f en) c (2 ∷ []) ≡ 0
unfolding cycles_of event_with begun_of
started f en c = refl

started_one : (f : Facts) (en : ℕ) (c : Chip) → cycles_of (inventing_model (λ c e. 1) f en) c (2 ∷ []) ≡ 1
unfolding cycles_of
started_one f en c = refl

pub one_each_breaks : OneEachBreaks
one_each_breaks kept =
    let f : Facts = facts_of 2 in
    let c : Chip = standby_of f false in
    omega (arith, started f 0 c, started_one f 0 c, invents_nothing (λ c e. 1) kept f 0 c (2 ∷ []) (standby_still f))
