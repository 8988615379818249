-- "Invented cycle counts" (document 01, 'Strength of the promises'): a chip that is ours but for the cycles it says it begins.
-- Assumes nothing.
use Rattle.std.specs.Prelude.{ℕ, ◌≡◌, List}
use Rattle.parts.specs.declared.Facts.{Facts}
use Rattle.line.specs.Rules.{NoTransfer}
use Rattle.state.specs.declared.Chip.{Chip}
use Rattle.chip.specs.Model.{Model, ours}
use Rattle.chip.specs.Runs.{cycles_of}
use Rattle.chip_promises.specs.Stops.{CyclesAreStops}

abbrev pub inventing_model : (Chip → ℕ → ℕ) → Facts → ℕ → Model
inventing_model count f enable = record { next = (ours f enable).next; store = (ours f enable).store; level = (ours f enable).level; begun = count }

-- If it keeps promise 4, its counts are ours, over any events from any state with no transfer under way.
abbrev pub InventsNothing : Type 0
InventsNothing =
    (count : Chip → ℕ → ℕ) → CyclesAreStops (inventing_model count)
    → (f : Facts) (enable : ℕ) (c : Chip) (es : List ℕ) → NoTransfer c.line.phase
    → cycles_of (inventing_model count f enable) c es ≡ cycles_of (ours f enable) c es

-- So one that never begins a cycle breaks it, and one that begins a cycle at every event.
abbrev pub NoneBreaks : Type 0
NoneBreaks = CyclesAreStops (inventing_model (λ c e. 0)) → ⊥

abbrev pub OneEachBreaks : Type 0
OneEachBreaks = CyclesAreStops (inventing_model (λ c e. 1)) → ⊥
