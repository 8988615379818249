-- The promises are not empty: a bound that is met, and states that the promises start from.
-- Assumes nothing.
use Rattle.std.specs.Prelude.{ℕ, ◌≡◌, false, List, [], ◌∷◌}
use Rattle.parts.specs.declared.Facts.{Facts}
use Rattle.parts.specs.Table.{facts_of}
use Rattle.line.specs.declared.Pin.TheVariants.{High}
use Rattle.chip.specs.Delivery.{standby_of, delivered_of}
use Rattle.chip.specs.Model.{Model}
use Rattle.chip.specs.Runs.{after_of, memory_of, cycles_of}
use Rattle.chip_promises.specs.States.{StateInRange}
use Rattle.chip_promises.specs.Pages.{differing_of}
use Rattle.chip_promises.specs.Lock.{Locked}
use Rattle.chip_promises.specs.Histories.{S, P, E, H, byte_sent, item_codes_of}

-- on a part with one address byte: a byte written to the array, then one to the identification page, each to the end of its cycle
abbrev pub two_writes : List ℕ
two_writes =
    item_codes_of
    (S ∷ byte_sent 0xA0 0 ∷ byte_sent 5 0 ∷ byte_sent 7 0 ∷ P ∷ E ∷ S ∷ byte_sent 0xB0 0 ∷ byte_sent 5 0 ∷ byte_sent 7 0 ∷ P ∷ E ∷ [])

-- Promise 1 cannot be sharpened: two pages differ after two cycles.
abbrev pub BoundIsMet : (Facts → ℕ → Model) → Type 0
BoundIsMet M =
    (differing_of (facts_of 1) (memory_of (M (facts_of 1) 0) (standby_of (facts_of 1) false) (delivered_of 1) two_writes) (delivered_of 1) ≡ 2)
    × (cycles_of (M (facts_of 1) 0) (standby_of (facts_of 1) false) two_writes ≡ 2)

-- the lock command of the bench, to the end of its cycle
abbrev pub locks : List ℕ
locks = item_codes_of (S ∷ byte_sent 0xB0 0 ∷ byte_sent 4 0 ∷ byte_sent 0 0 ∷ byte_sent 2 0 ∷ P ∷ E ∷ [])

-- Promise 2 starts somewhere: a delivered chip can be locked, and the locked chip is accepted.
abbrev pub LockIsReached : (Facts → ℕ → Model) → Type 0
LockIsReached M =
    StateInRange (facts_of 3) (after_of (M (facts_of 3) 0) (standby_of (facts_of 3) false) locks)
    × Locked (after_of (M (facts_of 3) 0) (standby_of (facts_of 3) false) locks)

-- Promise 3 does: the pin can be raised in the middle of a transfer, and the chip is accepted.
abbrev pub HighIsReached : (Facts → ℕ → Model) → Type 0
HighIsReached M =
    StateInRange (facts_of 3) (after_of (M (facts_of 3) 0) (standby_of (facts_of 3) false) (item_codes_of (S ∷ byte_sent 0xA0 0 ∷ H ∷ [])))
    × ((after_of (M (facts_of 3) 0) (standby_of (facts_of 3) false) (item_codes_of (S ∷ byte_sent 0xA0 0 ∷ H ∷ []))).line.core.pin ≡ High)
