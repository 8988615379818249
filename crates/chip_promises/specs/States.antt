-- The states that the promises start from. A promise takes a chip of any behaviour (Model, of the crate `chip`) and says what it must
-- keep; that ours keeps it is proved in proofs/. A chip that invents its cycles is such a chip too, and is shown to break promise 4
-- (Invented.antt); one that stores nothing keeps promises 1 to 3, and what it breaks is what is read back.
-- Assumes nothing.
use Rattle.std.specs.Prelude.{ℕ, ◌≡◌, true, List, [], ◌∷◌}
use Rattle.parts.specs.declared.Facts.{Facts}
use Rattle.line.specs.declared.Phase.{Phase}
use Rattle.line.specs.declared.Phase.TheVariants.{Idle, Receive, Send, Busy}
use Rattle.state.specs.declared.Chip.{Chip}
use Rattle.state.specs.Range.{in_range_of}

-- a state that refusal 4 does not refuse
abbrev pub StateInRange : Facts → Chip → Type 0
StateInRange f c = in_range_of f c ≡ true

-- no cycle is running
abbrev pub NotBusy : Phase → Type 0
NotBusy Idle = Unit {0}
NotBusy (Receive r) = Unit {0}
NotBusy (Send t) = Unit {0}
NotBusy (Busy y) = ⊥

abbrev pub Every : (ℕ → Type 0) → List ℕ → Type 0
Every Q [] = Unit {0}
Every Q (e ∷ es) = Q e × Every Q es
