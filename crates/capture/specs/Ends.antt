-- Document 02, §3: "A capture doesn't show a cycle's end: put `E` before the first later Start whose first byte the capture shows acknowledged."
-- Assumes nothing.
use Rattle.std.specs.Prelude.{ℕ, zero, suc, ◌+◌, Bool, true, false, cond, ◌&&◌, List, [], ◌∷◌, eqb, ltb}
use Rattle.parts.specs.Bytes.{flag_of}
use Rattle.line.specs.declared.Phase.{Phase}
use Rattle.line.specs.declared.Phase.TheVariants.{Idle, Receive, Send, Busy}
use Rattle.state.specs.declared.Chip.{Chip}
use Rattle.chip.specs.Model.{Model}

-- the next k events are clocks, and the k-th is 0: with nine, a byte that is acknowledged
abbrev pub acked_of : ℕ → List ℕ → Bool
acked_of zero es = false
acked_of (suc k) [] = false
acked_of (suc k) (e ∷ es) = cond (eqb k 0) (eqb e 0) (cond (ltb e 2) (acked_of k es) false)

-- a cycle runs
abbrev pub busy_in : Phase → Bool
busy_in Idle = false
busy_in (Receive r) = false
busy_in (Send t) = false
busy_in (Busy y) = true

-- at this event of a capture, followed by those: a Start in a cycle, acknowledged
unfoldable pub end_due_of : Chip → ℕ → List ℕ → Bool
end_due_of c e es = eqb e 2 && (busy_in c.line.phase && acked_of 9 es)

-- the events of a capture with `E` put in: 4 is its code
unfoldable pub with_ends_of : Model → Chip → List ℕ → List ℕ
with_ends_of M c [] = []
with_ends_of M c (e ∷ es) =
    cond (end_due_of c e es) (4 ∷ e ∷ with_ends_of M (M.next (M.next c 4) e) es) (e ∷ with_ends_of M (M.next c e) es)

-- how many were put in
abbrev pub ends_in : List ℕ → ℕ
ends_in [] = 0
ends_in (e ∷ es) = flag_of (eqb e 4) + ends_in es
