-- Document 02, §3: "mark the first clock where the level differs from the model's, among data bits the model sends and ninth clocks of other bytes."
-- Assumes nothing.
use Rattle.std.specs.Prelude.{ℕ, ◌+◌, Bool, true, false, not, cond, ◌&&◌, List, [], ◌∷◌, get_or, eqb, ltb}
use Rattle.parts.specs.Bytes.{flag_of}
use Rattle.line.specs.declared.Phase.{Phase}
use Rattle.line.specs.declared.Phase.TheVariants.{Idle, Receive, Send, Busy}
use Rattle.line.specs.declared.Line.{Line}
use Rattle.state.specs.declared.Chip.{Chip}
use Rattle.chip.specs.Model.{Model}
use Rattle.chip.specs.Memory.{Mem}
use Rattle.capture.specs.declared.Mark.{Mark}
use Rattle.capture.specs.declared.Mark.TheVariants.{Same, At}

-- "A byte is nine clocks": the clocks since the last Start, Stop or whole byte, 0 to 8, after an event. An end is no event of the capture
unfoldable pub place_of : ℕ → ℕ → ℕ
place_of place e = cond (ltb e 2) (cond (ltb place 8) (place + 1) 0) (cond (ltb e 4) 0 place)

-- 1 for a clock
abbrev pub clock_of : ℕ → ℕ
clock_of e = flag_of (ltb e 2)

abbrev pub clocks_in : List ℕ → ℕ
clocks_in [] = 0
clocks_in (e ∷ es) = clock_of e + clocks_in es

abbrev pub sends_in : Phase → Bool
sends_in Idle = false
sends_in (Receive r) = false
sends_in (Send t) = true
sends_in (Busy y) = false

-- "data bits the model sends and ninth clocks of other bytes": of a byte that the model sends, the bits before the ninth clock
unfoldable pub compared_of : Line → ℕ → Bool
compared_of l place = cond (sends_in l.phase) (ltb 0 l.left) (eqb place 8)

-- a clock that is compared, and differs
unfoldable pub differs_of : Model → Chip → Mem → ℕ → ℕ → Bool
differs_of M c m place e = ltb e 2 && (compared_of c.line place && not (eqb (M.level c m e) e))

-- the first such: the sample at which it rises, its number among the clocks, and the line's level. The events come with their ends put in;
-- `rises` has the sample of each clock, `n` clocks were before
unfoldable pub mark_from : Model → Chip → Mem → ℕ → ℕ → List ℕ → List ℕ → Mark
mark_from M c m place n rises [] = Same
mark_from M c m place n rises (e ∷ es) =
    cond (differs_of M c m place e) (At (get_or rises n 0) n e)
    (mark_from M (M.next c e) (M.store c m e) (place_of place e) (n + clock_of e) rises es)

-- of two marks, the first
abbrev pub sooner_mark : Mark → Mark → Mark
sooner_mark Same k = k
sooner_mark (At s n v) k = At s n v
