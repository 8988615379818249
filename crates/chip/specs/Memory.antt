-- Latches and stored bytes: what an event does to them (document 01, rules 3, 6, 7, 8; document 02, §5).
-- Assumes nothing.
use Rattle.std.specs.Prelude.{ℕ, zero, suc, ◌*◌, ◌/◌, ◌%◌, Bool, true, false, cond, List, [], ◌∷◌, get_or, set, take, replicate, ltb}
use Rattle.parts.specs.declared.Facts.{Facts}
use Rattle.parts.specs.declared.Loss.{Loss}
use Rattle.parts.specs.declared.Loss.TheVariants.{Old, Lent}
use Rattle.parts.specs.declared.Event.{Event}
use Rattle.parts.specs.declared.Event.TheVariants.{Clock, Start, Stop, Ends, PinLow, PinHigh, PinFloat, Reset, Unknown}
use Rattle.line.specs.declared.Target.{Target}
use Rattle.line.specs.declared.Target.TheVariants.{Array, Ident}
use Rattle.line.specs.declared.Cycle.{Cycle}
use Rattle.line.specs.declared.Cycle.TheVariants.{Writing, Locking}
use Rattle.line.specs.declared.Phase.{Phase}
use Rattle.line.specs.declared.Phase.TheVariants.{Idle, Receive, Send, Busy}
use Rattle.line.specs.declared.Act.{Act}
use Rattle.line.specs.declared.Act.TheVariants.{Keep, Drop, Put}
use Rattle.line.specs.declared.Line.{Line}
use Rattle.line.specs.Rules.{next_of, act_of, level_of}
use Rattle.state.specs.declared.Chip.{Chip}

-- what is stored: the array and the identification page
pub record Mem : Type 0 where
  pub cells : List ℕ
  pub ident : List ℕ

abbrev pub mem : List ℕ → List ℕ → Mem
mem s d = record { cells = s; ident = d }

abbrev pub chip : Line → List ℕ → Chip
chip l k = record { line = l; latch = k }

-- ---- latches: a number below 256 at its place in the page is a latched byte, 256 and above is nothing

unfoldable pub no_latch : List ℕ
no_latch = replicate 64 256

abbrev pub latch_of : List ℕ → Act → List ℕ
latch_of k Keep = k
latch_of k Drop = no_latch
latch_of k (Put i b) = set k i b

-- ---- rule 7: at `E` the latched bytes enter that one page

unfoldable pub one_of : List ℕ → ℕ → ℕ → List ℕ
one_of s at x = cond (ltb x 256) (set s at x) s

abbrev pub entered_of : List ℕ → ℕ → List ℕ → List ℕ
entered_of s at [] = s
entered_of s at (x ∷ xs) = entered_of (one_of s at x) (suc at) xs

-- where the counter's page begins
unfoldable pub counter_page_of : Facts → ℕ → ℕ
counter_page_of f c = c / f.page * f.page

abbrev pub cells_of : Target → Mem → List ℕ
cells_of Array m = m.cells
cells_of Ident m = m.ident

abbrev pub with_cells : Target → List ℕ → Mem → Mem
with_cells Array l m = record { cells = l; ident = m.ident }
with_cells Ident l m = record { cells = m.cells; ident = l }

unfoldable pub committed_of : Facts → ℕ → List ℕ → Target → Mem → Mem
committed_of f c k t m = with_cells t (entered_of (cells_of t m) (counter_page_of f c) (take f.page k)) m

unfoldable pub cycle_stored_of : Facts → ℕ → List ℕ → Mem → Cycle → Mem
cycle_stored_of f c k m (Writing t) = committed_of f c k t m
cycle_stored_of f c k m Locking = m

unfoldable pub stored_of : Facts → Line → List ℕ → Mem → Phase → Mem
stored_of f l k m Idle = m
stored_of f l k m (Receive r) = m
stored_of f l k m (Send t) = m
stored_of f l k m (Busy y) = cycle_stored_of f l.core.counter k m y

-- ---- document 02, §5: power lost in a cycle. The bytes of a group are a column of the part table

-- a latched byte at one of n places, from place i on
abbrev pub latched_in : List ℕ → ℕ → ℕ → Bool
latched_in k i zero = false
latched_in k i (suc n) = cond (ltb (get_or k i 256) 256) true (latched_in k (suc i) n)

-- "each error-correction group with a latched byte": whether group number j of the page has one
unfoldable pub touched_of : ℕ → List ℕ → ℕ → Bool
touched_of g k j = latched_in k (j * g) g

-- "comes up holding those bytes": at a place of such a group the lent byte of that place, elsewhere nothing
unfoldable pub risen_of : ℕ → List ℕ → List ℕ → ℕ → ℕ
risen_of g k page i = cond (touched_of g k (i / g)) (get_or page i 0) 256

-- at n places, from place i on
abbrev pub risen_from : ℕ → List ℕ → List ℕ → ℕ → ℕ → List ℕ
risen_from g k page i zero = []
risen_from g k page i (suc n) = risen_of g k page i ∷ risen_from g k page (suc i) n

-- it enters that one page as latched bytes do at `E`, and "every other byte is as before"
unfoldable pub lost_of : Facts → Chip → List ℕ → Mem → Loss → Mem
lost_of f c page m Old = m
lost_of f c page m (Lent lock) = stored_of f c.line (risen_from f.group c.latch page 0 f.page) m c.line.phase

-- only the end of a cycle stores, and a loss of power in one spoils
unfoldable pub store_with : List ℕ → Facts → Chip → Mem → Event → Mem
store_with page f c m (Clock v) = m
store_with page f c m Start = m
store_with page f c m Stop = m
store_with page f c m Ends = stored_of f c.line c.latch m c.line.phase
store_with page f c m PinLow = m
store_with page f c m PinHigh = m
store_with page f c m PinFloat = m
store_with page f c m (Reset w) = lost_of f c page m w
store_with page f c m Unknown = m

-- where no page is lent
abbrev pub store_of : Facts → Chip → Mem → Event → Mem
store_of = store_with []

-- ---- rule 8: the byte that is being sent: at the counter, or under 1011 at the counter modulo P

unfoldable pub shown_of : Facts → ℕ → Mem → Target → ℕ
shown_of f c m Array = get_or m.cells c 0
shown_of f c m Ident = get_or m.ident (c % f.page) 0

unfoldable pub seen_of : Facts → Line → Mem → Phase → ℕ
seen_of f l m Idle = 0
seen_of f l m (Receive r) = 0
seen_of f l m (Send t) = shown_of f l.core.counter m t
seen_of f l m (Busy y) = 0

-- ---- the answers of one event

unfoldable pub state_of : Facts → ℕ → Chip → Event → Chip
state_of f enable c e = record { line = next_of f enable c.line e; latch = latch_of c.latch (act_of f enable c.line e) }

unfoldable pub chip_level_of : Facts → ℕ → Chip → Mem → Event → ℕ
chip_level_of f enable c m e = level_of f enable c.line (seen_of f c.line m c.line.phase) e
