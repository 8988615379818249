-- Document 01, 'State out of range' (refusal 4), item by item. There is no latch page to be wrong: in data and in a cycle it is
-- the counter's page.
-- Assumes nothing.
use Rattle.std.specs.Prelude.{ℕ, ◌+◌, ◌-◌, ◌%◌, Bool, true, false, not, cond, List, [], ◌∷◌, get_or, drop, ltb, leb, eqb}
use Rattle.parts.specs.declared.Facts.{Facts}
use Rattle.line.specs.declared.Pin.{Pin}
use Rattle.line.specs.declared.Pin.TheVariants.{Absent, Low, High, Floating}
use Rattle.line.specs.declared.Target.{Target}
use Rattle.line.specs.declared.Target.TheVariants.{Array, Ident}
use Rattle.line.specs.declared.Recv.{Recv}
use Rattle.line.specs.declared.Recv.TheVariants.{Select, AddressHigh, AddressLow, Fill, LockByte, LockTaken}
use Rattle.line.specs.declared.Cycle.{Cycle}
use Rattle.line.specs.declared.Cycle.TheVariants.{Writing, Locking}
use Rattle.line.specs.declared.Phase.{Phase}
use Rattle.line.specs.declared.Phase.TheVariants.{Idle, Receive, Send, Busy}
use Rattle.line.specs.declared.Core.{Core}
use Rattle.line.specs.Rules.{is_high}
use Rattle.state.specs.declared.Chip.{Chip}

-- no latch in a list of them
abbrev pub empty_of : List ℕ → Bool
empty_of [] = true
empty_of (x ∷ xs) = cond (ltb x 256) false (empty_of xs)

-- "latch marks at P or beyond"
unfoldable pub marks_right_of : Facts → List ℕ → Bool
marks_right_of f k = empty_of (drop f.page k)

-- "pin state where there is no pin, or none where there is one"
unfoldable pub pin_right_of : Facts → Pin → Bool
pin_right_of f Absent = not f.pin
pin_right_of f Low = f.pin
pin_right_of f High = f.pin
pin_right_of f Floating = f.pin

-- "pin high in a transfer not marked as inhibited"
unfoldable pub mark_right_of : Core → Bool
mark_right_of c = cond (is_high c.pin) c.inhibited true

-- "identification target ... without such a page"
unfoldable pub target_right_of : Facts → Target → Bool
target_right_of f Array = true
target_right_of f Ident = f.ident

-- "... or lock without such a page"
unfoldable pub lock_right_of : Facts → Core → Bool
lock_right_of f c = cond c.locked f.ident true

-- "counter at P or above in identification data or cycle"
unfoldable pub location_right_of : Facts → Core → Target → Bool
location_right_of f c Array = true
location_right_of f c Ident = cond f.ident (ltb c.counter f.page) false

-- a latch at the place before the counter, rolled over
unfoldable pub last_right_of : Facts → Core → List ℕ → Bool
last_right_of f c k = ltb (get_or k ((c.counter + (f.page - 1)) % f.page) 0) 256

-- "no latch at the place before the counter (rolled over) ... just after an acknowledged write byte"
unfoldable pub acked_right_of : Facts → Core → List ℕ → ℕ → Bool → Bool
acked_right_of f c k left acked = cond acked (cond (eqb left 8) (last_right_of f c k) true) true

-- "an identification write with latches ... on a locked page"
unfoldable pub open_right_of : Core → List ℕ → Target → Bool
open_right_of c k Array = true
open_right_of c k Ident = cond c.locked (empty_of k) true

unfoldable pub fill_right_of : Facts → Core → List ℕ → ℕ → Target → Bool → Bool
fill_right_of f c k left t acked =
    cond (location_right_of f c t) (cond (acked_right_of f c k left acked) (open_right_of c k t) false) false

-- "or a lock with its byte acknowledged or in a cycle, on a locked page"
unfoldable pub unlocked_right_of : Facts → Core → Bool
unlocked_right_of f c = cond (location_right_of f c Ident) (not c.locked) false

unfoldable pub recv_right_of : Facts → Core → List ℕ → ℕ → Recv → Bool
recv_right_of f c k left Select = true
recv_right_of f c k left (AddressHigh t) = target_right_of f t
recv_right_of f c k left (AddressLow t high) = target_right_of f t
recv_right_of f c k left (Fill t acked) = fill_right_of f c k left t acked
recv_right_of f c k left LockByte = location_right_of f c Ident
recv_right_of f c k left (LockTaken on) = unlocked_right_of f c

-- "an identification write ... in a cycle ... on a locked page", "no latch ... in a write cycle"
unfoldable pub writing_right_of : Facts → Core → List ℕ → Target → Bool
writing_right_of f c k Array = last_right_of f c k
writing_right_of f c k Ident = cond (unlocked_right_of f c) (last_right_of f c k) false

unfoldable pub cycle_right_of : Facts → Core → List ℕ → Cycle → Bool
cycle_right_of f c k (Writing t) = writing_right_of f c k t
cycle_right_of f c k Locking = unlocked_right_of f c

unfoldable pub phase_right_of : Facts → Core → List ℕ → ℕ → Phase → Bool
phase_right_of f c k left Idle = true
phase_right_of f c k left (Receive r) = cond (mark_right_of c) (recv_right_of f c k left r) false
phase_right_of f c k left (Send t) = cond (mark_right_of c) (target_right_of f t) false
phase_right_of f c k left (Busy y) = cycle_right_of f c k y

unfoldable pub rest_right_of : Facts → Core → List ℕ → ℕ → Phase → Bool
rest_right_of f c k left ph = cond (pin_right_of f c.pin) (cond (lock_right_of f c) (phase_right_of f c k left ph) false) false

-- "chip counter at or above the array size; more than 8 bits of a byte", and the rest
unfoldable pub in_range_of : Facts → Chip → Bool
in_range_of f c =
    cond (ltb c.line.core.counter f.size)
    (cond (leb c.line.left 8)
    (cond (marks_right_of f c.latch) (rest_right_of f c.line.core c.latch c.line.left c.line.phase) false)
    false)
    false
