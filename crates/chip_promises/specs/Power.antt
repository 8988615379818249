-- Document 02, §5: "Prove that a cut at any event spoils at most the groups of the one page." Said of any chip that is given a page and a
-- flag for a loss of power; event code 8 is the reset.
-- Assumes nothing.
use Rattle.std.specs.Prelude.{ℕ, ◌/◌, ◌%◌, ◌<◌, ◌≤◌, ◌≡◌, Bool, false, List, length, get_or, Ok}
use Rattle.parts.specs.declared.Facts.{Facts}
use Rattle.parts.specs.declared.Loss.TheVariants.{Old, Lent}
use Rattle.parts.specs.Table.{facts_of}
use Rattle.parts.specs.Sound.{Sound}
use Rattle.parts.specs.Bytes.{AllBelow}
use Rattle.line.specs.declared.Target.{Target}
use Rattle.line.specs.declared.Cycle.TheVariants.{Writing, Locking}
use Rattle.line.specs.declared.Phase.{Phase}
use Rattle.line.specs.declared.Phase.TheVariants.{Idle, Receive, Send, Busy}
use Rattle.state.specs.declared.Chip.{Chip}
use Rattle.chip.specs.Memory.{Mem, no_latch, cells_of}
use Rattle.chip.specs.Model.{Model, PowerCut, cut_by, old}
use Rattle.chip.specs.Runs.{after_of, memory_of}
use Rattle.chip_promises.specs.States.{NotBusy}
use Rattle.chip_promises.specs.Pages.{page_of}
use Rattle.chip_promises.specs.Calls.{Step}

-- a chip of any behaviour, for each page and flag that it is given
abbrev pub PowerModel : Type 0
PowerModel = PowerCut → Facts → ℕ → Model

-- ---- which bytes may be spoiled

-- "Groups are four aligned bytes on parts 2 to 5 and one byte on 0 and 1": a byte's group is its place in the page by that number
pub record GroupSizes : Type 0 where
  pub one : (part : ℕ) → part < 2 → (facts_of part).group ≡ 1
  pub four : (part : ℕ) → 2 ≤ part → part ≤ 5 → (facts_of part).group ≡ 4

-- no byte is being written
abbrev pub NotWriting : Phase → Type 0
NotWriting Idle = Unit {0}
NotWriting (Receive r) = Unit {0}
NotWriting (Send t) = Unit {0}
NotWriting (Busy (Writing t)) = ⊥
NotWriting (Busy Locking) = Unit {0}

-- byte j stands in the page that is being written, and a byte is latched in its error-correction group: at place `by` of the page
pub record InGroup (f : Facts) (c : Chip) (j : ℕ) : Type 0 where
  pub page : j / f.page ≡ c.line.core.counter / f.page
  pub by : ℕ
  pub group : by / f.group ≡ j % f.page / f.group
  pub latched : get_or c.latch by 256 < 256

-- what a reset of a chip makes of its memory, with a lent page
pub record Spoils (f : Facts) (c : Chip) (m m' : Mem) (page : List ℕ) : Type 0 where
  -- outside a write cycle nothing stored changes
  pub quiet : NotWriting c.line.phase → m' ≡ m
  -- no memory grows or shrinks, and where one is written all of the other is as before
  pub size : (t : Target) → length (cells_of t m') ≡ length (cells_of t m)
  pub beside : (t u : Target) → c.line.phase ≡ Busy (Writing t) → (u ≡ t → ⊥) → cells_of u m' ≡ cells_of u m
  -- "every other byte is as before"
  pub kept : (t : Target) → c.line.phase ≡ Busy (Writing t) → (j : ℕ) → (InGroup f c j → ⊥) → get_or (cells_of t m') j 0 ≡ get_or (cells_of t m) j 0
  -- "each error-correction group with a latched byte comes up holding those bytes"
  pub lent : (t : Target) → c.line.phase ≡ Busy (Writing t) → (j : ℕ) → InGroup f c j → j < length (cells_of t m)
      → get_or (cells_of t m') j 0 ≡ get_or page (j % f.page) 0

-- After any events from any state over any memory, whatever page and flag: a reset spoils at most the groups with a latched byte of the
-- one page, and these hold what was lent.
abbrev pub CutSpoilsGroups : PowerModel → Type 0
CutSpoilsGroups M =
    (f : Facts) → Sound f → (enable : ℕ) (lock : Bool) (page : List ℕ) → AllBelow 256 page → (c : Chip) (m : Mem) (es : List ℕ)
    → let N = M (cut_by (Lent lock) page) f enable in
    Spoils f (after_of N c es) (memory_of N c m es) (N.store (after_of N c es) (memory_of N c m es) 8) page

-- nothing is left open: what a reset leaves is one memory
abbrev pub SpoilsOneWay : Type 0
SpoilsOneWay = (f : Facts) → Sound f → (c : Chip) (m m' m'' : Mem) (page : List ℕ) → Spoils f c m m' page → Spoils f c m m'' page → m' ≡ m''

-- ---- "a cycle that was locking leaves the lock as a given flag says"

abbrev pub NotLocking : Phase → Type 0
NotLocking Idle = Unit {0}
NotLocking (Receive r) = Unit {0}
NotLocking (Send t) = Unit {0}
NotLocking (Busy (Writing t)) = Unit {0}
NotLocking (Busy Locking) = ⊥

-- whether the chip is locked after a reset
abbrev pub lock_then : Model → Chip → Bool
lock_then N c = (N.next c 8).line.core.locked

pub record LockAsFlag (M : PowerModel) : Type 0 where
  pub flag : (f : Facts) (enable : ℕ) (lock : Bool) (page : List ℕ) (c : Chip) → c.line.phase ≡ Busy Locking → lock_then (M (cut_by (Lent lock) page) f enable) c ≡ lock
  pub none : (f : Facts) (enable : ℕ) (page : List ℕ) (c : Chip) → c.line.phase ≡ Busy Locking → lock_then (M (cut_by Old page) f enable) c ≡ false
  -- in every other state it is as before
  pub kept : (f : Facts) (enable : ℕ) (w : PowerCut) (c : Chip) → NotLocking c.line.phase → lock_then (M w f enable) c ≡ c.line.core.locked

-- a chip with this lock
abbrev pub with_lock : Bool → Chip → Chip
with_lock b c =
    record { line = record { core = record { counter = c.line.core.counter; pin = c.line.core.pin; inhibited = c.line.core.inhibited; locked = b }; phase = c.line.phase; left = c.line.left; shift = c.line.shift }; latch = c.latch }

-- rule 9, whose first sentence stays: "Standby, counter 0, latches dropped, pin kept"; the Stop counted the cycle, and its cut counts none
pub record ResetStands (M : PowerModel) : Type 0 where
  pub standby : (f : Facts) (enable : ℕ) (w : PowerCut) (c : Chip) → ((M w f enable).next c 8).line.phase ≡ Idle
  pub counter : (f : Facts) (enable : ℕ) (w : PowerCut) (c : Chip) → ((M w f enable).next c 8).line.core.counter ≡ 0
  pub latches : (f : Facts) (enable : ℕ) (w : PowerCut) (c : Chip) → ((M w f enable).next c 8).latch ≡ no_latch
  pub pin : (f : Facts) (enable : ℕ) (w : PowerCut) (c : Chip) → ((M w f enable).next c 8).line.core.pin ≡ c.line.core.pin
  pub begun : (f : Facts) (enable : ℕ) (w : PowerCut) (c : Chip) → (M w f enable).begun c 8 ≡ 0
  -- whatever is given moves nothing of it but the lock
  pub alike : (f : Facts) (enable : ℕ) (w v : PowerCut) (c : Chip) → with_lock false ((M w f enable).next c 8) ≡ with_lock false ((M v f enable).next c 8)

-- ---- a loss of power is one only in a cycle

-- what is given for it moves nothing but a reset in a cycle, and never a level or a count
pub record CutOnlyInCycle (M : PowerModel) : Type 0 where
  pub told : (f : Facts) (enable : ℕ) (w v : PowerCut) (c : Chip) (m : Mem) (e : ℕ)
      → ((M w f enable).level c m e ≡ (M v f enable).level c m e) × ((M w f enable).begun c e ≡ (M v f enable).begun c e)
  pub moved : (f : Facts) (enable : ℕ) (w v : PowerCut) (c : Chip) (m : Mem) (e : ℕ) → (e ≡ 8 → NotBusy c.line.phase)
      → ((M w f enable).next c e ≡ (M v f enable).next c e) × ((M w f enable).store c m e ≡ (M v f enable).store c m e)

-- ---- these leave nothing open

pub record Powered (M : PowerModel) : Type 0 where
  pub spoils : CutSpoilsGroups M
  pub lock : LockAsFlag M
  pub stands : ResetStands M
  pub only : CutOnlyInCycle M

-- two chips do the same at an event
pub record SameAt (M N : Model) (c : Chip) (m : Mem) (e : ℕ) : Type 0 where
  pub next : M.next c e ≡ N.next c e
  pub store : M.store c m e ≡ N.store c m e
  pub level : M.level c m e ≡ N.level c m e
  pub begun : M.begun c e ≡ N.begun c e

-- who keeps them, and does the same as N while power is kept, does the same with any page and flag, if N keeps them too
abbrev pub PowerPinned : Type 0
PowerPinned = (M N : PowerModel) → Powered M → Powered N
    → ((f : Facts) (enable : ℕ) (c : Chip) (m : Mem) (e : ℕ) → SameAt (M old f enable) (N old f enable) c m e)
    → (f : Facts) → Sound f → (enable : ℕ) (lock : Bool) (page : List ℕ) → AllBelow 256 page → (c : Chip) (m : Mem) (e : ℕ)
    → SameAt (M (cut_by (Lent lock) page) f enable) (N (cut_by (Lent lock) page) f enable) c m e

-- ---- "the program's `R` uses the old contents and no lock"

-- the page that is being written, as it stands, and no lock
abbrev pub own : Facts → Chip → Mem → Target → PowerCut
own f c m t = cut_by (Lent false) (page_of f.page (c.line.core.counter / f.page) (cells_of t m))

-- two of them leave the same chip and memory
pub record SameReset (M N : Model) (c : Chip) (m : Mem) : Type 0 where
  pub chip : M.next c 8 ≡ N.next c 8
  pub mem : M.store c m 8 ≡ N.store c m 8

-- what the old contents and no lock leave is what lending the page's own bytes and no lock leaves; in a locking cycle any page does
pub record OldIsOwnPage (M : PowerModel) : Type 0 where
  pub writing : (f : Facts) → Sound f → (enable : ℕ) (c : Chip) (m : Mem) (t : Target) → c.line.phase ≡ Busy (Writing t) → AllBelow 256 (cells_of t m)
      → SameReset (M (own f c m t) f enable) (M old f enable) c m
  pub locking : (f : Facts) (enable : ℕ) (c : Chip) (m : Mem) (page : List ℕ) → c.line.phase ≡ Busy Locking
      → SameReset (M (cut_by (Lent false) page) f enable) (M old f enable) c m
  -- and nothing stored changes
  pub still : (f : Facts) (enable : ℕ) (c : Chip) (m : Mem) → (M old f enable).store c m 8 ≡ m

-- ---- of any function that is called as `step` is: a reset that is not refused, on whatever chip and memory a series of calls has come to
pub record StepSpoils (S : Step) : Type 0 where
  pub bytes : (part enable : ℕ) (lock : Bool) (page : List ℕ) (c : Chip) (m : Mem) → AllBelow 256 page
      → (S part enable (cut_by (Lent lock) page) c m 8).answer.verdict ≡ Ok tt
      → Spoils (facts_of part) c m (S part enable (cut_by (Lent lock) page) c m 8).mem page
  pub lock : (part enable : ℕ) (lock : Bool) (page : List ℕ) (c : Chip) (m : Mem) → c.line.phase ≡ Busy Locking
      → (S part enable (cut_by (Lent lock) page) c m 8).answer.verdict ≡ Ok tt
      → (S part enable (cut_by (Lent lock) page) c m 8).answer.chip.line.core.locked ≡ lock
