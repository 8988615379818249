-- Demand 2, its second sentence: "On an idle chip of the named part and enable, power kept and no outside event but cycle ends,
-- what our driver reports written is then stored, what it reads is what is there, and bytes it was not asked to write are as
-- before." Each statement is a type over the function `run` that makes a run of choices, so that a run can break it; choices are
-- any list: true asks the driver once, false ends the chip's cycle, if one runs. So each holds at every moment of every run.
-- Proved of `our_run` in proofs/.
-- Assumes nothing.
use Rattle.std.specs.Prelude.{ℕ, ◌+◌, ◌<◌, ◌≤◌, ◌≡◌, Bool, true, false, ◌⊎◌, List, [], ◌∷◌, length, get_or}
use Rattle.parts.specs.declared.Facts.{Facts}
use Rattle.parts.specs.declared.Refusal.{Refusal}
use Rattle.parts.specs.Table.{facts_of}
use Rattle.parts.specs.Refusals.{number_of}
use Rattle.parts.specs.Bytes.{AllBelow}
use Rattle.line.specs.declared.Target.{Target}
use Rattle.line.specs.declared.Target.TheVariants.{Array as TheArray, Ident as TheIdent}
use Rattle.line.specs.declared.Phase.TheVariants.{Idle}
use Rattle.state.specs.declared.Chip.{Chip}
use Rattle.state.specs.Range.{in_range_of}
use Rattle.chip.specs.Memory.{Mem, cells_of}
use Rattle.chip.specs.Model.{ours}
use Rattle.chip_laws.specs.Range.{Typed}
use Rattle.driver.specs.declared.Request.{Request}
use Rattle.driver.specs.declared.Answer.{Answer}
use Rattle.driver.specs.declared.Answer.TheVariants.{Send, Done, Refused}
use Rattle.driver.specs.Request.{from_of}
use Rattle.driver.specs.Step.{driver_next_of}
use Rattle.driver.specs.Machine.{our_driver}
use Rattle.driver_promises.specs.Run.{bound_of}
use Rattle.driver_promises.specs.Promises.{Accepted}
use Rattle.bench.specs.Together.{System, start_of, together_of}
use Rattle.bench_promises.specs.Ground.{target_of, OnIdle}

-- a run of choices, from a system
abbrev pub Runs : Type 0
Runs = Facts → ℕ → List Bool → System → System

-- the run that the demands speak of
abbrev pub our_run : Runs
our_run f enable = together_of our_driver (ours f enable)

-- an accepted request and its buffer, on an idle chip
pub record Begins (r : Request) (xs : List ℕ) (c : Chip) (m : Mem) : Type 0 where
  pub accepted : Accepted r xs
  pub bytes : AllBelow 256 xs
  pub idle : OnIdle r c m

-- "On an idle chip of the named part and enable, power kept and no outside event but cycle ends": a request that is accepted, with its data
-- or its buffer, on such a chip; then, in any order and number, the driver is asked (true) or the chip's cycle ends (false)
pub record Session : Type 0 where
  pub request : Request
  pub buffer : List ℕ
  pub chip : Chip
  pub mem : Mem
  pub begins : Begins request buffer chip mem
  pub choices : List Bool

-- what the driver answers when it is asked next
abbrev pub answer_of : System → Answer
answer_of s = (driver_next_of s.driver s.level s.buffer).answer

-- the leading bytes that an answer reports
abbrev pub reported_of : Answer → ℕ
reported_of (Send e) = 0
reported_of (Done polls bytes) = bytes
reported_of (Refused f polls bytes) = bytes

-- how often the driver was asked
abbrev pub askings : List Bool → ℕ
askings [] = 0
askings (true ∷ bs) = askings bs + 1
askings (false ∷ bs) = askings bs

module _ (w : Session) where
  abbrev pub Writes : Type 0
  Writes = w.request.reads ≡ false

  abbrev pub Reads : Type 0
  Reads = w.request.reads ≡ true

  -- the driver is asked more often than a formula of the request
  abbrev pub Enough : Type 0
  Enough = bound_of w.request < askings w.choices

  -- driver and chip before the choices
  abbrev pub first : System
  first = start_of w.request w.buffer w.chip w.mem

-- and after them
abbrev pub after_choices : Runs → Session → System
after_choices run w = run (facts_of w.request.part) w.request.enable w.choices (first w)

-- the memory that a request does not speak of
abbrev pub other_of : Target → Target
other_of TheArray = TheIdent
other_of TheIdent = TheArray

module _ (r : Request) where
  -- byte i of the array, or of the identification page, whichever the request names; and from the request's first place on
  abbrev pub byte_in : Mem → ℕ → ℕ
  byte_in m i = get_or (cells_of (target_of r.place) m) i 0

  abbrev pub asked : Mem → ℕ → ℕ
  asked m i = byte_in m (from_of r.place + i)

  -- a chip in range; `Typed` is what the types say of every chip that code can hold
  pub record ChipRanged (c : Chip) : Type 0 where
    pub typed : Typed c
    pub ranged : in_range_of (facts_of r.part) c ≡ true

module _ (r : Request) (xs : List ℕ) (c : Chip) (m : Mem) (s : System) where
  -- a write, at any moment, refused or not
  pub record Safe : Type 0 where
    -- "what our driver reports written is then stored"; so it is as soon as the driver has seen the cycle's end
    pub reported : (i : ℕ) → i < reported_of (answer_of s) → asked r s.mem i ≡ get_or xs i 0
    pub seen : (i : ℕ) → i < s.driver.counts.seen → asked r s.mem i ≡ get_or xs i 0
    -- done is all of it
    pub done : (q n : ℕ) → answer_of s ≡ Done q n → n ≡ r.length
    -- and the chip is idle again, for the next request
    pub idle : (q n : ℕ) → answer_of s ≡ Done q n → s.chip.line.phase ≡ Idle
    -- a chip of the named part and enable acknowledges its select and address: 9, 14 and 15 are never met, and a refusal is 10 or 11
    pub selected : (f : Refusal) (q n : ℕ) → answer_of s ≡ Refused f q n → (number_of f ≡ 10) ⊎ (number_of f ≡ 11)
    -- "bytes it was not asked to write are as before": outside what was asked, in the other memory, and the lock
    pub outside : (i : ℕ) → (i < from_of r.place) ⊎ (from_of r.place + r.length ≤ i) → byte_in r s.mem i ≡ byte_in r m i
    pub other : cells_of (other_of (target_of r.place)) s.mem ≡ cells_of (other_of (target_of r.place)) m
    pub sizes : length (cells_of (target_of r.place) s.mem) ≡ length (cells_of (target_of r.place) m)
    pub lock : s.chip.line.core.locked ≡ c.line.core.locked
    -- and a byte that was asked for is as before or as asked
    pub inside : (i : ℕ) → i < r.length → (asked r s.mem i ≡ asked r m i) ⊎ (asked r s.mem i ≡ get_or xs i 0)

  -- a read, at any moment: nothing stored changes, it is never refused, and done it has the bytes that are there
  pub record ReadRight : Type 0 where
    pub mem : s.mem ≡ m
    pub lock : s.chip.line.core.locked ≡ c.line.core.locked
    pub cycles : s.cycles ≡ 0
    pub refused : (f : Refusal) (q n : ℕ) → answer_of s ≡ Refused f q n → ⊥
    pub done : (q n : ℕ) → answer_of s ≡ Done q n → n ≡ r.length
    pub read : (q n : ℕ) → answer_of s ≡ Done q n → (i : ℕ) → i < r.length → get_or s.buffer i 0 ≡ asked r m i
    pub size : length s.buffer ≡ r.length
    pub idle : (q n : ℕ) → answer_of s ≡ Done q n → s.chip.line.phase ≡ Idle

-- the statements
module _ (run : Runs) where
  module _ (w : Session) where
    abbrev pub SafeAfter : Type 0
    SafeAfter = Safe w.request w.buffer w.chip w.mem (after_choices run w)

    abbrev pub ReadRightAfter : Type 0
    ReadRightAfter = ReadRight w.request w.buffer w.chip w.mem (after_choices run w)

  -- writes, of the array and of the identification page
  abbrev pub WritesSafe : Type 0
  WritesSafe = (w : Session) → Writes w → SafeAfter w

  -- "what it reads is what is there"
  abbrev pub ReadsRight : Type 0
  ReadsRight = (w : Session) → Reads w → ReadRightAfter w

  -- and asked often enough it is done
  abbrev pub ReadsEnd : Type 0
  ReadsEnd = (w : Session) → Reads w → Enough w → answer_of (after_choices run w) ≡ Done 0 w.request.length

  -- a chip in range stays in range, so that a next request is not refused for the state
  abbrev pub StaysInRange : Type 0
  StaysInRange = (w : Session) → ChipRanged w.request w.chip → ChipRanged w.request (after_choices run w).chip
