-- The relation between driver and chip, by the driver's phase, that each asking and each end of a cycle keeps.
-- Assumes nothing.
use Prim.Native.Nat.{ℕ, ◌+◌, ◌-◌, ◌*◌, ◌/◌, ◌%◌, ◌≤◌, ◌<◌}
use mathlib.Core.Path.{◌≡◌}
use mathlib.Core.Bool.{Bool, true, false, cond, ◌||◌}
use mathlib.Core.Logic.{◌⊎◌}
use mathlib.Core.List.{List}
use lib.ListN.{length, get_or}
use Rattle.parts.specs.declared.Facts.{Facts}
use Rattle.parts.specs.Table.{facts_of}
use Rattle.line.specs.declared.Pin.{Pin}
use Rattle.line.specs.declared.Target.{Target}
use Rattle.line.specs.declared.Target.TheVariants.{Array as TheArray, Ident as TheIdent}
use Rattle.line.specs.declared.Recv.{Recv}
use Rattle.line.specs.declared.Recv.TheVariants.{Select as SelectByte, AddressHigh, AddressLow, Fill}
use Rattle.line.specs.declared.Cycle.TheVariants.{Writing}
use Rattle.line.specs.declared.Phase.TheVariants.{Idle, Receive, Send, Busy}
use Rattle.line.specs.declared.Line.{Line}
use Rattle.line.specs.Rules.{is_high, address_start_of}
use Rattle.chip.specs.Memory.{Mem, no_latch, cells_of, with_cells, committed_of}
use Rattle.driver.specs.declared.Request.{Request}
use Rattle.driver.specs.declared.Slot.{Slot}
use Rattle.driver.specs.declared.Slot.TheVariants.{Select, High, Low, Data, Poll, Turn, Take}
use Rattle.driver.specs.declared.Failed.{Failed}
use Rattle.driver.specs.declared.Failed.TheVariants.{AtSelect, AtHigh, AtLow, AtData, AtPolls}
use Rattle.driver.specs.declared.Phase.{Phase}
use Rattle.driver.specs.declared.Phase.TheVariants.{Ready, Bits, Heard, Rest, Over}
use Rattle.driver.specs.declared.Counts.{Counts}
use Rattle.driver.specs.Request.{from_of, room_of}
use Rattle.driver.specs.Step.{select_name_of, select_at, bit_of}
use Rattle.driver_promises.proofs.Inv.{stop}
use Rattle.driver_promises.proofs.Bytes.{register}
use Rattle.bench_promises.specs.Ground.{target_of}
use Rattle.bench_promises.proofs.Wrote.{wrote}

-- a byte v is being received: b of its bits are in
pub record Taking (rc : Recv) (b v : ℕ) (l : Line) : Type 0 where
  pub phase : l.phase ≡ Receive rc
  pub left : l.left ≡ 8 - b
  pub shift : l.shift ≡ register v b

-- whether data of this target are refused
abbrev pub refusing : Target → Pin → Bool → Bool
refusing TheArray pin locked = is_high pin
refusing TheIdent pin locked = is_high pin || locked

-- where a run starts: the request, the buffer, what is stored, the chip's pin and lock
pub record Given : Type 0 where
  pub request : Request
  pub bytes : List ℕ
  pub stored : Mem
  pub pin : Pin
  pub locked : Bool

module _ (g : Given) where
  abbrev pub F : Facts
  F = facts_of g.request.part

  abbrev pub T : Target
  T = target_of g.request.place

  abbrev pub from : ℕ
  from = from_of g.request.place

  -- what is stored once the first i bytes are; a read stores nothing
  abbrev pub W : ℕ → Mem
  W i = cond g.request.reads g.stored (with_cells T (wrote (cells_of T g.stored) from g.bytes i) g.stored)

  -- the byte that is read at place i
  abbrev pub there : ℕ → ℕ
  there i = get_or (cells_of T g.stored) (from + i) 0

  -- the bytes of a part that begins with byte number s
  abbrev pub select_b : ℕ → ℕ
  select_b s = select_at (select_name_of g.request.place) F.wide g.request.enable (from + s)

  abbrev pub high_b : ℕ → ℕ
  high_b s = (from + s) / 256 % 256

  abbrev pub low_b : ℕ → ℕ
  low_b s = (from + s) % 256

  -- in the head of a part or a read
  pub record Heading (rc : Recv) (b v a : ℕ) (l : Line) (m : Mem) : Type 0 where
    pub taking : Taking rc b v l
    pub marked : l.core.inhibited ≡ is_high g.pin
    pub mem : m ≡ W a

  -- the bits above the last address byte: with it they are the address
  pub record Lower (b v a s : ℕ) (l : Line) (m : Mem) : Type 0 where
    pub bits : ℕ
    pub address : bits * 256 + low_b s ≡ from + s
    pub head : Heading (AddressLow T bits) b v a l m

  -- in a data byte: the counter stands at its place, and a cycle now would leave the bytes up to it
  pub record Filling (b a s : ℕ) (l : Line) (k : List ℕ) (m : Mem) : Type 0 where
    pub acked : Bool
    pub taking : Taking (Fill T acked) b (get_or g.bytes a 0) l
    pub marked : l.core.inhibited ≡ is_high g.pin
    pub mem : m ≡ W s
    pub counter : l.core.counter ≡ from + a
    pub long : length k ≡ 64
    pub commit : committed_of F l.core.counter k T (W s) ≡ W a

  -- a data byte was acknowledged
  pub record Filled (a s : ℕ) (l : Line) (k : List ℕ) (m : Mem) (v : ℕ) : Type 0 where
    pub level : v ≡ 0
    pub taking : Taking (Fill T true) 0 0 l
    pub free : refusing T g.pin g.locked ≡ false
    pub marked : l.core.inhibited ≡ is_high g.pin
    pub mem : m ≡ W s
    pub counter : a < stop g.request s → l.core.counter ≡ from + a
    pub long : length k ≡ 64
    pub commit : committed_of F l.core.counter k T (W s) ≡ W a

  -- a data byte was refused
  pub record Dropped (s : ℕ) (l : Line) (m : Mem) : Type 0 where
    pub phase : l.phase ≡ Idle
    pub shut : refusing T g.pin g.locked ≡ true
    pub mem : m ≡ W s

  -- a cycle runs
  pub record Running (a s : ℕ) (l : Line) (k : List ℕ) (m : Mem) : Type 0 where
    pub phase : l.phase ≡ Busy (Writing T)
    pub mem : m ≡ W s
    pub commit : committed_of F l.core.counter k T (W s) ≡ W a

  -- nothing runs, and all bytes so far are stored
  pub record Settled (a : ℕ) (l : Line) (m : Mem) : Type 0 where
    pub phase : l.phase ≡ Idle
    pub mem : m ≡ W a

  -- the cycle runs, or has ended and no Start was heard since
  abbrev pub Pending : ℕ → ℕ → Line → List ℕ → Mem → Type 0
  Pending a s l k m = Running a s l k m ⊎ Settled a l m

  -- a poll is heard
  pub record Polled (rc : Recv) (b v a : ℕ) (l : Line) (m : Mem) : Type 0 where
    pub taking : Taking rc b v l
    pub mem : m ≡ W a

  -- a byte is being read: b of its bits were sent, and the level told last is the last of them
  pub record Reading (b a y : ℕ) (l : Line) (m : Mem) (v : ℕ) : Type 0 where
    pub some : 1 ≤ b
    pub phase : l.phase ≡ Send T
    pub left : l.left ≡ 8 - b
    pub counter : b < 8 → l.core.counter ≡ from + a
    pub moved : b ≡ 8 → l.core.counter ≡ (from + a + 1) % room_of F g.request.place
    pub mem : m ≡ W a
    pub byte : y ≡ register (there a) (b - 1)
    pub level : v ≡ bit_of (there a) (b - 1)

  -- before a byte that is read, or after the last
  pub record Read (a : ℕ) (l : Line) (m : Mem) : Type 0 where
    pub more : a < g.request.length → (l.phase ≡ Send T) × (l.left ≡ 8) × (l.core.counter ≡ from + a)
    pub last : a ≡ g.request.length → l.phase ≡ Idle
    pub mem : m ≡ W a

  abbrev pub InBits : Slot → ℕ → Counts → Line → List ℕ → Mem → ℕ → Type 0
  InBits Select b c l k m v = Heading SelectByte b (select_b c.seen) c.at l m
  InBits High b c l k m v = Heading (AddressHigh T) b (high_b c.seen) c.at l m
  InBits Low b c l k m v = Lower b (low_b c.seen) c.at c.seen l m
  InBits Data b c l k m v = Filling b c.at c.seen l k m
  InBits Poll b c l k m v = Pending c.at c.seen l k m ⊎ Polled SelectByte b (select_b c.seen) c.at l m
  InBits Turn b c l k m v = Heading SelectByte b (select_b c.seen + 1) c.at l m × (l.core.counter ≡ from + c.at)
  InBits Take b c l k m v = Reading b c.at c.byte l m v

  abbrev pub InHeard : Slot → Counts → Line → List ℕ → Mem → ℕ → Type 0
  InHeard Select c l k m v = (v ≡ 0) × Heading (address_start_of F T (select_b c.seen)) 0 0 c.at l m
  InHeard High c l k m v = (v ≡ 0) × Lower 0 0 c.at c.seen l m
  InHeard Low c l k m v = (v ≡ 0) × Heading (Fill T false) 0 0 c.at l m × (l.core.counter ≡ from + c.at) × (k ≡ no_latch)
  InHeard Data c l k m v = Filled c.at c.seen l k m v ⊎ (Dropped c.seen l m × (0 < v))
  InHeard Poll c l k m v = (Pending c.at c.seen l k m × (0 < v)) ⊎ (Polled (address_start_of F T (select_b c.seen)) 0 0 c.at l m × (v ≡ 0))
  InHeard Turn c l k m v = (v ≡ 0) × Read c.at l m
  InHeard Take c l k m v = Read c.at l m

  -- on such a chip no select and no address is refused, so a read never is
  abbrev pub InOver : Failed → Counts → Line → List ℕ → Mem → Type 0
  InOver AtSelect c l k m = ⊥
  InOver AtHigh c l k m = ⊥
  InOver AtLow c l k m = ⊥
  InOver AtData c l k m = Dropped c.seen l m × (g.request.reads ≡ false)
  InOver AtPolls c l k m = Pending c.at c.seen l k m × (g.request.reads ≡ false)

  abbrev pub At : Phase → Counts → Line → List ℕ → Mem → ℕ → Type 0
  At Ready c l k m v = Settled c.at l m
  At (Bits s b) c l k m v = InBits s b c l k m v
  At (Heard s) c l k m v = InHeard s c l k m v
  At Rest c l k m v = Pending c.at c.seen l k m
  At (Over f) c l k m v = InOver f c l k m

  -- a write's buffer is as at first; a read's has the bytes got so far
  abbrev pub Buffer : Bool → ℕ → List ℕ → Type 0
  Buffer false at ys = ys ≡ g.bytes
  Buffer true at ys = (i : ℕ) → i < at → get_or ys i 0 ≡ there i

  -- p, c, ys: the driver's phase, counts and buffer; l, k, m, v: the chip's line and latches, what is stored, the level told
  pub record Rel (p : Phase) (c : Counts) (ys : List ℕ) (l : Line) (k : List ℕ) (m : Mem) (v : ℕ) : Type 0 where
    pub pin : l.core.pin ≡ g.pin
    pub lock : l.core.locked ≡ g.locked
    pub buffer : Buffer g.request.reads c.at ys
    pub place : At p c l k m v
