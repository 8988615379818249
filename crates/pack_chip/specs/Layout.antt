-- The state of a chip as 137 bytes, for callers that hold bytes only: the counter, high byte first; the codes of pin, inhibited,
-- locked and phase; the first address byte while the last is awaited; the bits left and those received; then 64 latches of two
-- bytes, high byte first.
-- Assumes nothing.
use Rattle.std.specs.Prelude.{ℕ, ◌+◌, ◌*◌, ◌/◌, ◌%◌, Bool, true, false, cond, Option, Some, None, List, [], ◌∷◌, ◌++◌, length, get_or, drop, replicate, eqb, ltb}
use Rattle.parts.specs.Bytes.{flag_of}
use Rattle.line.specs.declared.Pin.{Pin}
use Rattle.line.specs.declared.Pin.TheVariants.{Absent, Low, High, Floating}
use Rattle.line.specs.declared.Target.{Target}
use Rattle.line.specs.declared.Target.TheVariants.{Array, Ident}
use Rattle.line.specs.declared.Recv.{Recv}
use Rattle.line.specs.declared.Recv.TheVariants.{Select, AddressHigh, AddressLow, Fill, LockByte, LockTaken}
use Rattle.line.specs.declared.Cycle.{Cycle}
use Rattle.line.specs.declared.Cycle.TheVariants.{Writing, Locking}
use Rattle.line.specs.declared.Phase.{Phase}
use Rattle.line.specs.declared.Phase.TheVariants.{Idle, Receive, Send, Busy}
use Rattle.line.specs.declared.Core.{Core}
use Rattle.line.specs.declared.Line.{Line}
use Rattle.state.specs.declared.Chip.{Chip}

-- ---- the codes

abbrev pub pin_code_of : Pin → ℕ
pin_code_of Absent = 0
pin_code_of Low = 1
pin_code_of High = 2
pin_code_of Floating = 3

abbrev pub either_of : Target → ℕ → ℕ → ℕ
either_of Array a i = a
either_of Ident a i = i

-- what is received: 1 select, 2 3 first address byte, 4 5 last address byte, 6 7 array data, 8 9 identification data (the odd one
-- after an acknowledged byte), 10 lock data, 11 12 after it (12 where its bit 1 was set)
abbrev pub recv_code_of : Recv → ℕ
recv_code_of Select = 1
recv_code_of (AddressHigh t) = either_of t 2 3
recv_code_of (AddressLow t high) = either_of t 4 5
recv_code_of (Fill t acked) = cond acked (either_of t 7 9) (either_of t 6 8)
recv_code_of LockByte = 10
recv_code_of (LockTaken on) = cond on 12 11

abbrev pub cycle_code_of : Cycle → ℕ
cycle_code_of (Writing t) = either_of t 15 16
cycle_code_of Locking = 17

-- 0 standby or released, 13 14 sending, 15 to 17 in a cycle
abbrev pub chip_phase_code_of : Phase → ℕ
chip_phase_code_of Idle = 0
chip_phase_code_of (Receive r) = recv_code_of r
chip_phase_code_of (Send t) = either_of t 13 14
chip_phase_code_of (Busy y) = cycle_code_of y

-- the first address byte; 0 where none is kept
abbrev pub recv_high_of : Recv → ℕ
recv_high_of Select = 0
recv_high_of (AddressHigh t) = 0
recv_high_of (AddressLow t high) = high
recv_high_of (Fill t acked) = 0
recv_high_of LockByte = 0
recv_high_of (LockTaken on) = 0

abbrev pub phase_high_of : Phase → ℕ
phase_high_of Idle = 0
phase_high_of (Receive r) = recv_high_of r
phase_high_of (Send t) = 0
phase_high_of (Busy y) = 0

-- ---- packed

abbrev pub chip_length : ℕ
chip_length = 137

-- numbers of 16 bits, each as two bytes
abbrev pub pairs_of : List ℕ → List ℕ
pairs_of [] = []
pairs_of (x ∷ xs) = x / 256 ∷ x % 256 ∷ pairs_of xs

abbrev pub chip_head_of : Line → List ℕ
chip_head_of l =
    l.core.counter / 256
    ∷ l.core.counter % 256
    ∷ pin_code_of l.core.pin
    ∷ flag_of l.core.inhibited
    ∷ flag_of l.core.locked
    ∷ chip_phase_code_of l.phase
    ∷ phase_high_of l.phase
    ∷ l.left
    ∷ l.shift
    ∷ []

unfoldable pub packed_chip_of : Chip → List ℕ
packed_chip_of c = chip_head_of c.line ++ pairs_of c.latch

-- whether a state is packed into a buffer of n bytes
abbrev pub packs_chip_of : ℕ → Bool
packs_chip_of n = eqb n chip_length

-- into a lent buffer: one of another length stays as it was
unfoldable pub pack_chip_into : List ℕ → Chip → List ℕ
pack_chip_into out c = cond (packs_chip_of (length out)) (packed_chip_of c) out

-- ---- unpacked

unfoldable pub pin_in : ℕ → Pin
pin_in n = cond (eqb n 0) Absent (cond (eqb n 1) Low (cond (eqb n 2) High Floating))

unfoldable pub recv_in : ℕ → ℕ → Recv
recv_in n high =
    cond (eqb n 2) (AddressHigh Array)
    (cond (eqb n 3) (AddressHigh Ident)
    (cond (eqb n 4) (AddressLow Array high)
    (cond (eqb n 5) (AddressLow Ident high)
    (cond (eqb n 6) (Fill Array false)
    (cond (eqb n 7) (Fill Array true)
    (cond (eqb n 8) (Fill Ident false)
    (cond (eqb n 9) (Fill Ident true)
    (cond (eqb n 10) LockByte
    (cond (eqb n 11) (LockTaken false)
    (cond (eqb n 12) (LockTaken true) Select))))))))))

unfoldable pub chip_phase_in : ℕ → ℕ → Phase
chip_phase_in n high =
    cond (eqb n 0) Idle
    (cond (eqb n 13) (Send Array)
    (cond (eqb n 14) (Send Ident)
    (cond (eqb n 15) (Busy (Writing Array))
    (cond (eqb n 16) (Busy (Writing Ident))
    (cond (eqb n 17) (Busy Locking) (Receive (recv_in n high)))))))

-- two bytes as a number of 16 bits, and a row of them
abbrev pub pair_joined_of : ℕ → ℕ → ℕ
pair_joined_of high low = high * 256 + low

abbrev pub pairs_in : List ℕ → List ℕ
pairs_in [] = []
pairs_in (x ∷ []) = []
pairs_in (x ∷ y ∷ xs) = pair_joined_of x y ∷ pairs_in xs

abbrev pub line_in : List ℕ → Line
line_in l =
    record {
      core = record { counter = pair_joined_of (get_or l 0 0) (get_or l 1 0); pin = pin_in (get_or l 2 0); inhibited = eqb (get_or l 3 0) 1; locked = eqb (get_or l 4 0) 1 };
      phase = chip_phase_in (get_or l 5 0) (get_or l 6 0);
      left = get_or l 7 0;
      shift = get_or l 8 0;
    }

-- only a phase that awaits the last address byte keeps the first
unfoldable pub chip_phase_code_right_of : ℕ → ℕ → Bool
chip_phase_code_right_of n high = cond (ltb n 18) (cond (eqb n 4) true (cond (eqb n 5) true (eqb high 0))) false

unfoldable pub chip_codes_right_of : ℕ → ℕ → ℕ → ℕ → ℕ → Bool
chip_codes_right_of pin inhibited locked code high =
    cond (ltb pin 4) (cond (ltb inhibited 2) (cond (ltb locked 2) (chip_phase_code_right_of code high) false) false) false

-- what is read of codes: none where one of them is none of those above
abbrev pub core_read_of : ℕ → ℕ → ℕ → ℕ → Option Core
core_read_of counter pin inhibited locked =
    cond (ltb pin 4)
    (cond (ltb inhibited 2)
    (cond (ltb locked 2) (Some (record { counter = counter; pin = pin_in pin; inhibited = eqb inhibited 1; locked = eqb locked 1 })) None) None) None

abbrev pub recv_read_of : ℕ → ℕ → Option Recv
recv_read_of n high = cond (eqb n 0) None (cond (ltb n 13) (Some (recv_in n high)) None)

abbrev pub line_read_of : List ℕ → Option Line
line_read_of l =
    cond (chip_codes_right_of (get_or l 2 0) (get_or l 3 0) (get_or l 4 0) (get_or l 5 0) (get_or l 6 0)) (Some (line_in l)) None

-- bytes that hold a state: the length, and every code one of those above
unfoldable pub holds_chip_of : List ℕ → Bool
holds_chip_of l =
    cond (eqb (length l) chip_length) (chip_codes_right_of (get_or l 2 0) (get_or l 3 0) (get_or l 4 0) (get_or l 5 0) (get_or l 6 0)) false

-- what bytes that hold none stand for: a counter beyond every array, so that refusal 4 has its place in the order
abbrev pub no_chip : Chip
no_chip =
    record { line = record { core = record { counter = 65535; pin = Absent; inhibited = false; locked = false }; phase = Idle; left = 8; shift = 0 }; latch = replicate 64 256 }

unfoldable pub unpacked_chip_of : List ℕ → Chip
unpacked_chip_of l = cond (holds_chip_of l) (record { line = line_in l; latch = pairs_in (drop 9 l) }) no_chip
