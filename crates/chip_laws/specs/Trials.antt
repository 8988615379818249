-- Document 01, 'Trials on the bench': the trials marked ● that concern the chip alone, as one table. Each is a run call on a
-- part as delivered, with arrays of the real size, and a test of what it answers and leaves.
-- Assumes nothing.
use Rattle.std.specs.Prelude.{ℕ, zero, suc, ◌-◌, ◌≡◌, Bool, true, false, not, cond, ◌&&◌, List, [], ◌∷◌, ◌++◌, length, get_or, drop, replicate, eqb}
use Rattle.parts.specs.Table.{facts_of}
use Rattle.parts.specs.Refusals.{is_fine}
use Rattle.parts.specs.Bytes.{same_of}
use Rattle.state.specs.declared.Chip.{Chip}
use Rattle.chip.specs.Memory.{Mem}
use Rattle.chip.specs.Delivery.{standby_of, delivered_of}
use Rattle.chip.specs.Model.{old}
use Rattle.chip.specs.Calls.{run_of}
use Rattle.chip_laws.specs.Bytes.{bits_of, byte_of, bytes_of}

-- ---- a table of trials, of any kind

-- the number of document 01's trial, counted from 1 down the list, and whether it came out right
pub record Trial : Type 0 where
  pub trial : ℕ
  pub right : Bool

-- a row further down
abbrev pub further : ℕ → ℕ
further zero = zero
further (suc n) = suc (suc n)

-- the place of the first row that is not right, counted from 1; 0 where there is none
unfoldable pub first_wrong : List Trial → ℕ
first_wrong [] = 0
first_wrong (t ∷ ts) = cond t.right (further (first_wrong ts)) 1

-- ---- a trial of the chip

pub record TrialRun : Type 0 where
  pub chip : Chip
  pub mem : Mem
  pub levels : List ℕ
  pub cycles : ℕ
  pub fine : Bool

-- a run call on a part as delivered. The lent answer buffer has one byte for each event
unfoldable pub trial_run_of : ℕ → ℕ → List ℕ → TrialRun
trial_run_of part enable es =
    let c = standby_of (facts_of part) false in
    let m = delivered_of part in
    let answers : List ℕ = replicate (length es) 9 in
    record {
      chip = (run_of part enable old c m es answers).answer.chip;
      mem = (run_of part enable old c m es answers).mem;
      levels = (run_of part enable old c m es answers).answers;
      cycles = (run_of part enable old c m es answers).answer.cycles;
      fine = is_fine (run_of part enable old c m es answers).answer.verdict;
    }

unfoldable pub trial_of : ℕ → ℕ → ℕ → List ℕ → (TrialRun → Bool) → Trial
trial_of number part enable es test = record { trial = number; right = (trial_run_of part enable es).fine && test (trial_run_of part enable es) }

-- ---- events: 2 Start, 3 Stop, 4 the cycle ends, 6 the pin high

unfoldable pub sends : List ℕ → List ℕ
sends bs = 2 ∷ bytes_of bs

-- one byte read, not acknowledged
unfoldable pub read_one : List ℕ
read_one = byte_of 0xFF true

-- a write with its Stop, and the end of its cycle
unfoldable pub writes : List ℕ → List ℕ
writes bs = sends bs ++ (3 ∷ 4 ∷ [])

-- ---- tests

unfoldable pub last_level : TrialRun → ℕ
last_level d = get_or d.levels (length d.levels - 1) 9

unfoldable pub acknowledged : TrialRun → Bool
acknowledged d = eqb (last_level d) 0

unfoldable pub released : TrialRun → Bool
released d = eqb (last_level d) 1

unfoldable pub cell_is : TrialRun → ℕ → ℕ → Bool
cell_is d at b = eqb (get_or d.mem.cells at 0) b

unfoldable pub counter_is : TrialRun → ℕ → Bool
counter_is d n = eqb d.chip.line.core.counter n

unfoldable pub begins : TrialRun → ℕ → Bool
begins d n = eqb d.cycles n

-- the answers end with these
unfoldable pub ends_with : TrialRun → List ℕ → Bool
ends_with d xs = same_of (drop (length d.levels - length xs) d.levels) xs

-- ---- the table

unfoldable pub chip_trials : List Trial
chip_trials =
    -- 1. "Part 2: A0h acknowledged; with enable 1 released"
    trial_of 1 2 0 (sends (0xA0 ∷ [])) acknowledged
    ∷ trial_of 1 2 1 (sends (0xA0 ∷ [])) released
    -- 2. "B0h: released on 2, acknowledged on 3"
    ∷ trial_of 2 2 0 (sends (0xB0 ∷ [])) released
    ∷ trial_of 2 3 0 (sends (0xB0 ∷ [])) acknowledged
    -- 3. "Part 0: AEh acknowledged"
    ∷ trial_of 3 0 0 (sends (0xAE ∷ [])) acknowledged
    -- 4. "Part 2, 11h, 22h at 001Fh: 22h lands at 0000h; counter 0001h after `E`", and nothing lands in the next page
    ∷ trial_of 4 2 0 (writes (0xA0 ∷ 0x00 ∷ 0x1F ∷ 0x11 ∷ 0x22 ∷ []))
    (λ d. begins d 1 && cell_is d 0x0000 0x22 && cell_is d 0x001F 0x11 && cell_is d 0x0020 0xFF && counter_is d 0x0001)
    -- 5. "Part 2, 33h at 001Fh: counter 0020h after `E`"
    ∷ trial_of 5 2 0 (writes (0xA0 ∷ 0x00 ∷ 0x1F ∷ 0x33 ∷ [])) (λ d. begins d 1 && cell_is d 0x001F 0x33 && counter_is d 0x0020)
    -- 6. "A Stop one clock after the acknowledge: no cycle", with either level on that clock, and `E` then stores nothing
    ∷ trial_of 6 2 0 (sends (0xA0 ∷ 0x00 ∷ 0x1F ∷ 0x33 ∷ []) ++ (0 ∷ 3 ∷ 4 ∷ [])) (λ d. begins d 0 && cell_is d 0x001F 0xFF)
    ∷ trial_of 6 2 0 (sends (0xA0 ∷ 0x00 ∷ 0x1F ∷ 0x33 ∷ []) ++ (1 ∷ 3 ∷ 4 ∷ [])) (λ d. begins d 0 && cell_is d 0x001F 0xFF)
    -- 7. "`H` between acknowledge and Stop: no cycle"
    ∷ trial_of 7 2 0 (sends (0xA0 ∷ 0x00 ∷ 0x1F ∷ 0x33 ∷ []) ++ (6 ∷ 3 ∷ 4 ∷ [])) (λ d. begins d 0 && cell_is d 0x001F 0xFF)
    -- 8. "Part 2, address 2000h is 0000h"
    ∷ trial_of 8 2 0 (writes (0xA0 ∷ 0x20 ∷ 0x00 ∷ 0x44 ∷ [])) (λ d. begins d 1 && cell_is d 0x0000 0x44 && counter_is d 0x0001)
    -- 9. "Part 3, B0h 04h 00h 02h, Stop, `E`: locked. With 01h: not"
    ∷ trial_of 9 3 0 (writes (0xB0 ∷ 0x04 ∷ 0x00 ∷ 0x02 ∷ [])) (λ d. begins d 1 && d.chip.line.core.locked)
    ∷ trial_of 9 3 0 (writes (0xB0 ∷ 0x04 ∷ 0x00 ∷ 0x01 ∷ [])) (λ d. begins d 0 && not d.chip.line.core.locked)
    -- 10. "Part 5, identification read of one byte at 3Fh: a current read of the array then gives address 0000h": 5Ah is stored
    -- at 0000h first, and comes out
    ∷ trial_of 10 5 0
    (writes (0xA0 ∷ 0x00 ∷ 0x00 ∷ 0x5A ∷ []) ++ (sends (0xB0 ∷ 0x00 ∷ 0x3F ∷ []) ++ (sends (0xB1 ∷ []) ++ (read_one ++ (3 ∷ sends (0xA1 ∷ []) ++ (read_one ++ (3 ∷ [])))))))
    (λ d. ends_with d (0 ∷ bits_of 0x5A ++ (1 ∷ 2 ∷ [])))
    ∷ []

-- ---- the statement. Another crate's trials join by `++`

abbrev pub ChipTrialsRight : Type 0
ChipTrialsRight = first_wrong chip_trials ≡ 0
