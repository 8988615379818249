-- Captures worked by hand (document 02, §3): on part 2 as delivered, enable 0, what a run over each answers: proofs/Worked.antt.
-- Assumes nothing.
use Rattle.std.specs.Prelude.{ℕ, ◌≡◌, Bool, true, false, List, [], ◌∷◌, ◌++◌, get_or, Ok}
use Rattle.parts.specs.Table.{facts_of}
use Rattle.chip.specs.Delivery.{standby_of, delivered_of}
use Rattle.chip_laws.specs.Bytes.{byte_of}
use Rattle.capture.specs.declared.Mark.TheVariants.{Same, At}
use Rattle.capture.specs.Wires.{drawn_of}
use Rattle.capture.specs.Calls.{SeenLeft, seeing_of}

-- ---- levels of the line: 2 a Start, 3 a Stop; a byte's ninth clock is 0 where it is acknowledged

-- 5Ah written at 0000h: Start, A0h, 00h, 00h, 5Ah, each acknowledged, Stop
unfoldable pub byte_written : List ℕ
byte_written = 2 ∷ byte_of 0xA0 false ++ byte_of 0x00 false ++ byte_of 0x00 false ++ byte_of 0x5A false ++ (3 ∷ [])

-- Start, A0h with its ninth clock low or high, Stop
unfoldable pub selected : Bool → List ℕ
selected high = 2 ∷ byte_of 0xA0 high ++ (3 ∷ [])

-- ---- a run over their wires, drawn

unfoldable pub over : Bool → List ℕ → SeenLeft
over bus es = seeing_of 2 0 (standby_of (facts_of 2) false) (delivered_of 2) bus (drawn_of es)

pub record WorkedCaptures : Type 0 where
  -- 38 events, of which 36 are clocks; the Stop stands directly behind the acknowledge and begins a cycle
  pub fine : (over true byte_written).answer.verdict ≡ Ok tt
  pub events : (over true byte_written).answer.events ≡ 38
  pub clocks : (over true byte_written).answer.clocks ≡ 36
  pub cycles : (over true byte_written).answer.cycles ≡ 1
  pub ends : (over true byte_written).answer.ends ≡ 0
  pub mark : (over true byte_written).answer.mark ≡ Same
  -- nothing is stored before the cycle ends
  pub not_yet : get_or (over true byte_written).mem.cells 0x0000 0 ≡ 0xFF
  -- by the letter there is one clock more, before the Stop, which comes too late
  pub letter_clocks : (over false byte_written).answer.clocks ≡ 37
  pub letter_cycles : (over false byte_written).answer.cycles ≡ 0
  pub letter_mark : (over false byte_written).answer.mark ≡ Same
  -- a select that is acknowledged shows that the cycle has ended
  pub shown_ends : (over true (byte_written ++ selected false)).answer.ends ≡ 1
  pub shown_events : (over true (byte_written ++ selected false)).answer.events ≡ 49
  pub shown_mark : (over true (byte_written ++ selected false)).answer.mark ≡ Same
  pub shown_stored : get_or (over true (byte_written ++ selected false)).mem.cells 0x0000 0 ≡ 0x5A
  -- one that is not may come in the cycle, so it is taken as a poll: no end, nothing stored, and the model releases too
  pub poll_ends : (over true (byte_written ++ selected true)).answer.ends ≡ 0
  pub poll_mark : (over true (byte_written ++ selected true)).answer.mark ≡ Same
  pub poll_stored : get_or (over true (byte_written ++ selected true)).mem.cells 0x0000 0 ≡ 0xFF
  -- but from delivery no cycle runs: the model acknowledges, and the ninth clock, number 8, is marked; it rises at sample 28
  pub unacknowledged : (over true (selected true)).answer.mark ≡ At 28 8 1
