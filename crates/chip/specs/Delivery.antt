-- Document 01, 'The six parts': a part as delivered.
-- Assumes nothing.
use Rattle.std.specs.Prelude.{ℕ, Bool, false, cond, List, set, replicate}
use Rattle.parts.specs.declared.Facts.{Facts}
use Rattle.parts.specs.Table.{facts_of, id_size_of}
use Rattle.line.specs.declared.Pin.{Pin}
use Rattle.line.specs.declared.Pin.TheVariants.{Absent, Floating}
use Rattle.line.specs.declared.Phase.TheVariants.{Idle}
use Rattle.line.specs.Rules.{at}
use Rattle.state.specs.declared.Chip.{Chip}
use Rattle.chip.specs.Memory.{Mem, mem, no_latch}

-- floating where there is a pin (h)
unfoldable pub pin_at_first_of : Facts → Pin
pin_at_first_of f = cond f.pin Floating Absent

-- a chip in standby as after reset: counter 0, no latch, the pin as it is without a master
unfoldable pub standby_of : Facts → Bool → Chip
standby_of f lock = record { line = at record { counter = 0; pin = pin_at_first_of f; inhibited = false; locked = lock } Idle; latch = no_latch }

-- the device identification code of a part that has one (source document 002, Table 4)
unfoldable pub coded_of : List ℕ → List ℕ
coded_of d = set (set (set d 0 0x20) 1 0xE0) 2 0x0B

-- every byte FFh, but for that code
unfoldable pub delivered_id_of : ℕ → List ℕ
delivered_id_of part = cond (facts_of part).coded (coded_of (replicate (id_size_of (facts_of part)) 255)) (replicate (id_size_of (facts_of part)) 255)

unfoldable pub delivered_of : ℕ → Mem
delivered_of part = mem (replicate (facts_of part).size 255) (delivered_id_of part)
