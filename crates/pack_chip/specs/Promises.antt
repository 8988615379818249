-- What is promised of packing and unpacking, stated over any pair of them. `packedOf` and `unpackedOf`, which the contracts of `pack`
-- and `unpack` cite, keep it: proofs/Kept.antt.
-- Assumes nothing.
use Rattle.std.specs.Prelude.{ℕ, ◌<◌, ◌≡◌, true, false, List, length}
use Rattle.parts.specs.Table.{facts_of}
use Rattle.parts.specs.Bytes.{AllBelow}
use Rattle.state.specs.declared.Chip.{Chip}
use Rattle.state.specs.Range.{in_range_of}
use Rattle.pack_chip.specs.Layout.{phase_high_of, holds_chip_of}

-- a state whose numbers fit their types
pub record ChipFits (c : Chip) : Type 0 where
  pub counter : c.line.core.counter < 65536
  pub high : phase_high_of c.line.phase < 256
  pub left : c.line.left < 256
  pub shift : c.line.shift < 256
  pub latches : length c.latch ≡ 64
  pub latch : AllBelow 65536 c.latch

-- every state is packed as bytes that hold it
abbrev pub ChipPacksBack : (Chip → List ℕ) → (List ℕ → Chip) → Type 0
ChipPacksBack pack unpack = (c : Chip) → ChipFits c → AllBelow 256 (pack c) × (holds_chip_of (pack c) ≡ true) × (unpack (pack c) ≡ c)

-- bytes that hold a state are the ones it is packed as, and it fits its types
abbrev pub ChipUnpacksBack : (Chip → List ℕ) → (List ℕ → Chip) → Type 0
ChipUnpacksBack pack unpack = (l : List ℕ) → AllBelow 256 l → holds_chip_of l ≡ true → ChipFits (unpack l) × (pack (unpack l) ≡ l)

-- bytes that hold none are out of range (refusal 4), whatever the part
abbrev pub ChipRefusesOthers : (List ℕ → Chip) → Type 0
ChipRefusesOthers unpack = (l : List ℕ) → holds_chip_of l ≡ false → (part : ℕ) → in_range_of (facts_of part) (unpack l) ≡ false
