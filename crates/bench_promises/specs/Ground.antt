-- What the demands on driver and chip together start from: "an idle chip of the named part and enable".
-- Assumes nothing.
use Rattle.std.specs.Prelude.{◌≡◌, length}
use Rattle.parts.specs.Table.{facts_of, id_size_of}
use Rattle.parts.specs.Bytes.{AllBelow}
use Rattle.line.specs.declared.Target.{Target}
use Rattle.line.specs.declared.Target.TheVariants.{Array as TheArray, Ident as TheIdent}
use Rattle.line.specs.declared.Phase.TheVariants.{Idle}
use Rattle.state.specs.declared.Chip.{Chip}
use Rattle.chip.specs.Memory.{Mem, cells_of}
use Rattle.driver.specs.declared.Place.{Place}
use Rattle.driver.specs.declared.Place.TheVariants.{Array, Ident}
use Rattle.driver.specs.declared.Request.{Request}

-- which of the two memories a request speaks of
abbrev pub target_of : Place → Target
target_of (Array a) = TheArray
target_of (Ident i) = TheIdent

-- the chip waits for a Start, and its memory has the named part's lengths. Nothing is said of its pin, its lock or its counter
pub record OnIdle (r : Request) (c : Chip) (m : Mem) : Type 0 where
  pub idle : c.line.phase ≡ Idle
  pub cells : length m.cells ≡ (facts_of r.part).size
  pub ident : length m.ident ≡ id_size_of (facts_of r.part)
  pub bytes : (t : Target) → AllBelow 256 (cells_of t m)
