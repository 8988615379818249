-- What calls over bytes share: what becomes of a state's bytes, and the refusal where none are held.
-- Assumes nothing.
use Rattle.std.specs.Prelude.{ℕ, not, List, length, Ok, Err}
use Rattle.parts.specs.declared.Refusal.TheVariants.{WrongEnable, BadState}
use Rattle.parts.specs.Verdict.{Verdict}
use Rattle.parts.specs.Table.{facts_of, enable_right_of}
use Rattle.parts.specs.Refusals.{claim_of, sooner_of, lent_verdict_of}
use Rattle.state.specs.declared.Chip.{Chip}
use Rattle.chip.specs.Memory.{Mem}
use Rattle.pack_chip.specs.Layout.{pack_chip_into}

-- "a refused call changes no byte": its state stays as it was
abbrev pub chip_bytes_after : Verdict → Chip → List ℕ → List ℕ
chip_bytes_after (Ok _) c s = pack_chip_into s c
chip_bytes_after (Err r) c s = s

-- the refusal where no state is held: 1, 2, 3 or 4
unfoldable pub unheld_of : ℕ → ℕ → Mem → Verdict
unheld_of part enable m =
    sooner_of (lent_verdict_of (facts_of part) (length m.cells) (length m.ident))
    (sooner_of (claim_of (not (enable_right_of (facts_of part) enable)) WrongEnable) (Err BadState))
