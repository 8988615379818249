-- Laws that the proofs of the code share.
-- Assumes nothing.
use Rattle.std.specs.Prelude.{Ok, Err}
use Prim.Native.Nat.{ℕ}
use mathlib.Core.Path.{◌≡◌, refl}
use mathlib.Core.List.{List}
use Rattle.parts.specs.Verdict.{Verdict}
use Rattle.state.specs.declared.Chip.{Chip}
use Rattle.chip.specs.Memory.{Mem}
use Rattle.sapwoodle.specs.Answers.{chip_bytes_after}
use Rattle.chip.specs.Calls.{deliver_mem}

pub delivers_nothing : (part : ℕ) (c : Chip) (s : List ℕ) (m : Mem) (v : Verdict) → (v ≡ Ok tt → ⊥) → (chip_bytes_after v c s ≡ s) × (deliver_mem part m v ≡ m)
delivers_nothing part c s m (Ok _) h = absurd (h refl)
delivers_nothing part c s m (Err r) h = (refl, refl)
