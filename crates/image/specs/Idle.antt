-- Idle ways of saving and loading. Each breaks the promise that what was saved comes back: proofs/Idle.antt.
-- Assumes nothing.
use Rattle.std.specs.Prelude.{ℕ, ◌≡◌, List, Err}
use Rattle.parts.specs.declared.Refusal.TheVariants.{BadImage}
use Rattle.chip.specs.Memory.{Mem}
use Rattle.image.specs.Calls.{saving}
use Rattle.image.specs.Promises.{Saving, Loading}

-- a load that refuses everything
abbrev pub Refuses : Loading → Type 0
Refuses load = (l : List ℕ) (enable : ℕ) (old : Mem) → (load l enable old).answer.verdict ≡ Err BadImage

-- a load that stores nothing, whatever it answers
abbrev pub Leaves : Loading → Type 0
Leaves load = (l : List ℕ) (enable : ℕ) (old : Mem) → (load l enable old).stored ≡ old

-- a save that answers as ours does and writes nothing
abbrev pub unwritten : Saving
unwritten part c m out = record { answer = (saving part c m out).answer; out = out }
