-- Cuts that are not document 02's §5, each of them of any chip that has the fault: they break what Power.antt says.
-- Assumes nothing.
use Rattle.std.specs.Prelude.{ℕ, ◌≡◌, cond, List, [], ◌∷◌, take, ltb}
use Rattle.parts.specs.declared.Facts.{Facts}
use Rattle.line.specs.declared.Target.{Target}
use Rattle.line.specs.declared.Cycle.TheVariants.{Writing}
use Rattle.line.specs.declared.Phase.TheVariants.{Busy}
use Rattle.state.specs.declared.Chip.{Chip}
use Rattle.chip.specs.Memory.{Mem, cells_of, with_cells, entered_of, counter_page_of, stored_of}
use Rattle.chip.specs.Model.{PowerCut}
use Rattle.chip_promises.specs.Power.{PowerModel, CutSpoilsGroups, LockAsFlag, lock_then}

-- whatever a reset in a write cycle makes of the memory: of what is lent, the row, the chip, the memory that is written and both
abbrev pub Spoiling : Type 0
Spoiling = PowerCut → Facts → Chip → Target → Mem → Mem

-- a chip that does so
abbrev pub Does : Spoiling → PowerModel → Type 0
Does s M = (w : PowerCut) (f : Facts) (enable : ℕ) (c : Chip) (t : Target) (m : Mem) → c.line.phase ≡ Busy (Writing t) → (M w f enable).store c m 8 ≡ s w f c t m

-- rule 9's second sentence, which goes: nothing of the cycle is stored
abbrev pub nothing : Spoiling
nothing w f c t m = m

-- the whole page comes up, its groups without a latched byte too
abbrev pub whole_page : Spoiling
whole_page w f c t m = with_cells t (entered_of (cells_of t m) (counter_page_of f c.line.core.counter) (take f.page w.page)) m

-- the lent byte where one is latched, elsewhere nothing
abbrev pub over_latched : List ℕ → List ℕ → List ℕ
over_latched [] page = []
over_latched (x ∷ k) [] = []
over_latched (x ∷ k) (b ∷ page) = cond (ltb x 256) b 256 ∷ over_latched k page

-- only the latched bytes do, and not the rest of their groups
abbrev pub latched_only : Spoiling
latched_only w f c t m = with_cells t (entered_of (cells_of t m) (counter_page_of f c.line.core.counter) (take f.page (over_latched c.latch w.page))) m

-- the latched bytes are stored, as if the cycle had ended
abbrev pub stores_them : Spoiling
stores_them w f c t m = stored_of f c.line c.latch m (Busy (Writing t))

pub record WrongCuts : Type 0 where
  pub nothing_breaks : (M : PowerModel) → Does nothing M → CutSpoilsGroups M → ⊥
  pub whole_page_breaks : (M : PowerModel) → Does whole_page M → CutSpoilsGroups M → ⊥
  pub latched_only_breaks : (M : PowerModel) → Does latched_only M → CutSpoilsGroups M → ⊥
  pub stores_them_breaks : (M : PowerModel) → Does stores_them M → CutSpoilsGroups M → ⊥
  -- the lock is as before the reset, whatever the flag
  pub lock_kept_breaks : (M : PowerModel) → ((w : PowerCut) (f : Facts) (enable : ℕ) (c : Chip) → lock_then (M w f enable) c ≡ c.line.core.locked) → LockAsFlag M → ⊥
