-- The promises leave no choice: whoever keeps them answers and leaves what ours do, for all lent bytes and counts (proofs/Pinned.antt).
-- Assumes nothing.
use Rattle.std.specs.Prelude.{ℕ, ◌≡◌, List}
use Rattle.parts.specs.Bytes.{AllBelow}
use Rattle.state.specs.declared.Chip.{Chip}
use Rattle.chip.specs.Memory.{Mem}
use Rattle.image.specs.Calls.{loading}
use Rattle.image_worn.specs.Calls.{saving_worn, loading_worn, to_worn_of, to_plain_of}
use Rattle.image_promises.specs.Form.{SavingWorn, LoadingWorn, Converting}
use Rattle.image_promises.specs.Layout.{LayoutWritten, LayoutRead, ConvertsThere, ConvertsBack}
use Rattle.image_promises.specs.Promises.{PlainLoadsZero, SaveKeeps, LoadKeeps, ConvertKeeps}
use Rattle.image_promises.specs.Numbers.{SaveWornNumbers, LoadWornNumbers, ToWornNumbers, ToPlainNumbers}

pub record WornSaver (save : SavingWorn) : Type 0 where
  pub numbers : SaveWornNumbers save
  pub layout : LayoutWritten save
  pub keeps : SaveKeeps save

pub record WornLoader (load : LoadingWorn) : Type 0 where
  pub numbers : LoadWornNumbers load
  pub layout : LayoutRead load
  pub zeros : PlainLoadsZero load loading
  pub keeps : LoadKeeps load

pub record ToWorn (there : Converting) : Type 0 where
  pub numbers : ToWornNumbers there
  pub layout : ConvertsThere there
  pub keeps : ConvertKeeps there

pub record ToPlain (back : Converting) : Type 0 where
  pub numbers : ToPlainNumbers back
  pub layout : ConvertsBack back
  pub keeps : ConvertKeeps back

-- ours keep them
pub record WornOurs : Type 0 where
  pub save : WornSaver saving_worn
  pub load : WornLoader loading_worn
  pub there : ToWorn to_worn_of
  pub back : ToPlain to_plain_of

-- and no others do
pub record WornPinned : Type 0 where
  pub save : (S : SavingWorn) → WornSaver S
      → (part : ℕ) (c : Chip) (m : Mem) (counts out : List ℕ) → S part c m counts out ≡ saving_worn part c m counts out
  pub load : (L : LoadingWorn) → WornLoader L
      → (l : List ℕ) (enable : ℕ) (m : Mem) (counts : List ℕ) → AllBelow 256 l → L l enable m counts ≡ loading_worn l enable m counts
  pub there : (C : Converting) → ToWorn C → (l out : List ℕ) → C l out ≡ to_worn_of l out
  pub back : (C : Converting) → ToPlain C → (l out : List ℕ) → AllBelow 256 l → C l out ≡ to_plain_of l out
