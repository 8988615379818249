-- Document 02, §7: "Version 0002h of the `EPR` image". What has its form, and the functions that promises are made of: any of them.
-- Assumes nothing.
use Rattle.std.specs.Prelude.{ℕ, ◌≡◌, Bool, true, List, length, get_or, take, replicate}
use Rattle.parts.specs.Table.{facts_of, groups_of}
use Rattle.parts.specs.Bytes.{AllBelow, word_end}
use Rattle.state.specs.declared.Chip.{Chip}
use Rattle.chip.specs.Memory.{Mem}
use Rattle.image.specs.Calls.{AfterSave}
use Rattle.image.specs.Promises.{BuffersFit}
use Rattle.image_worn.specs.Layout.{worn_image_of}
use Rattle.image_worn.specs.Calls.{AfterLoadWorn}

-- ---- any functions of the form

-- from the part, the chip, the two buffers, the counts and the output buffer
abbrev pub SavingWorn : Type 0
SavingWorn = ℕ → Chip → Mem → List ℕ → List ℕ → AfterSave

-- from the image, the enable, the two buffers and the counts
abbrev pub LoadingWorn : Type 0
LoadingWorn = List ℕ → ℕ → Mem → List ℕ → AfterLoadWorn

-- from the image and the output buffer
abbrev pub Converting : Type 0
Converting = List ℕ → List ℕ → AfterSave

-- the bytes that a save or a conversion answers
abbrev pub made_by : AfterSave → List ℕ
made_by r = take r.answer.length r.out

-- ---- counts

-- one for each group of a part
abbrev pub CountsFit : ℕ → List ℕ → Type 0
CountsFit part counts = length counts ≡ groups_of (facts_of part)

-- "all counts zero"
abbrev pub zeros : ℕ → List ℕ
zeros part = replicate (groups_of (facts_of part)) 0

abbrev pub NoneWorn : List ℕ → Type 0
NoneWorn counts = (n : ℕ) → get_or counts n 0 ≡ 0

-- ---- the form of version 2

-- what an image holds is one of the six parts', locked only where there is an identification page
pub record Sane (part : ℕ) (lock : Bool) (m : Mem) : Type 0 where
  pub known : (facts_of part).known ≡ true
  pub fits : BuffersFit part m
  pub lockable : lock ≡ true → (facts_of part).ident ≡ true

-- mark, version, part, lock, array, identification page and a count for each group, of 32 bits
pub record WornForm (l : List ℕ) : Type 0 where
  pub part : ℕ
  pub lock : Bool
  pub stored : Mem
  pub counts : List ℕ
  pub sane : Sane part lock stored
  pub counted : CountsFit part counts
  pub below : AllBelow word_end counts
  pub bytes : l ≡ worn_image_of part lock stored counts
