-- Document 02, §8: every "load and conversion keeps it equal to what the walk would find", of any function that loads as `image_worn::load_worn` does.
-- Nothing of the worst stands in an image: it is found where the counts are read.
-- Assumes nothing.
use Rattle.std.specs.Prelude.{ℕ, ◌≤◌, ◌≡◌, true, List, length, Ok, Err}
use Rattle.parts.specs.declared.Refusal.{Refusal}
use Rattle.parts.specs.Table.{facts_of, enable_right_of}
use Rattle.parts.specs.Bytes.{AllBelow, word_end}
use Rattle.state.specs.declared.Chip.{Chip}
use Rattle.state.specs.Range.{in_range_of}
use Rattle.chip.specs.Memory.{Mem}
use Rattle.image.specs.Promises.{BuffersFit}
use Rattle.wear.specs.Report.{most, most_of}
use Rattle.image_worn.specs.Layout.{worn_length_of}
use Rattle.image_worn.specs.Calls.{LoadKept, loading_worn}
use Rattle.image_promises.specs.Form.{SavingWorn, Converting, made_by, CountsFit}

-- from the image, the enable, the two buffers and the counts
abbrev pub LoadingKept : Type 0
LoadingKept = List ℕ → ℕ → Mem → List ℕ → LoadKept

-- chip, stored bytes, counts and refusals are §7's
abbrev pub LoadAsBefore : LoadingKept → Type 0
LoadAsBefore load = (l : List ℕ) (enable : ℕ) (m : Mem) (counts : List ℕ) → (load l enable m counts).load ≡ loading_worn l enable m counts

pub record LoadFindsIt (load : LoadingKept) : Type 0 where
  pub found : (l : List ℕ) (enable : ℕ) (m : Mem) (counts : List ℕ) → (load l enable m counts).load.answer.verdict ≡ Ok tt
      → (load l enable m counts).worst ≡ most_of (load l enable m counts).load.counts
  -- a load is given no worst: refused, it answers group 0 with 0
  pub refused : (l : List ℕ) (enable : ℕ) (m : Mem) (counts : List ℕ) (r : Refusal) → (load l enable m counts).load.answer.verdict ≡ Err r
      → (load l enable m counts).worst ≡ most 0 0

-- who saves its counts and loads them again finds the worst that it held
abbrev pub SavedWorst : SavingWorn → LoadingKept → Type 0
SavedWorst save load =
    (part enable : ℕ) (c : Chip) (m old : Mem) (counts was out : List ℕ)
    → (facts_of part).known ≡ true
    → enable_right_of (facts_of part) enable ≡ true
    → in_range_of (facts_of part) c ≡ true
    → BuffersFit part m
    → BuffersFit part old
    → CountsFit part counts
    → AllBelow word_end counts
    → CountsFit part was
    → worn_length_of (facts_of part) ≤ length out
    → (load (made_by (save part c m counts out)) enable old was).worst ≡ most_of counts

-- a conversion, of either kind, is of counts that are all zero: loaded before it and after it the worst is group 0 with 0
abbrev pub ConvertKeepsIt : Converting → LoadingKept → Type 0
ConvertKeepsIt convert load =
    (l out : List ℕ) (enable : ℕ) (m : Mem) (counts : List ℕ) → AllBelow 256 l → (convert l out).answer.verdict ≡ Ok tt
    → ((load l enable m counts).worst ≡ most 0 0) × ((load (made_by (convert l out)) enable m counts).worst ≡ most 0 0)

-- ---- wrong ones

-- answers group 0 with 0, whatever was loaded
abbrev pub AnswersZero : LoadingKept → Type 0
AnswersZero load =
    (l : List ℕ) (enable : ℕ) (m : Mem) (counts : List ℕ) → (load l enable m counts).load.answer.verdict ≡ Ok tt → (load l enable m counts).worst ≡ most 0 0

-- the worst of the counts that were there before
abbrev pub AnswersOld : LoadingKept → Type 0
AnswersOld load =
    (l : List ℕ) (enable : ℕ) (m : Mem) (counts : List ℕ) → (load l enable m counts).load.answer.verdict ≡ Ok tt → (load l enable m counts).worst ≡ most_of counts

pub record WrongWorst : Type 0 where
  pub zero_breaks : (load : LoadingKept) → LoadAsBefore load → LoadFindsIt load → AnswersZero load → ⊥
  pub old_breaks : (load : LoadingKept) → LoadAsBefore load → LoadFindsIt load → AnswersOld load → ⊥
