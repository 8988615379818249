-- Which refusal a call gives, by plain conditions, each with all earlier ones excluded, and none where none applies: "Refusals: 21 counts would be
-- lost, after 12" (document 02, §7), beside those of document 01. Said of any functions of the form, so that another order breaks it.
-- Assumes nothing.
use Rattle.std.specs.Prelude.{ℕ, ◌<◌, ◌≤◌, ◌≡◌, true, false, List, ◌⊎◌, length, Ok, Err}
use Rattle.parts.specs.declared.Refusal.TheVariants.{NoPart, WrongEnable, WrongBuffer, BadState, ShortBuffer, BadImage, CountsLost}
use Rattle.parts.specs.Verdict.{Verdict}
use Rattle.parts.specs.Table.{facts_of}
use Rattle.parts.specs.Bytes.{AllBelow}
use Rattle.state.specs.declared.Chip.{Chip}
use Rattle.state.specs.Range.{in_range_of}
use Rattle.chip.specs.Memory.{Mem}
use Rattle.image.specs.Layout.{image_length_of, part_in}
use Rattle.image.specs.Promises.{BuffersFit, Form}
use Rattle.image_worn.specs.Layout.{worn_length_of}
use Rattle.image_promises.specs.Form.{SavingWorn, LoadingWorn, Converting, CountsFit, NoneWorn, WornForm}

-- the two buffers and the counts of a part: 3 is for any of them
abbrev pub LentFit : ℕ → Mem → List ℕ → Type 0
LentFit part m counts = BuffersFit part m × CountsFit part counts

-- ---- saving: 1 3 4 6

-- there is such a part, what is lent is its own, and the chip is in range
pub record Savable (part : ℕ) (c : Chip) (m : Mem) (counts : List ℕ) : Type 0 where
  pub known : part ≤ 5
  pub fits : LentFit part m counts
  pub ranged : in_range_of (facts_of part) c ≡ true

module _ (save : SavingWorn) (part : ℕ) (c : Chip) (m : Mem) (counts out : List ℕ) where
  abbrev pub save_worn_verdict : Verdict
  save_worn_verdict = (save part c m counts out).answer.verdict

  pub record SaveWornNumber : Type 0 where
    pub no_part : 5 < part → save_worn_verdict ≡ Err NoPart
    pub wrong_buffer : part ≤ 5 → (LentFit part m counts → ⊥) → save_worn_verdict ≡ Err WrongBuffer
    pub bad_state : part ≤ 5 → LentFit part m counts → in_range_of (facts_of part) c ≡ false → save_worn_verdict ≡ Err BadState
    pub short_buffer : Savable part c m counts → length out < worn_length_of (facts_of part) → save_worn_verdict ≡ Err ShortBuffer
    pub none : Savable part c m counts → worn_length_of (facts_of part) ≤ length out → save_worn_verdict ≡ Ok tt

abbrev pub SaveWornNumbers : SavingWorn → Type 0
SaveWornNumbers save = (part : ℕ) (c : Chip) (m : Mem) (counts out : List ℕ) → SaveWornNumber save part c m counts out

-- ---- loading: 12 for an image that does not hold its part byte, then 1 2 3 12

-- the image holds its part byte, and 1, 2 and 3 do not apply
pub record Openable (l : List ℕ) (enable : ℕ) (m : Mem) (counts : List ℕ) : Type 0 where
  pub named : 6 ≤ length l
  pub known : part_in l ≤ 5
  pub enabled : enable < (facts_of (part_in l)).enables
  pub fits : LentFit (part_in l) m counts

module _ (load : LoadingWorn) (l : List ℕ) (enable : ℕ) (m : Mem) (counts : List ℕ) where
  abbrev pub load_worn_verdict : Verdict
  load_worn_verdict = (load l enable m counts).answer.verdict

  pub record LoadWornNumber : Type 0 where
    pub no_part_byte : length l < 6 → load_worn_verdict ≡ Err BadImage
    pub no_part : 6 ≤ length l → 5 < part_in l → load_worn_verdict ≡ Err NoPart
    pub wrong_enable : 6 ≤ length l → part_in l ≤ 5 → (facts_of (part_in l)).enables ≤ enable → load_worn_verdict ≡ Err WrongEnable
    pub wrong_buffer : 6 ≤ length l → part_in l ≤ 5 → enable < (facts_of (part_in l)).enables → (LentFit (part_in l) m counts → ⊥)
        → load_worn_verdict ≡ Err WrongBuffer
    -- neither of the two forms
    pub bad_image : Openable l enable m counts → (Form l ⊎ WornForm l → ⊥) → load_worn_verdict ≡ Err BadImage
    pub none : Openable l enable m counts → Form l ⊎ WornForm l → load_worn_verdict ≡ Ok tt

abbrev pub LoadWornNumbers : LoadingWorn → Type 0
LoadWornNumbers load = (l : List ℕ) (enable : ℕ) (m : Mem) (counts : List ℕ) → AllBelow 256 l → LoadWornNumber load l enable m counts

-- ---- conversions: 12 for an image that does not hold its part byte, then 1 6 12, and on the way back 21

-- the image holds its part byte, and 1 and 6 do not apply, where an image of the other version has n bytes
pub record Roomy (n : ℕ) (l out : List ℕ) : Type 0 where
  pub named : 6 ≤ length l
  pub known : part_in l ≤ 5
  pub room : n ≤ length out

module _ (convert : Converting) (l out : List ℕ) where
  abbrev pub convert_verdict : Verdict
  convert_verdict = (convert l out).answer.verdict

  pub record ToWornNumber : Type 0 where
    pub no_part_byte : length l < 6 → convert_verdict ≡ Err BadImage
    pub no_part : 6 ≤ length l → 5 < part_in l → convert_verdict ≡ Err NoPart
    pub short_buffer : 6 ≤ length l → part_in l ≤ 5 → length out < worn_length_of (facts_of (part_in l)) → convert_verdict ≡ Err ShortBuffer
    pub bad_image : Roomy (worn_length_of (facts_of (part_in l))) l out → (Form l → ⊥) → convert_verdict ≡ Err BadImage
    pub none : Roomy (worn_length_of (facts_of (part_in l))) l out → Form l → convert_verdict ≡ Ok tt

  pub record ToPlainNumber : Type 0 where
    pub no_part_byte : length l < 6 → convert_verdict ≡ Err BadImage
    pub no_part : 6 ≤ length l → 5 < part_in l → convert_verdict ≡ Err NoPart
    pub short_buffer : 6 ≤ length l → part_in l ≤ 5 → length out < image_length_of (facts_of (part_in l)) → convert_verdict ≡ Err ShortBuffer
    pub bad_image : Roomy (image_length_of (facts_of (part_in l))) l out → (WornForm l → ⊥) → convert_verdict ≡ Err BadImage
    pub counts_lost : Roomy (image_length_of (facts_of (part_in l))) l out → (f : WornForm l) → (NoneWorn f.counts → ⊥) → convert_verdict ≡ Err CountsLost
    pub none : Roomy (image_length_of (facts_of (part_in l))) l out → (f : WornForm l) → NoneWorn f.counts → convert_verdict ≡ Ok tt

abbrev pub ToWornNumbers : Converting → Type 0
ToWornNumbers there = (l out : List ℕ) → ToWornNumber there l out

abbrev pub ToPlainNumbers : Converting → Type 0
ToPlainNumbers back = (l out : List ℕ) → AllBelow 256 l → ToPlainNumber back l out

-- ---- nothing is left open: two that keep them give one verdict for every call

pub record OneWornNumber : Type 0 where
  pub save : (S T : SavingWorn) → SaveWornNumbers S → SaveWornNumbers T
      → (part : ℕ) (c : Chip) (m : Mem) (counts out : List ℕ) → save_worn_verdict S part c m counts out ≡ save_worn_verdict T part c m counts out
  pub load : (L K : LoadingWorn) → LoadWornNumbers L → LoadWornNumbers K
      → (l : List ℕ) (enable : ℕ) (m : Mem) (counts : List ℕ) → AllBelow 256 l → load_worn_verdict L l enable m counts ≡ load_worn_verdict K l enable m counts
  pub there : (C D : Converting) → ToWornNumbers C → ToWornNumbers D → (l out : List ℕ) → convert_verdict C l out ≡ convert_verdict D l out
  pub back : (C D : Converting) → ToPlainNumbers C → ToPlainNumbers D → (l out : List ℕ) → AllBelow 256 l → convert_verdict C l out ≡ convert_verdict D l out
