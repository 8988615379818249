-- Which number a save and a load give, by plain conditions, each with all earlier ones excluded (document 01, 'Refusal numbers' and
-- 'The image'), and 0 where none applies. Said of any functions of the form, so that another order breaks it.
-- Assumes nothing.
use Rattle.std.specs.Prelude.{ℕ, ◌<◌, ◌≤◌, ◌≡◌, true, false, cond, List, length, ltb, Err}
use Rattle.parts.specs.declared.Refusal.TheVariants.{ShortBuffer, BadImage}
use Rattle.parts.specs.Verdict.{Verdict}
use Rattle.parts.specs.Table.{facts_of}
use Rattle.parts.specs.Refusals.{verdict_number_of}
use Rattle.state.specs.declared.Chip.{Chip}
use Rattle.state.specs.Range.{in_range_of}
use Rattle.chip.specs.Memory.{Mem}
use Rattle.image.specs.Layout.{image_length_of, part_in, formed_of}
use Rattle.image.specs.Calls.{save_verdict_of, save_by, save_out, load_verdict_of, load_by, load_mem}
use Rattle.image.specs.Promises.{Saving, Loading, BuffersFit, Form}

-- ---- saving: 1 3 4 6

module _ (save : Saving) (part : ℕ) (c : Chip) (m : Mem) (out : List ℕ) where
  abbrev pub save_number : ℕ
  save_number = verdict_number_of (save part c m out).answer.verdict

  pub record SaveNumber : Type 0 where
    pub no_part : 5 < part → save_number ≡ 1
    pub wrong_buffer : part ≤ 5 → (BuffersFit part m → ⊥) → save_number ≡ 3
    pub bad_state : part ≤ 5 → BuffersFit part m → in_range_of (facts_of part) c ≡ false → save_number ≡ 4
    pub short_buffer : part ≤ 5 → BuffersFit part m → in_range_of (facts_of part) c ≡ true → length out < image_length_of (facts_of part) → save_number ≡ 6
    pub none : part ≤ 5 → BuffersFit part m → in_range_of (facts_of part) c ≡ true → image_length_of (facts_of part) ≤ length out → save_number ≡ 0

abbrev pub SaveNumbers : Saving → Type 0
SaveNumbers save = (part : ℕ) (c : Chip) (m : Mem) (out : List ℕ) → SaveNumber save part c m out

-- ---- loading: 12 for an image that does not hold its part byte, then 1 2 3 12

-- the image holds its part byte, and 1, 2 and 3 do not apply
pub record Openable (l : List ℕ) (enable : ℕ) (m : Mem) : Type 0 where
  pub named : 6 ≤ length l
  pub known : part_in l ≤ 5
  pub enabled : enable < (facts_of (part_in l)).enables
  pub fits : BuffersFit (part_in l) m

module _ (load : Loading) (l : List ℕ) (enable : ℕ) (m : Mem) where
  abbrev pub load_number : ℕ
  load_number = verdict_number_of (load l enable m).answer.verdict

  pub record LoadNumber : Type 0 where
    pub no_part_byte : length l < 6 → load_number ≡ 12
    pub no_part : 6 ≤ length l → 5 < part_in l → load_number ≡ 1
    pub wrong_enable : 6 ≤ length l → part_in l ≤ 5 → (facts_of (part_in l)).enables ≤ enable → load_number ≡ 2
    pub wrong_buffer : 6 ≤ length l → part_in l ≤ 5 → enable < (facts_of (part_in l)).enables → (BuffersFit (part_in l) m → ⊥) → load_number ≡ 3
    -- "image length, mark, version or lock byte wrong for its part"
    pub bad_image : Openable l enable m → (Form l → ⊥) → load_number ≡ 12
    pub none : Openable l enable m → Form l → load_number ≡ 0

abbrev pub LoadNumbers : Loading → Type 0
LoadNumbers load = (l : List ℕ) (enable : ℕ) (m : Mem) → LoadNumber load l enable m

-- ---- nothing is left open: two that keep them give one number for every call

pub record OneImageNumber : Type 0 where
  pub save : (S T : Saving) → SaveNumbers S → SaveNumbers T
      → (part : ℕ) (c : Chip) (m : Mem) (out : List ℕ) → save_number S part c m out ≡ save_number T part c m out
  pub load : (L K : Loading) → LoadNumbers L → LoadNumbers K
      → (l : List ℕ) (enable : ℕ) (m : Mem) → load_number L l enable m ≡ load_number K l enable m

-- ---- other orders

abbrev saved_as : Verdict → Saving
saved_as v part c m out = record { answer = save_by (facts_of part) v; out = save_out part c m out v }

-- 6 before 1
abbrev pub room_first : Saving
room_first part c m out =
    saved_as (cond (ltb (length out) (image_length_of (facts_of part))) (Err ShortBuffer) (save_verdict_of part c (length m.cells) (length m.ident) (length out)))
    part c m out

abbrev pub RoomFirstBreaks : Type 0
RoomFirstBreaks = SaveNumbers room_first → ⊥

abbrev loaded_as : Verdict → Loading
loaded_as v l enable m = record { answer = load_by l v; stored = load_mem l m v }

-- 12 before 1
abbrev pub form_first : Loading
form_first l enable m =
    loaded_as (cond (formed_of (facts_of (part_in l)) l) (load_verdict_of l enable (length m.cells) (length m.ident)) (Err BadImage))
    l enable m

abbrev pub FormFirstBreaks : Type 0
FormFirstBreaks = LoadNumbers form_first → ⊥
