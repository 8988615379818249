-- Wrong and idle ways of saving, loading and converting: each breaks a promise (proofs/Wrong.antt, proofs/WrongSaves.antt), whatever else it does.
-- Assumes nothing.
use Rattle.std.specs.Prelude.{ℕ, ◌+◌, ◌-◌, ◌%◌, ◌/◌, ◌≤◌, ◌≡◌, Bool, true, List, [], ◌∷◌, ◌++◌, length, get_or, take, replicate, Ok, Err}
use Rattle.parts.specs.declared.Facts.{Facts}
use Rattle.parts.specs.declared.Refusal.TheVariants.{BadImage, CountsLost}
use Rattle.parts.specs.Table.{facts_of, groups_of, enable_right_of}
use Rattle.parts.specs.Bytes.{words_of}
use Rattle.state.specs.declared.Chip.{Chip}
use Rattle.chip.specs.Memory.{Mem}
use Rattle.image.specs.Layout.{head_of, image_length_of, part_in}
use Rattle.image.specs.Calls.{saved_by, out_by}
use Rattle.image.specs.Promises.{Loading, BuffersFit, AcceptsOnly}
use Rattle.image_worn.specs.Layout.{worn_image_of, worn_length_of, counts_in}
use Rattle.image_worn.specs.Calls.{save_worn_verdict_of}
use Rattle.image_promises.specs.Form.{SavingWorn, LoadingWorn, Converting, CountsFit, NoneWorn, Sane, WornForm}
use Rattle.image_promises.specs.Layout.{LayoutWritten}
use Rattle.image_promises.specs.Promises.{GivesBackWorn, OldReaderRefuses, AcceptsOnlyWorn, ThereAndBack, LosesNothing}
use Rattle.image_promises.specs.Numbers.{Roomy, ToPlainNumbers}

-- ---- ways back

-- where the counts that it looks at are right, it is done
abbrev pub DoneWhere : (List ℕ → Type 0) → Converting → Type 0
DoneWhere Right back =
    (l plain : List ℕ) (f : WornForm l) → Right f.counts → image_length_of (facts_of (part_in l)) ≤ length plain → (back l plain).answer.verdict ≡ Ok tt

-- drops counts
abbrev pub DropsCounts : Converting → Type 0
DropsCounts = DoneWhere (λ counts. Unit {0})

-- looks at the first count only
abbrev pub LooksAtFirst : Converting → Type 0
LooksAtFirst = DoneWhere (λ counts. get_or counts 0 0 ≡ 0)

-- at the low byte of each only
abbrev pub LooksAtLow : Converting → Type 0
LooksAtLow = DoneWhere (λ counts. (n : ℕ) → get_or counts n 0 % 256 ≡ 0)

-- 21 before 12: whatever else is wrong with an image whose counts are not all zero
abbrev pub LostFirst : Converting → Type 0
LostFirst back =
    (l plain : List ℕ) → Roomy (image_length_of (facts_of (part_in l))) l plain → (NoneWorn (counts_in (facts_of (part_in l)) l) → ⊥)
    → (back l plain).answer.verdict ≡ Err CountsLost

-- a conversion, of either kind, that refuses everything
abbrev pub RefusesAll : Converting → Type 0
RefusesAll convert = (l out : List ℕ) → (convert l out).answer.verdict ≡ Err BadImage

-- ---- loaders

-- leaves the counts as they were
abbrev pub LeavesCounts : LoadingWorn → Type 0
LeavesCounts load = (l : List ℕ) (enable : ℕ) (m : Mem) (counts : List ℕ) → (load l enable m counts).counts ≡ counts

-- takes an image that is four bytes short: the last group has no count
abbrev pub TakesShort : LoadingWorn → Type 0
TakesShort load =
    (part enable : ℕ) (lock : Bool) (m old : Mem) (counts was : List ℕ)
    → Sane part lock m
    → length counts + 1 ≡ groups_of (facts_of part)
    → enable_right_of (facts_of part) enable ≡ true
    → BuffersFit part old
    → CountsFit part was
    → (load (worn_image_of part lock m counts) enable old was).answer.verdict ≡ Ok tt

-- a reader of version 1 that takes version 2
abbrev pub TakesWorn : Loading → Type 0
TakesWorn plain =
    (l : List ℕ) (enable : ℕ) (m : Mem) → WornForm l → enable_right_of (facts_of (part_in l)) enable ≡ true → BuffersFit (part_in l) m
    → (plain l enable m).answer.verdict ≡ Ok tt

-- ---- savers

-- writes zeros for counts
abbrev pub SavesZeros : SavingWorn → Type 0
SavesZeros save = (part : ℕ) (c : Chip) (m : Mem) (counts out : List ℕ) → save part c m counts out ≡ save part c m (replicate (length counts) 0) out

-- as ours, with other bytes or of another length
abbrev pub saves_as : (ℕ → Bool → Mem → List ℕ → List ℕ) → (Facts → ℕ) → SavingWorn
saves_as bytes long part c m counts out =
    record {
      answer = saved_by (long (facts_of part)) (save_worn_verdict_of part c (length m.cells) (length m.ident) (length counts) (length out));
      out = out_by (bytes part c.line.core.locked m counts) (long (facts_of part)) out (save_worn_verdict_of part c (length m.cells) (length m.ident) (length counts) (length out));
    }

abbrev pub low_words_of : List ℕ → List ℕ
low_words_of [] = []
low_words_of (x ∷ xs) = (x % 256 ∷ x / 256 % 256 ∷ x / 65536 % 256 ∷ x / 16777216 % 256 ∷ []) ++ low_words_of xs

abbrev pub low_first : SavingWorn
low_first = saves_as (λ part lock m counts. ((head_of 0x02 part lock ++ m.cells) ++ m.ident) ++ low_words_of counts) worn_length_of

-- counts before the identification page
abbrev pub counts_first : SavingWorn
counts_first = saves_as (λ part lock m counts. ((head_of 0x02 part lock ++ m.cells) ++ words_of counts) ++ m.ident) worn_length_of

abbrev pub four_short : SavingWorn
four_short = saves_as (λ part lock m counts. take (worn_length_of (facts_of part) - 4) (worn_image_of part lock m counts)) (λ f. worn_length_of f - 4)

-- ----

pub record WrongWorn : Type 0 where
  pub drops_breaks : (back : Converting) → LosesNothing back → DropsCounts back → ⊥
  pub first_breaks : (back : Converting) → LosesNothing back → LooksAtFirst back → ⊥
  pub low_breaks : (back : Converting) → LosesNothing back → LooksAtLow back → ⊥
  pub lost_first_breaks : (back : Converting) → ToPlainNumbers back → LostFirst back → ⊥
  pub refuses_back_breaks : (back : Converting) → LosesNothing back → RefusesAll back → ⊥
  pub refuses_there_breaks : (there back : Converting) → ThereAndBack there back → RefusesAll there → ⊥
  pub leaves_breaks : (save : SavingWorn) (load : LoadingWorn) → GivesBackWorn save load → LeavesCounts load → ⊥
  pub short_read_breaks : (load : LoadingWorn) → AcceptsOnlyWorn load → TakesShort load → ⊥
  pub takes_worn_breaks : (plain : Loading) → OldReaderRefuses plain → TakesWorn plain → ⊥
  -- and what was promised of the reader of version 1 before
  pub takes_worn_breaks_old : (plain : Loading) → AcceptsOnly plain → TakesWorn plain → ⊥
  pub zeros_breaks : (save : SavingWorn) (load : LoadingWorn) → GivesBackWorn save load → SavesZeros save → ⊥
  pub low_first_breaks : LayoutWritten low_first → ⊥
  pub counts_first_breaks : LayoutWritten counts_first → ⊥
  pub four_short_breaks : LayoutWritten four_short → ⊥
