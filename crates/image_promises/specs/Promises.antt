-- What is promised of images with counts (document 02, §7), stated over any functions of the form. Ours, which the contracts of `image_worn`
-- cite, keep it: proofs/Kept.antt, proofs/Converted.antt.
-- Assumes nothing.
use Rattle.std.specs.Prelude.{ℕ, ◌≤◌, ◌≡◌, true, false, List, ◌⊎◌, length, Ok, Err}
use Rattle.parts.specs.declared.Refusal.{Refusal}
use Rattle.parts.specs.declared.Refusal.TheVariants.{BadImage, CountsLost}
use Rattle.parts.specs.Table.{facts_of, enable_right_of}
use Rattle.parts.specs.Bytes.{AllBelow, word_end}
use Rattle.state.specs.declared.Chip.{Chip}
use Rattle.state.specs.Range.{in_range_of}
use Rattle.chip.specs.Memory.{Mem}
use Rattle.chip.specs.Delivery.{standby_of}
use Rattle.image.specs.Layout.{image_length_of, part_in}
use Rattle.image.specs.Calls.{AfterSave}
use Rattle.image.specs.Promises.{Loading, BuffersFit, Form}
use Rattle.wear.specs.Calls.{counts_by}
use Rattle.image_worn.specs.Layout.{worn_length_of, version_in}
use Rattle.image_promises.specs.Form.{SavingWorn, LoadingWorn, Converting, made_by, CountsFit, zeros, NoneWorn, WornForm}
use Rattle.image_promises.specs.Layout.{wrote}

-- ---- there and back again: through a save and a load

-- loading what was saved gives the stored bytes, the lock and every count back, whatever the chip was doing and the buffers held before
abbrev pub GivesBackWorn : SavingWorn → LoadingWorn → Type 0
GivesBackWorn save load =
    (part enable : ℕ) (c : Chip) (m old : Mem) (counts was out : List ℕ)
    → (facts_of part).known ≡ true
    → enable_right_of (facts_of part) enable ≡ true
    → in_range_of (facts_of part) c ≡ true
    → BuffersFit part m
    → BuffersFit part old
    → CountsFit part counts
    → AllBelow word_end counts
    → CountsFit part was
    → worn_length_of (facts_of part) ≤ length out
    → ((save part c m counts out).answer.verdict ≡ Ok tt)
    × (load (made_by (save part c m counts out)) enable old was
    ≡ record { answer = record { verdict = Ok tt; part = part; chip = standby_of (facts_of part) c.line.core.locked }; stored = m; counts = counts })

-- saving what was loaded from version 2 gives the same image, and leaves the bytes past it
abbrev pub SavesSameWorn : SavingWorn → LoadingWorn → Type 0
SavesSameWorn save load =
    (l : List ℕ) (enable : ℕ) (old : Mem) (was out : List ℕ)
    → WornForm l
    → let r = load l enable old was in
    r.answer.verdict ≡ Ok tt → length l ≤ length out → save r.answer.part r.answer.chip r.stored r.counts out ≡ wrote l (length l) out

-- ---- which images are taken

-- "Version 1 files load with all counts zero": of whatever has not the number of version 2 all else is what the reader of version 1 gives, for every
-- enable and all buffers; the counts are zero where it is taken, and as before where it is refused
abbrev pub PlainLoadsZero : LoadingWorn → Loading → Type 0
PlainLoadsZero load plain =
    (l : List ℕ) (enable : ℕ) (m : Mem) (counts : List ℕ)
    → (version_in l ≡ 0x02 → ⊥)
    → CountsFit (part_in l) counts
    → let r = plain l enable m in
    load l enable m counts ≡ record { answer = r.answer; stored = r.stored; counts = counts_by (zeros (part_in l)) counts r.answer.verdict }

-- "a version 1 reader refuses version 2": with 12, where nothing else is wrong, and it changes nothing
abbrev pub OldReaderRefuses : Loading → Type 0
OldReaderRefuses plain =
    (l : List ℕ) (enable : ℕ) (m : Mem)
    → WornForm l
    → enable_right_of (facts_of (part_in l)) enable ≡ true
    → BuffersFit (part_in l) m
    → ((plain l enable m).answer.verdict ≡ Err BadImage) × ((plain l enable m).stored ≡ m)

-- only the two forms are accepted, with any enable and any buffers
abbrev pub AcceptsOnlyWorn : LoadingWorn → Type 0
AcceptsOnlyWorn load =
    (l : List ℕ) (enable : ℕ) (m : Mem) (counts : List ℕ) → AllBelow 256 l → (load l enable m counts).answer.verdict ≡ Ok tt → Form l ⊎ WornForm l

-- and both are, with an enable and buffers right for the part byte
abbrev pub AcceptsAllWorn : LoadingWorn → Type 0
AcceptsAllWorn load =
    (l : List ℕ) (enable : ℕ) (m : Mem) (counts : List ℕ)
    → Form l ⊎ WornForm l
    → enable_right_of (facts_of (part_in l)) enable ≡ true
    → BuffersFit (part_in l) m
    → CountsFit (part_in l) counts
    → (load l enable m counts).answer.verdict ≡ Ok tt

-- ---- conversions

-- refused: the buffer as it was, and a length of 0
abbrev pub kept_out : List ℕ → Refusal → AfterSave
kept_out out r = record { answer = record { verdict = Err r; length = 0 }; out = out }

-- "there and back gives the same bytes": for every image of version 1
abbrev pub ThereAndBack : Converting → Converting → Type 0
ThereAndBack there back =
    (l out plain : List ℕ)
    → Form l
    → worn_length_of (facts_of (part_in l)) ≤ length out
    → length l ≤ length plain
    → ((there l out).answer.verdict ≡ Ok tt) × (back (made_by (there l out)) plain ≡ wrote l (length l) plain)

-- and for every one of version 2 with all counts zero
abbrev pub BackAndThere : Converting → Converting → Type 0
BackAndThere there back =
    (l out plain : List ℕ) (f : WornForm l)
    → NoneWorn f.counts
    → image_length_of (facts_of (part_in l)) ≤ length plain
    → length l ≤ length out
    → ((back l plain).answer.verdict ≡ Ok tt) × (there (made_by (back l plain)) out ≡ wrote l (length l) out)

-- "only if all counts are zero", "21 counts would be lost": an image of version 2, where there is room, is converted exactly if they are
pub record Loses (back : Converting) (l plain : List ℕ) (f : WornForm l) : Type 0 where
  pub done : NoneWorn f.counts → (back l plain).answer.verdict ≡ Ok tt
  pub only : (back l plain).answer.verdict ≡ Ok tt → NoneWorn f.counts
  pub lost : (NoneWorn f.counts → ⊥) → back l plain ≡ kept_out plain CountsLost

abbrev pub LosesNothing : Converting → Type 0
LosesNothing back = (l plain : List ℕ) (f : WornForm l) → image_length_of (facts_of (part_in l)) ≤ length plain → Loses back l plain f

-- loading before and after a conversion, of either kind, gives the same, with every enable and all buffers: chip, bytes and counts, or the same refusal
abbrev pub ConvertsSame : Converting → LoadingWorn → Type 0
ConvertsSame convert load =
    (l out : List ℕ) (enable : ℕ) (m : Mem) (counts : List ℕ)
    → AllBelow 256 l
    → (convert l out).answer.verdict ≡ Ok tt
    → load (made_by (convert l out)) enable m counts ≡ load l enable m counts

-- ---- whatever is refused leaves every lent byte and count

abbrev pub SaveKeeps : SavingWorn → Type 0
SaveKeeps save =
    (part : ℕ) (c : Chip) (m : Mem) (counts out : List ℕ) (r : Refusal)
    → (save part c m counts out).answer.verdict ≡ Err r
    → save part c m counts out ≡ kept_out out r

-- the part byte is told, and an unlocked chip, as by the reader of version 1
abbrev pub LoadKeeps : LoadingWorn → Type 0
LoadKeeps load =
    (l : List ℕ) (enable : ℕ) (m : Mem) (counts : List ℕ) (r : Refusal)
    → (load l enable m counts).answer.verdict ≡ Err r
    → load l enable m counts
    ≡ record { answer = record { verdict = Err r; part = part_in l; chip = standby_of (facts_of (part_in l)) false }; stored = m; counts = counts }

abbrev pub ConvertKeeps : Converting → Type 0
ConvertKeeps convert = (l out : List ℕ) (r : Refusal) → (convert l out).answer.verdict ≡ Err r → convert l out ≡ kept_out out r

pub record RefusedKeeps (save : SavingWorn) (load : LoadingWorn) (there back : Converting) : Type 0 where
  pub saved : SaveKeeps save
  pub loaded : LoadKeeps load
  pub to_worn : ConvertKeeps there
  pub to_plain : ConvertKeeps back
