-- Each byte of what is written, and of what is read: the layout of `worn_image_of` and no other. What is promised of a writer and a reader together
-- would let both have another one.
-- Assumes nothing.
use Rattle.std.specs.Prelude.{ℕ, ◌+◌, ◌*◌, ◌/◌, ◌%◌, ◌<◌, ◌≤◌, ◌≡◌, Bool, true, List, [], ◌∷◌, ◌++◌, length, get_or, take, drop, Ok}
use Rattle.parts.specs.Table.{facts_of, enable_right_of}
use Rattle.parts.specs.Bytes.{flag_of, AllBelow, word_end}
use Rattle.state.specs.declared.Chip.{Chip}
use Rattle.chip.specs.Memory.{Mem}
use Rattle.chip.specs.Delivery.{standby_of}
use Rattle.image.specs.Layout.{image_of, image_length_of}
use Rattle.image.specs.Calls.{AfterSave}
use Rattle.image.specs.Promises.{BuffersFit}
use Rattle.image_worn.specs.Layout.{worn_image_of, worn_length_of}
use Rattle.image_promises.specs.Form.{SavingWorn, LoadingWorn, Converting, CountsFit, zeros, Sane}

-- these n bytes, and those past them as they were
abbrev pub wrote : List ℕ → ℕ → List ℕ → AfterSave
wrote bytes n out = record { answer = record { verdict = Ok tt; length = n }; out = bytes ++ drop n out }

-- "adds the counts of §6 after the identification page, high byte first": the bytes and counts as they stand, whatever the chip is doing
abbrev pub LayoutWritten : SavingWorn → Type 0
LayoutWritten save =
    (part : ℕ) (c : Chip) (m : Mem) (counts out : List ℕ)
    → (save part c m counts out).answer.verdict ≡ Ok tt
    → save part c m counts out ≡ wrote (worn_image_of part c.line.core.locked m counts) (worn_length_of (facts_of part)) out

abbrev pub LayoutRead : LoadingWorn → Type 0
LayoutRead load =
    (part enable : ℕ) (lock : Bool) (m old : Mem) (counts was : List ℕ)
    → Sane part lock m
    → CountsFit part counts
    → AllBelow word_end counts
    → enable_right_of (facts_of part) enable ≡ true
    → BuffersFit part old
    → CountsFit part was
    → load (worn_image_of part lock m counts) enable old was
    ≡ record { answer = record { verdict = Ok tt; part = part; chip = standby_of (facts_of part) lock }; stored = m; counts = counts }

-- "Version 1 files .. convert to version 2": the same bytes, with all counts zero
abbrev pub ConvertsThere : Converting → Type 0
ConvertsThere there =
    (part : ℕ) (lock : Bool) (m : Mem) (out : List ℕ)
    → Sane part lock m
    → worn_length_of (facts_of part) ≤ length out
    → there (image_of part lock m) out ≡ wrote (worn_image_of part lock m (zeros part)) (worn_length_of (facts_of part)) out

-- "Back to version 1"
abbrev pub ConvertsBack : Converting → Type 0
ConvertsBack back =
    (part : ℕ) (lock : Bool) (m : Mem) (out : List ℕ)
    → Sane part lock m
    → image_length_of (facts_of part) ≤ length out
    → back (worn_image_of part lock m (zeros part)) out ≡ wrote (image_of part lock m) (image_length_of (facts_of part)) out

-- ---- the layout by places

module _ (part : ℕ) (lock : Bool) (m : Mem) (counts : List ℕ) where
  abbrev from : ℕ → ℕ → List ℕ
  from at n = take n (drop at (worn_image_of part lock m counts))

  pub record Places : Type 0 where
    -- mark `EPR`, version 0002h
    pub head : from 0 7 ≡ 0x45 ∷ 0x50 ∷ 0x52 ∷ 0x00 ∷ 0x02 ∷ part ∷ flag_of lock ∷ []
    pub array : from 7 (length m.cells) ≡ m.cells
    pub ident : from (7 + length m.cells) (length m.ident) ≡ m.ident
    -- "after the identification page, high byte first": from group 0 on, each with four bytes
    pub count : (n : ℕ) → n < length counts
        → from (7 + length m.cells + length m.ident + 4 * n) 4
        ≡ get_or counts n 0 / 16777216 % 256 ∷ get_or counts n 0 / 65536 % 256 ∷ get_or counts n 0 / 256 % 256 ∷ get_or counts n 0 % 256 ∷ []

abbrev pub WornPlaces : Type 0
WornPlaces = (part : ℕ) (lock : Bool) (m : Mem) (counts : List ℕ) → Places part lock m counts

-- bytes of a part's image, without and with counts
abbrev Lengths : ℕ → ℕ → ℕ → Type 0
Lengths part plain worn = (image_length_of (facts_of part) ≡ plain) × (worn_length_of (facts_of part) ≡ worn)

pub record WornLengths : Type 0 where
  pub part_0 : Lengths 0 2071 10263
  pub part_1 : Lengths 1 2071 10263
  pub part_2 : Lengths 2 8199 16391
  pub part_3 : Lengths 3 8231 16423
  pub part_4 : Lengths 4 32775 65543
  pub part_5 : Lengths 5 32839 65607
