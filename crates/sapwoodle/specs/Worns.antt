-- What saving and loading with counts, and the two conversions, leave for callers that hold bytes and numbers only: the number answered, each
-- lent byte, each count and the worst of them.
-- Assumes nothing.
use Rattle.std.specs.Prelude.{ℕ, cond, List, length, Ok, Err}
use Rattle.parts.specs.Verdict.{Verdict}
use Rattle.parts.specs.Table.{facts_of}
use Rattle.parts.specs.Refusals.{verdict_number_of, sooner_of}
use Rattle.chip.specs.Memory.{Mem}
use Rattle.wear.specs.declared.Most.{Most}
use Rattle.wear.specs.Worst.{worst_by}
use Rattle.wear.specs.Calls.{counts_verdict_of}
use Rattle.pack_chip.specs.Layout.{unpacked_chip_of}
use Rattle.image.specs.Layout.{part_in}
use Rattle.image.specs.Calls.{AfterSave}
use Rattle.image_worn.specs.Calls.{AfterLoadWorn, saving_worn, load_worn_verdict_of, load_worn_by, to_worn_of, to_plain_of}
use Rattle.sapwoodle.specs.Answers.{chip_bytes_after, unheld_of}
use Rattle.sapwoodle.specs.Images.{BytesAfterSave, BytesAfterLoad, looks_of}

-- ---- saving and converting

abbrev pub saved_bytes : AfterSave → BytesAfterSave
saved_bytes left = record { number = verdict_number_of left.answer.verdict; written = left.answer.length; out = left.out }

-- of the part, the state's bytes, what is stored, the counts and the output buffer
abbrev pub saving_worn_bytes : ℕ → List ℕ → Mem → List ℕ → List ℕ → BytesAfterSave
saving_worn_bytes part s m counts out = saved_bytes (saving_worn part (unpacked_chip_of s) m counts out)

-- of the image and the output buffer
abbrev pub to_worn_bytes : List ℕ → List ℕ → BytesAfterSave
to_worn_bytes l out = saved_bytes (to_worn_of l out)

abbrev pub to_plain_bytes : List ℕ → List ℕ → BytesAfterSave
to_plain_bytes l out = saved_bytes (to_plain_of l out)

-- ---- loading

pub record BytesAfterLoadWorn : Type 0 where
  pub load : BytesAfterLoad
  pub counts : List ℕ
  pub worst : Most

-- the worst that a load found; where it is refused, the one that was held
unfoldable pub found_or : Most → Most → Verdict → Most
found_or found held (Ok _) = found
found_or found held (Err r) = held

-- the refusal where no state is held: 1, 2, 3 or 4, of a count buffer of n counts
unfoldable pub unheld_worn_of : ℕ → ℕ → Mem → ℕ → Verdict
unheld_worn_of part enable m n = sooner_of (counts_verdict_of (facts_of part) n) (unheld_of part enable m)

-- a state buffer of another length is 4, as in loading without counts
unfoldable pub load_worn_verdict_in : List ℕ → ℕ → List ℕ → Mem → List ℕ → Verdict
load_worn_verdict_in l enable s m counts =
    cond (looks_of (length s) (length l)) (load_worn_verdict_of l enable (length m.cells) (length m.ident) (length counts))
    (unheld_worn_of (part_in l) enable m (length counts))

abbrev pub loaded_worn_bytes : List ℕ → List ℕ → Most → Verdict → AfterLoadWorn → BytesAfterLoadWorn
loaded_worn_bytes l s worst v left =
    record {
      load = record { number = verdict_number_of v; part = part_in l; state = chip_bytes_after v left.answer.chip s; stored = left.stored };
      counts = left.counts;
      worst = worst_by worst left.counts v;
    }

-- of the image, the enable, the state's bytes, what is stored, the counts and the worst that was held
abbrev pub loading_worn_bytes : List ℕ → ℕ → List ℕ → Mem → List ℕ → Most → BytesAfterLoadWorn
loading_worn_bytes l enable s m counts worst =
    loaded_worn_bytes l s worst (load_worn_verdict_in l enable s m counts) (load_worn_by l m counts (load_worn_verdict_in l enable s m counts))
