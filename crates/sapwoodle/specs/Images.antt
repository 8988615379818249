-- What saving and loading leave for callers that hold bytes only: the number answered, and each lent byte.
-- Assumes nothing.
use Rattle.std.specs.Prelude.{ℕ, Bool, true, cond, List, length, eqb, ltb}
use Rattle.parts.specs.Verdict.{Verdict}
use Rattle.parts.specs.Refusals.{verdict_number_of}
use Rattle.chip.specs.Memory.{Mem}
use Rattle.pack_chip.specs.Layout.{chip_length, unpacked_chip_of}
use Rattle.sapwoodle.specs.Answers.{chip_bytes_after, unheld_of}
use Rattle.image.specs.Layout.{part_in}
use Rattle.image.specs.Calls.{saving, load_verdict_of, load_by, load_mem}

-- ---- saving

pub record BytesAfterSave : Type 0 where
  pub number : ℕ
  pub written : ℕ
  pub out : List ℕ

-- of the part, the state's bytes, what is stored and the output buffer
abbrev pub saving_bytes : ℕ → List ℕ → Mem → List ℕ → BytesAfterSave
saving_bytes part s m out =
    record {
      number = verdict_number_of (saving part (unpacked_chip_of s) m out).answer.verdict;
      written = (saving part (unpacked_chip_of s) m out).answer.length;
      out = (saving part (unpacked_chip_of s) m out).out;
    }

-- ---- loading

pub record BytesAfterLoad : Type 0 where
  pub number : ℕ
  pub part : ℕ
  pub state : List ℕ
  pub stored : Mem

-- a state buffer of another length is refusal 4, after 1, 2 and 3 and before 12; but an image without its part byte is 12 at once
unfoldable pub looks_of : ℕ → ℕ → Bool
looks_of state image = cond (eqb state chip_length) true (ltb image 6)

unfoldable pub load_verdict_in : List ℕ → ℕ → List ℕ → Mem → Verdict
load_verdict_in l enable s m =
    cond (looks_of (length s) (length l)) (load_verdict_of l enable (length m.cells) (length m.ident)) (unheld_of (part_in l) enable m)

-- of the image, the enable, the state's bytes and what is stored
abbrev pub loading_bytes : List ℕ → ℕ → List ℕ → Mem → BytesAfterLoad
loading_bytes l enable s m =
    record {
      number = verdict_number_of (load_verdict_in l enable s m);
      part = part_in l;
      state = chip_bytes_after (load_verdict_in l enable s m) (load_by l (load_verdict_in l enable s m)).chip s;
      stored = load_mem l m (load_verdict_in l enable s m);
    }
