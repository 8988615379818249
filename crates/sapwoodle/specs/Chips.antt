-- What the functions of the chip leave: the number answered, and each lent byte. A state is bytes (`unpacked_chip_of`, `packInto`).
-- Assumes nothing.
use Rattle.std.specs.Prelude.{ℕ, true, false, cond, List, length, eqb}
use Rattle.parts.specs.declared.Loss.{Loss}
use Rattle.parts.specs.declared.Loss.TheVariants.{Old, Lent}
use Rattle.parts.specs.Verdict.{Verdict}
use Rattle.parts.specs.Table.{facts_of}
use Rattle.parts.specs.Refusals.{verdict_number_of, verdict_place_of}
use Rattle.chip.specs.Memory.{Mem}
use Rattle.chip.specs.Model.{PowerCut, cut_by}
use Rattle.chip.specs.Delivery.{standby_of}
use Rattle.chip.specs.Calls.{RunLeft, deliver_verdict_of, deliver_mem, step_of, run_of}
use Rattle.pack_chip.specs.Layout.{chip_length, unpacked_chip_of}
use Rattle.sapwoodle.specs.Answers.{chip_bytes_after, unheld_of}

-- ---- what is given for a loss of power (document 02, §5): "a lent page of P bytes" and "a given flag", 0 no, 1 and more yes

-- of the page's length and the flag: no page and flag 0 are the old contents and no lock. Anything else is a lent page, so that a flag
-- without one is judged as a page of length 0 is, by refusal 3
unfoldable pub loss_from : ℕ → ℕ → Loss
loss_from n lock = cond (eqb lock 0) (cond (eqb n 0) Old (Lent false)) (Lent true)

abbrev pub cut_from : List ℕ → ℕ → PowerCut
cut_from page lock = cut_by (loss_from (length page) lock) page

-- ---- what a call answers, and each lent byte after it: of the part, the enable, the lent page and its flag, the state's bytes, what is
-- stored, and the rest

pub record BytesAfterStep : Type 0 where
  pub number : ℕ
  pub level : ℕ
  pub cycles : ℕ
  pub state : List ℕ
  pub stored : Mem

pub record BytesAfterRun : Type 0 where
  pub number : ℕ
  pub cycles : ℕ
  pub place : ℕ
  pub state : List ℕ
  pub stored : Mem
  pub answers : List ℕ

pub record BytesAfterDeliver : Type 0 where
  pub number : ℕ
  pub state : List ℕ
  pub stored : Mem

-- ---- one event

abbrev pub stepping : ℕ → ℕ → List ℕ → ℕ → List ℕ → Mem → ℕ → BytesAfterStep
stepping part enable page lock s m e =
    record {
      number = verdict_number_of (step_of part enable (cut_from page lock) (unpacked_chip_of s) m e).answer.verdict;
      level = (step_of part enable (cut_from page lock) (unpacked_chip_of s) m e).answer.level;
      cycles = (step_of part enable (cut_from page lock) (unpacked_chip_of s) m e).answer.cycles;
      state = chip_bytes_after (step_of part enable (cut_from page lock) (unpacked_chip_of s) m e).answer.verdict (step_of part enable (cut_from page lock) (unpacked_chip_of s) m e).answer.chip s;
      stored = (step_of part enable (cut_from page lock) (unpacked_chip_of s) m e).mem;
    }

-- ---- a list of events

-- of the state's bytes, and of what the run answers and leaves
abbrev pub ran_bytes : List ℕ → RunLeft → BytesAfterRun
ran_bytes s left =
    record {
      number = verdict_number_of left.answer.verdict;
      cycles = left.answer.cycles;
      place = verdict_place_of left.answer.verdict;
      state = chip_bytes_after left.answer.verdict left.answer.chip s;
      stored = left.mem;
      answers = left.answers;
    }

abbrev pub running : ℕ → ℕ → List ℕ → ℕ → List ℕ → Mem → List ℕ → List ℕ → BytesAfterRun
running part enable page lock s m es a = ran_bytes s (run_of part enable (cut_from page lock) (unpacked_chip_of s) m es a)

-- ---- delivery

-- a state buffer of another length holds no state: refusal 4 where neither 1 nor 3 is given (every part takes enable 0)
unfoldable pub deliver_verdict_in : ℕ → List ℕ → Mem → Verdict
deliver_verdict_in part s m =
    cond (eqb (length s) chip_length) (deliver_verdict_of part (length m.cells) (length m.ident)) (unheld_of part 0 m)

abbrev pub delivering : ℕ → List ℕ → Mem → BytesAfterDeliver
delivering part s m =
    record {
      number = verdict_number_of (deliver_verdict_in part s m);
      state = chip_bytes_after (deliver_verdict_in part s m) (standby_of (facts_of part) false) s;
      stored = deliver_mem part m (deliver_verdict_in part s m);
    }
