-- Wrong runs over captures, and the promise that each breaks: proofs/WrongRuns.antt.
-- Assumes nothing.
use Rattle.std.specs.Prelude.{ℕ, suc, ◌+◌, ◌<◌, ◌≡◌, Bool, true, false, not, cond, ◌&&◌, List, [], ◌∷◌, length, get_or, eqb, ltb, Ok, Err}
use Rattle.parts.specs.Verdict.{Verdict}
use Rattle.parts.specs.Bytes.{AllBelow}
use Rattle.parts.specs.Table.{facts_of}
use Rattle.state.specs.declared.Chip.{Chip}
use Rattle.chip.specs.Memory.{Mem}
use Rattle.chip.specs.Model.{Model, ours}
use Rattle.chip.specs.Runs.{after_of, memory_of, cycles_of}
use Rattle.chip_promises.specs.Numbers.{Ready}
use Rattle.capture.specs.declared.Mark.{Mark}
use Rattle.capture.specs.declared.Mark.TheVariants.{Same, At}
use Rattle.capture.specs.Samples.{events_of, rises_of}
use Rattle.capture.specs.Ends.{busy_in, with_ends_of, ends_in}
use Rattle.capture.specs.Marks.{clock_of, clocks_in, mark_from}
use Rattle.capture.specs.Calls.{SeenLeft, seen_verdict_of, seeing_of}
use Rattle.capture_promises.specs.Machines.{Seeing, unseen}
use Rattle.capture_promises.specs.Running.{EndsRight, MarkFirst}
use Rattle.capture_promises.specs.Good.{GoodUnmarked}

-- ---- any run with the fault, that refuses nothing else than it should

abbrev pub Accepts : Seeing → Type 0
Accepts see =
    (part enable : ℕ) (c : Chip) (m : Mem) (bus : Bool) (ss : List ℕ) → Ready part enable c m → AllBelow 4 ss
    → (see part enable c m bus ss).answer.verdict ≡ Ok tt

-- marks nothing
abbrev pub NeverMarks : Seeing → Type 0
NeverMarks see = (part enable : ℕ) (c : Chip) (m : Mem) (bus : Bool) (ss : List ℕ) → (see part enable c m bus ss).answer.mark ≡ Same

abbrev pub NeverMarksBreaks : Type 0
NeverMarksBreaks = (see : Seeing) → Accepts see → NeverMarks see → MarkFirst see → ⊥

-- marks something wherever there is a clock
abbrev pub AlwaysMarks : Seeing → Type 0
AlwaysMarks see =
    (part enable : ℕ) (c : Chip) (m : Mem) (bus : Bool) (ss : List ℕ) → (see part enable c m bus ss).answer.verdict ≡ Ok tt
    → 0 < clocks_in (events_of bus ss) → (see part enable c m bus ss).answer.mark ≡ Same → ⊥

abbrev pub AlwaysMarksBreaks : Type 0
AlwaysMarksBreaks = (see : Seeing) → Accepts see → AlwaysMarks see → MarkFirst see → ⊥

-- puts in no end
abbrev pub EndsNothing : Seeing → Type 0
EndsNothing see = (part enable : ℕ) (c : Chip) (m : Mem) (bus : Bool) (ss : List ℕ) → (see part enable c m bus ss).answer.ends ≡ 0

abbrev pub EndsNothingBreaks : Type 0
EndsNothingBreaks = (see : Seeing) → Accepts see → EndsNothing see → EndsRight see → ⊥

-- does not look at the samples: leaves the chip, or the stored bytes, as they were
abbrev pub KeepsChip : Seeing → Type 0
KeepsChip see = (part enable : ℕ) (c : Chip) (m : Mem) (bus : Bool) (ss : List ℕ) → (see part enable c m bus ss).answer.chip ≡ c

abbrev pub KeepsChipBreaks : Type 0
KeepsChipBreaks = (see : Seeing) → Accepts see → KeepsChip see → EndsRight see → ⊥

abbrev pub KeepsBytes : Seeing → Type 0
KeepsBytes see = (part enable : ℕ) (c : Chip) (m : Mem) (bus : Bool) (ss : List ℕ) → (see part enable c m bus ss).mem ≡ m

abbrev pub KeepsBytesBreaks : Type 0
KeepsBytesBreaks = (see : Seeing) → Accepts see → KeepsBytes see → EndsRight see → ⊥

-- takes every capture by the letter, whatever the caller asked for
abbrev pub OneReading : Seeing → Type 0
OneReading see = (part enable : ℕ) (c : Chip) (m : Mem) (ss : List ℕ) → see part enable c m true ss ≡ see part enable c m false ss

abbrev pub OneReadingBreaks : Type 0
OneReadingBreaks = (see : Seeing) → Accepts see → OneReading see → EndsRight see → ⊥

-- ---- runs like ours but for one thing: where the ends are put in, or which clock is marked

pub record View : Type 0 where
  -- the events with their ends, of the model, the chip and the events
  pub with_ends : Model → Chip → List ℕ → List ℕ
  -- the mark, of the model, the chip, what is stored, the samples of the clocks, and the events with their ends
  pub mark_of : Model → Chip → Mem → List ℕ → List ℕ → Mark

abbrev pub viewed_over : View → Model → Chip → Mem → Bool → List ℕ → List ℕ → SeenLeft
viewed_over v M c m bus ss xs =
    record {
      answer =
          record {
            verdict = Ok tt;
            events = length (events_of bus ss);
            clocks = clocks_in (events_of bus ss);
            ends = ends_in xs;
            cycles = cycles_of M c xs;
            mark = v.mark_of M c m (rises_of bus ss) xs;
            chip = after_of M c xs;
          };
      mem = memory_of M c m xs;
    }

abbrev pub viewed_by : View → Model → Chip → Mem → Bool → List ℕ → Verdict → SeenLeft
viewed_by v M c m bus ss (Ok _) = viewed_over v M c m bus ss (v.with_ends M c (events_of bus ss))
viewed_by v M c m bus ss (Err r) = unseen r c m

abbrev pub viewed : View → Seeing
viewed v part enable c m bus ss =
    viewed_by v (ours (facts_of part) enable) c m bus ss (seen_verdict_of part enable c (length m.cells) (length m.ident) ss)

abbrev pub first_mark : Model → Chip → Mem → List ℕ → List ℕ → Mark
first_mark M c m rises xs = mark_from M c m 0 0 rises xs

-- ours is one of them, and each of them refuses what ours refuses
abbrev pub ViewedIsOurs : Type 0
ViewedIsOurs =
    (part enable : ℕ) (c : Chip) (m : Mem) (bus : Bool) (ss : List ℕ)
    → viewed (record { with_ends = with_ends_of; mark_of = first_mark }) part enable c m bus ss ≡ seeing_of part enable c m bus ss

abbrev pub ViewedAccepts : Type 0
ViewedAccepts = (v : View) → Accepts (viewed v)

-- puts an end before every Start in a cycle, acknowledged or not
abbrev pub every_end_of : Model → Chip → List ℕ → List ℕ
every_end_of M c [] = []
every_end_of M c (e ∷ es) =
    cond (eqb e 2 && busy_in c.line.phase) (4 ∷ e ∷ every_end_of M (M.next (M.next c 4) e) es) (e ∷ every_end_of M (M.next c e) es)

abbrev pub ends_every : Seeing
ends_every = viewed (record { with_ends = every_end_of; mark_of = first_mark })

abbrev pub EndsEveryBreaks : Type 0
EndsEveryBreaks = EndsRight ends_every → ⊥

-- puts the end at the Stop that began the cycle, as though it took no time
abbrev pub at_once_of : Model → Chip → List ℕ → List ℕ
at_once_of M c [] = []
at_once_of M c (e ∷ es) =
    cond (busy_in (M.next c e).line.phase) (e ∷ 4 ∷ at_once_of M (M.next (M.next c e) 4) es) (e ∷ at_once_of M (M.next c e) es)

abbrev pub ends_at_once : Seeing
ends_at_once = viewed (record { with_ends = at_once_of; mark_of = first_mark })

abbrev pub EndsAtOnceBreaks : Type 0
EndsAtOnceBreaks = EndsRight ends_at_once → ⊥

-- compares every clock, the master's bits too
abbrev pub every_mark : Model → Chip → Mem → ℕ → List ℕ → List ℕ → Mark
every_mark M c m n rises [] = Same
every_mark M c m n rises (e ∷ es) =
    cond (ltb e 2 && not (eqb (M.level c m e) e)) (At (get_or rises n 0) n e) (every_mark M (M.next c e) (M.store c m e) (n + clock_of e) rises es)

abbrev pub compares_all : Seeing
compares_all = viewed (record { with_ends = with_ends_of; mark_of = λ M c m rises xs. every_mark M c m 0 rises xs })

abbrev pub ComparesAllBreaks : Type 0
ComparesAllBreaks = MarkFirst compares_all → ⊥

-- and it marks the capture of a good board
abbrev pub ComparesAllMarksGood : Type 0
ComparesAllMarksGood = GoodUnmarked compares_all → ⊥

-- counts the samples from 1
abbrev pub one_later : Mark → Mark
one_later Same = Same
one_later (At s n v) = At (suc s) n v

abbrev pub counts_from_one : Seeing
counts_from_one = viewed (record { with_ends = with_ends_of; mark_of = λ M c m rises xs. one_later (first_mark M c m rises xs) })

abbrev pub CountsFromOneBreaks : Type 0
CountsFromOneBreaks = MarkFirst counts_from_one → ⊥

-- ---- each

pub record WrongRuns : Type 0 where
  pub never_marks : NeverMarksBreaks
  pub always_marks : AlwaysMarksBreaks
  pub ends_nothing : EndsNothingBreaks
  pub keeps_chip : KeepsChipBreaks
  pub keeps_bytes : KeepsBytesBreaks
  pub one_reading : OneReadingBreaks
  pub like_ours : ViewedIsOurs
  pub refuse_as_ours : ViewedAccepts
  pub ends_every : EndsEveryBreaks
  pub ends_at_once : EndsAtOnceBreaks
  pub compares_all : ComparesAllBreaks
  pub compares_all_good : ComparesAllMarksGood
  pub counts_from_one : CountsFromOneBreaks
