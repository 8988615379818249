-- Long captures in pieces: a capture may be cut directly behind a Stop, and the pieces, one after another on the same chip, are the whole: proofs/Pieces.antt.
-- The second piece begins with the sample that the first ended with, which makes no event there.
-- Assumes nothing.
use Rattle.std.specs.Prelude.{ℕ, ◌+◌, ◌≡◌, Bool, cond, List, [], ◌∷◌, ◌++◌, length, ltb, Ok}
use Rattle.state.specs.declared.Chip.{Chip}
use Rattle.chip.specs.Memory.{Mem}
use Rattle.chip_laws.specs.Range.{Typed}
use Rattle.capture.specs.declared.Mark.{Mark}
use Rattle.capture.specs.declared.Mark.TheVariants.{Same, At}
use Rattle.capture.specs.declared.Seen.{Seen}
use Rattle.capture.specs.declared.Tally.{Tally}
use Rattle.capture.specs.Marks.{sooner_mark}
use Rattle.capture.specs.Calls.{SeenLeft}
use Rattle.capture_promises.specs.Machines.{Seeing, Counting}

-- the first mark; that of the second piece with the samples and clocks before it
abbrev pub later_mark : ℕ → ℕ → Mark → Mark
later_mark samples clocks Same = Same
later_mark samples clocks (At s n v) = At (samples + s) (clocks + n) v

-- the counts added, the second piece's chip and memory
abbrev pub joined : ℕ → Seen → SeenLeft → SeenLeft
joined samples a b =
    record {
      answer =
          record {
            verdict = b.answer.verdict;
            events = a.events + b.answer.events;
            clocks = a.clocks + b.answer.clocks;
            ends = a.ends + b.answer.ends;
            cycles = a.cycles + b.answer.cycles;
            mark = sooner_mark a.mark (later_mark samples a.clocks b.answer.mark);
            chip = b.answer.chip;
          };
      mem = b.mem;
    }

-- behind a Stop, samples 1 and 3. The chip is one that code can hold
abbrev pub PiecesJoin : Seeing → Type 0
PiecesJoin see =
    (part enable : ℕ) (c : Chip) (m : Mem) (bus : Bool) (ws ys : List ℕ) → Typed c
    → (see part enable c m bus (ws ++ 1 ∷ 3 ∷ ys)).answer.verdict ≡ Ok tt
    → ((see part enable c m bus (ws ++ 1 ∷ 3 ∷ [])).answer.verdict ≡ Ok tt)
    × (see part enable c m bus (ws ++ 1 ∷ 3 ∷ ys)
    ≡ joined (length ws + 1) (see part enable c m bus (ws ++ 1 ∷ 3 ∷ [])).answer
    (see part enable (see part enable c m bus (ws ++ 1 ∷ 3 ∷ [])).answer.chip (see part enable c m bus (ws ++ 1 ∷ 3 ∷ [])).mem bus (3 ∷ ys)))

abbrev pub TallyJoins : Counting → Type 0
TallyJoins count =
    (t : Tally) (bus : Bool) (ws ys : List ℕ) → (count t bus (ws ++ 1 ∷ 3 ∷ ys)).verdict ≡ Ok tt
    → count t bus (ws ++ 1 ∷ 3 ∷ ys) ≡ count (count t bus (ws ++ 1 ∷ 3 ∷ [])).tally bus (3 ∷ ys)

-- a sample equal to the one before it can be left out: the samples behind it come one later
abbrev pub moved_mark : ℕ → Mark → Mark
moved_mark k Same = Same
moved_mark k (At s n v) = At (cond (ltb s k) s (s + 1)) n v

abbrev pub with_mark : SeenLeft → Mark → SeenLeft
with_mark a k =
    record {
      answer =
          record {
            verdict = a.answer.verdict;
            events = a.answer.events;
            clocks = a.answer.clocks;
            ends = a.answer.ends;
            cycles = a.answer.cycles;
            mark = k;
            chip = a.answer.chip;
          };
      mem = a.mem;
    }

abbrev pub RepeatsLeftOut : Seeing → Type 0
RepeatsLeftOut see =
    (part enable : ℕ) (c : Chip) (m : Mem) (bus : Bool) (ws ys : List ℕ) (s : ℕ)
    → (see part enable c m bus (ws ++ s ∷ ys)).answer.verdict ≡ Ok tt
    → see part enable c m bus (ws ++ s ∷ s ∷ ys)
    ≡ with_mark (see part enable c m bus (ws ++ s ∷ ys)) (moved_mark (length ws + 1) (see part enable c m bus (ws ++ s ∷ ys)).answer.mark)
