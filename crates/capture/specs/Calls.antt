-- What the calls answer and leave, refused ones too (document 02, §3).
-- Assumes nothing.
use Rattle.std.specs.Prelude.{ℕ, Bool, List, ◌++◌, length, drop, ltb, Ok, Err}
use Rattle.parts.specs.Verdict.{Verdict}
use Rattle.parts.specs.declared.Refusal.TheVariants.{ShortBuffer}
use Rattle.parts.specs.Refusals.{claim_of, sooner_of}
use Rattle.parts.specs.Table.{facts_of}
use Rattle.state.specs.declared.Chip.{Chip}
use Rattle.chip.specs.Model.{Model, ours}
use Rattle.chip.specs.Memory.{Mem}
use Rattle.chip.specs.Runs.{after_of, memory_of, cycles_of}
use Rattle.chip.specs.Calls.{held_verdict_of}
use Rattle.capture.specs.declared.Mark.TheVariants.{Same}
use Rattle.capture.specs.declared.Seen.{Seen}
use Rattle.capture.specs.declared.Listed.{Listed}
use Rattle.capture.specs.Samples.{events_of, rises_of, judge_of}
use Rattle.capture.specs.Ends.{with_ends_of, ends_in}
use Rattle.capture.specs.Marks.{clocks_in, mark_from}

-- ---- the run: refusals 1 to 4, then 20

unfoldable pub seen_verdict_of : ℕ → ℕ → Chip → ℕ → ℕ → List ℕ → Verdict
seen_verdict_of part enable c n d ss = sooner_of (held_verdict_of part enable c n d) (judge_of ss)

-- "Run the model over them": over the capture's events es with the ends put in, xs, it is the model's own run
abbrev pub seen_over : Model → Chip → Mem → List ℕ → List ℕ → List ℕ → Seen
seen_over M c m rises es xs =
    record {
      verdict = Ok tt;
      events = length es;
      clocks = clocks_in es;
      ends = ends_in xs;
      cycles = cycles_of M c xs;
      mark = mark_from M c m 0 0 rises xs;
      chip = after_of M c xs;
    }

abbrev pub seen_by : Model → Chip → Mem → Bool → List ℕ → Verdict → Seen
seen_by M c m bus ss (Ok _) = seen_over M c m (rises_of bus ss) (events_of bus ss) (with_ends_of M c (events_of bus ss))
seen_by M c m bus ss (Err r) = record { verdict = Err r; events = 0; clocks = 0; ends = 0; cycles = 0; mark = Same; chip = c }

abbrev pub seen_mem : Model → Chip → Mem → Bool → List ℕ → Verdict → Mem
seen_mem M c m bus ss (Ok _) = memory_of M c m (with_ends_of M c (events_of bus ss))
seen_mem M c m bus ss (Err r) = m

pub record SeenLeft : Type 0 where
  pub answer : Seen
  pub mem : Mem

abbrev pub seen_left_of : Model → Chip → Mem → Bool → List ℕ → Verdict → SeenLeft
seen_left_of M c m bus ss v = record { answer = seen_by M c m bus ss v; mem = seen_mem M c m bus ss v }

-- of part, enable, chip, the two lent buffers, the reading and the samples
abbrev pub seeing_of : ℕ → ℕ → Chip → Mem → Bool → List ℕ → SeenLeft
seeing_of part enable c m bus ss =
    seen_left_of (ours (facts_of part) enable) c m bus ss (seen_verdict_of part enable c (length m.cells) (length m.ident) ss)

-- ---- the events alone: refusal 20, then 6; bytes past the answer keep their values

unfoldable pub list_verdict_of : Bool → List ℕ → ℕ → Verdict
list_verdict_of bus ss room = sooner_of (judge_of ss) (claim_of (ltb room (length (events_of bus ss))) ShortBuffer)

abbrev pub listed_by : List ℕ → Verdict → Listed
listed_by es (Ok _) = record { verdict = Ok tt; length = length es }
listed_by es (Err r) = record { verdict = Err r; length = 0 }

abbrev pub listed_out : List ℕ → List ℕ → Verdict → List ℕ
listed_out es out (Ok _) = es ++ drop (length es) out
listed_out es out (Err r) = out

pub record ListLeft : Type 0 where
  pub answer : Listed
  pub out : List ℕ

-- of the reading, the samples and the output buffer
abbrev pub listing_of : Bool → List ℕ → List ℕ → ListLeft
listing_of bus ss out =
    record {
      answer = listed_by (events_of bus ss) (list_verdict_of bus ss (length out));
      out = listed_out (events_of bus ss) out (list_verdict_of bus ss (length out));
    }
