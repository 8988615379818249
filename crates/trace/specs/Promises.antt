-- What the trace program may rely on, and the example that document 01 prints.
-- Assumes nothing.
use Rattle.std.specs.Prelude.{ℕ, ◌≤◌, ◌≡◌, List, [], ◌∷◌, ◌++◌, length, take, Ok, Err}
use Rattle.parts.specs.Verdict.{Verdict}
use Rattle.trace.specs.declared.Judged.{Judged}
use Rattle.trace.specs.Trace.{newline, part_word, cycles_word, codes_of, letters_of, ran_text_of, refusal_text_of, text_judged_of, trace_of}

-- a program need not read further: the first line, 32,768 letters and the byte that may be a final newline, and one byte more,
-- are too many letters whatever comes behind them
abbrev pub ReadsNoFurther : Type 0
ReadsNoFurther = (t : List ℕ) → 32774 ≤ length t → trace_of t ≡ trace_of (take 32774 t)

-- what is printed of a text that is judged so: the refusal, or the lines of a run from delivery
abbrev pub foretold : List ℕ → Judged → Verdict → List ℕ
foretold t j (Ok _) = ran_text_of j.part j.enable (codes_of (letters_of t))
foretold t j (Err r) = refusal_text_of r

-- who judges a text, before any run, knows what `trace` will print; of any judge
abbrev pub PrintsAsJudged : (List ℕ → Judged) → Type 0
PrintsAsJudged judge = (t : List ℕ) → trace_of t ≡ foretold t (judge t) (judge t).verdict

-- one that refuses nothing does not
abbrev pub trusting : List ℕ → Judged
trusting t = record { part = (text_judged_of t).part; enable = (text_judged_of t).enable; verdict = Ok tt }

abbrev pub TrustingBreaks : Type 0
TrustingBreaks = PrintsAsJudged trusting → ⊥

-- every answer fits a buffer of 32,800 bytes
abbrev pub AnswerFits : Type 0
AnswerFits = (t : List ℕ) → length (trace_of t) ≤ 32800

-- "2 0", newline, "S101000001P"
abbrev pub example_text : List ℕ
example_text = 50 ∷ 32 ∷ 48 ∷ 10 ∷ 83 ∷ 49 ∷ 48 ∷ 49 ∷ 48 ∷ 48 ∷ 48 ∷ 48 ∷ 48 ∷ 49 ∷ 80 ∷ []

-- "-111111110-"
abbrev pub example_levels : List ℕ
example_levels = 45 ∷ 49 ∷ 49 ∷ 49 ∷ 49 ∷ 49 ∷ 49 ∷ 49 ∷ 49 ∷ 48 ∷ 45 ∷ []

-- "part 2", "-111111110-", "cycles 0", a newline behind each
abbrev pub example_answer : List ℕ
example_answer = part_word ++ (50 ∷ []) ++ newline ++ example_levels ++ newline ++ cycles_word ++ (48 ∷ []) ++ newline

-- with and without the final newline
abbrev pub PrintedExample : Type 0
PrintedExample = (trace_of example_text ≡ example_answer) × (trace_of (example_text ++ newline) ≡ example_answer)
