-- What is printed of each text, by plain conditions, each with all earlier ones excluded (document 01, 'The trace program' and 'Refusal
-- numbers': 1 2 13 5), and which call is refused with 6. Said of any function from a text and a lent buffer, so that another order breaks it.
-- Assumes nothing.
use Rattle.std.specs.Prelude.{ℕ, ◌-◌, ◌<◌, ◌≤◌, ◌≡◌, Bool, true, false, cond, List, [], ◌++◌, length, get_or, take}
use Rattle.parts.specs.Verdict.{Verdict}
use Rattle.parts.specs.Table.{facts_of}
use Rattle.parts.specs.Events.{event_right_of}
use Rattle.parts.specs.Refusals.{verdict_number_of, is_fine}
use Rattle.chip.specs.Calls.{scan_of}
use Rattle.trace.specs.Trace.{head_right_of, letters_of, code_of, codes_of, refused_word, at_word, newline, decimal_of, ran_text_of, report_text_of, trace_of, TraceLeft, laying_of}

-- any function of the text and the lent buffer
abbrev pub Tracing : Type 0
Tracing = List ℕ → List ℕ → TraceLeft

-- ours
abbrev pub tracing : Tracing
tracing t out = laying_of out (trace_of t)

-- ---- what a text names

-- "one digit part, a space, one digit enable, a newline, then letters"
abbrev pub part_named : List ℕ → ℕ
part_named t = get_or t 0 0 - 48

abbrev pub enable_named : List ℕ → ℕ
enable_named t = get_or t 2 0 - 48

-- the part takes the letter number j
abbrev pub taken_at : List ℕ → ℕ → Bool
taken_at t j = event_right_of (facts_of (part_named t)).pin (code_of (get_or (letters_of t) j 0))

-- the first line is right, and neither 1 nor 2 applies
pub record TextNamed (t : List ℕ) : Type 0 where
  pub head : head_right_of t ≡ true
  pub known : part_named t ≤ 5
  pub enabled : enable_named t < (facts_of (part_named t)).enables

-- nor does 13
pub record TextShort (t : List ℕ) : Type 0 where
  pub named : TextNamed t
  pub few : length (letters_of t) ≤ 32768

-- ---- what is printed

-- "refused N"
abbrev pub refused_line : ℕ → List ℕ
refused_line n = refused_word ++ decimal_of n ++ newline

-- "refused 5 at K"
abbrev pub refused_at : ℕ → List ℕ
refused_at k = refused_word ++ decimal_of 5 ++ (at_word ++ decimal_of k ++ newline)

module _ (trace : Tracing) (t out : List ℕ) where
  abbrev pub call_number : ℕ
  call_number = verdict_number_of (trace t out).answer.verdict

  abbrev pub printed : List ℕ
  printed = take (trace t out).answer.length (trace t out).out

  -- this is printed; a buffer too short for it is refused with 6
  pub record Prints (lines : List ℕ) : Type 0 where
    pub short_buffer : length out < length lines → call_number ≡ 6
    pub none : length lines ≤ length out → (call_number ≡ 0) × (printed ≡ lines)

  pub record TraceNumber : Type 0 where
    -- "A malformed first line is refusal 1"
    pub malformed : head_right_of t ≡ false → Prints (refused_line 1)
    pub no_part : head_right_of t ≡ true → 5 < part_named t → Prints (refused_line 1)
    pub wrong_enable : head_right_of t ≡ true → part_named t ≤ 5 → (facts_of (part_named t)).enables ≤ enable_named t → Prints (refused_line 2)
    pub too_many : TextNamed t → 32768 < length (letters_of t) → Prints (refused_line 13)
    -- the first letter that the part does not take, with its place
    pub bad_event : (k : ℕ) → TextShort t → k < length (letters_of t) → ((j : ℕ) → j < k → taken_at t j ≡ true) → taken_at t k ≡ false → Prints (refused_at k)
    pub answered : TextShort t → ((j : ℕ) → j < length (letters_of t) → taken_at t j ≡ true) → Prints (ran_text_of (part_named t) (enable_named t) (codes_of (letters_of t)))

abbrev pub TraceNumbers : Tracing → Type 0
TraceNumbers trace = (t out : List ℕ) → TraceNumber trace t out

-- nothing is left open: two that keep it give one number for every call, and print the same where it is 0
abbrev pub OneTraceNumber : Type 0
OneTraceNumber =
    (S T : Tracing) → TraceNumbers S → TraceNumbers T
    → (t out : List ℕ) → (call_number S t out ≡ call_number T t out) × (call_number S t out ≡ 0 → printed S t out ≡ printed T t out)

-- ---- another order: 5 before 2

abbrev scanned : List ℕ → Verdict
scanned t = scan_of (facts_of (part_named t)).pin 0 (codes_of (letters_of t))

abbrev eager_text : List ℕ → List ℕ
eager_text t = cond (head_right_of t) (cond (is_fine (scanned t)) (trace_of t) (report_text_of (part_named t) (scanned t) [] 0)) (trace_of t)

abbrev pub eager_trace : Tracing
eager_trace t out = laying_of out (eager_text t)

abbrev pub EagerTraceBreaks : Type 0
EagerTraceBreaks = TraceNumbers eager_trace → ⊥
