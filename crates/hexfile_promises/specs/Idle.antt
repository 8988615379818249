-- Wrong readers and writers of Intel HEX, and the promise that each breaks: proofs/Idle.antt.
-- Assumes nothing.
use Rattle.std.specs.Prelude.{ℕ, suc, ◌+◌, ◌≡◌, Bool, true, false, cond, List, [], ◌∷◌, ◌++◌, length, drop, replicate, leb, ltb, Ok, Err}
use Rattle.parts.specs.declared.Refusal.TheVariants.{BadRecord, BadSum, Misplaced, NoEnd}
use Rattle.parts.specs.Verdict.{Verdict}
use Rattle.hexfile.specs.Record.{Record, malformed, bytes, last, record_of_lem, end_bytes}
use Rattle.hexfile.specs.File.{Got, gets, no, lines_of, fits_of, entered_of, some_of}
use Rattle.hexfile.specs.Written.{line_of}
use Rattle.parts.specs.Table.{facts_of}
use Rattle.hexfile.specs.Calls.{AfterRead, array_verdict_of, refused_read, got_of, reading_of}
use Rattle.hexfile_promises.specs.Promises.{Reading, Writing, size_of, GivesBack, AcceptsAll, AcceptsOnly}

-- ---- readers that look at nothing

-- reads everything as FFh, whatever it answers
abbrev pub ReadsBlank : Reading → Type 0
ReadsBlank read = (part : ℕ) (text array : List ℕ) → (read part text array).array ≡ replicate (length array) 255

abbrev pub BlankBreaks : Type 0
BlankBreaks = (read : Reading) (write : Writing) → ReadsBlank read → GivesBack read write → ⊥

-- refuses everything, with any refusals
abbrev pub RefusesAll : Reading → Type 0
RefusesAll read = (part : ℕ) (text array : List ℕ) → (read part text array).answer.verdict ≡ Ok tt → ⊥

abbrev pub RefusesAllBreaks : Type 0
RefusesAllBreaks = (read : Reading) (write : Writing) → RefusesAll read → GivesBack read write → ⊥

-- ---- a writer of the end record alone, under any reader

abbrev pub end_alone : Writing
end_alone part m out = record { answer = record { verdict = Ok tt; length = 12 }; out = line_of end_bytes ++ drop 12 out }

abbrev pub EndAloneBreaks : Type 0
EndAloneBreaks = (read : Reading) → GivesBack read end_alone → ⊥

-- ---- readers like ours but for one thing: which record a line is, which places a record may have, or whether there is text behind a line

pub record View : Type 0 where
  pub record_of : List ℕ → Record
  pub fits : List ℕ → ℕ → ℕ → Bool
  pub more : List (List ℕ) → Bool

abbrev pub viewed_turn : View → (List ℕ → Got) → Bool → List ℕ → ℕ → Record → Got
viewed_turn v on more cells k malformed = no (BadRecord (suc k))
viewed_turn v on more cells k (bytes a d right) =
    cond right (cond (v.fits cells a (length d)) (on (entered_of cells a d)) (no (Misplaced (suc k)))) (no (BadSum (suc k)))
viewed_turn v on more cells k last = cond more (no (NoEnd (suc (suc k)))) (gets cells k)

abbrev pub viewed_at : View → List ℕ → ℕ → List (List ℕ) → Got
viewed_at v cells k [] = no (NoEnd (suc k))
viewed_at v cells k (l ∷ ls) = viewed_turn v (λ now. viewed_at v now (suc k) ls) (v.more ls) cells k (v.record_of l)

abbrev pub viewed_by : View → Verdict → ℕ → List ℕ → List ℕ → AfterRead
viewed_by v (Ok _) size text array = got_of (viewed_at v (replicate size 256) 0 (lines_of text)) array
viewed_by v (Err r) size text array = refused_read r array

abbrev pub viewed : View → Reading
viewed v part text array = viewed_by v (array_verdict_of (facts_of part) (length array)) (size_of part) text array

-- ours is one of them
abbrev pub ViewedIsOurs : Type 0
ViewedIsOurs = (part : ℕ) (text array : List ℕ) → viewed (record { record_of = record_of_lem; fits = fits_of; more = some_of }) part text array ≡ reading_of part text array

-- skips sums
abbrev summed : Record → Record
summed malformed = malformed
summed (bytes a d right) = bytes a d true
summed last = last

abbrev pub skips_sums : Reading
skips_sums = viewed (record { record_of = λ l. summed (record_of_lem l); fits = fits_of; more = some_of })

abbrev pub SkipsSumsBreaks : Type 0
SkipsSumsBreaks = AcceptsOnly skips_sums → ⊥

-- of two bytes for one place the later wins
abbrev pub later_wins : Reading
later_wins = viewed (record { record_of = record_of_lem; fits = λ cells a n. leb (a + n) (length cells); more = some_of })

abbrev pub LaterWinsBreaks : Type 0
LaterWinsBreaks = AcceptsOnly later_wins → ⊥

-- stops at the end record without looking behind it
abbrev pub stops_at_end : Reading
stops_at_end = viewed (record { record_of = record_of_lem; fits = fits_of; more = λ ls. false })

abbrev pub StopsAtEndBreaks : Type 0
StopsAtEndBreaks = AcceptsOnly stops_at_end → ⊥

-- wants upper case: `a` is 97
abbrev any_small : List ℕ → Bool
any_small [] = false
any_small (x ∷ xs) = cond (ltb 96 x) true (any_small xs)

abbrev pub wants_upper : Reading
wants_upper = viewed (record { record_of = λ l. cond (any_small l) malformed (record_of_lem l); fits = fits_of; more = some_of })

abbrev pub WantsUpperBreaks : Type 0
WantsUpperBreaks = AcceptsAll wants_upper → ⊥

-- ---- each

pub record WrongHex : Type 0 where
  pub blank : BlankBreaks
  pub refuses_all : RefusesAllBreaks
  pub end_alone : EndAloneBreaks
  pub like_ours : ViewedIsOurs
  pub skips_sums : SkipsSumsBreaks
  pub later_wins : LaterWinsBreaks
  pub stops_at_end : StopsAtEndBreaks
  pub wants_upper : WantsUpperBreaks
