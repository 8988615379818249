-- Document 02, §3: "The tally that the caller lends and each event updates counts Starts, Stops, bytes and unacknowledged bytes in 32 bits,
-- staying at the top. A byte is nine clocks, unacknowledged if the ninth is 1."
-- Assumes nothing.
use Rattle.std.specs.Prelude.{ℕ, List, [], ◌∷◌, Bool, ◌&&◌, eqb, ltb, Ok, Err}
use Rattle.parts.specs.Bytes.{up_of}
use Rattle.parts.specs.Verdict.{Verdict}
use Rattle.capture.specs.declared.Tally.{Tally}
use Rattle.capture.specs.Samples.{events_of, judge_of}
use Rattle.capture.specs.Marks.{place_of}

abbrev pub tally : ℕ → ℕ → ℕ → ℕ → Tally
tally starts stops bytes unacknowledged = record { starts = starts; stops = stops; bytes = bytes; unacknowledged = unacknowledged }

-- one event, `place` clocks after the last Start, Stop or whole byte
unfoldable pub tallied_of : Tally → ℕ → ℕ → Tally
tallied_of t place e =
    tally
    (up_of t.starts (eqb e 2))
    (up_of t.stops (eqb e 3))
    (up_of t.bytes (eqb place 8 && ltb e 2))
    (up_of t.unacknowledged (eqb place 8 && eqb e 1))

abbrev pub tallies_of : Tally → ℕ → List ℕ → Tally
tallies_of t place [] = t
tallies_of t place (e ∷ es) = tallies_of (tallied_of t place e) (place_of place e) es

-- of a capture, which is refused before anything is counted
abbrev pub counted_by : Tally → Bool → List ℕ → Verdict → Tally
counted_by t bus ss (Ok _) = tallies_of t 0 (events_of bus ss)
counted_by t bus ss (Err r) = t

unfoldable pub counted_of : Tally → Bool → List ℕ → Tally
counted_of t bus ss = counted_by t bus ss (judge_of ss)
