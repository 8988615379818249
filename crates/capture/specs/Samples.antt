-- Document 02, §3: "captures of SCL and SDA, one byte per sample, bit 0 clock and bit 1 data. Turn them into events: data falling with the clock
-- high in both samples is a Start, rising a Stop, a rising clock a clock with the new data level, and the first sample makes none. Where both
-- lines change at once the clock rule alone holds."
-- Assumes nothing.
use Rattle.std.specs.Prelude.{ℕ, suc, ◌/◌, ◌%◌, Bool, true, false, not, cond, ◌&&◌, List, [], ◌∷◌, ◌++◌, eqb, ltb, Ok, Err}
use Rattle.parts.specs.Verdict.{Verdict}
use Rattle.parts.specs.declared.Refusal.TheVariants.{BadSample}

abbrev pub clock_in : ℕ → ℕ
clock_in s = s % 2

abbrev pub data_in : ℕ → ℕ
data_in s = s / 2 % 2

-- data stay as they are until the clock falls, or the capture ends
abbrev pub still_of : ℕ → List ℕ → Bool
still_of d [] = true
still_of d (s ∷ ss) = cond (eqb (clock_in s) 0) true (cond (eqb d (data_in s)) (still_of d ss) false)

-- what a sample makes with the one before it, as event codes: none or one. By the letter every rise of the clock is a clock. On a bus the clock
-- also rises to make way for a Start or Stop: read so (`bus`), a rise is a clock only where data then stay still (§3-1)
abbrev pub pair_of : Bool → ℕ → ℕ → List ℕ → List ℕ
pair_of bus before s ss =
    cond (eqb (clock_in s) 0) []
    (cond (eqb (clock_in before) 0)
    (cond (bus && not (still_of (data_in s) ss)) [] (data_in s ∷ []))
    (cond (eqb (data_in before) (data_in s)) []
    (cond (eqb (data_in s) 0) (2 ∷ []) (3 ∷ []))))

abbrev pub events_from : Bool → ℕ → List ℕ → List ℕ
events_from bus before [] = []
events_from bus before (s ∷ ss) = pair_of bus before s ss ++ events_from bus s ss

-- the first sample makes none
unfoldable pub events_of : Bool → List ℕ → List ℕ
events_of bus [] = []
events_of bus (s ∷ ss) = events_from bus s ss

-- ---- the samples at which the clocks rise, counted from 0: the same recursion

-- the number of a sample, where what it makes is a clock
abbrev pub rises_in : ℕ → List ℕ → List ℕ
rises_in k [] = []
rises_in k (e ∷ es) = cond (ltb e 2) (k ∷ []) []

abbrev pub rises_from : Bool → ℕ → ℕ → List ℕ → List ℕ
rises_from bus before k [] = []
rises_from bus before k (s ∷ ss) = rises_in k (pair_of bus before s ss) ++ rises_from bus s (suc k) ss

unfoldable pub rises_of : Bool → List ℕ → List ℕ
rises_of bus [] = []
rises_of bus (s ∷ ss) = rises_from bus s 1 ss

-- ---- "Refusals: 20 a sample above 3, at its place": the first one, counted from 0

abbrev pub judge_from : ℕ → List ℕ → Verdict
judge_from k [] = Ok tt
judge_from k (s ∷ ss) = cond (ltb 3 s) (Err (BadSample k)) (judge_from (suc k) ss)

unfoldable pub judge_of : List ℕ → Verdict
judge_of ss = judge_from 0 ss
