-- What is left of a capture from a sample on: the definitions of Samples.antt, for the contracts of the inner functions.
-- Assumes nothing.
use Rattle.std.specs.Prelude.{ℕ, ◌-◌, ◌/◌, ◌%◌, ◌≤◌, ◌<◌, ◌≡◌, Bool, true, not, cond, ◌&&◌, List, [], ◌∷◌, ◌++◌, length, get_or, drop, eqb, ltb}
use Rattle.line.specs.declared.Phase.{Phase}
use Rattle.line.specs.declared.Phase.TheVariants.{Idle, Receive, Send, Busy}
use Rattle.line.specs.declared.Line.{Line}
use Rattle.capture.specs.Samples.{events_from, rises_in, rises_from}

-- the events from the i-th sample on, which the one before it begins
abbrev pub left_of : Bool → List ℕ → ℕ → List ℕ
left_of bus ss i = events_from bus (get_or ss (i - 1) 0) (drop i ss)

abbrev pub rises_left : Bool → List ℕ → ℕ → List ℕ
rises_left bus ss i = rises_from bus (get_or ss (i - 1) 0) i (drop i ss)

-- 9 for none
abbrev pub one_of : ℕ → List ℕ
one_of code = cond (ltb code 4) (code ∷ []) []

-- ---- the first event from a sample on

-- the samples from one on that are s end there
pub record SameTo (ss : List ℕ) (s from end : ℕ) : Type 0 where
  pub onward : from ≤ end
  pub within : end ≤ length ss
  pub same : (k : ℕ) → from ≤ k → k < end → get_or ss k 0 ≡ s
  pub stops : end < length ss → get_or ss end 0 ≡ s → ⊥

-- the clock is low at a sample, or there is none
unfoldable pub falls_of : List ℕ → ℕ → Bool
falls_of ss at = cond (ltb at (length ss)) (eqb (get_or ss at 0 % 2) 0) true

-- the code of what a sample makes with the one before it, or 9, where data then stay still or not
unfoldable pub code_of : Bool → ℕ → ℕ → Bool → ℕ
code_of bus before s still =
    cond (eqb (s % 2) 0) 9
    (cond (eqb (before % 2) 0) (cond (bus && not still) 9 (s / 2))
    (cond (eqb before s) 9 (cond (eqb s 1) 2 3)))

-- from a sample on: the first event, made by the sample `at`, and the next sample that may make one
pub record NextIn (bus : Bool) (ss : List ℕ) (from code at next : ℕ) : Type 0 where
  pub onward : from ≤ at
  pub within : next ≤ length ss
  pub moves : at < next
  pub some : code < 4
  pub events : left_of bus ss from ≡ one_of code ++ left_of bus ss next
  pub rises : rises_left bus ss from ≡ rises_in at (one_of code) ++ rises_left bus ss next

-- ---- an event that leaves latches and buffers alone: a clock, but for the ninth of a byte that comes in

abbrev pub quiet_in : Phase → ℕ → Bool
quiet_in Idle left = true
quiet_in (Receive r) left = ltb 0 left
quiet_in (Send t) left = true
quiet_in (Busy y) left = true

unfoldable pub quiet_of : Line → ℕ → Bool
quiet_of l e = ltb e 2 && quiet_in l.phase l.left
