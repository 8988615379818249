-- What is said of a tape, over its events and levels alone: whose events they are, where the ends stand, and which Stops begin a cycle.
-- Assumes nothing.
use Rattle.std.specs.Prelude.{ℕ, ◌+◌, ◌≡◌, Bool, false, cond, not, ◌&&◌, List, [], ◌∷◌, ◌++◌, take, drop, eqb, Ok, Err}
use Rattle.state.specs.declared.Chip.{Chip}
use Rattle.chip.specs.Model.{Model}
use Rattle.chip.specs.Runs.{cycles_of}
use Rattle.driver.specs.declared.Request.{Request}
use Rattle.driver.specs.declared.Answer.{Answer}
use Rattle.driver.specs.declared.Answer.TheVariants.{Send, Done, Refused}
use Rattle.driver.specs.Machine.{our_driver}
use Rattle.driver_promises.specs.Promises.{after, sent, answers}
use Rattle.bench.specs.declared.Report.{Report}
use Rattle.bench.specs.Together.{ends}

-- ---- whose events they are

-- the events other than the ends of cycles
abbrev pub without_ends : List ℕ → List ℕ
without_ends [] = []
without_ends (e ∷ es) = cond (eqb e ends) (without_ends es) (e ∷ without_ends es)

-- and their levels
abbrev pub levels_heard : List ℕ → List ℕ → List ℕ
levels_heard [] ls = []
levels_heard (e ∷ es) [] = []
levels_heard (e ∷ es) (l ∷ ls) = cond (eqb e ends) (levels_heard es ls) (l ∷ levels_heard es ls)

-- what a driver is told on a tape: the line is high at first, and then the level of each of its events
abbrev pub told_on : List ℕ → List ℕ → List ℕ
told_on es ls = 1 ∷ levels_heard es ls

-- a report of a driver's last answer; one that would still send has none
abbrev pub Reports : Answer → Report → Type 0
Reports (Send e) p = ⊥
Reports (Done polls bytes) p = (p.verdict ≡ Ok tt) × (p.polls ≡ polls) × (p.bytes ≡ bytes)
Reports (Refused f polls bytes) p = (p.verdict ≡ Err f) × (p.polls ≡ polls) × (p.bytes ≡ bytes)

-- a report, the lent buffer after it and a tape are those of our driver, told the tape's levels; whatever it is told next, it has finished
pub record Driven (r : Request) (ys : List ℕ) (p : Report) (left es ls : List ℕ) : Type 0 where
  pub events : without_ends es ≡ sent our_driver r (take r.length ys) (told_on es ls) 0
  pub answer : (l : ℕ) → Reports (answers our_driver r (take r.length ys) (told_on es ls) l) p
  pub buffer : left ≡ (after our_driver r (take r.length ys) (told_on es ls) 0).buffer ++ drop r.length ys

-- ---- where the ends stand. The Stops of a write are in turn the end of a part's data and the end of its polls; `odd` says whether their
-- number is odd so far

abbrev pub odd_after : Bool → ℕ → Bool
odd_after odd e = cond (eqb e 3) (not odd) odd

-- the Start of a poll
abbrev pub is_poll : Bool → ℕ → Bool
is_poll odd e = odd && eqb e 2

-- polls of the page so far
abbrev pub tries_after : Bool → ℕ → ℕ → ℕ
tries_after odd tries e = cond (eqb e 3) 0 (cond (is_poll odd e) (tries + 1) tries)

-- the polls of each page, in turn: those up to the Stop that ends them
abbrev pub polls_of_pages : Bool → ℕ → List ℕ → List ℕ
polls_of_pages odd tries [] = []
polls_of_pages odd tries (e ∷ es) = cond (odd && eqb e 3) (tries ∷ []) [] ++ polls_of_pages (odd_after odd e) (tries_after odd tries e) es

-- "each cycle ends just before its poll number d": an end put before the Start of poll number d of each page
abbrev pub ends_put : ℕ → Bool → ℕ → List ℕ → List ℕ
ends_put d odd tries [] = []
ends_put d odd tries (e ∷ es) = cond (is_poll odd e && eqb (tries + 1) d) (ends ∷ []) [] ++ (e ∷ ends_put d (odd_after odd e) (tries_after odd tries e) es)

-- the ends of a tape stand there, and nowhere else
abbrev pub EndsAt : ℕ → List ℕ → Type 0
EndsAt d es = es ≡ ends_put d false 0 (without_ends es)

-- ---- which Stops begin a cycle

-- the Stops that end a part's data
abbrev pub parts_ended : Bool → List ℕ → ℕ
parts_ended odd [] = 0
parts_ended odd (e ∷ es) = cond (not odd && eqb e 3) 1 0 + parts_ended (odd_after odd e) es

-- "begins exactly one cycle for each page it meets": at every moment, as many as parts have ended
abbrev pub CycleEach : Model → Chip → List ℕ → Type 0
CycleEach M c es = (k : ℕ) → cycles_of M c (take k es) ≡ parts_ended false (take k es)
