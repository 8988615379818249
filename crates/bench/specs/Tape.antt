-- The tape of a run: every event that the chip is given, in order, and the level that it answers each with (2: none).
-- Assumes nothing.
use Rattle.std.specs.Prelude.{ℕ, zero, suc, Bool, true, false, cond, List, [], ◌∷◌, ◌++◌, length, take, drop}
use Rattle.chip.specs.Model.{Model}
use Rattle.driver.specs.declared.Answer.{Answer}
use Rattle.driver.specs.declared.Answer.TheVariants.{Send, Done, Refused}
use Rattle.driver.specs.Machine.{Machine}
use Rattle.bench.specs.Together.{System, end_due_of, turn_of}

abbrev pub sends_of : Answer → Bool
sends_of (Send e) = true
sends_of (Done polls bytes) = false
sends_of (Refused r polls bytes) = false

-- 0 where nothing is sent
abbrev pub sent_code_of : Answer → ℕ
sent_code_of (Send e) = e
sent_code_of (Done polls bytes) = 0
sent_code_of (Refused r polls bytes) = 0

-- of a turn: what stands for the end of a cycle, where it ends, and what stands for the driver's event, where it sends one
abbrev pub tape_by : Bool → Bool → ℕ → ℕ → List ℕ
tape_by ended sends e x = cond ended (e ∷ []) [] ++ cond sends (x ∷ []) []

-- the events of a turn: 4 is the end of a cycle
unfoldable pub turn_events : Machine → ℕ → System → List ℕ
turn_events D d s =
    tape_by (end_due_of d s) (sends_of (D.next s.driver s.level s.buffer).answer) 4 (sent_code_of (D.next s.driver s.level s.buffer).answer)

-- the levels of a turn: an end answers none; the driver is told its event's level next
unfoldable pub turn_levels : Machine → Model → ℕ → System → List ℕ
turn_levels D M d s = tape_by (end_due_of d s) (sends_of (D.next s.driver s.level s.buffer).answer) 2 (turn_of D M d s).level

unfoldable pub tape_events_of : Machine → Model → ℕ → ℕ → System → List ℕ
tape_events_of D M d zero s = []
tape_events_of D M d (suc n) s = turn_events D d s ++ tape_events_of D M d n (turn_of D M d s)

unfoldable pub tape_levels_of : Machine → Model → ℕ → ℕ → System → List ℕ
tape_levels_of D M d zero s = []
tape_levels_of D M d (suc n) s = turn_levels D M d s ++ tape_levels_of D M d n (turn_of D M d s)

-- a list in a lent buffer, as far as it reaches; bytes past the list keep their values
unfoldable pub laid_of : List ℕ → List ℕ → List ℕ
laid_of l xs = take (length l) xs ++ drop (length xs) l
