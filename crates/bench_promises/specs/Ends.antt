-- Demand 3, its last sentence: "Given an idle chip of the named part and enable, its pin not high, power kept, no outside event but
-- cycle ends, and each cycle ended before the Start of a poll within the budget, our driver's write of n bytes inside the array, n
-- at least 1, ends done and not refused, reports all n bytes and begins exactly one cycle for each page it meets." And the run with
-- d of document 01: "each cycle ends just before its poll number d".
-- Assumes nothing.
use Rattle.std.specs.Prelude.{ℕ, ◌<◌, ◌≤◌, ◌≡◌, Bool, true, false, ◌⊎◌, List, [], ◌∷◌}
use Rattle.parts.specs.declared.Facts.{Facts}
use Rattle.parts.specs.declared.Refusal.TheVariants.{NoData, PollsUsed}
use Rattle.parts.specs.Table.{facts_of}
use Rattle.line.specs.declared.Core.{Core}
use Rattle.line.specs.Rules.{is_high}
use Rattle.driver.specs.declared.Place.{Place}
use Rattle.driver.specs.declared.Place.TheVariants.{Array, Ident}
use Rattle.driver.specs.declared.Request.{Request}
use Rattle.driver.specs.declared.Answer.TheVariants.{Done, Refused}
use Rattle.driver.specs.Request.{allowed_of, k_of}
use Rattle.driver.specs.Machine.{our_driver}
use Rattle.driver_promises.specs.Run.{bound_of}
use Rattle.driver_promises.specs.Promises.{Accepted}
use Rattle.bench.specs.Together.{System, asked_of, cycle_ended_of, turns_of, poll_next, enough}
use Rattle.bench_promises.specs.Ground.{target_of}
use Rattle.line.specs.declared.Target.TheVariants.{Ident as TheIdent}
use Rattle.bench_promises.specs.Together.{Runs, Session, Writes, Enough, answer_of, askings, first, after_choices}
use Rattle.chip.specs.Model.{ours}
use Rattle.chip_promises.specs.States.{NotBusy}

-- "its pin not high"; and a locked identification page cannot be written
abbrev pub Writable : Place → Core → Type 0
Writable (Array a) c = is_high c.pin ≡ false
Writable (Ident i) c = (is_high c.pin ≡ false) × (c.locked ≡ false)

abbrev pub Allowed : Session → Type 0
Allowed w = Writable w.request.place w.chip.line.core

-- the number of the poll, from 1 for each page, whose Start the driver sends when it is asked next; 0 for any other event
abbrev pub poll_number_of : System → ℕ
poll_number_of s = poll_next s.driver.phase s.driver.counts.tries (allowed_of s.driver.request) s.level

-- "each cycle ended before the Start of a poll within the budget": when the driver sends the Start of the last poll that the
-- budget allows for a page, no cycle runs
abbrev pub InTime : Facts → ℕ → List Bool → System → Type 0
InTime f enable [] s = Unit {0}
InTime f enable (true ∷ bs) s = (poll_number_of s ≡ allowed_of s.driver.request → NotBusy s.chip.line.phase) × InTime f enable bs (asked_of our_driver (ours f enable) s)
InTime f enable (false ∷ bs) s = InTime f enable bs (cycle_ended_of (ours f enable) s)

-- "Given an idle chip of the named part and enable, its pin not high, .. and each cycle ended before the Start of a poll within the budget, our
-- driver's write of n bytes inside the array": asked often enough to end; also for the identification page, and for n = 0 (no page, no cycle)
pub record Timely (w : Session) : Type 0 where
  pub writes : Writes w
  pub allowed : Allowed w
  pub timely : InTime (facts_of w.request.part) w.request.enable w.choices (first w)
  pub enough : Enough w

-- "ends done and not refused, reports all n bytes and begins exactly one cycle for each page it meets"
pub record Complete (r : Request) (s : System) : Type 0 where
  pub polls : ℕ
  pub done : answer_of s ≡ Done polls r.length
  pub cycles : s.cycles ≡ k_of r

-- what the pin or the lock forbids
abbrev pub Shut : Place → Core → Type 0
Shut (Array a) c = is_high c.pin ≡ true
Shut (Ident i) c = (is_high c.pin ≡ true) ⊎ (c.locked ≡ true)

module _ (run : Runs) where
  abbrev pub WritesEnd : Type 0
  WritesEnd = (w : Session) → Timely w → Complete w.request (after_choices run w)

  -- whenever a write is done, in time or not, it has begun one cycle for each page
  abbrev pub DoneCycles : Type 0
  DoneCycles = (w : Session) → Writes w → (q n : ℕ) → answer_of (after_choices run w) ≡ Done q n → (after_choices run w).cycles ≡ k_of w.request

  -- an identification write is one part, so one cycle
  abbrev pub IdentOnce : Type 0
  IdentOnce = (w : Session) → Writes w → target_of w.request.place ≡ TheIdent → 1 ≤ w.request.length
      → (q n : ℕ) → answer_of (after_choices run w) ≡ Done q n → (after_choices run w).cycles ≡ 1

  -- a byte that may be written is never refused with 10, in time or not
  abbrev pub WritesTaken : Type 0
  WritesTaken = (w : Session) → Writes w → Allowed w → (i q n : ℕ) → answer_of (after_choices run w) ≡ Refused (NoData i) q n → ⊥

  -- a write that is forbidden ends in refusal 10, at its first data byte: no byte is reported, nothing stored changes, no cycle begins
  abbrev pub ShutRefused : Type 0
  ShutRefused = (w : Session) → Writes w → Shut w.request.place w.chip.line.core → 1 ≤ w.request.length → Enough w
      → (answer_of (after_choices run w) ≡ Refused (NoData 0) 0 0) × ((after_choices run w).mem ≡ w.mem) × ((after_choices run w).cycles ≡ 0)

-- ---- the run with d: n turns, each an asking, with an end of the cycle before it where poll number d is next

abbrev pub Turns : Type 0
Turns = Facts → ℕ → ℕ → ℕ → System → System

abbrev pub our_turns : Turns
our_turns f enable = turns_of our_driver (ours f enable)

module _ (turns : Turns) where
  -- it is one of the runs of choices, from any system, so all that is said of those holds of it
  pub record Chosen (run : Runs) (f : Facts) (enable d n : ℕ) (s : System) : Type 0 where
    pub choices : List Bool
    pub asked : askings choices ≡ n
    pub same : turns f enable d n s ≡ run f enable choices s

  abbrev pub TurnsChosen : Runs → Type 0
  TurnsChosen run = (f : Facts) (enable d n : ℕ) (s : System) → Chosen run f enable d n s

  -- from where a session begins, in place of its choices
  abbrev pub turned : Session → ℕ → ℕ → System
  turned w d n = turns (facts_of w.request.part) w.request.enable d n (first w)

  -- d within the budget: the write ends done
  abbrev pub TurnsEnd : Type 0
  TurnsEnd = (w : Session) (d n : ℕ) → Writes w → Allowed w → 1 ≤ d → d ≤ allowed_of w.request → bound_of w.request < n
      → Complete w.request (turned w d n)

  -- d above the budget, "a chip that stays busy for longer than our driver polls": all polls of the first page are spent, refusal 11,
  -- no byte is reported, and one cycle was begun
  abbrev pub TurnsRefused : Type 0
  TurnsRefused = (w : Session) (d n : ℕ) → Writes w → Allowed w → 1 ≤ w.request.length → allowed_of w.request < d → bound_of w.request < n
      → (answer_of (turned w d n) ≡ Refused PollsUsed (allowed_of w.request) 0) × ((turned w d n).cycles ≡ 1)

-- the turns that the run function takes are enough for every request
abbrev pub EnoughTurns : Type 0
EnoughTurns = (r : Request) (xs : List ℕ) → Accepted r xs → bound_of r < enough
