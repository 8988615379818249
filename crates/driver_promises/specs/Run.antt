-- A whole run: the driver asked once for each level of any list, the events that it sent, and what is counted in them.
-- Assumes nothing.
use Rattle.std.specs.Prelude.{ℕ, zero, suc, ◌+◌, ◌*◌, Bool, cond, not, ◌&&◌, List, [], ◌∷◌, ◌++◌, get_or, eqb, ltb}
use Rattle.parts.specs.Table.{facts_of, address_bytes_of}
use Rattle.driver.specs.declared.Request.{Request}
use Rattle.driver.specs.declared.Driver.{Driver}
use Rattle.driver.specs.declared.Answer.{Answer}
use Rattle.driver.specs.declared.Answer.TheVariants.{Send, Done, Refused}
use Rattle.driver.specs.Request.{allowed_of, k_of}
use Rattle.driver.specs.Step.{shift_of, fresh}
use Rattle.driver.specs.Machine.{Machine}

-- a driver with the buffer that is lent to each step
pub record DriverHeld : Type 0 where
  pub driver : Driver
  pub buffer : List ℕ

-- `begin`, and the caller's buffer
abbrev pub begun : Request → List ℕ → DriverHeld
begun r buffer = record { driver = fresh r; buffer = buffer }

-- an answer sends one event, or none
abbrev pub sent_by : Answer → List ℕ
sent_by (Send e) = e ∷ []
sent_by (Done polls bytes) = []
sent_by (Refused f polls bytes) = []

module _ (M : Machine) where
  abbrev pub answer_to : DriverHeld → ℕ → Answer
  answer_to h level = (M.next h.driver level h.buffer).answer

  abbrev pub told : DriverHeld → ℕ → DriverHeld
  told h level = record { driver = (M.next h.driver level h.buffer).driver; buffer = M.leaves h.driver level h.buffer }

  -- after one asking for each level
  abbrev pub after_all : DriverHeld → List ℕ → DriverHeld
  after_all h [] = h
  after_all h (l ∷ ls) = after_all (told h l) ls

  -- the events that were sent on the way
  abbrev pub events_sent : DriverHeld → List ℕ → List ℕ
  events_sent h [] = []
  events_sent h (l ∷ ls) = sent_by (answer_to h l) ++ events_sent (told h l) ls

-- an answer that is no event
abbrev pub Finished : Answer → Type 0
Finished (Send e) = ⊥
Finished (Done polls bytes) = Unit {0}
Finished (Refused f polls bytes) = Unit {0}

-- clocks among events
abbrev pub clocks_in : List ℕ → ℕ
clocks_in [] = 0
clocks_in (e ∷ es) = cond (ltb e 2) 1 0 + clocks_in es

-- polls among events. The Stops of a write are in turn the end of a part's data and the end of its polls, so a poll is a
-- Start with an odd number of Stops before it; `odd` says whether it is odd so far
abbrev pub polls_in : Bool → List ℕ → ℕ
polls_in odd [] = 0
polls_in odd (e ∷ es) = cond (odd && eqb e 2) 1 0 + polls_in (cond (eqb e 3) (not odd) odd) es

-- A of document 01
abbrev pub address_bytes : Request → ℕ
address_bytes r = address_bytes_of (facts_of r.part)

-- the most events that a request can take
abbrev pub bound_of : Request → ℕ
bound_of r =
    cond r.reads (9 * (2 + address_bytes r + r.length) + 3)
    (9 * (k_of r * (1 + address_bytes r) + r.length + k_of r * allowed_of r) + 3 * k_of r + k_of r * allowed_of r)

-- the event number, from 0, of the first clock of byte i of a read: two Starts, two select codes and the address come before
abbrev pub clock_of_byte : Request → ℕ → ℕ
clock_of_byte r i = 2 + 9 * (2 + address_bytes r) + 9 * i

-- the level told for event number e is that of asking e + 1: n bits, highest first, from event e on
abbrev pub told_byte : List ℕ → ℕ → ℕ → ℕ
told_byte ls e zero = 0
told_byte ls e (suc n) = shift_of (told_byte ls e n) (get_or ls (e + n + 1) 0)
