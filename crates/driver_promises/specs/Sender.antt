-- What goes on the bus in a step, of a driver that could put any list of events there (document 01: "It is asked for one event per step").
-- Assumes nothing.
use Rattle.std.specs.Prelude.{ℕ, ◌≡◌, Bool, true, false, cond, List, [], ◌∷◌, ◌++◌, replicate}
use Rattle.driver.specs.declared.Request.{Request}
use Rattle.driver.specs.declared.Phase.{Phase}
use Rattle.driver.specs.declared.Phase.TheVariants.{Ready, Bits, Heard, Rest, Over}
use Rattle.driver.specs.declared.Driver.{Driver}
use Rattle.driver.specs.declared.Asked.{Asked}
use Rattle.driver.specs.declared.Answer.TheVariants.{Send, Done}
use Rattle.driver.specs.Request.{k_of}
use Rattle.driver.specs.Machine.{Machine, our_driver}
use Rattle.driver_promises.specs.Run.{DriverHeld, begun, sent_by, told}
use Rattle.driver_promises.specs.Plan.{write_plan, read_plan}
use Rattle.driver_promises.specs.Promises.{after, sent, answers, Always}

-- a machine, and what it puts on the bus when it is told a level
pub record Sender : Type 0 where
  pub machine : Machine
  pub sends : Driver → ℕ → List ℕ → List ℕ

-- ours: what the answer sends
abbrev pub our_sender : Sender
our_sender = record { machine = our_driver; sends = λ d l xs. sent_by (our_driver.next d l xs).answer }

module _ (S : Sender) where
  -- what it puts there when it is told the level l
  abbrev pub puts : DriverHeld → ℕ → List ℕ
  puts h l = S.sends h.driver l h.buffer

  -- in a whole run
  abbrev pub on_bus : DriverHeld → List ℕ → List ℕ
  on_bus h [] = []
  on_bus h (l ∷ ls) = puts h l ++ on_bus (told S.machine h l) ls

  -- at every moment the one event that it answers, and none when it is finished
  abbrev pub OneEventAStep : Type 0
  OneEventAStep = Always (λ r xs ls l. puts (after S.machine r xs ls l) l ≡ sent_by (answers S.machine r xs ls l))

-- so the promises, which speak of the events that the answers send, speak of the bus
abbrev pub SentIsOnBus : Type 0
SentIsOnBus = (S : Sender) → OneEventAStep S → Always (λ r xs ls l. on_bus S (begun r xs) ls ≡ sent S.machine r xs ls l)

-- ---- it does all its work in the first step, and idles after: the whole list, of a write with one poll a page, then only that it is done
abbrev pub plan_of : Request → List ℕ → List ℕ
plan_of r xs = cond r.reads (read_plan r) (write_plan r xs (replicate (k_of r) 1))

-- nothing is sent yet; after the first step the phase is `Rest`
abbrev pub is_new : Phase → Bool
is_new Ready = true
is_new (Bits s b) = false
is_new (Heard s) = false
is_new Rest = false
is_new (Over f) = false

abbrev pub rests_after : Driver → Asked
rests_after d =
    record {
      answer = cond (is_new d.phase) (Send 3) (Done (cond d.request.reads 0 (k_of d.request)) d.request.length);
      driver = record { request = d.request; phase = Rest; counts = d.counts };
    }

abbrev pub all_at_once : Sender
all_at_once =
    record {
      machine = record { next = λ d l xs. rests_after d; leaves = λ d l xs. xs };
      sends = λ d l xs. cond (is_new d.phase) (plan_of d.request xs) [];
    }

abbrev pub AllAtOnceBreaks : Type 0
AllAtOnceBreaks = OneEventAStep all_at_once → ⊥
