-- Drivers that only seem to work (document 01, 'Strength of the promises'): each breaks a promise, and which is said with it.
-- Assumes nothing.
use Rattle.std.specs.Prelude.{ℕ, ◌+◌, ◌-◌, ◌<◌, Bool, true, false, cond, ◌&&◌, List, map, set, eqb, ltb, Err}
use Rattle.parts.specs.declared.Refusal.{Refusal}
use Rattle.driver.specs.declared.Slot.{Slot}
use Rattle.driver.specs.declared.Slot.TheVariants.{Select, High, Low, Data, Poll, Turn, Take}
use Rattle.driver.specs.declared.Phase.{Phase}
use Rattle.driver.specs.declared.Phase.TheVariants.{Ready, Bits, Heard, Rest, Over}
use Rattle.driver.specs.declared.Driver.{Driver}
use Rattle.driver.specs.declared.Answer.{Answer}
use Rattle.driver.specs.declared.Answer.TheVariants.{Send, Done, Refused}
use Rattle.driver.specs.Request.{allowed_of}
use Rattle.driver.specs.Step.{shift_of, with_byte, with_poll, driver_next_of, buffer_of}
use Rattle.driver.specs.Machine.{Machine}
use Rattle.driver_promises.specs.Promises.{OneEachKept, PollsKept, DoneKept, RefusedKept, BufferKept}
use Rattle.driver_promises.specs.Numbers.{RequestNumbers}
use Rattle.driver_promises.specs.Listens.{OnlyThoseLevels}

-- it gives one refusal to everything
abbrev pub refusing_driver : Refusal → Machine
refusing_driver f = record { next = λ d l xs. record { answer = Refused f 0 0; driver = d }; leaves = λ d l xs. xs }

-- it reports everything done in the first step, and idles after
abbrev pub at_once : Machine
at_once = record { next = λ d l xs. record { answer = Done 0 d.request.length; driver = d }; leaves = λ d l xs. xs }

-- it never finishes
abbrev pub endless : Machine
endless = record { next = λ d l xs. record { answer = Send 1; driver = d }; leaves = λ d l xs. xs }

-- ours, but it reports a poll that it did not send
abbrev pub one_poll_more : Answer → Answer
one_poll_more (Send e) = Send e
one_poll_more (Done q n) = Done (q + 1) n
one_poll_more (Refused f q n) = Refused f (q + 1) n

abbrev pub inventing_driver : Machine
inventing_driver =
    record { next = λ d l xs. record { answer = one_poll_more (driver_next_of d l xs).answer; driver = (driver_next_of d l xs).driver }; leaves = buffer_of }

-- ours, but it hears the acknowledge of a slot through `ear`
abbrev pub heard_by : (Slot → ℕ → ℕ) → Phase → ℕ → ℕ
heard_by ear Ready l = l
heard_by ear (Bits s b) l = l
heard_by ear (Heard s) l = ear s l
heard_by ear Rest l = l
heard_by ear (Over f) l = l

abbrev pub hearing : (Slot → ℕ → ℕ) → Machine
hearing ear = record { next = λ d l xs. driver_next_of d (heard_by ear d.phase l) xs; leaves = λ d l xs. buffer_of d (heard_by ear d.phase l) xs }

-- it takes every acknowledge as given
abbrev pub deaf : Machine
deaf = hearing (λ s l. 0)

-- it takes the acknowledges of select and address as given, and hears those of data and polls
abbrev pub headless : Slot → ℕ → ℕ
headless Select l = 0
headless High l = 0
headless Low l = 0
headless Data l = l
headless Poll l = l
headless Turn l = 0
headless Take l = l

abbrev pub half_deaf : Machine
half_deaf = hearing headless

-- the slots by number: all but the last, a byte that is read, wait for an acknowledge
abbrev pub kind_of : Slot → ℕ
kind_of Select = 0
kind_of High = 1
kind_of Low = 2
kind_of Data = 3
kind_of Poll = 4
kind_of Turn = 5
kind_of Take = 6

-- it takes the acknowledge of one kind of byte as given
abbrev pub deaf_to : Slot → Machine
deaf_to slot = hearing (λ s l. cond (eqb (kind_of s) (kind_of slot)) 0 l)

-- ours, but after an answered poll it polls once more when the budget allows; the count `byte`, which no poll uses, says that it has
abbrev pub lingers_in : Phase → Driver → ℕ → Bool
lingers_in Ready d l = false
lingers_in (Bits s b) d l = false
lingers_in (Heard s) d l = eqb (kind_of s) 4 && (eqb l 0 && (eqb d.counts.byte 0 && ltb d.counts.tries (allowed_of d.request)))
lingers_in Rest d l = false
lingers_in (Over f) d l = false

abbrev pub lingering : Machine
lingering =
    record {
      next = λ d l xs.
          cond (lingers_in d.phase d l)
          (record { answer = Send 2; driver = record { request = d.request; phase = Bits Poll 0; counts = with_byte (with_poll d.counts) 1 } })
          (driver_next_of d l xs);
      leaves = buffer_of;
    }

-- ours, but it sends nothing while the line is high, whatever the clock
abbrev pub nosy : Machine
nosy = record { next = λ d l xs. cond (eqb l 0) (driver_next_of d l xs) (record { answer = Done 0 0; driver = d }); leaves = buffer_of }

-- ours, but it puts what it has of a byte that is read into the buffer at every bit
abbrev pub in_read : Phase → Bool
in_read Ready = false
in_read (Bits s b) = eqb (kind_of s) 6
in_read (Heard s) = false
in_read Rest = false
in_read (Over f) = false

abbrev pub bit_by_bit : Machine
bit_by_bit = record { next = driver_next_of; leaves = λ d l xs. cond (in_read d.phase) (set xs d.counts.at (shift_of d.counts.byte l)) xs }

-- ours, but while it is under way each byte in the buffer is one too high; it reckons with that, and puts them right at each end
abbrev pub rests_in : Phase → Bool
rests_in Ready = true
rests_in (Bits s b) = false
rests_in (Heard s) = false
rests_in Rest = false
rests_in (Over f) = true

abbrev pub scribbled : Phase → List ℕ → List ℕ
scribbled p xs = cond (rests_in p) xs (map (λ (x : ℕ). x + 1) xs)

abbrev pub righted : Phase → List ℕ → List ℕ
righted p xs = cond (rests_in p) xs (map (λ (x : ℕ). x - 1) xs)

abbrev pub scribbling : Machine
scribbling =
    record {
      next = λ d l xs. driver_next_of d l (righted d.phase xs);
      leaves = λ d l xs. scribbled (driver_next_of d l (righted d.phase xs)).driver.phase (buffer_of d l (righted d.phase xs));
    }

pub record IdleDriversBreak : Type 0 where
  -- the refusal table: some requests are given 1, others 2
  pub refusing_begin : (f : Refusal) → RequestNumbers (λ r. Err f) → ⊥
  -- refused says which byte was told as missed
  pub refusing : (f : Refusal) → RefusedKept (refusing_driver f) → ⊥
  -- done is the written-out list of events
  pub at_once : DoneKept at_once → ⊥
  -- an end within a formula
  pub endless : OneEachKept endless → ⊥
  -- polls reported are polls sent
  pub inventing : PollsKept inventing_driver → ⊥
  -- done: the levels told for the list's acknowledges are low, but for the polls before the last of a page
  pub deaf : DoneKept deaf → ⊥
  pub half_deaf : DoneKept half_deaf → ⊥
  pub deaf_to : (s : Slot) → kind_of s < 6 → DoneKept (deaf_to s) → ⊥
  pub lingering : DoneKept lingering → ⊥
  -- no other level matters
  pub nosy : OnlyThoseLevels nosy → ⊥
  -- the buffer at every moment
  pub bit_by_bit : BufferKept bit_by_bit → ⊥
  pub scribbling : BufferKept scribbling → ⊥

-- and the buffer's promise stands by itself: the last driver keeps the four others
pub record ScribblingKeeps : Type 0 where
  pub one_each : OneEachKept scribbling
  pub polls_sent : PollsKept scribbling
  pub done_all : DoneKept scribbling
  pub refused_at : RefusedKept scribbling
