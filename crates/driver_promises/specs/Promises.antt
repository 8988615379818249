-- The promises of the driver: each a type over any machine, for every request that is accepted and ANY list of line levels.
-- Proved of `our_driver` in proofs/Promises.antt.
-- Assumes nothing.
use Rattle.std.specs.Prelude.{ℕ, ◌+◌, ◌-◌, ◌*◌, ◌/◌, ◌%◌, ◌<◌, ◌≤◌, ◌≡◌, Bool, true, false, List, [], length, get_or, Ok}
use Rattle.parts.specs.declared.Refusal.{Refusal}
use Rattle.driver.specs.declared.Place.{Place}
use Rattle.driver.specs.declared.Place.TheVariants.{Array, Ident}
use Rattle.driver.specs.declared.Request.{Request}
use Rattle.driver.specs.declared.Answer.{Answer}
use Rattle.driver.specs.declared.Answer.TheVariants.{Send, Done, Refused}
use Rattle.driver.specs.Split.{sum, parts_of, pages_met_of}
use Rattle.driver.specs.Request.{judge_of, allowed_of, k_of}
use Rattle.driver.specs.Machine.{Machine}
use Rattle.driver_promises.specs.Run.{DriverHeld, begun, answer_to, told, after_all, events_sent, Finished, clocks_in, polls_in, address_bytes, bound_of, clock_of_byte, told_byte}
use Rattle.driver_promises.specs.Plan.{select_of, write_plan, read_plan}
use Rattle.driver_promises.specs.Heard.{PartsTold, ReadTold}
use Rattle.driver_promises.specs.Where.{Within, Stopped}

-- The splitter, over any page size P: the parts add up to the length, and are as many as the pages met, of which there are as many as
-- from the page of the first byte to the page of the last
pub record SplitRight (P a n : ℕ) : Type 0 where
  pub whole : sum (parts_of P n a n) ≡ n
  pub count : length (parts_of P n a n) ≡ pages_met_of P a n
  pub formula : 0 < n → pages_met_of P a n ≡ (a + (n - 1)) / P - a / P + 1

abbrev pub Splits : Type 0
Splits = (P a n : ℕ) → 0 < P → SplitRight P a n

-- `begin` does not refuse, and the buffer is as long as asked
pub record Accepted (r : Request) (xs : List ℕ) : Type 0 where
  pub fine : judge_of r ≡ Ok tt
  pub size : length xs ≡ r.length

-- one asking after a run of a machine
module _ (M : Machine) (r : Request) (xs : List ℕ) (ls : List ℕ) (l : ℕ) where
  abbrev pub after : DriverHeld
  after = after_all M (begun r xs) ls

  abbrev pub sent : List ℕ
  sent = events_sent M (begun r xs) ls

  abbrev pub answers : Answer
  answers = answer_to M after l

  -- 1. One event a step, until finished: who still sends has sent one for each asking; who is finished answers the same again, and
  -- nothing changes; and it is finished when the askings are more than a formula of the request
  pub record OneEach : Type 0 where
    pub each : (e : ℕ) → answers ≡ Send e → length sent ≡ length ls
    pub again : Finished answers → (told M after l ≡ after) × ((k : ℕ) → answer_to M after k ≡ answers)
    pub bound : bound_of r < length ls → Finished answers

  -- 2. The polls reported are the polls in the events sent, and at most k times the budget
  pub record PollsSent : Type 0 where
    pub done : (q m : ℕ) → answers ≡ Done q m → q ≡ polls_in false sent
    pub refused : (f : Refusal) (q m : ℕ) → answers ≡ Refused f q m → q ≡ polls_in false sent
    pub most : polls_in false sent ≤ k_of r * allowed_of r

  -- 3. Done: all bytes are reported, the events are the written-out list, and the levels told for its acknowledges are those that
  -- the list asks for. A write: for some number of polls a page
  pub record WriteDone (q : ℕ) : Type 0 where
    pub polls : List ℕ
    pub pages : length polls ≡ k_of r
    pub sum : sum polls ≡ q
    pub within : Within (allowed_of r) polls
    pub events : sent ≡ write_plan r xs polls
    pub levels : PartsTold ls r [] xs 0 polls
    pub clocks : clocks_in sent ≡ 9 * (k_of r * (1 + address_bytes r) + r.length + q)
    pub buffer : after.buffer ≡ xs

  -- a read
  pub record ReadDone (q : ℕ) : Type 0 where
    pub none : q ≡ 0
    pub events : 0 < r.length → sent ≡ read_plan r
    pub levels : 0 < r.length → ReadTold ls r
    pub clocks : 0 < r.length → clocks_in sent ≡ 9 * (2 + address_bytes r + r.length)
    -- each byte got is the levels told for its eight clocks
    pub bytes : (i : ℕ) → i < r.length → get_or after.buffer i 0 ≡ told_byte ls (clock_of_byte r i) 8
    pub size : length after.buffer ≡ r.length

  abbrev pub DoneOf : Bool → ℕ → Type 0
  DoneOf false q = WriteDone q
  DoneOf true q = ReadDone q

  pub record DoneAll (q m : ℕ) : Type 0 where
    pub bytes : m ≡ r.length
    pub plan : DoneOf r.reads q
    pub nothing : r.length ≡ 0 → sent ≡ []

  -- 4. Refused: which byte was not acknowledged, and the number and value it is told as; everything before it was; the last event is a
  -- Stop; the buffer is as before
  pub record RefusedAt (f : Refusal) (q m : ℕ) : Type 0 where
    pub stopped : Stopped r xs f m q sent ls
    -- a read answers 0 bytes and 0 polls
    pub none : r.reads ≡ true → (m ≡ 0) × (q ≡ 0)
    pub buffer : after.buffer ≡ xs

  -- 5. The buffer at every moment: a write never changes it. Of a read, byte i is the levels told for its eight clocks once its ninth clock,
  -- event number `clock_of_byte r i + 8`, is sent, and before that, or if that is never sent, it is as it was
  pub record BufferSoFar : Type 0 where
    pub write : r.reads ≡ false → after.buffer ≡ xs
    pub size : length after.buffer ≡ r.length
    pub got : r.reads ≡ true → (i : ℕ) → i < r.length → clock_of_byte r i + 8 < length sent → get_or after.buffer i 0 ≡ told_byte ls (clock_of_byte r i) 8
    pub before : r.reads ≡ true → (i : ℕ) → i < r.length → length sent ≤ clock_of_byte r i + 8 → get_or after.buffer i 0 ≡ get_or xs i 0

-- for every accepted request, any levels and every moment
abbrev pub Always : (Request → List ℕ → List ℕ → ℕ → Type 0) → Type 0
Always P = (r : Request) (xs : List ℕ) → Accepted r xs → (ls : List ℕ) (l : ℕ) → P r xs ls l

-- each of the five
module _ (M : Machine) where
  abbrev pub OneEachKept : Type 0
  OneEachKept = Always (λ r xs ls l. OneEach M r xs ls l)

  abbrev pub PollsKept : Type 0
  PollsKept = Always (λ r xs ls l. PollsSent M r xs ls l)

  abbrev pub DoneKept : Type 0
  DoneKept = Always (λ r xs ls l. (q m : ℕ) → answers M r xs ls l ≡ Done q m → DoneAll M r xs ls l q m)

  abbrev pub RefusedKept : Type 0
  RefusedKept = Always (λ r xs ls l. (q m : ℕ) (f : Refusal) → answers M r xs ls l ≡ Refused f q m → RefusedAt M r xs ls l f q m)

  abbrev pub BufferKept : Type 0
  BufferKept = Always (λ r xs ls l. BufferSoFar M r xs ls l)

-- together
pub record Promises (M : Machine) : Type 0 where
  pub one_each : OneEachKept M
  pub polls_sent : PollsKept M
  pub done_all : DoneKept M
  pub refused_at : RefusedKept M
  pub buffer_so_far : BufferKept M

-- what stands in the identification page
abbrev pub OnIdent : Place → Type 0
OnIdent (Array a) = ⊥
OnIdent (Ident i) = Unit {0}

-- "An identification write is one such part"
abbrev pub OnePart : Type 0
OnePart = (r : Request) (xs : List ℕ) → Accepted r xs → OnIdent r.place → 0 < r.length → k_of r ≡ 1

-- "Every select of one such part, or of a read, has the same seven high bits": the select code with write ends in 0, and that with
-- read is one more
pub record SevenBits (r : Request) (o : ℕ) : Type 0 where
  pub even : select_of r o % 2 ≡ 0
  pub same : (select_of r o + 1) / 2 ≡ select_of r o / 2
