-- Where a refused driver was refused: which byte of its events was not acknowledged, and what it is told as (document 02, §1).
-- Assumes nothing.
use Rattle.std.specs.Prelude.{ℕ, ◌+◌, ◌-◌, ◌/◌, ◌%◌, ◌<◌, ◌≤◌, ◌≡◌, Bool, true, false, cond, List, [], ◌∷◌, length, get_or, eqb}
use Rattle.parts.specs.declared.Refusal.{Refusal}
use Rattle.parts.specs.declared.Refusal.TheVariants.{NoSelect, NoData, PollsUsed, NoFirst, NoSecond}
use Rattle.parts.specs.Table.{facts_of}
use Rattle.driver.specs.declared.Request.{Request}
use Rattle.driver.specs.Split.{sum, pages_met_of}
use Rattle.driver.specs.Request.{allowed_of, k_of}
use Rattle.driver.specs.Step.{page_at}
use Rattle.driver_promises.specs.Plan.{then_start, then_stop, then_byte, then_polls, then_data, address_at, select_of, then_select, then_high, then_head, length_of, then_parts, parts_end_of, read_plan}
use Rattle.driver_promises.specs.Heard.{Acked, Missed, PollsMissed, HighAcked, HeadAcked, FilledAcked, PartsTold, ReadTold}

-- the pages that the bytes from number o on meet
abbrev pub left_of : Request → ℕ → ℕ
left_of r o = pages_met_of (facts_of r.part).page (address_at r o) (r.length - o)

-- each page takes at least one poll, and no more than the budget
abbrev pub Within : ℕ → List ℕ → Type 0
Within most [] = Unit {0}
Within most (q ∷ qs) = (1 ≤ q) × (q ≤ most) × Within most qs

-- whole parts of a write: they hold the first `bytes` bytes of xs, in as many pages, and polls are the polls of them all
pub record Parts (r : Request) (xs ls : List ℕ) (bytes polls : ℕ) (es : List ℕ) : Type 0 where
  pub each : List ℕ
  pub ends : parts_end_of r 0 each ≡ bytes
  pub pages : length each + left_of r bytes ≡ k_of r
  pub polled : sum each ≡ polls
  pub within : Within (allowed_of r) each
  pub events : es ≡ then_parts r [] xs 0 each
  pub levels : PartsTold ls r [] xs 0 each

-- what went before the part that was refused: whole parts of a write, and of a read nothing
abbrev pub Before : Bool → Request → List ℕ → List ℕ → ℕ → ℕ → List ℕ → Type 0
Before true r xs ls bytes polls es = (es ≡ cond (eqb bytes 0) [] (read_plan r)) × (0 < bytes → ReadTold ls r)
Before false r xs ls bytes polls es = Parts r xs ls bytes polls es

-- a byte that a refusal can stand at, its number with its page or index, the byte, the events before it, and that of the part everything
-- before it was acknowledged; `past` went before the part that begins with byte m
pub data RefusedByte (r : Request) (xs ls : List ℕ) (past : List ℕ) (m : ℕ) : Refusal → ℕ → List ℕ → Type 0 where
  -- "9 is the select only"
  the_select : RefusedByte r xs ls past m (NoSelect (page_at r m)) (select_of r m) (then_start past)
  -- "14 first address byte": of two, or the only one
  the_first : (facts_of r.part).wide ≡ true → Acked ls (then_select r past m) → RefusedByte r xs ls past m (NoFirst (page_at r m)) (address_at r m / 256 % 256) (then_select r past m)
  the_only : (facts_of r.part).wide ≡ false → Acked ls (then_select r past m) → RefusedByte r xs ls past m (NoFirst (page_at r m)) (address_at r m % 256) (then_select r past m)
  -- "15 second"
  the_second : (facts_of r.part).wide ≡ true → HighAcked ls r true past m → RefusedByte r xs ls past m (NoSecond (page_at r m)) (address_at r m % 256) (then_high r true past m)
  -- the second select of a read is a select
  the_turn : r.reads ≡ true → HeadAcked ls r past m → RefusedByte r xs ls past m (NoSelect (page_at r m)) (select_of r m + 1) (then_start (then_head r past m))
  -- "Refusal 10 gains the data byte's index in the request": data byte number m + i
  the_data : (i : ℕ) → r.reads ≡ false → i < length_of r m → FilledAcked ls r past xs m i → RefusedByte r xs ls past m (NoData (m + i)) (get_or xs (m + i) 0) (then_data (then_head r past m) xs m i)
  -- the select of the last poll allowed: the polls before it were missed
  the_poll : r.reads ≡ false → FilledAcked ls r past xs m (length_of r m) → PollsMissed ls (then_stop (then_data (then_head r past m) xs m (length_of r m))) (select_of r m) (allowed_of r - 1) → RefusedByte r xs ls past m PollsUsed (select_of r m) (then_start (then_polls (then_stop (then_data (then_head r past m) xs m (length_of r m))) (select_of r m) (allowed_of r - 1)))

-- refused after `bytes` bytes, not all, and `polls` polls: the byte's ninth clock was the last event but one, its level was told as not
-- pulled low, and the last event is a Stop
pub record Stopped (r : Request) (xs : List ℕ) (f : Refusal) (bytes polls : ℕ) (es ls : List ℕ) : Type 0 where
  pub short : bytes < r.length
  pub past : List ℕ
  -- polls for the part under way
  pub tries : ℕ
  pub spent : ℕ
  pub sum : spent + tries ≡ polls
  pub parts : Before r.reads r xs ls bytes spent past
  pub byte : ℕ
  pub before : List ℕ
  pub which : RefusedByte r xs ls past bytes f byte before
  pub events : es ≡ then_stop (then_byte before byte 1)
  pub within : length es ≤ length ls
  pub level : Missed ls (then_byte before byte 1)
