-- Bytes that hold no driver are out of range; a driver in range has small numbers, and a step leaves them small.
-- Assumes nothing.
use Prim.Native.Nat.{ℕ, ◌+◌, ◌≤◌, ◌<◌}
use mathlib.Core.Path.{◌≡◌, refl}
use mathlib.Core.Bool.{Bool, true, false, cond}
use native.Mathlib.Omega.{arith}
use lib.ListN.{length, get_or}
use lib.Dec.{eqb, ltb}
use Rattle.parts.specs.Table.{facts_of, enable_right_of}
use Rattle.parts.specs.Bytes.{word_end}
use Rattle.parts.specs.Refusals.{sooner_of}
use Rattle.parts.proofs.Laws.{branch}
use Rattle.driver.specs.declared.Place.TheVariants.{Array}
use Rattle.driver.specs.declared.Request.{Request}
use Rattle.driver.specs.declared.Slot.{Slot}
use Rattle.driver.specs.declared.Failed.{Failed}
use Rattle.driver.specs.declared.Slot.TheVariants.{Select, High, Low, Data, Poll, Turn, Take}
use Rattle.driver.specs.declared.Phase.{Phase}
use Rattle.driver.specs.declared.Phase.TheVariants.{Ready, Bits, Heard, Rest, Over}
use Rattle.driver.specs.declared.Counts.{Counts}
use Rattle.driver.specs.declared.Driver.{Driver}
use Rattle.driver.specs.declared.Move.{Move}
use Rattle.driver.specs.declared.Asked.{Asked}
use Rattle.driver.specs.Request.{beyond_at, limit_of, judge_of, allowed_of, k_of}
use Rattle.driver.specs.Split.{pages_met_of}
use Rattle.driver.specs.Step.{
  counts_right,
  fresh,
  with_byte,
  with_next,
  with_poll,
  with_seen,
  told_counts_of,
  sent_counts_of,
  ready_of,
  bits_at,
  lead_at,
  low_at,
  data_at,
  poll_move_of,
  answered_of,
  take_at,
  heard_at,
  heard_move_of,
  bits_move_of,
  move_at,
  driver_step_of,
  range_of,
  driver_next_of,
  buffer_of,
}
use Rattle.driver.proofs.Facts.{reach, most_fits, range_request, good_counts}
use Rattle.pack_driver.specs.Layout.{numbers_of, small_of, no_driver, unpacked_driver_of}
use Rattle.pack_driver.specs.Promises.{DriverRefusesOthers, InRangeSmall, SomeNotPacked, StaysSmall}
use Rattle.pack_driver.proofs.Kept.{all_small, small_all}

-- ---- bytes that hold none

none_range : (n : ℕ) → range_of no_driver n ≡ false
unfolding range_of judge_of sooner_of facts_of enable_right_of beyond_at limit_of
none_range n = refl

pub driver_refuses_others : DriverRefusesOthers unpacked_driver_of
unfolding unpacked_driver_of driver_next_of buffer_of
driver_refuses_others l h = rw h (none_range, λ level buffer. rw none_range refl, λ level buffer. rw none_range refl)

-- ---- in range

budget_small : (r : Request) → allowed_of r ≤ 1000 → (r.reads ≡ true → r.budget < word_end) → r.budget < word_end
unfolding allowed_of
budget_small r = go r.reads where
  go : (reads : Bool) → cond reads 0 r.budget ≤ 1000 → (reads ≡ true → r.budget < word_end) → r.budget < word_end
  go true h f = f refl
  go false h f = omega arith

pub in_range_small : InRangeSmall
unfolding small_of
in_range_small d n h f =
    let g = range_request d n h in
    let c = good_counts d n h in
    let r = reach d.request g in
    let m = most_fits d.request g in
    small_all (numbers_of d) (
      omega arith,
      (
        omega arith,
        (
          budget_small d.request g.most f,
          (
            omega (arith, c.at, c.count),
            (
              omega (arith, c.seen, c.at, c.count),
              (
                omega (arith, c.tries, g.most),
                (omega (arith, c.polls), tt),
              ),
            ),
          ),
        ),
      ),
    )

-- a read of nothing, with a budget of five bytes
abbrev reader : Driver
reader = fresh (record { part = 0; enable = 0; place = Array (record { 0 = 0 }); reads = true; length = 0; budget = word_end })

pub some_not_packed : SomeNotPacked
unfolding range_of counts_right judge_of sooner_of beyond_at limit_of enable_right_of facts_of k_of pages_met_of allowed_of small_of
some_not_packed = (reader, refl, refl, refl)

-- ---- a step adds at most one to a number, or sets it to another

record Near (c e : Counts) : Type 0 where
  pub at : e.at ≤ c.at + 1
  pub seen : e.seen ≤ c.seen + c.at
  pub tries : e.tries ≤ c.tries + 1
  pub polls : e.polls ≤ c.polls + 1

module _ (c : Counts) where
  abbrev Q : Move → Type 0
  Q m = Near c m.counts

  kept : Near c c
  kept = record { at = omega arith; seen = omega arith; tries = omega arith; polls = omega arith }

  byte_near : (b : ℕ) → Near c (with_byte c b)
  byte_near b = record { at = omega arith; seen = omega arith; tries = omega arith; polls = omega arith }

  next_near : Near c (with_next c)
  next_near = record { at = omega arith; seen = omega arith; tries = omega arith; polls = omega arith }

  poll_near : Near c (with_poll c)
  poll_near = record { at = omega arith; seen = omega arith; tries = omega arith; polls = omega arith }

  seen_near : Near c (with_seen c)
  seen_near = record { at = omega arith; seen = omega arith; tries = omega arith; polls = omega arith }

  taken_near : (s : Slot) (level : ℕ) → Near c (told_counts_of s c level)
  taken_near Select level = kept
  taken_near High level = kept
  taken_near Low level = kept
  taken_near Data level = kept
  taken_near Poll level = kept
  taken_near Turn level = kept
  taken_near Take level = byte_near _

  sent_near : (s : Slot) → Near c (sent_counts_of s c)
  sent_near Select = kept
  sent_near High = kept
  sent_near Low = kept
  sent_near Data = next_near
  sent_near Poll = kept
  sent_near Turn = kept
  sent_near Take = next_near

  ready_near : (n : ℕ) → Q (ready_of c n)
  unfolding ready_of
  ready_near n = branch Q (eqb c.at n) (λ _. kept) (λ _. kept)

  lead_near : (f : Failed) (s : Slot) (clock level : ℕ) → Q (lead_at c f s clock level)
  unfolding lead_at
  lead_near f s clock level = branch Q (eqb level 0) (λ _. byte_near 0) (λ _. kept)

  low_near : (reads : Bool) (clock level : ℕ) → Q (low_at c reads clock level)
  unfolding low_at
  low_near reads clock level = branch Q (eqb level 0) (λ _. branch Q reads (λ _. kept) (λ _. byte_near 0)) (λ _. kept)

  data_near : (end clock level : ℕ) → Q (data_at c end clock level)
  unfolding data_at
  data_near end clock level = branch Q (eqb level 0) (λ _. branch Q (eqb c.at end) (λ _. kept) (λ _. byte_near 0)) (λ _. kept)

  polled_near : Q (poll_move_of c)
  unfolding poll_move_of
  polled_near = poll_near

  answered_near : (allowed level : ℕ) → Q (answered_of c allowed level)
  unfolding answered_of
  answered_near allowed level =
      branch Q (eqb level 0) (λ _. seen_near) (λ _. branch Q (ltb c.tries allowed) (λ _. polled_near) (λ _. kept))

  take_near : (n clock : ℕ) → Q (take_at c n clock)
  unfolding take_at
  take_near n clock = branch Q (eqb c.at n) (λ _. seen_near) (λ _. byte_near 0)

  bits_near : (s : Slot) (b clock ninth level : ℕ) → Q (bits_at s b clock ninth (told_counts_of s c level) (sent_counts_of s c))
  unfolding bits_at
  bits_near s b clock ninth level = branch Q (ltb b 8) (λ _. taken_near s level) (λ _. sent_near s)

heard_near : (d : Driver) (s : Slot) (level clock : ℕ) → Q d.counts (heard_at d s level clock)
heard_near d Select level clock = lead_near d.counts _ _ clock level
heard_near d High level clock = lead_near d.counts _ Low clock level
heard_near d Low level clock = low_near d.counts d.request.reads clock level
heard_near d Data level clock = data_near d.counts _ clock level
heard_near d Poll level clock = answered_near d.counts (allowed_of d.request) level
heard_near d Turn level clock = lead_near d.counts _ Take clock level
heard_near d Take level clock = take_near d.counts d.request.length clock

move_near : (p : Phase) (d : Driver) (level value : ℕ) → Q d.counts (move_at p d level value)
unfolding bits_move_of heard_move_of
move_near Ready d level value = ready_near d.counts d.request.length
move_near (Bits s b) d level value = bits_near d.counts s b _ _ level
move_near (Heard s) d level value = heard_near d s level _
move_near Rest d level value = polled_near d.counts
move_near (Over f) d level value = kept d.counts

step_small : (d : Driver) (n level value : ℕ) → range_of d n ≡ true → small_of d ≡ true → small_of (driver_step_of d level value).driver ≡ true
unfolding small_of driver_step_of
step_small d n level value h s =
    let g = range_request d n h in
    let c = good_counts d n h in
    let r = reach d.request g in
    let m = most_fits d.request g in
    let w = move_near d.phase d level value in
    let b = all_small (numbers_of d) s in
    small_all (numbers_of (driver_step_of d level value).driver) (
      b.0,
      (
        b.1.0,
        (
          b.1.1.0,
          (
            omega (arith, w.at, c.at, c.count),
            (
              omega (arith, w.seen, c.seen, c.at, c.count),
              (
                omega (arith, w.tries, c.tries, g.most),
                (omega (arith, w.polls, c.polls), tt),
              ),
            ),
          ),
        ),
      ),
    )

pub stays_small : StaysSmall
unfolding driver_next_of
stays_small d level buffer s =
    branch (λ (a : Asked). small_of a.driver ≡ true) (range_of d (length buffer))
    (λ h. step_small d (length buffer) level (get_or buffer d.counts.at 0) h s)
    (λ h. s)
