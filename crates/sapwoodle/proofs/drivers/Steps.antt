-- A step leaves numbers that fit their types, and its own refusals are not 4.
-- Assumes nothing.
use Prim.Native.Nat.{ℕ, ◌+◌, ◌≤◌, ◌<◌}
use mathlib.Core.Path.{◌≡◌}
use mathlib.Core.Bool.{Bool, true, false}
use native.Mathlib.Omega.{arith}
use lib.Dec.{eqb, ltb}
use borrow.Author.Tests.{ltb-true}
use Rattle.parts.proofs.Laws.{branch}
use Rattle.parts.specs.Table.{facts_of}
use Rattle.parts.specs.Refusals.{number_of}
use Rattle.driver.specs.declared.Request.{Request}
use Rattle.driver.specs.declared.Slot.{Slot}
use Rattle.driver.specs.declared.Slot.TheVariants.{Select, High, Low, Data, Poll, Turn, Take}
use Rattle.driver.specs.declared.Failed.{Failed}
use Rattle.driver.specs.declared.Failed.TheVariants.{AtSelect, AtHigh, AtLow, AtData, AtPolls}
use Rattle.driver.specs.declared.Phase.{Phase}
use Rattle.driver.specs.declared.Phase.TheVariants.{Ready, Bits, Heard, Rest, Over}
use Rattle.driver.specs.declared.Counts.{Counts}
use Rattle.driver.specs.declared.Driver.{Driver}
use Rattle.driver.specs.declared.Move.{Move}
use Rattle.driver.specs.Request.{allowed_of}
use Rattle.driver.specs.Step.{shift_of, with_byte, with_poll, with_seen, told_counts_of, sent_counts_of, send_then, ready_of, bits_at, lead_at, low_at, data_at, poll_move_of, answered_of, take_at, heard_at, heard_move_of, bits_move_of, last_address_of, over_of, move_at, clocks_of}
use Rattle.sapwoodle.specs.Drivers.{told_of}

pub record Well (m : Move) : Type 0 where
  pub clocks : clocks_of m.phase ≤ 8
  pub byte : m.counts.byte < 256
  pub told : (told_of m.answer).number ≡ 4 → ⊥

sends : (e : ℕ) (p : Phase) (c : Counts) → clocks_of p ≤ 8 → c.byte < 256 → Well (send_then e p c)
sends e p c k b = record { clocks = k; byte = b; told = λ h. omega arith }

shift_low : (byte level : ℕ) → shift_of byte level < 256
unfolding shift_of
shift_low byte level = branch (λ (n : ℕ). n < 256) (eqb level 0) (λ _. omega arith) (λ _. omega arith)

module _ (c : Counts) (b : c.byte < 256) where
  taken_low : (s : Slot) (level : ℕ) → (told_counts_of s c level).byte < 256
  taken_low Select level = b
  taken_low High level = b
  taken_low Low level = b
  taken_low Data level = b
  taken_low Poll level = b
  taken_low Turn level = b
  taken_low Take level = shift_low c.byte level

  sent_low : (s : Slot) → (sent_counts_of s c).byte < 256
  sent_low Select = b
  sent_low High = b
  sent_low Low = b
  sent_low Data = b
  sent_low Poll = b
  sent_low Turn = b
  sent_low Take = b

  opened : (s : Slot) (clock : ℕ) → Well (send_then clock (Bits s 1) (with_byte c 0))
  opened s clock = sends clock (Bits s 1) (with_byte c 0) (omega arith) (omega arith)

  ready_well : (n : ℕ) → Well (ready_of c n)
  unfolding ready_of
  ready_well n =
      branch Well (eqb c.at n) (λ _. record { clocks = omega arith; byte = b; told = λ h. omega arith })
      (λ _. sends 2 (Bits Select 0) c (omega arith) b)

  lead_well : (f : Failed) (s : Slot) (clock level : ℕ) → Well (lead_at c f s clock level)
  unfolding lead_at
  lead_well f s clock level = branch Well (eqb level 0) (λ _. opened s clock) (λ _. sends 3 (Over f) c (omega arith) b)

  low_well : (reads : Bool) (clock level : ℕ) → Well (low_at c reads clock level)
  unfolding low_at
  low_well reads clock level =
      branch Well (eqb level 0) (λ _. branch Well reads (λ _. sends 2 (Bits Turn 0) c (omega arith) b) (λ _. opened Data clock))
      (λ _. sends 3 (Over AtLow) c (omega arith) b)

  data_well : (end clock level : ℕ) → Well (data_at c end clock level)
  unfolding data_at
  data_well end clock level =
      branch Well (eqb level 0) (λ _. branch Well (eqb c.at end) (λ _. sends 3 Rest c (omega arith) b) (λ _. opened Data clock))
      (λ _. sends 3 (Over AtData) c (omega arith) b)

  poll_well : Well (poll_move_of c)
  unfolding poll_move_of
  poll_well = sends 2 (Bits Poll 0) (with_poll c) (omega arith) b

  answered_well : (allowed level : ℕ) → Well (answered_of c allowed level)
  unfolding answered_of
  answered_well allowed level =
      branch Well (eqb level 0) (λ _. sends 3 Ready (with_seen c) (omega arith) b)
      (λ _. branch Well (ltb c.tries allowed) (λ _. poll_well) (λ _. sends 3 (Over AtPolls) c (omega arith) b))

  take_well : (n clock : ℕ) → Well (take_at c n clock)
  unfolding take_at
  take_well n clock = branch Well (eqb c.at n) (λ _. sends 3 Ready (with_seen c) (omega arith) b) (λ _. opened Take clock)

  bits_well : (s : Slot) (k clock ninth level : ℕ) → Well (bits_at s k clock ninth (told_counts_of s c level) (sent_counts_of s c))
  unfolding bits_at
  bits_well s k clock ninth level =
      branch Well (ltb k 8)
      (λ h. let l = ltb-true k 8 h in sends clock (Bits s (k + 1)) (told_counts_of s c level) (omega arith) (taken_low s level))
      (λ _. sends ninth (Heard s) (sent_counts_of s c) (omega arith) (sent_low s))

  last_told : (w : Bool) (p : ℕ) → number_of (last_address_of w p) ≡ 4 → ⊥
  last_told true p h = omega arith
  last_told false p h = omega arith

  over_well : (r : Request) (f : Failed) → Well (over_of r c f)
  over_well r AtSelect = record { clocks = omega arith; byte = b; told = λ h. omega arith }
  over_well r AtHigh = record { clocks = omega arith; byte = b; told = λ h. omega arith }
  over_well r AtLow = record { clocks = omega arith; byte = b; told = last_told (facts_of r.part).wide _ }
  over_well r AtData = record { clocks = omega arith; byte = b; told = λ h. omega arith }
  over_well r AtPolls = record { clocks = omega arith; byte = b; told = λ h. omega arith }

heard_well : (d : Driver) (s : Slot) (level clock : ℕ) → d.counts.byte < 256 → Well (heard_at d s level clock)
heard_well d Select level clock b = lead_well d.counts b _ _ clock level
heard_well d High level clock b = lead_well d.counts b _ Low clock level
heard_well d Low level clock b = low_well d.counts b d.request.reads clock level
heard_well d Data level clock b = data_well d.counts b _ clock level
heard_well d Poll level clock b = answered_well d.counts b (allowed_of d.request) level
heard_well d Turn level clock b = lead_well d.counts b _ Take clock level
heard_well d Take level clock b = take_well d.counts b d.request.length clock

pub move_well : (p : Phase) (d : Driver) (level value : ℕ) → d.counts.byte < 256 → Well (move_at p d level value)
unfolding bits_move_of heard_move_of
move_well Ready d level value b = ready_well d.counts b d.request.length
move_well (Bits s k) d level value b = bits_well d.counts b s k _ _ level
move_well (Heard s) d level value b = heard_well d s level _ b
move_well Rest d level value b = poll_well d.counts b
move_well (Over f) d level value b = over_well d.counts b d.request f
