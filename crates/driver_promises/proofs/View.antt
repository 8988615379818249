-- The ways of a step: one constructor for each, with what holds there. Every law of a run goes by these.
-- Assumes nothing.
use Prim.Native.Nat.{ℕ, ◌+◌, ◌-◌, ◌≤◌, ◌<◌}
use mathlib.Core.Path.{◌≡◌, refl}
use mathlib.Core.Bool.{Bool, true, false, cond}
use mathlib.Core.List.{List}
use lib.ListN.{length, get_or, set}
use lib.Dec.{eqb, ltb}
use native.Mathlib.Omega.{arith}
use borrow.Author.Tests.{ltb-true, ltb-false, eqb-true, eqb-false, lt-ltb, le-leb, lt-leb}
use Rattle.parts.specs.Table.{facts_of}
use Rattle.parts.proofs.Laws.{branch}
use Rattle.parts.specs.Refusals.{is_fine}
use Rattle.driver.specs.declared.Request.{Request}
use Rattle.driver.specs.declared.Slot.{Slot}
use Rattle.driver.specs.declared.Slot.TheVariants.{Select, High, Low, Data, Poll, Turn, Take}
use Rattle.driver.specs.declared.Failed.{Failed}
use Rattle.driver.specs.declared.Failed.TheVariants.{AtSelect, AtHigh, AtLow, AtData, AtPolls}
use Rattle.driver.specs.declared.Phase.{Phase}
use Rattle.driver.specs.declared.Phase.TheVariants.{Ready, Bits, Heard, Rest, Over}
use Rattle.driver.specs.declared.Counts.{Counts}
use Rattle.driver.specs.declared.Driver.{Driver}
use Rattle.driver.specs.declared.Answer.TheVariants.{Done}
use Rattle.driver.specs.declared.Move.{Move}
use Rattle.driver.specs.Request.{judge_of, allowed_of}
use Rattle.driver.specs.Step.{wire_of, slot_byte_of, bit_of, shift_of, with_next, with_poll, with_seen, told_counts_of, sent_counts_of, send_then, opens, ready_of, bits_at, lead_at, low_at, data_at, poll_move_of, answered_of, take_at, end_of, heard_move_of, bits_move_of, over_of, move_at, driver_step_of, clocks_of, GoodCounts, driver_next_of, whole_of, byte_kept_of, buffer_of}
use Rattle.driver.proofs.Facts.{range_good}

-- a driver from its parts
abbrev pub at : Request → Phase → Counts → Driver
at r p c = record { request = r; phase = p; counts = c }

-- select and address bytes
abbrev pub leads : Slot → Bool
leads Select = true
leads High = true
leads Low = true
leads Data = false
leads Poll = false
leads Turn = true
leads Take = false

-- where a select or address byte fails
abbrev pub missed_at : Slot → Failed
missed_at Select = AtSelect
missed_at High = AtHigh
missed_at Low = AtLow
missed_at Data = AtData
missed_at Poll = AtPolls
missed_at Turn = AtSelect
missed_at Take = AtSelect

abbrev pub takes : Slot → Bool
takes Select = false
takes High = false
takes Low = false
takes Data = false
takes Poll = false
takes Turn = false
takes Take = true

-- bit number i of the byte of a slot
abbrev pub clock_of : Request → Counts → List ℕ → Slot → ℕ → ℕ
clock_of r c xs s i = bit_of (slot_byte_of (wire_of (at r Ready c) (get_or xs c.at 0)) s) i

-- from the phase, with counts c and buffer xs, told the level l: the move, and the buffer after it
pub data Way (r : Request) (c : Counts) (l : ℕ) (xs : List ℕ) : Phase → Move → List ℕ → Type 0 where
  w_done : c.at ≡ r.length → Way r c l xs Ready (record { answer = Done c.polls c.seen; phase = Ready; counts = c }) xs
  w_open : (c.at ≡ r.length → ⊥) → Way r c l xs Ready (send_then 2 (Bits Select 0) c) xs
  w_bit : (s : Slot) (b : ℕ) → b < 8 → Way r c l xs (Bits s b) (send_then (clock_of r c xs s b) (Bits s (b + 1)) (told_counts_of s c l)) xs
  w_ninth : (s : Slot) (b : ℕ) → takes s ≡ false → b ≡ 8 → Way r c l xs (Bits s b) (send_then 1 (Heard s) (sent_counts_of s c)) xs
  w_got : (b : ℕ) → b ≡ 8 → c.at < r.length → Way r c l xs (Bits Take b) (send_then (cond (eqb (c.at + 1) r.length) 1 0) (Heard Take) (with_next c)) (set xs c.at (shift_of c.byte l))
  w_nack : (s : Slot) → leads s ≡ true → 0 < l → Way r c l xs (Heard s) (send_then 3 (Over (missed_at s)) c) xs
  w_high : l ≡ 0 → (facts_of r.part).wide ≡ true → Way r c l xs (Heard Select) (opens High (clock_of r c xs High 0) c) xs
  w_only : l ≡ 0 → (facts_of r.part).wide ≡ false → Way r c l xs (Heard Select) (opens Low (clock_of r c xs Low 0) c) xs
  w_low : l ≡ 0 → Way r c l xs (Heard High) (opens Low (clock_of r c xs Low 0) c) xs
  w_turn : l ≡ 0 → r.reads ≡ true → Way r c l xs (Heard Low) (send_then 2 (Bits Turn 0) c) xs
  w_data : l ≡ 0 → r.reads ≡ false → Way r c l xs (Heard Low) (opens Data (clock_of r c xs Data 0) c) xs
  w_more : l ≡ 0 → (c.at ≡ end_of (at r Ready c) → ⊥) → Way r c l xs (Heard Data) (opens Data (clock_of r c xs Data 0) c) xs
  w_close : l ≡ 0 → c.at ≡ end_of (at r Ready c) → Way r c l xs (Heard Data) (send_then 3 Rest c) xs
  w_drop : 0 < l → Way r c l xs (Heard Data) (send_then 3 (Over AtData) c) xs
  w_poll : Way r c l xs Rest (send_then 2 (Bits Poll 0) (with_poll c)) xs
  w_again : 0 < l → c.tries < allowed_of r → Way r c l xs (Heard Poll) (send_then 2 (Bits Poll 0) (with_poll c)) xs
  w_give : 0 < l → allowed_of r ≤ c.tries → Way r c l xs (Heard Poll) (send_then 3 (Over AtPolls) c) xs
  w_page : l ≡ 0 → Way r c l xs (Heard Poll) (send_then 3 Ready (with_seen c)) xs
  w_take : l ≡ 0 → Way r c l xs (Heard Turn) (opens Take (clock_of r c xs Take 0) c) xs
  w_next : (c.at ≡ r.length → ⊥) → Way r c l xs (Heard Take) (opens Take (clock_of r c xs Take 0) c) xs
  w_end : c.at ≡ r.length → Way r c l xs (Heard Take) (send_then 3 Ready (with_seen c)) xs
  w_over : (f : Failed) → Way r c l xs (Over f) (over_of r c f) xs

abbrev kept_at : Phase → Counts → ℕ → List ℕ → List ℕ
kept_at p c l xs = cond (whole_of p) (cond (ltb c.at (length xs)) (set xs c.at (shift_of c.byte l)) xs) xs

-- the data byte that is still to come, for a byte that is read
abbrev pub Room : Phase → Request → Counts → Type 0
Room Ready r c = Unit {0}
Room (Bits Select b) r c = Unit {0}
Room (Bits High b) r c = Unit {0}
Room (Bits Low b) r c = Unit {0}
Room (Bits Data b) r c = Unit {0}
Room (Bits Poll b) r c = Unit {0}
Room (Bits Turn b) r c = Unit {0}
Room (Bits Take b) r c = c.at < r.length
Room (Heard s) r c = Unit {0}
Room Rest r c = Unit {0}
Room (Over f) r c = Unit {0}

module _ (r : Request) (c : Counts) (l : ℕ) (xs : List ℕ) where
  abbrev Via : Phase → Move → Type 0
  Via p m = Way r c l xs p m (kept_at p c l xs)

  some_level : (eqb l 0 ≡ false) → 0 < l
  some_level e = omega (arith, eqb-false l 0 e)

  plain : (s : Slot) (b : ℕ) → takes s ≡ false → b ≤ 8 → (ltb b 8 ≡ false) → Way r c l xs (Bits s b) (send_then 1 (Heard s) (sent_counts_of s c)) xs
  plain s b e h t = w_ninth s b e (omega (arith, ltb-false b 8 t))

  bits_way : (s : Slot) (b : ℕ) → b ≤ 8 → length xs ≡ r.length → Room (Bits s b) r c → Via (Bits s b) (bits_move_of (at r (Bits s b) c) s b l (get_or xs c.at 0))
  unfolding bits_move_of bits_at wire_of
  bits_way Select b h n o = branch (Via (Bits Select b)) (ltb b 8) (λ t. w_bit Select b (ltb-true _ _ t)) (λ t. plain Select b refl h t)
  bits_way High b h n o = branch (Via (Bits High b)) (ltb b 8) (λ t. w_bit High b (ltb-true _ _ t)) (λ t. plain High b refl h t)
  bits_way Low b h n o = branch (Via (Bits Low b)) (ltb b 8) (λ t. w_bit Low b (ltb-true _ _ t)) (λ t. plain Low b refl h t)
  bits_way Data b h n o = branch (Via (Bits Data b)) (ltb b 8) (λ t. w_bit Data b (ltb-true _ _ t)) (λ t. plain Data b refl h t)
  bits_way Poll b h n o = branch (Via (Bits Poll b)) (ltb b 8) (λ t. w_bit Poll b (ltb-true _ _ t)) (λ t. plain Poll b refl h t)
  bits_way Turn b h n o = branch (Via (Bits Turn b)) (ltb b 8) (λ t. w_bit Turn b (ltb-true _ _ t)) (λ t. plain Turn b refl h t)
  bits_way Take b h n o =
      branch (Via (Bits Take b)) (ltb b 8)
      (λ t.
      let k = ltb-true b 8 t in
      simp (lt-leb 8 b k) (w_bit Take b k))
      (λ t.
      let k = ltb-false b 8 t in
      simp (le-leb 8 b k, lt-ltb c.at (length xs) (omega arith)) (w_got b (omega arith) o))

  lead_way : (s n : Slot) (v : ℕ) → leads s ≡ true → (l ≡ 0 → Way r c l xs (Heard s) (opens n v c) xs) → Way r c l xs (Heard s) (lead_at c (missed_at s) n v l) xs
  unfolding lead_at
  lead_way s n v e f = branch (λ (m : Move). Way r c l xs (Heard s) m xs) (eqb l 0) (λ t. f (eqb-true _ _ t)) (λ t. w_nack s e (some_level t))

  heard_way : (s : Slot) → Via (Heard s) (heard_move_of (at r (Heard s) c) s l (get_or xs c.at 0))
  unfolding heard_move_of low_at data_at answered_of poll_move_of take_at wire_of
  heard_way Select = go (facts_of r.part).wide refl
    where
      go : (w : Bool) → (facts_of r.part).wide ≡ w → Way r c l xs (Heard Select) (lead_at c AtSelect (cond w High Low) (clock_of r c xs (cond w High Low) 0) l) xs
      go true e = lead_way Select High _ refl (λ z. w_high z e)
      go false e = lead_way Select Low _ refl (λ z. w_only z e)
  heard_way High = lead_way High Low _ refl w_low
  heard_way Low =
      branch (Via (Heard Low)) (eqb l 0)
      (λ t. branch (Via (Heard Low)) r.reads (λ u. w_turn (eqb-true _ _ t) u) (λ u. w_data (eqb-true _ _ t) u))
      (λ t. w_nack Low refl (some_level t))
  heard_way Data =
      branch (Via (Heard Data)) (eqb l 0)
      (λ t. branch (Via (Heard Data)) (eqb c.at (end_of (at r Ready c))) (λ u. w_close (eqb-true _ _ t) (eqb-true _ _ u)) (λ u. w_more (eqb-true _ _ t) (eqb-false _ _ u)))
      (λ t. w_drop (some_level t))
  heard_way Poll =
      branch (Via (Heard Poll)) (eqb l 0) (λ t. w_page (eqb-true _ _ t))
      (λ t. branch (Via (Heard Poll)) (ltb c.tries (allowed_of r)) (λ u. w_again (some_level t) (ltb-true _ _ u)) (λ u. w_give (some_level t) (ltb-false _ _ u)))
  heard_way Turn = lead_way Turn Take _ refl w_take
  heard_way Take =
      branch (Via (Heard Take)) (eqb c.at r.length) (λ u. w_end (eqb-true _ _ u)) (λ u. w_next (eqb-false _ _ u))

  pub way_at : (p : Phase) → clocks_of p ≤ 8 → length xs ≡ r.length → Room p r c → Via p (move_at p (at r p c) l (get_or xs c.at 0))
  unfolding ready_of poll_move_of
  way_at Ready h n o = branch (Via Ready) (eqb c.at r.length) (λ t. w_done (eqb-true _ _ t)) (λ t. w_open (eqb-false _ _ t))
  way_at (Bits s b) h n o = bits_way s b h n o
  way_at (Heard s) h n o = heard_way s
  way_at Rest h n o = w_poll
  way_at (Over f) h n o = w_over f

-- a step of `next`, for a driver in range: it goes one of the ways
pub record Steps (r : Request) (p : Phase) (c : Counts) (l : ℕ) (xs : List ℕ) : Type 0 where
  pub move : Move
  pub way : Way r c l xs p move (buffer_of (at r p c) l xs)
  pub asked : driver_next_of (at r p c) l xs ≡ record { answer = move.answer; driver = at r move.phase move.counts }

pub steps : (r : Request) (p : Phase) (c : Counts) (l : ℕ) (xs : List ℕ) → is_fine (judge_of r) ≡ true → GoodCounts (at r p c) (length xs) → Room p r c → Steps r p c l xs
unfolding driver_next_of buffer_of driver_step_of byte_kept_of
steps r p c l xs e g o =
    let t = range_good (at r p c) (length xs) e g in
    record {
      move = move_at p (at r p c) l (get_or xs c.at 0);
      way = simp t (way_at r c l xs p g.bits g.count o);
      asked = simp t;
    }
