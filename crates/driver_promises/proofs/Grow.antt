-- Clocks, Starts and Stops so far as functions of the state, and how one step moves them; and the polls with them.
-- Assumes nothing.
use Prim.Native.Nat.{ℕ, zero, suc, ◌+◌, ◌-◌, ◌*◌, ◌<◌}
use mathlib.Core.Path.{◌≡◌, refl, sym, ◌∙◌, ap}
use mathlib.Core.Bool.{Bool, true, false, cond, not, false≢true, ◌&&◌}
use mathlib.Core.List.{List}
use lib.ListN.{get_or}
use lib.Dec.{eqb, ltb}
use native.Mathlib.Omega.{arith}
use native.Mathlib.Nat.{mod-lt}
use borrow.Author.Tests.{lt-ltb, eq-eqb, ne_eqb}
use Rattle.parts.specs.Table.{address_bytes_of}
use Rattle.parts.proofs.Laws.{branch}
use Rattle.parts.proofs.Tests.{not_yes}
use Rattle.driver.specs.declared.Request.{Request}
use Rattle.driver.specs.declared.Slot.{Slot}
use Rattle.driver.specs.declared.Slot.TheVariants.{Select, High, Low, Data, Poll, Turn, Take}
use Rattle.driver.specs.declared.Failed.{Failed}
use Rattle.driver.specs.declared.Failed.TheVariants.{AtSelect, AtHigh, AtLow, AtData, AtPolls}
use Rattle.driver.specs.declared.Phase.{Phase}
use Rattle.driver.specs.declared.Phase.TheVariants.{Ready, Bits, Heard, Rest, Over}
use Rattle.driver.specs.declared.Counts.{Counts}
use Rattle.driver.specs.declared.Answer.{Answer}
use Rattle.driver.specs.declared.Answer.TheVariants.{Send, Done, Refused}
use Rattle.driver.specs.declared.Move.{Move}
use Rattle.driver.specs.Request.{k_of}
use Rattle.driver.specs.Step.{wire_of, slot_byte_of, bit_of, send_then, with_byte}
use Rattle.driver_promises.specs.Run.{address_bytes}
use Rattle.driver_promises.specs.Where.{left_of}
use Rattle.driver_promises.proofs.View.{at, clock_of, leads, missed_at, Way, w_done, w_open, w_bit, w_ninth, w_got, w_nack, w_high, w_only, w_low, w_turn, w_data, w_more, w_close, w_drop, w_poll, w_again, w_give, w_page, w_take, w_next, w_end, w_over}
use Rattle.driver_promises.proofs.Inv.{wide, left_cut, Common, Closed, Inv, taken_elim}

abbrev pub A : Request → ℕ
A r = address_bytes r

-- pages done with the first s bytes
abbrev pub D : Request → ℕ → ℕ
D r s = k_of r - left_of r s

-- select and address bytes of what is done; for a read, the select codes and the address
abbrev pub heads : Request → ℕ → ℕ
heads r s = cond r.reads (cond (eqb s 0) 0 (2 + A r)) (D r s * (1 + A r))

-- Starts and Stops of what is done, without the Starts of polls
abbrev pub ends : Request → ℕ → ℕ
ends r s = cond r.reads (cond (eqb s 0) 0 3) (3 * D r s)

-- select and address bytes of the part under way, before the byte of a slot and after it
abbrev pub lead : Request → Slot → ℕ
lead r Select = 0
lead r High = 1
lead r Low = A r
lead r Data = 1 + A r
lead r Poll = 1 + A r
lead r Turn = 1 + A r
lead r Take = 2 + A r

abbrev pub led : Request → Slot → ℕ
led r Select = 1
led r High = 2
led r Low = 1 + A r
led r Data = 1 + A r
led r Poll = 1 + A r
led r Turn = 2 + A r
led r Take = 2 + A r

-- a poll is counted from its Start on
abbrev pub own : Slot → ℕ
own Select = 0
own High = 0
own Low = 0
own Data = 0
own Poll = 1
own Turn = 0
own Take = 0

-- Starts and Stops of the part under way
abbrev pub marks : Slot → ℕ
marks Select = 1
marks High = 1
marks Low = 1
marks Data = 1
marks Poll = 2
marks Turn = 2
marks Take = 2

abbrev pub clocks_at : Phase → Request → Counts → ℕ
clocks_at Ready r c = 9 * (heads r c.seen + c.at + c.polls)
clocks_at (Bits s b) r c = 9 * (heads r c.seen + lead r s + c.at + (c.polls - own s)) + b
clocks_at (Heard s) r c = 9 * (heads r c.seen + led r s + c.at + c.polls)
clocks_at Rest r c = 9 * (heads r c.seen + (1 + A r) + c.at + c.polls)
clocks_at (Over f) r c = 0

abbrev pub ends_at : Phase → Request → Counts → ℕ
ends_at Ready r c = ends r c.seen + c.polls
ends_at (Bits s b) r c = ends r c.seen + c.polls + marks s
ends_at (Heard s) r c = ends r c.seen + c.polls + marks s
ends_at Rest r c = ends r c.seen + c.polls + 2
ends_at (Over f) r c = 0

abbrev pub over : Phase → Bool
over Ready = false
over (Bits s b) = false
over (Heard s) = false
over Rest = false
over (Over f) = true

-- whether the number of Stops so far is odd
abbrev slot_odd : Slot → Bool
slot_odd Select = false
slot_odd High = false
slot_odd Low = false
slot_odd Data = false
slot_odd Poll = true
slot_odd Turn = false
slot_odd Take = false

abbrev pub odd_at : Phase → Request → Counts → Bool
odd_at Ready r c = r.reads && not (eqb c.at 0)
odd_at (Bits s b) r c = slot_odd s
odd_at (Heard s) r c = slot_odd s
odd_at Rest r c = true
odd_at (Over AtSelect) r c = true
odd_at (Over AtHigh) r c = true
odd_at (Over AtLow) r c = true
odd_at (Over AtData) r c = true
odd_at (Over AtPolls) r c = false

abbrev pub turn : Bool → ℕ → Bool
turn odd e = cond (eqb e 3) (not odd) odd

-- ---- one event more
pub record Grow (p : Phase) (r : Request) (c : Counts) (m : Move) (e : ℕ) : Type 0 where
  pub polls : m.counts.polls ≡ c.polls + cond (odd_at p r c && eqb e 2) 1 0
  pub odd : odd_at m.phase r m.counts ≡ turn (odd_at p r c) e
  pub clocks : over m.phase ≡ false → clocks_at m.phase r m.counts ≡ clocks_at p r c + cond (ltb e 2) 1 0
  pub ends : over m.phase ≡ false → ends_at m.phase r m.counts + cond (ltb e 2) 1 0 ≡ ends_at p r c + 1

abbrev pub Grown : Phase → Request → Counts → Move → Answer → Type 0
Grown p r c m (Send e) = Grow p r c m e
Grown p r c m (Done polls bytes) = (m.phase ≡ p) × (m.counts ≡ c)
Grown p r c m (Refused f polls bytes) = (m.phase ≡ p) × (m.counts ≡ c)

pub bit_lt : (v i : ℕ) → bit_of v i < 2
unfolding bit_of
bit_lt v i = branch (λ (x : ℕ). x < 2) (ltb i 8) (λ e. mod-lt _ (omega arith)) (λ e. omega arith)

-- a clock is no poll, and turns nothing
clock_one : (v : ℕ) → v < 2 → cond {A = ℕ} (ltb v 2) 1 0 ≡ 1
clock_one v h = simp (lt-ltb v 2 h)

clock_none : (v : ℕ) (h : Bool) → v < 2 → cond {A = ℕ} (h && eqb v 2) 1 0 ≡ 0
clock_none v true l = simp (ne_eqb v 2 (λ e. omega arith))
clock_none v false l = refl

clock_turn : (v : ℕ) (h : Bool) → v < 2 → turn h v ≡ h
clock_turn v h l = simp (ne_eqb v 3 (λ e. omega arith))

ninth_lt : (b : Bool) → cond {A = ℕ} b 1 0 < 2
ninth_lt true = omega arith
ninth_lt false = omega arith

pub two_bytes : (r : Request) → wide r ≡ true → A r ≡ 2
unfolding address_bytes_of
two_bytes r e = ap (λ (t : Bool). cond {A = ℕ} t 2 1) e

pub one_byte : (r : Request) → wide r ≡ false → A r ≡ 1
unfolding address_bytes_of
one_byte r e = ap (λ (t : Bool). cond {A = ℕ} t 2 1) e

module _ (r : Request) where
  -- a page more is done
  page_heads : (a s t q : ℕ) → r.reads ≡ false → Common r a s t q → Closed r a s → (heads r a ≡ heads r s + (1 + A r)) × (ends r a ≡ ends r s + 3)
  page_heads a s t q w k e =
      let x = e.some in
      let y = e.end in
      let l = k.low in
      let z = k.pages in
      let j = left_cut r s (omega arith) ∙ ap (λ (i : ℕ). suc (left_of r i)) (sym y) in
      let d : D r a ≡ D r s + 1 = omega arith in
      simp w (omega (arith, ap (λ (i : ℕ). i * (1 + A r)) d), omega arith)

  -- a read is done
  read_heads : (a s : ℕ) → r.reads ≡ true → 0 < a → s ≡ 0 → (heads r a ≡ heads r s + (2 + A r)) × (ends r a ≡ ends r s + 3)
  read_heads a s w o z = simp (w, z, ne_eqb a 0 (λ e. omega arith)) (omega arith, omega arith)

  module _ (c : Counts) where
    -- a clock
    clocked : (p : Phase) (m : Move) (e : ℕ) → e < 2 → m.counts.polls ≡ c.polls → odd_at m.phase r m.counts ≡ odd_at p r c → clocks_at m.phase r m.counts ≡ clocks_at p r c + 1 → ends_at m.phase r m.counts ≡ ends_at p r c → Grow p r c m e
    clocked p m e h q o k d =
        let one = clock_one e h in
        record { polls = omega (arith, clock_none e (odd_at p r c) h); odd = o ∙ sym (clock_turn e (odd_at p r c) h); clocks = λ f. omega arith; ends = λ f. omega arith }

    -- a Stop after which it is refused
    gives_up : (p : Phase) (f : Failed) → odd_at (Over f) r c ≡ not (odd_at p r c) → Grow p r c (record { answer = Send 3; phase = Over f; counts = c }) 3
    gives_up p f o = record { polls = none (odd_at p r c); odd = o; clocks = λ e. absurd (false≢true (sym e)); ends = λ e. absurd (false≢true (sym e)) }
      where
        none : (h : Bool) → c.polls ≡ c.polls + cond {A = ℕ} (h && false) 1 0
        none true = omega arith
        none false = omega arith

  -- a select or address byte stands before a part's data, and its Stop is one more
  nack_odd : (s : Slot) (c : Counts) → leads s ≡ true → odd_at (Over (missed_at s)) r c ≡ not (slot_odd s)
  nack_odd Select c e = refl
  nack_odd High c e = refl
  nack_odd Low c e = refl
  nack_odd Data c e = absurd (false≢true e)
  nack_odd Poll c e = absurd (false≢true e)
  nack_odd Turn c e = refl
  nack_odd Take c e = absurd (false≢true e)

  ready_even : (c : Counts) → Inv r Ready c → (c.at ≡ r.length → ⊥) → odd_at Ready r c ≡ false
  ready_even c v n = go r.reads refl
    where
      go : (b : Bool) → r.reads ≡ b → (b && not (eqb c.at 0)) ≡ false
      go true e = ap not (eq-eqb c.at 0 (v.here.whole e n))
      go false e = refl

  read_odd : (b : Bool) (a : ℕ) → b ≡ true → 0 < a → (b && not (eqb a 0)) ≡ true
  read_odd true a e h = ap not (ne_eqb a 0 (λ z. omega arith))
  read_odd false a e h = absurd (false≢true e)

  both_no : (b c : Bool) → b ≡ false → (b && c) ≡ false
  both_no true c e = absurd (false≢true (sym e))
  both_no false c e = refl

  pub grow : {c : Counts} {l : ℕ} {xs ys : List ℕ} {p : Phase} {m : Move} → Inv r p c → Way r c l xs p m ys → Grown p r c m m.answer
  grow v (w_done e) = (refl, refl)
  grow {c} v (w_open n) =
      let o = ready_even c v n in
      record { polls = simp o (omega arith); odd = sym o; clocks = λ f. omega arith; ends = λ f. omega arith }
  grow {c} {l} {xs} v (w_bit s b h) =
      let e = clock_of r c xs s b in
      taken_elim (λ (t : Counts). Grow (Bits s b) r c (send_then e (Bits s (b + 1)) t) e) s c l
      (λ x. clocked c (Bits s b) (send_then e (Bits s (b + 1)) (with_byte c x)) e (bit_lt (slot_byte_of (wire_of (at r Ready c) (get_or xs c.at 0)) s) b) refl refl (omega arith) refl)
  grow {c} v (w_ninth Select b e h) = clocked c (Bits Select b) _ 1 (omega arith) refl refl (omega arith) refl
  grow {c} v (w_ninth High b e h) = clocked c (Bits High b) _ 1 (omega arith) refl refl (omega arith) refl
  grow {c} v (w_ninth Low b e h) = clocked c (Bits Low b) _ 1 (omega arith) refl refl (omega arith) refl
  grow {c} v (w_ninth Data b e h) = clocked c (Bits Data b) _ 1 (omega arith) refl refl (omega arith) refl
  grow {c} v (w_ninth Poll b e h) =
      let i = v.here.1 in
      let k = v.common.some in
      clocked c (Bits Poll b) _ 1 (omega arith) refl refl (omega arith) refl
  grow {c} v (w_ninth Turn b e h) = clocked c (Bits Turn b) _ 1 (omega arith) refl refl (omega arith) refl
  grow v (w_ninth Take b e h) = absurd (false≢true (sym e))
  grow {c} v (w_got b e h) = clocked c (Bits Take b) _ _ (ninth_lt (eqb (c.at + 1) r.length)) refl refl (omega arith) refl
  grow {c} v (w_nack s e h) = gives_up c (Heard s) (missed_at s) (nack_odd s c e)
  grow {c} v (w_high z e) = clocked c (Heard Select) _ _ (bit_lt _ 0) refl refl (omega arith) refl
  grow {c} v (w_only z e) = let k = one_byte r e in clocked c (Heard Select) _ _ (bit_lt _ 0) refl refl (omega arith) refl
  grow {c} v (w_low z) = let k = two_bytes r v.here.1 in clocked c (Heard High) _ _ (bit_lt _ 0) refl refl (omega arith) refl
  grow {c} v (w_turn z e) = record { polls = omega arith; odd = refl; clocks = λ f. omega arith; ends = λ f. omega arith }
  grow {c} v (w_data z e) = clocked c (Heard Low) _ _ (bit_lt _ 0) refl refl (omega arith) refl
  grow {c} v (w_more z n) = clocked c (Heard Data) _ _ (bit_lt _ 0) refl refl (omega arith) refl
  grow {c} v (w_close z e) = record { polls = omega arith; odd = refl; clocks = λ f. omega arith; ends = λ f. omega arith }
  grow {c} v (w_drop z) = gives_up c (Heard Data) AtData refl
  grow {c} v w_poll = record { polls = omega arith; odd = refl; clocks = λ f. omega arith; ends = λ f. omega arith }
  grow {c} v (w_again z o) = record { polls = omega arith; odd = refl; clocks = λ f. omega arith; ends = λ f. omega arith }
  grow {c} v (w_give z o) = gives_up c (Heard Poll) AtPolls refl
  grow {c} v (w_page z) =
      let w = not_yes r.reads v.right in
      let (h, d) = page_heads c.at c.seen c.tries c.polls w v.common v.here.0 in
      record { polls = omega arith; odd = both_no r.reads (not (eqb c.at 0)) w; clocks = λ f. omega arith; ends = λ f. omega arith }
  grow {c} v (w_take z) = clocked c (Heard Turn) _ _ (bit_lt _ 0) refl refl (omega arith) refl
  grow {c} v (w_next n) = clocked c (Heard Take) _ _ (bit_lt _ 0) refl refl (omega arith) refl
  grow {c} v (w_end e) =
      let (h, d) = read_heads c.at c.seen v.right v.here.1 v.here.0.zero in
      record { polls = omega arith; odd = read_odd r.reads c.at v.right v.here.1; clocks = λ f. omega arith; ends = λ f. omega arith }
  grow v (w_over f) = (refl, refl)
