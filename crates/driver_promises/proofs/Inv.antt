-- What every driver on the way keeps to, by its phase.
-- Assumes nothing.
use Prim.Native.Nat.{ℕ, zero, suc, ◌+◌, ◌-◌, ◌*◌, ◌≤◌, ◌<◌}
use mathlib.Core.Path.{◌≡◌, refl, sym, ◌∙◌, ap}
use mathlib.Core.Bool.{Bool, true, false, not, false≢true}
use mathlib.Core.List.{List}
use lib.ListN.{length}
use lib.Dec.{ltb}
use borrow.Author.Tests.{ltb-true, ltb-false}
use native.Mathlib.Omega.{arith}
use native.Mathlib.Nat.{mul-le-mul_right}
use Rattle.parts.specs.Table.{facts_of}
use Rattle.parts.proofs.Laws.{sound}
use Rattle.parts.proofs.Tests.{not_yes}
use Rattle.parts.specs.Refusals.{is_fine}
use Rattle.driver.specs.declared.Request.{Request}
use Rattle.driver.specs.declared.Slot.{Slot}
use Rattle.driver.specs.declared.Slot.TheVariants.{Select, High, Low, Data, Poll, Turn, Take}
use Rattle.driver.specs.declared.Phase.{Phase}
use Rattle.driver.specs.declared.Phase.TheVariants.{Ready, Bits, Heard, Rest, Over}
use Rattle.driver.specs.declared.Counts.{Counts}
use Rattle.driver.specs.declared.Move.{Move}
use Rattle.driver.specs.Split.{pages_met_of}
use Rattle.driver.specs.Request.{from_of, judge_of, allowed_of, k_of}
use Rattle.driver.specs.Step.{with_byte, told_counts_of, clocks_of, phase_right, GoodCounts}
use Rattle.driver.proofs.Facts.{good_request}
use Rattle.driver_promises.specs.Plan.{address_at, length_of}
use Rattle.driver_promises.specs.Where.{left_of}
use Rattle.driver_promises.proofs.Split.{first-is, first_pos, pages_none, cut_first}
use Rattle.driver_promises.proofs.View.{at, leads, Room, Way, w_done, w_open, w_bit, w_ninth, w_got, w_nack, w_high, w_only, w_low, w_turn, w_data, w_more, w_close, w_drop, w_poll, w_again, w_give, w_page, w_take, w_next, w_end, w_over}

abbrev pub wide : Request → Bool
wide r = (facts_of r.part).wide

-- polls allowed for a page, and in all
abbrev pub B : Request → ℕ
B r = allowed_of r

abbrev pub all : Request → ℕ
all r = k_of r * allowed_of r

-- where the part ends that begins with byte s
abbrev pub stop : Request → ℕ → ℕ
stop r s = s + length_of r s

-- at most, and not the same
pub less : (a n : ℕ) → (a ≡ n → ⊥) → a ≤ n → a < n
less a n f h = go (ltb a n) refl
  where
    go : (t : Bool) → ltb a n ≡ t → a < n
    go true e = ltb-true a n e
    go false e = absurd (f (omega (arith, ltb-false a n e)))

-- ---- pages left
module _ (r : Request) where
  pub page_pos : 0 < (facts_of r.part).page
  page_pos = (sound r.part).page_pos

  pub left_all : left_of r 0 ≡ k_of r
  unfolding k_of
  left_all =
      let e : from_of r.place + 0 ≡ from_of r.place = omega arith in
      let f : r.length - 0 ≡ r.length = omega arith in
      ap (λ (x : ℕ). pages_met_of (facts_of r.part).page x (r.length - 0)) e ∙ ap (pages_met_of (facts_of r.part).page (from_of r.place)) f

  pub left_none : left_of r r.length ≡ 0
  left_none =
      let f : r.length - r.length ≡ 0 = omega arith in
      ap (pages_met_of (facts_of r.part).page (from_of r.place + r.length)) f ∙ pages_none (facts_of r.part).page (from_of r.place + r.length)

  pub left_cut : (s : ℕ) → s < r.length → left_of r s ≡ suc (left_of r (stop r s))
  left_cut s h =
      let P = (facts_of r.part).page in
      let m = length_of r s in
      let e : from_of r.place + s + m ≡ from_of r.place + (s + m) = omega arith in
      let f : r.length - s - m ≡ r.length - (s + m) = omega arith in
      cut_first P (address_at r s) (r.length - s) page_pos (omega arith)
      ∙ (ap (λ (x : ℕ). suc (pages_met_of P x (r.length - s - m))) e ∙ ap (λ (x : ℕ). suc (pages_met_of P (from_of r.place + (s + m)) x)) f)

  pub stop_most : (s : ℕ) → s ≤ r.length → stop r s ≤ r.length
  stop_most s h = omega (arith, (first-is (facts_of r.part).page (address_at r s) (r.length - s) page_pos).low)

  pub stop_more : (s : ℕ) → s < r.length → s < stop r s
  stop_more s h = omega (arith, first_pos (facts_of r.part).page (address_at r s) (r.length - s) page_pos (omega arith))

-- ---- by the counts: a bytes sent or got, s seen to be done, t polls for this page, q in all
pub record Common (r : Request) (a s t q : ℕ) : Type 0 where
  pub low : a ≤ r.length
  pub seen : s ≤ a
  pub tries : t ≤ B r
  pub some : t ≤ q
  pub most : q ≤ all r
  pub spent : q + left_of r s * B r ≤ all r + t
  pub pages : left_of r s ≤ k_of r

pub record Home (r : Request) (a s t : ℕ) : Type 0 where
  pub same : s ≡ a
  pub none : t ≡ 0
  pub whole : r.reads ≡ true → (a ≡ r.length → ⊥) → a ≡ 0

pub record Head (r : Request) (a s t : ℕ) : Type 0 where
  pub same : s ≡ a
  pub more : a < r.length
  pub none : t ≡ 0
  pub first : r.reads ≡ true → a ≡ 0

-- in a data byte
pub record Fill (r : Request) (a s t : ℕ) : Type 0 where
  pub begun : s < r.length
  pub more : a < stop r s
  pub none : t ≡ 0

-- after a data byte
pub record Filled (r : Request) (a s t : ℕ) : Type 0 where
  pub some : s < a
  pub most : a ≤ stop r s
  pub none : t ≡ 0

-- all data of the part are sent
pub record Closed (r : Request) (a s : ℕ) : Type 0 where
  pub some : s < a
  pub end : a ≡ stop r s

-- bytes are read
pub record Got (r : Request) (s t : ℕ) : Type 0 where
  pub zero : s ≡ 0
  pub none : t ≡ 0

abbrev pub In : Slot → Request → Counts → Type 0
In Select r c = Head r c.at c.seen c.tries
In High r c = Head r c.at c.seen c.tries × (wide r ≡ true)
In Low r c = Head r c.at c.seen c.tries
In Data r c = Fill r c.at c.seen c.tries
In Poll r c = Closed r c.at c.seen × (1 ≤ c.tries)
In Turn r c = Head r c.at c.seen c.tries
In Take r c = Got r c.seen c.tries × (c.at < r.length)

abbrev pub After : Slot → Request → Counts → Type 0
After Select r c = Head r c.at c.seen c.tries
After High r c = Head r c.at c.seen c.tries × (wide r ≡ true)
After Low r c = Head r c.at c.seen c.tries
After Data r c = Filled r c.at c.seen c.tries
After Poll r c = Closed r c.at c.seen × (1 ≤ c.tries)
After Turn r c = Head r c.at c.seen c.tries
After Take r c = Got r c.seen c.tries × (0 < c.at)

abbrev pub Here : Phase → Request → Counts → Type 0
Here Ready r c = Home r c.at c.seen c.tries
Here (Bits s b) r c = In s r c
Here (Heard s) r c = After s r c
Here Rest r c = Closed r c.at c.seen × (c.tries ≡ 0)
-- a read is refused before it got a byte
Here (Over f) r c = r.reads ≡ true → c.seen ≡ 0

pub record Inv (r : Request) (p : Phase) (c : Counts) : Type 0 where
  pub good : is_fine (judge_of r) ≡ true
  pub right : phase_right p r.reads ≡ true
  pub bits : clocks_of p ≤ 8
  pub common : Common r c.at c.seen c.tries c.polls
  pub here : Here p r c

-- it is in range
pub in_range : (r : Request) (p : Phase) (c : Counts) (n : ℕ) → n ≡ r.length → Inv r p c → GoodCounts (at r p c) n
in_range r p c n e v =
    let k = v.common in
    record { right = v.right; count = e; at = omega arith; seen = k.seen; bits = v.bits; tries = k.tries; polls = k.most }

pub room_in : (p : Phase) (r : Request) (c : Counts) → Inv r p c → Room p r c
room_in Ready r c v = tt
room_in (Bits Select b) r c v = tt
room_in (Bits High b) r c v = tt
room_in (Bits Low b) r c v = tt
room_in (Bits Data b) r c v = tt
room_in (Bits Poll b) r c v = tt
room_in (Bits Turn b) r c v = tt
room_in (Bits Take b) r c v = v.here.1
room_in (Heard s) r c v = tt
room_in Rest r c v = tt
room_in (Over f) r c v = tt

-- a level told inside a byte changes no count
pub taken_elim : (Q : Counts → Type 0) (s : Slot) (c : Counts) (l : ℕ) → ((x : ℕ) → Q (with_byte c x)) → Q (told_counts_of s c l)
taken_elim Q Select c l f = f c.byte
taken_elim Q High c l f = f c.byte
taken_elim Q Low c l f = f c.byte
taken_elim Q Data c l f = f c.byte
taken_elim Q Poll c l f = f c.byte
taken_elim Q Turn c l f = f c.byte
taken_elim Q Take c l f = f _

in_byte : (s : Slot) (r : Request) (c : Counts) (x : ℕ) → In s r c → In s r (with_byte c x)
in_byte Select r c x v = v
in_byte High r c x v = v
in_byte Low r c x v = v
in_byte Data r c x v = v
in_byte Poll r c x v = v
in_byte Turn r c x v = v
in_byte Take r c x v = v

-- the polls that a part may still take are there
room_polls : (r : Request) (a s t q : ℕ) → Common r a s t q → s < r.length → t < B r → q + 1 ≤ all r
room_polls r a s t q k h o =
    let e = left_cut r s h in
    let m : 1 ≤ left_of r s = omega arith in
    let u = k.spent in
    omega (arith, mul-le-mul_right (B r) m)

module _ (r : Request) where
  one_poll : (p : Phase) (c : Counts) → Inv r p c → c.seen < r.length → c.tries < B r → Common r c.at c.seen (c.tries + 1) (c.polls + 1)
  one_poll p c v h o =
      let k = v.common in
      let u = k.spent in
      record { low = k.low; seen = k.seen; tries = omega arith; some = omega (arith, k.some); most = room_polls r c.at c.seen c.tries c.polls k h o; spent = omega arith; pages = k.pages }

  -- a page is done
  page_done : (a s t q : ℕ) → Common r a s t q → Closed r a s → Common r a a 0 q
  page_done a s t q k e =
      let x = e.some in
      let y = e.end in
      let l = k.low in
      let j = left_cut r s (omega arith) ∙ ap (λ (i : ℕ). suc (left_of r i)) (sym y) in
      let u = k.spent in
      let w = k.tries in
      let z = k.pages in
      record { low = k.low; seen = omega arith; tries = omega arith; some = omega arith; most = k.most; spent = omega (arith, ap (λ (i : ℕ). i * B r) j); pages = omega arith }

  -- a read is done
  read_done : (a s t q : ℕ) → Common r a s t q → a ≡ r.length → Common r a a 0 q
  read_done a s t q k e =
      let j = ap (left_of r) e ∙ left_none r in
      record { low = k.low; seen = omega arith; tries = omega arith; some = omega arith; most = k.most; spent = omega (arith, k.most, ap (λ (i : ℕ). i * B r) j); pages = omega arith }

  lead_zero : (s : Slot) (c : Counts) → leads s ≡ true → After s r c → r.reads ≡ true → c.seen ≡ 0
  lead_zero Select c e h w = h.same ∙ h.first w
  lead_zero High c e h w = h.0.same ∙ h.0.first w
  lead_zero Low c e h w = h.same ∙ h.first w
  lead_zero Data c e h w = absurd (false≢true e)
  lead_zero Poll c e h w = absurd (false≢true e)
  lead_zero Turn c e h w = h.same ∙ h.first w
  lead_zero Take c e h w = absurd (false≢true e)

  abbrev Goes : Move → Type 0
  Goes m = Inv r m.phase m.counts

  pub inv_step : {c : Counts} {l : ℕ} {xs ys : List ℕ} {p : Phase} {m : Move} → Inv r p c → Way r c l xs p m ys → Goes m
  inv_step v (w_done e) = v
  inv_step {c} v (w_open n) =
      let h = v.here in
      record {
        good = v.good;
        right = refl;
        bits = omega arith;
        common = v.common;
        here = record { same = h.same; more = less c.at r.length n v.common.low; none = h.none; first = λ e. h.whole e n };
      }
  inv_step {c} {l} v (w_bit s b h) =
      taken_elim (λ (t : Counts). Inv r (Bits s (b + 1)) t) s c l
      (λ x. record { good = v.good; right = v.right; bits = omega arith; common = v.common; here = in_byte s r c x v.here })
  inv_step v (w_ninth Select b e h) = record { good = v.good; right = v.right; bits = omega arith; common = v.common; here = v.here }
  inv_step v (w_ninth High b e h) = record { good = v.good; right = v.right; bits = omega arith; common = v.common; here = v.here }
  inv_step v (w_ninth Low b e h) = record { good = v.good; right = v.right; bits = omega arith; common = v.common; here = v.here }
  inv_step {c} v (w_ninth Data b e h) =
      let k = v.common in
      let i = v.here in
      let z = i.more in
      let o = i.begun in
      record {
        good = v.good;
        right = v.right;
        bits = omega arith;
        common = record { low = omega (arith, stop_most r c.seen (omega arith)); seen = omega (arith, k.seen); tries = k.tries; some = k.some; most = k.most; spent = k.spent; pages = k.pages };
        here = record { some = omega (arith, k.seen); most = omega arith; none = i.none };
      }
  inv_step v (w_ninth Poll b e h) = record { good = v.good; right = v.right; bits = omega arith; common = v.common; here = v.here }
  inv_step v (w_ninth Turn b e h) = record { good = v.good; right = v.right; bits = omega arith; common = v.common; here = v.here }
  inv_step v (w_ninth Take b e h) = absurd (false≢true (sym e))
  inv_step {c} v (w_got b e h) =
      let k = v.common in
      record {
        good = v.good;
        right = v.right;
        bits = omega arith;
        common = record { low = omega arith; seen = omega (arith, k.seen); tries = k.tries; some = k.some; most = k.most; spent = k.spent; pages = k.pages };
        here = (v.here.0, omega arith);
      }
  inv_step {c} v (w_nack s e h) = record { good = v.good; right = refl; bits = omega arith; common = v.common; here = lead_zero s c e v.here }
  inv_step v (w_high z e) = record { good = v.good; right = refl; bits = omega arith; common = v.common; here = (v.here, e) }
  inv_step v (w_only z e) = record { good = v.good; right = refl; bits = omega arith; common = v.common; here = v.here }
  inv_step v (w_low z) = record { good = v.good; right = refl; bits = omega arith; common = v.common; here = v.here.0 }
  inv_step v (w_turn z e) = record { good = v.good; right = e; bits = omega arith; common = v.common; here = v.here }
  inv_step {c} v (w_data z e) =
      let h = v.here in
      let m = h.more in
      let y = h.same in
      record {
        good = v.good;
        right = ap not e;
        bits = omega arith;
        common = v.common;
        here = record { begun = omega arith; more = omega (arith, stop_more r c.seen (omega arith)); none = h.none };
      }
  inv_step {c} v (w_more z n) =
      let h = v.here in
      let o = h.some in
      let k = v.common in
      let y = k.low in
      record {
        good = v.good;
        right = v.right;
        bits = omega arith;
        common = v.common;
        here = record { begun = omega arith; more = less c.at (stop r c.seen) n h.most; none = h.none };
      }
  inv_step v (w_close z e) = let h = v.here in record { good = v.good; right = v.right; bits = omega arith; common = v.common; here = (record { some = h.some; end = e }, h.none) }
  inv_step v (w_drop z) = record { good = v.good; right = refl; bits = omega arith; common = v.common; here = λ t. absurd (false≢true (sym (not_yes r.reads v.right) ∙ t)) }
  inv_step {c} {p = p} v w_poll =
      let h = v.here.0 in
      let o = h.some in
      let z = v.here.1 in
      let k = v.common.low in
      let g = (good_request r v.good).low (not_yes r.reads v.right) in
      record {
        good = v.good;
        right = v.right;
        bits = omega arith;
        common = one_poll p c v (omega arith) (omega arith);
        here = (h, omega arith);
      }
  inv_step {c} {p = p} v (w_again z o) =
      let h = v.here.0 in
      let i = h.some in
      let k = v.common.low in
      record {
        good = v.good;
        right = v.right;
        bits = omega arith;
        common = one_poll p c v (omega arith) o;
        here = (h, omega arith);
      }
  inv_step v (w_give z o) = record { good = v.good; right = refl; bits = omega arith; common = v.common; here = λ t. absurd (false≢true (sym (not_yes r.reads v.right) ∙ t)) }
  inv_step {c} v (w_page z) =
      let n = not_yes r.reads v.right in
      record {
        good = v.good;
        right = refl;
        bits = omega arith;
        common = page_done c.at c.seen c.tries c.polls v.common v.here.0;
        here = record { same = refl; none = refl; whole = λ e f. absurd (false≢true (sym n ∙ e)) };
      }
  inv_step {c} v (w_take z) =
      let h = v.here in
      let f = h.first v.right in
      let m = h.more in
      let y = h.same in
      record { good = v.good; right = v.right; bits = omega arith; common = v.common; here = (record { zero = omega arith; none = h.none }, m) }
  inv_step {c} v (w_next n) =
      record { good = v.good; right = v.right; bits = omega arith; common = v.common; here = (v.here.0, less c.at r.length n v.common.low) }
  inv_step {c} v (w_end e) =
      record {
        good = v.good;
        right = refl;
        bits = omega arith;
        common = read_done c.at c.seen c.tries c.polls v.common e;
        here = record { same = refl; none = refl; whole = λ t f. absurd (f e) };
      }
  inv_step v (w_over f) = v
