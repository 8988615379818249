-- The events so far as a list written out from the state, each way adds its event at the end; and the levels told for them.
-- Assumes nothing.
use Prim.Native.Nat.{ℕ, zero, suc, ◌+◌, ◌-◌, ◌%◌, ◌≤◌, ◌<◌}
use mathlib.Core.Path.{◌≡◌, refl, sym, ◌∙◌, ap, subst}
use mathlib.Core.Bool.{Bool, true, false, cond, false≢true}
use mathlib.Core.List.{List, [], ◌∷◌, ◌++◌, append-nil}
use lib.ListN.{length, get_or, length-append}
use lib.Dec.{eqb}
use native.Mathlib.Omega.{arith}
use native.Mathlib.Numerals.{add-one}
use borrow.Author.Tests.{eq-eqb, ne_eqb}
use Rattle.parts.specs.declared.Refusal.{Refusal}
use Rattle.parts.specs.declared.Refusal.TheVariants.{NoData, PollsUsed}
use Rattle.driver.specs.declared.Request.{Request}
use Rattle.driver.specs.declared.Slot.{Slot}
use Rattle.driver.specs.declared.Slot.TheVariants.{Select, High, Low, Data, Poll, Turn, Take}
use Rattle.driver.specs.declared.Failed.{Failed}
use Rattle.driver.specs.declared.Failed.TheVariants.{AtData, AtPolls}
use Rattle.driver.specs.declared.Phase.{Phase}
use Rattle.driver.specs.declared.Phase.TheVariants.{Ready, Bits, Heard, Rest, Over}
use Rattle.driver.specs.declared.Counts.{Counts}
use Rattle.driver.specs.declared.Move.{Move}
use Rattle.driver.specs.Split.{sum}
use Rattle.driver.specs.Request.{allowed_of}
use Rattle.driver.specs.Step.{wire_of, slot_byte_of, bit_of, last_address_of, refusal_of, with_byte, with_next, page_at}
use Rattle.driver_promises.specs.Run.{sent_by}
use Rattle.driver_promises.specs.Plan.{then_start, then_stop, then_bits, then_byte, then_polls, then_data, then_taken, select_of, address_at, then_select, then_high, then_head, length_of, then_part, then_parts, parts_end_of, read_plan}
use Rattle.driver_promises.specs.Heard.{PollsMissed, HighAcked, HeadAcked, FilledAcked, PartTold, ReadTold, TurnAcked}
use Rattle.driver_promises.specs.Where.{left_of, Within, Parts, Before, RefusedByte, the_select, the_first, the_only, the_second, the_turn, the_data, the_poll, Stopped}
use Rattle.driver_promises.proofs.View.{at, clock_of, leads, missed_at, Way, w_done, w_open, w_bit, w_ninth, w_got, w_nack, w_high, w_only, w_low, w_turn, w_data, w_more, w_close, w_drop, w_poll, w_again, w_give, w_page, w_take, w_next, w_end, w_over}
use Rattle.driver_promises.proofs.Inv.{wide, stop, left_cut, Closed, After, Inv, taken_elim}
use Rattle.driver_promises.proofs.Levels.{longer, missed_more, acked_now, missed_now, before_more, byte_more, ToldFar, in_more, filled_next, missed_next, told_more}
use Rattle.parts.proofs.Tests.{not_yes}

-- ---- the events before the byte of a slot, after it, and at a phase; past: those before the part
module _ (r : Request) (xs past : List ℕ) (a s t : ℕ) where
  abbrev filled : List ℕ
  filled = then_data (then_head r past s) xs s (a - s)

  abbrev pub before : Slot → List ℕ
  before Select = then_start past
  before High = then_select r past s
  before Low = then_high r (wide r) past s
  before Data = filled
  before Poll = then_start (then_polls (then_stop filled) (select_of r s) (t - 1))
  before Turn = then_start (then_head r past s)
  before Take = then_taken (then_byte (then_start (then_head r past s)) (select_of r s + 1) 1) r.length a

  abbrev pub after : Slot → List ℕ
  after Select = then_select r past s
  after High = then_high r true past s
  after Low = then_head r past s
  after Data = filled
  after Poll = then_polls (then_stop filled) (select_of r s) t
  after Turn = then_byte (then_start (then_head r past s)) (select_of r s + 1) 1
  after Take = then_taken (then_byte (then_start (then_head r past s)) (select_of r s + 1) 1) r.length a

-- the byte of a slot
abbrev pub sends : Request → List ℕ → Counts → Slot → ℕ
sends r xs c s = slot_byte_of (wire_of (at r Ready c) (get_or xs c.at 0)) s

abbrev pub so_far : Phase → Request → List ℕ → List ℕ → Counts → List ℕ
so_far Ready r xs past c = past
so_far (Bits s b) r xs past c = then_bits (before r xs past c.at c.seen c.tries s) (sends r xs c s) b
so_far (Heard s) r xs past c = after r xs past c.at c.seen c.tries s
so_far Rest r xs past c = then_stop (filled r xs past c.at c.seen c.tries)
so_far (Over f) r xs past c = []

pub record Trail (r : Request) (p : Phase) (c : Counts) (xs es ls : List ℕ) : Type 0 where
  pub past : List ℕ
  pub spent : ℕ
  pub sum : spent + c.tries ≡ c.polls
  pub parts : Before r.reads r xs ls c.seen spent past
  pub events : es ≡ so_far p r xs past c
  pub levels : ToldFar p ls r xs past c

-- by phase: the list, or where it was refused; and, until it is finished, one event for each level
abbrev pub Told : Phase → Request → Counts → List ℕ → List ℕ → List ℕ → Type 0
Told Ready r c xs es ls = Trail r Ready c xs es ls × ((c.at ≡ r.length → ⊥) → length es ≡ length ls)
Told (Bits s b) r c xs es ls = Trail r (Bits s b) c xs es ls × (length es ≡ length ls)
Told (Heard s) r c xs es ls = Trail r (Heard s) c xs es ls × (length es ≡ length ls)
Told Rest r c xs es ls = Trail r Rest c xs es ls × (length es ≡ length ls)
Told (Over f) r c xs es ls = Stopped r xs (refusal_of r c f) c.seen c.polls es ls

-- ---- one part more
parts_more : (r : Request) (xs es : List ℕ) (o q : ℕ) (qs : List ℕ) → then_parts r es xs o (qs ++ (q ∷ [])) ≡ then_part r (then_parts r es xs o qs) xs (parts_end_of r o qs) q
parts_more r xs es o q [] = refl
parts_more r xs es o q (x ∷ qs) = parts_more r xs (then_part r es xs o x) (o + length_of r o) q qs

bytes_more : (r : Request) (o q : ℕ) (qs : List ℕ) → parts_end_of r o (qs ++ (q ∷ [])) ≡ stop r (parts_end_of r o qs)
bytes_more r o q [] = refl
bytes_more r o q (x ∷ qs) = bytes_more r (o + length_of r o) q qs

sum_more : (q : ℕ) (qs : List ℕ) → sum (qs ++ (q ∷ [])) ≡ sum qs + q
sum_more q [] = omega arith
sum_more q (x ∷ qs) = omega (arith, sum_more q qs)

within_more : (most q : ℕ) (qs : List ℕ) → Within most qs → 1 ≤ q → q ≤ most → Within most (qs ++ (q ∷ []))
within_more most q [] v h l = (h, l, tt)
within_more most q (x ∷ qs) v h l = (v.0, v.1, within_more most q qs v.2 h l)

module _ (r : Request) (xs ls past : List ℕ) (a s t q : ℕ) (some : 1 ≤ t) (most : t ≤ allowed_of r) where
  one_part : a ≤ r.length → Closed r a s → PartTold ls r past xs s t → Parts r xs ls s q past → Parts r xs ls a (q + t) (then_part r past xs s t)
  one_part l e h v =
      let x = e.some in
      let y = e.end in
      let j = left_cut r s (omega arith) ∙ ap (λ (i : ℕ). suc (left_of r i)) (sym y) in
      let n = length-append v.each (t ∷ []) in
      let g = v.pages in
      let u = v.polled in
      record {
        each = v.each ++ (t ∷ []);
        ends = bytes_more r 0 t v.each ∙ (ap (stop r) v.ends ∙ sym y);
        pages = omega arith;
        polled = omega (arith, sum_more t v.each);
        within = within_more (allowed_of r) t v.each v.within some most;
        events = ap (λ (z : List ℕ). then_part r z xs s t) v.events ∙ (ap (λ (o : ℕ). then_part r (then_parts r [] xs 0 v.each) xs o t) (sym v.ends) ∙ sym (parts_more r xs [] 0 t v.each));
        levels =
            told_more ls r xs [] 0 t v.each v.levels
            (subst (λ (z : List ℕ). PartTold ls r z xs (parts_end_of r 0 v.each) t) v.events (subst (λ (o : ℕ). PartTold ls r past xs o t) (sym v.ends) h));
      }

  part_before : (b : Bool) → b ≡ false → a ≤ r.length → Closed r a s → PartTold ls r past xs s t → Before b r xs ls s q past → Before b r xs ls a (q + t) (then_part r past xs s t)
  part_before true e l k h v = absurd (false≢true (sym e))
  part_before false e l k h v = one_part l k h v

-- a read does not look at the buffer
buffer_free : (b : Bool) (r : Request) (xs ys ls past : List ℕ) (s q : ℕ) → b ≡ true → Before b r xs ls s q past → Before b r ys ls s q past
buffer_free true r xs ys ls past s q e v = v
buffer_free false r xs ys ls past s q e v = absurd (false≢true e)

pub read_before : (b : Bool) (r : Request) (xs ls past : List ℕ) (s q : ℕ) → b ≡ true → s ≡ 0 → Before b r xs ls s q past → past ≡ []
read_before true r xs ls past s q e z v = v.0 ∙ simp (eq-eqb s 0 z)
read_before false r xs ls past s q e z v = absurd (false≢true e)

read_after : (b : Bool) (r : Request) (xs ls : List ℕ) (a q : ℕ) → b ≡ true → 0 < a → ReadTold ls r → Before b r xs ls a q (read_plan r)
read_after true r xs ls a q e z h = (sym (simp (ne_eqb a 0 (λ k. omega arith))), λ _. h)
read_after false r xs ls a q e z h = absurd (false≢true e)

-- ---- lists
len_more : (es ls : List ℕ) (e l : ℕ) → length es ≡ length ls → length (es ++ (e ∷ [])) ≡ length (ls ++ (l ∷ []))
len_more es ls e l h = omega (arith, length-append es (e ∷ []), length-append ls (l ∷ []))

bits_more : (es : List ℕ) (v b : ℕ) → then_bits es v (b + 1) ≡ then_bits es v b ++ (bit_of v b ∷ [])
bits_more es v b = ap (then_bits es v) (add-one b)

bits_all : (es : List ℕ) (v b n : ℕ) → b ≡ 8 → then_byte es v n ≡ then_bits es v b ++ (n ∷ [])
bits_all es v b n e = ap (λ (k : ℕ). then_bits es v k ++ (n ∷ [])) (sym e)

data_more : (es xs : List ℕ) (s a : ℕ) → s ≤ a → then_data es xs s (a + 1 - s) ≡ then_byte (then_data es xs s (a - s)) (get_or xs a 0) 1
data_more es xs s a h =
    let e : a + 1 - s ≡ suc (a - s) = omega arith in
    let f : s + (a - s) ≡ a = omega arith in
    ap (then_data es xs s) e ∙ ap (λ (i : ℕ). then_byte (then_data es xs s (a - s)) (get_or xs i 0) 1) f

polls_more : (es : List ℕ) (v t : ℕ) → 1 ≤ t → then_polls es v t ≡ then_byte (then_start (then_polls es v (t - 1))) v 1
polls_more es v t h = let e : t ≡ suc (t - 1) = omega arith in ap (then_polls es v) e

-- ---- a step
module _ (r : Request) where
  -- what is the same before and after
  module _ (c : Counts) (l : ℕ) (xs es ls : List ℕ) where
    moves : (p p' : Phase) (c' : Counts) (e : ℕ) (v : Trail r p c xs es ls) → c'.seen ≡ c.seen → v.spent + c'.tries ≡ c'.polls → so_far p' r xs v.past c' ≡ so_far p r xs v.past c ++ (e ∷ []) → ToldFar p' (longer ls l) r xs v.past c' → Trail r p' c' xs (es ++ (e ∷ [])) (longer ls l)
    moves p p' c' e v z w h k =
        record {
          past = v.past;
          spent = v.spent;
          sum = w;
          parts = before_more ls l r r.reads xs c'.seen v.spent v.past (subst (λ (i : ℕ). Before r.reads r xs ls i v.spent v.past) (sym z) v.parts);
          events = ap (λ (y : List ℕ). y ++ (e ∷ [])) v.events ∙ sym h;
          levels = k;
        }

  -- refused at a byte
  refuse : (c : Counts) (xs es ls : List ℕ) (l byte : ℕ) (f : Refusal) (p : Phase) (bef : List ℕ) → (v : Trail r p c xs es ls) → length es ≡ length ls → 0 < l → c.seen < r.length → RefusedByte r xs ls v.past c.seen f byte bef → so_far p r xs v.past c ≡ then_byte bef byte 1 → Stopped r xs f c.seen c.polls (es ++ (3 ∷ [])) (longer ls l)
  refuse c xs es ls l byte f p bef v n o m w h =
      let k = len_more es ls 3 l n in
      record {
        short = m;
        past = v.past;
        tries = c.tries;
        spent = v.spent;
        sum = v.sum;
        parts = before_more ls l r r.reads xs c.seen v.spent v.past v.parts;
        byte = byte;
        before = bef;
        which = byte_more ls l r w;
        events = ap then_stop (v.events ∙ h);
        within = omega arith;
        level = missed_now ls l es (then_byte bef byte 1) (v.events ∙ h) n o;
      }

  -- refused, and told more levels
  stays : (f : Refusal) (c : Counts) (xs es ls : List ℕ) (l : ℕ) → Stopped r xs f c.seen c.polls es ls → Stopped r xs f c.seen c.polls es (longer ls l)
  stays f c xs es ls l v =
      let n = length-append ls (l ∷ []) in
      let w = v.within in
      record {
        short = v.short;
        past = v.past;
        tries = v.tries;
        spent = v.spent;
        sum = v.sum;
        parts = before_more ls l r r.reads xs c.seen v.spent v.past v.parts;
        byte = v.byte;
        before = v.before;
        which = byte_more ls l r v.which;
        events = v.events;
        within = omega arith;
        level = missed_more ls l (then_byte v.before v.byte 1) v.level;
      }

  -- the events and the levels after a step
  abbrev Next : Move → List ℕ → List ℕ → List ℕ → ℕ → Type 0
  Next m ys es ls l = Told m.phase r m.counts ys (es ++ sent_by m.answer) (ls ++ (l ∷ []))

  lead_short : (s : Slot) (c : Counts) → leads s ≡ true → After s r c → c.seen < r.length
  lead_short Select c e h = let m = h.more in omega (arith, h.same)
  lead_short High c e h = let m = h.0.more in omega (arith, h.0.same)
  lead_short Low c e h = let m = h.more in omega (arith, h.same)
  lead_short Data c e h = absurd (false≢true e)
  lead_short Poll c e h = absurd (false≢true e)
  lead_short Turn c e h = let m = h.more in omega (arith, h.same)
  lead_short Take c e h = absurd (false≢true e)

  lead_byte : (s : Slot) (c : Counts) (xs ls past : List ℕ) → leads s ≡ true → Inv r (Heard s) c → ToldFar (Heard s) ls r xs past c → (v : ℕ) × (bef : List ℕ) × RefusedByte r xs ls past c.seen (refusal_of r c (missed_at s)) v bef × (after r xs past c.at c.seen c.tries s ≡ then_byte bef v 1)
  lead_byte Select c xs ls past e v h = (_, _, the_select, refl)
  lead_byte High c xs ls past e v h = (_, _, the_first v.here.1 h, refl)
  lead_byte Low c xs ls past e v h = last (wide r) refl h
    where
      last : (w : Bool) → wide r ≡ w → HighAcked ls r w past c.seen → (v : ℕ) × (bef : List ℕ) × RefusedByte r xs ls past c.seen (last_address_of w (page_at r c.seen)) v bef × (then_byte (then_high r w past c.seen) (address_at r c.seen % 256) 1 ≡ then_byte bef v 1)
      last true k h = (_, _, the_second k h, refl)
      last false k h = (_, _, the_only k h, refl)
  lead_byte Data c xs ls past e v h = absurd (false≢true e)
  lead_byte Poll c xs ls past e v h = absurd (false≢true e)
  lead_byte Turn c xs ls past e v h = (_, _, the_turn v.right h, refl)
  lead_byte Take c xs ls past e v h = absurd (false≢true e)

  module _ (c : Counts) (l : ℕ) (xs es ls : List ℕ) where
    got_more : (a n : ℕ) (X : List ℕ) → then_taken X n (a + 1) ≡ then_byte (then_taken X n a) 255 (cond (eqb (a + 1) n) 1 0)
    got_more a n X = ap (then_taken X n) (add-one a)

    -- what was told before the byte was told
    abbrev Went : Counts → List ℕ → Slot → Type 0
    Went c' past s = ToldFar (Bits s 0) (longer ls l) r xs past c'

    went : (t : Slot) (past : List ℕ) → ToldFar (Bits t 0) ls r xs past c → Went c past t
    went t past h = in_more ls l r xs past c.at c.seen c.tries t h

    -- a data byte is acknowledged
    byte_acked : Inv r (Heard Data) c → (t : Told (Heard Data) r c xs es ls) → l ≡ 0 → FilledAcked (longer ls l) r t.0.past xs c.seen (c.at - c.seen)
    byte_acked v t z =
        let h = v.here.some in
        let e : c.at - c.seen ≡ suc (c.at - 1 - c.seen) = omega arith in
        filled_next ls l r xs t.0.past c.at c.seen c.tries (c.at - 1 - c.seen) e t.0.levels (acked_now ls l es _ t.0.events t.1 z)

    pub trail_step : {ys : List ℕ} {p : Phase} {m : Move} → Inv r p c → Told p r c xs es ls → Way r c l xs p m ys → Next m ys es ls l
    unfolding wire_of
    trail_step v t (w_open n) = (moves c l xs es ls Ready (Bits Select 0) c 2 t.0 refl t.0.sum refl tt, len_more es ls 2 l (t.1 n))
    trail_step v t (w_bit s b h) =
        let e = clock_of r c xs s b in
        let k = went s t.0.past t.0.levels in (
          taken_elim (λ (c' : Counts). Trail r (Bits s (b + 1)) c' xs (es ++ (e ∷ [])) (longer ls l)) s c l
              (λ x. moves c l xs es ls (Bits s b) (Bits s (b + 1)) (with_byte c x) e t.0 refl t.0.sum (bits_more (before r xs t.0.past c.at c.seen c.tries s) (sends r xs c s) b) k),
          len_more es ls e l t.1,
        )
    trail_step v t (w_ninth Select b e h) = (moves c l xs es ls (Bits Select b) (Heard Select) c 1 t.0 refl t.0.sum (bits_all _ _ b 1 h) tt, len_more es ls 1 l t.1)
    trail_step v t (w_ninth High b e h) = (moves c l xs es ls (Bits High b) (Heard High) c 1 t.0 refl t.0.sum (bits_all _ _ b 1 h) (went High t.0.past t.0.levels), len_more es ls 1 l t.1)
    trail_step v t (w_ninth Low b e h) = (moves c l xs es ls (Bits Low b) (Heard Low) c 1 t.0 refl t.0.sum (bits_all _ _ b 1 h) (went Low t.0.past t.0.levels), len_more es ls 1 l t.1)
    trail_step v t (w_ninth Data b e h) =
        let z : c.at - c.seen ≡ c.at + 1 - 1 - c.seen = omega arith in (
          moves c l xs es ls (Bits Data b) (Heard Data) _ 1 t.0 refl t.0.sum (data_more _ xs c.seen c.at v.common.seen ∙ bits_all _ _ b 1 h)
              (subst (FilledAcked (longer ls l) r t.0.past xs c.seen) z (went Data t.0.past t.0.levels)),
          len_more es ls 1 l t.1,
        )
    trail_step v t (w_ninth Poll b e h) =
        (moves c l xs es ls (Bits Poll b) (Heard Poll) c 1 t.0 refl t.0.sum (polls_more _ _ c.tries v.here.1 ∙ bits_all _ _ b 1 h) (went Poll t.0.past t.0.levels), len_more es ls 1 l t.1)
    trail_step v t (w_ninth Turn b e h) = (moves c l xs es ls (Bits Turn b) (Heard Turn) c 1 t.0 refl t.0.sum (bits_all _ _ b 1 h) (went Turn t.0.past t.0.levels), len_more es ls 1 l t.1)
    trail_step v t (w_ninth Take b e h) = absurd (false≢true (sym e))
    trail_step v t (w_got b e h) =
        let n = cond {A = ℕ} (eqb (c.at + 1) r.length) 1 0 in
        let w = moves c l xs es ls (Bits Take b) (Heard Take) (with_next c) n t.0 refl t.0.sum (got_more c.at r.length _ ∙ bits_all _ _ b n e) (went Take t.0.past t.0.levels) in
        (record { past = w.past; spent = w.spent; sum = w.sum; parts = buffer_free r.reads r xs _ (longer ls l) w.past c.seen w.spent v.right w.parts; events = w.events; levels = w.levels }, len_more es ls n l t.1)
    trail_step v t (w_nack s e h) =
        let (byte, bef, w, k) = lead_byte s c xs ls t.0.past e v t.0.levels in
        refuse c xs es ls l byte (refusal_of r c (missed_at s)) (Heard s) bef t.0 t.1 h (lead_short s c e v.here) w k
    trail_step v t (w_high z e) = (moves c l xs es ls (Heard Select) (Bits High 1) _ _ t.0 refl t.0.sum refl (acked_now ls l es _ t.0.events t.1 z), len_more es ls _ l t.1)
    trail_step v t (w_only z e) = (
      moves c l xs es ls (Heard Select) (Bits Low 1) _ _ t.0 refl t.0.sum (ap (λ (w : Bool). then_high r w t.0.past c.seen ++ (clock_of r c xs Low 0 ∷ [])) e)
          (subst (λ (w : Bool). HighAcked (longer ls l) r w t.0.past c.seen) (sym e) (acked_now ls l es _ t.0.events t.1 z)),
      len_more es ls _ l t.1,
    )
    trail_step v t (w_low z) = (
      moves c l xs es ls (Heard High) (Bits Low 1) _ _ t.0 refl t.0.sum (ap (λ (w : Bool). then_high r w t.0.past c.seen ++ (clock_of r c xs Low 0 ∷ [])) v.here.1)
          (subst (λ (w : Bool). HighAcked (longer ls l) r w t.0.past c.seen) (sym v.here.1) (went High t.0.past t.0.levels, acked_now ls l es _ t.0.events t.1 z)),
      len_more es ls _ l t.1,
    )
    trail_step v t (w_turn z e) = (moves c l xs es ls (Heard Low) (Bits Turn 0) c 2 t.0 refl t.0.sum refl (went Low t.0.past t.0.levels, acked_now ls l es _ t.0.events t.1 z), len_more es ls 2 l t.1)
    trail_step v t (w_data z e) =
        let h = v.here.same in
        let k : c.at - c.seen ≡ 0 = omega arith in (
          moves c l xs es ls (Heard Low) (Bits Data 1) _ _ t.0 refl t.0.sum (ap (λ (i : ℕ). then_data (then_head r t.0.past c.seen) xs c.seen i ++ (clock_of r c xs Data 0 ∷ [])) k)
              (subst (FilledAcked (longer ls l) r t.0.past xs c.seen) (sym k) ((went Low t.0.past t.0.levels, acked_now ls l es _ t.0.events t.1 z), tt)),
          len_more es ls _ l t.1,
        )
    trail_step v t (w_more z n) = (moves c l xs es ls (Heard Data) (Bits Data 1) _ _ t.0 refl t.0.sum refl (byte_acked v t z), len_more es ls _ l t.1)
    trail_step v t (w_close z e) = (moves c l xs es ls (Heard Data) Rest c 3 t.0 refl t.0.sum refl (byte_acked v t z), len_more es ls 3 l t.1)
    trail_step v t (w_drop o) =
        let h = v.here.some in
        let k = v.here.most in
        let i = c.at - 1 - c.seen in
        let e : c.at - c.seen ≡ suc i = omega arith in
        let X = then_head r t.0.past c.seen in
        let n : c.seen + i ≡ c.at - 1 = omega arith in
        refuse c xs es ls l (get_or xs (c.seen + i) 0) (NoData (c.at - 1)) (Heard Data) (then_data X xs c.seen i) t.0 t.1 o (omega (arith, v.common.low))
        (subst (λ (j : ℕ). RefusedByte r xs ls t.0.past c.seen (NoData j) (get_or xs (c.seen + i) 0) (then_data X xs c.seen i)) n
        (the_data i (not_yes r.reads v.right) (omega arith) t.0.levels)) (ap (then_data X xs c.seen) e)
    trail_step v t w_poll =
        let z = v.here.1 in
        let k : c.tries + 1 - 1 ≡ 0 = omega arith in
        let u = t.0.sum in
        let X = then_stop (then_data (then_head r t.0.past c.seen) xs c.seen (c.at - c.seen)) in (
          moves c l xs es ls Rest (Bits Poll 0) _ 2 t.0 refl (omega arith) (ap (λ (i : ℕ). then_start (then_polls X (select_of r c.seen) i)) k)
              (went Data t.0.past t.0.levels, subst (PollsMissed (longer ls l) X (select_of r c.seen)) (sym k) tt),
          len_more es ls 2 l t.1,
        )
    trail_step v t (w_again z o) =
        let k : c.tries + 1 - 1 ≡ c.tries = omega arith in
        let u = t.0.sum in
        let X = then_stop (then_data (then_head r t.0.past c.seen) xs c.seen (c.at - c.seen)) in
        let n = missed_next ls l r xs t.0.past c.at c.seen c.tries X (select_of r c.seen) v.here.1 t.0.levels.1 (missed_now ls l es _ t.0.events t.1 z) in (
          moves c l xs es ls (Heard Poll) (Bits Poll 0) _ 2 t.0 refl (omega arith) (ap (λ (i : ℕ). then_start (then_polls X (select_of r c.seen) i)) k)
              ((went Poll t.0.past t.0.levels).0, subst (PollsMissed (longer ls l) X (select_of r c.seen)) (sym k) n),
          len_more es ls 2 l t.1,
        )
    trail_step v t (w_give z o) =
        let h = v.common.tries in
        let i = v.here.1 in
        let y = v.here.0.end in
        let k : c.tries ≡ allowed_of r = omega arith in
        let m : c.at - c.seen ≡ length_of r c.seen = omega arith in
        let D : ℕ → List ℕ = λ n. then_stop (then_data (then_head r t.0.past c.seen) xs c.seen n) in
        let X = D (length_of r c.seen) in
        let sel = select_of r c.seen in
        let w = t.0.levels in
        refuse c xs es ls l sel PollsUsed (Heard Poll) (then_start (then_polls X sel (allowed_of r - 1))) t.0 t.1 z (omega (arith, v.common.low, v.here.0.some))
        (the_poll (not_yes r.reads v.right) (subst (FilledAcked ls r t.0.past xs c.seen) m w.0)
        (subst (λ (n : ℕ). PollsMissed ls X sel (n - 1)) k (subst (λ (n : ℕ). PollsMissed ls (D n) sel (c.tries - 1)) m w.1)))
        (ap (λ (n : ℕ). then_polls (D n) sel c.tries) m ∙ (ap (then_polls X sel) k ∙ polls_more X sel (allowed_of r) (omega arith)))
    trail_step v t (w_page z) =
        let y = v.here.0.end in
        let u = t.0.sum in
        let m : c.at - c.seen ≡ length_of r c.seen = omega arith in
        let sel = select_of r c.seen in
        let D : ℕ → List ℕ = λ n. then_stop (then_data (then_head r t.0.past c.seen) xs c.seen n) in
        let Y = then_part r t.0.past xs c.seen c.tries in
        let w = went Poll t.0.past t.0.levels in
        let e = t.0.events ∙ ap (λ (n : ℕ). then_polls (D n) sel c.tries) m in
        let b = before_more ls l r r.reads xs c.seen t.0.spent t.0.past t.0.parts in
        let h : PartTold (longer ls l) r t.0.past xs c.seen c.tries =
        (subst (FilledAcked (longer ls l) r t.0.past xs c.seen) m w.0, subst (λ (n : ℕ). PollsMissed (longer ls l) (D n) sel (c.tries - 1)) m w.1, acked_now ls l es _ e t.1 z) in (
          record {
            past = Y;
            spent = c.polls;
            sum = omega arith;
            parts =
                subst (λ (q : ℕ). Before r.reads r xs (longer ls l) c.at q Y) u
                (part_before r xs (longer ls l) t.0.past c.at c.seen c.tries t.0.spent v.here.1 v.common.tries r.reads (not_yes r.reads v.right) v.common.low v.here.0 h b);
            events = ap then_stop e;
            levels = tt;
          },
          λ n. len_more es ls 3 l t.1,
        )
    trail_step v t (w_take z) =
        let k = v.here.first v.right in
        let X = then_byte (then_start (then_head r t.0.past c.seen)) (select_of r c.seen + 1) 1 in (
          moves c l xs es ls (Heard Turn) (Bits Take 1) _ _ t.0 refl t.0.sum (ap (λ (i : ℕ). then_taken X r.length i ++ (clock_of r c xs Take 0 ∷ [])) k)
              (went Turn t.0.past t.0.levels, acked_now ls l es _ t.0.events t.1 z),
          len_more es ls _ l t.1,
        )
    trail_step v t (w_next n) = (moves c l xs es ls (Heard Take) (Bits Take 1) _ _ t.0 refl t.0.sum refl (went Take t.0.past t.0.levels), len_more es ls _ l t.1)
    trail_step v t (w_end e) =
        let z = v.here.0.zero in
        let n = v.here.0.none in
        let b = read_before r.reads r xs ls t.0.past c.seen t.0.spent v.right z t.0.parts in
        let w = went Take t.0.past t.0.levels in
        let R : List ℕ → ℕ → Type 0 = λ y s. HeadAcked (longer ls l) r y s × TurnAcked (longer ls l) r y s in
        let k : ReadTold (longer ls l) r = subst (λ (s : ℕ). R [] s) z (subst (λ (y : List ℕ). R y c.seen) b w) in
        let X : List ℕ → ℕ → ℕ → List ℕ = λ y s a. then_stop (then_taken (then_byte (then_start (then_head r y s)) (select_of r s + 1) 1) r.length a) in (
          record {
            past = read_plan r;
            spent = c.polls;
            sum = omega arith;
            parts = read_after r.reads r xs (longer ls l) c.at c.polls v.right v.here.1 k;
            events = ap then_stop t.0.events ∙ (ap (λ (y : List ℕ). X y c.seen c.at) b ∙ (ap (λ (s : ℕ). X [] s c.at) z ∙ ap (X [] 0) e));
            levels = tt;
          },
          λ f. len_more es ls 3 l t.1,
        )
    trail_step v t (w_done e) =
        let w = t.0 in (
          record { past = w.past; spent = w.spent; sum = w.sum; parts = before_more ls l r r.reads xs c.seen w.spent w.past w.parts; events = append-nil es ∙ w.events; levels = tt },
          λ n. absurd (n e),
        )
    trail_step v t (w_over f) =
        subst (λ (y : List ℕ). Stopped r xs (refusal_of r c f) c.seen c.polls y (longer ls l)) (sym (append-nil es)) (stays (refusal_of r c f) c xs es ls l t)
