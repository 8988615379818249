-- Levels told later change nothing that was told; and what was told so far, by phase.
-- Assumes nothing.
use Prim.Native.Nat.{ℕ, zero, suc, ◌+◌, ◌-◌, ◌≤◌, ◌<◌}
use mathlib.Core.Path.{◌≡◌, sym, ◌∙◌, ap, subst}
use mathlib.Core.Bool.{Bool, true, false}
use mathlib.Core.List.{List, [], ◌∷◌, ◌++◌}
use lib.ListN.{length, get_or}
use lib.Seq.{get_or-append_seam}
use native.Mathlib.Omega.{arith}
use Rattle.driver.specs.declared.Request.{Request}
use Rattle.driver.specs.declared.Slot.{Slot}
use Rattle.driver.specs.declared.Slot.TheVariants.{Select, High, Low, Data, Poll, Turn, Take}
use Rattle.parts.specs.declared.Refusal.{Refusal}
use Rattle.driver.specs.declared.Phase.{Phase}
use Rattle.driver.specs.declared.Phase.TheVariants.{Ready, Bits, Heard, Rest, Over}
use Rattle.driver.specs.declared.Counts.{Counts}
use Rattle.driver.specs.Request.{allowed_of}
use Rattle.driver_promises.specs.Plan.{then_start, then_stop, then_byte, then_polls, then_data, select_of, then_select, then_high, then_head, length_of, then_part, then_parts, parts_end_of}
use Rattle.driver_promises.specs.Heard.{Acked, Missed, PollsMissed, DataAcked, HighAcked, HeadAcked, FilledAcked, PartTold, PartsTold, TurnAcked, ReadTold}
use Rattle.driver_promises.specs.Where.{Before, RefusedByte, the_select, the_first, the_only, the_second, the_turn, the_data, the_poll}
use Rattle.driver_promises.proofs.Inv.{wide}

-- ---- one level more
acked_at : (ls : List ℕ) (i l : ℕ) → get_or ls i 1 ≡ 0 → get_or (ls ++ (l ∷ [])) i 1 ≡ 0
acked_at [] i l e = absurd (omega arith)
acked_at (x ∷ ls) zero l e = e
acked_at (x ∷ ls) (suc i) l e = acked_at ls i l e

missed_at_lem : (ls : List ℕ) (i l : ℕ) → 0 < get_or ls i 0 → 0 < get_or (ls ++ (l ∷ [])) i 0
missed_at_lem [] i l h = absurd (omega arith)
missed_at_lem (x ∷ ls) zero l h = h
missed_at_lem (x ∷ ls) (suc i) l h = missed_at_lem ls i l h

module _ (ls : List ℕ) (l : ℕ) where
  abbrev pub longer : List ℕ
  longer = ls ++ (l ∷ [])

  pub acked_more : (es : List ℕ) → Acked ls es → Acked longer es
  acked_more es h = acked_at ls (length es) l h

  pub missed_more : (es : List ℕ) → Missed ls es → Missed longer es
  missed_more es h = missed_at_lem ls (length es) l h

  polls_more : (es : List ℕ) (v q : ℕ) → PollsMissed ls es v q → PollsMissed longer es v q
  polls_more es v zero h = tt
  polls_more es v (suc q) h = (polls_more es v q h.0, missed_more (then_polls es v (suc q)) h.1)

  data_more : (es xs : List ℕ) (o m : ℕ) → DataAcked ls es xs o m → DataAcked longer es xs o m
  data_more es xs o zero h = tt
  data_more es xs o (suc m) h = (data_more es xs o m h.0, acked_more (then_data es xs o (suc m)) h.1)

  -- the level that comes last is that of the last event
  pub acked_now : (es fs : List ℕ) → es ≡ fs → length es ≡ length ls → l ≡ 0 → Acked longer fs
  acked_now es fs e n z = subst (Acked longer) e (ap (λ (i : ℕ). get_or longer i 1) n ∙ (get_or-append_seam ls l [] 1 ∙ z))

  pub missed_now : (es fs : List ℕ) → es ≡ fs → length es ≡ length ls → 0 < l → Missed longer fs
  missed_now es fs e n h = subst (Missed longer) e (subst (λ (j : ℕ). 0 < j) (sym (ap (λ (i : ℕ). get_or longer i 0) n ∙ get_or-append_seam ls l [] 0)) h)

  module _ (r : Request) where
    high_more : (b : Bool) (es : List ℕ) (o : ℕ) → HighAcked ls r b es o → HighAcked longer r b es o
    high_more true es o h = (acked_more (then_select r es o) h.0, acked_more (then_high r true es o) h.1)
    high_more false es o h = acked_more (then_select r es o) h

    head_more : (es : List ℕ) (o : ℕ) → HeadAcked ls r es o → HeadAcked longer r es o
    head_more es o h = (high_more (wide r) es o h.0, acked_more (then_head r es o) h.1)

    filled_more : (es xs : List ℕ) (o m : ℕ) → FilledAcked ls r es xs o m → FilledAcked longer r es xs o m
    filled_more es xs o m h = (head_more es o h.0, data_more (then_head r es o) xs o m h.1)

    part-more : (es xs : List ℕ) (o q : ℕ) → PartTold ls r es xs o q → PartTold longer r es xs o q
    part-more es xs o q h =
        let X = then_stop (then_data (then_head r es o) xs o (length_of r o)) in
        (filled_more es xs o (length_of r o) h.0, polls_more X (select_of r o) (q - 1) h.1, acked_more (then_polls X (select_of r o) q) h.2)

    parts_more : (es xs : List ℕ) (o : ℕ) (qs : List ℕ) → PartsTold ls r es xs o qs → PartsTold longer r es xs o qs
    parts_more es xs o [] h = tt
    parts_more es xs o (q ∷ qs) h = (part-more es xs o q h.0, parts_more (then_part r es xs o q) xs (o + length_of r o) qs h.1)

    turn_more : (es : List ℕ) (o : ℕ) → TurnAcked ls r es o → TurnAcked longer r es o
    turn_more es o h = acked_more (then_byte (then_start (then_head r es o)) (select_of r o + 1) 1) h

    read_more : ReadTold ls r → ReadTold longer r
    read_more h = (head_more [] 0 h.0, turn_more [] 0 h.1)

    pub before_more : (b : Bool) (xs : List ℕ) (m q : ℕ) (es : List ℕ) → Before b r xs ls m q es → Before b r xs longer m q es
    before_more true xs m q es h = (h.0, λ o. read_more (h.1 o))
    before_more false xs m q es h =
        record { each = h.each; ends = h.ends; pages = h.pages; polled = h.polled; within = h.within; events = h.events; levels = parts_more [] xs 0 h.each h.levels }

    pub byte_more : {xs past : List ℕ} {m : ℕ} {f : Refusal} {v : ℕ} {bef : List ℕ} → RefusedByte r xs ls past m f v bef → RefusedByte r xs longer past m f v bef
    byte_more the_select = the_select
    byte_more {past = past} {m = m} (the_first e h) = the_first e (acked_more (then_select r past m) h)
    byte_more {past = past} {m = m} (the_only e h) = the_only e (acked_more (then_select r past m) h)
    byte_more {past = past} {m = m} (the_second e h) = the_second e (high_more true past m h)
    byte_more {past = past} {m = m} (the_turn e h) = the_turn e (head_more past m h)
    byte_more {xs = xs} {past = past} {m = m} (the_data i e k h) = the_data i e k (filled_more past xs m i h)
    byte_more {xs = xs} {past = past} {m = m} (the_poll e h p) = the_poll e (filled_more past xs m (length_of r m) h) (polls_more (then_stop (then_data (then_head r past m) xs m (length_of r m))) (select_of r m) (allowed_of r - 1) p)

-- ---- of the part under way, by slot: what was told before its byte; a bytes sent, s seen, t polls
module _ (ls : List ℕ) (r : Request) (xs past : List ℕ) (a s t : ℕ) where
  abbrev pub ToldIn : Slot → Type 0
  ToldIn Select = Unit {0}
  ToldIn High = Acked ls (then_select r past s)
  ToldIn Low = HighAcked ls r (wide r) past s
  ToldIn Data = FilledAcked ls r past xs s (a - s)
  ToldIn Poll = FilledAcked ls r past xs s (a - s) × PollsMissed ls (then_stop (then_data (then_head r past s) xs s (a - s))) (select_of r s) (t - 1)
  ToldIn Turn = HeadAcked ls r past s
  ToldIn Take = HeadAcked ls r past s × TurnAcked ls r past s

  -- its ninth clock is sent, and not told: a data byte is counted already
  abbrev pub ToldAfter : Slot → Type 0
  ToldAfter Select = Unit {0}
  ToldAfter High = Acked ls (then_select r past s)
  ToldAfter Low = HighAcked ls r (wide r) past s
  ToldAfter Data = FilledAcked ls r past xs s (a - 1 - s)
  ToldAfter Poll = FilledAcked ls r past xs s (a - s) × PollsMissed ls (then_stop (then_data (then_head r past s) xs s (a - s))) (select_of r s) (t - 1)
  ToldAfter Turn = HeadAcked ls r past s
  ToldAfter Take = HeadAcked ls r past s × TurnAcked ls r past s

abbrev pub ToldFar : Phase → List ℕ → Request → List ℕ → List ℕ → Counts → Type 0
ToldFar Ready ls r xs past c = Unit {0}
ToldFar (Bits s b) ls r xs past c = ToldIn ls r xs past c.at c.seen c.tries s
ToldFar (Heard s) ls r xs past c = ToldAfter ls r xs past c.at c.seen c.tries s
ToldFar Rest ls r xs past c = FilledAcked ls r past xs c.seen (c.at - c.seen)
ToldFar (Over f) ls r xs past c = Unit {0}

module _ (ls : List ℕ) (l : ℕ) (r : Request) (xs past : List ℕ) (a s t : ℕ) where
  pub in_more : (n : Slot) → ToldIn ls r xs past a s t n → ToldIn (longer ls l) r xs past a s t n
  in_more Select h = tt
  in_more High h = acked_more ls l (then_select r past s) h
  in_more Low h = high_more ls l r (wide r) past s h
  in_more Data h = filled_more ls l r past xs s (a - s) h
  in_more Poll h = (filled_more ls l r past xs s (a - s) h.0, polls_more ls l (then_stop (then_data (then_head r past s) xs s (a - s))) (select_of r s) (t - 1) h.1)
  in_more Turn h = head_more ls l r past s h
  in_more Take h = (head_more ls l r past s h.0, turn_more ls l r past s h.1)

  -- a data byte more is acknowledged
  pub filled_next : (b : ℕ) → a - s ≡ suc b → FilledAcked ls r past xs s b → Acked (longer ls l) (then_data (then_head r past s) xs s (a - s)) → FilledAcked (longer ls l) r past xs s (a - s)
  filled_next b e h k =
      let w = filled_more ls l r past xs s b h in
      (w.0, subst (DataAcked (longer ls l) (then_head r past s) xs s) (sym e) (w.1, subst (λ (i : ℕ). Acked (longer ls l) (then_data (then_head r past s) xs s i)) e k))

  -- a poll more is missed
  pub missed_next : (es : List ℕ) (v : ℕ) → 1 ≤ t → PollsMissed ls es v (t - 1) → Missed (longer ls l) (then_polls es v t) → PollsMissed (longer ls l) es v t
  missed_next es v o h k =
      let e : t ≡ suc (t - 1) = omega arith in
      subst (PollsMissed (longer ls l) es v) (sym e) (polls_more ls l es v (t - 1) h, subst (λ (i : ℕ). Missed (longer ls l) (then_polls es v i)) e k)

-- one part more
pub told_more : (ls : List ℕ) (r : Request) (xs es : List ℕ) (o q : ℕ) (qs : List ℕ) → PartsTold ls r es xs o qs → PartTold ls r (then_parts r es xs o qs) xs (parts_end_of r o qs) q → PartsTold ls r es xs o (qs ++ (q ∷ []))
told_more ls r xs es o q [] h k = (k, tt)
told_more ls r xs es o q (x ∷ qs) h k = (h.0, told_more ls r xs (then_part r es xs o x) (o + length_of r o) q qs h.1 k)
