-- A whole run, with any levels: what holds of the driver, its buffer, the events sent and the levels told.
-- Assumes nothing.
use Prim.Native.Nat.{ℕ, zero, ◌+◌, ◌-◌, ◌*◌, ◌≤◌}
use mathlib.Core.Path.{◌≡◌, refl, sym, ◌∙◌, ap, subst}
use mathlib.Core.Bool.{Bool, true, false, cond, false≢true, ◌&&◌}
use mathlib.Core.List.{List, [], ◌∷◌, ◌++◌, append-nil, append_assoc}
use lib.ListN.{length, get_or, length-append, length-set}
use lib.Seq.{get_or-set_other}
use lib.Dec.{eqb, ltb}
use native.Mathlib.Omega.{arith}
use Rattle.driver.specs.declared.Request.{Request}
use Rattle.driver.specs.declared.Slot.{Slot}
use Rattle.driver.specs.declared.Slot.TheVariants.{Select, High, Low, Data, Poll, Turn, Take}
use Rattle.driver.specs.declared.Phase.{Phase}
use Rattle.driver.specs.declared.Phase.TheVariants.{Ready, Bits, Heard, Rest, Over}
use Rattle.driver.specs.declared.Counts.{Counts}
use Rattle.driver.specs.declared.Answer.{Answer}
use Rattle.driver.specs.declared.Answer.TheVariants.{Send, Done, Refused}
use Rattle.driver.specs.declared.Move.{Move}
use Rattle.driver.specs.declared.Asked.{Asked}
use Rattle.driver.specs.Request.{judge_of, allowed_of, k_of}
use Rattle.driver.specs.Step.{shift_of, sent_counts_of, buffer_of, fresh}
use Rattle.driver.specs.Machine.{our_driver}
use Rattle.driver_promises.specs.Run.{DriverHeld, begun, sent_by, told, after_all, events_sent, clocks_in, polls_in, clock_of_byte}
use Rattle.driver_promises.specs.Where.{left_of, Before}
use Rattle.driver_promises.proofs.View.{at, leads, takes, Way, w_done, w_open, w_bit, w_ninth, w_got, w_nack, w_high, w_only, w_low, w_turn, w_data, w_more, w_close, w_drop, w_poll, w_again, w_give, w_page, w_take, w_next, w_end, w_over, Steps, steps}
use Rattle.driver_promises.proofs.Inv.{Inv, in_range, room_in, taken_elim, inv_step, left_all}
use Rattle.driver_promises.specs.Which.{in_polls}
use Rattle.driver_promises.proofs.Grow.{A, heads, ends, clocks_at, ends_at, over, odd_at, turn, Grown, grow}
use Rattle.driver_promises.proofs.Trail.{Told, trail_step}
use Rattle.driver_promises.proofs.Got.{Gets, Long, got_step}
use Rattle.driver_promises.proofs.Bound.{no_polls}
use Rattle.parts.specs.Refusals.{is_fine}

-- ---- one event more at the end
pub odd_more : (h : Bool) (es : List ℕ) (e : ℕ) → in_polls h (es ++ (e ∷ [])) ≡ turn (in_polls h es) e
odd_more h [] e = refl
odd_more h (x ∷ es) e = odd_more (turn h x) es e

polls_more : (h : Bool) (es : List ℕ) (e : ℕ) → polls_in h (es ++ (e ∷ [])) ≡ polls_in h es + cond (in_polls h es && eqb e 2) 1 0
polls_more h [] e = omega arith
polls_more h (x ∷ es) e = omega (arith, polls_more (turn h x) es e)

clocks_more : (es : List ℕ) (e : ℕ) → clocks_in (es ++ (e ∷ [])) ≡ clocks_in es + cond (ltb e 2) 1 0
clocks_more [] e = omega arith
clocks_more (x ∷ es) e = omega (arith, clocks_more es e)

-- ---- the buffer: a write never changes it, and a read only once it takes bytes
abbrev slot_kept : Slot → List ℕ → List ℕ → Type 0
slot_kept Select ys xs = ys ≡ xs
slot_kept High ys xs = ys ≡ xs
slot_kept Low ys xs = ys ≡ xs
slot_kept Data ys xs = ys ≡ xs
slot_kept Poll ys xs = ys ≡ xs
slot_kept Turn ys xs = ys ≡ xs
slot_kept Take ys xs = Unit {0}

abbrev pub Kept : Phase → Request → Counts → List ℕ → List ℕ → Type 0
Kept Ready r c ys xs = (r.reads ≡ false → ys ≡ xs) × (c.at ≡ 0 → ys ≡ xs)
Kept (Bits s b) r c ys xs = slot_kept s ys xs
Kept (Heard s) r c ys xs = slot_kept s ys xs
Kept Rest r c ys xs = ys ≡ xs
Kept (Over f) r c ys xs = ys ≡ xs

lead_kept : (s : Slot) (ys xs : List ℕ) → leads s ≡ true → slot_kept s ys xs → ys ≡ xs
lead_kept Select ys xs e k = k
lead_kept High ys xs e k = k
lead_kept Low ys xs e k = k
lead_kept Data ys xs e k = absurd (false≢true e)
lead_kept Poll ys xs e k = absurd (false≢true e)
lead_kept Turn ys xs e k = k
lead_kept Take ys xs e k = absurd (false≢true e)

module _ (r : Request) (xs : List ℕ) where
  first-kept : (c : Counts) (ys : List ℕ) (b : Bool) → r.reads ≡ b → Inv r Ready c → (c.at ≡ r.length → ⊥) → Kept Ready r c ys xs → ys ≡ xs
  first-kept c ys true e v n k = k.1 (v.here.whole e n)
  first-kept c ys false e v n k = k.0 e

  kept_step : {c : Counts} {l : ℕ} {ys zs : List ℕ} {p : Phase} {m : Move} → Inv r p c → Kept p r c ys xs → Way r c l ys p m zs → Kept m.phase r m.counts zs xs
  kept_step v k (w_done e) = k
  kept_step {c} {ys = ys} v k (w_open n) = first-kept c ys r.reads refl v n k
  kept_step v k (w_bit s b h) = k
  kept_step v k (w_ninth s b e h) = k
  kept_step v k (w_got b e h) = tt
  kept_step {ys = ys} v k (w_nack s e h) = lead_kept s ys xs e k
  kept_step v k (w_high z e) = k
  kept_step v k (w_only z e) = k
  kept_step v k (w_low z) = k
  kept_step v k (w_turn z e) = k
  kept_step v k (w_data z e) = k
  kept_step v k (w_more z n) = k
  kept_step v k (w_close z e) = k
  kept_step v k (w_drop z) = k
  kept_step v k w_poll = k
  kept_step v k (w_again z o) = k
  kept_step v k (w_give z o) = k
  kept_step v k (w_page z) = (λ _. k, λ _. k)
  kept_step v k (w_take z) = tt
  kept_step v k (w_next n) = tt
  kept_step v k (w_end e) = let o = v.here.1 in (λ w. absurd (false≢true (sym w ∙ v.right)), λ z. absurd (omega arith))
  kept_step v k (w_over f) = k

-- the bytes from the driver's position on are as before
abbrev pub Ahead : Counts → List ℕ → List ℕ → Type 0
Ahead c ys xs = (i : ℕ) → c.at ≤ i → get_or ys i 0 ≡ get_or xs i 0

-- a byte sent moves the position on, or not
sent_ahead : (s : Slot) (c : Counts) (ys xs : List ℕ) → Ahead c ys xs → Ahead (sent_counts_of s c) ys xs
sent_ahead Select c ys xs k = k
sent_ahead High c ys xs k = k
sent_ahead Low c ys xs k = k
sent_ahead Data c ys xs k = λ i h. k i (omega arith)
sent_ahead Poll c ys xs k = k
sent_ahead Turn c ys xs k = k
sent_ahead Take c ys xs k = λ i h. k i (omega arith)

ahead_step : (xs : List ℕ) {r : Request} {c : Counts} {l : ℕ} {ys zs : List ℕ} {p : Phase} {m : Move} → Ahead c ys xs → Way r c l ys p m zs → Ahead m.counts zs xs
ahead_step xs k (w_done e) = k
ahead_step xs k (w_open n) = k
ahead_step xs {c = c} {l = l} {ys = ys} k (w_bit s b h) = taken_elim (λ (t : Counts). Ahead t ys xs) s c l (λ x. k)
ahead_step xs {c = c} {ys = ys} k (w_ninth s b e h) = sent_ahead s c ys xs k
ahead_step xs {c = c} {l = l} {ys = ys} k (w_got b e h) = λ i o. get_or-set_other ys c.at i (shift_of c.byte l) 0 (λ z. omega arith) ∙ k i (omega arith)
ahead_step xs k (w_nack s e h) = k
ahead_step xs k (w_high z e) = k
ahead_step xs k (w_only z e) = k
ahead_step xs k (w_low z) = k
ahead_step xs k (w_turn z e) = k
ahead_step xs k (w_data z e) = k
ahead_step xs k (w_more z n) = k
ahead_step xs k (w_close z e) = k
ahead_step xs k (w_drop z) = k
ahead_step xs k w_poll = k
ahead_step xs k (w_again z o) = k
ahead_step xs k (w_give z o) = k
ahead_step xs k (w_page z) = k
ahead_step xs k (w_take z) = k
ahead_step xs k (w_next n) = k
ahead_step xs k (w_end e) = k
ahead_step xs k (w_over f) = k

size_step : {r : Request} {c : Counts} {l : ℕ} {xs ys : List ℕ} {p : Phase} {m : Move} → Way r c l xs p m ys → length ys ≡ length xs
size_step (w_done e) = refl
size_step (w_open n) = refl
size_step (w_bit s b h) = refl
size_step (w_ninth s b e h) = refl
size_step {c = c} {l = l} {xs = xs} (w_got b e h) = length-set xs c.at (shift_of c.byte l)
size_step (w_nack s e h) = refl
size_step (w_high z e) = refl
size_step (w_only z e) = refl
size_step (w_low z) = refl
size_step (w_turn z e) = refl
size_step (w_data z e) = refl
size_step (w_more z n) = refl
size_step (w_close z e) = refl
size_step (w_drop z) = refl
size_step w_poll = refl
size_step (w_again z o) = refl
size_step (w_give z o) = refl
size_step (w_page z) = refl
size_step (w_take z) = refl
size_step (w_next n) = refl
size_step (w_end e) = refl
size_step (w_over f) = refl

-- ---- everything that holds after the events es and the levels ls; xs the buffer at first, ys now
pub record Story (r : Request) (xs : List ℕ) (p : Phase) (c : Counts) (ys es ls : List ℕ) : Type 0 where
  pub inv : Inv r p c
  pub size : length ys ≡ r.length
  pub kept : Kept p r c ys xs
  pub ahead : Ahead c ys xs
  pub told : Told p r c ys es ls
  pub got : Gets p r c ys ls
  pub polls : c.polls ≡ polls_in false es
  pub odd : odd_at p r c ≡ in_polls false es
  pub clocks : over p ≡ false → clocks_in es ≡ clocks_at p r c
  pub ends : over p ≡ false → length es ≡ clocks_at p r c + ends_at p r c

-- over is for good
over_back : {r : Request} {c : Counts} {l : ℕ} {xs ys : List ℕ} {p : Phase} {m : Move} → Way r c l xs p m ys → over m.phase ≡ false → over p ≡ false
over_back (w_done e) o = refl
over_back (w_open n) o = refl
over_back (w_bit s b h) o = refl
over_back (w_ninth s b e h) o = refl
over_back (w_got b e h) o = refl
over_back (w_nack s e h) o = refl
over_back (w_high z e) o = refl
over_back (w_only z e) o = refl
over_back (w_low z) o = refl
over_back (w_turn z e) o = refl
over_back (w_data z e) o = refl
over_back (w_more z n) o = refl
over_back (w_close z e) o = refl
over_back (w_drop z) o = refl
over_back w_poll o = refl
over_back (w_again z o') o = refl
over_back (w_give z o') o = refl
over_back (w_page z) o = refl
over_back (w_take z) o = refl
over_back (w_next n) o = refl
over_back (w_end e) o = refl
over_back (w_over f) o = absurd (false≢true (sym o))

module _ (r : Request) (xs : List ℕ) where
  -- the counts in the events, by the answer
  pub record Counted (p : Phase) (c : Counts) (es : List ℕ) : Type 0 where
    pub polls : c.polls ≡ polls_in false es
    pub odd : odd_at p r c ≡ in_polls false es
    pub clocks : over p ≡ false → clocks_in es ≡ clocks_at p r c
    pub ends : over p ≡ false → length es ≡ clocks_at p r c + ends_at p r c

  counted : (p : Phase) (c : Counts) (m : Move) (a : Answer) (es : List ℕ) → (over m.phase ≡ false → over p ≡ false) → Counted p c es → Grown p r c m a → Counted m.phase m.counts (es ++ sent_by a)
  counted p c m (Send e) es back k g =
      let o = k.odd in
      record {
        polls = g.polls ∙ (ap (λ (n : ℕ). n + cond (odd_at p r c && eqb e 2) 1 0) k.polls ∙ (ap (λ (t : Bool). polls_in false es + cond (t && eqb e 2) 1 0) o ∙ sym (polls_more false es e)));
        odd = g.odd ∙ (ap (λ (t : Bool). turn t e) o ∙ sym (odd_more false es e));
        clocks = λ f. omega (arith, clocks_more es e, k.clocks (back f), g.clocks f);
        ends = λ f. omega (arith, length-append es (e ∷ []), k.ends (back f), g.clocks f, g.ends f);
      }
  counted p c m (Done q n) es back k g = still p c m es g k
    where
      still : (p : Phase) (c : Counts) (m : Move) (es : List ℕ) → (m.phase ≡ p) × (m.counts ≡ c) → Counted p c es → Counted m.phase m.counts (es ++ [])
      still p c m es g k =
          subst (λ (y : List ℕ). Counted m.phase m.counts y) (sym (append-nil es))
          (subst (λ (q : Phase). Counted q m.counts es) (sym g.0) (subst (λ (d : Counts). Counted p d es) (sym g.1) k))
  counted p c m (Refused f q n) es back k g = still p c m es g k
    where
      still : (p : Phase) (c : Counts) (m : Move) (es : List ℕ) → (m.phase ≡ p) × (m.counts ≡ c) → Counted p c es → Counted m.phase m.counts (es ++ [])
      still p c m es g k =
          subst (λ (y : List ℕ). Counted m.phase m.counts y) (sym (append-nil es))
          (subst (λ (q : Phase). Counted q m.counts es) (sym g.0) (subst (λ (d : Counts). Counted p d es) (sym g.1) k))

  -- in a byte that is read, the levels told are as many as the clocks before it
  pub long : (p : Phase) (c : Counts) (ys es ls : List ℕ) → Story r xs p c ys es ls → Long r p c ls
  long Ready c ys es ls v = tt
  long (Bits s b) c ys es ls v = λ t. go s t v.inv (v.ends refl) v.told.1
    where
      go : (s : Slot) → takes s ≡ true → Inv r (Bits s b) c → length es ≡ clocks_at (Bits s b) r c + ends_at (Bits s b) r c → length es ≡ length ls → length ls ≡ clock_of_byte r c.at + b
      go Select t i e n = absurd (false≢true t)
      go High t i e n = absurd (false≢true t)
      go Low t i e n = absurd (false≢true t)
      go Data t i e n = absurd (false≢true t)
      go Poll t i e n = absurd (false≢true t)
      go Turn t i e n = absurd (false≢true t)
      go Take t i e n =
          let z = i.here.0.zero in
          let h : heads r c.seen ≡ 0 = ap (heads r) z ∙ none_read r.reads i.right in
          let k : ends r c.seen ≡ 0 = ap (ends r) z ∙ no_ends r.reads i.right in
          omega (arith, no_polls r c.polls i.right i.common.most)
        where
          none_read : (b : Bool) → b ≡ true → cond {A = ℕ} b 0 ((k_of r - left_of r 0) * (1 + A r)) ≡ 0
          none_read true f = refl
          none_read false f = absurd (false≢true f)

          no_ends : (b : Bool) → b ≡ true → cond {A = ℕ} b 0 (3 * (k_of r - left_of r 0)) ≡ 0
          no_ends true f = refl
          no_ends false f = absurd (false≢true f)
  long (Heard s) c ys es ls v = tt
  long Rest c ys es ls v = tt
  long (Over f) c ys es ls v = tt

  pub story_step : {p : Phase} {c : Counts} {l : ℕ} {ys zs es ls : List ℕ} {m : Move} → Story r xs p c ys es ls → Way r c l ys p m zs → Story r xs m.phase m.counts zs (es ++ sent_by m.answer) (ls ++ (l ∷ []))
  story_step {p} {c} {l} {ys} {zs} {es} {ls} {m} v w =
      let k = counted p c m m.answer es (over_back w) (record { polls = v.polls; odd = v.odd; clocks = v.clocks; ends = v.ends }) (grow r v.inv w) in
      record {
        inv = inv_step r v.inv w;
        size = size_step w ∙ v.size;
        kept = kept_step r xs v.inv v.kept w;
        ahead = ahead_step xs v.ahead w;
        told = trail_step r c l ys es ls v.inv v.told w;
        got = got_step r ls v.inv v.size (long p c ys es ls v) v.got w;
        polls = k.polls;
        odd = k.odd;
        clocks = k.clocks;
        ends = k.ends;
      }

  abbrev pub held : Phase → Counts → List ℕ → DriverHeld
  held p c ys = record { driver = at r p c; buffer = ys }

  -- a run has come to some driver, buffer and story
  pub record Ran (h : DriverHeld) (es ls : List ℕ) : Type 0 where
    pub phase : Phase
    pub counts : Counts
    pub buffer : List ℕ
    pub is : h ≡ held phase counts buffer
    pub story : Story r xs phase counts buffer es ls

  pub one_step : {p : Phase} {c : Counts} {ys es ls : List ℕ} → Story r xs p c ys es ls → (l : ℕ) → Steps r p c l ys
  one_step {p} {c} {ys} v l = steps r p c l ys v.inv.good (in_range r p c (length ys) v.size v.inv) (room_in p r c v.inv)

  pub run : (p : Phase) (c : Counts) (ys es ls : List ℕ) → Story r xs p c ys es ls → (ks : List ℕ) → Ran (after_all our_driver (held p c ys) ks) (es ++ events_sent our_driver (held p c ys) ks) (ls ++ ks)
  run p c ys es ls v [] =
      record {
        phase = p;
        counts = c;
        buffer = ys;
        is = refl;
        story = subst (λ (y : List ℕ). Story r xs p c ys y (ls ++ [])) (sym (append-nil es)) (subst (λ (y : List ℕ). Story r xs p c ys es y) (sym (append-nil ls)) v);
      }
  run p c ys es ls v (k ∷ ks) =
      go (one_step v k) (λ m zs w. run m.phase m.counts zs (es ++ sent_by m.answer) (ls ++ (k ∷ [])) w ks)
    where
      go : (s : Steps r p c k ys) → ((m : Move) (zs : List ℕ) → Story r xs m.phase m.counts zs (es ++ sent_by m.answer) (ls ++ (k ∷ [])) → Ran (after_all our_driver (held m.phase m.counts zs) ks) ((es ++ sent_by m.answer) ++ events_sent our_driver (held m.phase m.counts zs) ks) ((ls ++ (k ∷ [])) ++ ks)) → Ran (after_all our_driver (held p c ys) (k ∷ ks)) (es ++ events_sent our_driver (held p c ys) (k ∷ ks)) (ls ++ (k ∷ ks))
      go s f =
          let m = s.move in
          let zs = buffer_of (at r p c) k ys in
          let a = s.asked in
          let w = f m zs (story_step v s.way) in
          subst (λ (y : List ℕ). Ran (after_all our_driver (held p c ys) (k ∷ ks)) (es ++ events_sent our_driver (held p c ys) (k ∷ ks)) y) (append_assoc ls (k ∷ []) ks)
          (subst (λ (t : Asked). Ran (after_all our_driver (record { driver = t.driver; buffer = zs }) ks) (es ++ (sent_by t.answer ++ events_sent our_driver (record { driver = t.driver; buffer = zs }) ks)) ((ls ++ (k ∷ [])) ++ ks)) (sym a)
          (subst (λ (y : List ℕ). Ran (after_all our_driver (held m.phase m.counts zs) ks) y ((ls ++ (k ∷ [])) ++ ks)) (append_assoc es (sent_by m.answer) (events_sent our_driver (held m.phase m.counts zs) ks)) w))

  -- ---- from the start
  start_inv : is_fine (judge_of r) ≡ true → Inv r Ready (fresh r).counts
  start_inv e =
      let k = left_all r in
      record {
        good = e;
        right = refl;
        bits = omega arith;
        common = record { low = omega arith; seen = omega arith; tries = omega arith; some = omega arith; most = omega arith; spent = omega (arith, ap (λ (i : ℕ). i * allowed_of r) k); pages = omega arith };
        here = record { same = refl; none = refl; whole = λ a b. refl };
      }

  pub start : is_fine (judge_of r) ≡ true → length xs ≡ r.length → Story r xs Ready (fresh r).counts xs [] []
  start e n =
      record {
        inv = start_inv e;
        size = n;
        kept = (λ _. refl, λ _. refl);
        ahead = λ i h. refl;
        told = (record { past = []; spent = 0; sum = refl; parts = before_all r.reads; events = refl; levels = tt }, λ _. refl);
        got = λ w i h. absurd (omega arith);
        polls = refl;
        odd = even r.reads;
        clocks = λ _. omega (arith, heads_none);
        ends = λ _. omega (arith, heads_none, ends_none);
      }
    where
      none : k_of r - left_of r 0 ≡ 0
      none = omega (arith, left_all r)

      heads_none : heads r 0 ≡ 0
      heads_none = go r.reads
        where
          go : (b : Bool) → cond {A = ℕ} b 0 ((k_of r - left_of r 0) * (1 + A r)) ≡ 0
          go true = refl
          go false = ap (λ (i : ℕ). i * (1 + A r)) none ∙ omega arith

      ends_none : ends r 0 ≡ 0
      ends_none = go r.reads
        where
          go : (b : Bool) → cond {A = ℕ} b 0 (3 * (k_of r - left_of r 0)) ≡ 0
          go true = refl
          go false = omega (arith, none)

      even : (b : Bool) → (b && false) ≡ false
      even true = refl
      even false = refl

      before_all : (b : Bool) → Before b r xs [] 0 0 []
      before_all true = (refl, λ o. absurd (omega arith))
      before_all false = record { each = []; ends = refl; pages = omega (arith, left_all r); polled = refl; within = tt; events = refl; levels = tt }

  pub ran : is_fine (judge_of r) ≡ true → length xs ≡ r.length → (ls : List ℕ) → Ran (after_all our_driver (begun r xs) ls) (events_sent our_driver (begun r xs) ls) ls
  ran e n ls = run Ready (fresh r).counts xs [] [] (start e n) ls
