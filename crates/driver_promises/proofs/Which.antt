-- Which byte each number names, from the fourth promise; and a faulty line gives each.
-- Assumes nothing.
use Prim.Native.Nat.{ℕ, zero, suc, ◌+◌, ◌-◌, ◌*◌, ◌/◌, ◌%◌, ◌≤◌, ◌<◌}
use mathlib.Core.Path.{◌≡◌, refl, sym, ◌∙◌, ap, subst}
use mathlib.Core.Bool.{Bool, true, false, cond, not}
use mathlib.Core.Logic.{inl, inr}
use mathlib.Core.List.{List, [], ◌∷◌, ◌++◌}
use lib.ListN.{length, get_or, take, replicate, length-append, length-replicate, get_or-replicate}
use lib.Dec.{eqb, ltb}
use native.Mathlib.Omega.{arith}
use borrow.Author.Tests.{lt-ltb, eq-eqb, ne_eqb}
use Rattle.parts.specs.declared.Refusal.{Refusal}
use Rattle.parts.specs.declared.Refusal.TheVariants.{NoSelect, NoFirst, NoSecond}
use Rattle.parts.specs.Table.{facts_of}
use Rattle.parts.specs.Refusals.{number_of}
use Rattle.parts.proofs.Laws.{branch}
use Rattle.driver.specs.declared.Request.{Request}
use Rattle.driver.specs.declared.Slot.{Slot}
use Rattle.driver.specs.declared.Slot.TheVariants.{Select, High, Low, Data, Poll, Turn, Take}
use Rattle.driver.specs.declared.Failed.{Failed}
use Rattle.driver.specs.declared.Failed.TheVariants.{AtSelect, AtHigh, AtLow, AtData, AtPolls}
use Rattle.driver.specs.declared.Phase.{Phase}
use Rattle.driver.specs.declared.Phase.TheVariants.{Ready, Bits, Heard, Rest, Over}
use Rattle.driver.specs.declared.Driver.{Driver}
use Rattle.driver.specs.declared.Move.{Move}
use Rattle.driver.specs.declared.Asked.{Asked}
use Rattle.driver.specs.declared.Answer.TheVariants.{Refused}
use Rattle.driver.specs.Request.{allowed_of}
use Rattle.driver.specs.Step.{bit_of, ready_of, bits_at, lead_at, low_at, data_at, poll_move_of, answered_of, take_at, end_of, heard_at, heard_move_of, bits_move_of, page_at, last_address_of, over_of, move_at, driver_step_of, range_of, driver_next_of}
use Rattle.driver.specs.Machine.{our_driver}
use Rattle.driver_promises.specs.Run.{polls_in, address_bytes, bound_of}
use Rattle.driver_promises.specs.Plan.{then_start, then_stop, then_bits, then_byte, then_polls, then_data, address_at, select_of, then_select, then_high, then_head, length_of, then_part, then_parts, read_plan}
use Rattle.driver_promises.specs.Heard.{Acked, Missed}
use Rattle.driver_promises.specs.Where.{Before, RefusedByte, the_select, the_first, the_only, the_second, the_turn, the_data, the_poll}
use Rattle.driver_promises.specs.Promises.{Accepted, sent, answers}
use Rattle.driver_promises.specs.Listens.{Ear, silence, hears, ear_of}
use Rattle.driver_promises.specs.Which.{until_last, clocks_since, in_polls, Names, RefusedSays, NotSecond, OneAddressByte, failing, FaultyLine}
use Rattle.driver_promises.proofs.Inv.{wide}
use Rattle.driver_promises.proofs.Grow.{A, bit_lt, two_bytes, one_byte}
use Rattle.driver_promises.proofs.Story.{odd_more}
use Rattle.driver_promises.proofs.Promises.{promises}
use Rattle.driver_promises.proofs.Pinned.{Out, ends_refused, last_by, head_out, out, select_no, high_no, last_no, head_out_lem, whole, ends_as}

no_stop : (v n : ℕ) → eqb (bit_of v n) 3 ≡ false
no_stop v n = ne_eqb (bit_of v n) 3 (λ e. (let k = bit_lt v n in omega arith))

twice : (b : Bool) → not (not b) ≡ b
twice true = refl
twice false = refl

-- ---- clocks since the last Start
ear_app : (k : Ear) (es fs : List ℕ) → ear_of k (es ++ fs) ≡ ear_of (ear_of k es) fs
ear_app k [] fs = refl
ear_app k (e ∷ es) fs = ear_app (hears k e) es fs

one_clock : (k : Ear) (e : ℕ) → e < 2 → (hears k e).clocks ≡ k.clocks + 1
one_clock k e h = simp (lt-ltb e 2 h)

since_clock : (es : List ℕ) (e : ℕ) → e < 2 → clocks_since (es ++ (e ∷ [])) ≡ clocks_since es + 1
since_clock es e h = ap (λ (k : Ear). k.clocks) (ear_app silence es (e ∷ [])) ∙ one_clock (ear_of silence es) e h

since_start : (es : List ℕ) → clocks_since (then_start es) ≡ 0
since_start es = ap (λ (k : Ear). k.clocks) (ear_app silence es (2 ∷ []))

since_bits : (es : List ℕ) (v n : ℕ) → clocks_since (then_bits es v n) ≡ clocks_since es + n
since_bits es v zero = omega arith
since_bits es v (suc n) = omega (arith, since_clock (then_bits es v n) (bit_of v n) (bit_lt v n), since_bits es v n)

since_byte : (es : List ℕ) (v : ℕ) → clocks_since (then_byte es v 1) ≡ clocks_since es + 9
since_byte es v = omega (arith, since_clock (then_bits es v 8) 1 (omega arith), since_bits es v 8)

since_data : (es xs : List ℕ) (o m : ℕ) → clocks_since (then_data es xs o m) ≡ clocks_since es + 9 * m
since_data es xs o zero = omega arith
since_data es xs o (suc m) = omega (arith, since_byte (then_data es xs o m) (get_or xs (o + m) 0), since_data es xs o m)

-- ---- Stops: only they move it
in_more : (b : Bool) (es : List ℕ) (e : ℕ) → eqb e 3 ≡ false → in_polls b (es ++ (e ∷ [])) ≡ in_polls b es
in_more b es e h = odd_more b es e ∙ ap (λ (t : Bool). cond t (not (in_polls b es)) (in_polls b es)) h

in_bits : (b : Bool) (es : List ℕ) (v n : ℕ) → in_polls b (then_bits es v n) ≡ in_polls b es
in_bits b es v zero = refl
in_bits b es v (suc n) = in_more b (then_bits es v n) (bit_of v n) (no_stop v n) ∙ in_bits b es v n

in_byte : (b : Bool) (es : List ℕ) (v : ℕ) → in_polls b (then_byte es v 1) ≡ in_polls b es
in_byte b es v = in_more b (then_bits es v 8) 1 refl ∙ in_bits b es v 8

in_start : (b : Bool) (es : List ℕ) → in_polls b (then_start es) ≡ in_polls b es
in_start b es = in_more b es 2 refl

in_stop : (b : Bool) (es : List ℕ) → in_polls b (then_stop es) ≡ not (in_polls b es)
in_stop b es = odd_more b es 3

in_data : (b : Bool) (es xs : List ℕ) (o m : ℕ) → in_polls b (then_data es xs o m) ≡ in_polls b es
in_data b es xs o zero = refl
in_data b es xs o (suc m) = in_byte b (then_data es xs o m) (get_or xs (o + m) 0) ∙ in_data b es xs o m

in_all : (b : Bool) (es : List ℕ) (v q : ℕ) → in_polls b (then_polls es v q) ≡ in_polls b es
in_all b es v zero = refl
in_all b es v (suc q) = in_byte b (then_start (then_polls es v q)) v ∙ (in_start b (then_polls es v q) ∙ in_all b es v q)

module _ (r : Request) (b : Bool) where
  in_select : (es : List ℕ) (o : ℕ) → in_polls b (then_select r es o) ≡ in_polls b es
  in_select es o = in_byte b (then_start es) (select_of r o) ∙ in_start b es

  in_high : (w : Bool) (es : List ℕ) (o : ℕ) → in_polls b (then_high r w es o) ≡ in_polls b es
  in_high true es o = in_byte b (then_select r es o) (address_at r o / 256 % 256) ∙ in_select es o
  in_high false es o = in_select es o

  in_head : (es : List ℕ) (o : ℕ) → in_polls b (then_head r es o) ≡ in_polls b es
  in_head es o = in_byte b (then_high r (wide r) es o) (address_at r o % 256) ∙ in_high (wide r) es o

  -- the data of a part, and its Stop
  in_closed : (es xs : List ℕ) (o m : ℕ) → in_polls b (then_stop (then_data (then_head r es o) xs o m)) ≡ not (in_polls b es)
  in_closed es xs o m = in_stop b (then_data (then_head r es o) xs o m) ∙ ap not (in_data b (then_head r es o) xs o m ∙ in_head es o)

  in_parts : (xs es : List ℕ) (o : ℕ) (qs : List ℕ) → in_polls b (then_parts r es xs o qs) ≡ in_polls b es
  in_parts xs es o [] = refl
  in_parts xs es o (q ∷ qs) =
      let X = then_stop (then_data (then_head r es o) xs o (length_of r o)) in
      in_parts xs (then_part r es xs o q) (o + length_of r o) qs
      ∙ (in_stop b (then_polls X (select_of r o) q) ∙ (ap not (in_all b X (select_of r o) q ∙ in_closed es xs o (length_of r o)) ∙ twice (in_polls b es)))

-- what went before the part that was refused
past_even : (t : Bool) (r : Request) (xs ls : List ℕ) (m q : ℕ) (past : List ℕ) → Before t r xs ls m q past → (t ≡ true → m ≡ 0) → in_polls false past ≡ false
past_even true r xs ls m q past h z =
    ap (in_polls false) (h.0 ∙ ap (λ (b : Bool). cond b [] (read_plan r)) (eq-eqb m 0 (z refl)))
past_even false r xs ls m q past h z = ap (in_polls false) h.events ∙ in_parts r false xs [] 0 h.each

module _ (r : Request) (past : List ℕ) (o : ℕ) where
  since_select : clocks_since (then_select r past o) ≡ 9
  since_select = omega (arith, since_byte (then_start past) (select_of r o), since_start past)

  since_high : (b : Bool) → wide r ≡ b → clocks_since (then_high r b past o) ≡ 9 * A r
  since_high true e = omega (arith, two_bytes r e, since_byte (then_select r past o) (address_at r o / 256 % 256), since_select)
  since_high false e = omega (arith, one_byte r e, since_select)

  since_head : clocks_since (then_head r past o) ≡ 9 * (1 + A r)
  since_head = omega (arith, since_byte (then_high r (wide r) past o) (address_at r o % 256), since_high (wide r) refl)

  -- ---- by the byte; before the part there are no polls
  module _ (xs ls : List ℕ) (even : in_polls false past ≡ false) where
    named : {f : Refusal} {v : ℕ} {bef : List ℕ} → RefusedByte r xs ls past o f v bef → Names r o (then_byte bef v 1) f
    named the_select =
        record {
          select = λ e. (omega (arith, since_select), refl);
          first = λ e. absurd (omega arith);
          second = λ e. absurd (omega arith);
          byte = λ e. absurd (omega arith);
          polling = in_select r false past o ∙ even;
          polls = λ e. absurd (omega arith);
          these = inl refl;
        }
    named (the_first w a) =
        record {
          select = λ e. absurd (omega arith);
          first = λ e. (omega (arith, since_byte (then_select r past o) (address_at r o / 256 % 256), since_select), refl);
          second = λ e. absurd (omega arith);
          byte = λ e. absurd (omega arith);
          polling = in_high r false true past o ∙ even;
          polls = λ e. absurd (omega arith);
          these = inr (inr (inr (inl refl)));
        }
    named (the_only w a) =
        record {
          select = λ e. absurd (omega arith);
          first = λ e. (omega (arith, since_byte (then_select r past o) (address_at r o % 256), since_select), refl);
          second = λ e. absurd (omega arith);
          byte = λ e. absurd (omega arith);
          polling = in_byte false (then_select r past o) (address_at r o % 256) ∙ (in_select r false past o ∙ even);
          polls = λ e. absurd (omega arith);
          these = inr (inr (inr (inl refl)));
        }
    named (the_second w a) =
        record {
          select = λ e. absurd (omega arith);
          first = λ e. absurd (omega arith);
          second = λ e. (omega (arith, two_bytes r w, since_byte (then_high r true past o) (address_at r o % 256), since_high true w), refl, w);
          byte = λ e. absurd (omega arith);
          polling = in_byte false (then_high r true past o) (address_at r o % 256) ∙ (in_high r false true past o ∙ even);
          polls = λ e. absurd (omega arith);
          these = inr (inr (inr (inr refl)));
        }
    named (the_turn w a) =
        record {
          select = λ e. (omega (arith, since_byte (then_start (then_head r past o)) (select_of r o + 1), since_start (then_head r past o)), refl);
          first = λ e. absurd (omega arith);
          second = λ e. absurd (omega arith);
          byte = λ e. absurd (omega arith);
          polling = in_byte false (then_start (then_head r past o)) (select_of r o + 1) ∙ (in_start false (then_head r past o) ∙ (in_head r false past o ∙ even));
          polls = λ e. absurd (omega arith);
          these = inl refl;
        }
    named (the_data i w h a) =
        record {
          select = λ e. absurd (omega arith);
          first = λ e. absurd (omega arith);
          second = λ e. absurd (omega arith);
          byte = λ e. (i, omega (arith, since_byte (then_data (then_head r past o) xs o i) (get_or xs (o + i) 0), since_data (then_head r past o) xs o i, since_head), refl);
          polling = in_byte false (then_data (then_head r past o) xs o i) (get_or xs (o + i) 0) ∙ (in_data false (then_head r past o) xs o i ∙ (in_head r false past o ∙ even));
          polls = λ e. absurd (omega arith);
          these = inr (inl refl);
        }
    named (the_poll w a p) =
        let X = then_polls (then_stop (then_data (then_head r past o) xs o (length_of r o))) (select_of r o) (allowed_of r - 1) in
        record {
          select = λ e. absurd (omega arith);
          first = λ e. absurd (omega arith);
          second = λ e. absurd (omega arith);
          byte = λ e. absurd (omega arith);
          polling = in_byte false (then_start X) (select_of r o) ∙ (in_start false X ∙ (in_all false (then_stop (then_data (then_head r past o) xs o (length_of r o))) (select_of r o) (allowed_of r - 1) ∙ (in_closed r false past xs o (length_of r o) ∙ ap not even)));
          polls = λ e. (omega (arith, since_byte (then_start X) (select_of r o), since_start X), refl);
          these = inr (inr (inl refl));
        }

-- the events before the last one
take_app : (es fs : List ℕ) → take (length es) (es ++ fs) ≡ es
take_app [] [] = refl
take_app [] (f ∷ fs) = refl
take_app (e ∷ es) fs = ap (λ (l : List ℕ). e ∷ l) (take_app es fs)

until_stop : (es : List ℕ) → until_last (then_stop es) ≡ es
until_stop es =
    let n : length (es ++ (3 ∷ [])) - 1 ≡ length es = omega (arith, length-append es (3 ∷ [])) in
    ap (λ (i : ℕ). take i (es ++ (3 ∷ []))) n ∙ take_app es (3 ∷ [])

pub refused_says : RefusedSays
refused_says M p r xs a ls l q m f e =
    let w = p r xs a ls l q m f e in
    let s = w.stopped in
    let es = then_byte s.before s.byte 1 in
    let u : until_last (sent M r xs ls l) ≡ es = ap until_last s.events ∙ until_stop es in
    record {
      stop = s.events ∙ ap then_stop (sym u);
      missed = subst (Missed ls) (sym u) s.level;
      names = subst (λ (y : List ℕ). Names r m y f) (sym u) (named r s.past m xs ls (past_even r.reads r xs ls m s.spent s.past s.parts (λ t. (w.none t).0)) s.which);
    }

-- ---- no 15 where there is one address byte: only a driver that is over is refused, or one out of range
abbrev Kept : Move → Type 0
Kept m = NotSecond m.answer

module _ (d : Driver) (level : ℕ) where
  heard_kept : (s : Slot) (clock : ℕ) → Kept (heard_at d s level clock)
  unfolding lead_at low_at data_at answered_of poll_move_of take_at
  heard_kept Select clock = branch Kept (eqb level 0) (λ _. tt) (λ _. tt)
  heard_kept High clock = branch Kept (eqb level 0) (λ _. tt) (λ _. tt)
  heard_kept Low clock = branch Kept (eqb level 0) (λ _. branch Kept d.request.reads (λ _. tt) (λ _. tt)) (λ _. tt)
  heard_kept Data clock = branch Kept (eqb level 0) (λ _. branch Kept (eqb d.counts.at (end_of d)) (λ _. tt) (λ _. tt)) (λ _. tt)
  heard_kept Poll clock = branch Kept (eqb level 0) (λ _. tt) (λ _. branch Kept (ltb d.counts.tries (allowed_of d.request)) (λ _. tt) (λ _. tt))
  heard_kept Turn clock = branch Kept (eqb level 0) (λ _. tt) (λ _. tt)
  heard_kept Take clock = branch Kept (eqb d.counts.at d.request.length) (λ _. tt) (λ _. tt)

  over_kept : (f : Failed) → (facts_of d.request.part).wide ≡ false → Kept (over_of d.request d.counts f)
  over_kept AtSelect w e = omega arith
  over_kept AtHigh w e = omega arith
  over_kept AtLow w e = subst (λ (b : Bool). number_of (last_address_of b (page_at d.request d.counts.seen)) ≡ 15 → ⊥) (sym w) (λ k. omega arith) e
  over_kept AtData w e = omega arith
  over_kept AtPolls w e = omega arith

  move_kept : (p : Phase) (value : ℕ) → (facts_of d.request.part).wide ≡ false → Kept (move_at p d level value)
  unfolding ready_of bits_move_of bits_at heard_move_of poll_move_of
  move_kept Ready value w = branch Kept (eqb d.counts.at d.request.length) (λ _. tt) (λ _. tt)
  move_kept (Bits s b) value w = branch Kept (ltb b 8) (λ _. tt) (λ _. tt)
  move_kept (Heard s) value w = heard_kept s _
  move_kept Rest value w = tt
  move_kept (Over f) value w = over_kept f w

pub one_address_byte : OneAddressByte our_driver
unfolding driver_next_of driver_step_of
one_address_byte d level xs w =
    branch (λ (a : Asked). NotSecond a.answer) (range_of d (length xs)) (λ _. move_kept d level d.phase (get_or xs d.counts.at 0) w) (λ _ e. omega arith)

-- ---- a faulty line
failing_missed : (k n : ℕ) → 0 < n → 0 < get_or (failing k n) k 0
failing_missed zero n h = omega (arith, get_or-replicate {A = ℕ} n 0 1 0 h)
failing_missed (suc k) n h = failing_missed k n h

failing_acked : (k n i : ℕ) → i < k → get_or (failing k n) i 1 ≡ 0
failing_acked zero n i h = absurd (omega arith)
failing_acked (suc k) n zero h = refl
failing_acked (suc k) n (suc i) h = failing_acked k n i (omega arith)

-- without a Stop there is no poll
abbrev NoStops : List ℕ → Type 0
NoStops [] = Unit {0}
NoStops (e ∷ es) = (eqb e 3 ≡ false) × NoStops es

no_polls : (es : List ℕ) → NoStops es → polls_in false (then_stop es) ≡ 0
no_polls [] h = refl
no_polls (e ∷ es) h = omega (arith, ap (λ (b : Bool). polls_in (cond b true false) (then_stop es)) h.0, no_polls es h.1)

stops_app : (es fs : List ℕ) → NoStops es → NoStops fs → NoStops (es ++ fs)
stops_app [] fs h k = k
stops_app (e ∷ es) fs h k = (h.0, stops_app es fs h.1 k)

stops_bits : (es : List ℕ) (v n : ℕ) → NoStops es → NoStops (then_bits es v n)
stops_bits es v zero h = h
stops_bits es v (suc n) h = stops_app (then_bits es v n) _ (stops_bits es v n h) (no_stop v n, tt)

stops_byte : (es : List ℕ) (v : ℕ) → NoStops es → NoStops (then_byte es v 1)
stops_byte es v h = stops_app (then_bits es v 8) _ (stops_bits es v 8 h) (refl, tt)

module _ (r : Request) (xs : List ℕ) (a : Accepted r xs) (h : 0 < r.length) (n l : ℕ) (b : bound_of r < n) where
  some : 0 < n
  some = omega arith

  answer_is : (k : ℕ) (f : Refusal) (es : List ℕ) → ((on : Out) → head_out r xs (failing k n) [] 0 on ≡ ends_refused r xs (failing k n) f es 0) → NoStops es → answers our_driver r xs (failing k n) l ≡ Refused f 0 0
  answer_is k f es g z =
      let d : bound_of r < length (failing k n) = omega (arith, length-append {A = ℕ} (replicate k 0) (replicate n 1), length-replicate {A = ℕ} n 1) in
      ap (λ (o : Out). o.answer) (ends_as r xs (failing k n) our_driver l promises a ((promises.one_each r xs a (failing k n) l).bound d) ∙ head_out_lem r xs (failing k n) h _ g r.reads)
      ∙ ap (λ (q : ℕ). Refused f q 0) (no_polls es z)

  stops_select : NoStops (then_select r [] 0)
  stops_select = stops_byte (then_start []) (select_of r 0) (refl, tt)

  first_fails : (w : Bool) → wide r ≡ w → answers our_driver r xs (failing 19 n) l ≡ Refused (NoFirst (page_at r 0)) 0 0
  first_fails true e =
      answer_is 19 (NoFirst (page_at r 0)) (then_high r true [] 0) (λ on. high_no r xs (failing 19 n) (wide r) [] 0 _ e (failing_acked 19 n 10 (omega arith)) (failing_missed 19 n some))
      (stops_byte (then_select r [] 0) (address_at r 0 / 256 % 256) stops_select)
  first_fails false e =
      answer_is 19 (NoFirst (page_at r 0)) (last_by r xs (failing 19 n) false [] 0) (λ on. last_no r xs (failing 19 n) false [] 0 _ e (failing_acked 19 n 10 (omega arith)) (failing_missed 19 n some))
      (stops_byte (then_select r [] 0) (address_at r 0 % 256) stops_select)

pub faulty_line : FaultyLine our_driver
faulty_line r xs a h n l b =
    let s = some r xs a h n l b in
    let z = stops_select r xs a h n l b in
    record {
      select = answer_is r xs a h n l b 10 (NoSelect (page_at r 0)) (then_select r [] 0) (λ on. select_no r xs (failing 10 n) (wide r) [] 0 _ (failing_missed 10 n s)) z;
      first = first_fails r xs a h n l b (wide r) refl;
      second = λ e.
          answer_is r xs a h n l b 28 (NoSecond (page_at r 0)) (last_by r xs (failing 28 n) true [] 0)
          (λ on. last_no r xs (failing 28 n) true [] 0 _ e (failing_acked 28 n 10 (omega arith), failing_acked 28 n 19 (omega arith)) (failing_missed 28 n s))
          (stops_byte (then_high r true [] 0) (address_at r 0 % 256) (stops_byte (then_select r [] 0) (address_at r 0 / 256 % 256) z));
    }
