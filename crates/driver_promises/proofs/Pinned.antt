-- The promises leave nothing open: the levels told decide the events, the answer and the buffer of whoever keeps them.
-- Assumes nothing.
use Prim.Native.Nat.{ℕ, zero, suc, ◌+◌, ◌-◌, ◌%◌, ◌≤◌, ◌<◌}
use mathlib.Core.Path.{◌≡◌, refl, sym, ◌∙◌, ap, subst}
use mathlib.Core.Bool.{Bool, true, false, cond, false≢true}
use mathlib.Core.List.{List, [], ◌∷◌, ◌++◌, append_assoc}
use mathlib.Core.Logic.{⊎_elim}
use lib.ListN.{length, get_or, replicate, length-append, length-replicate}
use lib.Seq.{ext_get_or}
use lib.Dec.{eqb}
use native.Mathlib.Omega.{arith}
use borrow.Author.Tests.{eq-eqb, ne_eqb, eqb-true, eqb-false}
use Rattle.parts.specs.declared.Refusal.{Refusal}
use Rattle.parts.specs.declared.Refusal.TheVariants.{NoSelect, NoData, PollsUsed, NoFirst}
use Rattle.parts.specs.Refusals.{is_fine}
use Rattle.driver.specs.declared.Request.{Request}
use Rattle.driver.specs.declared.Answer.{Answer}
use Rattle.driver.specs.declared.Answer.TheVariants.{Send, Done, Refused}
use Rattle.driver.specs.Request.{allowed_of, k_of}
use Rattle.driver.specs.Step.{last_address_of, page_at}
use Rattle.driver.proofs.Facts.{good_request}
use Rattle.driver.specs.Machine.{Machine}
use Rattle.driver_promises.specs.Run.{DriverHeld, begun, sent_by, answer_to, told, after_all, events_sent, Finished, polls_in, bound_of, clock_of_byte}
use Rattle.driver_promises.specs.Plan.{then_start, then_stop, then_byte, then_polls, then_data, address_at, select_of, then_select, then_high, then_head, length_of, then_part, then_parts, parts_end_of, read_plan}
use Rattle.driver_promises.specs.Heard.{Acked, Missed, PollsMissed, DataAcked, HighAcked, HeadAcked, PartsTold}
use Rattle.driver_promises.specs.Where.{left_of, Within, RefusedByte, the_select, the_first, the_only, the_second, the_turn, the_data, the_poll, Before, Stopped}
use Rattle.driver_promises.specs.Promises.{Accepted, after, sent, answers, DoneAll, DoneOf, RefusedAt, BufferSoFar, Promises}
use Rattle.driver_promises.specs.Pinned.{Pinned}
use Rattle.driver_promises.proofs.Inv.{wide, stop, left_all, left_cut, less}
use Rattle.driver_promises.proofs.Numbers.{less_or_more}

-- the events of a whole run, and its answer
pub record Out : Type 0 where
  pub events : List ℕ
  pub answer : Answer

missed_at_lem : (ls : List ℕ) (i : ℕ) → 0 < get_or ls i 0 → 0 < get_or ls i 1
missed_at_lem [] i h = absurd (omega arith)
missed_at_lem (x ∷ ls) zero h = h
missed_at_lem (x ∷ ls) (suc i) h = missed_at_lem ls i h

module _ (r : Request) (xs ls : List ℕ) where
  -- ---- a run read off the levels
  abbrev ends_done : List ℕ → Out
  ends_done es = record { events = es; answer = Done (polls_in false es) r.length }

  -- the last of the events es was missed
  abbrev pub ends_refused : Refusal → List ℕ → ℕ → Out
  ends_refused f es m = record { events = then_stop es; answer = Refused f (polls_in false (then_stop es)) m }

  abbrev ask : List ℕ → Out → Out → Out
  ask es on off = cond (eqb (get_or ls (length es) 1) 0) on off

  -- select and address
  abbrev pub last_by : Bool → List ℕ → ℕ → List ℕ
  last_by b es o = then_byte (then_high r b es o) (address_at r o % 256) 1

  abbrev high_out : Bool → List ℕ → ℕ → Out → Out
  high_out true es o on = ask (then_select r es o) (ask (then_high r true es o) on (ends_refused (NoFirst (page_at r o)) (then_high r true es o) o)) (ends_refused (NoSelect (page_at r o)) (then_select r es o) o)
  high_out false es o on = ask (then_select r es o) on (ends_refused (NoSelect (page_at r o)) (then_select r es o) o)

  abbrev head_by : Bool → List ℕ → ℕ → Out → Out
  head_by b es o on = high_out b es o (ask (last_by b es o) on (ends_refused (last_address_of b (page_at r o)) (last_by b es o) o))

  abbrev pub head_out : List ℕ → ℕ → Out → Out
  head_out es o on = head_by (wide r) es o on

  abbrev data_out : List ℕ → ℕ → ℕ → Out → Out
  data_out es o zero on = on
  data_out es o (suc m) on = data_out es o m (ask (then_data es xs o (suc m)) on (ends_refused (NoData (o + m)) (then_data es xs o (suc m)) o))

  -- k polls are left of those allowed, t are sent
  abbrev polls_out : List ℕ → ℕ → ℕ → ℕ → ℕ → (ℕ → Out) → Out
  polls_out es v o zero t on = ends_refused PollsUsed (then_polls es v t) o
  polls_out es v o (suc k) t on = ask (then_polls es v (suc t)) (on (suc t)) (polls_out es v o k (suc t) on)

  abbrev parts_out : ℕ → List ℕ → ℕ → Out
  parts_out zero es o = ends_done es
  parts_out (suc n) es o =
      head_out es o
      (data_out (then_head r es o) o (length_of r o)
      (polls_out (then_stop (then_data (then_head r es o) xs o (length_of r o))) (select_of r o) o (allowed_of r) 0 (λ q. parts_out n (then_part r es xs o q) (o + length_of r o))))

  abbrev turned : List ℕ
  turned = then_byte (then_start (then_head r [] 0)) (select_of r 0 + 1) 1

  abbrev pub out : Bool → Out
  out true = cond (eqb r.length 0) (ends_done []) (head_out [] 0 (ask turned (ends_done (read_plan r)) (ends_refused (NoSelect (page_at r 0)) turned 0)))
  out false = parts_out (k_of r) [] 0

  -- ---- it goes as the levels say
  ask_yes : (es : List ℕ) (on off : Out) → Acked ls es → ask es on off ≡ on
  ask_yes es on off h = ap (λ (t : Bool). cond t on off) (eq-eqb (get_or ls (length es) 1) 0 h)

  ask_no : (es : List ℕ) (on off : Out) → Missed ls es → ask es on off ≡ off
  ask_no es on off h = let k = missed_at_lem ls (length es) h in ap (λ (t : Bool). cond t on off) (ne_eqb (get_or ls (length es) 1) 0 (λ z. omega arith))

  high_yes : (b : Bool) (es : List ℕ) (o : ℕ) (on : Out) → HighAcked ls r b es o → high_out b es o on ≡ on
  high_yes true es o on h = ask_yes (then_select r es o) _ _ h.0 ∙ ask_yes (then_high r true es o) _ _ h.1
  high_yes false es o on h = ask_yes (then_select r es o) _ _ h

  head_yes : (es : List ℕ) (o : ℕ) (on : Out) → HeadAcked ls r es o → head_out es o on ≡ on
  head_yes es o on h = high_yes (wide r) es o _ h.0 ∙ ask_yes (then_head r es o) _ _ h.1

  pub select_no : (b : Bool) (es : List ℕ) (o : ℕ) (on : Out) → Missed ls (then_select r es o) → high_out b es o on ≡ ends_refused (NoSelect (page_at r o)) (then_select r es o) o
  select_no true es o on h = ask_no (then_select r es o) _ _ h
  select_no false es o on h = ask_no (then_select r es o) _ _ h

  pub high_no : (b : Bool) (es : List ℕ) (o : ℕ) (on : Out) → b ≡ true → Acked ls (then_select r es o) → Missed ls (then_high r true es o) → high_out b es o on ≡ ends_refused (NoFirst (page_at r o)) (then_high r true es o) o
  high_no true es o on e h k = ask_yes (then_select r es o) _ _ h ∙ ask_no (then_high r true es o) _ _ k
  high_no false es o on e h k = absurd (false≢true e)

  pub last_no : (b : Bool) (es : List ℕ) (o : ℕ) (on : Out) → wide r ≡ b → HighAcked ls r b es o → Missed ls (last_by b es o) → head_out es o on ≡ ends_refused (last_address_of b (page_at r o)) (last_by b es o) o
  last_no b es o on e a h = ap (λ (t : Bool). head_by t es o on) e ∙ (high_yes b es o _ a ∙ ask_no (last_by b es o) _ _ h)

  data_yes : (es : List ℕ) (o m : ℕ) (on : Out) → DataAcked ls es xs o m → data_out es o m on ≡ on
  data_yes es o zero on h = refl
  data_yes es o (suc m) on h = data_yes es o m _ h.0 ∙ ask_yes (then_data es xs o (suc m)) _ _ h.1

  data_no : (es : List ℕ) (o i m : ℕ) (on : Out) → i < m → DataAcked ls es xs o i → Missed ls (then_data es xs o (suc i)) → data_out es o m on ≡ ends_refused (NoData (o + i)) (then_data es xs o (suc i)) o
  data_no es o i zero on l h k = absurd (omega arith)
  data_no es o i (suc m) on l h k = go (eqb i m) refl (λ n y. data_no es o i m y n h k)
    where
      go : (t : Bool) → eqb i m ≡ t → (i < m → (y : Out) → data_out es o m y ≡ ends_refused (NoData (o + i)) (then_data es xs o (suc i)) o) → data_out es o (suc m) on ≡ ends_refused (NoData (o + i)) (then_data es xs o (suc i)) o
      go true e f =
          let z = eqb-true i m e in
          subst (λ (n : ℕ). data_out es o (suc n) on ≡ ends_refused (NoData (o + i)) (then_data es xs o (suc i)) o) z (data_yes es o i _ h ∙ ask_no (then_data es xs o (suc i)) _ _ k)
      go false e f = f (less i m (eqb-false i m e) (omega arith)) _

  missed_get : (es : List ℕ) (v n i : ℕ) → PollsMissed ls es v n → i < n → Missed ls (then_polls es v (suc i))
  missed_get es v zero i h l = absurd (omega arith)
  missed_get es v (suc n) i h l = go (eqb i n) refl (λ k. missed_get es v n i h.0 k)
    where
      go : (t : Bool) → eqb i n ≡ t → (i < n → Missed ls (then_polls es v (suc i))) → Missed ls (then_polls es v (suc i))
      go true e f = subst (λ (j : ℕ). Missed ls (then_polls es v (suc j))) (sym (eqb-true i n e)) h.1
      go false e f = f (less i n (eqb-false i n e) (omega arith))

  polls_yes : (es : List ℕ) (v o q k t : ℕ) (on : ℕ → Out) → PollsMissed ls es v (q - 1) → Acked ls (then_polls es v q) → t < q → q ≤ t + k → polls_out es v o k t on ≡ on q
  polls_yes es v o q zero t on h a l m = absurd (omega arith)
  polls_yes es v o q (suc k) t on h a l m = go (eqb (suc t) q) refl (λ n. polls_yes es v o q k (suc t) on h a n (omega arith))
    where
      go : (b : Bool) → eqb (suc t) q ≡ b → (suc t < q → polls_out es v o k (suc t) on ≡ on q) → polls_out es v o (suc k) t on ≡ on q
      go true e f =
          let z = eqb-true (suc t) q e in
          ask_yes (then_polls es v (suc t)) _ _ (subst (λ (n : ℕ). Acked ls (then_polls es v n)) (sym z) a) ∙ ap on z
      go false e f =
          let n = less (suc t) q (eqb-false (suc t) q e) (omega arith) in
          ask_no (then_polls es v (suc t)) _ _ (missed_get es v (q - 1) t h (omega arith)) ∙ f n

  polls_no : (es : List ℕ) (v o n k t : ℕ) (on : ℕ → Out) → PollsMissed ls es v n → n ≡ t + k → polls_out es v o k t on ≡ ends_refused PollsUsed (then_polls es v n) o
  polls_no es v o n zero t on h e = let z : t ≡ n = omega arith in ap (λ (i : ℕ). ends_refused PollsUsed (then_polls es v i) o) z
  polls_no es v o n (suc k) t on h e = ask_no (then_polls es v (suc t)) _ _ (missed_get es v n t h (omega arith)) ∙ polls_no es v o n k (suc t) on h (omega arith)

  parts_yes : (k n : ℕ) (qs es : List ℕ) (o : ℕ) → k ≡ length qs + n → Within (allowed_of r) qs → PartsTold ls r es xs o qs → parts_out k es o ≡ parts_out n (then_parts r es xs o qs) (parts_end_of r o qs)
  parts_yes k n [] es o e w h = let z : k ≡ n = omega arith in ap (λ (i : ℕ). parts_out i es o) z
  parts_yes zero n (q ∷ qs) es o e w h = absurd (omega arith)
  parts_yes (suc k) n (q ∷ qs) es o e w h =
      let t = h.0 in
      let a = w.0 in
      let b = w.1 in
      head_yes es o _ t.0.0
      ∙ (data_yes (then_head r es o) o (length_of r o) _ t.0.1
      ∙ (polls_yes _ (select_of r o) o q (allowed_of r) 0 _ t.1 t.2 (omega arith) (omega arith)
      ∙ parts_yes k n qs (then_part r es xs o q) (o + length_of r o) (omega arith) w.2 h.1))

  -- ---- where a refusal stands
  byte_write : {past : List ℕ} {m : ℕ} {f : Refusal} {v : ℕ} {bef : List ℕ} → RefusedByte r xs ls past m f v bef → r.reads ≡ false → 1 ≤ allowed_of r → Missed ls (then_byte bef v 1) → (n : ℕ) → parts_out (suc n) past m ≡ ends_refused f (then_byte bef v 1) m
  byte_write {past} {m} the_select w b h n = select_no (wide r) past m _ h
  byte_write {past} {m} (the_first e a) w b h n = high_no (wide r) past m _ e a h
  byte_write {past} {m} (the_only e a) w b h n = last_no false past m _ e a h
  byte_write {past} {m} (the_second e a) w b h n = last_no true past m _ e a h
  byte_write (the_turn e a) w b h n = absurd (false≢true (sym w ∙ e))
  byte_write {past} {m} (the_data i e l a) w b h n = head_yes past m _ a.0 ∙ data_no (then_head r past m) m i (length_of r m) _ l a.1 h
  byte_write {past} {m} (the_poll e a p) w b h n =
      head_yes past m _ a.0
      ∙ (data_yes (then_head r past m) m (length_of r m) _ a.1
      ∙ polls_no (then_stop (then_data (then_head r past m) xs m (length_of r m))) (select_of r m) m (suc (allowed_of r - 1)) (allowed_of r) 0 _ (p, h) (omega arith))

  byte_read : {f : Refusal} {v : ℕ} {bef : List ℕ} → RefusedByte r xs ls [] 0 f v bef → r.reads ≡ true → Missed ls (then_byte bef v 1) → head_out [] 0 (ask turned (ends_done (read_plan r)) (ends_refused (NoSelect (page_at r 0)) turned 0)) ≡ ends_refused f (then_byte bef v 1) 0
  byte_read the_select w h = select_no (wide r) [] 0 _ h
  byte_read (the_first e a) w h = high_no (wide r) [] 0 _ e a h
  byte_read (the_only e a) w h = last_no false [] 0 _ e a h
  byte_read (the_second e a) w h = last_no true [] 0 _ e a h
  byte_read (the_turn e a) w h = head_yes [] 0 _ a ∙ ask_no turned _ _ h
  byte_read (the_data i e l a) w h = absurd (false≢true (sym e ∙ w))
  byte_read (the_poll e a p) w h = absurd (false≢true (sym e ∙ w))

  reads_some : 0 < r.length → out true ≡ head_out [] 0 (ask turned (ends_done (read_plan r)) (ends_refused (NoSelect (page_at r 0)) turned 0))
  reads_some h = ap (λ (t : Bool). cond t (ends_done []) (head_out [] 0 (ask turned (ends_done (read_plan r)) (ends_refused (NoSelect (page_at r 0)) turned 0)))) (ne_eqb r.length 0 (λ z. omega arith))

  -- a run of a byte or more ends where its head does
  pub head_out_lem : 0 < r.length → (o : Out) → ((on : Out) → head_out [] 0 on ≡ o) → (b : Bool) → out b ≡ o
  head_out_lem h o f true = reads_some h ∙ f _
  head_out_lem h o f false = ap (λ (i : ℕ). parts_out i [] 0) (sym (left_all r) ∙ left_cut r 0 h) ∙ f _

  stopped_out : (f : Refusal) (m q : ℕ) (es : List ℕ) → (r.reads ≡ false → 1 ≤ allowed_of r) → (r.reads ≡ true → m ≡ 0) → (s : Stopped r xs f m q es ls) → out r.reads ≡ ends_refused f (then_byte s.before s.byte 1) m
  stopped_out f m q es b z s = go r.reads refl s.parts
    where
      go : (t : Bool) → r.reads ≡ t → Before t r xs ls m s.spent s.past → out t ≡ ends_refused f (then_byte s.before s.byte 1) m
      go true e p =
          let k = s.short in
          let o = z e in
          let y : s.past ≡ [] = p.0 ∙ ap (λ (t : Bool). cond t [] (read_plan r)) (eq-eqb m 0 o) in
          let w = subst (λ (i : ℕ). RefusedByte r xs ls [] i f s.byte s.before) o (subst (λ (u : List ℕ). RefusedByte r xs ls u m f s.byte s.before) y s.which) in
          reads_some (omega arith) ∙ (byte_read w e s.level ∙ ap (ends_refused f (then_byte s.before s.byte 1)) (sym o))
      go false e p =
          let l = left_cut r m s.short in
          let u = parts_yes (k_of r) (left_of r m) p.each [] 0 (sym p.pages) p.within p.levels in
          u
          ∙ (ap (λ (y : List ℕ). parts_out (left_of r m) y (parts_end_of r 0 p.each)) (sym p.events)
          ∙ (ap (parts_out (left_of r m) s.past) p.ends
          ∙ (ap (λ (i : ℕ). parts_out i s.past m) l ∙ byte_write s.which e (b e) s.level (left_of r (stop r m)))))

  module _ (M : Machine) (l : ℕ) where
    abbrev pub whole : Out
    whole = record { events = sent M r xs ls l; answer = answers M r xs ls l }

    done_out : (q m : ℕ) → q ≡ polls_in false (sent M r xs ls l) → DoneAll M r xs ls l q m → record { events = sent M r xs ls l; answer = Done q m } ≡ out r.reads
    done_out q m e d =
        let S = sent M r xs ls l in
        ap (λ (i : ℕ). record { events = S; answer = Done i m }) e
        ∙ (ap (λ (i : ℕ). record { events = S; answer = Done (polls_in false S) i }) d.bytes ∙ go r.reads d.plan)
      where
        go : (t : Bool) → DoneOf M r xs ls l t q → ends_done (sent M r xs ls l) ≡ out t
        go true p = none (eqb r.length 0) refl
          where
            none : (t : Bool) → eqb r.length 0 ≡ t → ends_done (sent M r xs ls l) ≡ out true
            none true z = ap ends_done (d.nothing (eqb-true _ _ z)) ∙ sym (ap (λ (t : Bool). cond t (ends_done []) (head_out [] 0 (ask turned (ends_done (read_plan r)) (ends_refused (NoSelect (page_at r 0)) turned 0)))) z)
            none false z =
                let f = eqb-false r.length 0 z in
                let o : 0 < r.length = omega (arith, f) in
                ap ends_done (p.events o) ∙ sym (reads_some o ∙ (head_yes [] 0 _ (p.levels o).0 ∙ ask_yes turned _ _ (p.levels o).1))
        go false p =
            let u = parts_yes (k_of r) 0 p.polls [] 0 (let k = p.pages in omega arith) p.within p.levels in
            ap ends_done p.events ∙ sym u

    refused_out : (f : Refusal) (q m : ℕ) → (r.reads ≡ false → 1 ≤ allowed_of r) → q ≡ polls_in false (sent M r xs ls l) → RefusedAt M r xs ls l f q m → record { events = sent M r xs ls l; answer = Refused f q m } ≡ out r.reads
    refused_out f q m b e d =
        let S = sent M r xs ls l in
        let s = d.stopped in
        ap (λ (i : ℕ). record { events = S; answer = Refused f i m }) e
        ∙ (ap (λ (y : List ℕ). record { events = y; answer = Refused f (polls_in false y) m }) s.events
        ∙ sym (stopped_out f m q S b (λ t. (d.none t).0) s))

    -- ---- whoever keeps the promises and is finished has sent and answered that
    pub ends_as : Promises M → Accepted r xs → Finished (answers M r xs ls l) → whole ≡ out r.reads
    ends_as p a = go (answers M r xs ls l) refl
      where
        go : (b : Answer) → answers M r xs ls l ≡ b → Finished b → whole ≡ out r.reads
        go (Send e) k f = absurd f
        go (Done q m) k f = ap (λ (b : Answer). record { events = sent M r xs ls l; answer = b }) k ∙ done_out q m ((p.polls_sent r xs a ls l).done q m k) (p.done_all r xs a ls l q m k)
        go (Refused g q m) k f =
            ap (λ (b : Answer). record { events = sent M r xs ls l; answer = b }) k
            ∙ refused_out g q m (good_request r (ap is_fine a.fine)).low ((p.polls_sent r xs a ls l).refused g q m k) (p.refused_at r xs a ls l q m g k)

-- ---- runs put together
module _ (M : Machine) where
  after_app : (h : DriverHeld) (ls ks : List ℕ) → after_all M h (ls ++ ks) ≡ after_all M (after_all M h ls) ks
  after_app h [] ks = refl
  after_app h (l ∷ ls) ks = after_app (told M h l) ls ks

  events_app : (h : DriverHeld) (ls ks : List ℕ) → events_sent M h (ls ++ ks) ≡ events_sent M h ls ++ events_sent M (after_all M h ls) ks
  events_app h [] ks = refl
  events_app h (l ∷ ls) ks =
      ap (λ (es : List ℕ). sent_by (answer_to M h l) ++ es) (events_app (told M h l) ls ks)
      ∙ sym (append_assoc (sent_by (answer_to M h l)) (events_sent M (told M h l) ls) (events_sent M (after_all M (told M h l) ls) ks))

  sent_one : (a : Answer) → length (sent_by a) ≤ 1
  sent_one (Send e) = omega arith
  sent_one (Done q m) = omega arith
  sent_one (Refused f q m) = omega arith

  events_most : (h : DriverHeld) (ls : List ℕ) → length (events_sent M h ls) ≤ length ls
  events_most h [] = omega arith
  events_most h (l ∷ ls) = omega (arith, events_most (told M h l) ls, sent_one (answer_to M h l), length-append (sent_by (answer_to M h l)) (events_sent M (told M h l) ls))

  sent_none : (a : Answer) → Finished a → sent_by a ≡ []
  sent_none (Send e) f = absurd f
  sent_none (Done q m) f = refl
  sent_none (Refused g q m) f = refl

  events_none : (h : DriverHeld) → ((k : ℕ) → (told M h k ≡ h) × Finished (answer_to M h k)) → (ks : List ℕ) → events_sent M h ks ≡ []
  events_none h f [] = refl
  events_none h f (k ∷ ks) =
      ap (λ (es : List ℕ). es ++ events_sent M (told M h k) ks) (sent_none (answer_to M h k) (f k).1)
      ∙ (ap (λ (g : DriverHeld). events_sent M g ks) (f k).0 ∙ events_none h f ks)

-- lists that are the same have the same beginning
same_start : (a b s t : List ℕ) (x y : ℕ) → length a ≡ length b → a ++ (x ∷ s) ≡ b ++ (y ∷ t) → (a ≡ b) × (x ≡ y)
same_start [] [] s t x y n e = (refl, ap (λ (l : List ℕ). get_or l 0 0) e)
same_start [] (c ∷ b) s t x y n e = absurd (omega arith)
same_start (c ∷ a) [] s t x y n e = absurd (omega arith)
same_start (c ∷ a) (d ∷ b) s t x y n e =
    let w = same_start a b s t x y (omega arith) (ap tail e) in
    (ap (λ (z : ℕ). z ∷ a) (ap (λ (l : List ℕ). get_or l 0 0) e) ∙ ap (λ (z : List ℕ). d ∷ z) w.0, w.1)
  where
    tail : List ℕ → List ℕ
    tail [] = []
    tail (z ∷ l) = l

module _ (r : Request) (xs : List ℕ) (a : Accepted r xs) (ls : List ℕ) (l : ℕ) where
  -- the run goes on to its end
  abbrev rest : List ℕ
  rest = replicate (bound_of r) 0

  abbrev long : List ℕ
  long = ls ++ (l ∷ rest)

  module _ (M : Machine) (p : Promises M) where
    all_ends : Finished (answers M r xs long l)
    all_ends = (p.one_each r xs a long l).bound (omega (arith, length-append ls (l ∷ rest), length-replicate {A = ℕ} (bound_of r) 0))

    -- sending: one event for each level, and one more
    sends_on : (e : ℕ) → answers M r xs ls l ≡ Send e → (t : List ℕ) × (sent M r xs long l ≡ sent M r xs ls l ++ (e ∷ t)) × (length (sent M r xs ls l) ≡ length ls)
    sends_on e k =
        let h = after M r xs ls l in (
          events_sent M (told M h l) rest,
          events_app M (begun r xs) ls (l ∷ rest) ∙ ap (λ (b : Answer). sent M r xs ls l ++ (sent_by b ++ events_sent M (told M h l) rest)) k,
          (p.one_each r xs a ls l).each e k,
        )

    -- finished: nothing more
    stays_so : Finished (answers M r xs ls l) → length (sent M r xs long l) ≤ length ls
    stays_so f =
        let h = after M r xs ls l in
        let same = ((p.one_each r xs a ls l).again f).1 in
        let fin : (k : ℕ) → Finished (answer_to M h k) = λ k. subst Finished (sym (same k)) f in
        let n = events_none M h (λ k. (((p.one_each r xs a ls k).again (fin k)).0, fin k)) (l ∷ rest) in
        let e = events_app M (begun r xs) ls (l ∷ rest) in
        omega (arith, ap length e, length-append (sent M r xs ls l) (events_sent M h (l ∷ rest)), ap length n, events_most M (begun r xs) ls)

  module _ (M N : Machine) (p : Promises M) (q : Promises N) where
    long_same : sent M r xs long l ≡ sent N r xs long l
    long_same = ap (λ (o : Out). o.events) (ends_as r xs long M l p a (all_ends M p) ∙ sym (ends_as r xs long N l q a (all_ends N q)))

    unlike : (e : ℕ) → answers M r xs ls l ≡ Send e → Finished (answers N r xs ls l) → ⊥
    unlike e k f =
        let w = sends_on M p e k in
        omega (arith, ap length long_same, ap length w.1, length-append (sent M r xs ls l) (e ∷ w.0), w.2, stays_so N q f)

module _ (M N : Machine) (p : Promises M) (q : Promises N) (r : Request) (xs : List ℕ) (a : Accepted r xs) (ls : List ℕ) (l : ℕ) where
  abbrev Both : Type 0
  Both = (sent M r xs ls l ≡ sent N r xs ls l) × (answers M r xs ls l ≡ answers N r xs ls l)

  ended : Finished (answers M r xs ls l) → Finished (answers N r xs ls l) → Both
  ended f g =
      let e = ends_as r xs ls M l p a f ∙ sym (ends_as r xs ls N l q a g) in
      (ap (λ (o : Out). o.events) e, ap (λ (o : Out). o.answer) e)

  both : (b c : Answer) → answers M r xs ls l ≡ b → answers N r xs ls l ≡ c → Both
  both (Send e) (Send d) k j =
      let w = sends_on r xs a ls l M p e k in
      let u = sends_on r xs a ls l N q d j in
      let s = same_start (sent M r xs ls l) (sent N r xs ls l) w.0 u.0 e d (w.2 ∙ sym u.2) (sym w.1 ∙ (long_same r xs a ls l M N p q ∙ u.1)) in
      (s.0, k ∙ (ap Send s.1 ∙ sym j))
  both (Send e) (Done n m) k j = absurd (unlike r xs a ls l M N p q e k (subst Finished (sym j) tt))
  both (Send e) (Refused f n m) k j = absurd (unlike r xs a ls l M N p q e k (subst Finished (sym j) tt))
  both (Done n m) (Send d) k j = absurd (unlike r xs a ls l N M q p d j (subst Finished (sym k) tt))
  both (Refused f n m) (Send d) k j = absurd (unlike r xs a ls l N M q p d j (subst Finished (sym k) tt))
  both (Done n m) (Done n' m') k j = ended (subst Finished (sym k) tt) (subst Finished (sym j) tt)
  both (Done n m) (Refused f' n' m') k j = ended (subst Finished (sym k) tt) (subst Finished (sym j) tt)
  both (Refused f n m) (Done n' m') k j = ended (subst Finished (sym k) tt) (subst Finished (sym j) tt)
  both (Refused f n m) (Refused f' n' m') k j = ended (subst Finished (sym k) tt) (subst Finished (sym j) tt)

  -- the buffer: the events say how many bytes are in it
  abbrev Left : Type 0
  Left = (after M r xs ls l).buffer ≡ (after N r xs ls l).buffer

  left : sent M r xs ls l ≡ sent N r xs ls l → Left
  left e = go r.reads refl
    where
      P : BufferSoFar M r xs ls l
      P = p.buffer_so_far r xs a ls l

      Q : BufferSoFar N r xs ls l
      Q = q.buffer_so_far r xs a ls l

      one : r.reads ≡ true → (i : ℕ) → i < r.length → get_or (after M r xs ls l).buffer i 0 ≡ get_or (after N r xs ls l).buffer i 0
      one w i h =
          let n = ap length e in
          ⊎_elim (λ k. P.got w i h k ∙ sym (Q.got w i h (omega arith))) (λ k. P.before w i h k ∙ sym (Q.before w i h (omega arith)))
          (less_or_more (clock_of_byte r i + 8) (length (sent M r xs ls l)))

      go : (b : Bool) → r.reads ≡ b → Left
      go true w = let s = P.size in ext_get_or 0 _ _ (P.size ∙ sym Q.size) (λ i h. one w i (omega arith))
      go false w = P.write w ∙ sym (Q.write w)

pub pinned : Pinned
pinned M N p q r xs a ls l =
    let w = both M N p q r xs a ls l (answers M r xs ls l) (answers N r xs ls l) refl refl in
    record { events = w.0; answer = w.1; buffer = left M N p q r xs a ls l w.0 }
