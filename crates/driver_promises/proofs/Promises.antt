-- Our driver keeps its promises.
-- Assumes nothing.
use Prim.Native.Nat.{ℕ, ◌+◌, ◌-◌, ◌*◌, ◌<◌}
use mathlib.Core.Path.{◌≡◌, refl, sym, ◌∙◌, ap, subst}
use mathlib.Core.Bool.{Bool, true, false, cond}
use mathlib.Core.List.{List, [], ◌∷◌}
use lib.ListN.{length, get_or}
use lib.Dec.{eqb}
use native.Mathlib.Omega.{arith}
use borrow.Author.Tests.{eq-eqb, ne_eqb}
use Rattle.parts.specs.declared.Refusal.{Refusal}
use Rattle.parts.specs.Refusals.{is_fine}
use Rattle.driver.specs.declared.Request.{Request}
use Rattle.driver.specs.declared.Failed.{Failed}
use Rattle.driver.specs.declared.Phase.{Phase}
use Rattle.driver.specs.declared.Phase.TheVariants.{Ready, Bits, Heard, Rest, Over}
use Rattle.driver.specs.declared.Counts.{Counts}
use Rattle.driver.specs.declared.Driver.{Driver}
use Rattle.driver.specs.declared.Answer.{Answer}
use Rattle.driver.specs.declared.Answer.TheVariants.{Send, Done, Refused}
use Rattle.driver.specs.declared.Move.{Move}
use Rattle.driver.specs.declared.Asked.{Asked}
use Rattle.driver.specs.Split.{sum}
use Rattle.driver.specs.Request.{judge_of, k_of}
use Rattle.driver.specs.Step.{refusal_of, buffer_of}
use Rattle.driver.specs.Machine.{our_driver}
use Rattle.driver_promises.specs.Run.{DriverHeld, begun, answer_to, told, Finished, clocks_in, address_bytes, bound_of}
use Rattle.driver_promises.specs.Plan.{write_plan, read_plan}
use Rattle.driver_promises.specs.Heard.{ReadTold}
use Rattle.driver_promises.specs.Where.{left_of, Parts, Before, Stopped}
use Rattle.driver_promises.specs.Promises.{Accepted, after, sent, answers, OneEach, PollsSent, DoneAll, DoneOf, RefusedAt, BufferSoFar, Promises}
use Rattle.driver_promises.specs.Idle.{rests_in}
use Rattle.driver_promises.proofs.View.{at, Way, w_done, w_open, w_bit, w_ninth, w_got, w_nack, w_high, w_only, w_low, w_turn, w_data, w_more, w_close, w_drop, w_poll, w_again, w_give, w_page, w_take, w_next, w_end, w_over, Steps}
use Rattle.driver_promises.proofs.Inv.{left_all, left_none}
use Rattle.driver_promises.proofs.Grow.{A, D, heads, over}
use Rattle.driver_promises.proofs.Trail.{Told}
use Rattle.driver_promises.proofs.Story.{Story, Ran, held, one_step, ran}
use Rattle.driver_promises.proofs.Bound.{bounded, no_polls}
use Rattle.driver_promises.proofs.Buffer.{Upto, upto, write_left}

-- ---- what an answer says of the state it came from
abbrev Says : Answer → Request → Phase → Counts → Type 0
Says (Send e) r p c = Unit {0}
Says (Done q n) r p c = (p ≡ Ready) × (c.at ≡ r.length) × (q ≡ c.polls) × (n ≡ c.seen)
Says (Refused f q n) r p c = (w : Failed) × (p ≡ Over w) × (f ≡ refusal_of r c w) × (q ≡ c.polls) × (n ≡ c.seen)

-- a step that is finished leaves everything, and the level does not matter
record Still (r : Request) (p : Phase) (c : Counts) (xs : List ℕ) (m : Move) (ys : List ℕ) : Type 0 where
  phase : m.phase ≡ p
  counts : m.counts ≡ c
  buffer : ys ≡ xs

-- who is still sending
abbrev Busy : Phase → Request → Counts → Type 0
Busy Ready r c = c.at ≡ r.length → ⊥
Busy (Bits s b) r c = Unit {0}
Busy (Heard s) r c = Unit {0}
Busy Rest r c = Unit {0}
Busy (Over f) r c = ⊥

-- an answer, and what goes with it
abbrev Goes : Answer → Request → Phase → Counts → List ℕ → Move → List ℕ → Type 0
Goes (Send e) r p c xs m ys = Busy p r c
Goes (Done q n) r p c xs m ys = Says (Done q n) r p c × Still r p c xs m ys
Goes (Refused f q n) r p c xs m ys = Says (Refused f q n) r p c × Still r p c xs m ys

goes_on : {r : Request} {c : Counts} {l : ℕ} {xs ys : List ℕ} {p : Phase} {m : Move} → Way r c l xs p m ys → Goes m.answer r p c xs m ys
goes_on (w_done e) = ((refl, e, refl, refl), record { phase = refl; counts = refl; buffer = refl })
goes_on (w_open n) = n
goes_on (w_bit s b h) = tt
goes_on (w_ninth s b e h) = tt
goes_on (w_got b e h) = tt
goes_on (w_nack s e h) = tt
goes_on (w_high z e) = tt
goes_on (w_only z e) = tt
goes_on (w_low z) = tt
goes_on (w_turn z e) = tt
goes_on (w_data z e) = tt
goes_on (w_more z n) = tt
goes_on (w_close z e) = tt
goes_on (w_drop z) = tt
goes_on w_poll = tt
goes_on (w_again z o) = tt
goes_on (w_give z o) = tt
goes_on (w_page z) = tt
goes_on (w_take z) = tt
goes_on (w_next n) = tt
goes_on (w_end e) = tt
goes_on (w_over f) = ((f, refl, refl, refl, refl), record { phase = refl; counts = refl; buffer = refl })

-- who is not sending answers this, whatever the level
abbrev Rests : Phase → Request → Counts → Answer → Type 0
Rests Ready r c a = c.at ≡ r.length → a ≡ Done c.polls c.seen
Rests (Bits s b) r c a = Unit {0}
Rests (Heard s) r c a = Unit {0}
Rests Rest r c a = Unit {0}
Rests (Over f) r c a = a ≡ Refused (refusal_of r c f) c.polls c.seen

rests : {r : Request} {c : Counts} {l : ℕ} {xs ys : List ℕ} {p : Phase} {m : Move} → Way r c l xs p m ys → Rests p r c m.answer
rests (w_done e) = λ _. refl
rests (w_open n) = λ e. absurd (n e)
rests (w_bit s b h) = tt
rests (w_ninth s b e h) = tt
rests (w_got b e h) = tt
rests (w_nack s e h) = tt
rests (w_high z e) = tt
rests (w_only z e) = tt
rests (w_low z) = tt
rests (w_turn z e) = tt
rests (w_data z e) = tt
rests (w_more z n) = tt
rests (w_close z e) = tt
rests (w_drop z) = tt
rests w_poll = tt
rests (w_again z o) = tt
rests (w_give z o) = tt
rests (w_page z) = tt
rests (w_take z) = tt
rests (w_next n) = tt
rests (w_end e) = tt
rests (w_over f) = refl

-- who is busy is not over, and has sent as many events as it was asked
busy_over : (p : Phase) (r : Request) (c : Counts) → Busy p r c → over p ≡ false
busy_over Ready r c b = refl
busy_over (Bits s n) r c b = refl
busy_over (Heard s) r c b = refl
busy_over Rest r c b = refl
busy_over (Over f) r c b = absurd b

busy_even : (p : Phase) (r : Request) (c : Counts) (ys es ls : List ℕ) → Busy p r c → Told p r c ys es ls → length es ≡ length ls
busy_even Ready r c ys es ls b t = t.1 b
busy_even (Bits s n) r c ys es ls b t = t.1
busy_even (Heard s) r c ys es ls b t = t.1
busy_even Rest r c ys es ls b t = t.1
busy_even (Over f) r c ys es ls b t = absurd b

abbrev hold : Driver → List ℕ → DriverHeld
hold d ys = record { driver = d; buffer = ys }

-- ---- one asking at the end of a story
module _ (r : Request) (xs : List ℕ) (p : Phase) (c : Counts) (ys es ls : List ℕ) (v : Story r xs p c ys es ls) (l : ℕ) where
  abbrev H : DriverHeld
  H = held r xs p c ys

  -- the answer, with what goes with it
  here : (Q : Answer → Type 0) → ((m : Move) → Way r c l ys p m (buffer_of (at r p c) l ys) → Q m.answer) → Q (answer_to our_driver H l)
  here Q f = let s = one_step r xs v l in subst (λ (a : Asked). Q a.answer) (sym s.asked) (f s.move s.way)

  busy : (e : ℕ) → answer_to our_driver H l ≡ Send e → Busy p r c
  busy e = here (λ (a : Answer). a ≡ Send e → Busy p r c) (λ m w k. subst (λ (a : Answer). Goes a r p c ys m (buffer_of (at r p c) l ys)) k (goes_on w))

  says : (a : Answer) → answer_to our_driver H l ≡ a → Finished a → Says a r p c
  says a = here (λ (b : Answer). b ≡ a → Finished a → Says a r p c) (λ m w k. go m a (subst (λ (b : Answer). Goes b r p c ys m (buffer_of (at r p c) l ys)) k (goes_on w)))
    where
      go : (m : Move) (a : Answer) → Goes a r p c ys m (buffer_of (at r p c) l ys) → Finished a → Says a r p c
      go m (Send e) g f = tt
      go m (Done q n) g f = g.0
      go m (Refused k q n) g f = g.0

  still : Finished (answer_to our_driver H l) → told our_driver H l ≡ H
  still f = go (one_step r xs v l) f
    where
      same : (m : Move) (a : Answer) → Goes a r p c ys m (buffer_of (at r p c) l ys) → Finished a → Still r p c ys m (buffer_of (at r p c) l ys)
      same m (Send e) g f = absurd f
      same m (Done q n) g f = g.1
      same m (Refused k q n) g f = g.1

      go : (s : Steps r p c l ys) → Finished (answer_to our_driver H l) → told our_driver H l ≡ H
      go s f =
          let zs = buffer_of (at r p c) l ys in
          let t = same s.move s.move.answer (goes_on s.way) (subst (λ (a : Asked). Finished a.answer) s.asked f) in
          ap (λ (a : Asked). hold a.driver zs) s.asked
          ∙ (ap (λ (q : Phase). hold (at r q s.move.counts) zs) t.phase
          ∙ (ap (λ (d : Counts). hold (at r p d) zs) t.counts ∙ ap (hold (at r p c)) t.buffer))

  each : (e : ℕ) → answer_to our_driver H l ≡ Send e → length es ≡ length ls
  each e k = busy_even p r c ys es ls (busy e k) v.told

  bound : bound_of r < length ls → Finished (answer_to our_driver H l)
  bound h = here (λ (a : Answer). Finished a) (λ m w. go m m.answer (goes_on w))
    where
      go : (m : Move) (a : Answer) → Goes a r p c ys m (buffer_of (at r p c) l ys) → Finished a
      go m (Send e) b = let o = busy_over p r c b in omega (arith, busy_even p r c ys es ls b v.told, v.ends o, bounded r c p v.inv o)
      go m (Done q n) b = tt
      go m (Refused k q n) b = tt

-- the same answer again
module _ (r : Request) (xs : List ℕ) (p : Phase) (c : Counts) (ys es ls : List ℕ) (v : Story r xs p c ys es ls) (l k : ℕ) where
  again : Finished (answer_to our_driver (held r xs p c ys) l) → answer_to our_driver (held r xs p c ys) k ≡ answer_to our_driver (held r xs p c ys) l
  again f = go (answer_to our_driver (held r xs p c ys) l) (answer_to our_driver (held r xs p c ys) k) (says r xs p c ys es ls v l _ refl f) f (here r xs p c ys es ls v k (λ (a : Answer). Rests p r c a) (λ m w. rests w))
    where
      go : (a b : Answer) → Says a r p c → Finished a → Rests p r c b → b ≡ a
      go (Send e) b s f t = absurd f
      go (Done q n) b s f t =
          let t' = subst (λ (p : Phase). Rests p r c b) s.0 t in
          t' s.1 ∙ (ap (λ (x : ℕ). Done x c.seen) (sym s.2) ∙ ap (Done q) (sym s.3))
      go (Refused g q n) b s f t =
          let t' = subst (λ (p : Phase). Rests p r c b) s.1 t in
          t' ∙ (ap (λ (x : Refusal). Refused x c.polls c.seen) (sym s.2) ∙ (ap (λ (x : ℕ). Refused g x c.seen) (sym s.3) ∙ ap (Refused g q) (sym s.4)))

-- ---- done
module _ (r : Request) (xs : List ℕ) (c : Counts) (ys es ls : List ℕ) (v : Story r xs Ready c ys es ls) (e : c.at ≡ r.length) where
  all_seen : c.seen ≡ r.length
  all_seen = v.inv.here.same ∙ e

  left_zero : left_of r c.seen ≡ 0
  left_zero = ap (left_of r) all_seen ∙ left_none r

  write_plan_lem : r.reads ≡ false → Parts r xs ls c.seen c.polls es
  write_plan_lem w =
      let t = v.told.0 in
      let n = v.inv.here.none in
      let z : t.spent ≡ c.polls = omega (arith, t.sum) in
      let q = subst (λ (b : Bool). Before b r ys ls c.seen t.spent t.past) w t.parts in
      let q1 = subst (λ (y : List ℕ). Parts r y ls c.seen t.spent t.past) (v.kept.0 w) q in
      let q2 = subst (λ (i : ℕ). Parts r xs ls c.seen i t.past) z q1 in
      subst (Parts r xs ls c.seen c.polls) (sym t.events) q2

  read_plan_lem : r.reads ≡ true → (es ≡ cond (eqb c.seen 0) [] (read_plan r)) × (0 < c.seen → ReadTold ls r)
  read_plan_lem w =
      let t = v.told.0 in
      let q = subst (λ (b : Bool). Before b r ys ls c.seen t.spent t.past) w t.parts in
      (t.events ∙ q.0, q.1)

  write_clocks : r.reads ≡ false → clocks_in es ≡ 9 * (k_of r * (1 + address_bytes r) + r.length + c.polls)
  write_clocks w =
      let h : heads r c.seen ≡ D r c.seen * (1 + A r) = ap (λ (t : Bool). cond t (cond (eqb c.seen 0) 0 (2 + A r)) (D r c.seen * (1 + A r))) w in
      let d : D r c.seen ≡ k_of r = omega (arith, left_zero) in
      omega (arith, v.clocks refl, ap (λ (i : ℕ). i * (1 + A r)) d)

  read_clocks : r.reads ≡ true → 0 < r.length → clocks_in es ≡ 9 * (2 + address_bytes r + r.length)
  read_clocks w o =
      let h : heads r c.seen ≡ cond {A = ℕ} (eqb c.seen 0) 0 (2 + A r) = ap (λ (t : Bool). cond t (cond (eqb c.seen 0) 0 (2 + A r)) (D r c.seen * (1 + A r))) w in
      let k : cond {A = ℕ} (eqb c.seen 0) 0 (2 + A r) ≡ 2 + A r = simp (ne_eqb c.seen 0 (λ z. omega (arith, all_seen))) in
      omega (arith, v.clocks refl, no_polls r c.polls w v.inv.common.most)

  none : r.length ≡ 0 → es ≡ []
  none z = go r.reads refl
    where
      empty : (qs : List ℕ) → length qs ≡ 0 → write_plan r xs qs ≡ []
      empty [] k = refl
      empty (q ∷ qs) k = absurd (omega arith)

      go : (b : Bool) → r.reads ≡ b → es ≡ []
      go true w = (read_plan_lem w).0 ∙ simp (eq-eqb c.seen 0 (all_seen ∙ z))
      go false w =
          let q = write_plan_lem w in
          let k : k_of r ≡ 0 = sym (left_all r) ∙ (ap (left_of r) (sym z) ∙ left_none r) in
          q.events ∙ empty q.each (omega (arith, q.pages))

-- ---- the promises
fine_yes : (r : Request) (xs : List ℕ) → Accepted r xs → is_fine (judge_of r) ≡ true
fine_yes r xs a = ap is_fine a.fine

module _ (r : Request) (xs : List ℕ) (a : Accepted r xs) (ls : List ℕ) (l : ℕ) where
  R : Ran r xs (after our_driver r xs ls l) (sent our_driver r xs ls l) ls
  R = ran r xs (fine_yes r xs a) a.size ls

  abbrev at-end : (DriverHeld → Type 0) → Type 0
  at-end Q = Q (held r xs R.phase R.counts R.buffer) → Q (after our_driver r xs ls l)

  back : (Q : DriverHeld → Type 0) → at-end Q
  back Q q = subst Q (sym R.is) q

  pub one_each : OneEach our_driver r xs ls l
  one_each =
      record {
        each = λ e. back (λ (h : DriverHeld). answer_to our_driver h l ≡ Send e → length (sent our_driver r xs ls l) ≡ length ls) (each r xs R.phase R.counts R.buffer _ ls R.story l e);
        again =
            back (λ (h : DriverHeld). Finished (answer_to our_driver h l) → (told our_driver h l ≡ h) × ((k : ℕ) → answer_to our_driver h k ≡ answer_to our_driver h l))
            (λ f. (still r xs R.phase R.counts R.buffer _ ls R.story l f, λ k. again r xs R.phase R.counts R.buffer _ ls R.story l k f));
        bound = back (λ (h : DriverHeld). bound_of r < length ls → Finished (answer_to our_driver h l)) (bound r xs R.phase R.counts R.buffer _ ls R.story l);
      }

  -- what an answer says, of the end of the run
  said : (b : Answer) → answers our_driver r xs ls l ≡ b → Finished b → Says b r R.phase R.counts
  said b = back (λ (h : DriverHeld). answer_to our_driver h l ≡ b → Finished b → Says b r R.phase R.counts) (says r xs R.phase R.counts R.buffer _ ls R.story l b)

  -- who is finished has nothing under way
  pub at_rest : Finished (answers our_driver r xs ls l) → rests_in (after our_driver r xs ls l).driver.phase ≡ true
  at_rest f = ap (λ (h : DriverHeld). rests_in h.driver.phase) R.is ∙ go (answers our_driver r xs ls l) f (said _ refl f)
    where
      go : (b : Answer) → Finished b → Says b r R.phase R.counts → rests_in R.phase ≡ true
      go (Send e) f s = absurd f
      go (Done q m) f s = ap rests_in s.0
      go (Refused g q m) f s = ap rests_in s.1

  pub polls_sent : PollsSent our_driver r xs ls l
  polls_sent =
      record {
        done = λ q m e. (said (Done q m) e tt).2 ∙ R.story.polls;
        refused = λ f q m e. (said (Refused f q m) e tt).3 ∙ R.story.polls;
        most = omega (arith, R.story.polls, R.story.inv.common.most);
      }

  pub done_all : (q m : ℕ) → answers our_driver r xs ls l ≡ Done q m → DoneAll our_driver r xs ls l q m
  done_all q m e =
      let s = said (Done q m) e tt in
      go R.phase R.counts R.buffer R.is R.story s.0 s.1 s.2 s.3
    where
      go : (p : Phase) (c : Counts) (ys : List ℕ) → after our_driver r xs ls l ≡ held r xs p c ys → Story r xs p c ys (sent our_driver r xs ls l) ls → p ≡ Ready → c.at ≡ r.length → q ≡ c.polls → m ≡ c.seen → DoneAll our_driver r xs ls l q m
      go p c ys i v z k eq em =
          let w = subst (λ (p : Phase). Story r xs p c ys (sent our_driver r xs ls l) ls) z v in
          record {
            bytes = em ∙ all_seen r xs c ys _ ls w k;
            plan = plan r.reads refl w;
            nothing = none r xs c ys _ ls w k;
          }
        where
          plan : (b : Bool) → r.reads ≡ b → Story r xs Ready c ys (sent our_driver r xs ls l) ls → DoneOf our_driver r xs ls l b q
          plan true f w =
              record {
                none = eq ∙ no_polls r c.polls f w.inv.common.most;
                events = λ o. (read_plan_lem r xs c ys _ ls w k f).0 ∙ simp (ne_eqb c.seen 0 (λ y. omega (arith, all_seen r xs c ys _ ls w k)));
                levels = λ o. (read_plan_lem r xs c ys _ ls w k f).1 (omega (arith, all_seen r xs c ys _ ls w k));
                clocks = read_clocks r xs c ys _ ls w k f;
                bytes = λ j h. ap (λ (t : DriverHeld). get_or t.buffer j 0) i ∙ (w.got f j (omega arith)).1;
                size = ap (λ (t : DriverHeld). length t.buffer) i ∙ w.size;
              }
          plan false f w =
              let t = write_plan_lem r xs c ys _ ls w k f in
              record {
                polls = t.each;
                pages = omega (arith, t.pages, left_zero r xs c ys _ ls w k);
                sum = t.polled ∙ sym eq;
                within = t.within;
                events = t.events;
                levels = t.levels;
                clocks = write_clocks r xs c ys _ ls w k f ∙ ap (λ (i : ℕ). 9 * (k_of r * (1 + address_bytes r) + r.length + i)) (sym eq);
                buffer = ap (λ (h : DriverHeld). h.buffer) i ∙ w.kept.0 f;
              }

  pub refused_at : (q m : ℕ) (f : Refusal) → answers our_driver r xs ls l ≡ Refused f q m → RefusedAt our_driver r xs ls l f q m
  refused_at q m f e =
      let s = said (Refused f q m) e tt in
      go R.phase R.counts R.buffer R.is R.story s.0 s.1 s.2 s.3 s.4
    where
      go : (p : Phase) (c : Counts) (ys : List ℕ) → after our_driver r xs ls l ≡ held r xs p c ys → Story r xs p c ys (sent our_driver r xs ls l) ls → (w : Failed) → p ≡ Over w → f ≡ refusal_of r c w → q ≡ c.polls → m ≡ c.seen → RefusedAt our_driver r xs ls l f q m
      go p c ys i v w z ef eq em =
          let u = subst (λ (p : Phase). Story r xs p c ys (sent our_driver r xs ls l) ls) z v in
          let y = u.kept in
          let S = sent our_driver r xs ls l in
          let t1 = subst (λ (y : List ℕ). Stopped r y (refusal_of r c w) c.seen c.polls S ls) y u.told in
          let t2 = subst (λ (x : ℕ). Stopped r xs (refusal_of r c w) x c.polls S ls) (sym em) t1 in
          let t3 = subst (λ (x : ℕ). Stopped r xs (refusal_of r c w) m x S ls) (sym eq) t2 in
          record {
            none = λ t. (em ∙ u.inv.here t, eq ∙ no_polls r c.polls t u.inv.common.most);
            stopped = subst (λ (x : Refusal). Stopped r xs x m q S ls) (sym ef) t3;
            buffer = ap (λ (h : DriverHeld). h.buffer) i ∙ y;
          }

  -- the buffer, of the end of the run
  holds : r.reads ≡ true → Upto r xs R.buffer (sent our_driver r xs ls l) ls
  holds w = upto r xs w R.counts R.buffer (sent our_driver r xs ls l) ls R.phase R.story

  pub buffer_so_far : BufferSoFar our_driver r xs ls l
  buffer_so_far =
      record {
        write = write_left (begun r xs) ls;
        size = ap (λ (h : DriverHeld). length h.buffer) R.is ∙ R.story.size;
        got = λ w i h k. ap (λ (h : DriverHeld). get_or h.buffer i 0) R.is ∙ ((holds w).bytes i ((holds w).high i k)).1;
        before = λ w i h k. ap (λ (h : DriverHeld). get_or h.buffer i 0) R.is ∙ (holds w).ahead i ((holds w).low i k);
      }

pub promises : Promises our_driver
promises =
    record {
      one_each = one_each;
      polls_sent = polls_sent;
      done_all = done_all;
      refused_at = refused_at;
      buffer_so_far = buffer_so_far;
    }
