-- A driver that scribbles in the buffer and puts it right at each end goes as ours does, but for the buffer on the way.
-- Assumes nothing.
use Prim.Native.Nat.{ℕ, ◌+◌, ◌-◌, ◌*◌, ◌≤◌}
use mathlib.Core.Path.{◌≡◌, refl, sym, ◌∙◌, ap, subst}
use mathlib.Core.Bool.{Bool, true, false, cond}
use mathlib.Core.List.{List, [], ◌∷◌, ◌++◌, map}
use lib.ListN.{length, get_or}
use native.Mathlib.Omega.{arith}
use Rattle.parts.specs.declared.Refusal.{Refusal}
use Rattle.driver.specs.declared.Request.{Request}
use Rattle.driver.specs.declared.Phase.{Phase}
use Rattle.driver.specs.declared.Answer.{Answer}
use Rattle.driver.specs.Request.{allowed_of, k_of}
use Rattle.driver.specs.Step.{driver_next_of, buffer_of}
use Rattle.driver.specs.Machine.{Machine, our_driver}
use Rattle.driver_promises.specs.Run.{DriverHeld, begun, sent_by, answer_to, told, after_all, events_sent, Finished, clocks_in, polls_in}
use Rattle.driver_promises.specs.Where.{Stopped}
use Rattle.driver_promises.specs.Promises.{Accepted, after, sent, answers, OneEach, PollsSent, DoneAll, DoneOf, RefusedAt}
use Rattle.driver_promises.specs.Idle.{rests_in, scribbled, righted, scribbling, ScribblingKeeps}
use Rattle.driver_promises.proofs.Promises.{promises, at_rest}

-- ---- what is said of one machine is said of another that sends and answers the same
module _ (M N : Machine) (r : Request) (xs ls : List ℕ) (l : ℕ) (e : sent M r xs ls l ≡ sent N r xs ls l) (b : answers M r xs ls l ≡ answers N r xs ls l) where
  polls_as : PollsSent N r xs ls l → PollsSent M r xs ls l
  polls_as p =
      record {
        done = λ q m k. p.done q m (sym b ∙ k) ∙ ap (polls_in false) (sym e);
        refused = λ f q m k. p.refused f q m (sym b ∙ k) ∙ ap (polls_in false) (sym e);
        most = subst (λ (es : List ℕ). polls_in false es ≤ k_of r * allowed_of r) (sym e) p.most;
      }

  module _ (h : (after M r xs ls l).buffer ≡ (after N r xs ls l).buffer) where
    plan_as : (t : Bool) (q : ℕ) → DoneOf N r xs ls l t q → DoneOf M r xs ls l t q
    plan_as true q d =
        record {
          none = d.none;
          events = λ o. e ∙ d.events o;
          levels = d.levels;
          clocks = λ o. ap clocks_in e ∙ d.clocks o;
          bytes = λ i k. ap (λ (ys : List ℕ). get_or ys i 0) h ∙ d.bytes i k;
          size = ap length h ∙ d.size;
        }
    plan_as false q d =
        record {
          polls = d.polls;
          pages = d.pages;
          sum = d.sum;
          within = d.within;
          events = e ∙ d.events;
          levels = d.levels;
          clocks = ap clocks_in e ∙ d.clocks;
          buffer = h ∙ d.buffer;
        }

    done_as : (q m : ℕ) → DoneAll N r xs ls l q m → DoneAll M r xs ls l q m
    done_as q m d = record { bytes = d.bytes; plan = plan_as r.reads q d.plan; nothing = λ z. e ∙ d.nothing z }

    refused_as : (f : Refusal) (q m : ℕ) → RefusedAt N r xs ls l f q m → RefusedAt M r xs ls l f q m
    refused_as f q m d =
        record {
          stopped = subst (λ (es : List ℕ). Stopped r xs f m q es ls) (sym e) d.stopped;
          none = d.none;
          buffer = h ∙ d.buffer;
        }

-- ---- the scribbles are taken off before each step
map_back : (xs : List ℕ) → map (λ (x : ℕ). x - 1) (map (λ (x : ℕ). x + 1) xs) ≡ xs
map_back [] = refl
map_back (x ∷ xs) =
    let e : x + 1 - 1 ≡ x = omega arith in
    ap (λ (y : ℕ). y ∷ map (λ (x : ℕ). x - 1) (map (λ (x : ℕ). x + 1) xs)) e ∙ ap (λ (ys : List ℕ). x ∷ ys) (map_back xs)

right_again : (p : Phase) (xs : List ℕ) → righted p (scribbled p xs) ≡ xs
right_again p xs = go (rests_in p)
  where
    go : (b : Bool) → cond b (cond b xs (map (λ (x : ℕ). x + 1) xs)) (map (λ (x : ℕ). x - 1) (cond b xs (map (λ (x : ℕ). x + 1) xs))) ≡ xs
    go true = refl
    go false = map_back xs

abbrev smeared : DriverHeld → DriverHeld
smeared h = record { driver = h.driver; buffer = scribbled h.driver.phase h.buffer }

answer_same : (h : DriverHeld) (l : ℕ) → answer_to scribbling (smeared h) l ≡ answer_to our_driver h l
answer_same h l = ap (λ (ys : List ℕ). (driver_next_of h.driver l ys).answer) (right_again h.driver.phase h.buffer)

told_same : (h : DriverHeld) (l : ℕ) → told scribbling (smeared h) l ≡ smeared (told our_driver h l)
told_same h l =
    ap (λ (ys : List ℕ). smeared (record { driver = (driver_next_of h.driver l ys).driver; buffer = buffer_of h.driver l ys })) (right_again h.driver.phase h.buffer)

after_same : (h : DriverHeld) (ls : List ℕ) → after_all scribbling (smeared h) ls ≡ smeared (after_all our_driver h ls)
after_same h [] = refl
after_same h (l ∷ ls) = ap (λ (g : DriverHeld). after_all scribbling g ls) (told_same h l) ∙ after_same (told our_driver h l) ls

events_same : (h : DriverHeld) (ls : List ℕ) → events_sent scribbling (smeared h) ls ≡ events_sent our_driver h ls
events_same h [] = refl
events_same h (l ∷ ls) =
    ap (λ (a : Answer). sent_by a ++ events_sent scribbling (told scribbling (smeared h) l) ls) (answer_same h l)
    ∙ ap (λ (es : List ℕ). sent_by (answer_to our_driver h l) ++ es) (ap (λ (g : DriverHeld). events_sent scribbling g ls) (told_same h l) ∙ events_same (told our_driver h l) ls)

module _ (r : Request) (xs : List ℕ) (a : Accepted r xs) (ls : List ℕ) (l : ℕ) where
  abbrev H : DriverHeld
  H = after our_driver r xs ls l

  same_events : sent scribbling r xs ls l ≡ sent our_driver r xs ls l
  same_events = events_same (begun r xs) ls

  same_after : after scribbling r xs ls l ≡ smeared H
  same_after = after_same (begun r xs) ls

  same_answer : answers scribbling r xs ls l ≡ answers our_driver r xs ls l
  same_answer = ap (λ (h : DriverHeld). answer_to scribbling h l) same_after ∙ answer_same H l

  same_buffer : Finished (answers our_driver r xs ls l) → (after scribbling r xs ls l).buffer ≡ H.buffer
  same_buffer f = ap (λ (h : DriverHeld). h.buffer) same_after ∙ ap (λ (b : Bool). cond b H.buffer (map (λ (x : ℕ). x + 1) H.buffer)) (at_rest r xs a ls l f)

  one_each_too : OneEach scribbling r xs ls l
  one_each_too =
      let p = promises.one_each r xs a ls l in
      record {
        each = λ e k. ap length same_events ∙ p.each e (sym same_answer ∙ k);
        again = λ f.
            let w = p.again (subst Finished same_answer f) in (
              ap (λ (h : DriverHeld). told scribbling h l) same_after ∙ (told_same H l ∙ (ap smeared w.0 ∙ sym same_after)),
              λ k. ap (λ (h : DriverHeld). answer_to scribbling h k) same_after ∙ (answer_same H k ∙ (w.1 k ∙ sym same_answer)),
            );
        bound = λ h. subst Finished (sym same_answer) (p.bound h);
      }

pub scribbling_keeps : ScribblingKeeps
scribbling_keeps =
    record {
      one_each = one_each_too;
      polls_sent = λ r xs a ls l. polls_as scribbling our_driver r xs ls l (same_events r xs a ls l) (same_answer r xs a ls l) (promises.polls_sent r xs a ls l);
      done_all = λ r xs a ls l q m k.
          let j = sym (same_answer r xs a ls l) ∙ k in
          done_as scribbling our_driver r xs ls l (same_events r xs a ls l) (same_answer r xs a ls l) (same_buffer r xs a ls l (subst Finished (sym j) tt)) q m (promises.done_all r xs a ls l q m j);
      refused_at = λ r xs a ls l q m f k.
          let j = sym (same_answer r xs a ls l) ∙ k in
          refused_as scribbling our_driver r xs ls l (same_events r xs a ls l) (same_answer r xs a ls l) (same_buffer r xs a ls l (subst Finished (sym j) tt)) f q m (promises.refused_at r xs a ls l q m f j);
    }
