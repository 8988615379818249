-- The driver in a run with any chip: it keeps what it keeps on its own, so every law of the driver carries over.
-- Assumes nothing.
use Prim.Native.Nat.{ℕ, ◌+◌, ◌<◌}
use mathlib.Core.Path.{◌≡◌, refl, sym, ◌∙◌, ap, subst}
use mathlib.Core.List.{List, [], ◌∷◌, ◌++◌}
use lib.ListN.{length, length-append}
use native.Mathlib.Omega.{arith}
use borrow.Author.Tests.{ne_eqb, lt-ltb}
use Rattle.parts.specs.Refusals.{is_fine}
use Rattle.chip.specs.Model.{Model}
use Rattle.driver.specs.declared.Request.{Request}
use Rattle.driver.specs.declared.Slot.TheVariants.{Poll}
use Rattle.driver.specs.declared.Phase.TheVariants.{Heard}
use Rattle.driver.specs.declared.Driver.{Driver}
use Rattle.driver.specs.declared.Answer.{Answer}
use Rattle.driver.specs.declared.Answer.TheVariants.{Send, Done, Refused}
use Rattle.driver.specs.declared.Move.{Move}
use Rattle.driver.specs.declared.Asked.{Asked}
use Rattle.driver.specs.Step.{driver_next_of, buffer_of}
use Rattle.driver.specs.Machine.{our_driver}
use Rattle.driver.proofs.Facts.{buffer_length}
use Rattle.driver_promises.specs.Run.{DriverHeld, begun, told, after_all, Finished}
use Rattle.driver_promises.specs.Run
use Rattle.driver_promises.specs.Promises.{Accepted}
use Rattle.driver_promises.proofs.View.{at, Way, steps}
use Rattle.driver_promises.proofs.Inv.{Inv, in_range, room_in, inv_step}
use Rattle.driver_promises.proofs.Story.{ran}
use Rattle.driver_promises.proofs.Promises.{promises}
use Rattle.bench.specs.Together.{System, answered_by, asked_of, poll_next}

abbrev pub held_of : System → DriverHeld
held_of s = record { driver = s.driver; buffer = s.buffer }

module _ (r : Request) where
  -- what holds of the driver at every moment
  pub record Drives (y : System) : Type 0 where
    pub request : y.driver.request ≡ r
    pub inv : Inv r y.driver.phase y.driver.counts
    pub size : length y.buffer ≡ r.length

  -- the step of the driver in the system
  pub record Step (y : System) : Type 0 where
    pub move : Move
    pub way : Way r y.driver.counts y.level y.buffer y.driver.phase move (buffer_of y.driver y.level y.buffer)
    pub asked : driver_next_of y.driver y.level y.buffer ≡ record { answer = move.answer; driver = at r move.phase move.counts }

  pub step : (y : System) → Drives y → Step y
  step y h =
      let d = y.driver in
      let t = steps r d.phase d.counts y.level y.buffer h.inv.good (in_range r d.phase d.counts (length y.buffer) h.size h.inv) (room_in d.phase r d.counts h.inv) in
      let e : at r d.phase d.counts ≡ d = ap (λ (q : Request). at q d.phase d.counts) (sym h.request) in
      record {
        move = t.move;
        way = subst (λ (k : Driver). Way r d.counts y.level y.buffer d.phase t.move (buffer_of k y.level y.buffer)) e t.way;
        asked = ap (λ (k : Driver). driver_next_of k y.level y.buffer) (sym e) ∙ t.asked;
      }

  module _ (M : Model) where
    -- whatever is to hold after an asking, by the move that was made
    pub ask_elim : (Q : System → Type 0) (y : System) (t : Step y)
        → Q (answered_by M y (at r t.move.phase t.move.counts) (buffer_of y.driver y.level y.buffer) t.move.answer) → Q (asked_of our_driver M y)
    unfolding asked_of
    ask_elim Q y t q =
        subst (λ (a : Asked). Q (answered_by M y a.driver (buffer_of y.driver y.level y.buffer) a.answer)) (sym t.asked) q

    pub ask_drives : (y : System) → Drives y → Drives (asked_of our_driver M y)
    ask_drives y h = go (step y h)
      where
        go : Step y → Drives (asked_of our_driver M y)
        go t = ask_elim Drives y t (by t.move.answer (inv_step r h.inv t.way))
          where
            by : (a : Answer) → Inv r t.move.phase t.move.counts → Drives (answered_by M y (at r t.move.phase t.move.counts) (buffer_of y.driver y.level y.buffer) a)
            by (Send e) i = record { request = refl; inv = i; size = buffer_length y.driver y.level y.buffer ∙ h.size }
            by (Done q k) i = h
            by (Refused f q k) i = h

-- a poll that was missed, and was not the last allowed: the next has the next number
pub again_next : (t a v : ℕ) → 0 < v → t < a → poll_next (Heard Poll) t a v ≡ t + 1
again_next t a v h o = simp (ne_eqb v 0 (λ e. omega arith), lt-ltb t a o)

-- ---- the tie: the driver of the system is the driver of its own run, over the levels that it was told
pub record Told (r : Request) (xs : List ℕ) (n : ℕ) (s : System) : Type 0 where
  pub levels : List ℕ
  pub count : length levels ≡ n
  pub run : held_of s ≡ after_all our_driver (begun r xs) levels

pub after_more : (h : DriverHeld) (ls : List ℕ) (l : ℕ) → after_all our_driver h (ls ++ (l ∷ [])) ≡ told our_driver (after_all our_driver h ls) l
after_more h [] l = refl
after_more h (x ∷ ls) l = after_more (told our_driver h x) ls l

module _ (r : Request) (xs : List ℕ) (a : Accepted r xs) where
  -- on its own, after any levels
  pub drives_of : (y : System) (ls : List ℕ) → held_of y ≡ after_all our_driver (begun r xs) ls → Drives r y
  drives_of y ls e =
      let R = ran r xs (ap is_fine a.fine) a.size ls in
      let k = e ∙ R.is in
      record {
        request = ap (λ (h : DriverHeld). h.driver.request) k;
        inv = subst (λ (h : DriverHeld). Inv r h.driver.phase h.driver.counts) (sym k) R.story.inv;
        size = ap (λ (h : DriverHeld). length h.buffer) k ∙ R.story.size;
      }

  pub ask_told : (M : Model) (n : ℕ) (y : System) → Told r xs n y → Told r xs (n + 1) (asked_of our_driver M y)
  unfolding asked_of
  ask_told M n y t = by (driver_next_of y.driver y.level y.buffer).answer refl
    where
      ls : List ℕ
      ls = t.levels ++ (y.level ∷ [])

      long : length ls ≡ n + 1
      long = length-append t.levels (y.level ∷ []) ∙ ap (λ (k : ℕ). k + 1) t.count

      goes : told our_driver (held_of y) y.level ≡ after_all our_driver (begun r xs) ls
      goes = ap (λ (h : DriverHeld). told our_driver h y.level) t.run ∙ sym (after_more (begun r xs) t.levels y.level)

      stays : Finished (driver_next_of y.driver y.level y.buffer).answer → held_of y ≡ after_all our_driver (begun r xs) ls
      stays f =
          let e = ((promises.one_each r xs a t.levels y.level).again (subst (λ (h : DriverHeld). Finished (Rattle.driver_promises.specs.Run.answer_to our_driver h y.level)) t.run f)).0 in
          t.run ∙ (sym e ∙ sym (after_more (begun r xs) t.levels y.level))

      by : (k : Answer) → (driver_next_of y.driver y.level y.buffer).answer ≡ k → Told r xs (n + 1) (answered_by M y (driver_next_of y.driver y.level y.buffer).driver (buffer_of y.driver y.level y.buffer) k)
      by (Send e) z = record { levels = ls; count = long; run = goes }
      by (Done q k) z = record { levels = ls; count = long; run = stays (subst Finished (sym z) tt) }
      by (Refused f q k) z = record { levels = ls; count = long; run = stays (subst Finished (sym z) tt) }
