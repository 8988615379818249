-- Our driver puts one event a step on the bus; one that puts all there at once does not.
-- Assumes nothing.
use Prim.Native.Nat.{ℕ}
use mathlib.Core.Path.{◌≡◌, refl, ◌∙◌, ap}
use mathlib.Core.List.{List, [], ◌∷◌, ◌++◌}
use lib.ListN.{length}
use native.Mathlib.Omega.{arith}
use Rattle.parts.specs.Table.{facts_of}
use Rattle.driver_promises.specs.Run.{DriverHeld, begun, sent_by, answer_to, told, after_all, events_sent}
use Rattle.driver_promises.specs.Sender.{Sender, our_sender, puts, on_bus, OneEventAStep, SentIsOnBus, AllAtOnceBreaks}
use Rattle.driver_promises.proofs.Idle.{reading, one}

pub one_event_a_step : OneEventAStep our_sender
one_event_a_step r xs a ls l = refl

module _ (S : Sender) where
  bus_from : (h : DriverHeld) → ((ks : List ℕ) (k : ℕ) → puts S (after_all S.machine h ks) k ≡ sent_by (answer_to S.machine (after_all S.machine h ks) k)) → (ls : List ℕ) → on_bus S h ls ≡ events_sent S.machine h ls
  bus_from h f [] = refl
  bus_from h f (l ∷ ls) =
      ap (λ (es : List ℕ). es ++ on_bus S (told S.machine h l) ls) (f [] l)
      ∙ ap (λ (es : List ℕ). sent_by (answer_to S.machine h l) ++ es) (bus_from (told S.machine h l) (λ ks k. f (l ∷ ks) k) ls)

pub sent_is_on_bus : SentIsOnBus
sent_is_on_bus S p r xs a ls l = bus_from S (begun r xs) (p r xs a) ls

-- a read of one byte is 39 events, and no answer sends more than one
pub all_at_once_breaks : AllAtOnceBreaks
unfolding facts_of
all_at_once_breaks p = let e = ap length (p (reading 1) (90 ∷ []) one [] 0) in omega arith
