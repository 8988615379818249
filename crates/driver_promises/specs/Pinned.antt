-- The promises leave nothing open: two machines that keep them send the same events, give the same answers and have the same in the
-- buffer at every moment, whatever the levels. So a driver that sends one event, gives one answer or has one byte in the buffer other than
-- ours, for any request and any levels, breaks a promise.
-- Assumes nothing.
use Rattle.std.specs.Prelude.{ℕ, ◌≡◌, List}
use Rattle.driver.specs.declared.Request.{Request}
use Rattle.driver.specs.Machine.{Machine}
use Rattle.driver_promises.specs.Promises.{after, sent, answers, Always, Promises}

pub record Twins (M N : Machine) (r : Request) (xs ls : List ℕ) (l : ℕ) : Type 0 where
  pub events : sent M r xs ls l ≡ sent N r xs ls l
  pub answer : answers M r xs ls l ≡ answers N r xs ls l
  -- and have the same in the buffer
  pub buffer : (after M r xs ls l).buffer ≡ (after N r xs ls l).buffer

abbrev pub Pinned : Type 0
Pinned = (M N : Machine) → Promises M → Promises N → Always (λ r xs ls l. Twins M N r xs ls l)
