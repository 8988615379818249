-- A driver of any behaviour, and ours. What is said of a run is said of a machine; what is ours is said once, in `our_driver`.
-- Assumes nothing.
use Rattle.std.specs.Prelude.{ℕ, List}
use Rattle.driver.specs.declared.Driver.{Driver}
use Rattle.driver.specs.declared.Asked.{Asked}
use Rattle.driver.specs.Step.{driver_next_of, buffer_of}

-- how a driver answers when it is told a level, and what it leaves in the buffer: any such pair of functions, so that promises can be broken
pub record Machine : Type 0 where
  pub next : Driver → ℕ → List ℕ → Asked
  pub leaves : Driver → ℕ → List ℕ → List ℕ

-- ours: what the contract of `next` says
abbrev pub our_driver : Machine
our_driver = record { next = driver_next_of; leaves = buffer_of }
