-- The contract of `capture::count`, as specs/Walked.antt reads it.
-- Assumes nothing.
use mathlib.Core.Path.{refl}
use seplogic.Ra.Ura.{Ura}
use base.Logic.{SProp}
use prog.Memory.{Memory}
use prog.Routine.{Routine}
use types.Logic.{Logic}
use contract.Monad.{Fun, top}
use Rattle.determined.specs.Walked.{CountTakes, CountSays}

module _ {M : Type 1} {𝓤 : Ura M} (𝓛 : Logic 𝓤) (at_mem : Memory → SProp 𝓤) (run : Routine → Fun 𝓤) where
  pub count_takes : CountTakes 𝓛 at_mem run
  count_takes κs a P = top 𝓤 P

  pub count_says : CountSays 𝓛 at_mem run
  count_says κs a r s = refl
