-- What the contract of `capture::count` says, which writes into a struct that it is lent, written out beside the toolchain's own reading (module
-- `Reads`). `CountSays` says that it is the contract's own clause, in every world: a clause that is weakened in src/ breaks it.
-- Assumes nothing.
use Rattle.std.specs.Prelude.{◌≡◌}
use seplogic.Ra.Ura.{Ura}
use base.Logic.{SProp, ent}
use prog.Memory.{Memory}
use prog.Routine.{Routine}
use types.Logic.{Logic}
use contract.Lifetimes.{Lfts}
use contract.Monad.{Fun, fact}
use denote.Triple.Entry.{Args, Res}
use denote.Triple.Clauses.{AtExit}
use Rattle.capture.specs.Samples.{judge_of}
use Rattle.capture.specs.Tallies.{counted_of}
use Rattle.capture.specs.contracts.count as count
use Rattle.determined.specs.Determined.{InputAsked, Learnt}

-- it has no `requires`
abbrev pub CountAsked : InputAsked count.ended
CountAsked κs a = Unit {0}

abbrev pub CountLearnt : Learnt count.ended
CountLearnt κs a r s = (r ≡ judge_of a.1.1.0.now) × (s.0.now ≡ counted_of a.0.now a.1.0 a.1.1.0.now)

-- nothing is asked of the input, and what is learnt is the fact that the contract ensures
module _ {M : Type 1} {𝓤 : Ura M} (𝓛 : Logic 𝓤) (at_mem : Memory → SProp 𝓤) (run : Routine → Fun 𝓤) where
  abbrev pub CountTakes : Type 2
  CountTakes = (κs : Lfts 2) (a : Args count.signature κs) (P : SProp 𝓤) → ent 𝓤 P ((count.clauses 𝓛 at_mem run κs a).requires tt)

  abbrev pub CountSays : Type 2
  CountSays =
      (κs : Lfts 2) (a : Args count.signature κs) (r : Res count.signature κs) (s : AtExit count.ended κs)
      → (count.clauses 𝓛 at_mem run κs a).ensures tt r s ≡ fact 𝓤 (CountLearnt κs a r s)
