-- Laws on a state that is not held, on one that is packed, and on what is given of several refusals.
-- Assumes nothing.
use Rattle.std.specs.Prelude.{Ok, Err}
use Prim.Native.Nat.{ℕ, zero, suc, ◌<◌}
use mathlib.Core.Path.{◌≡◌, refl}
use mathlib.Core.Bool.{Bool, not}
use lib.Dec.{ltb}
use native.Mathlib.Omega.{arith}
use lib.ListN.{length, replicate}
use Rattle.parts.specs.declared.Facts.{Facts}
use Rattle.parts.specs.declared.Refusal.TheVariants.{WrongEnable, BadState}
use Rattle.parts.specs.Verdict.{Verdict}
use Rattle.parts.specs.Table.{facts_of, enable_right_of}
use Rattle.parts.specs.Bytes.{AllBelow}
use Rattle.parts.specs.Refusals.{rank_of, claim_of, sooner_of, lent_verdict_of}
use Rattle.parts.proofs.Laws.{branch}
use Rattle.parts.proofs.Claims.{refused_not, sooner_fine}
use Rattle.chip.specs.Memory.{Mem, no_latch}
use Rattle.chip.specs.Delivery.{standby_of}
use Rattle.pack_chip.specs.Promises.{ChipFits}
use Rattle.sapwoodle.specs.Answers.{unheld_of}

-- of two verdicts one of the two is given
pub sooner_one : (Q : Verdict → Type 0) (a b : Verdict) → Q a → Q b → Q (sooner_of a b)
unfolding sooner_of
sooner_one Q (Ok _) b p q = q
sooner_one Q (Err r) (Ok _) p q = p
sooner_one Q (Err r) (Err s) p q = branch Q (ltb (rank_of s) (rank_of r)) (λ _. q) (λ _. p)

-- where no state is held, the call is refused
pub unheld_refused : (part enable : ℕ) (m : Mem) → unheld_of part enable m ≡ Ok tt → ⊥
unfolding unheld_of
unheld_refused part enable m h =
    let named = claim_of (not (enable_right_of (facts_of part) enable)) WrongEnable in
    let u = sooner_fine (lent_verdict_of (facts_of part) (length m.cells) (length m.ident)) (sooner_of named (Err BadState)) h in
    refused_not (sooner_fine named (Err BadState) u.1).1

-- ---- a chip in standby is packed

all_same : (n k x : ℕ) → x < n → AllBelow n (replicate k x)
all_same n zero x h = tt
all_same n (suc k) x h = (h, all_same n k x h)

pub standby_fits : (f : Facts) (lock : Bool) → ChipFits (standby_of f lock)
unfolding standby_of no_latch
standby_fits f lock =
    record { counter = omega arith; high = omega arith; left = omega arith; shift = omega arith; latches = refl; latch = all_same 65536 64 256 (omega arith) }
