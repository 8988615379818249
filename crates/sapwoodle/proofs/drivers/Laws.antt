-- Laws that the proofs of the code share.
-- Assumes nothing.
use Rattle.std.specs.Prelude.{Ok, Err}
use Prim.Native.Nat.{ℕ}
use mathlib.Core.Path.{◌≡◌, refl}
use mathlib.Core.List.{List}
use mathlib.Core.Bool.{not}
use Rattle.parts.specs.Verdict.{Verdict}
use Rattle.parts.specs.declared.Refusal.TheVariants.{NoPart, WrongEnable, BadState}
use Rattle.parts.specs.Table.{facts_of, enable_right_of}
use Rattle.parts.specs.Refusals.{claim_of, sooner_of}
use Rattle.parts.proofs.Claims.{refused_not, sooner_fine}
use Rattle.driver.specs.declared.Driver.{Driver}
use Rattle.sapwoodle.specs.Drivers.{roomless_of, driver_bytes_after_begin}

-- where a driver has no room, the call is refused
pub roomless_refused : (part enable : ℕ) → roomless_of part enable ≡ Ok tt → ⊥
unfolding roomless_of
roomless_refused part enable h =
    let named = claim_of (not (enable_right_of (facts_of part) enable)) WrongEnable in
    let u = sooner_fine (claim_of (not (facts_of part).known) NoPart) (sooner_of named (Err BadState)) h in
    refused_not (sooner_fine named (Err BadState) u.1).1

pub begins_nothing : (d : Driver) (s : List ℕ) (v : Verdict) → (v ≡ Ok tt → ⊥) → driver_bytes_after_begin v d s ≡ s
begins_nothing d s (Ok _) h = absurd (h refl)
begins_nothing d s (Err r) h = refl
