-- The refusals are given in document 01's order.
-- Assumes nothing.
use Rattle.std.specs.Prelude.{Err}
use Prim.Native.Nat.{ℕ, ◌<◌, ◌≤◌}
use mathlib.Core.Path.{◌≡◌, refl, ap}
use mathlib.Core.List.{List}
use native.Mathlib.Omega.{arith}
use lib.Dec.{ltb}
use lib.ListN.{length}
use borrow.Author.Tests.{lt-ltb}
use Rattle.parts.specs.declared.Refusal.{Refusal}
use Rattle.parts.specs.declared.Refusal.TheVariants.{NoPart, WrongBuffer, ShortBuffer}
use Rattle.parts.specs.Verdict.{Verdict}
use Rattle.parts.specs.Table.{facts_of}
use Rattle.parts.specs.Refusals.{rank_of, claim_of, sooner_of}
use Rattle.parts.proofs.Claims.{given_first, later_claim}
use Rattle.hexfile.specs.Written.{text_length_of}
use Rattle.hexfile.specs.Calls.{read_by, reading_of, write_verdict_of, write_by, writing_of}
use Rattle.hexfile_promises.specs.Promises.{size_of, Lent}
use Rattle.hexfile_promises.specs.Numbers.{HexReadNumbers, HexWriteNumbers}
use Rattle.hexfile_promises.proofs.Calls.{lent_for, is_lent, no_part, wrong_buffer, is_roomy}

module _ (part : ℕ) (text array : List ℕ) where
  read_as : {v : Verdict} → lent_for part array ≡ v → (reading_of part text array).answer.verdict ≡ (read_by v (facts_of part) text array).answer.verdict
  read_as e = ap (λ (v : Verdict). (read_by v (facts_of part) text array).answer.verdict) e

pub hex_read_numbers : HexReadNumbers reading_of
hex_read_numbers part text array = record { no_part = λ h. read_as part text array (no_part part array h); wrong_buffer = λ k w. read_as part text array (wrong_buffer part array k w) }

module _ (part : ℕ) (m out : List ℕ) where
  abbrev verdict : Verdict
  verdict = write_verdict_of (facts_of part) (length m) (length out)

  write_as : {v : Verdict} → verdict ≡ v → (writing_of part m out).answer.verdict ≡ (write_by v (facts_of part) m out).answer.verdict
  write_as e = ap (λ (v : Verdict). (write_by v (facts_of part) m out).answer.verdict) e

  lent_first : (r : Refusal) → rank_of r ≤ rank_of ShortBuffer → lent_for part m ≡ Err r → verdict ≡ Err r
  unfolding write_verdict_of
  lent_first r h e =
      rw e (given_first r (claim_of (ltb (length out) (text_length_of (size_of part))) ShortBuffer) (later_claim (rank_of r) (ltb (length out) (text_length_of (size_of part))) ShortBuffer h))

  too_short : Lent part m → length out < text_length_of (size_of part) → verdict ≡ Err ShortBuffer
  unfolding write_verdict_of sooner_of
  too_short l h = rw (is_lent part m l, lt-ltb (length out) (text_length_of (size_of part)) h) refl

pub hex_write_numbers : HexWriteNumbers writing_of
hex_write_numbers part m out =
    record {
      no_part = λ h. write_as part m out (lent_first part m out NoPart (omega arith) (no_part part m h));
      wrong_buffer = λ k w. write_as part m out (lent_first part m out WrongBuffer (omega arith) (wrong_buffer part m k w));
      short_buffer = λ l h. write_as part m out (too_short part m out l h);
      none = λ l h. write_as part m out (is_roomy part m (length out) l h);
    }
