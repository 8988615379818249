-- When a call is not refused for its part or its buffers.
-- Assumes nothing.
use Rattle.std.specs.Prelude.{Ok, Err}
use Prim.Native.Nat.{ℕ, ◌<◌, ◌≤◌}
use mathlib.Core.Path.{◌≡◌, refl}
use mathlib.Core.List.{List}
use native.Mathlib.Omega.{arith}
use native.Mathlib.Decide.{dec_le}
use lib.Dec.{eqb, ltb}
use lib.ListN.{length}
use borrow.Author.Tests.{eqb-true, le-ltb, ltb-false}
use Rattle.parts.specs.declared.Refusal.TheVariants.{NoPart, WrongBuffer, ShortBuffer}
use Rattle.parts.specs.Verdict.{Verdict}
use Rattle.parts.specs.Table.{facts_of, id_size_of, buffers_right_of}
use Rattle.parts.specs.Refusals.{sooner_of, claim_of}
use Rattle.parts.proofs.Laws.{known, unknown, buffers_right_lem, buffers_wrong}
use Rattle.parts.proofs.Tests.{both}
use Rattle.parts.proofs.Claims.{lent_fine, fine_lent, lent_unknown, lent_wrong, sooner_fine, claim_fine}
use Rattle.hexfile.specs.Written.{text_length_of}
use Rattle.hexfile.specs.Calls.{array_verdict_of, write_verdict_of}
use Rattle.hexfile_promises.specs.Promises.{size_of, Lent}

module _ (part : ℕ) (array : List ℕ) where
  abbrev pub lent_for : Verdict
  lent_for = array_verdict_of (facts_of part) (length array)

  pub is_lent : Lent part array → lent_for ≡ Ok tt
  unfolding array_verdict_of
  is_lent l = fine_lent (facts_of part) (length array) (id_size_of (facts_of part)) (known part l.known) (buffers_right_lem (facts_of part) (length array) (id_size_of (facts_of part)) l.long refl)

  pub lent_is : lent_for ≡ Ok tt → Lent part array
  unfolding array_verdict_of buffers_right_of
  lent_is h =
      let x = lent_fine (facts_of part) (length array) (id_size_of (facts_of part)) h in
      record {
        known = elim (dec_le part 5) [ yes k ↦ k | no k ↦ absurd (let u = unknown part (omega (arith, k)) in let z : ◌≡◌ {A = ℕ} 0 1 = cc x.0 in omega arith) ];
        long = eqb-true (length array) (size_of part) (both (eqb (length array) (size_of part)) _ x.1).0;
      }

  pub no_part : 5 < part → lent_for ≡ Err NoPart
  unfolding array_verdict_of
  no_part h = lent_unknown (facts_of part) (length array) (id_size_of (facts_of part)) (unknown part h)

  pub wrong_buffer : part ≤ 5 → (length array ≡ size_of part → ⊥) → lent_for ≡ Err WrongBuffer
  unfolding array_verdict_of
  wrong_buffer k w =
      lent_wrong (facts_of part) (length array) (id_size_of (facts_of part)) (known part k)
      (buffers_wrong (facts_of part) (length array) (id_size_of (facts_of part)) (λ p. w p.0))

  module _ (room : ℕ) where
    pub is_roomy : Lent part array → text_length_of (size_of part) ≤ room → write_verdict_of (facts_of part) (length array) room ≡ Ok tt
    unfolding write_verdict_of sooner_of
    is_roomy l h = rw (is_lent l, le-ltb room (text_length_of (size_of part)) h)

    pub roomy_is : write_verdict_of (facts_of part) (length array) room ≡ Ok tt → Lent part array × (text_length_of (size_of part) ≤ room)
    unfolding write_verdict_of
    roomy_is h =
        let x = sooner_fine lent_for (claim_of (ltb room (text_length_of (size_of part))) ShortBuffer) h in
        (lent_is x.0, ltb-false room (text_length_of (size_of part)) (claim_fine (ltb room (text_length_of (size_of part))) ShortBuffer x.1))
