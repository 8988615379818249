-- A look that is not refused finds its page whole in its buffer, whatever P is.
-- Assumes nothing.
use Rattle.std.specs.Prelude.{Ok}
use mathlib.Core.Path.{◌≡◌, refl, ◌∙◌}
use Prim.Native.Nat.{ℕ, ◌+◌, ◌*◌, ◌/◌, ◌<◌, ◌≤◌}
use mathlib.Core.Bool.{Bool, true, false, cond}
use native.Mathlib.Nat.{div-lt_iff_lt-mul, mul-le-mul_right, suc-mul}
use native.Mathlib.Omega.{arith}
use lib.Dec.{eqb}
use borrow.Author.Tests.{leb-false, eqb-true, not-false}
use Rattle.parts.specs.declared.Facts.{Facts}
use Rattle.parts.specs.declared.Refusal.TheVariants.{Beyond}
use Rattle.parts.specs.Table.{facts_of, id_size_of, buffers_right_of}
use Rattle.parts.specs.Refusals.{claim_of, lent_verdict_of}
use Rattle.parts.proofs.Laws.{sound}
use Rattle.parts.proofs.Claims.{claim_fine, sooner_fine, lent_fine}
use Rattle.page.specs.declared.Place.{Place}
use Rattle.page.specs.declared.Place.TheVariants.{Array, Ident}
use Rattle.page.specs.Look.{outside_of, look_refusal_of, page_start_of, Room}

-- P divides the array, so the page of an address of the array ends in it
pub fits : (P size a : ℕ) → 0 < P → size ≡ size / P * P → a < size → page_start_of P a + P ≤ size
unfolding page_start_of
fits P size a pos whole low =
    let q : a / P < size / P = (div-lt_iff_lt-mul pos).1 (rw whole at low) in
    omega (arith, mul-le-mul_right P q, suc-mul (a / P) P)

both : (a b : Bool) → cond a b false ≡ true → (a ≡ true) × (b ≡ true)
both true true e = (refl, refl)
both true false e = (cc, cc)
both false b e = (cc, cc)

pub lengths_right : (f : Facts) (array id : ℕ) → buffers_right_of f array id ≡ true → (array ≡ f.size) × (id ≡ id_size_of f)
unfolding buffers_right_of
lengths_right f array id h =
    let b = both (eqb array f.size) (eqb id (id_size_of f)) h in
    (eqb-true array f.size b.0, eqb-true id (id_size_of f) b.1)

-- what is right where a look is not refused
pub record Accepted (f : Facts) (array id : ℕ) (place : Place) : Type 0 where
  pub known : f.known ≡ true
  pub array_right : array ≡ f.size
  pub id_right : id ≡ id_size_of f
  pub inside : outside_of f place ≡ false

pub accepted : (part array id : ℕ) (place : Place) → look_refusal_of part array id place ≡ Ok tt → Accepted (facts_of part) array id place
unfolding look_refusal_of
accepted part array id place h =
    let f = facts_of part in
    let t = sooner_fine (lent_verdict_of f array id) (claim_of (outside_of f place) Beyond) h in
    let k = lent_fine f array id t.0 in
    let l = lengths_right f array id k.1 in
    record {
      known = k.0;
      array_right = l.0;
      id_right = l.1;
      inside = claim_fine (outside_of f place) Beyond t.1;
    }

pub room : (part array id : ℕ) (place : Place) → look_refusal_of part array id place ≡ Ok tt → Room (facts_of part) array id place
unfolding id_size_of
room part array id (Array a) h =
    let f = facts_of part in
    let ok = accepted part array id (Array a) h in
    let s = sound part in
    let low : a.0 < f.size = leb-false f.size a.0 ok.inside in
    (s.page_pos, rw ok.array_right (fits f.page f.size a.0 s.page_pos s.whole low))
room part array id Ident h =
    let f = facts_of part in
    let ok = accepted part array id Ident h in
    ok.id_right ∙ simp (not-false f.ident ok.inside)
