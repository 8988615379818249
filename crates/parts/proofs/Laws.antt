-- Laws of the part table, of a verdict's number, of events and buffers.
-- Assumes nothing.
use Rattle.std.specs.Prelude.{Ok, Err}
use mathlib.Core.Path.{◌≡◌, refl, sym, ap, ◌∙◌}
use Prim.Native.Nat.{ℕ, zero, suc, ◌%◌, ◌<◌, ◌≤◌}
use mathlib.Core.Bool.{Bool, true, false, cond}
use native.Mathlib.Omega.{arith}
use lib.Dec.{eqb}
use lib.ListN.{length}
use borrow.Author.Tests.{eq-eqb, ne_eqb, eqb-true, eqb-false}
use Rattle.parts.specs.declared.Facts.{Facts}
use Rattle.parts.specs.declared.Part.{Part}
use Rattle.parts.specs.declared.Loss.{Loss}
use Rattle.parts.specs.declared.Loss.TheVariants.{Old}
use Rattle.parts.specs.declared.Event.TheVariants.{Clock}
use Rattle.parts.specs.Table.{table_of, facts_of, name_of, id_size_of, buffers_right_of}
use Rattle.parts.specs.Events.{event_with, event_of}
use Rattle.parts.specs.Sound.{Sound, OneOrder}
use Rattle.parts.specs.declared.Refusal.{Refusal}
use Rattle.parts.specs.declared.Refusal.TheVariants.{NoPart, WrongEnable, WrongBuffer, BadState, BadEvent, ShortBuffer, Beyond, BadLimit, NoSelect, NoData, PollsUsed, BadImage, TooMany, NoFirst, NoSecond, BadRecord, BadSum, Misplaced, NoEnd, BadSample, CountsLost}
use Rattle.parts.specs.Verdict.{Verdict}
use Rattle.parts.specs.Refusals.{number_of, rank_of, verdict_number_of}

-- both ways of a test, each with what the test said
pub branch {ℓ κ} : {A : Type ℓ} (Q : A → Type κ) (b : Bool) {x y : A} → (b ≡ true → Q x) → (b ≡ false → Q y) → Q (cond b x y)
branch Q true f g = f refl
branch Q false f g = g refl

-- every row keeps to the ranges
row_right : (n : ℕ) → Sound (table_of n).facts × ((table_of n).name.length ≤ 11) × (length (table_of n).name.bytes ≡ 11)
row_right n =
    branch Q (eqb n 0) (λ _. omega arith) (λ _.
    branch Q (eqb n 1) (λ _. omega arith) (λ _.
    branch Q (eqb n 2) (λ _. omega arith) (λ _.
    branch Q (eqb n 3) (λ _. omega arith) (λ _.
    branch Q (eqb n 4) (λ _. omega arith) (λ _.
    branch Q (eqb n 5) (λ _. omega arith) (λ _. omega arith))))))
  where
    Q : Part → Type 0
    Q p = Sound p.facts × (p.name.length ≤ 11) × (length p.name.bytes ≡ 11)

pub sound : (n : ℕ) → Sound (facts_of n)
unfolding facts_of
sound n = (row_right n).0

pub name_fits : (n : ℕ) → ((name_of n).length ≤ 11) × (length (name_of n).bytes ≡ 11)
unfolding name_of
name_fits n = ((row_right n).1, (row_right n).2)

-- ---- "part above 5"

no_row : (part : ℕ) → 5 < part → (table_of part).facts.known ≡ false
no_row part h =
    simp (ne_eqb part 0 (λ e. omega arith), ne_eqb part 1 (λ e. omega arith), ne_eqb part 2 (λ e. omega arith), ne_eqb part 3 (λ e. omega arith), ne_eqb part 4 (λ e. omega arith), ne_eqb part 5 (λ e. omega arith))

pub unknown : (part : ℕ) → 5 < part → (facts_of part).known ≡ false
unfolding facts_of
unknown = no_row

pub known : (part : ℕ) → part ≤ 5 → (facts_of part).known ≡ true
unfolding facts_of
known part h =
    branch Q (eqb part 0) (λ _. refl) (λ h0.
    branch Q (eqb part 1) (λ _. refl) (λ h1.
    branch Q (eqb part 2) (λ _. refl) (λ h2.
    branch Q (eqb part 3) (λ _. refl) (λ h3.
    branch Q (eqb part 4) (λ _. refl) (λ h4.
    branch Q (eqb part 5) (λ _. refl) (λ h5.
    absurd (omega (arith, eqb-false part 0 h0, eqb-false part 1 h1, eqb-false part 2 h2, eqb-false part 3 h3, eqb-false part 4 h4, eqb-false part 5 h5))))))))
  where
    Q : Part → Type 0
    Q p = p.facts.known ≡ true

-- ---- 0 is no refusal's number, and the rank tells it

entered : (r : Refusal) → (0 < number_of r) × (number_of r ≡ rank_of r % 100)
entered NoPart = (omega arith, refl)
entered WrongEnable = (omega arith, refl)
entered WrongBuffer = (omega arith, refl)
entered BadState = (omega arith, refl)
entered (BadEvent k) = (omega arith, refl)
entered ShortBuffer = (omega arith, refl)
entered Beyond = (omega arith, refl)
entered BadLimit = (omega arith, refl)
entered (NoSelect p) = (omega arith, refl)
entered (NoData i) = (omega arith, refl)
entered PollsUsed = (omega arith, refl)
entered BadImage = (omega arith, refl)
entered TooMany = (omega arith, refl)
entered (NoFirst p) = (omega arith, refl)
entered (NoSecond p) = (omega arith, refl)
entered (BadRecord n) = (omega arith, refl)
entered (BadSum n) = (omega arith, refl)
entered (Misplaced n) = (omega arith, refl)
entered (NoEnd n) = (omega arith, refl)
entered (BadSample k) = (omega arith, refl)
entered CountsLost = (omega arith, refl)

pub one_order : OneOrder
one_order r s e = (entered r).1 ∙ ap (λ (k : ℕ). k % 100) e ∙ sym (entered s).1

pub fine : (v : Verdict) → verdict_number_of v ≡ 0 → v ≡ Ok tt
fine (Ok _) h = refl
fine (Err r) h = absurd (omega (arith, (entered r).0))

pub passed : (b : Bool) (r : Refusal) (v : Verdict) → cond b (Err r) v ≡ Ok tt → (b ≡ false) × (v ≡ Ok tt)
passed true r v h = let z : ◌≡◌ {A = ℕ} 0 1 = cc in absurd (omega arith)
passed false r v h = (refl, h)

-- ---- events and buffers

-- 0 and 1 are clocks
pub clock_with : (w : Loss) (e : ℕ) → e < 2 → event_with w e ≡ Clock (eqb e 1)
unfolding event_with
clock_with w zero h = refl
clock_with w (suc zero) h = refl
clock_with w (suc (suc e)) h = absurd (omega arith)

pub clock_code : (e : ℕ) → e < 2 → event_of e ≡ Clock (eqb e 1)
clock_code = clock_with Old

pub buffers_right_lem : (f : Facts) (n d : ℕ) → n ≡ f.size → d ≡ id_size_of f → buffers_right_of f n d ≡ true
unfolding buffers_right_of
buffers_right_lem f n d a b = rw (eq-eqb n f.size a, eq-eqb d (id_size_of f) b)

pub buffers_wrong : (f : Facts) (n d : ℕ) → ((n ≡ f.size) × (d ≡ id_size_of f) → ⊥) → buffers_right_of f n d ≡ false
unfolding buffers_right_of
buffers_wrong f n d w =
    branch (λ b. b ≡ false) (eqb n f.size) (λ h. ne_eqb d (id_size_of f) (λ e. w (eqb-true n f.size h, e))) (λ _. refl)
