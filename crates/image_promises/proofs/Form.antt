-- Laws of the tests of a form, for an image of any version, and of the six parts.
-- Assumes nothing.
use Prim.Native.Nat.{ℕ, zero, suc, ◌≤◌}
use mathlib.Core.Path.{◌≡◌, refl}
use mathlib.Core.Bool.{Bool, true, false}
use mathlib.Core.List.{List}
use native.Mathlib.Decide.{dec_le}
use native.Mathlib.Omega.{arith}
use lib.ListN.{length, get_or}
use lib.Dec.{eqb}
use borrow.Author.Tests.{eqb-true, eq-eqb}
use Rattle.parts.specs.declared.Facts.{Facts}
use Rattle.parts.specs.Table.{facts_of, enable_right_of}
use Rattle.parts.proofs.Laws.{unknown}
use Rattle.parts.proofs.Tests.{both}
use Rattle.image.specs.Layout.{mark_right_of, lock_byte_right_of, formed_as}
use Rattle.image_worn.specs.Layout.{version_in}
use Rattle.image_worn.proofs.Laws.{formed_is, version_is}

-- ---- formed, of any version

pub as_formed : (v n : ℕ) (f : Facts) (l : List ℕ) → length l ≡ n → mark_right_of v l ≡ true → lock_byte_right_of f (get_or l 6 0) ≡ true → formed_as v n f l ≡ true
unfolding formed_as
as_formed v n f l a b c = rw (eq-eqb (length l) n a, b) c

-- the mark's bytes and the version
pub record Marked (v : ℕ) (l : List ℕ) : Type 0 where
  pub at_0 : eqb (get_or l 0 0) 0x45 ≡ true
  pub at_1 : eqb (get_or l 1 0) 0x50 ≡ true
  pub at_2 : eqb (get_or l 2 0) 0x52 ≡ true
  pub at_3 : eqb (get_or l 3 0) 0x00 ≡ true
  pub version : get_or l 4 0 ≡ v

pub marked_as : (v : ℕ) (l : List ℕ) → mark_right_of v l ≡ true → Marked v l
unfolding mark_right_of
marked_as v l h =
    let a = both (eqb (get_or l 0 0) 0x45) _ h in
    let b = both (eqb (get_or l 1 0) 0x50) _ a.1 in
    let c = both (eqb (get_or l 2 0) 0x52) _ b.1 in
    let d = both (eqb (get_or l 3 0) 0x00) (eqb (get_or l 4 0) v) c.1 in
    record { at_0 = a.0; at_1 = b.0; at_2 = c.0; at_3 = d.0; version = eqb-true (get_or l 4 0) v d.1 }

pub as_marked : (v : ℕ) (l : List ℕ) → Marked v l → mark_right_of v l ≡ true
unfolding mark_right_of
as_marked v l m = rw (m.at_0, m.at_1, m.at_2, m.at_3) (eq-eqb (get_or l 4 0) v m.version)

pub formed_version : (v n : ℕ) (f : Facts) (l : List ℕ) → formed_as v n f l ≡ true → version_in l ≡ v
formed_version v n f l h = version_is v l (formed_is v n f l h).marked

-- another version's number is wrong
pub other_version : (v n : ℕ) (f : Facts) (l : List ℕ) → (version_in l ≡ v → ⊥) → formed_as v n f l ≡ false
other_version v n f l w = go (formed_as v n f l) refl
  where
    go : (b : Bool) → formed_as v n f l ≡ b → b ≡ false
    go true e = absurd (w (formed_version v n f l e))
    go false e = refl

-- ---- one of the six parts

pub in_table : (part : ℕ) → (facts_of part).known ≡ true → part ≤ 5
in_table part k = go (dec_le part 5)
  where
    go : Dec (part ≤ 5) → part ≤ 5
    go (yes h) = h
    go (no h) = let u = unknown part (omega (arith, h)) in let z : ◌≡◌ {A = ℕ} 0 1 = cc in absurd (omega arith)

-- each has an enable 0
enabled_at : (part : ℕ) → part ≤ 5 → enable_right_of (facts_of part) 0 ≡ true
unfolding facts_of enable_right_of
enabled_at zero h = refl
enabled_at (suc zero) h = refl
enabled_at (suc (suc zero)) h = refl
enabled_at (suc (suc (suc zero))) h = refl
enabled_at (suc (suc (suc (suc zero)))) h = refl
enabled_at (suc (suc (suc (suc (suc zero))))) h = refl
enabled_at (suc (suc (suc (suc (suc (suc n)))))) h = absurd (omega (arith, h))

pub zero_enabled : (part : ℕ) → (facts_of part).known ≡ true → enable_right_of (facts_of part) 0 ≡ true
zero_enabled part k = enabled_at part (in_table part k)
