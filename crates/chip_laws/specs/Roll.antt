-- The page rule as a law, once over P (document 01, rules 3 and 7): where the counter goes after a latched byte, where it came from, and
-- where it stands when the cycle has ended.
-- Assumes nothing.
use Rattle.std.specs.Prelude.{ℕ, ◌+◌, ◌*◌, ◌/◌, ◌%◌, ◌<◌, ◌≡◌}
use Rattle.parts.specs.declared.Facts.{Facts}
use Rattle.line.specs.Rules.{roll_of, before_of, onward_of}

-- rule 3: "the counter goes on by one and rolls over inside the page"
pub record RollsInside (P c : ℕ) : Type 0 where
  -- the next place stays in the page
  pub page : roll_of P c / P ≡ c / P
  -- it is one more, but at the page's end
  pub next : c % P + 1 < P → roll_of P c ≡ c + 1
  -- and there the page's start
  pub start : c % P + 1 ≡ P → roll_of P c ≡ c / P * P
  -- the place before is its inverse
  pub back : before_of P (roll_of P c) ≡ c
  pub forth : roll_of P (before_of P c) ≡ c

abbrev pub PageRule : Type 0
PageRule = (P c : ℕ) → 0 < P → RollsInside P c

-- rule 7: "After an array write the counter is the last modified address plus one, modulo the array size"; in the cycle it is the place
-- behind the last modified address
abbrev pub LastModified : Type 0
LastModified = (f : Facts) (last : ℕ) → 0 < f.page → onward_of f (roll_of f.page last) ≡ (last + 1) % f.size
