-- The page rule, over any P.
-- Assumes nothing.
use Prim.Native.Nat.{ℕ, ◌+◌, ◌-◌, ◌*◌, ◌/◌, ◌%◌, ◌<◌}
use mathlib.Core.Path.{◌≡◌, sym, ap, ◌∙◌}
use native.Mathlib.Nat.{mod-lt, mod_self, div-add-mod', mul-add-mod_self_right, mod-add-mod, add-mod_right, add_assoc}
use native.Mathlib.Omega.{arith}
use lib.Arith.{digits_div, digits_mod}
use Rattle.line.specs.Rules.{roll_of, before_of, onward_of}
use Rattle.chip_laws.specs.Roll.{PageRule, LastModified}
use Rattle.chip_laws.proofs.Range.{roll_back}

module _ (P c : ℕ) (pos : 0 < P) where
  page : roll_of P c / P ≡ c / P
  unfolding roll_of
  page = digits_div (c / P) (mod-lt (c + 1) pos)

  next : c % P + 1 < P → roll_of P c ≡ c + 1
  unfolding roll_of
  next h =
      let e : c / P * P + (c % P + 1) ≡ c + 1 = omega (arith, div-add-mod' c P) in
      let d : (c + 1) % P ≡ c % P + 1 = ap (λ (n : ℕ). n % P) (sym e) ∙ digits_mod (c / P) h in
      omega (arith, e)

  start : c % P + 1 ≡ P → roll_of P c ≡ c / P * P
  unfolding roll_of
  start h =
      let e : c + 1 ≡ c / P * P + P = omega (arith, div-add-mod' c P) in
      let d : (c + 1) % P ≡ 0 = ap (λ (n : ℕ). n % P) e ∙ (mul-add-mod_self_right (c / P) P P ∙ mod_self P) in
      omega (arith, d)

  back : before_of P (roll_of P c) ≡ c
  unfolding before_of
  back =
      ap (λ (n : ℕ). n * P + (roll_of P c + (P - 1)) % P) page
      ∙ (ap (λ (n : ℕ). c / P * P + n) (roll_back P c pos) ∙ div-add-mod' c P)

  before_page : before_of P c / P ≡ c / P
  unfolding before_of
  before_page = digits_div (c / P) (mod-lt (c + (P - 1)) pos)

  before_on : (before_of P c + 1) % P ≡ c % P
  unfolding before_of
  before_on =
      ap (λ (n : ℕ). n % P) (add_assoc (c / P * P) ((c + (P - 1)) % P) 1)
      ∙ (mul-add-mod_self_right (c / P) P ((c + (P - 1)) % P + 1)
      ∙ (mod-add-mod (c + (P - 1)) P 1
      ∙ (ap (λ (n : ℕ). n % P) (omega arith) ∙ add-mod_right c P)))

  forth : roll_of P (before_of P c) ≡ c
  unfolding roll_of
  forth =
      ap (λ (n : ℕ). n * P + (before_of P c + 1) % P) before_page
      ∙ (ap (λ (n : ℕ). c / P * P + n) before_on ∙ div-add-mod' c P)

pub page_rule : PageRule
page_rule P c pos =
    record { page = page P c pos; next = next P c pos; start = start P c pos; back = back P c pos; forth = forth P c pos }

pub last_modified : LastModified
unfolding onward_of
last_modified f last pos = ap (λ (n : ℕ). (n + 1) % f.size) (back f.page last pos)
