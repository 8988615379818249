use Rattle.std.proofs.Common.{◌≡◌, ◌∙◌, ℕ, List, true, refl, sym, ap, rules}
use Rattle.driver.specs.declared.Driver.{Driver}
use Rattle.pack_driver.specs.Layout.{numbers_of, all_small_lem, small_of, packs_driver_of, pack_driver_into}
use Rattle.pack_driver.proofs.Laws.{copied_over, packed_put}
use Rattle.pack_driver.proofs.pack.Goals as goal

fits : (d : Driver) (k : List ℕ) → k ≡ numbers_of d → all_small_lem k ≡ true → small_of d ≡ true
unfolding small_of
fits d k e h = ap all_small_lem (sym e) ∙ h

pub returns-clause-bytes : goal.returns-clause-bytes
unfolding packs_driver_of pack_driver_into
returns-clause-bytes c =
    let out = c.args.out.now in
    let long = c.if-out-ne-LENGTH.false in
    let small = fits c.args.driver _ c.numbers-numbers.ensures (sym c.small.ensures ∙ c.if-not-small.false) in
    let head = copied_over 0 7 out c.copy_from_slice.new.self (search rules) (search rules) ∙ rw (c.copy_from_slice.ensures.after, c.head.ensures) refl in
    let numbers = c.put_numbers.ensures ∙ rw c.numbers-numbers.ensures refl in
    simp (small, long) (packed_put out _ _ c.args.driver long head numbers)
