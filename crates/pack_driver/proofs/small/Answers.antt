use Rattle.std.proofs.Common.{◌≡◌, ◌∙◌, ℕ, Bool, true, false, cond, ◌&&◌, List, [], ◌∷◌, ltb, refl, rules, tests}
use Rattle.std.specs.List.{list_all}
use Rattle.std.proofs.lemmas.Iterator.{YieldsList-from_slice}
use Rattle.std.proofs.lemmas.Iterator.Search.{all_from_yields_List}
use Rattle.parts.specs.Bytes.{word_end}
use Rattle.pack_driver.specs.Layout.{all_small_lem}
use Rattle.pack_driver.proofs.small.Goals as goal

both_is : (b r : Bool) → (b && r) ≡ cond b r false
both_is true r = refl
both_is false r = refl

all_is : (xs : List ℕ) → list_all (λ x. ltb x word_end) xs ≡ all_small_lem xs
all_is [] = refl
all_is (x ∷ xs) = rw (← all_is xs) (both_is (ltb x word_end) _)

pub returns : goal.returns
returns c =
    all_from_yields_List (λ x. ltb x word_end) _ _ _ c.all.ensures.ran (YieldsList-from_slice c.args.numbers cc) (λ x b q k. search (rules, tests)) ∙ all_is c.args.numbers
