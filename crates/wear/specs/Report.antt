-- Document 02, §6: "the total over groups, and the group with most (the lowest on a tie)"; and the counts of two heaps of traces together.
-- Assumes nothing.
use Rattle.std.specs.Prelude.{ℕ, suc, ◌+◌, cond, List, [], ◌∷◌, ltb}
use Rattle.parts.specs.Bytes.{topped}
use Rattle.wear.specs.declared.Most.{Most}

abbrev pub sum_of : List ℕ → ℕ
sum_of [] = 0
sum_of (x ∷ xs) = x + sum_of xs

-- a group and its count
abbrev pub most : ℕ → ℕ → Most
most n x = record { group = n; count = x }

-- the walk along the counts, of which the first is group n's: only strictly more takes the place of what was most so far
abbrev pub most_from : Most → ℕ → List ℕ → Most
most_from b n [] = b
most_from b n (x ∷ xs) = most_from (cond (ltb b.count x) (most n x) b) (suc n) xs

-- where all are zero, or there are none, group 0 with 0
abbrev pub most_of : List ℕ → Most
most_of counts = most_from (most 0 0) 0 counts

-- group by group, staying at the top
abbrev pub joined_of : List ℕ → List ℕ → List ℕ
joined_of [] ys = []
joined_of (x ∷ xs) [] = x ∷ xs
joined_of (x ∷ xs) (y ∷ ys) = topped (x + y) ∷ joined_of xs ys
