-- Document 01, 'The driver': "A write is cut at page ends". P is the page size; everything here is over P.
-- Assumes nothing.
use Rattle.std.specs.Prelude.{ℕ, zero, suc, ◌+◌, ◌-◌, ◌/◌, ◌%◌, cond, List, [], ◌∷◌, eqb, leb}

-- the splitter: of n bytes at address a, those up to the page's end
unfoldable pub to_page_end_of : ℕ → ℕ → ℕ → ℕ
to_page_end_of P a n = cond (leb n (P - a % P)) n (P - a % P)

-- the pages that n bytes at address a meet: the last page less the first, and one
unfoldable pub pages_met_of : ℕ → ℕ → ℕ → ℕ
pages_met_of P a n = cond (eqb n 0) 0 ((a % P + (n - 1)) / P + 1)

-- the lengths of all parts, each cut by the splitter; at most `most` of them
abbrev pub parts_of : ℕ → ℕ → ℕ → ℕ → List ℕ
parts_of P zero a n = []
parts_of P (suc most) a zero = []
parts_of P (suc most) a (suc n) = to_page_end_of P a (suc n) ∷ parts_of P most (a + to_page_end_of P a (suc n)) (suc n - to_page_end_of P a (suc n))

abbrev pub sum : List ℕ → ℕ
sum [] = 0
sum (x ∷ xs) = x + sum xs
