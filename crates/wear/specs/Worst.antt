-- Document 02, §8: "Store it, number and count, beside the counts; every write, cut, load and conversion keeps it equal to what the walk would find."
-- The walk is `most_of` (Report.antt). "4 also for a stored worst that the counts don't bear out".
-- Assumes nothing.
use Rattle.std.specs.Prelude.{ℕ, suc, ◌<◌, ◌≤◌, ◌≡◌, Bool, not, cond, ◌&&◌, List, [], ◌∷◌, length, get_or, eqb, ltb, Ok, Err}
use Rattle.parts.specs.declared.Refusal.TheVariants.{BadState}
use Rattle.parts.specs.Verdict.{Verdict}
use Rattle.parts.specs.Refusals.{claim_of}
use Rattle.wear.specs.declared.Most.{Most}
use Rattle.wear.specs.Report.{most, most_of}

-- ---- what the counts bear out

-- "what the walk would find", said without a walk: a group that is there and holds the count, none has more, and every lower one has less
pub record IsWorst (counts : List ℕ) (w : Most) : Type 0 where
  pub there : w.group < length counts
  pub holds : get_or counts w.group 0 ≡ w.count
  pub most : (n : ℕ) → get_or counts n 0 ≤ w.count
  pub first : (n : ℕ) → n < w.group → get_or counts n 0 < w.count

-- a stored worst is borne out where the walk finds it, number and count
unfoldable pub born_out_of : List ℕ → Most → Bool
born_out_of counts w = eqb (most_of counts).group w.group && eqb (most_of counts).count w.count

-- refusal 4
unfoldable pub worst_verdict_of : List ℕ → Most → Verdict
worst_verdict_of counts w = claim_of (not (born_out_of counts w)) BadState

-- what a call answers that was given the worst w and left these counts: a refused one gives back what it was given
abbrev pub worst_by : Most → List ℕ → Verdict → Most
worst_by w counts (Ok _) = most_of counts
worst_by w counts (Err r) = w

-- ---- for who raises counts and holds no worst

-- of two groups the more worn, the lower on a tie
unfoldable pub worse_of : Most → Most → Most
worse_of a b = cond (ltb a.count b.count) b (cond (ltb b.count a.count) a (cond (ltb b.group a.group) b a))

-- of two, the second of which has the higher number: only strictly more takes the place
abbrev pub later_of : Most → Most → Most
later_of a b = cond (ltb a.count b.count) b a

-- the walk along the counts before and after, of which the first are group n's, over those groups alone that went on
abbrev pub raised_from : Most → ℕ → List ℕ → List ℕ → Most
raised_from b n [] ys = b
raised_from b n (x ∷ xs) [] = b
raised_from b n (x ∷ xs) (y ∷ ys) = raised_from (cond (ltb x y) (later_of b (most n y)) b) (suc n) xs ys

-- the most worn of the groups that went on between the counts before and after; group 0 with 0 where none did
unfoldable pub raised_of : List ℕ → List ℕ → Most
raised_of before after = raised_from (most 0 0) 0 before after
