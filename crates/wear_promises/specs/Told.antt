-- Document 02, §6: "the total over groups, and the group with most (the lowest on a tie)", of any function that reports as `wear::report` does; and counts
-- of two heaps of traces, of any that joins as `wear::join` does.
-- Assumes nothing.
use Rattle.std.specs.Prelude.{ℕ, ◌+◌, ◌<◌, ◌≤◌, ◌≡◌, List, ◌++◌, length, get_or, replicate, Ok, Err}
use Rattle.parts.specs.declared.Refusal.{Refusal}
use Rattle.parts.specs.Table.{facts_of, groups_of}
use Rattle.parts.specs.Refusals.{verdict_number_of}
use Rattle.parts.specs.Bytes.{topped}
use Rattle.wear.specs.declared.Reported.{Reported}
use Rattle.wear.specs.Report.{sum_of}
use Rattle.wear.specs.Calls.{JoinLeft}
use Rattle.wear_promises.specs.Counts.{WearRun, Counts, heap_by}

-- ---- what is told of the counts

abbrev pub Reporter : Type 0
Reporter = ℕ → List ℕ → Reported

pub record MostIsMost (P : Reporter) : Type 0 where
  pub total : (part : ℕ) (counts : List ℕ) → (P part counts).verdict ≡ Ok tt → (P part counts).total ≡ sum_of counts
  -- the group is one of the array and holds the count, none has more, and every lower one has less
  pub within : (part : ℕ) (counts : List ℕ) → (P part counts).verdict ≡ Ok tt → (P part counts).group < groups_of (facts_of part)
  pub holds : (part : ℕ) (counts : List ℕ) → (P part counts).verdict ≡ Ok tt → get_or counts (P part counts).group 0 ≡ (P part counts).count
  pub most : (part : ℕ) (counts : List ℕ) → (P part counts).verdict ≡ Ok tt → (n : ℕ) → get_or counts n 0 ≤ (P part counts).count
  pub lowest : (part : ℕ) (counts : List ℕ) → (P part counts).verdict ≡ Ok tt → (n : ℕ) → n < (P part counts).group → get_or counts n 0 < (P part counts).count

-- refusals 1 and 3, and none where neither applies
pub record ReportNumbers (P : Reporter) : Type 0 where
  pub no_part : (part : ℕ) (counts : List ℕ) → 5 < part → verdict_number_of (P part counts).verdict ≡ 1
  pub wrong_buffer : (part : ℕ) (counts : List ℕ) → part ≤ 5 → (length counts ≡ groups_of (facts_of part) → ⊥) → verdict_number_of (P part counts).verdict ≡ 3
  pub none : (part : ℕ) (counts : List ℕ) → part ≤ 5 → length counts ≡ groups_of (facts_of part) → (P part counts).verdict ≡ Ok tt

-- nothing is left open: two that keep it tell the same of counts that are not refused
abbrev pub ReportPinned : Type 0
ReportPinned =
    (P Q : Reporter) → MostIsMost P → MostIsMost Q → (part : ℕ) (counts : List ℕ) → (P part counts).verdict ≡ Ok tt → (Q part counts).verdict ≡ Ok tt
    → ((P part counts).total ≡ (Q part counts).total) × ((P part counts).group ≡ (Q part counts).group) × ((P part counts).count ≡ (Q part counts).count)

-- ---- two heaps

abbrev pub Joiner : Type 0
Joiner = ℕ → List ℕ → List ℕ → JoinLeft

pub record JoinAdds (J : Joiner) : Type 0 where
  -- each count is the sum, at most the top
  pub each : (part : ℕ) (xs ys : List ℕ) → (J part xs ys).verdict ≡ Ok tt → (n : ℕ) → n < groups_of (facts_of part)
      → get_or (J part xs ys).counts n 0 ≡ topped (get_or xs n 0 + get_or ys n 0)
  pub size : (part : ℕ) (xs ys : List ℕ) → Counts part xs → Counts part ys → Counts part (J part xs ys).counts
  pub fine : (part : ℕ) (xs ys : List ℕ) → part ≤ 5 → Counts part xs → Counts part ys → (J part xs ys).verdict ≡ Ok tt
  pub refused : (part : ℕ) (xs ys : List ℕ) (r : Refusal) → (J part xs ys).verdict ≡ Err r → (J part xs ys).counts ≡ xs

-- in whatever order, and however they are grouped: any number of processes or machines
pub record JoinAnyOrder (J : Joiner) : Type 0 where
  pub turned : (part : ℕ) (xs ys : List ℕ) → part ≤ 5 → Counts part xs → Counts part ys → (J part xs ys).counts ≡ (J part ys xs).counts
  pub grouped : (part : ℕ) (xs ys zs : List ℕ) → part ≤ 5 → Counts part xs → Counts part ys → Counts part zs
      → (J part (J part xs ys).counts zs).counts ≡ (J part xs (J part ys zs).counts).counts

abbrev pub zeros : ℕ → List ℕ
zeros part = replicate (groups_of (facts_of part)) 0

-- The counts of two heaps of traces, each counted for itself, joined: the counts of both heaps, one after the other.
abbrev pub HeapsMerge : Joiner → WearRun → Type 0
HeapsMerge J R =
    (part enable : ℕ) (counts : List ℕ) (xs ys : List (List ℕ)) → part ≤ 5 → Counts part counts
    → (J part (heap_by R part enable counts xs) (heap_by R part enable (zeros part) ys)).counts ≡ heap_by R part enable counts (xs ++ ys)
