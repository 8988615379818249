-- Promise 1. "Over any events from delivery, the pages whose contents differ from delivery, the identification page counted as
-- one, are never more than the write cycles begun."
-- Assumes nothing.
use Rattle.std.specs.Prelude.{ℕ, zero, suc, ◌+◌, ◌*◌, ◌<◌, ◌≤◌, Bool, false, not, ◌&&◌, List, ◌≡◌, length, take, drop, Ok}
use Rattle.parts.specs.declared.Facts.{Facts}
use Rattle.parts.specs.Table.{facts_of, pages_of}
use Rattle.parts.specs.Sound.{Sound}
use Rattle.parts.specs.Bytes.{flag_of, same_of}
use Rattle.state.specs.declared.Chip.{Chip}
use Rattle.chip.specs.Memory.{Mem}
use Rattle.chip.specs.Delivery.{standby_of, delivered_of}
use Rattle.chip.specs.Model.{Model}
use Rattle.chip.specs.Runs.{memory_of, cycles_of}
use Rattle.chip_promises.specs.States.{NotBusy}
use Rattle.chip_promises.specs.Calls.{Deliver, Step, Run, Call, before_calls, calls_by}

-- ---- the pages that differ

-- page number k of P bytes each
abbrev pub page_of : ℕ → ℕ → List ℕ → List ℕ
page_of P k s = take P (drop (k * P) s)

-- how many of the numbers below n have the property
unfoldable pub count_of : (ℕ → Bool) → ℕ → ℕ
count_of q zero = 0
count_of q (suc n) = count_of q n + flag_of (q n)

-- of the array's pages, as many as the part table says, and the identification page as one
unfoldable pub differing_of : Facts → Mem → Mem → ℕ
differing_of f m m₀ =
    count_of (λ k. not (same_of (page_of f.page k m.cells) (page_of f.page k m₀.cells))) (pages_of f)
    + flag_of (not (same_of m.ident m₀.ident))

-- ---- of any chip

-- From any state in which no cycle runs, accepted or not, with any memory: over any events, the pages that differ from that memory
-- are at most the cycles begun. For every row of a part table, with any enable.
abbrev pub PagesAtMostCycles : (Facts → ℕ → Model) → Type 0
PagesAtMostCycles M =
    (f : Facts) (enable : ℕ) (c : Chip) (m : Mem) (es : List ℕ) → NotBusy c.line.phase
    → differing_of f (memory_of (M f enable) c m es) m ≤ cycles_of (M f enable) c es

-- From delivery, over any events, all parts, any enable.
abbrev pub PagesFromDelivery : (Facts → ℕ → Model) → Type 0
PagesFromDelivery M =
    (part enable : ℕ) (es : List ℕ)
    → differing_of (facts_of part) (memory_of (M (facts_of part) enable) (standby_of (facts_of part) false) (delivered_of part) es) (delivered_of part)
    ≤ cycles_of (M (facts_of part) enable) (standby_of (facts_of part) false) es

-- ---- of any functions that are called as `deliver`, `step` and `run` are: the cycles are those that they report, the pages those of
-- the buffers they leave

-- Any series of calls on what `deliver` answers and leaves, against the buffers as it leaves them.
abbrev pub CallsPagesFromDelivery : Deliver → Step → Run → Type 0
CallsPagesFromDelivery D S R =
    (part enable : ℕ) (m : Mem) (calls : List Call) → (D part m).answer.verdict ≡ Ok tt
    → differing_of (facts_of part) (calls_by S R part enable (before_calls (D part m).answer.chip (D part m).mem) calls).mem (D part m).mem
    ≤ (calls_by S R part enable (before_calls (D part m).answer.chip (D part m).mem) calls).cycles

-- ---- the count says what it is meant to say

-- Said of any count of the pages in which the first memory differs from the second: equal memories count 0, each page that comes to
-- differ adds 1, the identification page too, and with buffers of the part's lengths no page is left out. A page adds no more than 1
-- whatever changes in it.
pub record CountsEveryPage (count : Facts → Mem → Mem → ℕ) : Type 0 where
  pub none : (f : Facts) (m : Mem) → count f m m ≡ 0
  pub one : (f : Facts) (m n m₀ : Mem) (k : ℕ) → k < pages_of f
      → page_of f.page k m.cells ≡ page_of f.page k m₀.cells → (page_of f.page k n.cells ≡ page_of f.page k m₀.cells → ⊥)
      → ((j : ℕ) → (j ≡ k → ⊥) → page_of f.page j n.cells ≡ page_of f.page j m.cells) → n.ident ≡ m.ident
      → count f n m₀ ≡ count f m m₀ + 1
  pub ident : (f : Facts) (m n m₀ : Mem) → n.cells ≡ m.cells → m.ident ≡ m₀.ident → (n.ident ≡ m₀.ident → ⊥) → count f n m₀ ≡ count f m m₀ + 1
  pub all : (f : Facts) → Sound f → (m m₀ : Mem) → length m.cells ≡ f.size → length m₀.cells ≡ f.size → count f m m₀ ≡ 0 → m ≡ m₀

-- a count that is 1 however many pages differ
abbrev pub coarse : Facts → Mem → Mem → ℕ
coarse f m m₀ = flag_of (not (same_of m.cells m₀.cells && same_of m.ident m₀.ident))

abbrev pub CoarseBreaks : Type 0
CoarseBreaks = CountsEveryPage coarse → ⊥
