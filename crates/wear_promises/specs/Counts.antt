-- Document 02, §6, of any function that counts wear as `wear::go_on` does: the counts are what the history says.
-- Assumes nothing.
use Rattle.std.specs.Prelude.{ℕ, suc, ◌+◌, ◌/◌, ◌<◌, ◌≤◌, ◌≡◌, false, cond, List, [], ◌∷◌, ◌⊎◌, length, get_or, take, replicate, Err}
use Rattle.parts.specs.declared.Facts.{Facts}
use Rattle.parts.specs.declared.Refusal.{Refusal}
use Rattle.parts.specs.Table.{facts_of, groups_of}
use Rattle.parts.specs.Refusals.{is_fine, verdict_number_of}
use Rattle.parts.specs.Bytes.{AllBelow, topped}
use Rattle.line.specs.declared.Phase.TheVariants.{Idle}
use Rattle.state.specs.declared.Chip.{Chip}
use Rattle.chip.specs.Memory.{Mem}
use Rattle.chip.specs.Delivery.{standby_of, delivered_of}
use Rattle.chip.specs.Model.{PowerCut, old}
use Rattle.chip.specs.Calls.{run_of}
use Rattle.chip_promises.specs.Stops.{watch_at, fresh_watch}
use Rattle.chip_promises.specs.Calls.{noted}
use Rattle.wear.specs.Report.{sum_of}
use Rattle.wear.specs.Calls.{WearLeft}
use Rattle.wear_promises.specs.History.{times_of, touched_in}

-- called as `wear::go_on` is: part, enable, what is given for a loss of power, chip, the two lent buffers, the counts, event codes, the lent answer buffer
abbrev pub WearRun : Type 0
WearRun = ℕ → ℕ → PowerCut → Chip → Mem → List ℕ → List ℕ → List ℕ → WearLeft

-- counts of 32 bits, as many as the part has groups
pub record Counts (part : ℕ) (counts : List ℕ) : Type 0 where
  pub size : length counts ≡ groups_of (facts_of part)
  pub wide : AllBelow 4294967296 counts

-- no count stands at the top
abbrev pub NoneAtTop : List ℕ → Type 0
NoneAtTop counts = AllBelow 4294967295 counts

-- ---- a series of calls on one chip; refused calls may be among them

-- each call is given its own for a loss of power
pub record WearCall : Type 0 where
  pub cut : PowerCut
  pub events : List ℕ
  pub answers : List ℕ

-- what the calls have come to, with the history: the events of those that were not refused, and the levels they answered
pub record Worn : Type 0 where
  pub chip : Chip
  pub mem : Mem
  pub counts : List ℕ
  pub events : List ℕ
  pub levels : List ℕ

abbrev pub unworn : Chip → Mem → List ℕ → Worn
unworn c m counts = record { chip = c; mem = m; counts = counts; events = []; levels = [] }

unfoldable pub after_wear : List ℕ → WearLeft → Worn → Worn
after_wear es x e =
    record {
      chip = x.run.answer.chip;
      mem = x.run.mem;
      counts = x.counts;
      events = noted x.run.answer.verdict e.events es;
      levels = noted x.run.answer.verdict e.levels (take (length es) x.run.answers);
    }

unfoldable pub wear_calls_by : WearRun → ℕ → ℕ → Worn → List WearCall → Worn
wear_calls_by R part enable e [] = e
wear_calls_by R part enable e (x ∷ xs) =
    wear_calls_by R part enable (after_wear x.events (R part enable x.cut e.chip e.mem e.counts x.events x.answers) e) xs

-- From any chip with no transfer and no cycle under way, whatever was counted before, over any series of calls: each count is the count before plus
-- the completed or cut cycles of the history that touched its group, at most the top.
abbrev pub WearIsHistory : WearRun → Type 0
WearIsHistory R =
    (part enable : ℕ) (c : Chip) (m : Mem) (counts : List ℕ) (calls : List WearCall) → c.line.phase ≡ Idle → Counts part counts
    → let end = wear_calls_by R part enable (unworn c m counts) calls in
    Counts part end.counts
    × ((n : ℕ) → n < groups_of (facts_of part) → get_or end.counts n 0 ≡ topped (get_or counts n 0 + times_of (facts_of part) (watch_at c) [] end.events end.levels n))

-- "The total must come from the event history, not the stored counts, while no count is at the top": the sum grows by what the history has.
abbrev pub TotalIsHistory : WearRun → Type 0
TotalIsHistory R =
    (part enable : ℕ) (c : Chip) (m : Mem) (counts : List ℕ) (calls : List WearCall) → c.line.phase ≡ Idle → Counts part counts
    → let end = wear_calls_by R part enable (unworn c m counts) calls in
    NoneAtTop end.counts
    → sum_of end.counts ≡ sum_of counts + touched_in (facts_of part) (watch_at c) [] end.events end.levels

-- ---- "over many traces run one after another": each from delivery, and the counts go on

abbrev pub trace_by : WearRun → ℕ → ℕ → List ℕ → List ℕ → WearLeft
trace_by R part enable counts es = R part enable old (standby_of (facts_of part) false) (delivered_of part) counts es (replicate (length es) 0)

unfoldable pub heap_by : WearRun → ℕ → ℕ → List ℕ → List (List ℕ) → List ℕ
heap_by R part enable counts [] = counts
heap_by R part enable counts (es ∷ ess) = heap_by R part enable (trace_by R part enable counts es).counts ess

-- of a trace that is refused nothing is counted
abbrev pub heard_of : WearLeft → ℕ → ℕ
heard_of x n = cond (is_fine x.run.answer.verdict) n 0

-- the histories of the traces, each read from its beginning
unfoldable pub heap_times : WearRun → ℕ → ℕ → List ℕ → List (List ℕ) → ℕ → ℕ
heap_times R part enable counts [] n = 0
heap_times R part enable counts (es ∷ ess) n =
    heard_of (trace_by R part enable counts es) (times_of (facts_of part) fresh_watch [] es (trace_by R part enable counts es).run.answers n)
    + heap_times R part enable (trace_by R part enable counts es).counts ess n

unfoldable pub heap_touched : WearRun → ℕ → ℕ → List ℕ → List (List ℕ) → ℕ
heap_touched R part enable counts [] = 0
heap_touched R part enable counts (es ∷ ess) =
    heard_of (trace_by R part enable counts es) (touched_in (facts_of part) fresh_watch [] es (trace_by R part enable counts es).run.answers)
    + heap_touched R part enable (trace_by R part enable counts es).counts ess

pub record TracesAddUp (R : WearRun) : Type 0 where
  pub size : (part enable : ℕ) (counts : List ℕ) (ess : List (List ℕ)) → Counts part counts → Counts part (heap_by R part enable counts ess)
  pub each : (part enable : ℕ) (counts : List ℕ) (ess : List (List ℕ)) → Counts part counts → (n : ℕ) → n < groups_of (facts_of part)
      → get_or (heap_by R part enable counts ess) n 0 ≡ topped (get_or counts n 0 + heap_times R part enable counts ess n)
  pub total : (part enable : ℕ) (counts : List ℕ) (ess : List (List ℕ)) → Counts part counts → NoneAtTop (heap_by R part enable counts ess)
      → sum_of (heap_by R part enable counts ess) ≡ sum_of counts + heap_touched R part enable counts ess

-- ---- beside the chip

-- what a call answers and leaves of the chip is what `chip::run` does, verdict, levels and cycles too
abbrev pub RunIsChips : WearRun → Type 0
RunIsChips R =
    (part enable : ℕ) (w : PowerCut) (c : Chip) (m : Mem) (counts es a : List ℕ) → part ≤ 5 → length counts ≡ groups_of (facts_of part)
    → (R part enable w c m counts es a).run ≡ run_of part enable w c m es a

-- "3 also for a count buffer of another length": in its place among the refusals, behind 1 and 2 and before the others
pub record WearNumbers (R : WearRun) : Type 0 where
  pub no_part : (part enable : ℕ) (w : PowerCut) (c : Chip) (m : Mem) (counts es a : List ℕ) → 5 < part
      → verdict_number_of (R part enable w c m counts es a).run.answer.verdict ≡ 1
  pub wrong_enable : (part enable : ℕ) (w : PowerCut) (c : Chip) (m : Mem) (counts es a : List ℕ) → part ≤ 5 → (facts_of part).enables ≤ enable
      → verdict_number_of (R part enable w c m counts es a).run.answer.verdict ≡ 2
  pub wrong_counts : (part enable : ℕ) (w : PowerCut) (c : Chip) (m : Mem) (counts es a : List ℕ) → part ≤ 5 → enable < (facts_of part).enables
      → (length counts ≡ groups_of (facts_of part) → ⊥) → verdict_number_of (R part enable w c m counts es a).run.answer.verdict ≡ 3

abbrev pub CountsNeverFall : WearRun → Type 0
CountsNeverFall R =
    (part enable : ℕ) (w : PowerCut) (c : Chip) (m : Mem) (counts es a : List ℕ) (n : ℕ) → get_or counts n 0 ≤ get_or (R part enable w c m counts es a).counts n 0

-- one event raises counts of one page only, each by one
pub record OnePage (f : Facts) (counts after : List ℕ) : Type 0 where
  pub page : ℕ
  pub each : (n : ℕ) → (get_or after n 0 ≡ get_or counts n 0) ⊎ ((n / (f.page / f.group) ≡ page) × (get_or after n 0 ≡ suc (get_or counts n 0)))

abbrev pub AtMostGroupsOfOnePage : WearRun → Type 0
AtMostGroupsOfOnePage R =
    (part enable : ℕ) (w : PowerCut) (c : Chip) (m : Mem) (counts : List ℕ) (e : ℕ) (a : List ℕ)
    → OnePage (facts_of part) counts (R part enable w c m counts (e ∷ []) a).counts

-- a refused call leaves every count, byte and state as before
abbrev pub WearRefusedChangesNothing : WearRun → Type 0
WearRefusedChangesNothing R =
    (part enable : ℕ) (w : PowerCut) (c : Chip) (m : Mem) (counts es a : List ℕ) (r : Refusal) → (R part enable w c m counts es a).run.answer.verdict ≡ Err r
    → ((R part enable w c m counts es a).counts ≡ counts)
    × ((R part enable w c m counts es a).run.mem ≡ m)
    × ((R part enable w c m counts es a).run.answer.chip ≡ c)
    × ((R part enable w c m counts es a).run.answer.cycles ≡ 0)
    × ((R part enable w c m counts es a).run.answers ≡ a)

-- nothing is left open: two that keep these count the same, from a chip with no transfer and no cycle under way
abbrev pub WearPinned : Type 0
WearPinned =
    (R Q : WearRun) → WearIsHistory R → RunIsChips R → WearIsHistory Q → RunIsChips Q
    → (part enable : ℕ) (w : PowerCut) (c : Chip) (m : Mem) (counts es a : List ℕ) → part ≤ 5 → c.line.phase ≡ Idle → Counts part counts
    → (R part enable w c m counts es a).counts ≡ (Q part enable w c m counts es a).counts
