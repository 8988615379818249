-- Counters that are not document 02's §6, each beside our chip: they break `WearIsHistory`. And a total that is none.
-- Assumes nothing.
use Rattle.std.specs.Prelude.{ℕ, zero, suc, ◌+◌, ◌/◌, ◌%◌, ◌≡◌, true, cond, List, [], length, get_or, take, set, eqb, ltb, Ok}
use Rattle.parts.specs.declared.Facts.{Facts}
use Rattle.parts.specs.declared.Event.TheVariants.{Stop}
use Rattle.parts.specs.Table.{facts_of}
use Rattle.line.specs.declared.Target.{Target}
use Rattle.line.specs.declared.Target.TheVariants.{Array, Ident}
use Rattle.line.specs.declared.Cycle.TheVariants.{Writing, Locking}
use Rattle.line.specs.declared.Phase.{Phase}
use Rattle.line.specs.declared.Phase.TheVariants.{Idle, Receive, Send, Busy}
use Rattle.state.specs.declared.Chip.{Chip}
use Rattle.chip.specs.Memory.{Mem, counter_page_of, touched_of, state_of}
use Rattle.chip.specs.Model.{PowerCut}
use Rattle.chip.specs.Runs.{closes_of}
use Rattle.chip_promises.specs.Stops.{watch_at}
use Rattle.wear.specs.Wear.{Counter, bumped_of, page_worn_of, closed_of}
use Rattle.wear.specs.Report.{sum_of}
use Rattle.wear.specs.Calls.{WearLeft, wear_with, wear_of}
use Rattle.wear_promises.specs.History.{touched_in}
use Rattle.wear_promises.specs.Counts.{WearIsHistory, NoneAtTop}
use Rattle.wear_promises.specs.Told.{zeros}

-- counts nothing
abbrev pub counts_nothing : Counter
counts_nothing f c counts e = counts

-- at the Stop that begins a cycle, and not at its end
abbrev pub begun_in : Facts → Chip → List ℕ → Phase → List ℕ
begun_in f c counts Idle = counts
begun_in f c counts (Receive r) = closed_of f (state_of f 0 c Stop) counts
begun_in f c counts (Send t) = counts
begun_in f c counts (Busy y) = counts

abbrev pub counts_at_stop : Counter
counts_at_stop f c counts e = cond (eqb e 3) (begun_in f c counts c.line.phase) counts

-- what is counted for a write cycle: of the row of the part table, the memory that is written, counter, latches and counts
abbrev pub Written : Type 0
Written = Facts → Target → ℕ → List ℕ → List ℕ → List ℕ

abbrev pub written_in : Written → Facts → Chip → List ℕ → Phase → List ℕ
written_in q f c counts Idle = counts
written_in q f c counts (Receive r) = counts
written_in q f c counts (Send t) = counts
written_in q f c counts (Busy (Writing t)) = q f t c.line.core.counter c.latch counts
written_in q f c counts (Busy Locking) = counts

-- where one ends or is cut
abbrev pub counts_by : Written → Counter
counts_by q f c counts e = cond (closes_of e) (written_in q f c counts c.line.phase) counts

abbrev pub for_array : (Facts → ℕ → List ℕ → List ℕ → List ℕ) → Written
for_array q f Array c k counts = q f c k counts
for_array q f Ident c k counts = counts

-- each byte of a group: n places of the page, from place i on, with the count of the page's first group at `at`
abbrev pub bytes_from : ℕ → List ℕ → List ℕ → ℕ → ℕ → ℕ → List ℕ
bytes_from g k counts at i zero = counts
bytes_from g k counts at i (suc n) = bytes_from g k (bumped_of counts (at + i / g) (ltb (get_or k i 256) 256)) at (suc i) n

abbrev pub counts_each_byte : Counter
counts_each_byte = counts_by (for_array (λ f c k counts. bytes_from f.group k counts (counter_page_of f c / f.group) 0 f.page))

-- leaves out cuts
abbrev pub counts_no_cuts : Counter
counts_no_cuts f c counts e = cond (eqb e 4) (closed_of f c counts) counts

-- counts identification cycles too
abbrev pub counts_ident : Counter
counts_ident = counts_by (λ f t c k counts. page_worn_of f c k counts)

-- the first group that is touched, and no other of the page
abbrev pub first_from : ℕ → List ℕ → List ℕ → ℕ → ℕ → ℕ → List ℕ
first_from g k counts at j zero = counts
first_from g k counts at j (suc n) = cond (touched_of g k j) (bumped_of counts at true) (first_from g k counts (suc at) (suc j) n)

abbrev pub counts_first : Counter
counts_first = counts_by (for_array (λ f c k counts. first_from f.group k counts (counter_page_of f c / f.group) 0 (f.page / f.group)))

-- every group of the page, touched or not
abbrev pub all_from : List ℕ → ℕ → ℕ → List ℕ
all_from counts at zero = counts
all_from counts at (suc n) = all_from (bumped_of counts at true) (suc at) n

abbrev pub counts_page : Counter
counts_page = counts_by (for_array (λ f c k counts. all_from counts (counter_page_of f c / f.group) (f.page / f.group)))

-- at the top it goes on from 0
abbrev pub wrapped_from : ℕ → List ℕ → List ℕ → ℕ → ℕ → ℕ → List ℕ
wrapped_from g k counts at j zero = counts
wrapped_from g k counts at j (suc n) = wrapped_from g k (cond (touched_of g k j) (set counts at ((get_or counts at 0 + 1) % 4294967296)) counts) (suc at) (suc j) n

abbrev pub counts_wrapping : Counter
counts_wrapping = counts_by (for_array (λ f c k counts. wrapped_from f.group k counts (counter_page_of f c / f.group) 0 (f.page / f.group)))

-- what is told as the total of a run that began with no counts: the history's, while no count is at the top
abbrev pub TotalOf : (WearLeft → ℕ) → Type 0
TotalOf T =
    (part enable : ℕ) (w : PowerCut) (c : Chip) (m : Mem) (es a : List ℕ) → c.line.phase ≡ Idle
    → let x = wear_of part enable w c m (zeros part) es a in
    x.run.answer.verdict ≡ Ok tt → NoneAtTop x.counts → T x ≡ touched_in (facts_of part) (watch_at c) [] es (take (length es) x.run.answers)

pub record WrongCounters : Type 0 where
  pub nothing_breaks : WearIsHistory (wear_with counts_nothing) → ⊥
  pub at_stop_breaks : WearIsHistory (wear_with counts_at_stop) → ⊥
  pub each_byte_breaks : WearIsHistory (wear_with counts_each_byte) → ⊥
  pub no_cuts_breaks : WearIsHistory (wear_with counts_no_cuts) → ⊥
  pub ident_breaks : WearIsHistory (wear_with counts_ident) → ⊥
  pub first_breaks : WearIsHistory (wear_with counts_first) → ⊥
  pub page_breaks : WearIsHistory (wear_with counts_page) → ⊥
  pub wrapping_breaks : WearIsHistory (wear_with counts_wrapping) → ⊥
  -- the sum of the counts is such a total; the number of cycles is not
  pub sum_keeps : TotalOf (λ x. sum_of x.counts)
  pub cycles_break : TotalOf (λ x. x.run.answer.cycles) → ⊥
