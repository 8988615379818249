-- What the public functions answer and leave, for refused input too: "Refusals: 3 also for a count buffer of another length" (document 02, §6).
-- Assumes nothing.
use Rattle.std.specs.Prelude.{ℕ, not, cond, List, length, eqb, Ok, Err}
use Rattle.parts.specs.declared.Facts.{Facts}
use Rattle.parts.specs.declared.Refusal.TheVariants.{NoPart, WrongBuffer}
use Rattle.parts.specs.Verdict.{Verdict}
use Rattle.parts.specs.Table.{facts_of, groups_of}
use Rattle.parts.specs.Refusals.{claim_of, sooner_of}
use Rattle.state.specs.declared.Chip.{Chip}
use Rattle.chip.specs.Memory.{Mem}
use Rattle.chip.specs.Model.{PowerCut, ours_with}
use Rattle.chip.specs.Calls.{RunLeft, run_verdict, run_left_of}
use Rattle.wear.specs.declared.Most.{Most}
use Rattle.wear.specs.declared.Reported.{Reported}
use Rattle.wear.specs.declared.Found.{Found}
use Rattle.wear.specs.Wear.{Counter, our_counter, worn_by}
use Rattle.wear.specs.Report.{sum_of, most, most_of, joined_of}
use Rattle.wear.specs.Worst.{worst_verdict_of, worst_by}

-- how many counts a part has; 0 where there is no such part
unfoldable pub group_count_of : Facts → ℕ
group_count_of f = cond f.known (groups_of f) 0

-- 1 and 3, of a count buffer of n counts
unfoldable pub counts_verdict_of : Facts → ℕ → Verdict
counts_verdict_of f n = sooner_of (claim_of (not f.known) NoPart) (claim_of (not (eqb n (groups_of f))) WrongBuffer)

-- ---- a run that counts: the refusals of `chip::run`, and 3 for the counts too

abbrev pub wear_verdict : ℕ → ℕ → PowerCut → Chip → Mem → List ℕ → List ℕ → List ℕ → Verdict
wear_verdict part enable w c m counts es a = sooner_of (counts_verdict_of (facts_of part) (length counts)) (run_verdict part enable w c m es a)

abbrev pub counts_by : List ℕ → List ℕ → Verdict → List ℕ
counts_by worn counts (Ok _) = worn
counts_by worn counts (Err r) = counts

-- what a call answers and leaves: all that a run of the chip does, and the counts
pub record WearLeft : Type 0 where
  pub run : RunLeft
  pub counts : List ℕ

abbrev pub wear_left_of : Counter → ℕ → ℕ → PowerCut → Chip → Mem → List ℕ → List ℕ → List ℕ → Verdict → WearLeft
wear_left_of W part enable w c m counts es a v =
    record {
      run = run_left_of (ours_with w (facts_of part) enable) c m es a v;
      counts = counts_by (worn_by W (ours_with w (facts_of part) enable) (facts_of part) c counts es) counts v;
    }

-- our chip with any counter; of part, enable, what is given for a loss of power, chip, the two lent buffers, the counts, the events' codes and the
-- lent answer buffer
abbrev pub wear_with : Counter → ℕ → ℕ → PowerCut → Chip → Mem → List ℕ → List ℕ → List ℕ → WearLeft
wear_with W part enable w c m counts es a = wear_left_of W part enable w c m counts es a (wear_verdict part enable w c m counts es a)

abbrev pub wear_of : ℕ → ℕ → PowerCut → Chip → Mem → List ℕ → List ℕ → List ℕ → WearLeft
wear_of = wear_with our_counter

-- ---- the same, with the stored worst (document 02, §8): "4 also for a stored worst that the counts don't bear out"

abbrev pub kept_verdict : ℕ → ℕ → PowerCut → Chip → Mem → List ℕ → Most → List ℕ → List ℕ → Verdict
kept_verdict part enable w c m counts worst es a = sooner_of (worst_verdict_of counts worst) (wear_verdict part enable w c m counts es a)

-- what a call answers and leaves: all that a run that counts does, and the worst
pub record KeptLeft : Type 0 where
  pub wear : WearLeft
  pub worst : Most

abbrev pub kept_left_of : ℕ → ℕ → PowerCut → Chip → Mem → List ℕ → Most → List ℕ → List ℕ → Verdict → KeptLeft
kept_left_of part enable w c m counts worst es a v =
    record {
      wear = wear_left_of our_counter part enable w c m counts es a v;
      worst = worst_by worst (wear_left_of our_counter part enable w c m counts es a v).counts v;
    }

-- of part, enable, what is given for a loss of power, chip, the two lent buffers, the counts and the worst of them, the events' codes and the lent
-- answer buffer
abbrev pub kept_of : ℕ → ℕ → PowerCut → Chip → Mem → List ℕ → Most → List ℕ → List ℕ → KeptLeft
kept_of part enable w c m counts worst es a = kept_left_of part enable w c m counts worst es a (kept_verdict part enable w c m counts worst es a)

-- ---- what the walk finds, for who begins: refusals 1, 3

abbrev pub found_by : List ℕ → Verdict → Found
found_by counts v = record { verdict = v; worst = worst_by (most 0 0) counts v }

abbrev pub found_of : ℕ → List ℕ → Found
found_of part counts = found_by counts (counts_verdict_of (facts_of part) (length counts))

-- ---- what is told of the counts: refusals 1, 3

abbrev pub report_by : List ℕ → Verdict → Reported
report_by counts (Ok _) = record { verdict = Ok tt; total = sum_of counts; group = (most_of counts).group; count = (most_of counts).count }
report_by counts (Err r) = record { verdict = Err r; total = 0; group = 0; count = 0 }

abbrev pub report_of : ℕ → List ℕ → Reported
report_of part counts = report_by counts (counts_verdict_of (facts_of part) (length counts))

-- ---- two heaps: refusals 1, 3

abbrev pub join_verdict : ℕ → List ℕ → List ℕ → Verdict
join_verdict part counts more = sooner_of (counts_verdict_of (facts_of part) (length counts)) (counts_verdict_of (facts_of part) (length more))

pub record JoinLeft : Type 0 where
  pub verdict : Verdict
  pub counts : List ℕ

abbrev pub join_of : ℕ → List ℕ → List ℕ → JoinLeft
join_of part counts more = record { verdict = join_verdict part counts more; counts = counts_by (joined_of counts more) counts (join_verdict part counts more) }
