-- Document 02, §8: "Store it, number and count, beside the counts; every write, cut, load and conversion keeps it equal to what the walk would find."
-- Of any function that is called as `wear::run` is, and of what raises counts.
-- Assumes nothing.
use Rattle.std.specs.Prelude.{ℕ, ◌<◌, ◌≤◌, ◌≡◌, true, List, [], ◌∷◌, length, get_or, set, Ok, Err}
use Rattle.parts.specs.declared.Refusal.{Refusal}
use Rattle.parts.specs.declared.Refusal.TheVariants.{BadState}
use Rattle.parts.specs.Table.{facts_of, groups_of, buffers_right_of}
use Rattle.parts.specs.Events.{loss_size_of}
use Rattle.parts.specs.Refusals.{verdict_number_of, sooner_of}
use Rattle.state.specs.declared.Chip.{Chip}
use Rattle.chip.specs.Memory.{Mem}
use Rattle.chip.specs.Model.{PowerCut}
use Rattle.wear.specs.declared.Most.{Most}
use Rattle.wear.specs.declared.Found.{Found}
use Rattle.wear.specs.Wear.{closed_of}
use Rattle.wear.specs.Report.{most, most_of}
use Rattle.wear.specs.Worst.{IsWorst, worse_of, raised_of}
use Rattle.wear.specs.Calls.{KeptLeft, wear_of}
use Rattle.wear_promises.specs.Counts.{WearRun, WearCall, trace_by, heap_by}

-- ---- "what the walk would find": there is just one such group, so it is said without a walk

abbrev pub WalkFindsIt : Type 0
WalkFindsIt = (counts : List ℕ) → 0 < length counts → IsWorst counts (most_of counts)

abbrev pub OnlyOne : Type 0
OnlyOne = (counts : List ℕ) (a b : Most) → IsWorst counts a → IsWorst counts b → a ≡ b

-- ---- a call that is given a stored worst

-- called as `wear::run` is: as in §6, with the worst behind the counts
abbrev pub KeptRun : Type 0
KeptRun = ℕ → ℕ → PowerCut → Chip → Mem → List ℕ → Most → List ℕ → List ℕ → KeptLeft

pub record WorstIsWalk (K : KeptRun) : Type 0 where
  -- from the worst that the walk finds on, refused or not
  pub kept : (part enable : ℕ) (w : PowerCut) (c : Chip) (m : Mem) (counts : List ℕ) (worst : Most) (es a : List ℕ) → worst ≡ most_of counts
      → (K part enable w c m counts worst es a).worst ≡ most_of (K part enable w c m counts worst es a).wear.counts
  -- and whatever was stored, after any call that is not refused
  pub accepted : (part enable : ℕ) (w : PowerCut) (c : Chip) (m : Mem) (counts : List ℕ) (worst : Most) (es a : List ℕ)
      → (K part enable w c m counts worst es a).wear.run.answer.verdict ≡ Ok tt
      → (K part enable w c m counts worst es a).worst ≡ most_of (K part enable w c m counts worst es a).wear.counts

-- chip, memory, levels, cycles, counts and refusals are §6's
abbrev pub AsBefore : KeptRun → Type 0
AsBefore K =
    (part enable : ℕ) (w : PowerCut) (c : Chip) (m : Mem) (counts : List ℕ) (worst : Most) (es a : List ℕ) → worst ≡ most_of counts
    → (K part enable w c m counts worst es a).wear ≡ wear_of part enable w c m counts es a

-- "4 also for a stored worst that the counts don't bear out", in its place among §6's refusals, and nothing changes
pub record RefusesUnborne (K : KeptRun) : Type 0 where
  pub first : (part enable : ℕ) (w : PowerCut) (c : Chip) (m : Mem) (counts : List ℕ) (worst : Most) (es a : List ℕ) → (worst ≡ most_of counts → ⊥)
      → (K part enable w c m counts worst es a).wear.run.answer.verdict
      ≡ sooner_of (Err BadState) (wear_of part enable w c m counts es a).run.answer.verdict
  -- so it is 4 where nothing before it is wrong
  pub number : (part enable : ℕ) (w : PowerCut) (c : Chip) (m : Mem) (counts : List ℕ) (worst : Most) (es a : List ℕ)
      → part ≤ 5
      → enable < (facts_of part).enables
      → length counts ≡ groups_of (facts_of part)
      → buffers_right_of (facts_of part) (length m.cells) (length m.ident) ≡ true
      → length w.page ≡ loss_size_of (facts_of part) w.loss
      → (worst ≡ most_of counts → ⊥)
      → verdict_number_of (K part enable w c m counts worst es a).wear.run.answer.verdict ≡ 4
  pub keeps : (part enable : ℕ) (w : PowerCut) (c : Chip) (m : Mem) (counts : List ℕ) (worst : Most) (es a : List ℕ) (r : Refusal)
      → (K part enable w c m counts worst es a).wear.run.answer.verdict ≡ Err r
      → ((K part enable w c m counts worst es a).worst ≡ worst)
      × ((K part enable w c m counts worst es a).wear.counts ≡ counts)
      × ((K part enable w c m counts worst es a).wear.run.mem ≡ m)
      × ((K part enable w c m counts worst es a).wear.run.answer.chip ≡ c)
      × ((K part enable w c m counts worst es a).wear.run.answer.cycles ≡ 0)
      × ((K part enable w c m counts worst es a).wear.run.answers ≡ a)

-- ---- a series of calls on one chip, refused ones among them

-- what they have come to
pub record Holder : Type 0 where
  pub chip : Chip
  pub mem : Mem
  pub counts : List ℕ
  pub worst : Most

abbrev pub holder_after : KeptLeft → Holder
holder_after x = record { chip = x.wear.run.answer.chip; mem = x.wear.run.mem; counts = x.wear.counts; worst = x.worst }

unfoldable pub kept_calls_by : KeptRun → ℕ → ℕ → Holder → List WearCall → Holder
kept_calls_by K part enable h [] = h
kept_calls_by K part enable h (x ∷ xs) =
    kept_calls_by K part enable (holder_after (K part enable x.cut h.chip h.mem h.counts h.worst x.events x.answers)) xs

-- who begins with what the walk finds never walks again
abbrev pub SeriesKeepsIt : KeptRun → Type 0
SeriesKeepsIt K =
    (part enable : ℕ) (h : Holder) (calls : List WearCall) → h.worst ≡ most_of h.counts
    → (kept_calls_by K part enable h calls).worst ≡ most_of (kept_calls_by K part enable h calls).counts

-- ---- who raises counts and is given no worst

-- as many counts, and none fell
pub record NoneFell (before after : List ℕ) : Type 0 where
  pub size : length before ≡ length after
  pub each : (n : ℕ) → get_or before n 0 ≤ get_or after n 0

-- The worse of the worst before and the most worn group that went on is the worst after: no walk.
abbrev pub RaisedKeepsIt : Type 0
RaisedKeepsIt = (before after : List ℕ) → NoneFell before after → worse_of (most_of before) (raised_of before after) ≡ most_of after

-- of one count that grew
abbrev pub GrowthKeepsIt : Type 0
GrowthKeepsIt = (counts : List ℕ) (n x : ℕ) → n < length counts → get_or counts n 0 ≤ x → worse_of (most_of counts) (most n x) ≡ most_of (set counts n x)

-- a run that counts lets none fall, so its holder goes on by comparing
abbrev pub GoesOn : WearRun → Type 0
GoesOn R =
    (part enable : ℕ) (w : PowerCut) (c : Chip) (m : Mem) (counts es a : List ℕ)
    → worse_of (most_of counts) (raised_of counts (R part enable w c m counts es a).counts) ≡ most_of (R part enable w c m counts es a).counts

-- likewise an end or a cut, now, of whatever the chip is doing: `wear::mark`
abbrev pub MarkGoesOn : Type 0
MarkGoesOn =
    (part : ℕ) (c : Chip) (counts : List ℕ) → worse_of (most_of counts) (raised_of counts (closed_of (facts_of part) c counts)) ≡ most_of (closed_of (facts_of part) c counts)

-- over many traces run one after another, each from delivery: what a holder comes to that compares behind each
unfoldable pub heap_worst : WearRun → ℕ → ℕ → List ℕ → Most → List (List ℕ) → Most
heap_worst R part enable counts w [] = w
heap_worst R part enable counts w (es ∷ ess) =
    heap_worst R part enable (trace_by R part enable counts es).counts (worse_of w (raised_of counts (trace_by R part enable counts es).counts)) ess

abbrev pub TracesKeepIt : WearRun → Type 0
TracesKeepIt R =
    (part enable : ℕ) (counts : List ℕ) (ess : List (List ℕ)) → heap_worst R part enable counts (most_of counts) ess ≡ most_of (heap_by R part enable counts ess)

-- ---- who begins: refusals 1 and 3, and none where neither applies

abbrev pub Finder : Type 0
Finder = ℕ → List ℕ → Found

pub record FindsIt (F : Finder) : Type 0 where
  pub no_part : (part : ℕ) (counts : List ℕ) → 5 < part → verdict_number_of (F part counts).verdict ≡ 1
  pub wrong_buffer : (part : ℕ) (counts : List ℕ) → part ≤ 5 → (length counts ≡ groups_of (facts_of part) → ⊥) → verdict_number_of (F part counts).verdict ≡ 3
  pub finds : (part : ℕ) (counts : List ℕ) → part ≤ 5 → length counts ≡ groups_of (facts_of part)
      → ((F part counts).verdict ≡ Ok tt) × IsWorst counts (F part counts).worst
  pub none : (part : ℕ) (counts : List ℕ) (r : Refusal) → (F part counts).verdict ≡ Err r → (F part counts).worst ≡ most 0 0

-- ---- nothing is left open

-- two that keep these answer and leave the same on every call, whatever is stored
abbrev pub KeptPinned : Type 0
KeptPinned =
    (K L : KeptRun) → WorstIsWalk K → AsBefore K → RefusesUnborne K → WorstIsWalk L → AsBefore L → RefusesUnborne L
    → (part enable : ℕ) (w : PowerCut) (c : Chip) (m : Mem) (counts : List ℕ) (worst : Most) (es a : List ℕ)
    → ((K part enable w c m counts worst es a).wear.run.answer.verdict ≡ (L part enable w c m counts worst es a).wear.run.answer.verdict)
    × ((K part enable w c m counts worst es a).worst ≡ (L part enable w c m counts worst es a).worst)
    × ((K part enable w c m counts worst es a).wear.counts ≡ (L part enable w c m counts worst es a).wear.counts)
    × ((K part enable w c m counts worst es a).wear.run.mem ≡ (L part enable w c m counts worst es a).wear.run.mem)
    × ((K part enable w c m counts worst es a).wear.run.answer.chip ≡ (L part enable w c m counts worst es a).wear.run.answer.chip)
    × ((K part enable w c m counts worst es a).wear.run.answer.cycles ≡ (L part enable w c m counts worst es a).wear.run.answer.cycles)
    × ((K part enable w c m counts worst es a).wear.run.answers ≡ (L part enable w c m counts worst es a).wear.run.answers)
