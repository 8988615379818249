-- Keepers of the worst that are not document 02's §8, each any function with the fault, whatever else it does: it breaks a promise (Kept.antt).
-- Assumes nothing.
use Rattle.std.specs.Prelude.{ℕ, ◌<◌, ◌≤◌, ◌≡◌, List, get_or, Ok, Err}
use Rattle.parts.specs.declared.Refusal.TheVariants.{BadState}
use Rattle.state.specs.declared.Chip.{Chip}
use Rattle.chip.specs.Memory.{Mem}
use Rattle.chip.specs.Model.{PowerCut}
use Rattle.wear.specs.declared.Most.{Most}
use Rattle.wear.specs.Report.{most}
use Rattle.wear.specs.Worst.{raised_of}
use Rattle.wear.specs.Calls.{KeptLeft, wear_of}
use Rattle.wear_promises.specs.Kept.{KeptRun, WorstIsWalk, AsBefore, RefusesUnborne}

-- ---- what is answered

-- of a call that is not refused: of the counts and the worst that it was given, and of what it leaves
abbrev pub Answers : (List ℕ → Most → KeptLeft → Type 0) → KeptRun → Type 0
Answers Q K =
    (part enable : ℕ) (w : PowerCut) (c : Chip) (m : Mem) (counts : List ℕ) (worst : Most) (es a : List ℕ)
    → (K part enable w c m counts worst es a).wear.run.answer.verdict ≡ Ok tt
    → Q counts worst (K part enable w c m counts worst es a)

-- it stays at group 0 with 0
abbrev pub StaysAtZero : KeptRun → Type 0
StaysAtZero = Answers (λ counts worst x. x.worst ≡ most 0 0)

-- what was given is given back
abbrev pub GivesBack : KeptRun → Type 0
GivesBack = Answers (λ counts worst x. x.worst ≡ worst)

-- the most worn of the groups that were raised last
abbrev pub RaisedLast : KeptRun → Type 0
RaisedLast = Answers (λ counts worst x. 0 < (raised_of counts x.wear.counts).count → x.worst ≡ raised_of counts x.wear.counts)

-- the highest on a tie
abbrev pub HighestOnTie : KeptRun → Type 0
HighestOnTie = Answers (λ counts worst x. (n : ℕ) → x.worst.group < n → get_or x.wear.counts n 0 < x.worst.count)

-- the count grows, and the group stays
abbrev pub KeepsGroup : KeptRun → Type 0
KeepsGroup = Answers (λ counts worst x. x.worst.group ≡ worst.group)

-- ---- what is judged

-- a worst of which this holds is taken, where §6 refuses nothing
abbrev pub Takes : (List ℕ → Most → Type 0) → KeptRun → Type 0
Takes Q K =
    (part enable : ℕ) (w : PowerCut) (c : Chip) (m : Mem) (counts : List ℕ) (worst : Most) (es a : List ℕ) → Q counts worst
    → (wear_of part enable w c m counts es a).run.answer.verdict ≡ Ok tt
    → (K part enable w c m counts worst es a).wear.run.answer.verdict ≡ Ok tt

-- never judged
abbrev pub TakesAny : KeptRun → Type 0
TakesAny = Takes (λ counts worst. Unit {0})

-- the lower groups are not looked at: any of the most worn is taken
abbrev pub TakesTied : KeptRun → Type 0
TakesTied = Takes (λ counts worst. (get_or counts worst.group 0 ≡ worst.count) × ((n : ℕ) → get_or counts n 0 ≤ worst.count))

-- nor are those behind it
abbrev pub TakesFirst : KeptRun → Type 0
TakesFirst = Takes (λ counts worst. (get_or counts worst.group 0 ≡ worst.count) × ((n : ℕ) → n < worst.group → get_or counts n 0 < worst.count))

-- every call is refused with 4
abbrev pub RefusesAll : KeptRun → Type 0
RefusesAll K =
    (part enable : ℕ) (w : PowerCut) (c : Chip) (m : Mem) (counts : List ℕ) (worst : Most) (es a : List ℕ)
    → (K part enable w c m counts worst es a).wear.run.answer.verdict ≡ Err BadState

pub record WrongKeepers : Type 0 where
  pub zero_breaks : (K : KeptRun) → AsBefore K → WorstIsWalk K → StaysAtZero K → ⊥
  pub gives_back_breaks : (K : KeptRun) → AsBefore K → WorstIsWalk K → GivesBack K → ⊥
  pub last_breaks : (K : KeptRun) → AsBefore K → WorstIsWalk K → RaisedLast K → ⊥
  pub highest_breaks : (K : KeptRun) → AsBefore K → WorstIsWalk K → HighestOnTie K → ⊥
  pub group_breaks : (K : KeptRun) → AsBefore K → WorstIsWalk K → KeepsGroup K → ⊥
  pub any_breaks : (K : KeptRun) → RefusesUnborne K → TakesAny K → ⊥
  pub tied_breaks : (K : KeptRun) → RefusesUnborne K → TakesTied K → ⊥
  pub first_breaks : (K : KeptRun) → RefusesUnborne K → TakesFirst K → ⊥
  pub refuses_breaks : (K : KeptRun) → AsBefore K → RefusesAll K → ⊥
