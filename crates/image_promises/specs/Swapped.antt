-- Document 02, §7: "Boxes that are swapped between sites lose their history." Not with these: a box wears at one site, is saved there, is loaded at
-- another, at whatever enable, and wears on; each count is then what both histories say (§6), their events and levels alone.
-- Assumes nothing.
use Rattle.std.specs.Prelude.{ℕ, ◌+◌, ◌<◌, ◌≤◌, ◌≡◌, true, List, [], length, get_or}
use Rattle.parts.specs.Table.{facts_of, groups_of, enable_right_of}
use Rattle.parts.specs.Bytes.{topped}
use Rattle.line.specs.declared.Phase.TheVariants.{Idle}
use Rattle.state.specs.declared.Chip.{Chip}
use Rattle.state.specs.Range.{in_range_of}
use Rattle.chip.specs.Memory.{Mem}
use Rattle.chip_promises.specs.Stops.{watch_at}
use Rattle.wear_promises.specs.History.{times_of}
use Rattle.wear_promises.specs.Counts.{WearRun, Counts, WearCall, Worn, unworn, wear_calls_by}
use Rattle.image.specs.Promises.{BuffersFit}
use Rattle.image_worn.specs.Layout.{worn_length_of}
use Rattle.image_worn.specs.Calls.{AfterLoadWorn}
use Rattle.image_promises.specs.Form.{SavingWorn, LoadingWorn, made_by, CountsFit}

-- a loaded box wears on
abbrev pub wears_on : WearRun → ℕ → ℕ → AfterLoadWorn → List WearCall → Worn
wears_on R part enable box calls = wear_calls_by R part enable (unworn box.answer.chip box.stored box.counts) calls

-- the chip begins with no transfer and no cycle under way, and is in range when it is saved
abbrev pub SwapKeepsHistory : WearRun → SavingWorn → LoadingWorn → Type 0
SwapKeepsHistory R save load =
    (part here there : ℕ) (c : Chip) (m old : Mem) (counts was out : List ℕ) (first second : List WearCall)
    → c.line.phase ≡ Idle
    → Counts part counts
    → (facts_of part).known ≡ true
    → enable_right_of (facts_of part) there ≡ true
    → BuffersFit part old
    → CountsFit part was
    → worn_length_of (facts_of part) ≤ length out
    → let one = wear_calls_by R part here (unworn c m counts) first in
    in_range_of (facts_of part) one.chip ≡ true
    → BuffersFit part one.mem
    → let box = load (made_by (save part one.chip one.mem one.counts out)) there old was in
    let two = wears_on R part there box second in
    (n : ℕ) → n < groups_of (facts_of part)
    → get_or two.counts n 0
    ≡ topped (get_or counts n 0 + (times_of (facts_of part) (watch_at c) [] one.events one.levels n + times_of (facts_of part) (watch_at box.answer.chip) [] two.events two.levels n))
