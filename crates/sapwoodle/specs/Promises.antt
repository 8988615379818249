-- What is promised of the calls over bytes, stated over any functions of the form. `stepping`, `running`, `delivering`, `saving_bytes`,
-- `loading_bytes`, `saving_worn_bytes`, `loading_worn_bytes`, `to_worn_bytes`, `to_plain_bytes`, `wearing`, `bench_wearing`, `beginning`, `asking` and `benching`, which the contracts
-- cite, keep it: proofs/chips/Kept.antt and so on. What an image holds is promised in the crates `image` and `image_worn`, what the driver does to
-- the chip in the crate `bench_promises`.
-- Assumes nothing.
use Rattle.std.specs.Prelude.{ℕ, ◌+◌, ◌<◌, ◌≡◌, Bool, true, false, List, [], length, Err}
use Rattle.parts.specs.declared.Refusal.{Refusal}
use Rattle.parts.specs.declared.Refusal.TheVariants.{WrongBuffer, BadState, BadEvent}
use Rattle.parts.specs.Table.{facts_of, id_size_of, enable_right_of}
use Rattle.parts.specs.Events.{loss_size_of}
use Rattle.parts.specs.Refusals.{number_of, verdict_number_of, verdict_place_of}
use Rattle.parts.specs.Bytes.{AllBelow}
use Rattle.state.specs.declared.Chip.{Chip}
use Rattle.chip.specs.Memory.{Mem}
use Rattle.chip.specs.Model.{PowerCut, old}
use Rattle.chip.specs.Delivery.{standby_of}
use Rattle.chip.specs.Calls.{step_of, run_of}
use Rattle.capture.specs.Calls.{seeing_of}
use Rattle.capture.specs.Tallies.{tally}
use Rattle.image.specs.Layout.{part_in, lock_in}
use Rattle.image.specs.Calls.{saving}
use Rattle.image_worn.specs.Calls.{saving_worn}
use Rattle.wear.specs.declared.Most.{Most}
use Rattle.wear.specs.Report.{most_of}
use Rattle.driver.specs.declared.Request.{Request}
use Rattle.driver.specs.declared.Answer.TheVariants.{Refused}
use Rattle.driver.specs.Step.{begin_of, driver_next_of, buffer_of}
use Rattle.bench.specs.Calls.{bench_verdict, bench_of}
use Rattle.bench.specs.Kept.{bench_kept_verdict}
use Rattle.pack_chip.specs.Layout.{packed_chip_of, holds_chip_of, unpacked_chip_of}
use Rattle.pack_chip.specs.Promises.{ChipFits}
use Rattle.pack_driver.specs.Layout.{driver_length, holds_driver_of, unpacked_driver_of}
use Rattle.sapwoodle.specs.Chips.{BytesAfterStep, BytesAfterRun, BytesAfterDeliver, loss_from, cut_from, stepping, running, delivering}
use Rattle.sapwoodle.specs.Images.{BytesAfterSave, BytesAfterLoad, saving_bytes, loading_bytes}
use Rattle.sapwoodle.specs.Hexes.{BytesAfterHexRead, BytesAfterHexWrite, hex_reading, hex_writing}
use Rattle.sapwoodle.specs.Captures.{BytesAfterCapture, BytesAfterEvents, BytesAfterTally, captured_bytes, capturing, listing, tallying}
use Rattle.sapwoodle.specs.Drivers.{request_of, BytesAfterBegin, beginning, told_of, BytesAfterNext, asking}
use Rattle.sapwoodle.specs.Runs.{BytesAfterBench, benching}
use Rattle.sapwoodle.specs.Wears.{BytesAfterWear, BytesAfterWearBench}
use Rattle.sapwoodle.specs.Worns.{BytesAfterLoadWorn, saved_bytes, saving_worn_bytes, loading_worn_bytes, to_worn_bytes, to_plain_bytes}

-- ======== the chip

-- of the part, the enable, the page lent for a loss of power and its flag, the state's bytes, what is stored, and the event
abbrev pub Stepping : Type 0
Stepping = ℕ → ℕ → List ℕ → ℕ → List ℕ → Mem → ℕ → BytesAfterStep

-- likewise with the events and the answer buffer
abbrev pub Running : Type 0
Running = ℕ → ℕ → List ℕ → ℕ → List ℕ → Mem → List ℕ → List ℕ → BytesAfterRun

abbrev pub Delivering : Type 0
Delivering = ℕ → List ℕ → Mem → BytesAfterDeliver

-- ---- "a call refused for bad input changes no byte"; and what its result variables then hold: no level, no cycle, and a place for 5 only

abbrev pub StepKeeps : Stepping → Type 0
StepKeeps step =
    (part enable : ℕ) (page : List ℕ) (lock : ℕ) (s : List ℕ) (m : Mem) (e : ℕ) → ((step part enable page lock s m e).number ≡ 0 → ⊥)
    → ((step part enable page lock s m e).state ≡ s) × ((step part enable page lock s m e).stored ≡ m)
    × ((step part enable page lock s m e).level ≡ 2) × ((step part enable page lock s m e).cycles ≡ 0)

abbrev pub RunKeeps : Running → Type 0
RunKeeps run =
    (part enable : ℕ) (page : List ℕ) (lock : ℕ) (s : List ℕ) (m : Mem) (es a : List ℕ) → ((run part enable page lock s m es a).number ≡ 0 → ⊥)
    → ((run part enable page lock s m es a).state ≡ s) × ((run part enable page lock s m es a).stored ≡ m) × ((run part enable page lock s m es a).answers ≡ a)
    × ((run part enable page lock s m es a).cycles ≡ 0)
    × (((run part enable page lock s m es a).number ≡ number_of (BadEvent 0) → ⊥) → (run part enable page lock s m es a).place ≡ 0)

abbrev pub DeliverKeeps : Delivering → Type 0
DeliverKeeps deliver =
    (part : ℕ) (s : List ℕ) (m : Mem) → ((deliver part s m).number ≡ 0 → ⊥) → ((deliver part s m).state ≡ s) × ((deliver part s m).stored ≡ m)

-- ---- on the bytes of a state a call is the chip's own, and leaves the bytes of the state after it

-- of the part, the enable, what is given for a loss of power, the chip, what is stored and the event
abbrev pub step_bytes : ℕ → ℕ → PowerCut → Chip → Mem → ℕ → BytesAfterStep
step_bytes part enable w c m e =
    record {
      number = verdict_number_of (step_of part enable w c m e).answer.verdict;
      level = (step_of part enable w c m e).answer.level;
      cycles = (step_of part enable w c m e).answer.cycles;
      state = packed_chip_of (step_of part enable w c m e).answer.chip;
      stored = (step_of part enable w c m e).mem;
    }

abbrev pub StepIsChips : Stepping → Type 0
StepIsChips step =
    (part enable : ℕ) (page : List ℕ) (lock : ℕ) (c : Chip) (m : Mem) (e : ℕ) → ChipFits c
    → step part enable page lock (packed_chip_of c) m e ≡ step_bytes part enable (cut_from page lock) c m e

-- likewise with the events and the answer buffer
abbrev pub run_bytes : ℕ → ℕ → PowerCut → Chip → Mem → List ℕ → List ℕ → BytesAfterRun
run_bytes part enable w c m es a =
    record {
      number = verdict_number_of (run_of part enable w c m es a).answer.verdict;
      cycles = (run_of part enable w c m es a).answer.cycles;
      place = verdict_place_of (run_of part enable w c m es a).answer.verdict;
      state = packed_chip_of (run_of part enable w c m es a).answer.chip;
      stored = (run_of part enable w c m es a).mem;
      answers = (run_of part enable w c m es a).answers;
    }

abbrev pub RunIsChips : Running → Type 0
RunIsChips run =
    (part enable : ℕ) (page : List ℕ) (lock : ℕ) (c : Chip) (m : Mem) (es a : List ℕ) → ChipFits c
    → run part enable page lock (packed_chip_of c) m es a ≡ run_bytes part enable (cut_from page lock) c m es a

-- what is delivered is held
abbrev pub DeliverHolds : Delivering → Type 0
DeliverHolds deliver =
    (part : ℕ) (s : List ℕ) (m : Mem) → (deliver part s m).number ≡ 0
    → (holds_chip_of (deliver part s m).state ≡ true) × (unpacked_chip_of (deliver part s m).state ≡ standby_of (facts_of part) false)

-- ---- what is given for a loss of power (document 02, §5)

-- no page and flag 0: "the old contents and no lock"
abbrev pub StepOld : Stepping → Type 0
StepOld step =
    (part enable : ℕ) (c : Chip) (m : Mem) (e : ℕ) → ChipFits c → step part enable [] 0 (packed_chip_of c) m e ≡ step_bytes part enable old c m e

abbrev pub RunOld : Running → Type 0
RunOld run =
    (part enable : ℕ) (c : Chip) (m : Mem) (es a : List ℕ) → ChipFits c → run part enable [] 0 (packed_chip_of c) m es a ≡ run_bytes part enable old c m es a

-- "3 also for that page's length": any but P bytes, and so a flag without a page, unless 1 or 2 is given
abbrev pub StepRefuses3 : Stepping → Type 0
StepRefuses3 step =
    (part enable : ℕ) (page : List ℕ) (lock : ℕ) (s : List ℕ) (m : Mem) (e : ℕ)
    → (facts_of part).known ≡ true
    → enable_right_of (facts_of part) enable ≡ true
    → (length page + lock ≡ 0 → ⊥)
    → (length page ≡ (facts_of part).page → ⊥)
    → (step part enable page lock s m e).number ≡ number_of WrongBuffer

abbrev pub RunRefuses3 : Running → Type 0
RunRefuses3 run =
    (part enable : ℕ) (page : List ℕ) (lock : ℕ) (s : List ℕ) (m : Mem) (es a : List ℕ)
    → (facts_of part).known ≡ true
    → enable_right_of (facts_of part) enable ≡ true
    → (length page + lock ≡ 0 → ⊥)
    → (length page ≡ (facts_of part).page → ⊥)
    → (run part enable page lock s m es a).number ≡ number_of WrongBuffer

-- ---- bytes that hold no state are refused with 4, unless 1, 2 or 3 is given

abbrev pub StepRefuses4 : Stepping → Type 0
StepRefuses4 step =
    (part enable : ℕ) (page : List ℕ) (lock : ℕ) (s : List ℕ) (m : Mem) (e : ℕ)
    → (facts_of part).known ≡ true
    → enable_right_of (facts_of part) enable ≡ true
    → length m.cells ≡ (facts_of part).size
    → length m.ident ≡ id_size_of (facts_of part)
    → length page ≡ loss_size_of (facts_of part) (loss_from (length page) lock)
    → holds_chip_of s ≡ false
    → (step part enable page lock s m e).number ≡ number_of BadState

abbrev pub RunRefuses4 : Running → Type 0
RunRefuses4 run =
    (part enable : ℕ) (page : List ℕ) (lock : ℕ) (s : List ℕ) (m : Mem) (es a : List ℕ)
    → (facts_of part).known ≡ true
    → enable_right_of (facts_of part) enable ≡ true
    → length m.cells ≡ (facts_of part).size
    → length m.ident ≡ id_size_of (facts_of part)
    → length page ≡ loss_size_of (facts_of part) (loss_from (length page) lock)
    → holds_chip_of s ≡ false
    → (run part enable page lock s m es a).number ≡ number_of BadState

-- ======== the image

-- of the part, the state's bytes, what is stored and the output buffer
abbrev pub SavingBytes : Type 0
SavingBytes = ℕ → List ℕ → Mem → List ℕ → BytesAfterSave

-- of the image, the enable, the state's bytes and what is stored
abbrev pub LoadingBytes : Type 0
LoadingBytes = List ℕ → ℕ → List ℕ → Mem → BytesAfterLoad

-- ---- "a call refused for bad input changes no byte"; a length of 0 is answered, and of an image always the part that its byte names

abbrev pub SaveKeeps : SavingBytes → Type 0
SaveKeeps save =
    (part : ℕ) (s : List ℕ) (m : Mem) (out : List ℕ) → ((save part s m out).number ≡ 0 → ⊥)
    → ((save part s m out).written ≡ 0) × ((save part s m out).out ≡ out)

abbrev pub LoadKeeps : LoadingBytes → Type 0
LoadKeeps load =
    (l : List ℕ) (enable : ℕ) (s : List ℕ) (m : Mem) → ((load l enable s m).number ≡ 0 → ⊥)
    → ((load l enable s m).state ≡ s) × ((load l enable s m).stored ≡ m) × ((load l enable s m).part ≡ part_in l)

-- ---- Intel HEX: of the part, the text and the array; of the part, the array and the output buffer

abbrev pub HexReadKeeps : (ℕ → List ℕ → List ℕ → BytesAfterHexRead) → Type 0
HexReadKeeps read =
    (part : ℕ) (text array : List ℕ) → ((read part text array).number ≡ 0 → ⊥)
    → ((read part text array).array ≡ array) × ((read part text array).records ≡ 0) × ((read part text array).named ≡ 0)

abbrev pub HexWriteKeeps : (ℕ → List ℕ → List ℕ → BytesAfterHexWrite) → Type 0
HexWriteKeeps write =
    (part : ℕ) (array out : List ℕ) → ((write part array out).number ≡ 0 → ⊥) → ((write part array out).written ≡ 0) × ((write part array out).out ≡ out)

-- ---- captures: of the part, the enable, the state's bytes, what is stored, the reading and the samples; of the reading, the samples and the
-- output buffer; of the reading, the samples and the four counts

abbrev pub Capturing : Type 0
Capturing = ℕ → ℕ → List ℕ → Mem → Bool → List ℕ → BytesAfterCapture

abbrev pub CaptureKeeps : Capturing → Type 0
CaptureKeeps run =
    (part enable : ℕ) (s : List ℕ) (m : Mem) (bus : Bool) (ss : List ℕ) → ((run part enable s m bus ss).number ≡ 0 → ⊥)
    → ((run part enable s m bus ss).state ≡ s) × ((run part enable s m bus ss).stored ≡ m)
    × ((run part enable s m bus ss).cycles ≡ 0) × ((run part enable s m bus ss).level ≡ 2)

abbrev pub EventsKeep : (Bool → List ℕ → List ℕ → BytesAfterEvents) → Type 0
EventsKeep list = (bus : Bool) (ss out : List ℕ) → ((list bus ss out).number ≡ 0 → ⊥) → ((list bus ss out).length ≡ 0) × ((list bus ss out).out ≡ out)

abbrev pub TallyKeeps : (Bool → List ℕ → ℕ → ℕ → ℕ → ℕ → BytesAfterTally) → Type 0
TallyKeeps count =
    (bus : Bool) (ss : List ℕ) (starts stops bytes unacknowledged : ℕ) → ((count bus ss starts stops bytes unacknowledged).number ≡ 0 → ⊥)
    → (count bus ss starts stops bytes unacknowledged).tally ≡ tally starts stops bytes unacknowledged

-- on the bytes of a state a run over a capture is the chip's own
abbrev pub CaptureIsChips : Capturing → Type 0
CaptureIsChips run =
    (part enable : ℕ) (c : Chip) (m : Mem) (bus : Bool) (ss : List ℕ) → ChipFits c
    → (run part enable (packed_chip_of c) m bus ss ≡ captured_bytes (packed_chip_of c) (seeing_of part enable c m bus ss))
    × ((run part enable (packed_chip_of c) m bus ss).state ≡ packed_chip_of (seeing_of part enable c m bus ss).answer.chip)

-- bytes that hold no state are refused with 4, unless 1, 2 or 3 is given
abbrev pub CaptureRefuses4 : Capturing → Type 0
CaptureRefuses4 run =
    (part enable : ℕ) (s : List ℕ) (m : Mem) (bus : Bool) (ss : List ℕ)
    → (facts_of part).known ≡ true
    → enable_right_of (facts_of part) enable ≡ true
    → length m.cells ≡ (facts_of part).size
    → length m.ident ≡ id_size_of (facts_of part)
    → holds_chip_of s ≡ false
    → (run part enable s m bus ss).number ≡ number_of BadState

-- ---- on the bytes of a state, what is saved is the chip's image

abbrev pub SaveIsImages : SavingBytes → Type 0
SaveIsImages save =
    (part : ℕ) (c : Chip) (m : Mem) (out : List ℕ) → ChipFits c
    → save part (packed_chip_of c) m out
    ≡ record {
      number = verdict_number_of (saving part c m out).answer.verdict;
      written = (saving part c m out).answer.length;
      out = (saving part c m out).out;
    }

-- and the bytes hold the chip that was loaded
abbrev pub LoadHolds : LoadingBytes → Type 0
LoadHolds load =
    (l : List ℕ) (enable : ℕ) (s : List ℕ) (m : Mem) → (load l enable s m).number ≡ 0
    → (holds_chip_of (load l enable s m).state ≡ true) × (unpacked_chip_of (load l enable s m).state ≡ standby_of (facts_of (part_in l)) (lock_in l))

-- ======== the image with counts of wear (document 02, §7)

-- of the part, the state's bytes, what is stored, the counts and the output buffer
abbrev pub SavingWornBytes : Type 0
SavingWornBytes = ℕ → List ℕ → Mem → List ℕ → List ℕ → BytesAfterSave

-- of the image, the enable, the state's bytes, what is stored, the counts and the worst that was held
abbrev pub LoadingWornBytes : Type 0
LoadingWornBytes = List ℕ → ℕ → List ℕ → Mem → List ℕ → Most → BytesAfterLoadWorn

-- of the image and the output buffer
abbrev pub ConvertingBytes : Type 0
ConvertingBytes = List ℕ → List ℕ → BytesAfterSave

-- ---- "a call refused for bad input changes no byte", and no count; a length of 0 is answered, and of an image always the part that its byte names

abbrev pub SaveWornKeeps : SavingWornBytes → Type 0
SaveWornKeeps save =
    (part : ℕ) (s : List ℕ) (m : Mem) (counts out : List ℕ) → ((save part s m counts out).number ≡ 0 → ⊥)
    → ((save part s m counts out).written ≡ 0) × ((save part s m counts out).out ≡ out)

abbrev pub LoadWornKeeps : LoadingWornBytes → Type 0
LoadWornKeeps load =
    (l : List ℕ) (enable : ℕ) (s : List ℕ) (m : Mem) (counts : List ℕ) (worst : Most) → ((load l enable s m counts worst).load.number ≡ 0 → ⊥)
    → ((load l enable s m counts worst).load.state ≡ s) × ((load l enable s m counts worst).load.stored ≡ m)
    × ((load l enable s m counts worst).counts ≡ counts) × ((load l enable s m counts worst).worst ≡ worst) × ((load l enable s m counts worst).load.part ≡ part_in l)

abbrev pub ConvertKeeps : ConvertingBytes → Type 0
ConvertKeeps convert =
    (l out : List ℕ) → ((convert l out).number ≡ 0 → ⊥) → ((convert l out).written ≡ 0) × ((convert l out).out ≡ out)

pub record WornBytesKept : Type 0 where
  pub save : SaveWornKeeps saving_worn_bytes
  pub load : LoadWornKeeps loading_worn_bytes
  pub to_worn : ConvertKeeps to_worn_bytes
  pub to_plain : ConvertKeeps to_plain_bytes

-- ---- on the bytes of a state, what is saved is the chip's image

abbrev pub SaveWornIsImages : SavingWornBytes → Type 0
SaveWornIsImages save =
    (part : ℕ) (c : Chip) (m : Mem) (counts out : List ℕ) → ChipFits c
    → save part (packed_chip_of c) m counts out ≡ saved_bytes (saving_worn part c m counts out)

-- and the bytes hold the chip that was loaded
abbrev pub LoadWornHolds : LoadingWornBytes → Type 0
LoadWornHolds load =
    (l : List ℕ) (enable : ℕ) (s : List ℕ) (m : Mem) (counts : List ℕ) (worst : Most) → (load l enable s m counts worst).load.number ≡ 0
    → (holds_chip_of (load l enable s m counts worst).load.state ≡ true)
    × (unpacked_chip_of (load l enable s m counts worst).load.state ≡ standby_of (facts_of (part_in l)) (lock_in l))

-- what it answers as the worst is what the walk finds (document 02, §8)
abbrev pub LoadWornFinds : LoadingWornBytes → Type 0
LoadWornFinds load =
    (l : List ℕ) (enable : ℕ) (s : List ℕ) (m : Mem) (counts : List ℕ) (worst : Most) → (load l enable s m counts worst).load.number ≡ 0
    → (load l enable s m counts worst).worst ≡ most_of (load l enable s m counts worst).counts

-- ======== runs that count wear, with the stored worst (document 02, §6 and §8)

-- of the part, the enable, the page lent for a loss of power and its flag, the state's bytes, what is stored, the counts and the worst of them, the events
-- and the answer buffer
abbrev pub Wearing : Type 0
Wearing = ℕ → ℕ → List ℕ → ℕ → List ℕ → Mem → List ℕ → Most → List ℕ → List ℕ → BytesAfterWear

pub record WearBytesKeep (wear : Wearing) : Type 0 where
  -- "a call refused for bad input changes no byte", no count and not the worst
  pub refused : (part enable : ℕ) (page : List ℕ) (lock : ℕ) (s : List ℕ) (m : Mem) (counts : List ℕ) (worst : Most) (es a : List ℕ)
      → ((wear part enable page lock s m counts worst es a).run.number ≡ 0 → ⊥)
      → ((wear part enable page lock s m counts worst es a).run.state ≡ s)
      × ((wear part enable page lock s m counts worst es a).run.stored ≡ m)
      × ((wear part enable page lock s m counts worst es a).run.answers ≡ a)
      × ((wear part enable page lock s m counts worst es a).run.cycles ≡ 0)
      × ((wear part enable page lock s m counts worst es a).counts ≡ counts)
      × ((wear part enable page lock s m counts worst es a).worst ≡ worst)
  -- any other leaves the worst that the walk finds
  pub walk : (part enable : ℕ) (page : List ℕ) (lock : ℕ) (s : List ℕ) (m : Mem) (counts : List ℕ) (worst : Most) (es a : List ℕ)
      → (wear part enable page lock s m counts worst es a).run.number ≡ 0
      → (wear part enable page lock s m counts worst es a).worst ≡ most_of (wear part enable page lock s m counts worst es a).counts

-- of the request, the chip's own enable, d, the state's bytes, what is stored, the buffer, the counts and the worst of them
abbrev pub BenchWearing : Type 0
BenchWearing = Request → ℕ → ℕ → List ℕ → Mem → List ℕ → List ℕ → Most → BytesAfterWearBench

-- from the worst that the walk finds on, refused or not, by us or by the driver
abbrev pub BenchWearWalks : BenchWearing → Type 0
BenchWearWalks bench =
    (r : Request) (enable d : ℕ) (s : List ℕ) (m : Mem) (b counts : List ℕ) (worst : Most) → worst ≡ most_of counts
    → (bench r enable d s m b counts worst).worst ≡ most_of (bench r enable d s m b counts worst).counts

-- "a call refused for bad input changes no byte", no count and not the worst
abbrev pub BenchWearKeeps : BenchWearing → Type 0
BenchWearKeeps bench =
    (r : Request) (enable d : ℕ) (s : List ℕ) (m : Mem) (b counts : List ℕ) (worst : Most) (x : Refusal) → AllBelow 256 s
    → bench_kept_verdict r enable d (unpacked_chip_of s) m b counts worst ≡ Err x
    → ((bench r enable d s m b counts worst).bench.number ≡ number_of x)
    × ((bench r enable d s m b counts worst).worst ≡ worst)
    × ((bench r enable d s m b counts worst).counts ≡ counts)
    × ((bench r enable d s m b counts worst).bench.state ≡ s)
    × ((bench r enable d s m b counts worst).bench.stored ≡ m)
    × ((bench r enable d s m b counts worst).bench.buffer ≡ b)

-- ======== the driver

-- of a request and the driver's bytes
abbrev pub Beginning : Type 0
Beginning = Request → List ℕ → BytesAfterBegin

-- of the driver's bytes, the level told and the data buffer
abbrev pub Asking : Type 0
Asking = List ℕ → ℕ → List ℕ → BytesAfterNext

-- ---- "a call refused for bad input changes no byte"; of a step, 4 is the one such refusal: no event, no polls, no bytes

abbrev pub BeginKeeps : Beginning → Type 0
BeginKeeps begin = (r : Request) (s : List ℕ) → ((begin r s).number ≡ 0 → ⊥) → (begin r s).state ≡ s

abbrev pub NextKeeps : Asking → Type 0
NextKeeps next =
    (s : List ℕ) (level : ℕ) (b : List ℕ) → AllBelow 256 s → (next s level b).told.number ≡ number_of BadState
    → ((next s level b).state ≡ s) × ((next s level b).buffer ≡ b) × ((next s level b).told ≡ told_of (Refused BadState 0 0))

-- ---- with room for a driver, a call is the driver's own: it refuses what the driver refuses, and else the bytes hold the driver begun

abbrev pub BeginIsDrivers : Beginning → Type 0
BeginIsDrivers begin =
    (part enable what at n budget : ℕ) (s : List ℕ) → part < 256 → enable < 256 → length s ≡ driver_length
    → (begin (request_of part enable what at n budget) s).number ≡ verdict_number_of (begin_of (request_of part enable what at n budget)).verdict

abbrev pub BeginHolds : Beginning → Type 0
BeginHolds begin =
    (part enable what at n budget : ℕ) (s : List ℕ) → part < 256 → enable < 256 → (begin (request_of part enable what at n budget) s).number ≡ 0
    → (holds_driver_of (begin (request_of part enable what at n budget) s).state ≡ true)
    × (unpacked_driver_of (begin (request_of part enable what at n budget) s).state ≡ (begin_of (request_of part enable what at n budget)).driver)

-- on bytes that hold a driver a step answers what that driver answers, leaves the buffer as it does, and the bytes hold the driver after it
abbrev pub NextIsDrivers : Asking → Type 0
NextIsDrivers next =
    (s : List ℕ) (level : ℕ) (b : List ℕ) → AllBelow 256 s → holds_driver_of s ≡ true
    → ((next s level b).told ≡ told_of (driver_next_of (unpacked_driver_of s) level b).answer)
    × ((next s level b).buffer ≡ buffer_of (unpacked_driver_of s) level b)
    × (holds_driver_of (next s level b).state ≡ true)
    × (unpacked_driver_of (next s level b).state ≡ (driver_next_of (unpacked_driver_of s) level b).driver)

-- ---- bytes that hold no driver are refused with 4

abbrev pub NextRefuses4 : Asking → Type 0
NextRefuses4 next = (s : List ℕ) (level : ℕ) (b : List ℕ) → holds_driver_of s ≡ false → (next s level b).told.number ≡ number_of BadState

-- ---- a driver that refuses everything keeps every other of these, for any refusal; but it is not the driver

abbrev pub refusing_begin : Refusal → Beginning
refusing_begin x r s = record { number = number_of x; state = s }

abbrev pub refusing_next : Refusal → Asking
refusing_next x s level b = record { told = told_of (Refused x 0 0); state = s; buffer = b }

abbrev pub RefusingBeginBreaks : Type 0
RefusingBeginBreaks = (x : Refusal) → BeginIsDrivers (refusing_begin x) → ⊥

abbrev pub RefusingNextBreaks : Type 0
RefusingNextBreaks = (x : Refusal) → NextIsDrivers (refusing_next x) → ⊥

-- ======== driver and chip together

-- of the request, the chip's own enable, d, the state's bytes, what is stored and the buffer
abbrev pub Benching : Type 0
Benching = Request → ℕ → ℕ → List ℕ → Mem → List ℕ → BytesAfterBench

-- "a call refused for bad input changes no byte", tells no place, and counts nothing
abbrev pub BenchKeeps : Benching → Type 0
BenchKeeps bench =
    (r : Request) (enable d : ℕ) (s : List ℕ) (m : Mem) (b : List ℕ) (x : Refusal) → AllBelow 256 s
    → bench_verdict r enable d (unpacked_chip_of s) m b ≡ Err x
    → ((bench r enable d s m b).number ≡ number_of x)
    × ((bench r enable d s m b).state ≡ s)
    × ((bench r enable d s m b).stored ≡ m)
    × ((bench r enable d s m b).buffer ≡ b)
    × ((bench r enable d s m b).place ≡ 0)
    × ((bench r enable d s m b).polls ≡ 0)
    × ((bench r enable d s m b).bytes ≡ 0)
    × ((bench r enable d s m b).cycles ≡ 0)
    × ((bench r enable d s m b).clocks ≡ 0)

-- on the bytes of a state a run is the bench's own, and leaves the bytes of the state after it
abbrev pub BenchIsBenchs : Benching → Type 0
BenchIsBenchs bench =
    (r : Request) (enable d : ℕ) (c : Chip) (m : Mem) (b : List ℕ) → ChipFits c
    → bench r enable d (packed_chip_of c) m b
    ≡ record {
      number = verdict_number_of (bench_of r enable d c m b).report.verdict;
      place = verdict_place_of (bench_of r enable d c m b).report.verdict;
      polls = (bench_of r enable d c m b).report.polls;
      bytes = (bench_of r enable d c m b).report.bytes;
      cycles = (bench_of r enable d c m b).report.cycles;
      clocks = (bench_of r enable d c m b).report.clocks;
      state = packed_chip_of (bench_of r enable d c m b).report.chip;
      stored = (bench_of r enable d c m b).mem;
      buffer = (bench_of r enable d c m b).buffer;
    }

-- ======== "a call refused for bad input changes no byte": every call

pub record BytesKept : Type 0 where
  pub deliver : DeliverKeeps delivering
  pub step : StepKeeps stepping
  pub run : RunKeeps running
  pub save : SaveKeeps saving_bytes
  pub load : LoadKeeps loading_bytes
  pub hex_read : HexReadKeeps hex_reading
  pub hex_write : HexWriteKeeps hex_writing
  pub capture : CaptureKeeps capturing
  pub events : EventsKeep listing
  pub tally : TallyKeeps tallying
  pub begin : BeginKeeps beginning
  pub next : NextKeeps asking
  pub bench : BenchKeeps benching
