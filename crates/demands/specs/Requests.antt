-- The change requests of document 02, each sentence quoted above what says it; the same of the code as in specs/Demands.antt. One theorem,
-- `requests` in proofs/Requests.antt, is of all that have landed.
-- Assumes nothing.
use Rattle.chip.specs.Model.{ours, ours_with}
use Rattle.chip.specs.Calls.{deliver_of, step_of, run_of}
use Rattle.chip_laws.specs.Runs.{RunIsSteps}
use Rattle.chip_laws.specs.Roll.{PageRule}
use Rattle.chip_promises.specs.Numbers.{StepNumbers, RunNumbers}
use Rattle.chip_promises.specs.Pages.{CallsPagesFromDelivery}
use Rattle.chip_promises.specs.Stops.{CallsCyclesAreStopsFromDelivery}
use Rattle.chip_promises.specs.Lock.{CallsLockHolds}
use Rattle.chip_promises.specs.Pin.{CallsPinProtects}
use Rattle.chip_promises.specs.Power.{GroupSizes, CutSpoilsGroups, SpoilsOneWay, StepSpoils, LockAsFlag, ResetStands, CutOnlyInCycle, Powered, PowerPinned, OldIsOwnPage}
use Rattle.chip_promises.specs.WrongCuts.{WrongCuts}
use Rattle.trace.specs.Trace.{text_judged_of}
use Rattle.trace.specs.Promises.{PrintsAsJudged}
use Rattle.driver.specs.Machine.{our_driver}
use Rattle.driver_promises.specs.Promises.{Promises}
use Rattle.driver_promises.specs.Which.{SaysWhichKept, OneAddressByte, FaultyLine}
use Rattle.bench_promises.specs.Answered.{AddressAnswered, AddressedKept, ResetBreaks}
use Rattle.bench_promises.specs.Calls.{our_bench}
use Rattle.hexfile.specs.Calls.{reading_of, writing_of}
use Rattle.hexfile_promises.specs.Promises.{GivesBack, Settles, AcceptsAll, AcceptsOnly, NamesEach, ReadsOneWay, StopsFirst, WritesPlain, RefusedKeeps}
use Rattle.hexfile_promises.specs.Numbers.{HexReadNumbers, HexWriteNumbers}
use Rattle.hexfile_promises.specs.Pinned.{HexReader, HexPinned, HexWriter, HexWriterPinned}
use Rattle.hexfile_promises.specs.Worked.{WorkedLines}
use Rattle.hexfile_promises.specs.Idle.{WrongHex}
use Rattle.capture.specs.Calls.{seeing_of, listing_of}
use Rattle.capture_promises.specs.Machines.{counting_of}
use Rattle.capture_promises.specs.Reading.{LetterPairs, LetterJoins, BusDrops, DrawnBack, LetterLate, RepeatsMakeNone, ListNumbers, Reader, ReaderPinned}
use Rattle.capture_promises.specs.Running.{EndsRight, EndsOneWay, MarkFirst, SeeNumbers, Viewer, ViewerPinned}
use Rattle.capture_promises.specs.Good.{LineLevels, GoodUnmarked}
use Rattle.capture_promises.specs.Pieces.{PiecesJoin, TallyJoins, RepeatsLeftOut}
use Rattle.capture_promises.specs.Tallied.{TallyCounts, CountNumbers, Counter, CounterPinned}
use Rattle.capture_promises.specs.Wrong.{WrongReaders, WrongTallies}
use Rattle.capture_promises.specs.WrongRuns.{WrongRuns}
use Rattle.capture_promises.specs.Worked.{WorkedCaptures}
use Rattle.wear.specs.Calls.{wear_of, kept_of, found_of, report_of, join_of}
use Rattle.wear_promises.specs.Counts.{WearIsHistory, TotalIsHistory, TracesAddUp, RunIsChips as WearRunIsChips, WearNumbers, CountsNeverFall, AtMostGroupsOfOnePage, WearRefusedChangesNothing, WearPinned}
use Rattle.wear_promises.specs.Told.{MostIsMost, ReportNumbers, ReportPinned, JoinAdds, JoinAnyOrder, HeapsMerge}
use Rattle.wear_promises.specs.Histories.{worn_hold, worn_histories}
use Rattle.wear_promises.specs.WrongCounters.{WrongCounters}
use Rattle.wear_promises.specs.Kept.{WalkFindsIt, OnlyOne, WorstIsWalk, AsBefore, RefusesUnborne, SeriesKeepsIt, RaisedKeepsIt, GrowthKeepsIt, GoesOn, MarkGoesOn, TracesKeepIt, FindsIt, KeptPinned}
use Rattle.wear_promises.specs.WrongKeepers.{WrongKeepers}
use Rattle.image.specs.Calls.{loading}
use Rattle.image_worn.specs.Calls.{saving_worn, loading_worn, loading_kept, to_worn_of, to_plain_of}
use Rattle.image_promises.specs.Layout.{LayoutWritten, LayoutRead, ConvertsThere, ConvertsBack, WornPlaces, WornLengths}
use Rattle.image_promises.specs.Promises.{GivesBackWorn, SavesSameWorn, PlainLoadsZero, OldReaderRefuses, AcceptsOnlyWorn, AcceptsAllWorn, ThereAndBack, BackAndThere, LosesNothing, ConvertsSame, RefusedKeeps as WornRefusedKeeps}
use Rattle.image_promises.specs.Numbers.{SaveWornNumbers, LoadWornNumbers, ToWornNumbers, ToPlainNumbers, OneWornNumber}
use Rattle.image_promises.specs.Pinned.{WornOurs, WornPinned}
use Rattle.image_promises.specs.Swapped.{SwapKeepsHistory}
use Rattle.image_promises.specs.Wrong.{WrongWorn}
use Rattle.image_promises.specs.Worst.{LoadAsBefore, LoadFindsIt, SavedWorst, ConvertKeepsIt, WrongWorst}
use Rattle.bench.specs.Worn.{bench_worn_of}
use Rattle.bench.specs.Kept.{bench_kept_of}
use Rattle.bench_promises.specs.Worn.{BenchWearIsHistory, WornIsBench}
use Rattle.bench_promises.specs.Kept.{BenchWorstIsWalk, BenchAsBefore, BenchRefusesUnborne}
use Rattle.std.specs.Prelude.{◌≡◌, true}
use Rattle.sapwoodle.specs.Promises.{NextIsDrivers, BenchIsBenchs, CaptureIsChips, CaptureRefuses4, StepIsChips, RunIsChips, StepOld, RunOld, StepRefuses3, RunRefuses3, WornBytesKept, WearBytesKeep, BenchWearWalks, BenchWearKeeps, LoadWornFinds}
use Rattle.sapwoodle.specs.Wears.{wearing, bench_wearing}
use Rattle.sapwoodle.specs.Worns.{loading_worn_bytes}
use Rattle.sapwoodle.specs.Chips.{stepping, running}
use Rattle.sapwoodle.specs.Drivers.{asking}
use Rattle.sapwoodle.specs.Runs.{benching}
use Rattle.sapwoodle.specs.Captures.{capturing}

-- §1, "Tell me which byte went unanswered."
pub record Request1 : Type 0 where
  -- "Split it by byte, and give the page of the transfer's address. Refusal 10 gains the data byte's index in the request. Refusals: 9 is the
  -- select only; 14 first address byte, 15 second": for any levels, which byte of the events each number names, with its page or index
  pub which : SaysWhichKept our_driver
  -- parts 0 and 1 have one address byte: no 15, whatever driver is handed in
  pub one_address : OneAddressByte our_driver
  -- "both ending a begun driver like 9": Stop first, the same answer again, the buffer as before, everything before the byte acknowledged
  pub ending : Promises our_driver
  -- "With power kept no chip of the named part gives 14 or 15": cycle ends and pin events at any moment, any chip, at any enable of its
  -- own; and the run of driver and chip
  pub answered : AddressAnswered our_driver ours
  pub run : AddressedKept our_bench
  pub power : ResetBreaks
  -- "a faulty line does": for every request of a byte or more
  pub faulty : FaultyLine our_driver
  -- callers that hold bytes are told the same
  pub bytes : NextIsDrivers asking × BenchIsBenchs benching

-- §2, "Intel HEX in and out.": of `reading_of` and `writing_of`, which `code` of specs/Demands.antt says `hexfile::read` and `hexfile::write` are
pub record Request2 : Type 0 where
  -- "Read data and end records (types 00 and 01) into an array buffer": the files of a relation that has no reader in it are read, and no others;
  -- "Either case of hex and LF or CR LF are read, the last line end may be missing": that relation's `Digit`, `LineEnd`, `LastEnd`; "the end
  -- record is `:00000001FF`": its `EndLine`
  pub all : AcceptsAll reading_of
  pub only : AcceptsOnly reading_of
  pub one_way : ReadsOneWay
  -- "bytes not named are FFh", and a byte that is named is the one of its record
  pub names : NamesEach reading_of
  -- "write an array out as records of 16 data bytes", "upper case and LF are written"
  pub plain : WritesPlain writing_of
  -- "Reading what we wrote gives the array back"
  pub back : GivesBack reading_of writing_of
  pub settles : Settles reading_of writing_of
  -- "Refusals: 16 malformed record, 17 wrong sum, 18 overlap or beyond the array, 19 no end record or text after it; the earliest record decides,
  -- within it the lowest number", "any other type or type 01 record 16": refused exactly so, with the line
  pub first : StopsFirst reading_of
  -- 1 and 3 before these, 1, 3 and 6 of a write; a refused call changes nothing
  pub numbers : HexReadNumbers reading_of × HexWriteNumbers writing_of
  pub keeps : RefusedKeeps reading_of writing_of
  -- these leave nothing open: ours keep them, and whoever else does is ours; wrong readers and writers break them, and lines written out are
  -- what they should be
  pub ours : HexReader reading_of × HexWriter writing_of
  pub pinned : HexPinned × HexWriterPinned
  pub wrong : WrongHex
  pub worked : WorkedLines

-- §3, "Run what the logic analyser saw.": of `listing_of`, `seeing_of` and `counting_of`, which `code` of specs/Demands.antt says `capture::events`,
-- `capture::run` and `capture::count` are
pub record Request3 : Type 0 where
  -- "Turn them into events: data falling with the clock high in both samples is a Start, rising a Stop, a rising clock a clock with the new data level,
  -- and the first sample makes none", "Where both lines change at once the clock rule alone holds": by the letter, each pair of samples, and no more
  -- than pairs
  pub pairs : LetterPairs listing_of
  pub joins : LetterJoins listing_of
  -- a bus lets the clock rise once more before each Stop, and before a Start in a transfer: by the letter that is a clock, so every Stop comes late;
  -- read as on a bus it is none, and whatever a bus carries is read back
  pub late : LetterLate listing_of
  pub drops : BusDrops listing_of
  pub back : DrawnBack listing_of
  -- "Run the model over them", "A capture doesn't show a cycle's end: put `E` before the first later Start whose first byte the capture shows
  -- acknowledged": there is one way to put them, and what is run is that
  pub ends : EndsRight seeing_of
  pub one_way : EndsOneWay
  -- "and mark the first clock where the level differs from the model's, among data bits the model sends and ninth clocks of other bytes"
  pub marks : MarkFirst seeing_of
  -- a board that is as the model says is not marked
  pub good : GoodUnmarked seeing_of
  pub line : LineLevels
  -- "The tally that the caller lends and each event updates counts Starts, Stops, bytes and unacknowledged bytes in 32 bits, staying at the top.
  -- A byte is nine clocks, unacknowledged if the ninth is 1."
  pub counts : TallyCounts counting_of
  -- "Refusals: 20 a sample above 3, at its place, after 4"; a refused call changes nothing
  pub numbers : SeeNumbers seeing_of × ListNumbers listing_of × CountNumbers counting_of
  -- any number of samples: in pieces that are cut behind a Stop, and with samples left out that repeat the one before
  pub pieces : PiecesJoin seeing_of × TallyJoins counting_of
  pub repeats : RepeatsMakeNone listing_of × RepeatsLeftOut seeing_of
  -- these leave nothing open: ours keep them, and whoever else does is ours; wrong ones break them, and captures written out are what they should be
  pub ours : Reader listing_of × Viewer seeing_of × Counter counting_of
  pub pinned : ReaderPinned × ViewerPinned × CounterPinned
  pub wrong : WrongReaders × WrongRuns × WrongTallies
  pub worked : WorkedCaptures
  -- callers that hold bytes are told the same
  pub bytes : CaptureIsChips capturing × CaptureRefuses4 capturing

-- §4, "Show the roll-over as one line.": it asks for a body's form, which no statement sees: `rolled` in line/src/lib.rt, whose contract is `roll_of`, as before
pub record Request4 : Type 0 where
  -- "where a page write turns back to the page start", "Its promise doesn't move": over any page size, the next place is one more, and behind the
  -- page's last place it is the page's first
  pub turns : PageRule

-- §5, "Power lost in a write cycle is not harmless.": of `ours_with`, the chip for each page and flag that it is given, which `code` of
-- specs/Demands.antt says `chip::step` and `chip::run` are
pub record Request5 : Type 0 where
  -- "each error-correction group with a latched byte comes up holding those bytes, every other byte is as before", "Prove that a cut at any event
  -- spoils at most the groups of the one page": after any events, from any state, over any memory; and nothing is left open
  pub spoils : CutSpoilsGroups ours_with
  pub one_way : SpoilsOneWay
  -- the same of a call, wherever a series of calls has come to
  pub called : StepSpoils step_of
  -- "and a cycle that was locking leaves the lock as a given flag says"
  pub lock : LockAsFlag ours_with
  -- "Groups are four aligned bytes on parts 2 to 5 and one byte on 0 and 1"
  pub groups : GroupSizes
  -- "One page and flag serve a whole run": a run is its steps, each with them
  pub whole_run : RunIsSteps
  -- "Rule 9's second sentence goes": its first stays, and outside a cycle what is given moves nothing
  pub stands : ResetStands ours_with
  pub only : CutOnlyInCycle ours_with
  -- "the program's `R` uses the old contents and no lock": it prints a run with these (`ran_text_of` is over `ours`); they are what lending the page's
  -- own bytes and no lock leaves
  pub program : PrintsAsJudged text_judged_of
  pub old_contents : OldIsOwnPage ours_with
  -- "Demand 3 still counts cycles begun, cut ones too": its promises over series of calls, each with a page and a flag of its own
  pub pages : CallsPagesFromDelivery deliver_of step_of run_of
  pub cycles : CallsCyclesAreStopsFromDelivery deliver_of step_of run_of
  pub lock_holds : CallsLockHolds step_of run_of
  pub pin : CallsPinProtects step_of run_of
  -- "Refusals: 3 also for that page's length": in its place among the others
  pub numbers : StepNumbers step_of × RunNumbers run_of
  -- callers that hold bytes are told the same: no page and flag 0 are the old contents, and any other page has P bytes or is refused
  pub bytes : StepIsChips stepping × RunIsChips running
  pub bytes_old : StepOld stepping × RunOld running
  pub bytes_numbers : StepRefuses3 stepping × RunRefuses3 running
  -- these leave nothing open: whoever keeps them, and is ours while power is kept, is ours with any page and flag
  pub ours : Powered ours_with
  pub pinned : PowerPinned
  -- cuts that change nothing, spoil the whole page or the latched bytes alone, store them, or leave the lock as it was break these
  pub wrong : WrongCuts

-- §6, "Wear over a year of traces.": of `wear_of`, `report_of` and `join_of`, which `code` of specs/Demands.antt says that `wear::go_on`, `report` and `join` are,
-- and of `bench_worn_of`; given the worst that the walk finds, `wear::run` and `bench::run_worn` are these too (§8, `before`)
pub record Request6 : Type 0 where
  -- "for each group of the array how many completed or cut cycles touched it", "Counts are 32-bit and stay at their top once there": over any series of
  -- calls each count goes on by what the history has, events and levels alone, at most the top; and nothing is left open
  pub history : WearIsHistory wear_of
  pub pinned : WearPinned
  -- "over many traces run one after another"
  pub traces : TracesAddUp wear_of
  -- "the total over groups, and the group with most (the lowest on a tie)"
  pub most : MostIsMost report_of
  pub most_pinned : ReportPinned
  -- "A cycle that touches several bytes of a group counts once for that group": an event raises counts of one page, each by one
  pub once : AtMostGroupsOfOnePage wear_of
  pub never_fall : CountsNeverFall wear_of
  -- "a locking or identification cycle for none", and more, on histories written out by hand
  pub histories : worn_hold worn_histories ≡ true
  -- "The total must come from the event history, not the stored counts, while no count is at the top"
  pub total : TotalIsHistory wear_of
  -- "Refusals: 3 also for a count buffer of another length": in its place; with the right length all is what `chip::run` answers and leaves
  pub numbers : WearNumbers wear_of × ReportNumbers report_of
  pub chips : WearRunIsChips wear_of
  pub refused : WearRefusedChangesNothing wear_of
  -- driver and chip together: the counts are what the tape says, and all else is the run's own
  pub bench : BenchWearIsHistory bench_worn_of
  pub bench_own : WornIsBench bench_worn_of
  -- what other processes or machines counted is joined, in any order: the counts of both heaps of traces
  pub join : JoinAdds join_of
  pub any_order : JoinAnyOrder join_of
  pub heaps : HeapsMerge join_of wear_of
  -- counters that count nothing, at the Stop, each byte, no cuts, identification cycles, the first group alone, whole pages, or begin again at the top break
  -- these; so does a total that is the number of cycles
  pub wrong : WrongCounters

-- §7, "Wear in the image.": of `saving_worn`, `loading_worn`, `to_worn_of` and `to_plain_of`, which `code` of specs/Demands.antt says that the functions are (a load also
-- answers the worst: §8)
pub record Request7 : Type 0 where
  -- "Boxes that are swapped between sites lose their history.": saved at one and loaded at another, a box's counts are those of both histories
  pub swapped : SwapKeepsHistory wear_of saving_worn loading_worn
  -- "Version 0002h of the `EPR` image adds the counts of §6 after the identification page, high byte first": each byte in its place, and how many there are
  pub places : WornPlaces
  pub lengths : WornLengths
  -- that is what is saved, and what is loaded; the one gives back what the other was given
  pub written : LayoutWritten saving_worn
  pub read : LayoutRead loading_worn
  pub gives_back : GivesBackWorn saving_worn loading_worn
  pub saves_same : SavesSameWorn saving_worn loading_worn
  -- images of the two versions are taken, and no others
  pub all : AcceptsAllWorn loading_worn
  pub only : AcceptsOnlyWorn loading_worn
  -- "Version 1 files load with all counts zero and convert to version 2"
  pub zero : PlainLoadsZero loading_worn loading
  pub there : ConvertsThere to_worn_of
  -- "Back to version 1 only if all counts are zero"
  pub back : ConvertsBack to_plain_of
  pub loses_nothing : LosesNothing to_plain_of
  -- "and there and back gives the same bytes"; what is loaded is the same before and after
  pub there_and_back : ThereAndBack to_worn_of to_plain_of
  pub back_and_there : BackAndThere to_worn_of to_plain_of
  pub same : ConvertsSame to_worn_of loading_worn × ConvertsSame to_plain_of loading_worn
  -- "a version 1 reader refuses version 2": ours of document 01, which stands as it did
  pub old : OldReaderRefuses loading
  -- "Refusals: 21 counts would be lost, after 12": in its place among the others; a refused call changes nothing
  pub numbers : SaveWornNumbers saving_worn × LoadWornNumbers loading_worn × ToWornNumbers to_worn_of × ToPlainNumbers to_plain_of
  pub one_number : OneWornNumber
  pub refused : WornRefusedKeeps saving_worn loading_worn to_worn_of to_plain_of
  -- from C too
  pub bytes_refused : WornBytesKept
  -- these leave nothing open: ours keep them, and whoever else does is ours
  pub ours : WornOurs
  pub pinned : WornPinned
  -- ways back that drop counts or look at some of them or at some of their bytes, loaders that leave counts, savers that write none, low bytes first, or
  -- counts before the identification page, a length four bytes short, 21 before 12, a reader of version 1 that takes version 2, and conversions that refuse
  -- everything break these
  pub wrong : WrongWorn

-- §8, "Keep the worst group at hand.": of `kept_of`, `found_of`, `bench_kept_of` and `loading_kept`, which `code` of specs/Demands.antt says that the functions are
pub record Request8 : Type 0 where
  -- "the most worn group": there is just one, the lowest on a tie, said without a walk; the walk finds it, and so does who begins
  pub walk : WalkFindsIt
  pub one : OnlyOne
  pub begins : FindsIt found_of
  -- "Store it, number and count, beside the counts; every write, cut .. keeps it equal to what the walk would find": after a call, after any series of
  -- them, and of driver and chip together, refused calls too
  pub kept : WorstIsWalk kept_of
  pub series : SeriesKeepsIt kept_of
  pub bench : BenchWorstIsWalk bench_kept_of
  -- "and we walk 8,192 counts": who is given no worst answers the most worn of the groups that it raised, and its holder compares
  pub raised : RaisedKeepsIt
  pub growth : GrowthKeepsIt
  pub goes_on : GoesOn wear_of × MarkGoesOn
  pub traces : TracesKeepIt wear_of
  -- "load and conversion"
  pub load : LoadFindsIt loading_kept
  pub saved : SavedWorst saving_worn loading_kept
  pub converted : ConvertKeepsIt to_worn_of loading_kept × ConvertKeepsIt to_plain_of loading_kept
  -- "Refusals: 4 also for a stored worst that the counts don't bear out.": in its place, and nothing changes
  pub refused : RefusesUnborne kept_of
  pub bench_refused : BenchRefusesUnborne bench_kept_of
  -- chip, memory, levels, cycles, counts and the other refusals are as they were
  pub before : AsBefore kept_of × BenchAsBefore bench_kept_of × LoadAsBefore loading_kept
  -- from C too
  pub bytes : WearBytesKeep wearing × BenchWearWalks bench_wearing × BenchWearKeeps bench_wearing × LoadWornFinds loading_worn_bytes
  -- these leave nothing open
  pub pinned : KeptPinned
  -- a worst that stays at zero, is given back, is the group raised last, the highest on a tie, or keeps its group while the count grows; one that is never judged,
  -- or not below or behind its group; calls that refuse everything; and loads that answer zero or what was there before break these
  pub wrong : WrongKeepers × WrongWorst

pub record Requests : Type 0 where
  pub first : Request1
  pub second : Request2
  pub third : Request3
  pub fourth : Request4
  pub fifth : Request5
  pub sixth : Request6
  pub seventh : Request7
  pub eighth : Request8
