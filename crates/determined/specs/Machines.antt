-- From the promises to the code without the eye: what a contract allows, read as Determined.antt reads it, is what the machine answers
-- and leaves of which the promises speak. `a.0`, `a.1.0`, .. are the function's parameters in order; behind `left` stands, parameter by
-- parameter, what is left in each buffer and variable lent for a change, and `tt` for any other.
-- Assumes nothing.
use Rattle.std.specs.Prelude.{◌≡◌, length}
use contract.Lifetimes.{Lfts}
use denote.Triple.Entry.{Args}
use denote.Triple.Clauses.{Ended}
use Rattle.parts.specs.Refusals.{verdict_number_of}
use Rattle.chip.specs.Memory.{mem, chip}
use Rattle.chip.specs.Model.{cut_by}
use Rattle.chip.specs.Calls.{deliver_of, step_of, run_of, pass_of}
use Rattle.image.specs.Calls.{saving, loading}
use Rattle.image_worn.specs.Calls.{saving_worn, loading_kept, to_worn_of, to_plain_of}
use Rattle.hexfile.specs.Calls.{reading_of, writing_of}
use Rattle.capture.specs.Calls.{seeing_of, listing_of}
use Rattle.capture_promises.specs.Machines.{counting_of}
use Rattle.trace.specs.Trace.{trace_of, laying_of}
use Rattle.driver.specs.Step.{begin_of}
use Rattle.parts.specs.Table.{facts_of}
use Rattle.driver.specs.Machine.{our_driver}
use Rattle.bench.specs.Tape.{laid_of}
use Rattle.bench_promises.specs.Calls.{BenchCall, our_bench}
use Rattle.sapwoodle.specs.Chips.{stepping, running, delivering}
use Rattle.sapwoodle.specs.Images.{saving_bytes, loading_bytes}
use Rattle.sapwoodle.specs.Hexes.{hex_reading, hex_writing}
use Rattle.sapwoodle.specs.Captures.{bus_of, capturing, listing, tallying}
use Rattle.sapwoodle.specs.Drivers.{request_of, beginning, asking}
use Rattle.sapwoodle.specs.Runs.{benching}
use Rattle.sapwoodle.specs.Wears.{wearing, finding, reporting, joining, bench_wearing}
use Rattle.sapwoodle.specs.Worns.{saving_worn_bytes, loading_worn_bytes, to_worn_bytes, to_plain_bytes}
use Rattle.wear.specs.Wear.{closed_of}
use Rattle.wear.specs.Report.{most}
use Rattle.wear.specs.Worst.{raised_of}
use Rattle.wear.specs.Calls.{wear_of, kept_of, found_of, report_of, join_of}
use Rattle.bench.specs.Kept.{bench_kept_of}
use Rattle.chip.specs.contracts.deliver as deliver
use Rattle.chip.proofs.deliver.Reads as deliver_reads
use Rattle.chip.specs.contracts.step as step
use Rattle.chip.proofs.step.Reads as step_reads
use Rattle.chip.specs.contracts.run as chip_run
use Rattle.chip.proofs.run.Reads as chip_run_reads
use Rattle.chip.specs.contracts.pass as chip_pass
use Rattle.chip.proofs.pass.Reads as chip_pass_reads
use Rattle.wear.specs.contracts.mark as mark
use Rattle.wear.proofs.mark.Reads as mark_reads
use Rattle.wear.specs.contracts.run as wear_run
use Rattle.wear.proofs.run.Reads as wear_run_reads
use Rattle.wear.specs.contracts.go_on as wear_go_on
use Rattle.wear.proofs.go_on.Reads as wear_go_on_reads
use Rattle.wear.specs.contracts.worst_of as worst_of
use Rattle.wear.proofs.worst_of.Reads as worst_of_reads
use Rattle.wear.specs.contracts.report as wear_report
use Rattle.wear.proofs.report.Reads as wear_report_reads
use Rattle.wear.specs.contracts.join as wear_join
use Rattle.wear.proofs.join.Reads as wear_join_reads
use Rattle.image.specs.contracts.save as save
use Rattle.image.proofs.save.Reads as save_reads
use Rattle.image.specs.contracts.load as load
use Rattle.image.proofs.load.Reads as load_reads
use Rattle.image_worn.specs.contracts.save_worn as save_worn
use Rattle.image_worn.proofs.save_worn.Reads as save_worn_reads
use Rattle.image_worn.specs.contracts.load_worn as load_worn
use Rattle.image_worn.proofs.load_worn.Reads as load_worn_reads
use Rattle.image_worn.specs.contracts.to_worn as to_worn
use Rattle.image_worn.proofs.to_worn.Reads as to_worn_reads
use Rattle.image_worn.specs.contracts.to_plain as to_plain
use Rattle.image_worn.proofs.to_plain.Reads as to_plain_reads
use Rattle.hexfile.specs.contracts.read as hex_read
use Rattle.hexfile.proofs.read.Reads as hex_read_reads
use Rattle.hexfile.specs.contracts.write as hex_write
use Rattle.hexfile.proofs.write.Reads as hex_write_reads
use Rattle.capture.specs.contracts.run as capture_run
use Rattle.capture.proofs.run.Reads as capture_run_reads
use Rattle.capture.specs.contracts.events as capture_events
use Rattle.capture.proofs.events.Reads as capture_events_reads
use Rattle.capture.specs.contracts.count as count
use Rattle.trace.specs.contracts.trace as trace
use Rattle.trace.proofs.trace.Reads as trace_reads
use Rattle.driver.specs.contracts.begin as begin
use Rattle.driver.proofs.begin.Reads as begin_reads
use Rattle.driver.specs.contracts.next as next
use Rattle.driver.proofs.next.Reads as next_reads
use Rattle.bench.specs.contracts.record as bench_record
use Rattle.bench.proofs.record.Reads as bench_record_reads
use Rattle.bench.specs.contracts.run as bench_run
use Rattle.bench.proofs.run.Reads as bench_run_reads
use Rattle.bench.specs.contracts.run_worn as bench_run_worn
use Rattle.bench.proofs.run_worn.Reads as bench_run_worn_reads
use Rattle.sapwoodle.specs.contracts.chips.sapwoodle_deliver as sapwoodle_deliver
use Rattle.sapwoodle.proofs.chips.sapwoodle_deliver.Reads as sapwoodle_deliver_reads
use Rattle.sapwoodle.specs.contracts.chips.sapwoodle_step as sapwoodle_step
use Rattle.sapwoodle.proofs.chips.sapwoodle_step.Reads as sapwoodle_step_reads
use Rattle.sapwoodle.specs.contracts.chips.sapwoodle_run as sapwoodle_run
use Rattle.sapwoodle.proofs.chips.sapwoodle_run.Reads as sapwoodle_run_reads
use Rattle.sapwoodle.specs.contracts.images.sapwoodle_save as sapwoodle_save
use Rattle.sapwoodle.proofs.images.sapwoodle_save.Reads as sapwoodle_save_reads
use Rattle.sapwoodle.specs.contracts.images.sapwoodle_load as sapwoodle_load
use Rattle.sapwoodle.proofs.images.sapwoodle_load.Reads as sapwoodle_load_reads
use Rattle.sapwoodle.specs.contracts.hexes.sapwoodle_hex_read as sapwoodle_hex_read
use Rattle.sapwoodle.proofs.hexes.sapwoodle_hex_read.Reads as sapwoodle_hex_read_reads
use Rattle.sapwoodle.specs.contracts.hexes.sapwoodle_hex_write as sapwoodle_hex_write
use Rattle.sapwoodle.proofs.hexes.sapwoodle_hex_write.Reads as sapwoodle_hex_write_reads
use Rattle.sapwoodle.specs.contracts.captures.sapwoodle_capture_run as sapwoodle_capture_run
use Rattle.sapwoodle.proofs.captures.sapwoodle_capture_run.Reads as sapwoodle_capture_run_reads
use Rattle.sapwoodle.specs.contracts.captures.sapwoodle_capture_events as sapwoodle_capture_events
use Rattle.sapwoodle.proofs.captures.sapwoodle_capture_events.Reads as sapwoodle_capture_events_reads
use Rattle.sapwoodle.specs.contracts.captures.sapwoodle_capture_tally as sapwoodle_capture_tally
use Rattle.sapwoodle.proofs.captures.sapwoodle_capture_tally.Reads as sapwoodle_capture_tally_reads
use Rattle.sapwoodle.specs.contracts.drivers.sapwoodle_driver_begin as sapwoodle_driver_begin
use Rattle.sapwoodle.proofs.drivers.sapwoodle_driver_begin.Reads as sapwoodle_driver_begin_reads
use Rattle.sapwoodle.specs.contracts.drivers.sapwoodle_driver_next as sapwoodle_driver_next
use Rattle.sapwoodle.proofs.drivers.sapwoodle_driver_next.Reads as sapwoodle_driver_next_reads
use Rattle.sapwoodle.specs.contracts.runs.sapwoodle_bench_run as sapwoodle_bench_run
use Rattle.sapwoodle.proofs.runs.sapwoodle_bench_run.Reads as sapwoodle_bench_run_reads
use Rattle.sapwoodle.specs.contracts.wears.sapwoodle_wear_run as sapwoodle_wear_run
use Rattle.sapwoodle.proofs.wears.sapwoodle_wear_run.Reads as sapwoodle_wear_run_reads
use Rattle.sapwoodle.specs.contracts.wears.sapwoodle_worst as sapwoodle_worst
use Rattle.sapwoodle.proofs.wears.sapwoodle_worst.Reads as sapwoodle_worst_reads
use Rattle.sapwoodle.specs.contracts.wears.sapwoodle_wear_report as sapwoodle_wear_report
use Rattle.sapwoodle.proofs.wears.sapwoodle_wear_report.Reads as sapwoodle_wear_report_reads
use Rattle.sapwoodle.specs.contracts.wears.sapwoodle_wear_join as sapwoodle_wear_join
use Rattle.sapwoodle.proofs.wears.sapwoodle_wear_join.Reads as sapwoodle_wear_join_reads
use Rattle.sapwoodle.specs.contracts.wears.sapwoodle_wear_bench_run as sapwoodle_wear_bench_run
use Rattle.sapwoodle.proofs.wears.sapwoodle_wear_bench_run.Reads as sapwoodle_wear_bench_run_reads
use Rattle.sapwoodle.specs.contracts.worns.sapwoodle_save_worn as sapwoodle_save_worn
use Rattle.sapwoodle.proofs.worns.sapwoodle_save_worn.Reads as sapwoodle_save_worn_reads
use Rattle.sapwoodle.specs.contracts.worns.sapwoodle_load_worn as sapwoodle_load_worn
use Rattle.sapwoodle.proofs.worns.sapwoodle_load_worn.Reads as sapwoodle_load_worn_reads
use Rattle.sapwoodle.specs.contracts.worns.sapwoodle_to_worn as sapwoodle_to_worn
use Rattle.sapwoodle.proofs.worns.sapwoodle_to_worn.Reads as sapwoodle_to_worn_reads
use Rattle.sapwoodle.specs.contracts.worns.sapwoodle_to_plain as sapwoodle_to_plain
use Rattle.sapwoodle.proofs.worns.sapwoodle_to_plain.Reads as sapwoodle_to_plain_reads
use Rattle.sapwoodle.specs.contracts.sapwoodle_trace as sapwoodle_trace
use Rattle.sapwoodle.proofs.sapwoodle_trace.Reads as sapwoodle_trace_reads
use Rattle.determined.specs.Walked.{CountLearnt}
use Rattle.determined.specs.Determined.{Learnt, AnswerTo, Allows}

-- every answer that a contract allows is the one of f
abbrev pub Is : (e : Ended) → Learnt e → ((κs : Lfts e.signature.lifetimes) (a : Args e.signature κs) → AnswerTo e κs a) → Type 0
Is e learnt f = (κs : Lfts e.signature.lifetimes) (a : Args e.signature κs) (x : AnswerTo e κs a) → Allows e learnt κs a x → x ≡ f κs a

-- ---- the chip

abbrev pub DeliverIs : Type 0
DeliverIs =
    Is deliver.ended deliver_reads.Learnt
    (λ κs a.
    let m = deliver_of a.0 (mem a.1.0.now a.1.1.0.now) in
    record { result = m.answer; left = (tt, (m.mem.cells, (m.mem.ident, tt))) })

abbrev pub StepIs : Type 0
StepIs =
    Is step.ended step_reads.Learnt
    (λ κs a.
    let m = step_of a.0 a.1.0 (cut_by a.1.1.0 a.1.1.1.0.now) a.1.1.1.1.0 (mem a.1.1.1.1.1.0.now a.1.1.1.1.1.1.0.now) a.1.1.1.1.1.1.1.0 in
    record { result = m.answer; left = (tt, (tt, (tt, (tt, (tt, (m.mem.cells, (m.mem.ident, (tt, tt)))))))) })

abbrev pub RunIs : Type 0
RunIs =
    Is chip_run.ended chip_run_reads.Learnt
    (λ κs a.
    let m =
    run_of a.0 a.1.0 (cut_by a.1.1.0 a.1.1.1.0.now) a.1.1.1.1.0 (mem a.1.1.1.1.1.0.now a.1.1.1.1.1.1.0.now)
    a.1.1.1.1.1.1.1.0.now a.1.1.1.1.1.1.1.1.0.now in
    record { result = m.answer; left = (tt, (tt, (tt, (tt, (tt, (m.mem.cells, (m.mem.ident, (tt, (m.answers, tt))))))))) })

abbrev pub PassIs : Type 0
PassIs =
    Is chip_pass.ended chip_pass_reads.Learnt
    (λ κs a.
    let m = pass_of a.0 a.1.0 (cut_by a.1.1.0 a.1.1.1.0.now) (chip a.1.1.1.1.0 a.1.1.1.1.1.0) (mem a.1.1.1.1.1.1.0.now a.1.1.1.1.1.1.1.0.now) a.1.1.1.1.1.1.1.1.0.now a.1.1.1.1.1.1.1.1.1.0.now in
    record { result = m.answer; left = (tt, (tt, (tt, (tt, (tt, (tt, (m.mem.cells, (m.mem.ident, (tt, (m.answers, tt)))))))))) })

-- ---- wear

abbrev pub MarkIs : Type 0
MarkIs =
    Is mark.ended mark_reads.Learnt
    (λ κs a.
    let k = closed_of (facts_of a.0) a.1.0 a.1.1.0.now in
    record { result = raised_of a.1.1.0.now k; left = (tt, (tt, (k, tt))) })

-- without a worst: the most worn of the groups that it raised
abbrev pub WearGoOnIs : Type 0
WearGoOnIs =
    Is wear_go_on.ended wear_go_on_reads.Learnt
    (λ κs a.
    let m = wear_of a.0 a.1.0 (cut_by a.1.1.0 a.1.1.1.0.now) a.1.1.1.1.0 (mem a.1.1.1.1.1.0.now a.1.1.1.1.1.1.0.now) a.1.1.1.1.1.1.1.0.now a.1.1.1.1.1.1.1.1.0.now a.1.1.1.1.1.1.1.1.1.0.now in
    record { result = record { ran = m.run.answer; most = raised_of a.1.1.1.1.1.1.1.0.now m.counts }; left = (tt, (tt, (tt, (tt, (tt, (m.run.mem.cells, (m.run.mem.ident, (m.counts, (tt, (m.run.answers, tt)))))))))) })

abbrev pub WearRunIs : Type 0
WearRunIs =
    Is wear_run.ended wear_run_reads.Learnt
    (λ κs a.
    let m = kept_of a.0 a.1.0 (cut_by a.1.1.0 a.1.1.1.0.now) a.1.1.1.1.0 (mem a.1.1.1.1.1.0.now a.1.1.1.1.1.1.0.now) a.1.1.1.1.1.1.1.0.now a.1.1.1.1.1.1.1.1.0 a.1.1.1.1.1.1.1.1.1.0.now a.1.1.1.1.1.1.1.1.1.1.0.now in
    record { result = record { ran = m.wear.run.answer; most = m.worst }; left = (tt, (tt, (tt, (tt, (tt, (m.wear.run.mem.cells, (m.wear.run.mem.ident, (m.wear.counts, (tt, (tt, (m.wear.run.answers, tt))))))))))) })

abbrev pub WorstOfIs : Type 0
WorstOfIs =
    Is worst_of.ended worst_of_reads.Learnt
    (λ κs a.
    let m = found_of a.0 a.1.0.now in
    record { result = m; left = (tt, (tt, tt)) })

abbrev pub WearReportIs : Type 0
WearReportIs =
    Is wear_report.ended wear_report_reads.Learnt
    (λ κs a.
    let m = report_of a.0 a.1.0.now in
    record { result = m; left = (tt, (tt, tt)) })

abbrev pub WearJoinIs : Type 0
WearJoinIs =
    Is wear_join.ended wear_join_reads.Learnt
    (λ κs a.
    let m = join_of a.0 a.1.0.now a.1.1.0.now in
    record { result = m.verdict; left = (tt, (m.counts, (tt, tt))) })

-- ---- image, Intel HEX, captures and trace

abbrev pub SaveIs : Type 0
SaveIs =
    Is save.ended save_reads.Learnt
    (λ κs a.
    let m = saving a.0 a.1.0 (mem a.1.1.0.now a.1.1.1.0.now) a.1.1.1.1.0.now in
    record { result = m.answer; left = (tt, (tt, (tt, (tt, (m.out, tt))))) })

abbrev pub LoadIs : Type 0
LoadIs =
    Is load.ended load_reads.Learnt
    (λ κs a.
    let m = loading a.0.now a.1.0 (mem a.1.1.0.now a.1.1.1.0.now) in
    record { result = m.answer; left = (tt, (tt, (m.stored.cells, (m.stored.ident, tt)))) })

abbrev pub SaveWornIs : Type 0
SaveWornIs =
    Is save_worn.ended save_worn_reads.Learnt
    (λ κs a.
    let m = saving_worn a.0 a.1.0 (mem a.1.1.0.now a.1.1.1.0.now) a.1.1.1.1.0.now a.1.1.1.1.1.0.now in
    record { result = m.answer; left = (tt, (tt, (tt, (tt, (tt, (m.out, tt)))))) })

abbrev pub LoadWornIs : Type 0
LoadWornIs =
    Is load_worn.ended load_worn_reads.Learnt
    (λ κs a.
    let m = loading_kept a.0.now a.1.0 (mem a.1.1.0.now a.1.1.1.0.now) a.1.1.1.1.0.now in
    record { result = record { loaded = m.load.answer; worst = m.worst }; left = (tt, (tt, (m.load.stored.cells, (m.load.stored.ident, (m.load.counts, tt))))) })

abbrev pub ToWornIs : Type 0
ToWornIs =
    Is to_worn.ended to_worn_reads.Learnt
    (λ κs a.
    let m = to_worn_of a.0.now a.1.0.now in
    record { result = m.answer; left = (tt, (m.out, tt)) })

abbrev pub ToPlainIs : Type 0
ToPlainIs =
    Is to_plain.ended to_plain_reads.Learnt
    (λ κs a.
    let m = to_plain_of a.0.now a.1.0.now in
    record { result = m.answer; left = (tt, (m.out, tt)) })

abbrev pub HexReadIs : Type 0
HexReadIs =
    Is hex_read.ended hex_read_reads.Learnt
    (λ κs a.
    let m = reading_of a.0 a.1.0.now a.1.1.0.now in
    record { result = m.answer; left = (tt, (tt, (m.array, tt))) })

abbrev pub HexWriteIs : Type 0
HexWriteIs =
    Is hex_write.ended hex_write_reads.Learnt
    (λ κs a.
    let m = writing_of a.0 a.1.0.now a.1.1.0.now in
    record { result = m.answer; left = (tt, (tt, (m.out, tt))) })

abbrev pub CaptureRunIs : Type 0
CaptureRunIs =
    Is capture_run.ended capture_run_reads.Learnt
    (λ κs a.
    let m = seeing_of a.0 a.1.0 a.1.1.0 (mem a.1.1.1.0.now a.1.1.1.1.0.now) a.1.1.1.1.1.0 a.1.1.1.1.1.1.0.now in
    record { result = m.answer; left = (tt, (tt, (tt, (m.mem.cells, (m.mem.ident, (tt, (tt, tt))))))) })

abbrev pub CaptureEventsIs : Type 0
CaptureEventsIs =
    Is capture_events.ended capture_events_reads.Learnt
    (λ κs a.
    let m = listing_of a.0 a.1.0.now a.1.1.0.now in
    record { result = m.answer; left = (tt, (tt, (m.out, tt))) })

-- the verdict, and the tally that is lent
abbrev pub CountIs : Type 0
CountIs =
    Is count.ended CountLearnt
    (λ κs a.
    let m = counting_of a.0.now a.1.0 a.1.1.0.now in
    record { result = m.verdict; left = (m.tally, (tt, (tt, tt))) })

abbrev pub TraceIs : Type 0
TraceIs =
    Is trace.ended trace_reads.Learnt
    (λ κs a.
    let m = laying_of a.1.0.now (trace_of a.0.now) in
    record { result = m.answer; left = (tt, (m.out, tt)) })

-- ---- the driver

abbrev pub BeginIs : Type 0
BeginIs = Is begin.ended begin_reads.Learnt (λ κs a. record { result = begin_of a.0; left = (tt, tt) })

abbrev pub NextIsOurDriver : Type 0
NextIsOurDriver =
    Is next.ended next_reads.Learnt
    (λ κs a. record { result = our_driver.next a.0 a.1.0 a.1.1.0.now; left = (tt, (tt, (our_driver.leaves a.0 a.1.0 a.1.1.0.now, tt))) })

-- ---- driver and chip together

abbrev pub BenchRunIsOurBench : Type 0
BenchRunIsOurBench =
    Is bench_run.ended bench_run_reads.Learnt
    (λ κs a.
    let stored = mem a.1.1.1.1.0.now a.1.1.1.1.1.0.now in
    let k : BenchCall = record { request = a.0; own = a.1.0; d = a.1.1.0; chip = a.1.1.1.0; mem = stored; buffer = a.1.1.1.1.1.1.0.now } in
    record { result = our_bench.report k; left = (tt, (tt, (tt, (tt, ((our_bench.memory k).cells, ((our_bench.memory k).ident, (our_bench.buffer k, tt))))))) })

abbrev pub BenchRunWornIs : Type 0
BenchRunWornIs =
    Is bench_run_worn.ended bench_run_worn_reads.Learnt
    (λ κs a.
    let m = bench_kept_of a.0 a.1.0 a.1.1.0 a.1.1.1.0 (mem a.1.1.1.1.0.now a.1.1.1.1.1.0.now) a.1.1.1.1.1.1.0.now a.1.1.1.1.1.1.1.0.now a.1.1.1.1.1.1.1.1.0 in
    record { result = record { report = m.worn.left.report; worst = m.worst }; left = (tt, (tt, (tt, (tt, (m.worn.left.mem.cells, (m.worn.left.mem.ident, (m.worn.left.buffer, (m.worn.counts, (tt, tt))))))))) })

-- the tape is laid into the two lent buffers
abbrev pub BenchRecordIsOurBench : Type 0
BenchRecordIsOurBench =
    Is bench_record.ended bench_record_reads.Learnt
    (λ κs a.
    let stored = mem a.1.1.1.1.0.now a.1.1.1.1.1.0.now in
    let k : BenchCall = record { request = a.0; own = a.1.0; d = a.1.1.0; chip = a.1.1.1.0; mem = stored; buffer = a.1.1.1.1.1.1.0.now } in
    let events = laid_of a.1.1.1.1.1.1.1.0.now (our_bench.events k) in
    let levels = laid_of a.1.1.1.1.1.1.1.1.0.now (our_bench.levels k) in
    record {
      result = record { report = our_bench.report k; sent = length (our_bench.events k) };
      left = (tt, (tt, (tt, (tt, ((our_bench.memory k).cells, ((our_bench.memory k).ident, (our_bench.buffer k, (events, (levels, tt)))))))));
    })

-- ---- the calls over bytes

abbrev pub SapwoodleDeliverIs : Type 0
SapwoodleDeliverIs =
    Is sapwoodle_deliver.ended sapwoodle_deliver_reads.Learnt
    (λ κs a.
    let m = delivering a.0 a.1.0.now (mem a.1.1.0.now a.1.1.1.0.now) in
    record { result = m.number; left = (tt, (m.state, (m.stored.cells, (m.stored.ident, tt)))) })

abbrev pub SapwoodleStepIs : Type 0
SapwoodleStepIs =
    Is sapwoodle_step.ended sapwoodle_step_reads.Learnt
    (λ κs a.
    let m = stepping a.0 a.1.0 a.1.1.0.now a.1.1.1.0 a.1.1.1.1.0.now (mem a.1.1.1.1.1.0.now a.1.1.1.1.1.1.0.now) a.1.1.1.1.1.1.1.0 in
    record { result = m.number; left = (tt, (tt, (tt, (tt, (m.state, (m.stored.cells, (m.stored.ident, (tt, (m.level, (m.cycles, tt)))))))))) })

abbrev pub SapwoodleRunIs : Type 0
SapwoodleRunIs =
    Is sapwoodle_run.ended sapwoodle_run_reads.Learnt
    (λ κs a.
    let m = running a.0 a.1.0 a.1.1.0.now a.1.1.1.0 a.1.1.1.1.0.now (mem a.1.1.1.1.1.0.now a.1.1.1.1.1.1.0.now) a.1.1.1.1.1.1.1.0.now a.1.1.1.1.1.1.1.1.0.now in
    record { result = m.number; left = (tt, (tt, (tt, (tt, (m.state, (m.stored.cells, (m.stored.ident, (tt, (m.answers, (m.cycles, (m.place, tt))))))))))) })

abbrev pub SapwoodleSaveIs : Type 0
SapwoodleSaveIs =
    Is sapwoodle_save.ended sapwoodle_save_reads.Learnt
    (λ κs a.
    let m = saving_bytes a.0 a.1.0.now (mem a.1.1.0.now a.1.1.1.0.now) a.1.1.1.1.0.now in
    record { result = m.number; left = (tt, (tt, (tt, (tt, (m.out, (m.written, tt)))))) })

abbrev pub SapwoodleLoadIs : Type 0
SapwoodleLoadIs =
    Is sapwoodle_load.ended sapwoodle_load_reads.Learnt
    (λ κs a.
    let m = loading_bytes a.0.now a.1.0 a.1.1.0.now (mem a.1.1.1.0.now a.1.1.1.1.0.now) in
    record { result = m.number; left = (tt, (tt, (m.state, (m.stored.cells, (m.stored.ident, (m.part, tt)))))) })

abbrev pub SapwoodleHexReadIs : Type 0
SapwoodleHexReadIs =
    Is sapwoodle_hex_read.ended sapwoodle_hex_read_reads.Learnt
    (λ κs a.
    let m = hex_reading a.0 a.1.0.now a.1.1.0.now in
    record { result = m.number; left = (tt, (tt, (m.array, (m.line, (m.records, (m.named, tt)))))) })

abbrev pub SapwoodleHexWriteIs : Type 0
SapwoodleHexWriteIs =
    Is sapwoodle_hex_write.ended sapwoodle_hex_write_reads.Learnt
    (λ κs a.
    let m = hex_writing a.0 a.1.0.now a.1.1.0.now in
    record { result = m.number; left = (tt, (tt, (m.out, (m.written, tt)))) })

abbrev pub SapwoodleCaptureRunIs : Type 0
SapwoodleCaptureRunIs =
    Is sapwoodle_capture_run.ended sapwoodle_capture_run_reads.Learnt
    (λ κs a.
    let stored = mem a.1.1.1.0.now a.1.1.1.1.0.now in
    let m = capturing a.0 a.1.0 a.1.1.0.now stored (bus_of a.1.1.1.1.1.0) a.1.1.1.1.1.1.0.now in
    record {
      result = m.number;
      left = (tt, (tt, (m.state, (m.stored.cells, (m.stored.ident, (tt, (tt, (m.events, (m.clocks, (m.ends, (m.cycles, (m.level, (m.sample, (m.clock, (m.place, tt)))))))))))))));
    })

abbrev pub SapwoodleCaptureEventsIs : Type 0
SapwoodleCaptureEventsIs =
    Is sapwoodle_capture_events.ended sapwoodle_capture_events_reads.Learnt
    (λ κs a.
    let m = listing (bus_of a.0) a.1.0.now a.1.1.0.now in
    record { result = m.number; left = (tt, (tt, (m.out, (m.length, (m.place, tt))))) })

abbrev pub SapwoodleCaptureTallyIs : Type 0
SapwoodleCaptureTallyIs =
    Is sapwoodle_capture_tally.ended sapwoodle_capture_tally_reads.Learnt
    (λ κs a.
    let m = tallying (bus_of a.0) a.1.0.now a.1.1.0.now a.1.1.1.0.now a.1.1.1.1.0.now a.1.1.1.1.1.0.now in
    let t = m.tally in
    record { result = m.number; left = (tt, (tt, (t.starts, (t.stops, (t.bytes, (t.unacknowledged, (m.place, tt))))))) })

abbrev pub SapwoodleDriverBeginIs : Type 0
SapwoodleDriverBeginIs =
    Is sapwoodle_driver_begin.ended sapwoodle_driver_begin_reads.Learnt
    (λ κs a.
    let m = beginning (request_of a.0 a.1.0 a.1.1.0 a.1.1.1.0 a.1.1.1.1.0 a.1.1.1.1.1.0) a.1.1.1.1.1.1.0.now in
    record { result = m.number; left = (tt, (tt, (tt, (tt, (tt, (tt, (m.state, tt))))))) })

abbrev pub SapwoodleDriverNextIs : Type 0
SapwoodleDriverNextIs =
    Is sapwoodle_driver_next.ended sapwoodle_driver_next_reads.Learnt
    (λ κs a.
    let m = asking a.0.now a.1.0 a.1.1.0.now in
    record { result = m.told.number; left = (m.state, (tt, (m.buffer, (m.told.event, (m.told.place, (m.told.polls, (m.told.bytes, tt))))))) })

abbrev pub SapwoodleBenchRunIs : Type 0
SapwoodleBenchRunIs =
    Is sapwoodle_bench_run.ended sapwoodle_bench_run_reads.Learnt
    (λ κs a.
    let m = benching (request_of a.0 a.1.0 a.1.1.0 a.1.1.1.0 a.1.1.1.1.0 a.1.1.1.1.1.0) a.1.1.1.1.1.1.0 a.1.1.1.1.1.1.1.0 a.1.1.1.1.1.1.1.1.0.now (mem a.1.1.1.1.1.1.1.1.1.0.now a.1.1.1.1.1.1.1.1.1.1.0.now) a.1.1.1.1.1.1.1.1.1.1.1.0.now in
    record { result = m.number; left = (tt, (tt, (tt, (tt, (tt, (tt, (tt, (tt, (m.state, (m.stored.cells, (m.stored.ident, (m.buffer, (m.place, (m.polls, (m.bytes, (m.cycles, (m.clocks, tt))))))))))))))))) })

abbrev pub SapwoodleWearRunIs : Type 0
SapwoodleWearRunIs =
    Is sapwoodle_wear_run.ended sapwoodle_wear_run_reads.Learnt
    (λ κs a.
    let m = wearing a.0 a.1.0 a.1.1.0.now a.1.1.1.0 a.1.1.1.1.0.now (mem a.1.1.1.1.1.0.now a.1.1.1.1.1.1.0.now) a.1.1.1.1.1.1.1.0.now (most a.1.1.1.1.1.1.1.1.0.now a.1.1.1.1.1.1.1.1.1.0.now) a.1.1.1.1.1.1.1.1.1.1.0.now a.1.1.1.1.1.1.1.1.1.1.1.0.now in
    record { result = m.run.number; left = (tt, (tt, (tt, (tt, (m.run.state, (m.run.stored.cells, (m.run.stored.ident, (m.counts, (m.worst.group, (m.worst.count, (tt, (m.run.answers, (m.run.cycles, (m.run.place, tt)))))))))))))) })

abbrev pub SapwoodleWorstIs : Type 0
SapwoodleWorstIs =
    Is sapwoodle_worst.ended sapwoodle_worst_reads.Learnt
    (λ κs a.
    let m = finding a.0 a.1.0.now in
    record { result = m.number; left = (tt, (tt, (m.group, (m.count, tt)))) })

abbrev pub SapwoodleWearReportIs : Type 0
SapwoodleWearReportIs =
    Is sapwoodle_wear_report.ended sapwoodle_wear_report_reads.Learnt
    (λ κs a.
    let m = reporting a.0 a.1.0.now in
    record { result = m.number; left = (tt, (tt, (m.total, (m.group, (m.count, tt))))) })

abbrev pub SapwoodleWearJoinIs : Type 0
SapwoodleWearJoinIs =
    Is sapwoodle_wear_join.ended sapwoodle_wear_join_reads.Learnt
    (λ κs a.
    let m = joining a.0 a.1.0.now a.1.1.0.now in
    record { result = m.number; left = (tt, (m.counts, (tt, tt))) })

abbrev pub SapwoodleWearBenchRunIs : Type 0
SapwoodleWearBenchRunIs =
    Is sapwoodle_wear_bench_run.ended sapwoodle_wear_bench_run_reads.Learnt
    (λ κs a.
    let m = bench_wearing (request_of a.0 a.1.0 a.1.1.0 a.1.1.1.0 a.1.1.1.1.0 a.1.1.1.1.1.0) a.1.1.1.1.1.1.0 a.1.1.1.1.1.1.1.0 a.1.1.1.1.1.1.1.1.0.now (mem a.1.1.1.1.1.1.1.1.1.0.now a.1.1.1.1.1.1.1.1.1.1.0.now) a.1.1.1.1.1.1.1.1.1.1.1.0.now a.1.1.1.1.1.1.1.1.1.1.1.1.0.now (most a.1.1.1.1.1.1.1.1.1.1.1.1.1.0.now a.1.1.1.1.1.1.1.1.1.1.1.1.1.1.0.now) in
    record { result = m.bench.number; left = (tt, (tt, (tt, (tt, (tt, (tt, (tt, (tt, (m.bench.state, (m.bench.stored.cells, (m.bench.stored.ident, (m.bench.buffer, (m.counts, (m.worst.group, (m.worst.count, (m.bench.place, (m.bench.polls, (m.bench.bytes, (m.bench.cycles, (m.bench.clocks, tt)))))))))))))))))))) })

abbrev pub SapwoodleSaveWornIs : Type 0
SapwoodleSaveWornIs =
    Is sapwoodle_save_worn.ended sapwoodle_save_worn_reads.Learnt
    (λ κs a.
    let m = saving_worn_bytes a.0 a.1.0.now (mem a.1.1.0.now a.1.1.1.0.now) a.1.1.1.1.0.now a.1.1.1.1.1.0.now in
    record { result = m.number; left = (tt, (tt, (tt, (tt, (tt, (m.out, (m.written, tt))))))) })

abbrev pub SapwoodleLoadWornIs : Type 0
SapwoodleLoadWornIs =
    Is sapwoodle_load_worn.ended sapwoodle_load_worn_reads.Learnt
    (λ κs a.
    let m = loading_worn_bytes a.0.now a.1.0 a.1.1.0.now (mem a.1.1.1.0.now a.1.1.1.1.0.now) a.1.1.1.1.1.0.now (most a.1.1.1.1.1.1.1.0.now a.1.1.1.1.1.1.1.1.0.now) in
    record { result = m.load.number; left = (tt, (tt, (m.load.state, (m.load.stored.cells, (m.load.stored.ident, (m.counts, (m.load.part, (m.worst.group, (m.worst.count, tt))))))))) })

abbrev pub SapwoodleToWornIs : Type 0
SapwoodleToWornIs =
    Is sapwoodle_to_worn.ended sapwoodle_to_worn_reads.Learnt
    (λ κs a.
    let m = to_worn_bytes a.0.now a.1.0.now in
    record { result = m.number; left = (tt, (m.out, (m.written, tt))) })

abbrev pub SapwoodleToPlainIs : Type 0
SapwoodleToPlainIs =
    Is sapwoodle_to_plain.ended sapwoodle_to_plain_reads.Learnt
    (λ κs a.
    let m = to_plain_bytes a.0.now a.1.0.now in
    record { result = m.number; left = (tt, (m.out, (m.written, tt))) })

abbrev pub SapwoodleTraceIs : Type 0
SapwoodleTraceIs =
    Is sapwoodle_trace.ended sapwoodle_trace_reads.Learnt
    (λ κs a.
    let m = laying_of a.1.0.now (trace_of a.0.now) in
    record { result = verdict_number_of m.answer.verdict; left = (tt, (m.out, (m.answer.length, tt))) })

-- ---- all of them

pub record EveryMachine : Type 0 where
  pub deliver : DeliverIs
  pub step : StepIs
  pub run : RunIs
  pub save : SaveIs
  pub load : LoadIs
  pub hex_read : HexReadIs
  pub hex_write : HexWriteIs
  pub capture_run : CaptureRunIs
  pub capture_events : CaptureEventsIs
  pub capture_count : CountIs
  pub trace : TraceIs
  pub begin : BeginIs
  pub next : NextIsOurDriver
  pub bench_record : BenchRecordIsOurBench
  pub bench_run : BenchRunIsOurBench
  pub wear_run : WearRunIs
  pub wear_go_on : WearGoOnIs
  pub wear_mark : MarkIs
  pub worst_of : WorstOfIs
  pub wear_report : WearReportIs
  pub wear_join : WearJoinIs
  pub bench_run_worn : BenchRunWornIs
  pub save_worn : SaveWornIs
  pub load_worn : LoadWornIs
  pub to_worn : ToWornIs
  pub to_plain : ToPlainIs
  pub sapwoodle_deliver : SapwoodleDeliverIs
  pub sapwoodle_step : SapwoodleStepIs
  pub sapwoodle_run : SapwoodleRunIs
  pub sapwoodle_save : SapwoodleSaveIs
  pub sapwoodle_load : SapwoodleLoadIs
  pub sapwoodle_hex_read : SapwoodleHexReadIs
  pub sapwoodle_hex_write : SapwoodleHexWriteIs
  pub sapwoodle_capture_run : SapwoodleCaptureRunIs
  pub sapwoodle_capture_events : SapwoodleCaptureEventsIs
  pub sapwoodle_capture_tally : SapwoodleCaptureTallyIs
  pub sapwoodle_driver_begin : SapwoodleDriverBeginIs
  pub sapwoodle_driver_next : SapwoodleDriverNextIs
  pub sapwoodle_bench_run : SapwoodleBenchRunIs
  pub sapwoodle_wear_run : SapwoodleWearRunIs
  pub sapwoodle_worst : SapwoodleWorstIs
  pub sapwoodle_wear_report : SapwoodleWearReportIs
  pub sapwoodle_wear_join : SapwoodleWearJoinIs
  pub sapwoodle_wear_bench_run : SapwoodleWearBenchRunIs
  pub sapwoodle_save_worn : SapwoodleSaveWornIs
  pub sapwoodle_load_worn : SapwoodleLoadWornIs
  pub sapwoodle_to_worn : SapwoodleToWornIs
  pub sapwoodle_to_plain : SapwoodleToPlainIs
  pub sapwoodle_trace : SapwoodleTraceIs
