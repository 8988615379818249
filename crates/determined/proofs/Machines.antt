-- Each contract allows the machine's answer alone. `p` is what the contract says of an answer, one part for each clause, in the clauses'
-- order; what is left is a row of the parameters.
-- Assumes nothing.
use mathlib.Core.Path.{refl, ◌∙◌, ap}
use Rattle.wear.specs.Worst.{raised_of}
use Rattle.determined.specs.Machines.{EveryMachine, DeliverIs, StepIs, RunIs, SaveIs, LoadIs, HexReadIs, HexWriteIs, CaptureRunIs, CaptureEventsIs, CountIs, TraceIs, BeginIs, NextIsOurDriver, BenchRecordIsOurBench, BenchRunIsOurBench, PassIs, MarkIs, WearRunIs, WearGoOnIs, WorstOfIs, WearReportIs, WearJoinIs, BenchRunWornIs, SaveWornIs, LoadWornIs, ToWornIs, ToPlainIs, SapwoodleSaveWornIs, SapwoodleLoadWornIs, SapwoodleToWornIs, SapwoodleToPlainIs, SapwoodleWearRunIs, SapwoodleWorstIs, SapwoodleWearReportIs, SapwoodleWearJoinIs, SapwoodleWearBenchRunIs, SapwoodleDeliverIs, SapwoodleStepIs, SapwoodleRunIs, SapwoodleSaveIs, SapwoodleLoadIs, SapwoodleHexReadIs, SapwoodleHexWriteIs, SapwoodleCaptureRunIs, SapwoodleCaptureEventsIs, SapwoodleCaptureTallyIs, SapwoodleDriverBeginIs, SapwoodleDriverNextIs, SapwoodleBenchRunIs, SapwoodleTraceIs}
use Rattle.determined.proofs.Answers.{same}

pub deliver_is : DeliverIs
deliver_is = λ κs a x p. same p.0 (λ i. (tt, (p.1.0 i, (p.1.1 i, tt))))

pub step_is : StepIs
step_is = λ κs a x p. same p.0 (λ i. (tt, (tt, (tt, (tt, (tt, (p.1.0 i, (p.1.1 i, (tt, tt)))))))))

pub run_is : RunIs
run_is = λ κs a x p. same p.0 (λ i. (tt, (tt, (tt, (tt, (tt, ((p.1.0 i).cells, ((p.1.0 i).ident, (tt, (p.1.1 i, tt))))))))))

pub save_is : SaveIs
save_is = λ κs a x p. same p.0 (λ i. (tt, (tt, (tt, (tt, (p.1 i, tt))))))

pub load_is : LoadIs
load_is = λ κs a x p. same p.0 (λ i. (tt, (tt, (p.1.0 i, (p.1.1 i, tt)))))

pub hex_read_is : HexReadIs
hex_read_is = λ κs a x p. same p.0 (λ i. (tt, (tt, (p.1 i, tt))))

pub hex_write_is : HexWriteIs
hex_write_is = λ κs a x p. same p.0 (λ i. (tt, (tt, (p.1 i, tt))))

pub capture_run_is : CaptureRunIs
capture_run_is = λ κs a x p. same p.0 (λ i. (tt, (tt, (tt, ((p.1 i).cells, ((p.1 i).ident, (tt, (tt, tt))))))))

pub capture_events_is : CaptureEventsIs
capture_events_is = λ κs a x p. same p.0 (λ i. (tt, (tt, (p.1 i, tt))))

pub count_is : CountIs
count_is = λ κs a x p. same p.0 (λ i. (p.1 i, (tt, (tt, tt))))

pub trace_is : TraceIs
trace_is = λ κs a x p. same p.0 (λ i. (tt, (p.1 i, tt)))

pub begin_is : BeginIs
begin_is = λ κs a x p. same p refl

pub next_is_our_driver : NextIsOurDriver
next_is_our_driver = λ κs a x p. same p.0 (λ i. (tt, (tt, (p.1 i, tt))))

pub bench_record_is_our_bench : BenchRecordIsOurBench
bench_record_is_our_bench = λ κs a x p. same (λ i. record { report = p.0 i; sent = p.1.1.1.0 i }) (λ i. (tt, (tt, (tt, (tt, ((p.1.0 i).cells, ((p.1.0 i).ident, (p.1.1.0 i, (p.1.1.1.1.0 i, (p.1.1.1.1.1 i, tt))))))))))

pub bench_run_is_our_bench : BenchRunIsOurBench
bench_run_is_our_bench = λ κs a x p. same p.0 (λ i. (tt, (tt, (tt, (tt, ((p.1.0 i).cells, ((p.1.0 i).ident, (p.1.1 i, tt))))))))

pub sapwoodle_deliver_is : SapwoodleDeliverIs
sapwoodle_deliver_is = λ κs a x p. same p.0 (λ i. (tt, (p.1.0 i, (p.1.1.0 i, (p.1.1.1 i, tt)))))

pub sapwoodle_step_is : SapwoodleStepIs
sapwoodle_step_is = λ κs a x p. same p.0 (λ i. (tt, (tt, (tt, (tt, (p.1.0 i, (p.1.1.0 i, (p.1.1.1.0 i, (tt, (p.1.1.1.1.0 i, (p.1.1.1.1.1 i, tt)))))))))))

pub sapwoodle_run_is : SapwoodleRunIs
sapwoodle_run_is = λ κs a x p. same p.0 (λ i. (tt, (tt, (tt, (tt, (p.1.0 i, ((p.1.1.0 i).cells, ((p.1.1.0 i).ident, (tt, (p.1.1.1.0 i, (p.1.1.1.1.0 i, (p.1.1.1.1.1 i, tt))))))))))))

pub sapwoodle_save_is : SapwoodleSaveIs
sapwoodle_save_is = λ κs a x p. same p.0 (λ i. (tt, (tt, (tt, (tt, (p.1.0 i, (p.1.1 i, tt)))))))

pub sapwoodle_load_is : SapwoodleLoadIs
sapwoodle_load_is = λ κs a x p. same p.0 (λ i. (tt, (tt, (p.1.0 i, (p.1.1.0 i, (p.1.1.1.0 i, (p.1.1.1.1 i, tt)))))))

pub sapwoodle_hex_read_is : SapwoodleHexReadIs
sapwoodle_hex_read_is = λ κs a x p. same p.0 (λ i. (tt, (tt, (p.1.0 i, (p.1.1.0 i, (p.1.1.1.0 i, (p.1.1.1.1 i, tt)))))))

pub sapwoodle_hex_write_is : SapwoodleHexWriteIs
sapwoodle_hex_write_is = λ κs a x p. same p.0 (λ i. (tt, (tt, (p.1.0 i, (p.1.1 i, tt)))))

pub sapwoodle_capture_run_is : SapwoodleCaptureRunIs
sapwoodle_capture_run_is = λ κs a x p. same p.0 (λ i. (tt, (tt, (p.1.0 i, ((p.1.1.0 i).cells, ((p.1.1.0 i).ident, (tt, (tt, (p.1.1.1.0 i, (p.1.1.1.1.0 i, (p.1.1.1.1.1.0 i, (p.1.1.1.1.1.1.0 i, (p.1.1.1.1.1.1.1.0 i, (p.1.1.1.1.1.1.1.1.0 i, (p.1.1.1.1.1.1.1.1.1.0 i, (p.1.1.1.1.1.1.1.1.1.1 i, tt))))))))))))))))

pub sapwoodle_capture_events_is : SapwoodleCaptureEventsIs
sapwoodle_capture_events_is = λ κs a x p. same p.0 (λ i. (tt, (tt, (p.1.0 i, (p.1.1.0 i, (p.1.1.1 i, tt))))))

pub sapwoodle_capture_tally_is : SapwoodleCaptureTallyIs
sapwoodle_capture_tally_is = λ κs a x p. same p.0 (λ i. (tt, (tt, (p.1.0 i, (p.1.1.0 i, (p.1.1.1.0 i, (p.1.1.1.1.0 i, (p.1.1.1.1.1 i, tt))))))))

pub sapwoodle_driver_begin_is : SapwoodleDriverBeginIs
sapwoodle_driver_begin_is = λ κs a x p. same p.0 (λ i. (tt, (tt, (tt, (tt, (tt, (tt, (p.1 i, tt))))))))

pub sapwoodle_driver_next_is : SapwoodleDriverNextIs
sapwoodle_driver_next_is = λ κs a x p. same p.0 (λ i. (p.1.0 i, (tt, (p.1.1.0 i, (p.1.1.1.0 i, (p.1.1.1.1.0 i, (p.1.1.1.1.1.0 i, (p.1.1.1.1.1.1 i, tt))))))))

pub sapwoodle_bench_run_is : SapwoodleBenchRunIs
sapwoodle_bench_run_is = λ κs a x p. same p.0 (λ i. (tt, (tt, (tt, (tt, (tt, (tt, (tt, (tt, (p.1.0 i, ((p.1.1.0 i).cells, ((p.1.1.0 i).ident, (p.1.1.1.0 i, (p.1.1.1.1.0 i, (p.1.1.1.1.1.0 i, (p.1.1.1.1.1.1.0 i, (p.1.1.1.1.1.1.1.0 i, (p.1.1.1.1.1.1.1.1 i, tt))))))))))))))))))

pub sapwoodle_trace_is : SapwoodleTraceIs
sapwoodle_trace_is = λ κs a x p. same p.0 (λ i. (tt, (p.1.0 i, (p.1.1 i, tt))))

pub pass_is : PassIs
pass_is = λ κs a x p. same p.0 (λ i. (tt, (tt, (tt, (tt, (tt, (tt, ((p.1.0 i).cells, ((p.1.0 i).ident, (tt, (p.1.1 i, tt)))))))))))

pub mark_is : MarkIs
mark_is = λ κs a x p. same (p.1 ∙ ap (raised_of a.1.1.0.now) p.0) (λ i. (tt, (tt, (p.0 i, tt))))

pub wear_run_is : WearRunIs
wear_run_is = λ κs a x p. same (λ i. record { ran = p.0 i; most = p.1.1.1.1 i }) (λ i. (tt, (tt, (tt, (tt, (tt, ((p.1.0 i).cells, ((p.1.0 i).ident, (p.1.1.1.0 i, (tt, (tt, (p.1.1.0 i, tt))))))))))))

pub wear_go_on_is : WearGoOnIs
wear_go_on_is = λ κs a x p. same (λ i. record { ran = p.0 i; most = (p.1.1.1.1 ∙ ap (raised_of a.1.1.1.1.1.1.1.0.now) p.1.1.1.0) i }) (λ i. (tt, (tt, (tt, (tt, (tt, ((p.1.0 i).cells, ((p.1.0 i).ident, (p.1.1.1.0 i, (tt, (p.1.1.0 i, tt)))))))))))

pub worst_of_is : WorstOfIs
worst_of_is = λ κs a x p. same p refl

pub wear_report_is : WearReportIs
wear_report_is = λ κs a x p. same p refl

pub wear_join_is : WearJoinIs
wear_join_is = λ κs a x p. same p.0 (λ i. (tt, (p.1 i, (tt, tt))))

pub bench_run_worn_is : BenchRunWornIs
bench_run_worn_is = λ κs a x p. same (λ i. record { report = p.0 i; worst = p.1.1.1.1 i }) (λ i. (tt, (tt, (tt, (tt, ((p.1.0 i).cells, ((p.1.0 i).ident, (p.1.1.0 i, (p.1.1.1.0 i, (tt, tt))))))))))

pub sapwoodle_wear_run_is : SapwoodleWearRunIs
sapwoodle_wear_run_is = λ κs a x p. same p.0 (λ i. (tt, (tt, (tt, (tt, (p.1.0 i, ((p.1.1.0 i).cells, ((p.1.1.0 i).ident, (p.1.1.1.0 i, (p.1.1.1.1.1.1.1.0 i, (p.1.1.1.1.1.1.1.1 i, (tt, (p.1.1.1.1.0 i, (p.1.1.1.1.1.0 i, (p.1.1.1.1.1.1.0 i, tt)))))))))))))))

pub sapwoodle_worst_is : SapwoodleWorstIs
sapwoodle_worst_is = λ κs a x p. same p.0 (λ i. (tt, (tt, (p.1.0 i, (p.1.1 i, tt)))))

pub sapwoodle_wear_report_is : SapwoodleWearReportIs
sapwoodle_wear_report_is = λ κs a x p. same p.0 (λ i. (tt, (tt, (p.1.0 i, (p.1.1.0 i, (p.1.1.1 i, tt))))))

pub sapwoodle_wear_join_is : SapwoodleWearJoinIs
sapwoodle_wear_join_is = λ κs a x p. same p.0 (λ i. (tt, (p.1 i, (tt, tt))))

pub sapwoodle_wear_bench_run_is : SapwoodleWearBenchRunIs
sapwoodle_wear_bench_run_is = λ κs a x p. same p.0 (λ i. (tt, (tt, (tt, (tt, (tt, (tt, (tt, (tt, (p.1.0 i, ((p.1.1.0 i).cells, ((p.1.1.0 i).ident, (p.1.1.1.0 i, (p.1.1.1.1.0 i, (p.1.1.1.1.1.1.1.1.1.1.0 i, (p.1.1.1.1.1.1.1.1.1.1.1 i, (p.1.1.1.1.1.0 i, (p.1.1.1.1.1.1.0 i, (p.1.1.1.1.1.1.1.0 i, (p.1.1.1.1.1.1.1.1.0 i, (p.1.1.1.1.1.1.1.1.1.0 i, tt)))))))))))))))))))))

pub save_worn_is : SaveWornIs
save_worn_is = λ κs a x p. same p.0 (λ i. (tt, (tt, (tt, (tt, (tt, (p.1 i, tt)))))))

pub load_worn_is : LoadWornIs
load_worn_is = λ κs a x p. same (λ i. record { loaded = p.0 i; worst = p.1.1.1.1 i }) (λ i. (tt, (tt, (p.1.0 i, (p.1.1.0 i, (p.1.1.1.0 i, tt))))))

pub to_worn_is : ToWornIs
to_worn_is = λ κs a x p. same p.0 (λ i. (tt, (p.1 i, tt)))

pub to_plain_is : ToPlainIs
to_plain_is = λ κs a x p. same p.0 (λ i. (tt, (p.1 i, tt)))

pub sapwoodle_save_worn_is : SapwoodleSaveWornIs
sapwoodle_save_worn_is = λ κs a x p. same p.0 (λ i. (tt, (tt, (tt, (tt, (tt, (p.1.0 i, (p.1.1 i, tt))))))))

pub sapwoodle_load_worn_is : SapwoodleLoadWornIs
sapwoodle_load_worn_is = λ κs a x p. same p.0 (λ i. (tt, (tt, (p.1.0 i, (p.1.1.0 i, (p.1.1.1.0 i, (p.1.1.1.1.0 i, (p.1.1.1.1.1.0 i, (p.1.1.1.1.1.1.0 i, (p.1.1.1.1.1.1.1 i, tt))))))))))

pub sapwoodle_to_worn_is : SapwoodleToWornIs
sapwoodle_to_worn_is = λ κs a x p. same p.0 (λ i. (tt, (p.1.0 i, (p.1.1 i, tt))))

pub sapwoodle_to_plain_is : SapwoodleToPlainIs
sapwoodle_to_plain_is = λ κs a x p. same p.0 (λ i. (tt, (p.1.0 i, (p.1.1 i, tt))))

pub every_machine : EveryMachine
every_machine =
    record {
      deliver = deliver_is;
      step = step_is;
      run = run_is;
      save = save_is;
      load = load_is;
      hex_read = hex_read_is;
      hex_write = hex_write_is;
      capture_run = capture_run_is;
      capture_events = capture_events_is;
      capture_count = count_is;
      trace = trace_is;
      begin = begin_is;
      next = next_is_our_driver;
      bench_record = bench_record_is_our_bench;
      bench_run = bench_run_is_our_bench;
      wear_run = wear_run_is;
      wear_go_on = wear_go_on_is;
      wear_mark = mark_is;
      worst_of = worst_of_is;
      wear_report = wear_report_is;
      wear_join = wear_join_is;
      bench_run_worn = bench_run_worn_is;
      save_worn = save_worn_is;
      load_worn = load_worn_is;
      to_worn = to_worn_is;
      to_plain = to_plain_is;
      sapwoodle_deliver = sapwoodle_deliver_is;
      sapwoodle_step = sapwoodle_step_is;
      sapwoodle_run = sapwoodle_run_is;
      sapwoodle_save = sapwoodle_save_is;
      sapwoodle_load = sapwoodle_load_is;
      sapwoodle_hex_read = sapwoodle_hex_read_is;
      sapwoodle_hex_write = sapwoodle_hex_write_is;
      sapwoodle_capture_run = sapwoodle_capture_run_is;
      sapwoodle_capture_events = sapwoodle_capture_events_is;
      sapwoodle_capture_tally = sapwoodle_capture_tally_is;
      sapwoodle_driver_begin = sapwoodle_driver_begin_is;
      sapwoodle_driver_next = sapwoodle_driver_next_is;
      sapwoodle_bench_run = sapwoodle_bench_run_is;
      sapwoodle_wear_run = sapwoodle_wear_run_is;
      sapwoodle_worst = sapwoodle_worst_is;
      sapwoodle_wear_report = sapwoodle_wear_report_is;
      sapwoodle_wear_join = sapwoodle_wear_join_is;
      sapwoodle_wear_bench_run = sapwoodle_wear_bench_run_is;
      sapwoodle_save_worn = sapwoodle_save_worn_is;
      sapwoodle_load_worn = sapwoodle_load_worn_is;
      sapwoodle_to_worn = sapwoodle_to_worn_is;
      sapwoodle_to_plain = sapwoodle_to_plain_is;
      sapwoodle_trace = sapwoodle_trace_is;
    }
