-- Every contract determines its answer. `p` and `q` are what the contract says of the two answers, one part for each clause, in the
-- clauses' order. What is left is a row of the parameters: what the clause says of one that is lent for a change, `tt` of any other.
-- Assumes nothing.
use mathlib.Core.Path.{refl}
use Rattle.determined.specs.Functions.{
  EveryAnswer,
  ChipPackDetermined,
  ChipHoldsDetermined,
  ChipUnpackDetermined,
  SapwoodleArrayLengthDetermined,
  SapwoodleIdLengthDetermined,
  SapwoodleStateLengthDetermined,
  SapwoodleDriverLengthDetermined,
  SapwoodleDeliverDetermined,
  SapwoodleStepDetermined,
  SapwoodleRunDetermined,
  SapwoodleSaveDetermined,
  SapwoodleLoadDetermined,
  SapwoodleHexReadDetermined,
  SapwoodleHexWriteDetermined,
  SapwoodleCaptureRunDetermined,
  SapwoodleCaptureEventsDetermined,
  SapwoodleCaptureTallyDetermined,
  SapwoodleDriverBeginDetermined,
  SapwoodleDriverNextDetermined,
  SapwoodleBenchRunDetermined,
  SapwoodleTraceDetermined,
  FactsOfDetermined,
  NameOfDetermined,
  IdSizeDetermined,
  BuffersRightDetermined,
  AddressBytesDetermined,
  EnableRightDetermined,
  EventWithDetermined,
  LossSizeDetermined,
  AllBelowDetermined,
  EventRightDetermined,
  FlagDetermined,
  ByteAtDetermined,
  NumberDetermined,
  VerdictNumberDetermined,
  SpotOfDetermined,
  VerdictPlaceDetermined,
  ClaimDetermined,
  SoonerDetermined,
  LentVerdictDetermined,
  LossVerdictDetermined,
  HeldVerdictDetermined,
  TextWideDetermined,
  TextNarrowDetermined,
  TextHexDetermined,
  TextSmallHexDetermined,
  TextWordDetermined,
  TextValueDetermined,
  IsHighDetermined,
  SendDetermined,
  AdvanceDetermined,
  InRangeDetermined,
  StandbyDetermined,
  DeliverDetermined,
  StepDetermined,
  ChipRunDetermined,
  LookRefusalDetermined,
  LookDetermined,
  SaveDetermined,
  LoadDetermined,
  HexReadDetermined,
  HexWriteDetermined,
  ChipSeenDetermined,
  ChipTakeDetermined,
  CaptureJudgeDetermined,
  CaptureRunDetermined,
  CaptureEventsDetermined,
  TalliedByDetermined,
  CountDetermined,
  LinedDetermined,
  DrawDetermined,
  LettersDetermined,
  CodeOfDetermined,
  TraceJudgeDetermined,
  TracePrintDetermined,
  TraceDetermined,
  ExplainDetermined,
  JudgeDetermined,
  FromDetermined,
  AllowedDetermined,
  BeginDetermined,
  NextDetermined,
  BenchRecordDetermined,
  BenchRunDetermined,
  UpDetermined,
  LatchedDetermined,
  PageStartDetermined,
  ClosesDetermined,
  RunVerdictDetermined,
  ChipPassDetermined,
  GroupsDetermined,
  MarkDetermined,
  CountsVerdictDetermined,
  WearRunDetermined,
  WearGoOnDetermined,
  WorstOfDetermined,
  WorseDetermined,
  MostOfDetermined,
  BorneOutDetermined,
  WorstVerdictDetermined,
  WearReportDetermined,
  WearJoinDetermined,
  BenchRunWornDetermined,
  PartsCopyDetermined,
  PartsWordDetermined,
  PartsJoinedDetermined,
  ImageLengthDetermined,
  SaveVerdictDetermined,
  PartInDetermined,
  LockInDetermined,
  FormedDetermined,
  WornLengthDetermined,
  SaveWornDetermined,
  LoadWornDetermined,
  ToWornDetermined,
  ToPlainDetermined,
  SapwoodleSaveWornDetermined,
  SapwoodleLoadWornDetermined,
  SapwoodleToWornDetermined,
  SapwoodleToPlainDetermined,
  SapwoodleGroupsDetermined,
  SapwoodleWearRunDetermined,
  SapwoodleWorstDetermined,
  SapwoodleWearReportDetermined,
  SapwoodleWearJoinDetermined,
  SapwoodleWearBenchRunDetermined,
  DriverPackDetermined,
  DriverUnpackDetermined,
}
use Rattle.determined.proofs.Answers.{agree, same, plainly, of_machine}
use Rattle.determined.proofs.Machines.{deliver_is, step_is, run_is, save_is, load_is, hex_read_is, hex_write_is, capture_run_is, capture_events_is, count_is, trace_is, begin_is, next_is_our_driver, bench_record_is_our_bench, bench_run_is_our_bench, pass_is, mark_is, wear_run_is, wear_go_on_is, worst_of_is, wear_report_is, wear_join_is, bench_run_worn_is, save_worn_is, load_worn_is, to_worn_is, to_plain_is, sapwoodle_save_worn_is, sapwoodle_load_worn_is, sapwoodle_to_worn_is, sapwoodle_to_plain_is, sapwoodle_wear_run_is, sapwoodle_worst_is, sapwoodle_wear_report_is, sapwoodle_wear_join_is, sapwoodle_wear_bench_run_is, sapwoodle_deliver_is, sapwoodle_step_is, sapwoodle_run_is, sapwoodle_save_is, sapwoodle_load_is, sapwoodle_hex_read_is, sapwoodle_hex_write_is, sapwoodle_capture_run_is, sapwoodle_capture_events_is, sapwoodle_capture_tally_is, sapwoodle_driver_begin_is, sapwoodle_driver_next_is, sapwoodle_bench_run_is, sapwoodle_trace_is}

pub facts_of_determined : FactsOfDetermined
facts_of_determined = record { taken = λ κs a. tt; equal = λ κs a x y p q. same (agree p.0 q.0) refl }

pub name_of_determined : NameOfDetermined
name_of_determined = record { taken = λ κs a. tt; equal = λ κs a x y p q. same (agree p.0 q.0) refl }

pub id_size_determined : IdSizeDetermined
id_size_determined = plainly (λ κs a u v. refl)

pub buffers_right_determined : BuffersRightDetermined
buffers_right_determined = plainly (λ κs a u v. refl)

pub address_bytes_determined : AddressBytesDetermined
address_bytes_determined = plainly (λ κs a u v. refl)

pub enable_right_determined : EnableRightDetermined
enable_right_determined = plainly (λ κs a u v. refl)

pub event_with_determined : EventWithDetermined
event_with_determined = plainly (λ κs a u v. refl)

pub loss_size_determined : LossSizeDetermined
loss_size_determined = plainly (λ κs a u v. refl)

pub all_below_determined : AllBelowDetermined
all_below_determined = plainly (λ κs a u v. refl)

pub event_right_determined : EventRightDetermined
event_right_determined = plainly (λ κs a u v. refl)

pub flag_determined : FlagDetermined
flag_determined = plainly (λ κs a u v. refl)

pub byte_at_determined : ByteAtDetermined
byte_at_determined = plainly (λ κs a u v. refl)

pub number_determined : NumberDetermined
number_determined = plainly (λ κs a u v. refl)

pub verdict_number_determined : VerdictNumberDetermined
verdict_number_determined = plainly (λ κs a u v. refl)

pub spot_of_determined : SpotOfDetermined
spot_of_determined = plainly (λ κs a u v. refl)

pub verdict_place_determined : VerdictPlaceDetermined
verdict_place_determined = plainly (λ κs a u v. refl)

pub claim_determined : ClaimDetermined
claim_determined = plainly (λ κs a u v. refl)

pub sooner_determined : SoonerDetermined
sooner_determined = plainly (λ κs a u v. refl)

pub lent_verdict_determined : LentVerdictDetermined
lent_verdict_determined = plainly (λ κs a u v. refl)

pub loss_verdict_determined : LossVerdictDetermined
loss_verdict_determined = plainly (λ κs a u v. refl)

pub held_verdict_determined : HeldVerdictDetermined
held_verdict_determined = plainly (λ κs a u v. refl)

pub text_wide_determined : TextWideDetermined
text_wide_determined = plainly (λ κs a u v. refl)

pub text_narrow_determined : TextNarrowDetermined
text_narrow_determined = plainly (λ κs a u v. refl)

pub text_hex_determined : TextHexDetermined
text_hex_determined = plainly (λ κs a u v. refl)

pub text_small_hex_determined : TextSmallHexDetermined
text_small_hex_determined = plainly (λ κs a u v. refl)

pub text_word_determined : TextWordDetermined
text_word_determined = plainly (λ κs a u v. refl)

pub text_value_determined : TextValueDetermined
text_value_determined = plainly (λ κs a u v. refl)

pub is_high_determined : IsHighDetermined
is_high_determined = plainly (λ κs a u v. refl)

pub send_determined : SendDetermined
send_determined = plainly (λ κs a u v. refl)

pub advance_determined : AdvanceDetermined
advance_determined = plainly (λ κs a u v. refl)

pub in_range_determined : InRangeDetermined
in_range_determined = plainly (λ κs a u v. refl)

pub standby_determined : StandbyDetermined
standby_determined = plainly (λ κs a u v. refl)

pub deliver_determined : DeliverDetermined
deliver_determined = of_machine (λ κs a. tt) deliver_is

pub step_determined : StepDetermined
step_determined = of_machine (λ κs a. tt) step_is

pub chip_run_determined : ChipRunDetermined
chip_run_determined = of_machine (λ κs a. tt) run_is

pub chip_seen_determined : ChipSeenDetermined
chip_seen_determined = plainly (λ κs a u v. refl)

pub chip_take_determined : ChipTakeDetermined
chip_take_determined = record { taken = λ κs a. tt; equal = λ κs a x y p q. same (agree p.0 q.0) (λ i. (tt, (tt, (tt, (agree p.1.0 q.1.0 i, (agree p.1.1 q.1.1 i, (tt, tt))))))) }

pub look_refusal_determined : LookRefusalDetermined
look_refusal_determined = plainly (λ κs a u v. refl)

pub look_determined : LookDetermined
look_determined = record {
  taken = λ κs a. tt;
  equal = λ κs a x y p q. (λ i. record { bytes = agree p.0 q.0 i; place = agree p.1 q.1 i }, refl);
}

pub save_determined : SaveDetermined
save_determined = of_machine (λ κs a. tt) save_is

pub load_determined : LoadDetermined
load_determined = of_machine (λ κs a. tt) load_is

pub hex_read_determined : HexReadDetermined
hex_read_determined = of_machine (λ κs a. tt) hex_read_is

pub hex_write_determined : HexWriteDetermined
hex_write_determined = of_machine (λ κs a. tt) hex_write_is

pub capture_judge_determined : CaptureJudgeDetermined
capture_judge_determined = plainly (λ κs a u v. refl)

pub capture_run_determined : CaptureRunDetermined
capture_run_determined = of_machine (λ κs a. tt) capture_run_is

pub capture_events_determined : CaptureEventsDetermined
capture_events_determined = of_machine (λ κs a. tt) capture_events_is

pub tallied_by_determined : TalliedByDetermined
tallied_by_determined = plainly (λ κs a u v. refl)

pub count_determined : CountDetermined
count_determined = of_machine (λ κs a. tt) count_is

pub lined_determined : LinedDetermined
lined_determined = plainly (λ κs a u v. refl)

pub draw_determined : DrawDetermined
draw_determined = plainly (λ κs a u v. refl)

pub letters_determined : LettersDetermined
letters_determined = record {
  taken = λ κs a. tt;
  equal = λ κs a x y p q. (λ i. record { bytes = agree p.0 q.0 i; place = agree p.1 q.1 i }, refl);
}

pub code_of_determined : CodeOfDetermined
code_of_determined = plainly (λ κs a u v. refl)

pub trace_judge_determined : TraceJudgeDetermined
trace_judge_determined = plainly (λ κs a u v. refl)

pub trace_print_determined : TracePrintDetermined
trace_print_determined = record {
  taken = λ κs a. tt;
  equal = λ κs a x y p q. same (agree p.0 q.0)
      (λ i. (tt, (tt, (tt, (tt, (agree p.1 q.1 i, tt))))));
}

pub trace_determined : TraceDetermined
trace_determined = of_machine (λ κs a. tt) trace_is

pub explain_determined : ExplainDetermined
explain_determined = record {
  taken = λ κs a. tt;
  equal = λ κs a x y p q. same (agree p.0 q.0)
      (λ i. (tt, (tt, (agree p.1 q.1 i, tt))));
}

pub judge_determined : JudgeDetermined
judge_determined = plainly (λ κs a u v. refl)

pub from_determined : FromDetermined
from_determined = plainly (λ κs a u v. refl)

pub allowed_determined : AllowedDetermined
allowed_determined = plainly (λ κs a u v. refl)

pub begin_determined : BeginDetermined
begin_determined = of_machine (λ κs a. tt) begin_is

pub next_determined : NextDetermined
next_determined = of_machine (λ κs a. tt) next_is_our_driver

pub bench_record_determined : BenchRecordDetermined
bench_record_determined = of_machine (λ κs a. tt) bench_record_is_our_bench

pub bench_run_determined : BenchRunDetermined
bench_run_determined = of_machine (λ κs a. tt) bench_run_is_our_bench

pub driver_pack_determined : DriverPackDetermined
driver_pack_determined = record {
  taken = λ κs a. tt;
  equal = λ κs a x y p q. same (agree p.0 q.0)
      (λ i. (tt, (agree p.1 q.1 i, tt)));
}

pub driver_unpack_determined : DriverUnpackDetermined
driver_unpack_determined = plainly (λ κs a u v. refl)

pub chip_pack_determined : ChipPackDetermined
chip_pack_determined = record {
  taken = λ κs a. tt;
  equal = λ κs a x y p q. same (agree p.0 q.0)
      (λ i. (tt, (agree p.1 q.1 i, tt)));
}

pub chip_holds_determined : ChipHoldsDetermined
chip_holds_determined = plainly (λ κs a u v. refl)

pub chip_unpack_determined : ChipUnpackDetermined
chip_unpack_determined = plainly (λ κs a u v. refl)

pub sapwoodle_array_length_determined : SapwoodleArrayLengthDetermined
sapwoodle_array_length_determined = plainly (λ κs a u v. refl)

pub sapwoodle_id_length_determined : SapwoodleIdLengthDetermined
sapwoodle_id_length_determined = plainly (λ κs a u v. refl)

pub sapwoodle_state_length_determined : SapwoodleStateLengthDetermined
sapwoodle_state_length_determined = plainly (λ κs a u v. refl)

pub sapwoodle_driver_length_determined : SapwoodleDriverLengthDetermined
sapwoodle_driver_length_determined = plainly (λ κs a u v. refl)

pub sapwoodle_deliver_determined : SapwoodleDeliverDetermined
sapwoodle_deliver_determined = of_machine (λ κs a. tt) sapwoodle_deliver_is

pub sapwoodle_step_determined : SapwoodleStepDetermined
sapwoodle_step_determined = of_machine (λ κs a. tt) sapwoodle_step_is

pub sapwoodle_run_determined : SapwoodleRunDetermined
sapwoodle_run_determined = of_machine (λ κs a. tt) sapwoodle_run_is

pub sapwoodle_save_determined : SapwoodleSaveDetermined
sapwoodle_save_determined = of_machine (λ κs a. tt) sapwoodle_save_is

pub sapwoodle_load_determined : SapwoodleLoadDetermined
sapwoodle_load_determined = of_machine (λ κs a. tt) sapwoodle_load_is

pub sapwoodle_hex_read_determined : SapwoodleHexReadDetermined
sapwoodle_hex_read_determined = of_machine (λ κs a. tt) sapwoodle_hex_read_is

pub sapwoodle_hex_write_determined : SapwoodleHexWriteDetermined
sapwoodle_hex_write_determined = of_machine (λ κs a. tt) sapwoodle_hex_write_is

pub sapwoodle_capture_run_determined : SapwoodleCaptureRunDetermined
sapwoodle_capture_run_determined = of_machine (λ κs a. tt) sapwoodle_capture_run_is

pub sapwoodle_capture_events_determined : SapwoodleCaptureEventsDetermined
sapwoodle_capture_events_determined = of_machine (λ κs a. tt) sapwoodle_capture_events_is

pub sapwoodle_capture_tally_determined : SapwoodleCaptureTallyDetermined
sapwoodle_capture_tally_determined = of_machine (λ κs a. tt) sapwoodle_capture_tally_is

pub sapwoodle_driver_begin_determined : SapwoodleDriverBeginDetermined
sapwoodle_driver_begin_determined = of_machine (λ κs a. tt) sapwoodle_driver_begin_is

pub sapwoodle_driver_next_determined : SapwoodleDriverNextDetermined
sapwoodle_driver_next_determined = of_machine (λ κs a. tt) sapwoodle_driver_next_is

pub sapwoodle_bench_run_determined : SapwoodleBenchRunDetermined
sapwoodle_bench_run_determined = of_machine (λ κs a. tt) sapwoodle_bench_run_is

pub sapwoodle_trace_determined : SapwoodleTraceDetermined
sapwoodle_trace_determined = of_machine (λ κs a. tt) sapwoodle_trace_is

pub up_determined : UpDetermined
up_determined = plainly (λ κs a u v. refl)

pub latched_determined : LatchedDetermined
latched_determined = plainly (λ κs a u v. refl)

pub page_start_determined : PageStartDetermined
page_start_determined = record { taken = λ κs a. tt; equal = λ κs a x y p q. same (agree p.0 q.0) refl }

pub closes_determined : ClosesDetermined
closes_determined = plainly (λ κs a u v. refl)

pub run_verdict_determined : RunVerdictDetermined
run_verdict_determined = plainly (λ κs a u v. refl)

pub chip_pass_determined : ChipPassDetermined
chip_pass_determined = of_machine (λ κs a. tt) pass_is

pub groups_determined : GroupsDetermined
groups_determined = plainly (λ κs a u v. refl)

pub mark_determined : MarkDetermined
mark_determined = of_machine (λ κs a. tt) mark_is

pub counts_verdict_determined : CountsVerdictDetermined
counts_verdict_determined = plainly (λ κs a u v. refl)

pub wear_run_determined : WearRunDetermined
wear_run_determined = of_machine (λ κs a. tt) wear_run_is

pub wear_go_on_determined : WearGoOnDetermined
wear_go_on_determined = of_machine (λ κs a. tt) wear_go_on_is

pub worst_of_determined : WorstOfDetermined
worst_of_determined = of_machine (λ κs a. tt) worst_of_is

pub worse_determined : WorseDetermined
worse_determined = plainly (λ κs a u v. refl)

pub most_of_determined : MostOfDetermined
most_of_determined = plainly (λ κs a u v. refl)

pub borne_out_determined : BorneOutDetermined
borne_out_determined = plainly (λ κs a u v. refl)

pub worst_verdict_determined : WorstVerdictDetermined
worst_verdict_determined = plainly (λ κs a u v. refl)

pub wear_report_determined : WearReportDetermined
wear_report_determined = of_machine (λ κs a. tt) wear_report_is

pub wear_join_determined : WearJoinDetermined
wear_join_determined = of_machine (λ κs a. tt) wear_join_is

pub bench_run_worn_determined : BenchRunWornDetermined
bench_run_worn_determined = of_machine (λ κs a. tt) bench_run_worn_is

pub sapwoodle_groups_determined : SapwoodleGroupsDetermined
sapwoodle_groups_determined = plainly (λ κs a u v. refl)

pub sapwoodle_wear_run_determined : SapwoodleWearRunDetermined
sapwoodle_wear_run_determined = of_machine (λ κs a. tt) sapwoodle_wear_run_is

pub sapwoodle_worst_determined : SapwoodleWorstDetermined
sapwoodle_worst_determined = of_machine (λ κs a. tt) sapwoodle_worst_is

pub sapwoodle_wear_report_determined : SapwoodleWearReportDetermined
sapwoodle_wear_report_determined = of_machine (λ κs a. tt) sapwoodle_wear_report_is

pub sapwoodle_wear_join_determined : SapwoodleWearJoinDetermined
sapwoodle_wear_join_determined = of_machine (λ κs a. tt) sapwoodle_wear_join_is

pub sapwoodle_wear_bench_run_determined : SapwoodleWearBenchRunDetermined
sapwoodle_wear_bench_run_determined = of_machine (λ κs a. tt) sapwoodle_wear_bench_run_is

pub parts_copy_determined : PartsCopyDetermined
parts_copy_determined = record { taken = λ κs a. tt; equal = λ κs a x y p q. same refl (λ i. (agree p q i, (tt, (tt, tt)))) }

pub parts_word_determined : PartsWordDetermined
parts_word_determined = plainly (λ κs a u v. refl)

pub parts_joined_determined : PartsJoinedDetermined
parts_joined_determined = record { taken = λ κs a. tt; equal = λ κs a x y p q. same (agree p.0 q.0) refl }

pub image_length_determined : ImageLengthDetermined
image_length_determined = plainly (λ κs a u v. refl)

pub save_verdict_determined : SaveVerdictDetermined
save_verdict_determined = plainly (λ κs a u v. refl)

pub part_in_determined : PartInDetermined
part_in_determined = plainly (λ κs a u v. refl)

pub lock_in_determined : LockInDetermined
lock_in_determined = plainly (λ κs a u v. refl)

pub formed_determined : FormedDetermined
formed_determined = plainly (λ κs a u v. refl)

pub worn_length_determined : WornLengthDetermined
worn_length_determined = plainly (λ κs a u v. refl)

pub save_worn_determined : SaveWornDetermined
save_worn_determined = of_machine (λ κs a. tt) save_worn_is

pub load_worn_determined : LoadWornDetermined
load_worn_determined = of_machine (λ κs a. tt) load_worn_is

pub to_worn_determined : ToWornDetermined
to_worn_determined = of_machine (λ κs a. tt) to_worn_is

pub to_plain_determined : ToPlainDetermined
to_plain_determined = of_machine (λ κs a. tt) to_plain_is

pub sapwoodle_save_worn_determined : SapwoodleSaveWornDetermined
sapwoodle_save_worn_determined = of_machine (λ κs a. tt) sapwoodle_save_worn_is

pub sapwoodle_load_worn_determined : SapwoodleLoadWornDetermined
sapwoodle_load_worn_determined = of_machine (λ κs a. tt) sapwoodle_load_worn_is

pub sapwoodle_to_worn_determined : SapwoodleToWornDetermined
sapwoodle_to_worn_determined = of_machine (λ κs a. tt) sapwoodle_to_worn_is

pub sapwoodle_to_plain_determined : SapwoodleToPlainDetermined
sapwoodle_to_plain_determined = of_machine (λ κs a. tt) sapwoodle_to_plain_is

pub every_answer : EveryAnswer
every_answer =
    record {
      deliver = deliver_determined;
      step = step_determined;
      run = chip_run_determined;
      look = look_determined;
      save = save_determined;
      load = load_determined;
      hex_read = hex_read_determined;
      hex_write = hex_write_determined;
      capture_run = capture_run_determined;
      capture_events = capture_events_determined;
      capture_count = count_determined;
      trace = trace_determined;
      begin = begin_determined;
      next = next_determined;
      bench_record = bench_record_determined;
      bench_run = bench_run_determined;
      wear_run = wear_run_determined;
      wear_go_on = wear_go_on_determined;
      wear_mark = mark_determined;
      worst_of = worst_of_determined;
      wear_report = wear_report_determined;
      wear_join = wear_join_determined;
      bench_run_worn = bench_run_worn_determined;
      save_worn = save_worn_determined;
      load_worn = load_worn_determined;
      to_worn = to_worn_determined;
      to_plain = to_plain_determined;
      sapwoodle_deliver = sapwoodle_deliver_determined;
      sapwoodle_step = sapwoodle_step_determined;
      sapwoodle_run = sapwoodle_run_determined;
      sapwoodle_save = sapwoodle_save_determined;
      sapwoodle_load = sapwoodle_load_determined;
      sapwoodle_hex_read = sapwoodle_hex_read_determined;
      sapwoodle_hex_write = sapwoodle_hex_write_determined;
      sapwoodle_capture_run = sapwoodle_capture_run_determined;
      sapwoodle_capture_events = sapwoodle_capture_events_determined;
      sapwoodle_capture_tally = sapwoodle_capture_tally_determined;
      sapwoodle_driver_begin = sapwoodle_driver_begin_determined;
      sapwoodle_driver_next = sapwoodle_driver_next_determined;
      sapwoodle_bench_run = sapwoodle_bench_run_determined;
      sapwoodle_groups = sapwoodle_groups_determined;
      sapwoodle_wear_run = sapwoodle_wear_run_determined;
      sapwoodle_worst = sapwoodle_worst_determined;
      sapwoodle_wear_report = sapwoodle_wear_report_determined;
      sapwoodle_wear_join = sapwoodle_wear_join_determined;
      sapwoodle_wear_bench_run = sapwoodle_wear_bench_run_determined;
      sapwoodle_save_worn = sapwoodle_save_worn_determined;
      sapwoodle_load_worn = sapwoodle_load_worn_determined;
      sapwoodle_to_worn = sapwoodle_to_worn_determined;
      sapwoodle_to_plain = sapwoodle_to_plain_determined;
      sapwoodle_trace = sapwoodle_trace_determined;
    }
