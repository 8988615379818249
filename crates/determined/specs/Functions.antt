-- For each public function of each library: its contract determines the answer, on every input (`Determined`). The contract is the
-- function's own, as it stands in src/: nothing of it is copied here, and a clause that is weakened there is weakened here.
-- Assumes nothing.
use Rattle.parts.specs.contracts.facts_of as facts_of
use Rattle.parts.proofs.facts_of.Reads as facts_of_reads
use Rattle.parts.specs.contracts.name_of as name_of
use Rattle.parts.proofs.name_of.Reads as name_of_reads
use Rattle.parts.specs.contracts.id_size as id_size
use Rattle.parts.proofs.id_size.Reads as id_size_reads
use Rattle.parts.specs.contracts.buffers_right as buffers_right
use Rattle.parts.proofs.buffers_right.Reads as buffers_right_reads
use Rattle.parts.specs.contracts.address_bytes as address_bytes
use Rattle.parts.proofs.address_bytes.Reads as address_bytes_reads
use Rattle.parts.specs.contracts.enable_right as enable_right
use Rattle.parts.proofs.enable_right.Reads as enable_right_reads
use Rattle.parts.specs.contracts.event_with as event_with
use Rattle.parts.proofs.event_with.Reads as event_with_reads
use Rattle.parts.specs.contracts.event_right as event_right
use Rattle.parts.proofs.event_right.Reads as event_right_reads
use Rattle.parts.specs.contracts.loss_size as loss_size
use Rattle.parts.proofs.loss_size.Reads as loss_size_reads
use Rattle.parts.specs.contracts.all_below as all_below
use Rattle.parts.proofs.all_below.Reads as all_below_reads
use Rattle.parts.specs.contracts.flag as flag
use Rattle.parts.proofs.flag.Reads as flag_reads
use Rattle.parts.specs.contracts.byte_at as byte_at
use Rattle.parts.proofs.byte_at.Reads as byte_at_reads
use Rattle.parts.specs.contracts.copy as parts_copy
use Rattle.parts.proofs.copy.Reads as parts_copy_reads
use Rattle.parts.specs.contracts.word as parts_word
use Rattle.parts.proofs.word.Reads as parts_word_reads
use Rattle.parts.specs.contracts.joined as parts_joined
use Rattle.parts.proofs.joined.Reads as parts_joined_reads
use Rattle.parts.specs.contracts.number as number
use Rattle.parts.proofs.number.Reads as number_reads
use Rattle.parts.specs.contracts.verdict_number as verdict_number
use Rattle.parts.proofs.verdict_number.Reads as verdict_number_reads
use Rattle.parts.specs.contracts.spot_of as spot_of
use Rattle.parts.proofs.spot_of.Reads as spot_of_reads
use Rattle.parts.specs.contracts.verdict_place as verdict_place
use Rattle.parts.proofs.verdict_place.Reads as verdict_place_reads
use Rattle.parts.specs.contracts.claim as claim
use Rattle.parts.proofs.claim.Reads as claim_reads
use Rattle.parts.specs.contracts.sooner as sooner
use Rattle.parts.proofs.sooner.Reads as sooner_reads
use Rattle.parts.specs.contracts.lent_verdict as lent_verdict
use Rattle.parts.proofs.lent_verdict.Reads as lent_verdict_reads
use Rattle.parts.specs.contracts.loss_verdict as loss_verdict
use Rattle.parts.proofs.loss_verdict.Reads as loss_verdict_reads
use Rattle.parts.specs.contracts.up as up
use Rattle.parts.proofs.up.Reads as up_reads
use Rattle.text.specs.contracts.wide as text_wide
use Rattle.text.proofs.wide.Reads as text_wide_reads
use Rattle.text.specs.contracts.narrow as text_narrow
use Rattle.text.proofs.narrow.Reads as text_narrow_reads
use Rattle.text.specs.contracts.hex as text_hex
use Rattle.text.proofs.hex.Reads as text_hex_reads
use Rattle.text.specs.contracts.small_hex as text_small_hex
use Rattle.text.proofs.small_hex.Reads as text_small_hex_reads
use Rattle.text.specs.contracts.word as text_word
use Rattle.text.proofs.word.Reads as text_word_reads
use Rattle.text.specs.contracts.value as text_value
use Rattle.text.proofs.value.Reads as text_value_reads
use Rattle.line.specs.contracts.is_high as is_high
use Rattle.line.proofs.is_high.Reads as is_high_reads
use Rattle.line.specs.contracts.send as send
use Rattle.line.proofs.send.Reads as send_reads
use Rattle.line.specs.contracts.advance as advance
use Rattle.line.proofs.advance.Reads as advance_reads
use Rattle.state.specs.contracts.in_range as in_range
use Rattle.state.proofs.in_range.Reads as in_range_reads
use Rattle.chip.specs.contracts.held_verdict as held_verdict
use Rattle.chip.proofs.held_verdict.Reads as held_verdict_reads
use Rattle.chip.specs.contracts.standby as standby
use Rattle.chip.proofs.standby.Reads as standby_reads
use Rattle.chip.specs.contracts.deliver as deliver
use Rattle.chip.proofs.deliver.Reads as deliver_reads
use Rattle.chip.specs.contracts.step as step
use Rattle.chip.proofs.step.Reads as step_reads
use Rattle.chip.specs.contracts.run as chip_run
use Rattle.chip.proofs.run.Reads as chip_run_reads
use Rattle.chip.specs.contracts.seen as chip_seen
use Rattle.chip.proofs.seen.Reads as chip_seen_reads
use Rattle.chip.specs.contracts.take as chip_take
use Rattle.chip.proofs.take.Reads as chip_take_reads
use Rattle.chip.specs.contracts.latched as latched
use Rattle.chip.proofs.latched.Reads as latched_reads
use Rattle.chip.specs.contracts.page_start as page_start
use Rattle.chip.proofs.page_start.Reads as page_start_reads
use Rattle.chip.specs.contracts.closes as closes
use Rattle.chip.proofs.closes.Reads as closes_reads
use Rattle.chip.specs.contracts.run_verdict as run_verdict
use Rattle.chip.proofs.run_verdict.Reads as run_verdict_reads
use Rattle.chip.specs.contracts.pass as chip_pass
use Rattle.chip.proofs.pass.Reads as chip_pass_reads
use Rattle.wear.specs.contracts.groups as groups
use Rattle.wear.proofs.groups.Reads as groups_reads
use Rattle.wear.specs.contracts.mark as mark
use Rattle.wear.proofs.mark.Reads as mark_reads
use Rattle.wear.specs.contracts.counts_verdict as counts_verdict
use Rattle.wear.proofs.counts_verdict.Reads as counts_verdict_reads
use Rattle.wear.specs.contracts.run as wear_run
use Rattle.wear.proofs.run.Reads as wear_run_reads
use Rattle.wear.specs.contracts.go_on as wear_go_on
use Rattle.wear.proofs.go_on.Reads as wear_go_on_reads
use Rattle.wear.specs.contracts.worst_of as worst_of
use Rattle.wear.proofs.worst_of.Reads as worst_of_reads
use Rattle.wear.specs.contracts.worst.worse as worse
use Rattle.wear.proofs.worst.worse.Reads as worse_reads
use Rattle.wear.specs.contracts.worst.most_of as most_of
use Rattle.wear.proofs.worst.most_of.Reads as most_of_reads
use Rattle.wear.specs.contracts.worst.borne_out as borne_out
use Rattle.wear.proofs.worst.borne_out.Reads as borne_out_reads
use Rattle.wear.specs.contracts.worst.verdict as worst_verdict
use Rattle.wear.proofs.worst.verdict.Reads as worst_verdict_reads
use Rattle.wear.specs.contracts.report as wear_report
use Rattle.wear.proofs.report.Reads as wear_report_reads
use Rattle.wear.specs.contracts.join as wear_join
use Rattle.wear.proofs.join.Reads as wear_join_reads
use Rattle.page.specs.contracts.look_refusal as look_refusal
use Rattle.page.proofs.look_refusal.Reads as look_refusal_reads
use Rattle.page.specs.contracts.look as look
use Rattle.page.proofs.look.Reads as look_reads
use Rattle.image.specs.contracts.save as save
use Rattle.image.proofs.save.Reads as save_reads
use Rattle.image.specs.contracts.load as load
use Rattle.image.proofs.load.Reads as load_reads
use Rattle.image.specs.contracts.image_length as image_length
use Rattle.image.proofs.image_length.Reads as image_length_reads
use Rattle.image.specs.contracts.save_verdict as save_verdict
use Rattle.image.proofs.save_verdict.Reads as save_verdict_reads
use Rattle.image.specs.contracts.part_in as part_in
use Rattle.image.proofs.part_in.Reads as part_in_reads
use Rattle.image.specs.contracts.lock_in as lock_in
use Rattle.image.proofs.lock_in.Reads as lock_in_reads
use Rattle.image.specs.contracts.formed as formed
use Rattle.image.proofs.formed.Reads as formed_reads
use Rattle.image_worn.specs.contracts.worn_length as worn_length
use Rattle.image_worn.proofs.worn_length.Reads as worn_length_reads
use Rattle.image_worn.specs.contracts.save_worn as save_worn
use Rattle.image_worn.proofs.save_worn.Reads as save_worn_reads
use Rattle.image_worn.specs.contracts.load_worn as load_worn
use Rattle.image_worn.proofs.load_worn.Reads as load_worn_reads
use Rattle.image_worn.specs.contracts.to_worn as to_worn
use Rattle.image_worn.proofs.to_worn.Reads as to_worn_reads
use Rattle.image_worn.specs.contracts.to_plain as to_plain
use Rattle.image_worn.proofs.to_plain.Reads as to_plain_reads
use Rattle.hexfile.specs.contracts.read as hex_read
use Rattle.hexfile.proofs.read.Reads as hex_read_reads
use Rattle.hexfile.specs.contracts.write as hex_write
use Rattle.hexfile.proofs.write.Reads as hex_write_reads
use Rattle.capture.specs.contracts.judge as capture_judge
use Rattle.capture.proofs.judge.Reads as capture_judge_reads
use Rattle.capture.specs.contracts.run as capture_run
use Rattle.capture.proofs.run.Reads as capture_run_reads
use Rattle.capture.specs.contracts.events as capture_events
use Rattle.capture.proofs.events.Reads as capture_events_reads
use Rattle.capture.specs.contracts.tallied_by as tallied_by
use Rattle.capture.proofs.tallied_by.Reads as tallied_by_reads
use Rattle.capture.specs.contracts.count as count
use Rattle.capture.specs.contracts.lined as lined
use Rattle.capture.proofs.lined.Reads as lined_reads
use Rattle.capture.specs.contracts.draw as draw
use Rattle.capture.proofs.draw.Reads as draw_reads
use Rattle.trace.specs.contracts.letters as letters
use Rattle.trace.proofs.letters.Reads as letters_reads
use Rattle.trace.specs.contracts.code_of as code_of
use Rattle.trace.proofs.code_of.Reads as code_of_reads
use Rattle.trace.specs.contracts.judge as trace_judge
use Rattle.trace.proofs.judge.Reads as trace_judge_reads
use Rattle.trace.specs.contracts.print as trace_print
use Rattle.trace.proofs.print.Reads as trace_print_reads
use Rattle.trace.specs.contracts.trace as trace
use Rattle.trace.proofs.trace.Reads as trace_reads
use Rattle.explain.specs.contracts.explain as explain
use Rattle.explain.proofs.explain.Reads as explain_reads
use Rattle.driver.specs.contracts.judge as judge
use Rattle.driver.proofs.judge.Reads as judge_reads
use Rattle.driver.specs.contracts.from as from
use Rattle.driver.proofs.from.Reads as from_reads
use Rattle.driver.specs.contracts.allowed as allowed
use Rattle.driver.proofs.allowed.Reads as allowed_reads
use Rattle.driver.specs.contracts.begin as begin
use Rattle.driver.proofs.begin.Reads as begin_reads
use Rattle.driver.specs.contracts.next as next
use Rattle.driver.proofs.next.Reads as next_reads
use Rattle.bench.specs.contracts.record as bench_record
use Rattle.bench.proofs.record.Reads as bench_record_reads
use Rattle.bench.specs.contracts.run as bench_run
use Rattle.bench.proofs.run.Reads as bench_run_reads
use Rattle.bench.specs.contracts.run_worn as bench_run_worn
use Rattle.bench.proofs.run_worn.Reads as bench_run_worn_reads
use Rattle.pack_driver.specs.contracts.pack as driver_pack
use Rattle.pack_driver.proofs.pack.Reads as driver_pack_reads
use Rattle.pack_driver.specs.contracts.unpack as driver_unpack
use Rattle.pack_driver.proofs.unpack.Reads as driver_unpack_reads
use Rattle.pack_chip.specs.contracts.pack as chip_pack
use Rattle.pack_chip.proofs.pack.Reads as chip_pack_reads
use Rattle.pack_chip.specs.contracts.holds as chip_holds
use Rattle.pack_chip.proofs.holds.Reads as chip_holds_reads
use Rattle.pack_chip.specs.contracts.unpack as chip_unpack
use Rattle.pack_chip.proofs.unpack.Reads as chip_unpack_reads
use Rattle.sapwoodle.specs.contracts.sapwoodle_array_length as sapwoodle_array_length
use Rattle.sapwoodle.proofs.sapwoodle_array_length.Reads as sapwoodle_array_length_reads
use Rattle.sapwoodle.specs.contracts.sapwoodle_id_length as sapwoodle_id_length
use Rattle.sapwoodle.proofs.sapwoodle_id_length.Reads as sapwoodle_id_length_reads
use Rattle.sapwoodle.specs.contracts.sapwoodle_state_length as sapwoodle_state_length
use Rattle.sapwoodle.proofs.sapwoodle_state_length.Reads as sapwoodle_state_length_reads
use Rattle.sapwoodle.specs.contracts.sapwoodle_driver_length as sapwoodle_driver_length
use Rattle.sapwoodle.proofs.sapwoodle_driver_length.Reads as sapwoodle_driver_length_reads
use Rattle.sapwoodle.specs.contracts.chips.sapwoodle_deliver as sapwoodle_deliver
use Rattle.sapwoodle.proofs.chips.sapwoodle_deliver.Reads as sapwoodle_deliver_reads
use Rattle.sapwoodle.specs.contracts.chips.sapwoodle_step as sapwoodle_step
use Rattle.sapwoodle.proofs.chips.sapwoodle_step.Reads as sapwoodle_step_reads
use Rattle.sapwoodle.specs.contracts.chips.sapwoodle_run as sapwoodle_run
use Rattle.sapwoodle.proofs.chips.sapwoodle_run.Reads as sapwoodle_run_reads
use Rattle.sapwoodle.specs.contracts.images.sapwoodle_save as sapwoodle_save
use Rattle.sapwoodle.proofs.images.sapwoodle_save.Reads as sapwoodle_save_reads
use Rattle.sapwoodle.specs.contracts.images.sapwoodle_load as sapwoodle_load
use Rattle.sapwoodle.proofs.images.sapwoodle_load.Reads as sapwoodle_load_reads
use Rattle.sapwoodle.specs.contracts.hexes.sapwoodle_hex_read as sapwoodle_hex_read
use Rattle.sapwoodle.proofs.hexes.sapwoodle_hex_read.Reads as sapwoodle_hex_read_reads
use Rattle.sapwoodle.specs.contracts.hexes.sapwoodle_hex_write as sapwoodle_hex_write
use Rattle.sapwoodle.proofs.hexes.sapwoodle_hex_write.Reads as sapwoodle_hex_write_reads
use Rattle.sapwoodle.specs.contracts.captures.sapwoodle_capture_run as sapwoodle_capture_run
use Rattle.sapwoodle.proofs.captures.sapwoodle_capture_run.Reads as sapwoodle_capture_run_reads
use Rattle.sapwoodle.specs.contracts.captures.sapwoodle_capture_events as sapwoodle_capture_events
use Rattle.sapwoodle.proofs.captures.sapwoodle_capture_events.Reads as sapwoodle_capture_events_reads
use Rattle.sapwoodle.specs.contracts.captures.sapwoodle_capture_tally as sapwoodle_capture_tally
use Rattle.sapwoodle.proofs.captures.sapwoodle_capture_tally.Reads as sapwoodle_capture_tally_reads
use Rattle.sapwoodle.specs.contracts.drivers.sapwoodle_driver_begin as sapwoodle_driver_begin
use Rattle.sapwoodle.proofs.drivers.sapwoodle_driver_begin.Reads as sapwoodle_driver_begin_reads
use Rattle.sapwoodle.specs.contracts.drivers.sapwoodle_driver_next as sapwoodle_driver_next
use Rattle.sapwoodle.proofs.drivers.sapwoodle_driver_next.Reads as sapwoodle_driver_next_reads
use Rattle.sapwoodle.specs.contracts.runs.sapwoodle_bench_run as sapwoodle_bench_run
use Rattle.sapwoodle.proofs.runs.sapwoodle_bench_run.Reads as sapwoodle_bench_run_reads
use Rattle.sapwoodle.specs.contracts.wears.sapwoodle_groups as sapwoodle_groups
use Rattle.sapwoodle.proofs.wears.sapwoodle_groups.Reads as sapwoodle_groups_reads
use Rattle.sapwoodle.specs.contracts.wears.sapwoodle_wear_run as sapwoodle_wear_run
use Rattle.sapwoodle.proofs.wears.sapwoodle_wear_run.Reads as sapwoodle_wear_run_reads
use Rattle.sapwoodle.specs.contracts.wears.sapwoodle_worst as sapwoodle_worst
use Rattle.sapwoodle.proofs.wears.sapwoodle_worst.Reads as sapwoodle_worst_reads
use Rattle.sapwoodle.specs.contracts.wears.sapwoodle_wear_report as sapwoodle_wear_report
use Rattle.sapwoodle.proofs.wears.sapwoodle_wear_report.Reads as sapwoodle_wear_report_reads
use Rattle.sapwoodle.specs.contracts.wears.sapwoodle_wear_join as sapwoodle_wear_join
use Rattle.sapwoodle.proofs.wears.sapwoodle_wear_join.Reads as sapwoodle_wear_join_reads
use Rattle.sapwoodle.specs.contracts.wears.sapwoodle_wear_bench_run as sapwoodle_wear_bench_run
use Rattle.sapwoodle.proofs.wears.sapwoodle_wear_bench_run.Reads as sapwoodle_wear_bench_run_reads
use Rattle.sapwoodle.specs.contracts.worns.sapwoodle_save_worn as sapwoodle_save_worn
use Rattle.sapwoodle.proofs.worns.sapwoodle_save_worn.Reads as sapwoodle_save_worn_reads
use Rattle.sapwoodle.specs.contracts.worns.sapwoodle_load_worn as sapwoodle_load_worn
use Rattle.sapwoodle.proofs.worns.sapwoodle_load_worn.Reads as sapwoodle_load_worn_reads
use Rattle.sapwoodle.specs.contracts.worns.sapwoodle_to_worn as sapwoodle_to_worn
use Rattle.sapwoodle.proofs.worns.sapwoodle_to_worn.Reads as sapwoodle_to_worn_reads
use Rattle.sapwoodle.specs.contracts.worns.sapwoodle_to_plain as sapwoodle_to_plain
use Rattle.sapwoodle.proofs.worns.sapwoodle_to_plain.Reads as sapwoodle_to_plain_reads
use Rattle.sapwoodle.specs.contracts.sapwoodle_trace as sapwoodle_trace
use Rattle.sapwoodle.proofs.sapwoodle_trace.Reads as sapwoodle_trace_reads
use Rattle.determined.specs.Walked.{CountAsked, CountLearnt}
use Rattle.determined.specs.Determined.{Determined, DeterminedAs, part}

-- ---- parts

abbrev pub FactsOfDetermined : Type 0
FactsOfDetermined = Determined facts_of.ended facts_of_reads.Asked facts_of_reads.Learnt

abbrev pub NameOfDetermined : Type 0
NameOfDetermined = Determined name_of.ended name_of_reads.Asked name_of_reads.Learnt

abbrev pub IdSizeDetermined : Type 0
IdSizeDetermined = Determined id_size.ended id_size_reads.Asked id_size_reads.Learnt

abbrev pub BuffersRightDetermined : Type 0
BuffersRightDetermined = Determined buffers_right.ended buffers_right_reads.Asked buffers_right_reads.Learnt

abbrev pub AddressBytesDetermined : Type 0
AddressBytesDetermined = Determined address_bytes.ended address_bytes_reads.Asked address_bytes_reads.Learnt

abbrev pub EnableRightDetermined : Type 0
EnableRightDetermined = Determined enable_right.ended enable_right_reads.Asked enable_right_reads.Learnt

abbrev pub EventWithDetermined : Type 0
EventWithDetermined = Determined event_with.ended event_with_reads.Asked event_with_reads.Learnt

abbrev pub LossSizeDetermined : Type 0
LossSizeDetermined = Determined loss_size.ended loss_size_reads.Asked loss_size_reads.Learnt

abbrev pub AllBelowDetermined : Type 0
AllBelowDetermined = Determined all_below.ended all_below_reads.Asked all_below_reads.Learnt

abbrev pub EventRightDetermined : Type 0
EventRightDetermined = Determined event_right.ended event_right_reads.Asked event_right_reads.Learnt

abbrev pub FlagDetermined : Type 0
FlagDetermined = Determined flag.ended flag_reads.Asked flag_reads.Learnt

abbrev pub ByteAtDetermined : Type 0
ByteAtDetermined = Determined byte_at.ended byte_at_reads.Asked byte_at_reads.Learnt

abbrev pub PartsCopyDetermined : Type 0
PartsCopyDetermined = Determined parts_copy.ended parts_copy_reads.Asked parts_copy_reads.Learnt

abbrev pub PartsWordDetermined : Type 0
PartsWordDetermined = Determined parts_word.ended parts_word_reads.Asked parts_word_reads.Learnt

abbrev pub PartsJoinedDetermined : Type 0
PartsJoinedDetermined = Determined parts_joined.ended parts_joined_reads.Asked parts_joined_reads.Learnt

abbrev pub NumberDetermined : Type 0
NumberDetermined = Determined number.ended number_reads.Asked number_reads.Learnt

abbrev pub VerdictNumberDetermined : Type 0
VerdictNumberDetermined = Determined verdict_number.ended verdict_number_reads.Asked verdict_number_reads.Learnt

abbrev pub SpotOfDetermined : Type 0
SpotOfDetermined = Determined spot_of.ended spot_of_reads.Asked spot_of_reads.Learnt

abbrev pub VerdictPlaceDetermined : Type 0
VerdictPlaceDetermined = Determined verdict_place.ended verdict_place_reads.Asked verdict_place_reads.Learnt

abbrev pub ClaimDetermined : Type 0
ClaimDetermined = Determined claim.ended claim_reads.Asked claim_reads.Learnt

abbrev pub SoonerDetermined : Type 0
SoonerDetermined = Determined sooner.ended sooner_reads.Asked sooner_reads.Learnt

abbrev pub LentVerdictDetermined : Type 0
LentVerdictDetermined = Determined lent_verdict.ended lent_verdict_reads.Asked lent_verdict_reads.Learnt

abbrev pub LossVerdictDetermined : Type 0
LossVerdictDetermined = Determined loss_verdict.ended loss_verdict_reads.Asked loss_verdict_reads.Learnt

abbrev pub UpDetermined : Type 0
UpDetermined = Determined up.ended up_reads.Asked up_reads.Learnt

-- ---- text

abbrev pub TextWideDetermined : Type 0
TextWideDetermined = Determined text_wide.ended text_wide_reads.Asked text_wide_reads.Learnt

abbrev pub TextNarrowDetermined : Type 0
TextNarrowDetermined = Determined text_narrow.ended text_narrow_reads.Asked text_narrow_reads.Learnt

abbrev pub TextHexDetermined : Type 0
TextHexDetermined = Determined text_hex.ended text_hex_reads.Asked text_hex_reads.Learnt

abbrev pub TextSmallHexDetermined : Type 0
TextSmallHexDetermined = Determined text_small_hex.ended text_small_hex_reads.Asked text_small_hex_reads.Learnt

abbrev pub TextWordDetermined : Type 0
TextWordDetermined = Determined text_word.ended text_word_reads.Asked text_word_reads.Learnt

abbrev pub TextValueDetermined : Type 0
TextValueDetermined = Determined text_value.ended text_value_reads.Asked text_value_reads.Learnt

-- ---- line

abbrev pub IsHighDetermined : Type 0
IsHighDetermined = Determined is_high.ended is_high_reads.Asked is_high_reads.Learnt

abbrev pub SendDetermined : Type 0
SendDetermined = Determined send.ended send_reads.Asked send_reads.Learnt

abbrev pub AdvanceDetermined : Type 0
AdvanceDetermined = Determined advance.ended advance_reads.Asked advance_reads.Learnt

-- ---- state

abbrev pub InRangeDetermined : Type 0
InRangeDetermined = Determined in_range.ended in_range_reads.Asked in_range_reads.Learnt

-- ---- chip

abbrev pub HeldVerdictDetermined : Type 0
HeldVerdictDetermined = Determined held_verdict.ended held_verdict_reads.Asked held_verdict_reads.Learnt

abbrev pub StandbyDetermined : Type 0
StandbyDetermined = Determined standby.ended standby_reads.Asked standby_reads.Learnt

abbrev pub DeliverDetermined : Type 0
DeliverDetermined = Determined deliver.ended deliver_reads.Asked deliver_reads.Learnt

abbrev pub StepDetermined : Type 0
StepDetermined = Determined step.ended step_reads.Asked step_reads.Learnt

abbrev pub ChipRunDetermined : Type 0
ChipRunDetermined = Determined chip_run.ended chip_run_reads.Asked chip_run_reads.Learnt

abbrev pub ChipSeenDetermined : Type 0
ChipSeenDetermined = Determined chip_seen.ended chip_seen_reads.Asked chip_seen_reads.Learnt

abbrev pub ChipTakeDetermined : Type 0
ChipTakeDetermined = Determined chip_take.ended chip_take_reads.Asked chip_take_reads.Learnt

abbrev pub LatchedDetermined : Type 0
LatchedDetermined = Determined latched.ended latched_reads.Asked latched_reads.Learnt

abbrev pub PageStartDetermined : Type 0
PageStartDetermined = Determined page_start.ended page_start_reads.Asked page_start_reads.Learnt

abbrev pub ClosesDetermined : Type 0
ClosesDetermined = Determined closes.ended closes_reads.Asked closes_reads.Learnt

abbrev pub RunVerdictDetermined : Type 0
RunVerdictDetermined = Determined run_verdict.ended run_verdict_reads.Asked run_verdict_reads.Learnt

abbrev pub ChipPassDetermined : Type 0
ChipPassDetermined = Determined chip_pass.ended chip_pass_reads.Asked chip_pass_reads.Learnt

-- ---- wear

abbrev pub GroupsDetermined : Type 0
GroupsDetermined = Determined groups.ended groups_reads.Asked groups_reads.Learnt

abbrev pub MarkDetermined : Type 0
MarkDetermined = Determined mark.ended mark_reads.Asked mark_reads.Learnt

abbrev pub CountsVerdictDetermined : Type 0
CountsVerdictDetermined = Determined counts_verdict.ended counts_verdict_reads.Asked counts_verdict_reads.Learnt

abbrev pub WearRunDetermined : Type 0
WearRunDetermined = Determined wear_run.ended wear_run_reads.Asked wear_run_reads.Learnt

abbrev pub WearGoOnDetermined : Type 0
WearGoOnDetermined = Determined wear_go_on.ended wear_go_on_reads.Asked wear_go_on_reads.Learnt

abbrev pub WorstOfDetermined : Type 0
WorstOfDetermined = Determined worst_of.ended worst_of_reads.Asked worst_of_reads.Learnt

abbrev pub WorseDetermined : Type 0
WorseDetermined = Determined worse.ended worse_reads.Asked worse_reads.Learnt

abbrev pub MostOfDetermined : Type 0
MostOfDetermined = Determined most_of.ended most_of_reads.Asked most_of_reads.Learnt

abbrev pub BorneOutDetermined : Type 0
BorneOutDetermined = Determined borne_out.ended borne_out_reads.Asked borne_out_reads.Learnt

abbrev pub WorstVerdictDetermined : Type 0
WorstVerdictDetermined = Determined worst_verdict.ended worst_verdict_reads.Asked worst_verdict_reads.Learnt

abbrev pub WearReportDetermined : Type 0
WearReportDetermined = Determined wear_report.ended wear_report_reads.Asked wear_report_reads.Learnt

abbrev pub WearJoinDetermined : Type 0
WearJoinDetermined = Determined wear_join.ended wear_join_reads.Asked wear_join_reads.Learnt

-- ---- page

abbrev pub LookRefusalDetermined : Type 0
LookRefusalDetermined = Determined look_refusal.ended look_refusal_reads.Asked look_refusal_reads.Learnt

-- its bytes, and where it lies: it is uncopied
abbrev pub LookDetermined : Type 0
LookDetermined = DeterminedAs look.ended (λ κs r. part r) look_reads.Asked look_reads.Learnt

-- ---- image

abbrev pub SaveDetermined : Type 0
SaveDetermined = Determined save.ended save_reads.Asked save_reads.Learnt

abbrev pub LoadDetermined : Type 0
LoadDetermined = Determined load.ended load_reads.Asked load_reads.Learnt

abbrev pub ImageLengthDetermined : Type 0
ImageLengthDetermined = Determined image_length.ended image_length_reads.Asked image_length_reads.Learnt

abbrev pub SaveVerdictDetermined : Type 0
SaveVerdictDetermined = Determined save_verdict.ended save_verdict_reads.Asked save_verdict_reads.Learnt

abbrev pub PartInDetermined : Type 0
PartInDetermined = Determined part_in.ended part_in_reads.Asked part_in_reads.Learnt

abbrev pub LockInDetermined : Type 0
LockInDetermined = Determined lock_in.ended lock_in_reads.Asked lock_in_reads.Learnt

abbrev pub FormedDetermined : Type 0
FormedDetermined = Determined formed.ended formed_reads.Asked formed_reads.Learnt

-- ---- image_worn

abbrev pub WornLengthDetermined : Type 0
WornLengthDetermined = Determined worn_length.ended worn_length_reads.Asked worn_length_reads.Learnt

abbrev pub SaveWornDetermined : Type 0
SaveWornDetermined = Determined save_worn.ended save_worn_reads.Asked save_worn_reads.Learnt

abbrev pub LoadWornDetermined : Type 0
LoadWornDetermined = Determined load_worn.ended load_worn_reads.Asked load_worn_reads.Learnt

abbrev pub ToWornDetermined : Type 0
ToWornDetermined = Determined to_worn.ended to_worn_reads.Asked to_worn_reads.Learnt

abbrev pub ToPlainDetermined : Type 0
ToPlainDetermined = Determined to_plain.ended to_plain_reads.Asked to_plain_reads.Learnt

-- ---- hexfile

abbrev pub HexReadDetermined : Type 0
HexReadDetermined = Determined hex_read.ended hex_read_reads.Asked hex_read_reads.Learnt

abbrev pub HexWriteDetermined : Type 0
HexWriteDetermined = Determined hex_write.ended hex_write_reads.Asked hex_write_reads.Learnt

-- ---- capture

abbrev pub CaptureJudgeDetermined : Type 0
CaptureJudgeDetermined = Determined capture_judge.ended capture_judge_reads.Asked capture_judge_reads.Learnt

abbrev pub CaptureRunDetermined : Type 0
CaptureRunDetermined = Determined capture_run.ended capture_run_reads.Asked capture_run_reads.Learnt

abbrev pub CaptureEventsDetermined : Type 0
CaptureEventsDetermined = Determined capture_events.ended capture_events_reads.Asked capture_events_reads.Learnt

abbrev pub TalliedByDetermined : Type 0
TalliedByDetermined = Determined tallied_by.ended tallied_by_reads.Asked tallied_by_reads.Learnt

-- by the walked contract (specs/Walked.antt); the tally that is lent, too
abbrev pub CountDetermined : Type 0
CountDetermined = Determined count.ended CountAsked CountLearnt

abbrev pub LinedDetermined : Type 0
LinedDetermined = Determined lined.ended lined_reads.Asked lined_reads.Learnt

abbrev pub DrawDetermined : Type 0
DrawDetermined = Determined draw.ended draw_reads.Asked draw_reads.Learnt

-- ---- trace

-- its bytes: no rule asks where they lie
abbrev pub LettersDetermined : Type 0
LettersDetermined = DeterminedAs letters.ended (λ κs r. part r) letters_reads.Asked letters_reads.Learnt

abbrev pub CodeOfDetermined : Type 0
CodeOfDetermined = Determined code_of.ended code_of_reads.Asked code_of_reads.Learnt

abbrev pub TraceJudgeDetermined : Type 0
TraceJudgeDetermined = Determined trace_judge.ended trace_judge_reads.Asked trace_judge_reads.Learnt

abbrev pub TracePrintDetermined : Type 0
TracePrintDetermined = Determined trace_print.ended trace_print_reads.Asked trace_print_reads.Learnt

abbrev pub TraceDetermined : Type 0
TraceDetermined = Determined trace.ended trace_reads.Asked trace_reads.Learnt

-- the answer and the lent buffer: what it tells on the way is promised nowhere
abbrev pub ExplainDetermined : Type 0
ExplainDetermined = Determined explain.ended explain_reads.Asked explain_reads.Learnt

-- ---- driver

abbrev pub JudgeDetermined : Type 0
JudgeDetermined = Determined judge.ended judge_reads.Asked judge_reads.Learnt

abbrev pub FromDetermined : Type 0
FromDetermined = Determined from.ended from_reads.Asked from_reads.Learnt

abbrev pub AllowedDetermined : Type 0
AllowedDetermined = Determined allowed.ended allowed_reads.Asked allowed_reads.Learnt

abbrev pub BeginDetermined : Type 0
BeginDetermined = Determined begin.ended begin_reads.Asked begin_reads.Learnt

abbrev pub NextDetermined : Type 0
NextDetermined = Determined next.ended next_reads.Asked next_reads.Learnt

-- ---- bench

abbrev pub BenchRecordDetermined : Type 0
BenchRecordDetermined = Determined bench_record.ended bench_record_reads.Asked bench_record_reads.Learnt

abbrev pub BenchRunDetermined : Type 0
BenchRunDetermined = Determined bench_run.ended bench_run_reads.Asked bench_run_reads.Learnt

abbrev pub BenchRunWornDetermined : Type 0
BenchRunWornDetermined = Determined bench_run_worn.ended bench_run_worn_reads.Asked bench_run_worn_reads.Learnt

-- ---- pack_driver

abbrev pub DriverPackDetermined : Type 0
DriverPackDetermined = Determined driver_pack.ended driver_pack_reads.Asked driver_pack_reads.Learnt

abbrev pub DriverUnpackDetermined : Type 0
DriverUnpackDetermined = Determined driver_unpack.ended driver_unpack_reads.Asked driver_unpack_reads.Learnt

-- ---- pack_chip

abbrev pub ChipPackDetermined : Type 0
ChipPackDetermined = Determined chip_pack.ended chip_pack_reads.Asked chip_pack_reads.Learnt

abbrev pub ChipHoldsDetermined : Type 0
ChipHoldsDetermined = Determined chip_holds.ended chip_holds_reads.Asked chip_holds_reads.Learnt

abbrev pub ChipUnpackDetermined : Type 0
ChipUnpackDetermined = Determined chip_unpack.ended chip_unpack_reads.Asked chip_unpack_reads.Learnt

-- ---- sapwoodle

abbrev pub SapwoodleArrayLengthDetermined : Type 0
SapwoodleArrayLengthDetermined = Determined sapwoodle_array_length.ended sapwoodle_array_length_reads.Asked sapwoodle_array_length_reads.Learnt

abbrev pub SapwoodleIdLengthDetermined : Type 0
SapwoodleIdLengthDetermined = Determined sapwoodle_id_length.ended sapwoodle_id_length_reads.Asked sapwoodle_id_length_reads.Learnt

abbrev pub SapwoodleStateLengthDetermined : Type 0
SapwoodleStateLengthDetermined = Determined sapwoodle_state_length.ended sapwoodle_state_length_reads.Asked sapwoodle_state_length_reads.Learnt

abbrev pub SapwoodleDriverLengthDetermined : Type 0
SapwoodleDriverLengthDetermined = Determined sapwoodle_driver_length.ended sapwoodle_driver_length_reads.Asked sapwoodle_driver_length_reads.Learnt

abbrev pub SapwoodleDeliverDetermined : Type 0
SapwoodleDeliverDetermined = Determined sapwoodle_deliver.ended sapwoodle_deliver_reads.Asked sapwoodle_deliver_reads.Learnt

abbrev pub SapwoodleStepDetermined : Type 0
SapwoodleStepDetermined = Determined sapwoodle_step.ended sapwoodle_step_reads.Asked sapwoodle_step_reads.Learnt

abbrev pub SapwoodleRunDetermined : Type 0
SapwoodleRunDetermined = Determined sapwoodle_run.ended sapwoodle_run_reads.Asked sapwoodle_run_reads.Learnt

abbrev pub SapwoodleSaveDetermined : Type 0
SapwoodleSaveDetermined = Determined sapwoodle_save.ended sapwoodle_save_reads.Asked sapwoodle_save_reads.Learnt

abbrev pub SapwoodleLoadDetermined : Type 0
SapwoodleLoadDetermined = Determined sapwoodle_load.ended sapwoodle_load_reads.Asked sapwoodle_load_reads.Learnt

abbrev pub SapwoodleHexReadDetermined : Type 0
SapwoodleHexReadDetermined = Determined sapwoodle_hex_read.ended sapwoodle_hex_read_reads.Asked sapwoodle_hex_read_reads.Learnt

abbrev pub SapwoodleHexWriteDetermined : Type 0
SapwoodleHexWriteDetermined = Determined sapwoodle_hex_write.ended sapwoodle_hex_write_reads.Asked sapwoodle_hex_write_reads.Learnt

abbrev pub SapwoodleCaptureRunDetermined : Type 0
SapwoodleCaptureRunDetermined = Determined sapwoodle_capture_run.ended sapwoodle_capture_run_reads.Asked sapwoodle_capture_run_reads.Learnt

abbrev pub SapwoodleCaptureEventsDetermined : Type 0
SapwoodleCaptureEventsDetermined = Determined sapwoodle_capture_events.ended sapwoodle_capture_events_reads.Asked sapwoodle_capture_events_reads.Learnt

abbrev pub SapwoodleCaptureTallyDetermined : Type 0
SapwoodleCaptureTallyDetermined = Determined sapwoodle_capture_tally.ended sapwoodle_capture_tally_reads.Asked sapwoodle_capture_tally_reads.Learnt

abbrev pub SapwoodleDriverBeginDetermined : Type 0
SapwoodleDriverBeginDetermined = Determined sapwoodle_driver_begin.ended sapwoodle_driver_begin_reads.Asked sapwoodle_driver_begin_reads.Learnt

abbrev pub SapwoodleDriverNextDetermined : Type 0
SapwoodleDriverNextDetermined = Determined sapwoodle_driver_next.ended sapwoodle_driver_next_reads.Asked sapwoodle_driver_next_reads.Learnt

abbrev pub SapwoodleBenchRunDetermined : Type 0
SapwoodleBenchRunDetermined = Determined sapwoodle_bench_run.ended sapwoodle_bench_run_reads.Asked sapwoodle_bench_run_reads.Learnt

abbrev pub SapwoodleGroupsDetermined : Type 0
SapwoodleGroupsDetermined = Determined sapwoodle_groups.ended sapwoodle_groups_reads.Asked sapwoodle_groups_reads.Learnt

abbrev pub SapwoodleWearRunDetermined : Type 0
SapwoodleWearRunDetermined = Determined sapwoodle_wear_run.ended sapwoodle_wear_run_reads.Asked sapwoodle_wear_run_reads.Learnt

abbrev pub SapwoodleWorstDetermined : Type 0
SapwoodleWorstDetermined = Determined sapwoodle_worst.ended sapwoodle_worst_reads.Asked sapwoodle_worst_reads.Learnt

abbrev pub SapwoodleWearReportDetermined : Type 0
SapwoodleWearReportDetermined = Determined sapwoodle_wear_report.ended sapwoodle_wear_report_reads.Asked sapwoodle_wear_report_reads.Learnt

abbrev pub SapwoodleWearJoinDetermined : Type 0
SapwoodleWearJoinDetermined = Determined sapwoodle_wear_join.ended sapwoodle_wear_join_reads.Asked sapwoodle_wear_join_reads.Learnt

abbrev pub SapwoodleWearBenchRunDetermined : Type 0
SapwoodleWearBenchRunDetermined = Determined sapwoodle_wear_bench_run.ended sapwoodle_wear_bench_run_reads.Asked sapwoodle_wear_bench_run_reads.Learnt

abbrev pub SapwoodleSaveWornDetermined : Type 0
SapwoodleSaveWornDetermined = Determined sapwoodle_save_worn.ended sapwoodle_save_worn_reads.Asked sapwoodle_save_worn_reads.Learnt

abbrev pub SapwoodleLoadWornDetermined : Type 0
SapwoodleLoadWornDetermined = Determined sapwoodle_load_worn.ended sapwoodle_load_worn_reads.Asked sapwoodle_load_worn_reads.Learnt

abbrev pub SapwoodleToWornDetermined : Type 0
SapwoodleToWornDetermined = Determined sapwoodle_to_worn.ended sapwoodle_to_worn_reads.Asked sapwoodle_to_worn_reads.Learnt

abbrev pub SapwoodleToPlainDetermined : Type 0
SapwoodleToPlainDetermined = Determined sapwoodle_to_plain.ended sapwoodle_to_plain_reads.Asked sapwoodle_to_plain_reads.Learnt

abbrev pub SapwoodleTraceDetermined : Type 0
SapwoodleTraceDetermined = Determined sapwoodle_trace.ended sapwoodle_trace_reads.Asked sapwoodle_trace_reads.Learnt

-- ---- all that users call, of the libraries and from C

pub record EveryAnswer : Type 0 where
  pub deliver : DeliverDetermined
  pub step : StepDetermined
  pub run : ChipRunDetermined
  pub look : LookDetermined
  pub save : SaveDetermined
  pub load : LoadDetermined
  pub hex_read : HexReadDetermined
  pub hex_write : HexWriteDetermined
  pub capture_run : CaptureRunDetermined
  pub capture_events : CaptureEventsDetermined
  pub capture_count : CountDetermined
  pub trace : TraceDetermined
  pub begin : BeginDetermined
  pub next : NextDetermined
  pub bench_record : BenchRecordDetermined
  pub bench_run : BenchRunDetermined
  pub wear_run : WearRunDetermined
  pub wear_go_on : WearGoOnDetermined
  pub wear_mark : MarkDetermined
  pub worst_of : WorstOfDetermined
  pub wear_report : WearReportDetermined
  pub wear_join : WearJoinDetermined
  pub bench_run_worn : BenchRunWornDetermined
  pub save_worn : SaveWornDetermined
  pub load_worn : LoadWornDetermined
  pub to_worn : ToWornDetermined
  pub to_plain : ToPlainDetermined
  pub sapwoodle_deliver : SapwoodleDeliverDetermined
  pub sapwoodle_step : SapwoodleStepDetermined
  pub sapwoodle_run : SapwoodleRunDetermined
  pub sapwoodle_save : SapwoodleSaveDetermined
  pub sapwoodle_load : SapwoodleLoadDetermined
  pub sapwoodle_hex_read : SapwoodleHexReadDetermined
  pub sapwoodle_hex_write : SapwoodleHexWriteDetermined
  pub sapwoodle_capture_run : SapwoodleCaptureRunDetermined
  pub sapwoodle_capture_events : SapwoodleCaptureEventsDetermined
  pub sapwoodle_capture_tally : SapwoodleCaptureTallyDetermined
  pub sapwoodle_driver_begin : SapwoodleDriverBeginDetermined
  pub sapwoodle_driver_next : SapwoodleDriverNextDetermined
  pub sapwoodle_bench_run : SapwoodleBenchRunDetermined
  pub sapwoodle_groups : SapwoodleGroupsDetermined
  pub sapwoodle_wear_run : SapwoodleWearRunDetermined
  pub sapwoodle_worst : SapwoodleWorstDetermined
  pub sapwoodle_wear_report : SapwoodleWearReportDetermined
  pub sapwoodle_wear_join : SapwoodleWearJoinDetermined
  pub sapwoodle_wear_bench_run : SapwoodleWearBenchRunDetermined
  pub sapwoodle_save_worn : SapwoodleSaveWornDetermined
  pub sapwoodle_load_worn : SapwoodleLoadWornDetermined
  pub sapwoodle_to_worn : SapwoodleToWornDetermined
  pub sapwoodle_to_plain : SapwoodleToPlainDetermined
  pub sapwoodle_trace : SapwoodleTraceDetermined
