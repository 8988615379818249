-- Each run that only seems to work breaks the promise that is named, by one byte on a chip as delivered.
-- Assumes nothing.
use Rattle.std.specs.Prelude.{Ok, Err}
use Prim.Native.Nat.{ℕ, zero, suc, ◌<◌}
use mathlib.Core.Path.{◌≡◌, refl, sym, ◌∙◌, ap}
use mathlib.Core.Bool.{Bool, true, false, cond, false≢true}
use mathlib.Core.List.{List, [], ◌∷◌, ◌++◌}
use lib.ListN.{length, get_or, replicate}
use native.Mathlib.Omega.{arith}
use Rattle.parts.specs.declared.Facts.{Facts}
use Rattle.parts.specs.declared.Refusal.{Refusal}
use Rattle.parts.specs.declared.Refusal.TheVariants.{NoPart, WrongEnable, NoSelect}
use Rattle.parts.specs.Verdict.{Verdict}
use Rattle.parts.specs.Table.{facts_of, id_size_of, enable_right_of, buffers_right_of}
use Rattle.parts.specs.Events.{event_with}
use Rattle.parts.specs.Refusals.{number_of, verdict_number_of, sooner_of, lent_verdict_of, is_fine}
use Rattle.parts.proofs.Laws.{fine}
use Rattle.parts.specs.Bytes.{AllBelow}
use Rattle.line.specs.declared.Target.{Target}
use Rattle.line.specs.declared.Target.TheVariants.{Array as TheArray, Ident as TheIdent}
use Rattle.line.specs.Rules.{roll_of, before_of, onward_of, enabled_of, named_of, decode_of, address_start_of, selected_of, load_array_of, load_id_of, loaded_of, refuses_of, latched_of, filled_of, locked_by_of, taken_of, received_of, receive_act_of, receive_level_of, moved_of, sent_of, send_level_of, clocked_of, clock_act_of, clock_level_of, started_of, start_act_of, asks_of, placed_of, stopped_of, stop_act_of, stop_begun_of, ended_by_of, ended_of, end_act_of, next_of, act_of, level_of, begun_of}
use Rattle.state.specs.declared.Chip.{Chip}
use Rattle.state.specs.Range.{marks_right_of, pin_right_of, lock_right_of, phase_right_of, rest_right_of, in_range_of}
use Rattle.chip.specs.Memory.{Mem, mem, no_latch, cells_of, one_of, counter_page_of, committed_of, cycle_stored_of, stored_of, store_with, shown_of, seen_of, state_of, chip_level_of}
use Rattle.chip.specs.Runs.{cycles_of}
use Rattle.chip.specs.Calls.{held_verdict_of}
use Rattle.chip.specs.Delivery.{pin_at_first_of, standby_of}
use Rattle.chip.specs.Model.{Model, ours}
use Rattle.chip_laws.specs.Range.{Typed}
use Rattle.chip_promises.specs.Idle.{constant}
use Rattle.chip_promises.specs.Invented.{inventing_model}
use Rattle.driver.specs.declared.Place.TheVariants.{Array}
use Rattle.driver.specs.declared.Request.{Request}
use Rattle.driver.specs.declared.Answer.{Answer}
use Rattle.driver.specs.declared.Answer.TheVariants.{Done, Refused}
use Rattle.driver.specs.Request.{k_of, allowed_of, beyond_at, limit_of, judge_of}
use Rattle.driver.specs.Split.{to_page_end_of, pages_met_of}
use Rattle.driver.specs.Step.{select_at, wire_of, bit_of, shift_of, ready_of, bits_at, lead_at, low_at, data_at, poll_move_of, answered_of, take_at, heard_move_of, bits_move_of, driver_step_of, counts_right, range_of, driver_next_of, byte_kept_of, buffer_of}
use Rattle.driver.specs.Machine.{our_driver}
use Rattle.driver_promises.specs.Numbers.{Enabled}
use Rattle.driver_promises.specs.Run.{clocks_in}
use Rattle.driver_promises.specs.Idle.{refusing_driver}
use Rattle.bench.specs.Together.{System, asked_of, cycle_ended_of, end_due_of, turn_of, turns_of}
use Rattle.bench.specs.Tape.{sends_of}
use Rattle.bench.specs.declared.Report.{Report}
use Rattle.bench.specs.Calls.{other_length_of, short_of, late_of, report_by, bench_verdict_of, bench_verdict}
use Rattle.bench_promises.specs.Calls.{BenchCall, Bench, bench_under, our_bench, verdict_of, Called, OpenCall, WritesKept, ReadsKept, ReadsBackKept, EndsKept, RefusesKept, ReplaysKept}
use Rattle.bench_promises.specs.Numbers.{Judge, BenchNumbers}
use Rattle.bench_promises.specs.Idle.{refusing_judge, refusing_bench, RefusingRunBreaks, ConstantRunBreaks, forgetful, ForgetfulRunBreaks, counting_more, inventing_done, InventingRunBreaks, CountsFromTape, RunInventsNothing, boasting, blind, untold, OtherRunsBreak}
use Rattle.bench_promises.proofs.Calls.{bench_promises_lem}
use Rattle.bench_promises.proofs.Recount.{same_events}
use Rattle.bench_promises.proofs.Rest.{says, Rests, after, report_is, memory_is, buffer_is}

-- one byte at 0 of part 0, budget 1: a write or a read
abbrev one : Bool → Request
one reads = record { part = 0; enable = 0; place = Array (record { 0 = 0 }); reads = reads; length = 1; budget = 1 }

abbrev chip₀ : Chip
chip₀ = standby_of (facts_of 0) false

abbrev mem₀ : Mem
mem₀ = mem (replicate 2048 255) (replicate 16 255)

abbrev byte : List ℕ
byte = 90 ∷ []

-- that call on a chip as delivered
abbrev call : Bool → ℕ → BenchCall
call reads d = record { request = one reads; own = 0; d = d; chip = chip₀; mem = mem₀; buffer = byte }

same_bytes : (n : ℕ) → AllBelow 256 (replicate n 255)
same_bytes zero = tt
same_bytes (suc n) = (omega arith, same_bytes n)

one_byte : AllBelow 256 byte
one_byte = (omega arith, tt)

both : (t : Target) → AllBelow 256 (cells_of t mem₀)
both TheArray = same_bytes 2048
both TheIdent = same_bytes 16

-- read, or written with a cycle that ends before the first poll, or written with one that ends too late
called : Called (call true 1) × Called (call false 1) × Called (call false 2)
unfolding bench_verdict_of judge_of other_length_of short_of late_of sooner_of lent_verdict_of held_verdict_of facts_of id_size_of enable_right_of buffers_right_of marks_right_of pin_right_of lock_right_of phase_right_of rest_right_of in_range_of beyond_at limit_of standby_of pin_at_first_of no_latch
called = (
  record { fine = refl; enabled = refl; idle = refl; stored = both; lent = one_byte },
  record { fine = refl; enabled = refl; idle = refl; stored = both; lent = one_byte },
  record { fine = refl; enabled = refl; idle = refl; stored = both; lent = one_byte },
)

reads : Called (call true 1)
reads = called.0

writes : Called (call false 1)
writes = called.1

late : Called (call false 2)
late = called.2

free : (d : ℕ) → OpenCall (call false d)
unfolding standby_of pin_at_first_of facts_of
free d = record { writes = refl; writable = refl }

one_page : k_of (one false) ≡ 1
unfolding k_of pages_met_of facts_of
one_page = refl

-- ---- of any run that keeps one of the promises

module _ (B : Bench) where
  abbrev reported : Bool → ℕ → Report
  reported reads d = B.report (call reads d)

  ended : EndsKept B → ((reported false 1).verdict ≡ Ok tt) × ((reported false 1).cycles ≡ 1)
  ended p =
      let e = p (call false 1) writes (free 1) (omega arith) in
      (e.done, e.cycles ∙ one_page)

  stored : WritesKept B → (d : ℕ) → Called (call false d) → (reported false d).bytes ≡ 1 → get_or (B.memory (call false d)).cells 0 0 ≡ 90
  stored p d k e = (p (call false d) k refl).reported 0 (omega (arith, e))

  read : ReadsKept B → get_or (B.buffer (call true 1)) 0 0 ≡ 255
  read p = ap (λ (l : List ℕ). get_or l 0 0) (p (call true 1) reads refl).buffer

  read_done : ReadsKept B → (reported true 1).verdict ≡ Ok tt
  read_done p = (p (call true 1) reads refl).done

refused : (x : Refusal) (v : Verdict) → v ≡ Err x → v ≡ Ok tt → ⊥
refused x v e f = false≢true (ap is_fine (sym e ∙ f))

-- ---- what refuses everything

-- no part, and no enable of part 0
abbrev astray : ℕ → ℕ → BenchCall
astray part enable =
    record {
      request = record { part = part; enable = enable; place = Array (record { 0 = 0 }); reads = true; length = 1; budget = 1 };
      own = 0;
      d = 1;
      chip = chip₀;
      mem = mem₀;
      buffer = byte;
    }

two_numbers : (verdict_of (astray 6 0) ≡ Err NoPart) × (verdict_of (astray 0 1) ≡ Err WrongEnable)
unfolding bench_verdict_of judge_of other_length_of short_of late_of sooner_of lent_verdict_of held_verdict_of facts_of id_size_of enable_right_of buffers_right_of marks_right_of pin_right_of lock_right_of phase_right_of rest_right_of in_range_of beyond_at limit_of standby_of pin_at_first_of no_latch
two_numbers = (refl, refl)

table_breaks : (x : Refusal) → RefusesKept (refusing_bench x) → ⊥
table_breaks x p =
    let a : number_of x ≡ 1 = ap verdict_number_of (p (astray 6 0) NoPart two_numbers.0).verdict in
    let b : number_of x ≡ 2 = ap verdict_number_of (p (astray 0 1) WrongEnable two_numbers.1).verdict in
    omega (arith, a, b)

in_order : (judge : Judge) → BenchNumbers judge → verdict_number_of (judge (call true 1)) ≡ 0
unfolding facts_of id_size_of marks_right_of pin_right_of lock_right_of phase_right_of rest_right_of in_range_of standby_of pin_at_first_of no_latch
in_order judge p =
    let enabled : Enabled (one true) = record { known = omega arith; enable = omega arith } in
    (p (call true 1)).none
    record { enabled = enabled; ready = record { named = record { known = omega arith; enabled = omega arith; lent = (refl, refl) }; ranged = refl } }
    record { full = λ e. refl; room = λ e. omega arith }
    record { enabled = enabled; there = refl; fits = omega arith }
    (λ e. (omega arith, omega arith)) (omega arith) (omega arith)

-- the driver refuses when it is asked first
rests_refusing : (x : Refusal) (reads : Bool) → Rests (refusing_driver x) 1 (after (refusing_driver x) ours (one reads) 1 chip₀ mem₀ byte 0)
unfolding end_due_of turns_of
rests_refusing x true = record { due = refl; sent = refl }
rests_refusing x false = record { due = refl; sent = refl }

refusing_driver_lem : (x : Refusal) (reads : Bool) → Called (call reads 1) → (reported (bench_under (refusing_driver x) ours) reads 1).verdict ≡ Err x
refusing_driver_lem x reads k =
    ap (λ (p : Report). p.verdict) (report_is (refusing_driver x) ours (one reads) 1 chip₀ mem₀ byte 0 k.fine (omega arith) (rests_refusing x reads))

pub refusing_run_breaks : RefusingRunBreaks
refusing_run_breaks =
    record {
      judge = λ x p. refused x (Err x) refl (fine (Err x) (in_order (refusing_judge x) p));
      table = table_breaks;
      reads = λ x p. refused x (Err x) refl (read_done (refusing_bench x) p);
      ends = λ x p. refused x (Err x) refl (ended (refusing_bench x) p).0;
      driver_reads = λ x p. refused x _ (refusing_driver_lem x true reads) (read_done (bench_under (refusing_driver x) ours) p);
      driver_ends = λ x p. refused x _ (refusing_driver_lem x false writes) (ended (bench_under (refusing_driver x) ours) p).0;
    }

-- ---- our driver on another chip, computed: 45 turns are more than one byte takes

abbrev ran : (Facts → ℕ → Model) → Bool → ℕ → System
ran M reads d = after our_driver M (one reads) d chip₀ mem₀ byte 45

-- no turn changes it any more, and this is what the driver answers
record Ran (M : Facts → ℕ → Model) (reads : Bool) (d : ℕ) (a : Answer) : Type 0 where
  due : end_due_of d (ran M reads d) ≡ false
  answer : says our_driver (ran M reads d) ≡ a
  over : sends_of a ≡ false

module _ (M : Facts → ℕ → Model) (reads : Bool) (d : ℕ) (a : Answer) (k : Called (call reads d)) (h : Ran M reads d a) where
  rests : Rests our_driver d (ran M reads d)
  rests = record { due = h.due; sent = ap sends_of h.answer ∙ h.over }

  ran_report : reported (bench_under our_driver M) reads d ≡ report_by (ran M reads d) a
  ran_report = report_is our_driver M (one reads) d chip₀ mem₀ byte 45 k.fine (omega arith) rests ∙ ap (report_by (ran M reads d)) h.answer

  ran_memory : (bench_under our_driver M).memory (call reads d) ≡ (ran M reads d).mem
  ran_memory = memory_is our_driver M (one reads) d chip₀ mem₀ byte 45 k.fine (omega arith) rests

  ran_buffer : (bench_under our_driver M).buffer (call reads d) ≡ (ran M reads d).buffer ++ []
  ran_buffer = buffer_is our_driver M (one reads) d chip₀ mem₀ byte 45 k.fine (omega arith) rests

-- written by the chip that stores nothing, then read from where that leaves the chip
abbrev again : System
again = after our_driver forgetful (one true) 1 (ran forgetful false 1).chip (ran forgetful false 1).mem byte 45

abbrev silent : Facts → ℕ → Model
silent = inventing_model (λ c e. 0)

abbrev busy : Facts → ℕ → Model
busy = inventing_model (λ c e. 1)

record Computed : Type 0 where
  low_read : Ran (constant 0) true 1 (Done 0 1)
  low_byte : get_or ((ran (constant 0) true 1).buffer ++ []) 0 0 ≡ 0
  low_written : Ran (constant 0) false 2 (Done 1 1)
  low_stored : get_or (ran (constant 0) false 2).mem.cells 0 0 ≡ 255
  high_read : Ran (constant 1) true 1 (Refused (NoSelect 0) 0 0)
  high_written : Ran (constant 1) false 1 (Refused (NoSelect 0) 0 0)
  forgotten : Ran forgetful false 1 (Done 1 1)
  nothing_stored : get_or (ran forgetful false 1).mem.cells 0 0 ≡ 255
  again_fine : bench_verdict (one true) 0 1 (ran forgetful false 1).chip (ran forgetful false 1).mem byte ≡ Ok tt
  again_rests : Rests our_driver 1 again
  again_byte : get_or (again.buffer ++ []) 0 0 ≡ 255
  none_begun : Ran silent false 1 (Done 1 1)
  none : (ran silent false 1).cycles ≡ 0
  one_each : Ran busy true 1 (Done 0 1)
  events : (ran busy true 1).cycles ≡ 39

computed : Computed
unfolding facts_of enable_right_of event_with sooner_of roll_of before_of onward_of enabled_of named_of decode_of address_start_of selected_of load_array_of load_id_of loaded_of refuses_of latched_of filled_of locked_by_of taken_of received_of receive_act_of receive_level_of moved_of sent_of send_level_of clocked_of clock_act_of clock_level_of started_of start_act_of asks_of placed_of stopped_of stop_act_of stop_begun_of ended_by_of ended_of end_act_of next_of act_of level_of begun_of no_latch one_of counter_page_of committed_of cycle_stored_of stored_of store_with shown_of seen_of state_of chip_level_of pin_at_first_of standby_of beyond_at limit_of judge_of allowed_of k_of to_page_end_of pages_met_of select_at wire_of bit_of shift_of ready_of bits_at lead_at low_at data_at poll_move_of answered_of take_at heard_move_of bits_move_of driver_step_of counts_right range_of driver_next_of byte_kept_of buffer_of asked_of cycle_ended_of end_due_of turn_of turns_of bench_verdict_of other_length_of short_of late_of lent_verdict_of held_verdict_of id_size_of buffers_right_of marks_right_of pin_right_of lock_right_of phase_right_of rest_right_of in_range_of
computed =
    record {
      low_read = record { due = refl; answer = refl; over = refl };
      low_byte = refl;
      low_written = record { due = refl; answer = refl; over = refl };
      low_stored = refl;
      high_read = record { due = refl; answer = refl; over = refl };
      high_written = record { due = refl; answer = refl; over = refl };
      forgotten = record { due = refl; answer = refl; over = refl };
      nothing_stored = refl;
      again_fine = refl;
      again_rests = record { due = refl; sent = refl };
      again_byte = refl;
      none_begun = record { due = refl; answer = refl; over = refl };
      none = refl;
      one_each = record { due = refl; answer = refl; over = refl };
      events = refl;
    }

-- what is in the buffer, and stored, where a promise of demand 2 is kept
module _ (M : Facts → ℕ → Model) where
  read_there : ReadsKept (bench_under our_driver M) → (a : Answer) → Ran M true 1 a → get_or ((ran M true 1).buffer ++ []) 0 0 ≡ 255
  read_there p a h = sym (ap (λ (l : List ℕ). get_or l 0 0) (ran_buffer M true 1 a reads h)) ∙ read (bench_under our_driver M) p

  stored_there : WritesKept (bench_under our_driver M) → (d q : ℕ) → Called (call false d) → Ran M false d (Done q 1) → get_or (ran M false d).mem.cells 0 0 ≡ 90
  stored_there p d q k h =
      sym (ap (λ (m : Mem). get_or m.cells 0 0) (ran_memory M false d (Done q 1) k h))
      ∙ stored (bench_under our_driver M) p d k (ap (λ (x : Report). x.bytes) (ran_report M false d (Done q 1) k h))

-- ---- a constant level

pub constant_run_breaks : ConstantRunBreaks
constant_run_breaks =
    record {
      low_reads = λ p. omega (arith, computed.low_byte, read_there (constant 0) p (Done 0 1) computed.low_read);
      low_writes = λ p. omega (arith, computed.low_stored, stored_there (constant 0) p 2 1 late computed.low_written);
      high_reads = λ p.
          refused (NoSelect 0) _ (ap (λ (x : Report). x.verdict) (ran_report (constant 1) true 1 (Refused (NoSelect 0) 0 0) reads computed.high_read))
          (read_done (bench_under our_driver (constant 1)) p);
      high_ends = λ p.
          refused (NoSelect 0) _ (ap (λ (x : Report). x.verdict) (ran_report (constant 1) false 1 (Refused (NoSelect 0) 0 0) writes computed.high_written))
          (ended (bench_under our_driver (constant 1)) p).0;
    }

-- ---- nothing is stored

typed : Typed chip₀
unfolding standby_of no_latch
typed = record { byte = omega arith; latches = refl }

abbrev forgets : Bench
forgets = bench_under our_driver forgetful

-- read, from this chip and memory
abbrev reading : Chip → Mem → BenchCall
reading c m = record { request = one true; own = 0; d = 1; chip = c; mem = m; buffer = byte }

module _ (p : ReadsBackKept forgets) where
  left : forgets.report (call false 1) ≡ report_by (ran forgetful false 1) (Done 1 1)
  left = ran_report forgetful false 1 (Done 1 1) writes computed.forgotten

  read_back : forgets.buffer (reading (ran forgetful false 1).chip (ran forgetful false 1).mem) ≡ byte
  read_back =
      let e = p (call false 1) 1 byte writes typed refl (ap (λ (x : Report). x.verdict) left) (record { low = omega arith; high = omega arith; long = omega arith; bytes = one_byte }) in
      sym (ap (λ (x : Report). forgets.buffer (reading x.chip (forgets.memory (call false 1)))) left
      ∙ ap (λ (m : Mem). forgets.buffer (reading (ran forgetful false 1).chip m)) (ran_memory forgetful false 1 (Done 1 1) writes computed.forgotten))
      ∙ e

  read_other : get_or (again.buffer ++ []) 0 0 ≡ 90
  read_other =
      ap (λ (l : List ℕ). get_or l 0 0)
      (sym (buffer_is our_driver forgetful (one true) 1 (ran forgetful false 1).chip (ran forgetful false 1).mem byte 45 computed.again_fine (omega arith) computed.again_rests) ∙ read_back)

pub forgetful_run_breaks : ForgetfulRunBreaks
forgetful_run_breaks =
    record {
      writes = λ p. omega (arith, computed.nothing_stored, stored_there forgetful p 1 1 writes computed.forgotten);
      reads_back = λ p. omega (arith, computed.again_byte, read_other p);
    }

-- ---- invented counts

done_polls : (k : ℕ) → 0 < k → EndsKept (inventing_done k) → ⊥
done_polls k h p =
    let q = our_bench.report (call false 1) in
    let a = (p (call false 1) writes (free 1) (omega arith)).polls in
    let b = bench_promises_lem.ends (call false 1) writes (free 1) (omega arith) in
    let e = ap {B = ℕ} (λ (x : Bool). (cond x (counting_more 0 k q) q).polls) (ap is_fine b.done) in
    omega (arith, h, a, b.polls, e)

pub inventing_run_breaks : InventingRunBreaks
inventing_run_breaks =
    record {
      cycles = λ n k h p.
          (let a = (p (call false 1)).cycles in
          let b = (bench_promises_lem.replays (call false 1)).cycles in
          omega (arith, h, a, b));
      read_polls = λ n k h p. (let a = (p (call true 1) reads refl).polls in omega (arith, h, a));
      write_polls = λ n k h p.
          (let a = (p (call false 2) late (free 2) (omega arith) (omega arith)).polls in
          let b = (bench_promises_lem.uses_up (call false 2) late (free 2) (omega arith) (omega arith)).polls in
          omega (arith, h, a, b));
      done_polls = done_polls;
      none_begun = λ p.
          (let a = (ended (bench_under our_driver silent) p).1 in
          let b = ap (λ (x : Report). x.cycles) (ran_report silent false 1 (Done 1 1) writes computed.none_begun) in
          omega (arith, a, b, computed.none));
      one_each = λ p.
          (let a = (p (call true 1) reads refl).cycles in
          let b = ap (λ (x : Report). x.cycles) (ran_report busy true 1 (Done 0 1) reads computed.one_each) in
          omega (arith, a, b, computed.events));
    }

pub counts_from_tape : CountsFromTape
counts_from_tape B p k e =
    let a = p k in
    let b = bench_promises_lem.replays k in
    (sym a.cycles ∙ (ap (cycles_of (ours (facts_of k.request.part) k.own) k.chip) e ∙ b.cycles), sym a.clocks ∙ (ap clocks_in e ∙ b.clocks))

pub run_invents_nothing : RunInventsNothing
run_invents_nothing count p k =
    (counts_from_tape (bench_under our_driver (inventing_model count)) p k (same_events our_driver count k.request k.own k.d k.chip k.mem k.buffer)).0

-- ---- more of the kind

untold_none : ReplaysKept untold → 0 ≡ (our_bench.report (call false 1)).cycles
unfolding cycles_of
untold_none p = (p (call false 1)).cycles

pub other_runs_break : OtherRunsBreak
other_runs_break =
    record {
      boasting_writes = λ p. (let e = stored boasting p 1 writes refl in omega (arith, e));
      boasting_reads = λ p. (let e = read boasting p in omega (arith, e));
      blind = λ p. (let e = read blind p in omega (arith, e));
      untold = λ p. (let a = untold_none p in let b = (ended our_bench bench_promises_lem.ends).1 in omega (arith, a, b));
    }
