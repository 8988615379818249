-- The wrong runs of specs/WrongRuns.antt break the promises, on captures of specs/Worked.antt.
-- Assumes nothing.
use Rattle.std.specs.Prelude.{Ok, Err}
use Prim.Native.Nat.{ℕ, ◌<◌}
use mathlib.Core.Path.{◌≡◌, ◌∙◌, refl, sym, ap}
use mathlib.Core.Bool.{Bool, true, false, cond, ◌&&◌}
use mathlib.Core.List.{List, [], ◌∷◌, ◌++◌}
use native.Mathlib.Omega.{arith}
use lib.ListN.{length, get_or}
use lib.Dec.{eqb, ltb}
use borrow.Author.Tests.{lt-ltb, eqb-true}
use Rattle.parts.specs.Verdict.{Verdict}
use Rattle.parts.specs.Bytes.{AllBelow}
use Rattle.parts.specs.Table.{facts_of, id_size_of, enable_right_of, buffers_right_of}
use Rattle.parts.specs.Events.{event_with}
use Rattle.parts.specs.Refusals.{sooner_of, lent_verdict_of}
use Rattle.parts.proofs.Tests.{and_both}
use Rattle.line.specs.Rules.{roll_of, before_of, onward_of, enabled_of, named_of, decode_of, address_start_of, selected_of, load_array_of, load_id_of, loaded_of, refuses_of, latched_of, filled_of, locked_by_of, taken_of, received_of, receive_act_of, receive_level_of, moved_of, sent_of, send_level_of, clocked_of, clock_act_of, clock_level_of, started_of, start_act_of, asks_of, placed_of, stopped_of, stop_act_of, stop_begun_of, ended_by_of, ended_of, end_act_of, next_of, act_of, level_of, begun_of}
use Rattle.state.specs.declared.Chip.{Chip}
use Rattle.state.specs.Range.{marks_right_of, pin_right_of, lock_right_of, phase_right_of, rest_right_of, in_range_of}
use Rattle.chip.specs.Memory.{Mem, no_latch, one_of, counter_page_of, committed_of, cycle_stored_of, stored_of, store_with, shown_of, seen_of, state_of, chip_level_of}
use Rattle.chip.specs.Model.{Model, ours}
use Rattle.chip.specs.Runs.{after_of, memory_of, cycles_of}
use Rattle.chip.specs.Delivery.{pin_at_first_of, standby_of, coded_of, delivered_id_of, delivered_of}
use Rattle.chip.specs.Calls.{held_verdict_of}
use Rattle.chip_promises.specs.Numbers.{Ready}
use Rattle.chip_laws.specs.Bytes.{bits_of, byte_of}
use Rattle.chip_laws.proofs.Range.{no_way}
use Rattle.capture.specs.declared.Mark.TheVariants.{Same, At}
use Rattle.capture.specs.Samples.{events_of, rises_of, judge_of}
use Rattle.capture.specs.Ends.{busy_in, end_due_of, with_ends_of, ends_in}
use Rattle.capture.specs.Marks.{place_of, clocks_in, compared_of, differs_of, mark_from}
use Rattle.capture.specs.Wires.{lined_of, stroke_of, drawn_from, drawn_of}
use Rattle.capture.specs.Calls.{SeenLeft, seen_verdict_of, seen_left_of}
use Rattle.capture_promises.specs.Machines.{Seeing}
use Rattle.capture_promises.specs.Running.{EndsRight, MarkFirst}
use Rattle.capture_promises.specs.Good.{on_line, Releases, Mastered, wires_of}
use Rattle.capture_promises.specs.Worked.{byte_written, selected, over}
use Rattle.capture_promises.specs.WrongRuns.{Accepts, NeverMarksBreaks, AlwaysMarksBreaks, EndsNothingBreaks, KeepsChipBreaks, KeepsBytesBreaks, OneReadingBreaks, viewed_by, first_mark, every_end_of, at_once_of, every_mark, one_later, ViewedIsOurs, ViewedAccepts, ends_every, EndsEveryBreaks, ends_at_once, EndsAtOnceBreaks, compares_all, ComparesAllBreaks, ComparesAllMarksGood, counts_from_one, CountsFromOneBreaks, WrongRuns}
use Rattle.capture_promises.proofs.Drawn.{drawn_low}
use Rattle.capture_promises.proofs.Ends.{ends_one_way, with_placed}
use Rattle.capture_promises.proofs.Marks.{mark_one}
use Rattle.capture_promises.proofs.Running.{ends_right, mark_first, seen_fine}
use Rattle.capture_promises.proofs.Worked.{worked}

-- ---- part 2 as delivered

abbrev chip₀ : Chip
chip₀ = standby_of (facts_of 2) false

abbrev mem₀ : Mem
mem₀ = delivered_of 2

ready : Ready 2 0 chip₀ mem₀
unfolding facts_of id_size_of marks_right_of pin_right_of lock_right_of phase_right_of rest_right_of in_range_of standby_of pin_at_first_of no_latch delivered_of delivered_id_of
ready = record { named = record { known = omega arith; enabled = omega arith; lent = (refl, refl) }; ranged = refl }

-- ---- a run that keeps a promise answers as ours

our_fine : (bus : Bool) (es : List ℕ) → (over bus es).answer.verdict ≡ Ok tt
unfolding over
our_fine bus es =
    ap (λ (v : Verdict). (seen_left_of (ours (facts_of 2) 0) chip₀ mem₀ bus (drawn_of es) v).answer.verdict) (seen_fine 2 0 chip₀ mem₀ bus (drawn_of es) ready (drawn_low es))

module _ (see : Seeing) (accepts : Accepts see) (bus : Bool) (es : List ℕ) where
  abbrev answered : SeenLeft
  answered = see 2 0 chip₀ mem₀ bus (drawn_of es)

  fine : answered.answer.verdict ≡ Ok tt
  fine = accepts 2 0 chip₀ mem₀ bus (drawn_of es) ready (drawn_low es)

  same_run : EndsRight see → (answered.answer.ends ≡ (over bus es).answer.ends) × (answered.answer.chip ≡ (over bus es).answer.chip)
      × (answered.mem ≡ (over bus es).mem) × (answered.answer.events ≡ (over bus es).answer.events)
  unfolding over
  same_run right =
      let a = right 2 0 chip₀ mem₀ bus (drawn_of es) fine in
      let b = ends_right 2 0 chip₀ mem₀ bus (drawn_of es) (our_fine bus es) in
      let one = ends_one_way (ours (facts_of 2) 0) chip₀ a.with_ends b.with_ends a.placed b.placed (a.captured ∙ sym b.captured) in (
        a.ended ∙ ap ends_in one ∙ sym b.ended,
        a.state ∙ ap (after_of (ours (facts_of 2) 0) chip₀) one ∙ sym b.state,
        a.stored ∙ ap (memory_of (ours (facts_of 2) 0) chip₀ mem₀) one ∙ sym b.stored,
        a.events ∙ sym b.events,
      )

  same_mark : MarkFirst see → answered.answer.mark ≡ (over bus es).answer.mark
  unfolding over
  same_mark first =
      let b = ends_right 2 0 chip₀ mem₀ bus (drawn_of es) (our_fine bus es) in
      mark_one (ours (facts_of 2) 0) chip₀ mem₀ bus (drawn_of es) b.with_ends answered.answer.mark (over bus es).answer.mark
      (first 2 0 chip₀ mem₀ bus (drawn_of es) b.with_ends fine b.captured b.placed)
      (mark_first 2 0 chip₀ mem₀ bus (drawn_of es) b.with_ends (our_fine bus es) b.captured b.placed)

-- ---- a test of what the master releases

abbrev releases_of : Model → Chip → Mem → ℕ → List ℕ → Bool
releases_of M c m place [] = true
releases_of M c m place (e ∷ es) =
    cond (ltb e 2 && compared_of c.line place) (eqb e 1) true && releases_of M (M.next c e) (M.store c m e) (place_of place e) es

releases_right : (M : Model) (c : Chip) (m : Mem) (place : ℕ) (es : List ℕ) → releases_of M c m place es ≡ true → Releases M c m place es
releases_right M c m place [] h = tt
releases_right M c m place (e ∷ es) h =
    let w =
    and_both (cond (ltb e 2 && compared_of c.line place) (eqb e 1) true) (releases_of M (M.next c e) (M.store c m e) (place_of place e) es) h in
    (λ l k. eqb-true e 1 (here l k w.0), releases_right M (M.next c e) (M.store c m e) (place_of place e) es w.1)
  where
    here : e < 2 → compared_of c.line place ≡ true → cond (ltb e 2 && compared_of c.line place) (eqb e 1) true ≡ true → eqb e 1 ≡ true
    here l k g = rw (lt-ltb e 2 l, k) at g

-- ---- any with the fault

apart : {s n v : ℕ} → Same ≡ At s n v → ⊥
apart e = let z : ◌≡◌ {A = ℕ} 0 1 = cc in omega arith

never_marks : NeverMarksBreaks
never_marks see a n first = apart (sym (n 2 0 chip₀ mem₀ true (drawn_of (selected true))) ∙ same_mark see a true (selected true) first ∙ worked.unacknowledged)

some_clocks : 0 < clocks_in (events_of true (drawn_of byte_written))
unfolding byte_written bits_of byte_of events_of stroke_of drawn_from
some_clocks = omega arith

always_marks : AlwaysMarksBreaks
always_marks see a n first =
    n 2 0 chip₀ mem₀ true (drawn_of byte_written) (fine see a true byte_written) some_clocks (same_mark see a true byte_written first ∙ worked.mark)

ends_nothing : EndsNothingBreaks
ends_nothing see a n right =
    let es = byte_written ++ selected false in
    let z : ◌≡◌ {A = ℕ} 0 1 = sym (n 2 0 chip₀ mem₀ true (drawn_of es)) ∙ (same_run see a true es right).0 ∙ worked.shown_ends in
    omega arith

-- ---- what they come to on these captures, by computation

record Computed : Type 0 where
  busy : busy_in (over true byte_written).answer.chip.line.phase ≡ true
  letter : (over false byte_written).answer.events ≡ 39
  every : (ends_every 2 0 chip₀ mem₀ true (drawn_of (byte_written ++ selected true))).answer.ends ≡ 1
  at_once : (ends_at_once 2 0 chip₀ mem₀ true (drawn_of byte_written)).answer.ends ≡ 1
  all : (compares_all 2 0 chip₀ mem₀ true (drawn_of byte_written)).answer.mark ≡ At 7 1 0
  from_one : (counts_from_one 2 0 chip₀ mem₀ true (drawn_of (selected true))).answer.mark ≡ At 29 8 1
  -- a good board's capture: the master releases the ninth clock, and the chip acknowledges
  line : on_line (ours (facts_of 2) 0) chip₀ mem₀ (selected true) ≡ with_ends_of (ours (facts_of 2) 0) chip₀ (selected false)
  released : releases_of (ours (facts_of 2) 0) chip₀ mem₀ 0 (selected true) ≡ true
  good : (compares_all 2 0 chip₀ mem₀ true (wires_of (ours (facts_of 2) 0) chip₀ mem₀ (selected true))).answer.mark ≡ At 7 1 0

computed : Computed
unfolding facts_of id_size_of enable_right_of buffers_right_of event_with sooner_of lent_verdict_of held_verdict_of roll_of before_of onward_of enabled_of named_of decode_of address_start_of selected_of load_array_of load_id_of loaded_of refuses_of latched_of filled_of locked_by_of taken_of received_of receive_act_of receive_level_of moved_of sent_of send_level_of clocked_of clock_act_of clock_level_of started_of start_act_of asks_of placed_of stopped_of stop_act_of stop_begun_of ended_by_of ended_of end_act_of next_of act_of level_of begun_of marks_right_of pin_right_of lock_right_of phase_right_of rest_right_of in_range_of no_latch one_of counter_page_of committed_of cycle_stored_of stored_of store_with shown_of seen_of state_of chip_level_of after_of memory_of cycles_of pin_at_first_of standby_of coded_of delivered_id_of delivered_of bits_of byte_of events_of rises_of judge_of end_due_of with_ends_of place_of compared_of differs_of mark_from lined_of stroke_of drawn_from seen_verdict_of byte_written selected over
computed =
    record {
      busy = refl;
      letter = refl;
      every = refl;
      at_once = refl;
      all = refl;
      from_one = refl;
      line = refl;
      released = refl;
      good = refl;
    }

keeps_chip : KeepsChipBreaks
unfolding standby_of
keeps_chip see a n right =
    no_way (ap (λ (c : Chip). busy_in c.line.phase) (sym (n 2 0 chip₀ mem₀ true (drawn_of byte_written)) ∙ (same_run see a true byte_written right).1) ∙ computed.busy)

delivered : get_or mem₀.cells 0 0 ≡ 255
unfolding delivered_of facts_of
delivered = refl

keeps_bytes : KeepsBytesBreaks
keeps_bytes see a n right =
    let es = byte_written ++ selected false in
    let z : ◌≡◌ {A = ℕ} 255 0x5A = sym delivered ∙ ap (λ (m : Mem). get_or m.cells 0 0) (sym (n 2 0 chip₀ mem₀ true (drawn_of es)) ∙ (same_run see a true es right).2) ∙ worked.shown_stored in
    omega arith

one_reading : OneReadingBreaks
one_reading see a n right =
    let z : ◌≡◌ {A = ℕ} 38 39 =
    sym worked.events ∙ sym (same_run see a true byte_written right).3 ∙ ap (λ (x : SeenLeft). x.answer.events) (n 2 0 chip₀ mem₀ (drawn_of byte_written))
    ∙ (same_run see a false byte_written right).3 ∙ computed.letter in
    omega arith

-- ---- like ours but for one thing

like_ours : ViewedIsOurs
like_ours part en c m bus ss = go (seen_verdict_of part en c (length m.cells) (length m.ident) ss)
  where
    go : (v : Verdict) → viewed_by (record { with_ends = with_ends_of; mark_of = first_mark }) (ours (facts_of part) en) c m bus ss v ≡ seen_left_of (ours (facts_of part) en) c m bus ss v
    go (Ok _) = refl
    go (Err r) = refl

refuse_as_ours : ViewedAccepts
refuse_as_ours v part en c m bus ss r h = ap (λ (w : Verdict). (viewed_by v (ours (facts_of part) en) c m bus ss w).answer.verdict) (seen_fine part en c m bus ss r h)

ends_every_lem : EndsEveryBreaks
ends_every_lem right =
    let accepts = refuse_as_ours (record { with_ends = every_end_of; mark_of = first_mark }) in
    let z : ◌≡◌ {A = ℕ} 1 0 = sym computed.every ∙ (same_run ends_every accepts true (byte_written ++ selected true) right).0 ∙ worked.poll_ends in
    omega arith

ends_at_once_lem : EndsAtOnceBreaks
ends_at_once_lem right =
    let accepts = refuse_as_ours (record { with_ends = at_once_of; mark_of = first_mark }) in
    let z : ◌≡◌ {A = ℕ} 1 0 = sym computed.at_once ∙ (same_run ends_at_once accepts true byte_written right).0 ∙ worked.ends in
    omega arith

compares_all_lem : ComparesAllBreaks
compares_all_lem first =
    let accepts = refuse_as_ours (record { with_ends = with_ends_of; mark_of = λ M c m rises xs. every_mark M c m 0 rises xs }) in
    apart (sym worked.mark ∙ sym (same_mark compares_all accepts true byte_written first) ∙ computed.all)

counts_from_one_lem : CountsFromOneBreaks
counts_from_one_lem first =
    let accepts = refuse_as_ours (record { with_ends = with_ends_of; mark_of = λ M c m rises xs. one_later (first_mark M c m rises xs) }) in
    let e : At 29 8 1 ≡ At 28 8 1 = sym computed.from_one ∙ same_mark counts_from_one accepts true (selected true) first ∙ worked.unacknowledged in
    let z : ◌≡◌ {A = ℕ} 29 28 = cc in
    omega arith

codes : AllBelow 5 (selected true)
unfolding selected bits_of byte_of
codes = omega arith

codes_seen : AllBelow 4 (selected false)
unfolding selected bits_of byte_of
codes_seen = omega arith

mastered : Mastered (ours (facts_of 2) 0) chip₀ mem₀ (selected true)
mastered =
    record {
      codes = codes;
      releases = releases_right (ours (facts_of 2) 0) chip₀ mem₀ 0 (selected true) computed.released;
      shown = rw computed.line (with_placed (facts_of 2) 0 chip₀ (selected false) codes_seen);
    }

compares_all_good : ComparesAllMarksGood
compares_all_good good =
    apart (sym (ap (λ (x : SeenLeft). x.answer.mark) (good 2 0 chip₀ mem₀ (selected true) ready mastered)) ∙ computed.good)

-- ---- each

pub wrong_runs : WrongRuns
wrong_runs =
    record {
      never_marks = never_marks;
      always_marks = always_marks;
      ends_nothing = ends_nothing;
      keeps_chip = keeps_chip;
      keeps_bytes = keeps_bytes;
      one_reading = one_reading;
      like_ours = like_ours;
      refuse_as_ours = refuse_as_ours;
      ends_every = ends_every_lem;
      ends_at_once = ends_at_once_lem;
      compares_all = compares_all_lem;
      compares_all_good = compares_all_good;
      counts_from_one = counts_from_one_lem;
    }
