-- Each of the wrong counters breaks what is promised, on a history of one or two bytes.
-- Assumes nothing.
use Rattle.std.specs.Prelude.{Ok}
use Prim.Native.Nat.{ℕ, zero, suc, ◌+◌, ◌<◌}
use mathlib.Core.Path.{◌≡◌, ◌∙◌, refl, ap, subst}
use mathlib.Core.Bool.{true, false}
use mathlib.Core.List.{List, [], ◌∷◌, ◌++◌}
use native.Mathlib.Omega.{arith}
use lib.ListN.{length, get_or, take, drop, set, replicate, length-set}
use Rattle.parts.specs.Verdict.{Verdict}
use Rattle.parts.specs.Table.{facts_of, groups_of, id_size_of, buffers_right_of, enable_right_of, address_bytes_of}
use Rattle.parts.specs.Events.{event_with, event_right_of}
use Rattle.parts.specs.Bytes.{AllBelow, all_below_of, topped, up_of}
use Rattle.parts.proofs.Bytes.{low_before}
use lib.Dec.{ltb}
use borrow.Author.Tests.{ltb-true}
use Rattle.parts.specs.Refusals.{sooner_of, lent_verdict_of, loss_verdict_of}
use Rattle.line.specs.Rules.{roll_of, before_of, onward_of, enabled_of, named_of, decode_of, address_start_of, selected_of, load_array_of, load_id_of, loaded_of, refuses_of, latched_of, filled_of, locked_by_of, taken_of, received_of, receive_act_of, receive_level_of, clocked_of, clock_act_of, clock_level_of, started_of, start_act_of, asks_of, placed_of, stopped_of, stop_act_of, stop_begun_of, ended_by_of, ended_of, end_act_of, pinned_of, reset_of, next_of, act_of, level_of, begun_of}
use Rattle.state.specs.declared.Chip.{Chip}
use Rattle.state.specs.Range.{marks_right_of, pin_right_of, lock_right_of, phase_right_of, rest_right_of, in_range_of}
use Rattle.chip.specs.Memory.{no_latch, counter_page_of, touched_of, seen_of, state_of, chip_level_of}
use Rattle.chip.specs.Delivery.{pin_at_first_of, standby_of, delivered_id_of, delivered_of}
use Rattle.chip.specs.Model.{old, ours}
use Rattle.chip.specs.Runs.{levels_of, cycles_of, closes_of}
use Rattle.chip.specs.Calls.{held_verdict_of, cut_verdict_of, run_verdict_of}
use Rattle.chip_promises.specs.Stops.{lock_chosen_of, writes_of, asks_cycle_of, well_placed_of, start_seen, clock_seen, stop_seen, end_seen, pin_seen, watch_of, stop_of, watch_at}
use Rattle.chip_promises.specs.Calls.{noted}
use Rattle.chip_promises.specs.Histories.{byte_sent, item_codes_of, S, P, E, R}
use Rattle.wear.specs.Wear.{Counter, bumped_of, page_worn_of, target_worn_of, cycle_worn_of, closed_in, worn_of, our_counter, worn_by}
use Rattle.wear.specs.Report.{sum_of}
use Rattle.wear.specs.Calls.{counts_verdict_of, WearLeft, wear_verdict, wear_left_of, wear_with, wear_of}
use Rattle.wear_promises.specs.History.{address_of, data_count_of, lands_of, names_array, touches_of, pending_of, completes_of, times_of, touched_in}
use Rattle.wear_promises.specs.Counts.{Counts, after_wear, wear_calls_by, WearIsHistory, NoneAtTop}
use Rattle.wear_promises.specs.Told.{zeros}
use Rattle.wear_promises.specs.WrongCounters.{counts_nothing, counts_at_stop, counts_each_byte, counts_no_cuts, counts_ident, counts_first, counts_page, counts_wrapping, TotalOf, WrongCounters}
use Rattle.wear_promises.specs.Histories.{written}
use Rattle.wear_promises.proofs.Told.{zeros_counts}
use Rattle.wear_promises.proofs.Totals.{total_is_history}

-- ---- a history from delivery

abbrev pub chip_of : ℕ → Chip
chip_of part = standby_of (facts_of part) false

-- what the events leave of the counts, and what their history says of group n
module _ (W : Counter) (kept : WearIsHistory (wear_with W)) (part : ℕ) (counts es : List ℕ) (held : Counts part counts) where
  abbrev levels : List ℕ
  levels = levels_of (ours (facts_of part) 0) (chip_of part) (delivered_of part) es

  says : wear_verdict part 0 old (chip_of part) (delivered_of part) counts es (replicate (length es) 0) ≡ Ok tt → (n : ℕ) → n < groups_of (facts_of part)
      → get_or (worn_by W (ours (facts_of part) 0) (facts_of part) (chip_of part) counts es) n 0
      ≡ topped (get_or counts n 0 + times_of (facts_of part) (watch_at (chip_of part)) [] es (take (length es) (levels ++ drop (length es) (replicate (length es) 0))) n)
  unfolding wear_calls_by after_wear standby_of
  says fine n h =
      let x : Verdict → ℕ = λ v. get_or (wear_left_of W part 0 old (chip_of part) (delivered_of part) counts es (replicate (length es) 0) v).counts n 0 in
      let y : Verdict → ℕ = λ v.
      let z = (wear_left_of W part 0 old (chip_of part) (delivered_of part) counts es (replicate (length es) 0) v).run in
      topped (get_or counts n 0 + times_of (facts_of part) (watch_at (chip_of part)) [] (noted z.answer.verdict [] es) (noted z.answer.verdict [] (take (length es) z.answers)) n) in
      subst (λ (v : Verdict). x v ≡ y v) fine
      ((kept part 0 (chip_of part) (delivered_of part) counts (record { cut = old; events = es; answers = replicate (length es) 0 } ∷ []) refl held).1 n h)

-- ---- nothing refuses them

-- one byte at 0005h, ended, cut, or under way; two bytes of a group; two of two groups
abbrev pub ended : List ℕ
ended = item_codes_of (written ++ E ∷ [])

abbrev cut : List ℕ
cut = item_codes_of (written ++ R ∷ [])

abbrev running : List ℕ
running = item_codes_of written

abbrev two_at : ℕ → List ℕ
two_at at = item_codes_of (S ∷ byte_sent 0xA0 0 ∷ byte_sent 0 0 ∷ byte_sent at 0 ∷ byte_sent 7 0 ∷ byte_sent 8 0 ∷ P ∷ E ∷ [])

abbrev ident : List ℕ
ident = item_codes_of (S ∷ byte_sent 0xB0 0 ∷ byte_sent 0 0 ∷ byte_sent 5 0 ∷ byte_sent 7 0 ∷ P ∷ E ∷ [])

abbrev pub Accepted : ℕ → List ℕ → List ℕ → Type 0
Accepted part counts es = wear_verdict part 0 old (chip_of part) (delivered_of part) counts es (replicate (length es) 0) ≡ Ok tt

accepts : Accepted 2 (zeros 2) ended × (Accepted 2 (zeros 2) cut × (Accepted 2 (zeros 2) running × (Accepted 2 (zeros 2) (two_at 4) × (Accepted 2 (zeros 2) (two_at 3) × Accepted 3 (zeros 3) ident))))
unfolding counts_verdict_of groups_of run_verdict_of sooner_of lent_verdict_of loss_verdict_of held_verdict_of cut_verdict_of facts_of id_size_of enable_right_of event_right_of buffers_right_of marks_right_of pin_right_of lock_right_of phase_right_of rest_right_of in_range_of standby_of pin_at_first_of no_latch delivered_of delivered_id_of
accepts = (refl, (refl, (refl, (refl, (refl, refl)))))

-- ---- what each of them has of a group, against the history

abbrev top : List ℕ
top = set (zeros 2) 1 4294967295

top_counts : Counts 2 top
top_counts = record { size = length-set (zeros 2) 1 4294967295 ∙ (zeros_counts 2).size; wide = put (zeros 2) 1 (zeros_counts 2).wide }
  where
    put : (l : List ℕ) (i : ℕ) → AllBelow 4294967296 l → AllBelow 4294967296 (set l i 4294967295)
    put [] i o = tt
    put (y ∷ l) zero o = (omega arith, o.1)
    put (y ∷ l) (suc i) o = (o.0, put l i o.1)

accepts_top : Accepted 2 top ended
unfolding counts_verdict_of groups_of run_verdict_of sooner_of lent_verdict_of loss_verdict_of held_verdict_of cut_verdict_of facts_of id_size_of enable_right_of event_right_of buffers_right_of marks_right_of pin_right_of lock_right_of phase_right_of rest_right_of in_range_of standby_of pin_at_first_of no_latch delivered_of delivered_id_of
accepts_top = refl

module _ (W : Counter) (kept : WearIsHistory (wear_with W)) where
  -- the counts on the left; on the right the history's
  abbrev Left : ℕ → List ℕ → List ℕ → ℕ → ℕ
  Left part counts es n = get_or (worn_by W (ours (facts_of part) 0) (facts_of part) (chip_of part) counts es) n 0

  -- what the history says of each
  record Says : Type 0 where
    once : Left 2 (zeros 2) ended 1 ≡ 1
    beside : Left 2 (zeros 2) ended 0 ≡ 0
    stays : Left 2 top ended 1 ≡ 4294967295
    lost : Left 2 (zeros 2) cut 1 ≡ 1
    none : Left 2 (zeros 2) running 1 ≡ 0
    group : Left 2 (zeros 2) (two_at 4) 1 ≡ 1
    both : Left 2 (zeros 2) (two_at 3) 1 ≡ 1
    other : Left 3 (zeros 3) ident 1 ≡ 0

  said : Says
  unfolding groups_of times_of completes_of pending_of touches_of names_array lands_of data_count_of address_of closes_of stop_of watch_of well_placed_of start_seen clock_seen stop_seen end_seen pin_seen asks_cycle_of writes_of lock_chosen_of address_bytes_of facts_of event_with levels_of standby_of pin_at_first_of no_latch state_of chip_level_of decode_of enabled_of named_of address_start_of selected_of load_array_of load_id_of loaded_of refuses_of latched_of filled_of locked_by_of taken_of received_of receive_act_of receive_level_of clocked_of clock_act_of clock_level_of started_of start_act_of asks_of placed_of stopped_of stop_act_of ended_by_of ended_of end_act_of pinned_of reset_of next_of act_of level_of roll_of before_of onward_of seen_of delivered_of
  said =
      let two = says W kept 2 (zeros 2) in
      let z = zeros_counts 2 in
      record {
        once = two ended z accepts.0 1 (omega arith);
        beside = two ended z accepts.0 0 (omega arith);
        stays = says W kept 2 top ended top_counts accepts_top 1 (omega arith);
        lost = two cut z accepts.1.0 1 (omega arith);
        none = two running z accepts.1.1.0 1 (omega arith);
        group = two (two_at 4) z accepts.1.1.1.0 1 (omega arith);
        both = two (two_at 3) z accepts.1.1.1.1.0 1 (omega arith);
        other = says W kept 3 (zeros 3) ident (zeros_counts 3) accepts.1.1.1.1.1 1 (omega arith);
      }

-- ---- totals

sum_zeros : (n : ℕ) → sum_of (replicate n 0) ≡ 0
sum_zeros zero = refl
sum_zeros (suc n) = omega (arith, sum_zeros n)

sum_keeps : TotalOf (λ x. sum_of x.counts)
unfolding wear_calls_by after_wear
sum_keeps part en w c m es a o fine low =
    let r = total_is_history part en c m (zeros part) (record { cut = w; events = es; answers = a } ∷ []) o (zeros_counts part) low in
    let told : Verdict → ℕ = (λ (v : Verdict). touched_in (facts_of part) (watch_at c) [] (noted v [] es) (noted v [] (take (length es) (wear_of part en w c m (zeros part) es a).run.answers))) in
    let t = told (wear_of part en w c m (zeros part) es a).run.answer.verdict in
    let none : sum_of (zeros part) + t ≡ t = ap (λ (z : ℕ). z + t) (sum_zeros (groups_of (facts_of part))) ∙ omega arith in
    r ∙ none ∙ ap told fine

-- two groups are touched in one cycle
all-below : (b : ℕ) (l : List ℕ) → all_below_of b true l ≡ true → AllBelow b l
unfolding all_below_of
all-below b [] h = tt
all-below b (x ∷ l) h = let q : ltb x b ≡ true = low_before b (ltb x b) l h in (ltb-true x b q, all-below b l (rw q at h))

low_two : NoneAtTop (worn_by our_counter (ours (facts_of 2) 0) (facts_of 2) (chip_of 2) (zeros 2) (two_at 3))
unfolding worn_by worn_of closed_in cycle_worn_of target_worn_of page_worn_of bumped_of up_of counter_page_of touched_of cycles_of begun_of stop_begun_of groups_of times_of completes_of pending_of touches_of names_array lands_of data_count_of address_of closes_of stop_of watch_of well_placed_of start_seen clock_seen stop_seen end_seen pin_seen asks_cycle_of writes_of lock_chosen_of address_bytes_of facts_of event_with levels_of standby_of pin_at_first_of no_latch state_of chip_level_of decode_of enabled_of named_of address_start_of selected_of load_array_of load_id_of loaded_of refuses_of latched_of filled_of locked_by_of taken_of received_of receive_act_of receive_level_of clocked_of clock_act_of clock_level_of started_of start_act_of asks_of placed_of stopped_of stop_act_of ended_by_of ended_of end_act_of pinned_of reset_of next_of act_of level_of roll_of before_of onward_of seen_of delivered_of all_below_of
low_two = all-below 4294967295 (worn_by our_counter (ours (facts_of 2) 0) (facts_of 2) (chip_of 2) (zeros 2) (two_at 3)) refl

cycles_break : TotalOf (λ x. x.run.answer.cycles) → ⊥
unfolding worn_by worn_of closed_in cycle_worn_of target_worn_of page_worn_of bumped_of up_of counter_page_of touched_of cycles_of begun_of stop_begun_of groups_of times_of completes_of pending_of touches_of names_array lands_of data_count_of address_of closes_of stop_of watch_of well_placed_of start_seen clock_seen stop_seen end_seen pin_seen asks_cycle_of writes_of lock_chosen_of address_bytes_of facts_of event_with levels_of standby_of pin_at_first_of no_latch state_of chip_level_of decode_of enabled_of named_of address_start_of selected_of load_array_of load_id_of loaded_of refuses_of latched_of filled_of locked_by_of taken_of received_of receive_act_of receive_level_of clocked_of clock_act_of clock_level_of started_of start_act_of asks_of placed_of stopped_of stop_act_of ended_by_of ended_of end_act_of pinned_of reset_of next_of act_of level_of roll_of before_of onward_of seen_of delivered_of touched_in
cycles_break k =
    let a : List ℕ = replicate (length (two_at 3)) 0 in
    let x : Verdict → WearLeft = (λ (v : Verdict). wear_left_of our_counter 2 0 old (chip_of 2) (delivered_of 2) (zeros 2) (two_at 3) a v) in
    let q : (v : Verdict) → Type 0 = (λ (v : Verdict). (x v).run.answer.verdict ≡ Ok tt → NoneAtTop (x v).counts → (x v).run.answer.cycles ≡ touched_in (facts_of 2) (watch_at (chip_of 2)) [] (two_at 3) (take (length (two_at 3)) (x v).run.answers)) in
    let z : ◌≡◌ {A = ℕ} 1 2 = subst q accepts.1.1.1.1.0 (k 2 0 old (chip_of 2) (delivered_of 2) (two_at 3) a refl) refl low_two in
    omega arith

pub wrong_counters : WrongCounters
unfolding worn_by worn_of closed_in cycle_worn_of target_worn_of page_worn_of bumped_of up_of counter_page_of touched_of cycles_of begun_of stop_begun_of groups_of times_of completes_of pending_of touches_of names_array lands_of data_count_of address_of closes_of stop_of watch_of well_placed_of start_seen clock_seen stop_seen end_seen pin_seen asks_cycle_of writes_of lock_chosen_of address_bytes_of facts_of event_with levels_of standby_of pin_at_first_of no_latch state_of chip_level_of decode_of enabled_of named_of address_start_of selected_of load_array_of load_id_of loaded_of refuses_of latched_of filled_of locked_by_of taken_of received_of receive_act_of receive_level_of clocked_of clock_act_of clock_level_of started_of start_act_of asks_of placed_of stopped_of stop_act_of ended_by_of ended_of end_act_of pinned_of reset_of next_of act_of level_of roll_of before_of onward_of seen_of delivered_of
wrong_counters =
    record {
      nothing_breaks = λ k. let z : ◌≡◌ {A = ℕ} 0 1 = (said counts_nothing k).once in omega arith;
      at_stop_breaks = λ k. let z : ◌≡◌ {A = ℕ} 1 0 = (said counts_at_stop k).none in omega arith;
      each_byte_breaks = λ k. let z : ◌≡◌ {A = ℕ} 2 1 = (said counts_each_byte k).group in omega arith;
      no_cuts_breaks = λ k. let z : ◌≡◌ {A = ℕ} 0 1 = (said counts_no_cuts k).lost in omega arith;
      ident_breaks = λ k. let z : ◌≡◌ {A = ℕ} 1 0 = (said counts_ident k).other in omega arith;
      first_breaks = λ k. let z : ◌≡◌ {A = ℕ} 0 1 = (said counts_first k).both in omega arith;
      page_breaks = λ k. let z : ◌≡◌ {A = ℕ} 1 0 = (said counts_page k).beside in omega arith;
      wrapping_breaks = λ k. let z : ◌≡◌ {A = ℕ} 0 4294967295 = (said counts_wrapping k).stays in omega arith;
      sum_keeps = sum_keeps;
      cycles_break = cycles_break;
    }
