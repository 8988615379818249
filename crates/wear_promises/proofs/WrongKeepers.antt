-- Each of the wrong keepers breaks what is promised: on a run without events, or with one byte written at 0005h, in group 1.
-- Assumes nothing.
use Rattle.std.specs.Prelude.{Ok, Err}
use Prim.Native.Nat.{ℕ, zero, suc, ◌<◌, ◌≤◌}
use mathlib.Core.Path.{◌≡◌, ◌∙◌, refl, sym, ap, subst⁻¹}
use mathlib.Core.List.{List, []}
use native.Mathlib.Omega.{arith}
use lib.ListN.{length, get_or, set, replicate}
use Rattle.parts.specs.Verdict.{Verdict}
use Rattle.parts.proofs.Claims.{refused_not}
use Rattle.parts.specs.Table.{facts_of, groups_of, id_size_of, buffers_right_of, enable_right_of, address_bytes_of}
use Rattle.parts.specs.Events.{event_with, event_right_of}
use Rattle.parts.specs.Bytes.{up_of}
use Rattle.parts.specs.Refusals.{sooner_of, lent_verdict_of, loss_verdict_of}
use Rattle.line.specs.Rules.{roll_of, before_of, onward_of, enabled_of, named_of, decode_of, address_start_of, selected_of, load_array_of, load_id_of, loaded_of, refuses_of, latched_of, filled_of, locked_by_of, taken_of, received_of, receive_act_of, receive_level_of, clocked_of, clock_act_of, clock_level_of, started_of, start_act_of, asks_of, placed_of, stopped_of, stop_act_of, stop_begun_of, ended_by_of, ended_of, end_act_of, pinned_of, reset_of, next_of, act_of, level_of, begun_of}
use Rattle.state.specs.Range.{marks_right_of, pin_right_of, lock_right_of, phase_right_of, rest_right_of, in_range_of}
use Rattle.chip.specs.Memory.{no_latch, counter_page_of, touched_of, seen_of, state_of, chip_level_of}
use Rattle.chip.specs.Delivery.{pin_at_first_of, standby_of, delivered_id_of, delivered_of}
use Rattle.chip.specs.Model.{old, ours}
use Rattle.chip.specs.Runs.{levels_of, cycles_of, closes_of}
use Rattle.chip.specs.Calls.{held_verdict_of, cut_verdict_of, run_verdict_of}
use Rattle.wear.specs.Wear.{bumped_of, page_worn_of, target_worn_of, cycle_worn_of, closed_in, worn_of, our_counter, worn_by}
use Rattle.wear.specs.Calls.{counts_verdict_of, WearLeft, KeptLeft, wear_verdict, wear_left_of}
use Rattle.wear_promises.specs.Told.{zeros}
use Rattle.parts.specs.declared.Refusal.TheVariants.{BadState}
use Rattle.wear.specs.declared.Most.{Most}
use Rattle.wear.specs.Report.{most, most_of}
use Rattle.wear.specs.Worst.{raised_of}
use Rattle.wear_promises.specs.Kept.{KeptRun, WorstIsWalk, AsBefore, RefusesUnborne}
use Rattle.wear_promises.specs.WrongKeepers.{Takes, WrongKeepers}
use Rattle.wear_promises.proofs.Beside.{wear_told}
use Rattle.wear_promises.proofs.WrongCounters.{chip_of, ended, Accepted}

-- group 2 has seven; 0 and 1 have one each
abbrev seven : List ℕ
seven = set (zeros 2) 2 7

abbrev tied : List ℕ
tied = set (set (zeros 2) 0 1) 1 1

accepted : Accepted 2 seven [] × (Accepted 2 seven ended × (Accepted 2 tied [] × (Accepted 2 tied ended × Accepted 2 (zeros 2) [])))
unfolding counts_verdict_of groups_of run_verdict_of sooner_of lent_verdict_of loss_verdict_of held_verdict_of cut_verdict_of facts_of id_size_of enable_right_of event_right_of buffers_right_of marks_right_of pin_right_of lock_right_of phase_right_of rest_right_of in_range_of standby_of pin_at_first_of no_latch delivered_of delivered_id_of
accepted = (refl, (refl, (refl, (refl, refl))))

-- ---- what is answered

module _ (K : KeptRun) (before : AsBefore K) (walk : WorstIsWalk K) (counts es : List ℕ) (fine : Accepted 2 counts es) where
  abbrev room : List ℕ
  room = replicate (length es) 0

  abbrev said : KeptLeft
  said = K 2 0 old (chip_of 2) (delivered_of 2) counts (most_of counts) es room

  said_fine : said.wear.run.answer.verdict ≡ Ok tt
  said_fine =
      ap (λ (z : WearLeft). z.run.answer.verdict) (before 2 0 old (chip_of 2) (delivered_of 2) counts (most_of counts) es room refl)
      ∙ wear_told 2 0 old (chip_of 2) (delivered_of 2) counts es room (wear_verdict 2 0 old (chip_of 2) (delivered_of 2) counts es room) ∙ fine

  said_counts : said.wear.counts ≡ worn_by our_counter (ours (facts_of 2) 0) (facts_of 2) (chip_of 2) counts es
  said_counts =
      ap (λ (z : WearLeft). z.counts) (before 2 0 old (chip_of 2) (delivered_of 2) counts (most_of counts) es room refl)
      ∙ ap (λ (v : Verdict). (wear_left_of our_counter 2 0 old (chip_of 2) (delivered_of 2) counts es room v).counts) fine

  said_worst : said.worst ≡ most_of (worn_by our_counter (ours (facts_of 2) 0) (facts_of 2) (chip_of 2) counts es)
  said_worst = walk.accepted 2 0 old (chip_of 2) (delivered_of 2) counts (most_of counts) es room said_fine ∙ ap most_of said_counts

-- ---- what is judged

judged : (K : KeptRun) (Q : List ℕ → Most → Type 0) → RefusesUnborne K → Takes Q K → (counts : List ℕ) (worst : Most) → Accepted 2 counts [] → Q counts worst → (worst ≡ most_of counts → ⊥) → ⊥
unfolding sooner_of
judged K Q r t counts worst fine q o =
    let v = wear_told 2 0 old (chip_of 2) (delivered_of 2) counts [] [] (wear_verdict 2 0 old (chip_of 2) (delivered_of 2) counts [] []) ∙ fine in
    let z : ◌≡◌ {A = Verdict} (Err BadState) (Ok tt) =
    sym (r.first 2 0 old (chip_of 2) (delivered_of 2) counts worst [] [] o ∙ ap (λ (u : Verdict). sooner_of (Err BadState) u) v) ∙ t 2 0 old (chip_of 2) (delivered_of 2) counts worst [] [] q v in
    refused_not z

none_more : (n : ℕ) → get_or tied n 0 ≤ 1
unfolding groups_of facts_of
none_more zero = omega arith
none_more (suc zero) = omega arith
none_more (suc (suc n)) = omega (arith, rest 2046 n)
  where
    rest : (k n : ℕ) → get_or {A = ℕ} (replicate k 0) n 0 ≤ 0
    rest zero n = omega arith
    rest (suc k) zero = omega arith
    rest (suc k) (suc n) = rest k n

pub wrong_keepers : WrongKeepers
unfolding worn_by worn_of closed_in cycle_worn_of target_worn_of page_worn_of bumped_of up_of counter_page_of touched_of cycles_of begun_of stop_begun_of groups_of closes_of address_bytes_of facts_of event_with levels_of standby_of pin_at_first_of no_latch state_of chip_level_of decode_of enabled_of named_of address_start_of selected_of load_array_of load_id_of loaded_of refuses_of latched_of filled_of locked_by_of taken_of received_of receive_act_of receive_level_of clocked_of clock_act_of clock_level_of started_of start_act_of asks_of placed_of stopped_of stop_act_of ended_by_of ended_of end_act_of pinned_of reset_of next_of act_of level_of roll_of before_of onward_of seen_of delivered_of raised_of
wrong_keepers =
    record {
      zero_breaks = λ K b w k.
          let z : ◌≡◌ {A = ℕ} 0 7 = ap (λ (x : Most). x.count) (sym (k 2 0 old (chip_of 2) (delivered_of 2) seven (most_of seven) [] [] (said_fine K b w seven [] accepted.0)) ∙ said_worst K b w seven [] accepted.0) in omega arith;
      gives_back_breaks = λ K b w k.
          let z : ◌≡◌ {A = ℕ} 1 2 = ap (λ (x : Most). x.count) (sym (k 2 0 old (chip_of 2) (delivered_of 2) tied (most_of tied) ended (replicate (length ended) 0) (said_fine K b w tied ended accepted.1.1.1.0)) ∙ said_worst K b w tied ended accepted.1.1.1.0) in omega arith;
      last_breaks = λ K b w k.
          let e = said_counts K b w seven ended accepted.1.0 in
          let q : 0 < (raised_of seven (said K b w seven ended accepted.1.0).wear.counts).count = subst⁻¹ (λ (l : List ℕ). 0 < (raised_of seven l).count) e (omega arith) in
          let z : ◌≡◌ {A = ℕ} 1 7 = ap (λ (x : Most). x.count) (sym (k 2 0 old (chip_of 2) (delivered_of 2) seven (most_of seven) ended (replicate (length ended) 0) (said_fine K b w seven ended accepted.1.0) q ∙ ap (raised_of seven) e) ∙ said_worst K b w seven ended accepted.1.0) in omega arith;
      highest_breaks = λ K b w k.
          let s = said_worst K b w tied [] accepted.1.1.0 in
          let g : (said K b w tied [] accepted.1.1.0).worst.group ≡ 0 = ap (λ (x : Most). x.group) s in
          let c : (said K b w tied [] accepted.1.1.0).worst.count ≡ 1 = ap (λ (x : Most). x.count) s in
          let q = k 2 0 old (chip_of 2) (delivered_of 2) tied (most_of tied) [] [] (said_fine K b w tied [] accepted.1.1.0) 1 (omega (arith, g)) in
          let h : get_or (said K b w tied [] accepted.1.1.0).wear.counts 1 0 ≡ 1 = ap (λ (l : List ℕ). get_or l 1 0) (said_counts K b w tied [] accepted.1.1.0) in
          omega (arith, q, h, c);
      group_breaks = λ K b w k.
          let z : ◌≡◌ {A = ℕ} 0 1 = sym (k 2 0 old (chip_of 2) (delivered_of 2) tied (most_of tied) ended (replicate (length ended) 0) (said_fine K b w tied ended accepted.1.1.1.0)) ∙ ap (λ (x : Most). x.group) (said_worst K b w tied ended accepted.1.1.1.0) in omega arith;
      any_breaks = λ K r t. judged K _ r t seven (most 0 0) accepted.0 tt (λ e. let z : ◌≡◌ {A = ℕ} 0 7 = ap (λ (x : Most). x.count) e in omega arith);
      tied_breaks = λ K r t. judged K _ r t tied (most 1 1) accepted.1.1.0 (refl, none_more) (λ e. let z : ◌≡◌ {A = ℕ} 1 0 = ap (λ (x : Most). x.group) e in omega arith);
      first_breaks = λ K r t. judged K _ r t seven (most 0 0) accepted.0 (refl, λ n l. absurd (omega arith)) (λ e. let z : ◌≡◌ {A = ℕ} 0 7 = ap (λ (x : Most). x.count) e in omega arith);
      refuses_breaks = λ K b k.
          let v = wear_told 2 0 old (chip_of 2) (delivered_of 2) (zeros 2) [] [] (wear_verdict 2 0 old (chip_of 2) (delivered_of 2) (zeros 2) [] []) ∙ accepted.1.1.1.1 in
          refused_not (sym (k 2 0 old (chip_of 2) (delivered_of 2) (zeros 2) (most_of (zeros 2)) [] []) ∙ ap (λ (z : WearLeft). z.run.answer.verdict) (b 2 0 old (chip_of 2) (delivered_of 2) (zeros 2) (most_of (zeros 2)) [] [] refl) ∙ v);
    }
