-- No call of a run is refused for the state, so the run of calls is the run.
-- Assumes nothing.
use Rattle.std.specs.Prelude.{Ok, Err}
use Prim.Native.Nat.{ℕ, zero, suc, ◌+◌, ◌<◌}
use mathlib.Core.Path.{◌≡◌, refl, sym, ◌∙◌, ap, subst}
use mathlib.Core.Bool.{Bool, true, false, false≢true}
use mathlib.Core.List.{List, [], ◌∷◌, ◌++◌}
use lib.ListN.{length, get_or, replicate}
use lib.Dec.{eqb, ltb}
use native.Mathlib.Omega.{arith}
use borrow.Author.Tests.{lt-ltb, eq-eqb}
use Rattle.parts.specs.declared.Refusal.TheVariants.{BadState}
use Rattle.parts.specs.Verdict.{Verdict}
use Rattle.parts.specs.Table.{facts_of, id_size_of, enable_right_of, buffers_right_of}
use Rattle.parts.specs.Events.{event_with, event_of}
use Rattle.parts.specs.Refusals.{is_fine, number_of, sooner_of}
use Rattle.parts.specs.Bytes.{AllBelow}
use Rattle.parts.proofs.Laws.{branch}
use Rattle.parts.proofs.Claims.{refused_not, sooner_fine}
use Rattle.line.specs.declared.Target.{Target}
use Rattle.line.specs.declared.Target.TheVariants.{Array as TheArray, Ident as TheIdent}
use Rattle.line.specs.declared.Cycle.TheVariants.{Writing}
use Rattle.line.specs.declared.Phase.TheVariants.{Idle, Busy}
use Rattle.line.specs.Rules.{enabled_of, named_of, decode_of, address_start_of, selected_of, load_array_of, loaded_of, refuses_of, latched_of, filled_of, locked_by_of, taken_of, received_of, receive_act_of, receive_level_of, moved_of, clocked_of, clock_act_of, clock_level_of, started_of, start_act_of, asks_of, placed_of, stopped_of, ended_by_of, ended_of, end_act_of, next_of, act_of, level_of, begun_of}
use Rattle.state.specs.declared.Chip.{Chip}
use Rattle.state.specs.Range.{in_range_of}
use Rattle.chip.specs.Memory.{Mem, cells_of, seen_of, state_of, chip_level_of}
use Rattle.chip.specs.Model.{Model, old, ours}
use Rattle.chip.specs.Calls.{cut_verdict_of, step_verdict_of, step_by, step_mem, step_verdict, step_of}
use Rattle.chip.specs.Delivery.{pin_at_first_of, standby_of, delivered_id_of, delivered_of}
use Rattle.chip.specs.Onward.{ignores_of}
use Rattle.chip.proofs.Laws.{cut_fine}
use Rattle.chip_laws.proofs.Range.{standby_in_range}
use Rattle.chip_laws.proofs.Runs.{store_lengths}
use Rattle.driver.specs.declared.Request.{Request}
use Rattle.driver.specs.declared.Failed.{Failed}
use Rattle.driver.specs.declared.Failed.TheVariants.{AtSelect, AtHigh, AtLow, AtData, AtPolls}
use Rattle.driver.specs.declared.Slot.{Slot}
use Rattle.driver.specs.declared.Slot.TheVariants.{Select, High, Low, Data, Poll, Turn, Take}
use Rattle.driver.specs.declared.Phase.{Phase}
use Rattle.driver.specs.declared.Phase.TheVariants.{Ready, Bits, Heard, Rest, Over}
use Rattle.driver.specs.declared.Counts.{Counts}
use Rattle.driver.specs.declared.Driver.{Driver}
use Rattle.driver.specs.declared.Move.{Move}
use Rattle.driver.specs.declared.Asked.{Asked}
use Rattle.driver.specs.declared.Answer.{Answer}
use Rattle.driver.specs.declared.Answer.TheVariants.{Send, Done, Refused}
use Rattle.driver.specs.Request.{k_of, allowed_of, beyond_at, limit_of, judge_of}
use Rattle.driver.specs.Split.{to_page_end_of, pages_met_of}
use Rattle.driver.specs.Step.{last_address_of, refusal_of, select_at, wire_of, slot_byte_of, bit_of, send_then, follow_of, shift_of, ready_of, bits_at, lead_at, low_at, data_at, poll_move_of, answered_of, take_at, heard_at, heard_move_of, bits_move_of, move_at, driver_step_of, counts_right, range_of, driver_next_of, byte_kept_of, buffer_of, fresh}
use Rattle.driver.specs.Machine.{our_driver}
use Rattle.driver.proofs.Facts.{range_good}
use Rattle.driver_promises.proofs.View.{at}
use Rattle.driver_promises.proofs.Inv.{in_range}
use Rattle.bench.specs.Together.{System, start_of, clock_of, ends, answered_by, asked_of, cycle_ended_of, together_of}
use Rattle.bench.specs.Held.{Fit}
use Rattle.bench.specs.Tape.{sends_of}
use Rattle.bench.proofs.Laws.{Small, small, quiet, fine_step, fit_on}
use Rattle.bench_promises.specs.Together.{our_run, Begins, Session, answer_of, first, ChipRanged, Safe, ReadRight}
use Rattle.bench_promises.specs.Ends.{Complete}
use Rattle.bench_promises.specs.Trials.{five_bytes, five_at30}
use Rattle.bench_promises.specs.Accepted.{BeginAccepted, Accepts, StepsAccepted, finished_by, stepped_by, next_called_of, end_called_of, calls_of, by_calls, CallsAreRun, TrueOfCalls, CallsWriteSafe, CallsReadRight, CallsWriteEnd, refusing_ends, nine_left, RefusedMidwayBreaks}
use Rattle.bench_promises.proofs.Whole.{Holds, G, sane, holds}
use Rattle.bench_promises.proofs.Stored.{spoken}
use Rattle.bench_promises.proofs.Sessions.{writes_safe, reads_right, writes_end}

-- ---- a driver that sends nothing stays as it is

abbrev Sends : Move → Type 0
Sends m = sends_of m.answer ≡ true

heard_sends : (d : Driver) (level clock : ℕ) (slot : Slot) → Sends (heard_at d slot level clock)
unfolding lead_at low_at data_at poll_move_of answered_of take_at
heard_sends d level clock Select = branch Sends (eqb level 0) (λ _. refl) (λ _. refl)
heard_sends d level clock High = branch Sends (eqb level 0) (λ _. refl) (λ _. refl)
heard_sends d level clock Low = branch Sends (eqb level 0) (λ _. branch Sends d.request.reads (λ _. refl) (λ _. refl)) (λ _. refl)
heard_sends d level clock Data = branch Sends (eqb level 0) (λ _. branch Sends (eqb d.counts.at _) (λ _. refl) (λ _. refl)) (λ _. refl)
heard_sends d level clock Poll = branch Sends (eqb level 0) (λ _. refl) (λ _. branch Sends (ltb d.counts.tries _) (λ _. refl) (λ _. refl))
heard_sends d level clock Turn = branch Sends (eqb level 0) (λ _. refl) (λ _. refl)
heard_sends d level clock Take = branch Sends (eqb d.counts.at d.request.length) (λ _. refl) (λ _. refl)

module _ (d : Driver) (level value : ℕ) where
  abbrev Stays : Phase → Move → Type 0
  Stays p m = sends_of m.answer ≡ false → (m.phase ≡ p) × (m.counts ≡ d.counts)

  sending : (p : Phase) (m : Move) → Sends m → Stays p m
  sending p m s h = absurd (false≢true (sym h ∙ s))

  move_stays : (p : Phase) → Stays p (move_at p d level value)
  unfolding ready_of bits_move_of bits_at heard_move_of poll_move_of
  move_stays Ready = branch (Stays Ready) (eqb d.counts.at d.request.length) (λ _ h. (refl, refl)) (λ _. sending Ready (send_then 2 (Bits Select 0) d.counts) refl)
  move_stays (Bits slot b) = sending (Bits slot b) (move_at (Bits slot b) d level value) (branch Sends (ltb b 8) (λ _. refl) (λ _. refl))
  move_stays (Heard slot) = sending (Heard slot) (move_at (Heard slot) d level value) (heard_sends d level (bit_of (slot_byte_of (wire_of d value) (follow_of slot (facts_of d.request.part).wide)) 0) slot)
  move_stays Rest = sending Rest (move_at Rest d level value) refl
  move_stays (Over f) = λ h. (refl, refl)

  step_stays : sends_of (driver_step_of d level value).answer ≡ false → (driver_step_of d level value).driver ≡ d
  unfolding driver_step_of
  step_stays h =
      let e = move_stays d.phase h in
      ap (λ (p : Phase). record { request = d.request; phase = p; counts = (move_at d.phase d level value).counts }) e.0
      ∙ ap (λ (k : Counts). record { request = d.request; phase = d.phase; counts = k }) e.1

next_stays : (d : Driver) (level : ℕ) (b : List ℕ) → sends_of (driver_next_of d level b).answer ≡ false → (driver_next_of d level b).driver ≡ d
unfolding driver_next_of
next_stays d level b =
    branch (λ (a : Asked). sends_of a.answer ≡ false → a.driver ≡ d) (range_of d (length b)) (λ _. step_stays d level (get_or b d.counts.at 0)) (λ _ h. refl)

-- ---- what `step` needs of the chip and its memory: every event of a run keeps it

module _ (part en : ℕ) where
  abbrev M : Model
  M = ours (facts_of part) en

  abbrev Fits : System → Type 0
  Fits s = Fit part en s.chip (length s.mem.cells) (length s.mem.ident)

  fits_on : (c : Chip) (m : Mem) (e : ℕ) → e < 5 → Fit part en c (length m.cells) (length m.ident)
      → Fit part en (M.next c e) (length (M.store c m e).cells) (length (M.store c m e).ident)
  fits_on c m e h t =
      let l = store_lengths [] (facts_of part) c m (event_of e) in
      rw (l.0, l.1) (fit_on part en c (length m.cells) (length m.ident) t e h)

  taken : (s : System) (e : ℕ) → e < 5 → Fits s → step_verdict part en old s.chip s.mem e ≡ Ok tt
  taken s e h t = fine_step part en s.chip (length s.mem.cells) (length s.mem.ident) t e h

  -- the answer's own verdict
  told : (c : Chip) (m : Mem) (e : ℕ) → step_verdict part en old c m e ≡ Ok tt → (step_of part en old c m e).answer.verdict ≡ Ok tt
  told c m e h = ap (λ (v : Verdict). (step_by M c m e v).verdict) h

  -- ---- one asking

  answered_fits : (s : System) (d : Driver) (b : List ℕ) (a : Answer) → Small a → Fits s → Fits (answered_by M s d b a)
  answered_fits s d b (Send e) h t = fits_on s.chip s.mem e (omega arith) t
  answered_fits s d b (Done q n) h t = t
  answered_fits s d b (Refused f q n) h t = t

  answered_same : (s : System) (d : Driver) (b : List ℕ) (a : Answer) → Small a → (sends_of a ≡ false → (d ≡ s.driver) × (b ≡ s.buffer)) → Fits s
      → stepped_by step_of part en s d b a ≡ answered_by M s d b a
  answered_same s d b (Send e) h k t =
      ap
      (λ (v : Verdict).
      record {
        driver = d;
        level = (step_by M s.chip s.mem e v).level;
        buffer = b;
        chip = (step_by M s.chip s.mem e v).chip;
        mem = step_mem M s.chip s.mem e v;
        cycles = s.cycles + (step_by M s.chip s.mem e v).cycles;
        clocks = s.clocks + clock_of e;
      })
      (taken s e (omega arith) t)
  answered_same s d b (Done q n) h k t = let e = k refl in ap (λ (x : Driver). finished_by s x b) e.0 ∙ ap (finished_by s s.driver) e.1
  answered_same s d b (Refused f q n) h k t = let e = k refl in ap (λ (x : Driver). finished_by s x b) e.0 ∙ ap (finished_by s s.driver) e.1

  module _ (s : System) (t : Fits s) where
    asked_fits : Fits (asked_of our_driver M s)
    unfolding asked_of
    asked_fits =
        answered_fits s (driver_next_of s.driver s.level s.buffer).driver (buffer_of s.driver s.level s.buffer) (answer_of s) (small s.driver s.level s.buffer) t

    asked_same : next_called_of step_of part en our_driver s ≡ asked_of our_driver M s
    unfolding next_called_of asked_of
    asked_same =
        answered_same s (driver_next_of s.driver s.level s.buffer).driver (buffer_of s.driver s.level s.buffer) (answer_of s) (small s.driver s.level s.buffer)
        (λ h. (next_stays s.driver s.level s.buffer h, quiet s.driver s.level s.buffer h)) t

    -- ---- one end of a cycle, which begins none
    ended_fits : Fits (cycle_ended_of M s)
    unfolding cycle_ended_of
    ended_fits = fits_on s.chip s.mem ends (omega arith) t

    none_begun : s.cycles + begun_of s.chip.line (event_of ends) ≡ s.cycles
    unfolding begun_of event_with
    none_begun = omega arith

    ended_same : end_called_of step_of part en s ≡ cycle_ended_of M s
    unfolding end_called_of cycle_ended_of
    ended_same =
        ap
        (λ (v : Verdict).
        record {
          driver = s.driver;
          level = s.level;
          buffer = s.buffer;
          chip = (step_by M s.chip s.mem ends v).chip;
          mem = step_mem M s.chip s.mem ends v;
          cycles = s.cycles + (step_by M s.chip s.mem ends v).cycles;
          clocks = s.clocks;
        })
        (taken s ends (omega arith) t)
        ∙ ap
        (λ (n : ℕ).
        record {
          driver = s.driver;
          level = s.level;
          buffer = s.buffer;
          chip = M.next s.chip ends;
          mem = M.store s.chip s.mem ends;
          cycles = n;
          clocks = s.clocks;
        })
        none_begun

  -- ---- any choices

  all_fit : (bs : List Bool) (s : System) → Fits s → Fits (together_of our_driver M bs s)
  unfolding together_of
  all_fit [] s t = t
  all_fit (true ∷ bs) s t = all_fit bs (asked_of our_driver M s) (asked_fits s t)
  all_fit (false ∷ bs) s t = all_fit bs (cycle_ended_of M s) (ended_fits s t)

  all_same : (bs : List Bool) (s : System) → Fits s → calls_of step_of part en our_driver bs s ≡ together_of our_driver M bs s
  unfolding together_of calls_of
  all_same [] s t = refl
  all_same (true ∷ bs) s t = ap (calls_of step_of part en our_driver bs) (asked_same s t) ∙ all_same bs (asked_of our_driver M s) (asked_fits s t)
  all_same (false ∷ bs) s t = ap (calls_of step_of part en our_driver bs) (ended_same s t) ∙ all_same bs (cycle_ended_of M s) (ended_fits s t)

-- ---- from the start

module _ (r : Request) (xs : List ℕ) (c : Chip) (m : Mem) (b : Begins r xs c m) (v : ChipRanged r c) where
  start_fits : Fits r.part r.enable (start_of r xs c m)
  unfolding enable_right_of buffers_right_of
  start_fits =
      let g = (sane r xs c m b).good in
      let o = b.idle in
      record {
        known = g.known;
        enabled = lt-ltb _ _ g.enable;
        lent = rw (eq-eqb _ _ o.cells, eq-eqb _ _ o.ident) refl;
        ranged = v.ranged;
        typed = v.typed;
      }

  module _ (bs : List Bool) where
    abbrev Y : System
    Y = together_of our_driver (ours (facts_of r.part) r.enable) bs (start_of r xs c m)

    fits : Fits r.part r.enable Y
    fits = all_fit r.part r.enable bs (start_of r xs c m) start_fits

    H : Holds (G r xs c m b) Y
    H = holds r xs c m b bs

    driver_is : at r Y.driver.phase Y.driver.counts ≡ Y.driver
    driver_is = ap (λ (q : Request). at q Y.driver.phase Y.driver.counts) (sym H.request)

    driver_in : range_of Y.driver (length Y.buffer) ≡ true
    driver_in =
        subst (λ (d : Driver). range_of d (length Y.buffer) ≡ true) driver_is
        (range_good (at r Y.driver.phase Y.driver.counts) (length Y.buffer) (ap is_fine b.accepted.fine)
        (in_range r Y.driver.phase Y.driver.counts (length Y.buffer) H.size H.inv))

    -- a driver that has begun refuses with 9, 10, 11, 14 or 15
    not_last : (t : Bool) (p : ℕ) → BadState ≡ last_address_of t p → ⊥
    not_last true p e = omega (arith, ap number_of e)
    not_last false p e = omega (arith, ap number_of e)

    not_four : (f : Failed) → BadState ≡ refusal_of r Y.driver.counts f → ⊥
    not_four AtSelect e = omega (arith, ap number_of e)
    not_four AtHigh e = omega (arith, ap number_of e)
    not_four AtLow e = not_last (facts_of r.part).wide _ e
    not_four AtData e = omega (arith, ap number_of e)
    not_four AtPolls e = omega (arith, ap number_of e)

    accepts : Accepts step_of r Y
    accepts =
        record {
          sent = λ e a. told r.part r.enable Y.chip Y.mem e (taken r.part r.enable Y e (few e a) fits);
          ended = told r.part r.enable Y.chip Y.mem ends (taken r.part r.enable Y ends (omega arith) fits);
          ranged = driver_in;
          asked = λ q n e. (let z = spoken r xs c m b bs (Refused BadState q n) e in not_four z.0 z.2);
        }
      where
        few : (e : ℕ) → answer_of Y ≡ Send e → e < 5
        few e a = let h : e < 4 = subst Small a (small Y.driver Y.level Y.buffer) in omega arith

-- ---- the statements

pub begin_accepted : BeginAccepted
begin_accepted w = ap (λ (v : Verdict). record { verdict = v; driver = (first w).driver }) w.begins.accepted.fine

pub steps_accepted : StepsAccepted step_of our_run
steps_accepted w v = accepts w.request w.buffer w.chip w.mem w.begins v w.choices

pub calls_are_run : CallsAreRun our_driver step_of
calls_are_run w v = all_same w.request.part w.request.enable w.choices (first w) (start_fits w.request w.buffer w.chip w.mem w.begins v)

pub true_of_calls : TrueOfCalls our_driver step_of
true_of_calls P w v h = subst P (sym (calls_are_run w v)) h

pub calls_accepted : StepsAccepted step_of (by_calls our_driver step_of)
calls_accepted w v = true_of_calls (Accepts step_of w.request) w v (steps_accepted w v)

-- ---- the demands on writes and reads

pub calls_write_safe : CallsWriteSafe our_driver step_of
calls_write_safe w v h = true_of_calls (Safe w.request w.buffer w.chip w.mem) w v (writes_safe w h)

pub calls_read_right : CallsReadRight our_driver step_of
calls_read_right w v h = true_of_calls (ReadRight w.request w.buffer w.chip w.mem) w v (reads_right w h)

pub calls_write_end : CallsWriteEnd our_driver step_of
calls_write_end w v t = true_of_calls (Complete w.request) w v (writes_end w t)

-- ---- a chip that refuses the end of a cycle

-- the driver's trial: five bytes at 30 of a part 2 as delivered
abbrev chip₀ : Chip
chip₀ = standby_of (facts_of 2) false

abbrev mem₀ : Mem
mem₀ = delivered_of 2

same_bytes : (n : ℕ) → AllBelow 256 (replicate n 255)
same_bytes zero = tt
same_bytes (suc n) = (omega arith, same_bytes n)

begins : Begins five_at30 five_bytes chip₀ mem₀
unfolding judge_of sooner_of facts_of id_size_of enable_right_of beyond_at limit_of standby_of delivered_of delivered_id_of
begins = record { accepted = record { fine = refl; size = refl }; bytes = below; idle = record { idle = refl; cells = refl; ident = refl; bytes = stored } }
  where
    below : AllBelow 256 five_bytes
    below = (omega arith, (omega arith, (omega arith, (omega arith, (omega arith, tt)))))

    stored : (t : Target) → AllBelow 256 (cells_of t mem₀)
    stored TheArray = same_bytes 8192
    stored TheIdent = tt

abbrev choosing : List Bool → Session
choosing bs = record { request = five_at30; buffer = five_bytes; chip = chip₀; mem = mem₀; begins = begins; choices = bs }

in_range₀ : ChipRanged five_at30 chip₀
in_range₀ = let s = standby_in_range 2 false (λ e. absurd (false≢true e)) in record { typed = s.1; ranged = s.0 }

-- Start, the 45 clocks of select, address and the two bytes of the first page, Stop: its cycle runs
abbrev asks : List Bool
asks = replicate 47 true

abbrev our_after : List Bool → System
our_after bs = our_run (facts_of 2) 0 bs (start_of five_at30 five_bytes chip₀ mem₀)

computed : ((our_after asks).chip.line.phase ≡ Busy (Writing TheArray)) × ((our_after (asks ++ (false ∷ []))).chip.line.phase ≡ Idle)
unfolding facts_of event_with sooner_of enable_right_of enabled_of named_of decode_of address_start_of selected_of load_array_of loaded_of refuses_of latched_of filled_of locked_by_of taken_of received_of receive_act_of receive_level_of moved_of clocked_of clock_act_of clock_level_of started_of start_act_of asks_of placed_of stopped_of ended_by_of ended_of end_act_of next_of act_of level_of seen_of state_of chip_level_of pin_at_first_of standby_of beyond_at limit_of judge_of allowed_of k_of to_page_end_of pages_met_of select_at wire_of bit_of shift_of ready_of bits_at lead_at low_at data_at poll_move_of heard_move_of bits_move_of driver_step_of counts_right range_of driver_next_of byte_kept_of buffer_of asked_of cycle_ended_of together_of
computed = (refl, refl)

-- the last choice, an end, changes nothing in the chip
end_refused : (bs : List Bool) (s : System) → (calls_of refusing_ends 2 0 our_driver (bs ++ (false ∷ [])) s).chip ≡ (calls_of refusing_ends 2 0 our_driver bs s).chip
unfolding calls_of end_called_of
end_refused [] s = refl
end_refused (true ∷ bs) s = end_refused bs (next_called_of refusing_ends 2 0 our_driver s)
end_refused (false ∷ bs) s = end_refused bs (end_called_of refusing_ends 2 0 s)

still_busy : CallsAreRun our_driver refusing_ends → (our_after (asks ++ (false ∷ []))).chip.line.phase ≡ (our_after asks).chip.line.phase
still_busy p =
    ap (λ (s : System). s.chip.line.phase) (sym (p (choosing (asks ++ (false ∷ []))) in_range₀))
    ∙ (ap (λ (k : Chip). k.line.phase) (end_refused asks (start_of five_at30 five_bytes chip₀ mem₀))
    ∙ ap (λ (s : System). s.chip.line.phase) (p (choosing asks) in_range₀))

-- a step that is not refused has a chip in range
says : (M : Model) (c : Chip) (m : Mem) (e : ℕ) (v : Verdict) → (step_by M c m e v).verdict ≡ v
says M c m e (Ok _) = refl
says M c m e (Err r) = refl

ranged : (part en : ℕ) (c : Chip) (m : Mem) (e : ℕ) → (step_of part en old c m e).answer.verdict ≡ Ok tt → in_range_of (facts_of part) c ≡ true
unfolding step_verdict_of
ranged part en c m e h =
    let v = sym (says (ours (facts_of part) en) c m e (step_verdict part en old c m e)) ∙ h in
    (cut_fine part en old c (length m.cells) (length m.ident) (sooner_fine (cut_verdict_of part en old c (length m.cells) (length m.ident)) _ v).0).1.ranged

nine_out : in_range_of (facts_of 2) (nine_left chip₀) ≡ false
unfolding in_range_of facts_of standby_of
nine_out = refl

six_out : range_of (fresh five_at30) 6 ≡ false
unfolding range_of counts_right judge_of sooner_of facts_of enable_right_of beyond_at limit_of
six_out = refl

pub refused_midway_breaks : RefusedMidwayBreaks
unfolding together_of
refused_midway_breaks =
    record {
      ends_accepted = λ p. refused_not (p (choosing []) in_range₀).ended;
      ends_same = λ p. omega (arith, ap ignores_of (sym computed.1 ∙ (still_busy p ∙ computed.0)));
      overfull = λ p. false≢true (sym nine_out ∙ ranged 2 0 (nine_left chip₀) mem₀ ends (p (choosing []) in_range₀).ended);
      overlong = λ p. false≢true (sym six_out ∙ (p (choosing []) in_range₀).ranged);
    }
