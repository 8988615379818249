-- Running the model over a capture: what is promised of it, and that this leaves nothing open.
-- Assumes nothing.
use Rattle.std.specs.Prelude.{Ok, Err}
use Prim.Native.Nat.{ℕ, ◌<◌, ◌≤◌}
use mathlib.Core.Path.{◌≡◌, ◌∙◌, refl, sym, ap}
use mathlib.Core.Bool.{Bool}
use mathlib.Core.Logic.{◌⊎◌, inl, inr}
use mathlib.Core.List.{List}
use native.Mathlib.Decide.{ℕ_discrete, dec_lt}
use native.Mathlib.Omega.{arith}
use lib.ListN.{length}
use Rattle.parts.specs.declared.Refusal.{Refusal}
use Rattle.parts.specs.declared.Refusal.TheVariants.{NoPart, WrongEnable, WrongBuffer, BadState}
use Rattle.parts.specs.Verdict.{Verdict}
use Rattle.parts.specs.Bytes.{AllBelow}
use Rattle.parts.specs.Table.{facts_of, id_size_of}
use Rattle.parts.specs.Refusals.{rank_of, sooner_of}
use Rattle.parts.proofs.Tests.{either}
use Rattle.parts.proofs.Claims.{refused_not, given_first}
use Rattle.state.specs.declared.Chip.{Chip}
use Rattle.state.specs.Range.{in_range_of}
use Rattle.chip.specs.Memory.{Mem}
use Rattle.chip.specs.Model.{Model, ours}
use Rattle.chip.specs.Runs.{after_of, memory_of, cycles_of}
use Rattle.chip.specs.Calls.{held_verdict_of}
use Rattle.chip_promises.specs.Numbers.{Named, Ready}
use Rattle.chip_promises.proofs.Numbers.{held_1, held_2, held_3, held_4, held_0}
use Rattle.capture.specs.Samples.{events_of, judge_of}
use Rattle.capture.specs.Ends.{with_ends_of, ends_in}
use Rattle.capture.specs.Calls.{SeenLeft, seen_verdict_of, seen_by, seen_left_of, seeing_of}
use Rattle.capture_promises.specs.Machines.{Seeing, unseen}
use Rattle.capture_promises.specs.Running.{stripped_of, EndsPlaced, MarkRight, RunsOver, EndsRight, MarkFirst, SeeNumbers, Viewer, ViewerPinned}
use Rattle.capture.proofs.Sampled.{fine_judge, judge_later}
use Rattle.capture_promises.proofs.Judged.{FirstBad, judged, bad_judge}
use Rattle.capture_promises.proofs.Ends.{ends_one_way, stripped_with, with_placed}
use Rattle.capture_promises.proofs.Rises.{events_below}
use Rattle.capture_promises.proofs.Marks.{mark_right, mark_one}

-- ---- a run that is not refused

module _ (part en : ℕ) (c : Chip) (m : Mem) (bus : Bool) (ss : List ℕ) where
  abbrev M : Model
  M = ours (facts_of part) en

  -- the events with their ends
  abbrev ended : List ℕ
  ended = with_ends_of M c (events_of bus ss)

  runs_over : (v : Verdict) → (seen_by M c m bus ss v).verdict ≡ Ok tt → RunsOver M c m bus ss (seen_left_of M c m bus ss v)
  runs_over (Err r) h = refused_not h
  runs_over (Ok _) h =
      record {
        with_ends = ended;
        captured = stripped_with M c (events_of bus ss) (events_below bus ss);
        placed = with_placed (facts_of part) en c (events_of bus ss) (events_below bus ss);
        state = refl;
        stored = refl;
        begun = refl;
        ended = refl;
        events = refl;
        clocks = refl;
      }

  marks_first : (xs : List ℕ) (v : Verdict) → (seen_by M c m bus ss v).verdict ≡ Ok tt → stripped_of xs ≡ events_of bus ss → EndsPlaced M c xs
      → MarkRight M c m bus ss xs (seen_by M c m bus ss v).mark
  marks_first xs (Err r) h e p = refused_not h
  marks_first xs (Ok _) h e p =
      let s = stripped_with M c (events_of bus ss) (events_below bus ss) in
      let one : xs ≡ ended = ends_one_way M c xs ended p (with_placed (facts_of part) en c (events_of bus ss) (events_below bus ss)) (e ∙ sym s) in
      rw one (mark_right M c m bus ss ended s)

pub ends_right : EndsRight seeing_of
ends_right part en c m bus ss h = runs_over part en c m bus ss (seen_verdict_of part en c (length m.cells) (length m.ident) ss) h

pub mark_first : MarkFirst seeing_of
mark_first part en c m bus ss xs h e p = marks_first part en c m bus ss xs (seen_verdict_of part en c (length m.cells) (length m.ident) ss) h e p

-- ---- refusals

module _ (part en : ℕ) (c : Chip) (m : Mem) (bus : Bool) (ss : List ℕ) where
  abbrev held : Verdict
  held = held_verdict_of part en c (length m.cells) (length m.ident)

  abbrev by : Verdict → SeenLeft
  by v = seen_left_of (ours (facts_of part) en) c m bus ss v

  -- 1 to 4 go before 20
  refused_held : (r : Refusal) → rank_of r ≤ rank_of BadState → held ≡ Err r → seeing_of part en c m bus ss ≡ unseen r c m
  unfolding seen_verdict_of
  refused_held r low h =
      ap (λ (v : Verdict). by (sooner_of v (judge_of ss))) h ∙ ap by (given_first r (judge_of ss) (judge_later (rank_of r) ss (omega arith)))

  seen_ready : Ready part en c m → seen_verdict_of part en c (length m.cells) (length m.ident) ss ≡ judge_of ss
  unfolding seen_verdict_of sooner_of
  seen_ready r = ap (λ (v : Verdict). sooner_of v (judge_of ss)) (held_0 part en c m r)

  pub seen_fine : Ready part en c m → AllBelow 4 ss → seen_verdict_of part en c (length m.cells) (length m.ident) ss ≡ Ok tt
  seen_fine r h = seen_ready r ∙ fine_judge ss h

pub see_numbers : SeeNumbers seeing_of
see_numbers part en c m bus ss =
    let n = length m.cells in
    let d = length m.ident in
    record {
      no_part = λ h. refused_held part en c m bus ss NoPart (omega arith) (held_1 part en c n d h);
      wrong_enable = λ k h. refused_held part en c m bus ss WrongEnable (omega arith) (held_2 part en c n d k h);
      wrong_buffer = λ k h w. refused_held part en c m bus ss WrongBuffer (omega arith) (held_3 part en c n d k h w);
      bad_state = λ a o. refused_held part en c m bus ss BadState (omega arith) (held_4 part en c m a o);
      bad_sample = λ k r l b a. ap (by part en c m bus ss) (seen_ready part en c m bus ss r ∙ bad_judge ss k l b a);
      none = λ r h. ap (λ (v : Verdict). (by part en c m bus ss v).answer.verdict) (seen_fine part en c m bus ss r h);
    }

pub viewer : Viewer seeing_of
viewer = record { ends = ends_right; marks = mark_first; numbers = see_numbers }

-- ---- nothing is left open

module _ (see other : Seeing) (x : Viewer see) (y : Viewer other) (part en : ℕ) (c : Chip) (m : Mem) (bus : Bool) (ss : List ℕ) where
  same_left : (a b : SeenLeft) → a.answer.verdict ≡ Ok tt → b.answer.verdict ≡ Ok tt → RunsOver (ours (facts_of part) en) c m bus ss a → RunsOver (ours (facts_of part) en) c m bus ss b
      → a.answer.mark ≡ b.answer.mark → a ≡ b
  same_left a b f g r s k =
      let one : r.with_ends ≡ s.with_ends = ends_one_way (ours (facts_of part) en) c r.with_ends s.with_ends r.placed s.placed (r.captured ∙ sym s.captured) in
      let verdict : a.answer.verdict ≡ b.answer.verdict = f ∙ sym g in
      let events : a.answer.events ≡ b.answer.events = r.events ∙ sym s.events in
      let clocks : a.answer.clocks ≡ b.answer.clocks = r.clocks ∙ sym s.clocks in
      let ends : a.answer.ends ≡ b.answer.ends = r.ended ∙ ap ends_in one ∙ sym s.ended in
      let cycles : a.answer.cycles ≡ b.answer.cycles = r.begun ∙ ap (cycles_of (ours (facts_of part) en) c) one ∙ sym s.begun in
      let chip : a.answer.chip ≡ b.answer.chip = r.state ∙ ap (after_of (ours (facts_of part) en) c) one ∙ sym s.state in
      let stored : a.mem ≡ b.mem = r.stored ∙ ap (memory_of (ours (facts_of part) en) c m) one ∙ sym s.stored in
      λ i. record {
        answer = record { verdict = verdict i; events = events i; clocks = clocks i; ends = ends i; cycles = cycles i; mark = k i; chip = chip i };
        mem = stored i;
      }

  same_fine : Ready part en c m → AllBelow 4 ss → see part en c m bus ss ≡ other part en c m bus ss
  same_fine r h =
      let f = (x.numbers part en c m bus ss).none r h in
      let g = (y.numbers part en c m bus ss).none r h in
      let p = x.ends part en c m bus ss f in
      let q = y.ends part en c m bus ss g in
      same_left (see part en c m bus ss) (other part en c m bus ss) f g p q
      (mark_one (ours (facts_of part) en) c m bus ss p.with_ends (see part en c m bus ss).answer.mark (other part en c m bus ss).answer.mark
      (x.marks part en c m bus ss p.with_ends f p.captured p.placed)
      (y.marks part en c m bus ss p.with_ends g p.captured p.placed))

  same_samples : Ready part en c m → AllBelow 4 ss ⊎ FirstBad ss → see part en c m bus ss ≡ other part en c m bus ss
  same_samples r (inl h) = same_fine r h
  same_samples r (inr b) =
      (x.numbers part en c m bus ss).bad_sample b.place r b.there b.before b.above
      ∙ sym ((y.numbers part en c m bus ss).bad_sample b.place r b.there b.before b.above)

  same_held : Named part en m → see part en c m bus ss ≡ other part en c m bus ss
  same_held a =
      either (in_range_of (facts_of part) c)
      (λ h. same_samples record { named = a; ranged = h } (judged ss))
      (λ h. (x.numbers part en c m bus ss).bad_state a h ∙ sym ((y.numbers part en c m bus ss).bad_state a h))

  same_lent : part ≤ 5 → en < (facts_of part).enables → Dec (length m.cells ≡ (facts_of part).size) → Dec (length m.ident ≡ id_size_of (facts_of part))
      → see part en c m bus ss ≡ other part en c m bus ss
  same_lent k e (yes s) (yes d) = same_held record { known = k; enabled = e; lent = (s, d) }
  same_lent k e (no s) d =
      (x.numbers part en c m bus ss).wrong_buffer k e (λ l. s l.0) ∙ sym ((y.numbers part en c m bus ss).wrong_buffer k e (λ l. s l.0))
  same_lent k e (yes s) (no d) =
      (x.numbers part en c m bus ss).wrong_buffer k e (λ l. d l.1) ∙ sym ((y.numbers part en c m bus ss).wrong_buffer k e (λ l. d l.1))

  same_enabled : part ≤ 5 → Dec (en < (facts_of part).enables) → see part en c m bus ss ≡ other part en c m bus ss
  same_enabled k (yes e) = same_lent k e (ℕ_discrete (length m.cells) (facts_of part).size) (ℕ_discrete (length m.ident) (id_size_of (facts_of part)))
  same_enabled k (no e) =
      let h : (facts_of part).enables ≤ en = omega (arith, e) in
      (x.numbers part en c m bus ss).wrong_enable k h ∙ sym ((y.numbers part en c m bus ss).wrong_enable k h)

  same_part : Dec (5 < part) → see part en c m bus ss ≡ other part en c m bus ss
  same_part (yes h) = (x.numbers part en c m bus ss).no_part h ∙ sym ((y.numbers part en c m bus ss).no_part h)
  same_part (no h) = same_enabled (omega (arith, h)) (dec_lt en (facts_of part).enables)

pub viewer_pinned : ViewerPinned
viewer_pinned see other x y part en c m bus ss = same_part see other x y part en c m bus ss (dec_lt 5 part)
