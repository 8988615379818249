-- The wrong readers and tallies of specs/Wrong.antt break a promise.
-- Assumes nothing.
use Prim.Native.Nat.{ℕ, ◌<◌}
use mathlib.Core.Path.{◌≡◌, refl, sym, ap, ◌∙◌}
use mathlib.Core.Bool.{Bool, true, false}
use mathlib.Core.List.{List, [], ◌∷◌, ◌++◌}
use native.Mathlib.Omega.{arith}
use lib.ListN.{length, get_or}
use lib.Dec.{eqb}
use borrow.Author.Tests.{eqb-true}
use Rattle.parts.specs.Refusals.{sooner_of}
use Rattle.capture.specs.declared.Tally.{Tally}
use Rattle.capture.specs.Samples.{clock_in, data_in, events_from, events_of, judge_of}
use Rattle.parts.specs.Bytes.{up_of}
use Rattle.capture.specs.Tallies.{tally, tallied_of}
use Rattle.capture.specs.Wires.{stroke_of, drawn_from, drawn_of}
use Rattle.capture.specs.Calls.{ListLeft, list_verdict_of}
use Rattle.capture_promises.specs.Machines.{Counting, CountLeft, events_in, listed}
use Rattle.capture_promises.specs.Reading.{LetterPairs}
use Rattle.capture_promises.specs.Tallied.{Wide, TallyCounts}
use Rattle.capture_promises.specs.Wrong.{OneReadingBreaks, by_letter, ByLetterBreaks, by_bus, ByBusBreaks, FindsNoneBreaks, BlindBreaks, ListingIsOurs, supposing, SupposingBreaks, OldLevelBreaks, BothRulesBreaks, WrongReaders, StandsStillBreaks, ForgetsBreaks, WrapsBreaks, BytesAtStopsBreaks, AnyNineBreaks, CountsRefusedBreaks, WrongTallies}
use Rattle.capture.proofs.Sampled.{fine_judge}
use Rattle.capture_promises.proofs.Drawn.{drawn_low}
use Rattle.capture_promises.proofs.Reading.{letter_joins, drawn_back}

-- ---- readers

-- room for six events
abbrev six : List ℕ
six = 0 ∷ 0 ∷ 0 ∷ 0 ∷ 0 ∷ 0 ∷ []

-- a Start and a Stop are samples 3 1 0 0 1 3; cut before the last, its first part is a Start and a clock
one_reading : OneReadingBreaks
unfolding drawn_from stroke_of
one_reading list one joins back =
    let whole = sym (one (drawn_of (2 ∷ 3 ∷ [])) six) ∙ back (2 ∷ 3 ∷ []) six (omega arith) (omega arith) in
    let front = sym (one (drawn_of (2 ∷ 0 ∷ [])) six) ∙ back (2 ∷ 0 ∷ []) six (omega arith) (omega arith) in
    let cut = joins (3 ∷ 1 ∷ 0 ∷ 0 ∷ []) (3 ∷ []) six 1 (omega arith) (omega arith) in
    let both = sym whole ∙ cut ∙ ap (λ (a : ListLeft). listed (events_in a ++ events_in (list false (1 ∷ 3 ∷ []) six)) six) front in
    let n : ◌≡◌ {A = ℕ} 3 0 = ap (λ (a : ListLeft). get_or a.out 1 0) both in
    omega arith

by_letter_lem : ByLetterBreaks
by_letter_lem back = one_reading by_letter (λ ss out. refl) letter_joins back

by_bus_lem : ByBusBreaks
by_bus_lem joins = one_reading by_bus (λ ss out. refl) joins drawn_back

finds_none : FindsNoneBreaks
finds_none list none back =
    let one = ap (λ (a : ListLeft). a.answer.length) (back (2 ∷ []) six (omega arith) (omega arith)) in
    let n : ◌≡◌ {A = ℕ} 0 1 = sym (none true (drawn_of (2 ∷ [])) six) ∙ one in
    omega arith

blind : BlindBreaks
blind list alike back =
    let same = sym (back [] six tt (omega arith)) ∙ alike true (drawn_of []) (drawn_of (2 ∷ [])) six ∙ back (2 ∷ []) six (omega arith) (omega arith) in
    let n : ◌≡◌ {A = ℕ} 0 1 = ap (λ (a : ListLeft). a.answer.length) same in
    omega arith

like_ours : ListingIsOurs
unfolding list_verdict_of
like_ours bus ss out = refl

-- whichever sample is supposed, one makes an event with it
module _ (before : ℕ) (pairs : LetterPairs (supposing before)) where
  made : (a e : ℕ) → a < 4 → events_from false before (a ∷ []) ≡ e ∷ [] → ⊥
  unfolding sooner_of
  made a e h g =
      let long : (supposing before false (a ∷ []) six).answer.length ≡ 1 = rw (fine_judge (a ∷ []) (h, tt), g) refl in
      let n : ◌≡◌ {A = ℕ} 1 0 = sym long ∙ ap (λ (l : ListLeft). l.answer.length) ((pairs six (omega arith)).first a h) in
      omega arith

  supposed : (c : Bool) → eqb (clock_in before) 0 ≡ c → (d : Bool) → eqb (data_in before) 0 ≡ d → ⊥
  supposed true h d g = made 1 0 (omega arith) (rw h refl)
  supposed false h true g = made 3 3 (omega arith) (rw (h, eqb-true (data_in before) 0 g) refl)
  supposed false h false g = made 1 2 (omega arith) (rw (h, g) refl)

first_sample : SupposingBreaks
first_sample before pairs = supposed before pairs (eqb (clock_in before) 0) refl (eqb (data_in before) 0) refl

old_level : OldLevelBreaks
unfolding judge_of sooner_of
old_level pairs = let n : ◌≡◌ {A = ℕ} 1 0 = ap (λ (a : ListLeft). get_or a.out 0 0) (pairs six (omega arith)).low_both in omega arith

both_rules : BothRulesBreaks
unfolding judge_of sooner_of
both_rules pairs = let n : ◌≡◌ {A = ℕ} 2 1 = ap (λ (a : ListLeft). a.answer.length) (pairs six (omega arith)).low_both in omega arith

pub wrong_readers : WrongReaders
wrong_readers =
    record {
      one_reading = one_reading;
      by_letter = by_letter_lem;
      by_bus = by_bus_lem;
      finds_none = finds_none;
      blind = blind;
      like_ours = like_ours;
      first_sample = first_sample;
      old_level = old_level;
      both_rules = both_rules;
    }

-- ---- tallies

none : Tally
none = tally 0 0 0 0

none_wide : Wide none
unfolding none
none_wide = record { starts = omega arith; stops = omega arith; bytes = omega arith; unacknowledged = omega arith }

-- as many Starts as there can be
full : Tally
full = tally 4294967295 0 0 0

full_wide : Wide full
unfolding full
full_wide = record { starts = omega arith; stops = omega arith; bytes = omega arith; unacknowledged = omega arith }

-- a Start
module _ (count : Counting) (counts : TallyCounts count) where
  one_start : (count none false (3 ∷ 1 ∷ [])).tally.starts ≡ 1
  unfolding none events_of
  one_start = ap (λ (a : CountLeft). a.tally.starts) (counts none false (3 ∷ 1 ∷ []) none_wide (omega arith))

  at_top : (count full false (3 ∷ 1 ∷ [])).tally.starts ≡ 4294967295
  unfolding full events_of
  at_top = ap (λ (a : CountLeft). a.tally.starts) (counts full false (3 ∷ 1 ∷ []) full_wide (omega arith))

stands_still : StandsStillBreaks
unfolding none
stands_still count still counts =
    let n : ◌≡◌ {A = ℕ} 0 1 = sym (ap (λ (t : Tally). t.starts) (still none false (3 ∷ 1 ∷ []))) ∙ one_start count counts in omega arith

forgets : ForgetsBreaks
forgets count same counts =
    let n : ◌≡◌ {A = ℕ} 1 4294967295 = sym (one_start count counts) ∙ ap (λ (t : Tally). t.starts) (same none full false (3 ∷ 1 ∷ [])) ∙ at_top count counts in omega arith

wraps : WrapsBreaks
unfolding full events_of
wraps count wrapped counts =
    let n : ◌≡◌ {A = ℕ} 0 4294967295 = sym (wrapped full false (3 ∷ 1 ∷ []) (omega arith)) ∙ at_top count counts in omega arith

bytes_at_stops : BytesAtStopsBreaks
unfolding none events_of
bytes_at_stops count stops counts =
    let n : ◌≡◌ {A = ℕ} 1 0 =
    sym (stops none false (1 ∷ 3 ∷ []) (omega arith)) ∙ ap (λ (a : CountLeft). a.tally.bytes) (counts none false (1 ∷ 3 ∷ []) none_wide (omega arith)) in
    omega arith

-- five clocks, a Start, four clocks
broken : List ℕ
broken = 0 ∷ 0 ∷ 0 ∷ 0 ∷ 0 ∷ 2 ∷ 0 ∷ 0 ∷ 0 ∷ 0 ∷ []

any_nine : AnyNineBreaks
unfolding none events_of drawn_from stroke_of broken
any_nine count nine counts =
    let n : ◌≡◌ {A = ℕ} 1 0 =
    sym (nine none true (drawn_of broken) (drawn_low broken))
    ∙ ap (λ (a : CountLeft). a.tally.bytes) (counts none true (drawn_of broken) none_wide (drawn_low broken)) in
    omega arith

-- a Start, and a sample of 4
counts_refused : CountsRefusedBreaks
unfolding none events_of tallied_of up_of
counts_refused count counted numbers =
    let n : ◌≡◌ {A = ℕ} 1 0 =
    sym (ap (λ (t : Tally). t.starts) (counted none false (3 ∷ 1 ∷ 4 ∷ [])))
    ∙ ap (λ (a : CountLeft). a.tally.starts) (numbers none false (3 ∷ 1 ∷ 4 ∷ []) 2 (omega arith) (omega arith) (omega arith)) in
    omega arith

pub wrong_tallies : WrongTallies
wrong_tallies =
    record {
      stands_still = stands_still;
      forgets = forgets;
      wraps = wraps;
      bytes_at_stops = bytes_at_stops;
      any_nine = any_nine;
      counts_refused = counts_refused;
    }
