-- The promises of turning samples into events, kept by ours; and they leave nothing open.
-- Assumes nothing.
use Prim.Native.Nat.{ℕ, zero, suc, ◌<◌, ◌≤◌}
use mathlib.Core.Path.{◌≡◌, refl, sym, ap, ◌∙◌}
use mathlib.Core.Bool.{Bool, true, false}
use mathlib.Core.Logic.{◌⊎◌, inl, inr}
use mathlib.Core.List.{List, [], ◌∷◌, ◌++◌}
use native.Mathlib.Omega.{arith}
use lib.ListN.{length, replicate, length-replicate, length-append}
use lib.Dec.{ltb}
use borrow.Author.Tests.{ltb-true, ltb-false}
use Rattle.parts.specs.Bytes.{AllBelow}
use Rattle.parts.proofs.Tests.{either}
use Rattle.parts.proofs.Bytes.{below_append, below_left, below_right}
use Rattle.capture.specs.Samples.{events_of}
use Rattle.capture.specs.Wires.{drawn_of}
use Rattle.capture.specs.declared.Wires.TheVariants.{Rest}
use Rattle.capture.specs.Calls.{ListLeft, listing_of}
use Rattle.capture_promises.specs.Machines.{Listing, listed}
use Rattle.capture_promises.specs.Reading.{LetterPairs, LetterJoins, dropped_of, BusDrops, DrawnBack, late_from, LetterLate, RepeatsMakeNone, ListNumbers, Reader, ReaderPinned}
use Rattle.capture.proofs.Sampled.{fine_judge}
use Rattle.capture_promises.proofs.Judged.{FirstBad, judged}
use Rattle.capture_promises.proofs.Cuts.{pair_second, events_repeat}
use Rattle.capture_promises.proofs.Answered.{fewer, answered, no_room, not_judged, read_off, events_in_lem, answers, same_answer}
use Rattle.capture_promises.proofs.Drops.{letter_cut, drops}
use Rattle.capture_promises.proofs.Drawn.{drawn_events, drawn_late, drawn_low}

-- ---- by the letter

pub letter_pairs : LetterPairs listing_of
unfolding events_of
letter_pairs out h =
    record {
      start = answered false (3 ∷ 1 ∷ []) out (omega arith) h;
      stop = answered false (1 ∷ 3 ∷ []) out (omega arith) h;
      low = answered false (0 ∷ 1 ∷ []) out (omega arith) h;
      high = answered false (2 ∷ 3 ∷ []) out (omega arith) h;
      low_both = answered false (2 ∷ 1 ∷ []) out (omega arith) h;
      high_both = answered false (0 ∷ 3 ∷ []) out (omega arith) h;
      clock_low = low;
      same = λ a l. answered false (a ∷ a ∷ []) out (omega arith) (rw (pair_second false a []) (omega arith)) ∙ rw (pair_second false a []) refl;
      first = λ a l. answered false (a ∷ []) out (omega arith) (omega arith);
      none = answered false [] out tt (omega arith);
    }
  where
    low : (a b : ℕ) → a < 4 → (b ≡ 0) ⊎ (b ≡ 2) → listing_of false (a ∷ b ∷ []) out ≡ listed [] out
    low a b l (inl e) = rw e (answered false (a ∷ 0 ∷ []) out (omega arith) (omega arith))
    low a b l (inr e) = rw e (answered false (a ∷ 2 ∷ []) out (omega arith) (omega arith))

pub letter_joins : LetterJoins listing_of
letter_joins ws ys out s h g =
    let right = below_right 4 ws (s ∷ ys) h in
    let left = below_append 4 ws (s ∷ []) (below_left 4 ws (s ∷ ys) h) (right.0, tt) in
    let long = length-append ws (s ∷ ys) in
    answered false (ws ++ s ∷ ys) out h (omega (arith, fewer false (ws ++ s ∷ ys)))
    ∙ rw (events_in_lem false (ws ++ s ∷ []) out left (omega (arith, length-append ws (s ∷ []))), events_in_lem false (s ∷ ys) out right (omega arith), letter_cut s ws ys) refl

-- ---- as on a bus

pub bus_drops : BusDrops listing_of
bus_drops ss out h g =
    answered true ss out h (omega (arith, fewer true ss)) ∙ rw (events_in_lem false ss out h g, drops ss) refl

pub drawn_back : DrawnBack listing_of
drawn_back es out h g = answers true (drawn_of es) es out (drawn_low es) (drawn_events es h) g

pub letter_late : LetterLate listing_of
letter_late es out h g = answers false (drawn_of es) (late_from Rest es) out (drawn_low es) (drawn_late es h) g

-- ---- of either

pub repeats : RepeatsMakeNone listing_of
repeats bus ws ys out s h =
    let right = below_right 4 ws (s ∷ ys) h in
    let more = below_append 4 ws (s ∷ s ∷ ys) (below_left 4 ws (s ∷ ys) h) (right.0, right) in
    same_answer bus (ws ++ s ∷ s ∷ ys) (ws ++ s ∷ ys) out (fine_judge (ws ++ s ∷ s ∷ ys) more ∙ sym (fine_judge (ws ++ s ∷ ys) h)) (events_repeat bus s ws ys)

pub list_numbers : ListNumbers listing_of
list_numbers bus ss out =
    record {
      bad_sample = λ k l h g. not_judged bus ss out k l h g;
      short_buffer = λ room h g l. no_room bus ss out h (omega (arith, l, long room h g));
      none =
          λ room h g l. answered bus ss out h (omega (arith, l, long room h g)) ∙ ap (λ (es : List ℕ). listed es out) (sym (events_in_lem bus ss room h g));
    }
  where
    long : (room : List ℕ) → AllBelow 4 ss → length ss ≤ length room → (listing_of bus ss room).answer.length ≡ length (events_of bus ss)
    long room h g = ap (λ (a : ListLeft). a.answer.length) (answered bus ss room h (omega (arith, fewer bus ss)))

pub reader : Reader listing_of
reader = record { pairs = letter_pairs; joins = letter_joins; drops = bus_drops; numbers = list_numbers }

-- ---- nothing is left open: any reader is ours

module _ (list : Listing) (r : Reader list) where
  two : (out : List ℕ) (a b : ℕ) → 1 ≤ length out → a < 4 → b < 4 → list false (a ∷ b ∷ []) out ≡ listed (events_of false (a ∷ b ∷ [])) out
  unfolding events_of
  two out a zero l h g = (r.pairs out l).clock_low a 0 h (inl refl)
  two out a (suc (suc zero)) l h g = (r.pairs out l).clock_low a 2 h (inr refl)
  two out zero (suc zero) l h g = (r.pairs out l).low
  two out (suc zero) (suc zero) l h g = (r.pairs out l).same 1 h
  two out (suc (suc zero)) (suc zero) l h g = (r.pairs out l).low_both
  two out (suc (suc (suc zero))) (suc zero) l h g = (r.pairs out l).start
  two out zero (suc (suc (suc zero))) l h g = (r.pairs out l).high_both
  two out (suc zero) (suc (suc (suc zero))) l h g = (r.pairs out l).stop
  two out (suc (suc zero)) (suc (suc (suc zero))) l h g = (r.pairs out l).high
  two out (suc (suc (suc zero))) (suc (suc (suc zero))) l h g = (r.pairs out l).same 3 h
  two out (suc (suc (suc (suc a)))) (suc zero) l h g = absurd (omega (arith, h))
  two out (suc (suc (suc (suc a)))) (suc (suc (suc zero))) l h g = absurd (omega (arith, h))
  two out a (suc (suc (suc (suc b)))) l h g = absurd (omega (arith, g))

  letter : (out ss : List ℕ) → 1 ≤ length out → AllBelow 4 ss → length ss ≤ length out → list false ss out ≡ listed (events_of false ss) out
  unfolding events_of
  letter out [] l h g = (r.pairs out l).none
  letter out (a ∷ []) l h g = (r.pairs out l).first a h.0
  letter out (a ∷ b ∷ ss) l h g =
      let first = read_off (list false (a ∷ b ∷ []) out) (events_of false (a ∷ b ∷ [])) out (two out a b l h.0 h.1.0) in
      let rest = read_off (list false (b ∷ ss) out) (events_of false (b ∷ ss)) out (letter out (b ∷ ss) l h.1 (omega arith)) in
      r.joins (a ∷ []) ss out b h g ∙ rw (first, rest) (ap (λ (es : List ℕ). listed es out) (sym (letter_cut b (a ∷ []) ss)))

  either_way : (bus : Bool) (out ss : List ℕ) → 1 ≤ length out → AllBelow 4 ss → length ss ≤ length out → list bus ss out ≡ listed (events_of bus ss) out
  either_way false out ss l h g = letter out ss l h g
  either_way true out ss l h g =
      let first = read_off (list false ss out) (events_of false ss) out (letter out ss l h g) in
      r.drops ss out h g ∙ ap (λ (es : List ℕ). listed (dropped_of es) out) first ∙ ap (λ (es : List ℕ). listed es out) (sym (drops ss))

  ours : (bus : Bool) (ss out : List ℕ) → list bus ss out ≡ listing_of bus ss out
  ours bus ss out = go (judged ss)
    where
      room : List ℕ
      room = replicate (suc (length ss)) 0

      long : length room ≡ suc (length ss)
      long = length-replicate (suc (length ss)) 0

      go : AllBelow 4 ss ⊎ FirstBad ss → list bus ss out ≡ listing_of bus ss out
      go (inr f) =
          (r.numbers bus ss out).bad_sample f.place f.there f.before f.above
          ∙ sym (not_judged bus ss out f.place f.there f.before f.above)
      go (inl h) =
          let wide = either_way bus room ss (omega (arith, long)) h (omega (arith, long)) in
          let many : (list bus ss room).answer.length ≡ length (events_of bus ss) = ap (λ (a : ListLeft). a.answer.length) wide in
          either (ltb (length out) (length (events_of bus ss)))
          (λ e. let l = ltb-true (length out) (length (events_of bus ss)) e in
          (r.numbers bus ss out).short_buffer room h (omega (arith, long)) (omega (arith, many, l)) ∙ sym (no_room bus ss out h l))
          (λ e. let l = ltb-false (length out) (length (events_of bus ss)) e in
          (r.numbers bus ss out).none room h (omega (arith, long)) (omega (arith, many, l))
          ∙ ap (λ (es : List ℕ). listed es out) (read_off (list bus ss room) (events_of bus ss) room wide) ∙ sym (answered bus ss out h l))

pub reader_pinned : ReaderPinned
reader_pinned list other r q bus ss out = ours list r bus ss out ∙ sym (ours other q bus ss out)
