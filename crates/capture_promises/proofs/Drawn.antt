-- What is drawn is read back, and by the letter with the clocks that make way for a Start or Stop.
-- Assumes nothing.
use Prim.Native.Nat.{ℕ, zero, suc, ◌<◌}
use mathlib.Core.Path.{◌≡◌, refl, ap}
use mathlib.Core.Bool.{true, false}
use mathlib.Core.List.{List, [], ◌∷◌}
use native.Mathlib.Omega.{arith}
use lib.Dec.{eqb}
use Rattle.parts.specs.Bytes.{AllBelow}
use Rattle.parts.proofs.Laws.{branch}
use Rattle.parts.proofs.Bytes.{below_append}
use Rattle.capture.specs.declared.Stroke.{Stroke}
use Rattle.capture.specs.declared.Wires.{Wires}
use Rattle.capture.specs.declared.Wires.TheVariants.{Rest, Low, High}
use Rattle.capture.specs.Samples.{still_of, events_from, events_of}
use Rattle.capture.specs.Wires.{fallen, start_stroke, stroke_of, in_stroke, drawn_from, drawn_of}
use Rattle.capture_promises.specs.Reading.{late_from}

-- after a clock data stay still: whatever comes next begins with the clock low
still_low : (es : List ℕ) → AllBelow 4 es → still_of 0 (drawn_from Low es) ≡ true
unfolding drawn_from stroke_of
still_low [] h = refl
still_low (zero ∷ es) h = refl
still_low (suc zero ∷ es) h = refl
still_low (suc (suc zero) ∷ es) h = refl
still_low (suc (suc (suc zero)) ∷ es) h = refl
still_low (suc (suc (suc (suc e))) ∷ es) h = absurd (omega (arith, h.0))

still_high : (es : List ℕ) → AllBelow 4 es → still_of 1 (drawn_from High es) ≡ true
unfolding drawn_from stroke_of
still_high [] h = refl
still_high (zero ∷ es) h = refl
still_high (suc zero ∷ es) h = refl
still_high (suc (suc zero) ∷ es) h = refl
still_high (suc (suc (suc zero)) ∷ es) h = refl
still_high (suc (suc (suc (suc e))) ∷ es) h = absurd (omega (arith, h.0))

-- the wires as a sample, the clock high
abbrev shown : Wires → ℕ
shown Rest = 3
shown Low = 1
shown High = 3

back : (w : Wires) (es : List ℕ) → AllBelow 4 es → events_from true (shown w) (drawn_from w es) ≡ es
unfolding drawn_from stroke_of
back w [] h = refl
back Rest (zero ∷ es) h = rw (still_low es h.1) (ap (λ (x : List ℕ). 0 ∷ x) (back Low es h.1))
back Low (zero ∷ es) h = rw (still_low es h.1) (ap (λ (x : List ℕ). 0 ∷ x) (back Low es h.1))
back High (zero ∷ es) h = rw (still_low es h.1) (ap (λ (x : List ℕ). 0 ∷ x) (back Low es h.1))
back Rest (suc zero ∷ es) h = rw (still_high es h.1) (ap (λ (x : List ℕ). 1 ∷ x) (back High es h.1))
back Low (suc zero ∷ es) h = rw (still_high es h.1) (ap (λ (x : List ℕ). 1 ∷ x) (back High es h.1))
back High (suc zero ∷ es) h = rw (still_high es h.1) (ap (λ (x : List ℕ). 1 ∷ x) (back High es h.1))
back Rest (suc (suc zero) ∷ es) h = ap (λ (x : List ℕ). 2 ∷ x) (back Low es h.1)
back Low (suc (suc zero) ∷ es) h = ap (λ (x : List ℕ). 2 ∷ x) (back Low es h.1)
back High (suc (suc zero) ∷ es) h = ap (λ (x : List ℕ). 2 ∷ x) (back Low es h.1)
back Rest (suc (suc (suc zero)) ∷ es) h = ap (λ (x : List ℕ). 3 ∷ x) (back Rest es h.1)
back Low (suc (suc (suc zero)) ∷ es) h = ap (λ (x : List ℕ). 3 ∷ x) (back Rest es h.1)
back High (suc (suc (suc zero)) ∷ es) h = ap (λ (x : List ℕ). 3 ∷ x) (back Rest es h.1)
back w (suc (suc (suc (suc e))) ∷ es) h = absurd (omega (arith, h.0))

pub drawn_events : (es : List ℕ) → AllBelow 4 es → events_of true (drawn_of es) ≡ es
unfolding events_of
drawn_events es h = back Rest es h

late : (w : Wires) (es : List ℕ) → AllBelow 4 es → events_from false (shown w) (drawn_from w es) ≡ late_from w es
unfolding drawn_from stroke_of
late w [] h = refl
late Rest (zero ∷ es) h = ap (λ (x : List ℕ). 0 ∷ x) (late Low es h.1)
late Low (zero ∷ es) h = ap (λ (x : List ℕ). 0 ∷ x) (late Low es h.1)
late High (zero ∷ es) h = ap (λ (x : List ℕ). 0 ∷ x) (late Low es h.1)
late Rest (suc zero ∷ es) h = ap (λ (x : List ℕ). 1 ∷ x) (late High es h.1)
late Low (suc zero ∷ es) h = ap (λ (x : List ℕ). 1 ∷ x) (late High es h.1)
late High (suc zero ∷ es) h = ap (λ (x : List ℕ). 1 ∷ x) (late High es h.1)
late Rest (suc (suc zero) ∷ es) h = ap (λ (x : List ℕ). 2 ∷ x) (late Low es h.1)
late Low (suc (suc zero) ∷ es) h = ap (λ (x : List ℕ). 1 ∷ 2 ∷ x) (late Low es h.1)
late High (suc (suc zero) ∷ es) h = ap (λ (x : List ℕ). 1 ∷ 2 ∷ x) (late Low es h.1)
late Rest (suc (suc (suc zero)) ∷ es) h = ap (λ (x : List ℕ). 0 ∷ 3 ∷ x) (late Rest es h.1)
late Low (suc (suc (suc zero)) ∷ es) h = ap (λ (x : List ℕ). 0 ∷ 3 ∷ x) (late Rest es h.1)
late High (suc (suc (suc zero)) ∷ es) h = ap (λ (x : List ℕ). 0 ∷ 3 ∷ x) (late Rest es h.1)
late w (suc (suc (suc (suc e))) ∷ es) h = absurd (omega (arith, h.0))

pub drawn_late : (es : List ℕ) → AllBelow 4 es → events_of false (drawn_of es) ≡ late_from Rest es
unfolding events_of
drawn_late es h = late Rest es h

-- ---- what is drawn is never refused

fallen_low : (w : Wires) → fallen w < 4
fallen_low Rest = omega arith
fallen_low Low = omega arith
fallen_low High = omega arith

start_low : (w : Wires) → AllBelow 4 (in_stroke (start_stroke w))
start_low Rest = omega arith
start_low Low = omega arith
start_low High = omega arith

stroke_low : (w : Wires) (e : ℕ) → AllBelow 4 (in_stroke (stroke_of w e))
unfolding stroke_of
stroke_low w e =
    branch Q (eqb e 0) (λ _. omega (arith, fallen_low w)) (λ _.
    branch Q (eqb e 1) (λ _. omega (arith, fallen_low w)) (λ _.
    branch Q (eqb e 2) (λ _. start_low w) (λ _.
    branch Q (eqb e 3) (λ _. omega (arith, fallen_low w)) (λ _. tt))))
  where
    Q : Stroke → Type 0
    Q k = AllBelow 4 (in_stroke k)

drawn_from_low : (w : Wires) (es : List ℕ) → AllBelow 4 (drawn_from w es)
unfolding drawn_from
drawn_from_low w [] = tt
drawn_from_low w (e ∷ es) =
    below_append 4 (in_stroke (stroke_of w e)) (drawn_from (stroke_of w e).wires es) (stroke_low w e) (drawn_from_low (stroke_of w e).wires es)

pub drawn_low : (es : List ℕ) → AllBelow 4 (drawn_of es)
drawn_low es = (omega arith, drawn_from_low Rest es)
