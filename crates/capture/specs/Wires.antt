-- Starts, Stops and clocks as two wires show them. "Serial Data (SDA) signal must change only when Serial Clock (SCL) is driven low" (source document
-- 003, §4.3), but for a Start or Stop, "while Serial Clock (SCL) is stable" high (§4.1, 4.2): so before a Stop, and before a Start in a transfer,
-- the clock rises once more, "in the '10th bit' time slot" (source document 000).
-- Assumes nothing.
use Rattle.std.specs.Prelude.{ℕ, cond, ◌&&◌, List, [], ◌∷◌, ◌++◌, take, eqb, ltb}
use Rattle.capture.specs.declared.Wires.{Wires}
use Rattle.capture.specs.declared.Wires.TheVariants.{Rest, Low, High}
use Rattle.capture.specs.declared.Stroke.{Stroke}

-- "Each clock's level": the line is low where master or chip pulls it low
unfoldable pub lined_of : ℕ → ℕ → ℕ
lined_of e level = cond (ltb e 2 && eqb level 0) 0 e

-- the wires with the clock low, data as they were: as a sample, 2 for data and 1 for the clock
abbrev pub fallen : Wires → ℕ
fallen Rest = 2
fallen Low = 0
fallen High = 2

abbrev stroke : ℕ → ℕ → ℕ → ℕ → ℕ → Wires → Stroke
stroke a b c d n w = record { samples = a ∷ b ∷ c ∷ d ∷ []; count = n; wires = w }

-- before a Start in a transfer data rise with the clock low, and the clock rises; at rest both are high already
abbrev pub start_stroke : Wires → Stroke
start_stroke Rest = stroke 1 0 0 0 1 Low
start_stroke Low = stroke 0 2 3 1 4 Low
start_stroke High = stroke 2 2 3 1 4 Low

-- the samples that an event on the line adds, and where the wires stand then; an end of a cycle is not seen
unfoldable pub stroke_of : Wires → ℕ → Stroke
stroke_of w e =
    cond (eqb e 0) (stroke (fallen w) 0 1 0 3 Low)
    (cond (eqb e 1) (stroke (fallen w) 2 3 0 3 High)
    (cond (eqb e 2) (start_stroke w)
    (cond (eqb e 3) (stroke (fallen w) 0 1 3 4 Rest)
    (stroke 0 0 0 0 0 w))))

abbrev pub in_stroke : Stroke → List ℕ
in_stroke k = take k.count k.samples

unfoldable pub drawn_from : Wires → List ℕ → List ℕ
drawn_from w [] = []
drawn_from w (e ∷ es) = in_stroke (stroke_of w e) ++ drawn_from (stroke_of w e).wires es

-- a capture that begins at rest
abbrev pub drawn_of : List ℕ → List ℕ
drawn_of es = 3 ∷ drawn_from Rest es
