use Rattle.parts.proofs.Kit.{tests}
use Rattle.capture.specs.Wires.{stroke_of}
use Rattle.capture.proofs.draw.Goals as goal

pub returns-in-0 : goal.returns-in-0
unfolding stroke_of
returns-in-0 c = simp (c.in-0.is, c.fallen-low.ensures)

pub returns-in-1 : goal.returns-in-1
unfolding stroke_of
returns-in-1 c = simp (c.in-1.is, c.fallen-low.ensures)

pub returns-in-2 : goal.returns-in-2
unfolding stroke_of
returns-in-2 c = simp (c.start_stroke.ensures, c.in-2.is)

pub returns-in-3 : goal.returns-in-3
unfolding stroke_of
returns-in-3 c = simp (c.in-3.is, c.fallen-low.ensures)

pub returns-in_default : goal.returns-in_default
unfolding stroke_of
returns-in_default c = simp (tests, c.in_default.in_default-own.rest.1, c.in_default.in_default-own.rest.0.1, c.in_default.in_default-own.rest.0.0.1, c.in_default.in_default-own.rest.0.0.0.1)
