use Rattle.capture.proofs.start_stroke.Goals as goal

pub returns-in-Rest : goal.returns-in-Rest
returns-in-Rest c = simp c.in-Rest.is

pub returns-in-Low : goal.returns-in-Low
returns-in-Low c = simp c.in-Low.is

pub returns-in-High : goal.returns-in-High
returns-in-High c = simp c.in-High.is
