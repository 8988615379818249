use Rattle.capture.proofs.Finish.{turned}
use Rattle.capture.proofs.engine.turn.Goals as goal

pub returns : goal.returns
returns c =
    let d = c.end_due-due in
    let x = c.ended-ready in
    let t = c.taken in
    record { step = turned _ _ _ _ _ _ _ _ x.result _ _ _ _ _ _ c.requires.5 (d.ensures _) x.ensures.step t.ensures.step; room = t.ensures.room }
