use Rattle.capture.proofs.engine.bit_out.Goals as goal

pub returns : goal.returns
returns c = rw (c.send-m.ensures, c.seen-byte.ensures)
