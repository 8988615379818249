use Rattle.bench.proofs.run.Goals as goal

pub returns : goal.returns
returns c =
    let r = c.record-recorded.ensures in
    record { answer = r.answer; stored = r.stored; bytes = r.bytes }
