use Rattle.bench.specs.Calls.{bench_verdict_of}
use Rattle.bench.proofs.judge.Goals as goal

pub returns : goal.returns
unfolding bench_verdict_of
returns c = rw (c.sooner-3.ensures, c.sooner-2.ensures, c.sooner-own.ensures, c.sooner.ensures, c.claim-ends.ensures, c.claim-room.ensures, c.claim-data.ensures, c.late-limit.ensures, c.short-scant.ensures, c.other_length-wrong.ensures, c.held_verdict-held.ensures, c.judge-asked.ensures)
