use Rattle.bench.proofs.judge_worn.Goals as goal

pub returns : goal.returns
returns c = rw (c.sooner-2.ensures, c.sooner.ensures, c.judge-judged.ensures, c.counts_verdict-ready.ensures, c.verdict-borne.ensures)
