use Rattle.trace.proofs.Runs.{claimed_letters}
use Rattle.trace.proofs.letters_verdict.Goals as goal

pub returns : goal.returns
returns c =
    let a = c.args in
    rw (c.sooner-3.ensures, c.sooner-2.ensures, c.sooner.ensures, c.first_wrong-fourth.ensures, c.claim-third.ensures, c.claim-second.ensures, c.claim-first.ensures, c.enable_right.ensures, c.facts_of-f.ensures.value)
    (claimed_letters a.part a.enable a.letters.now)
