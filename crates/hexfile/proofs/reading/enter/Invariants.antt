use Rattle.hexfile.proofs.Values.{Entering}
use Rattle.hexfile.proofs.reading.enter.Given as goal

abbrev pub invariant-loop-i : goal.invariant-loop-i
invariant-loop-i l = Entering l.digits l.initial.cells l.cells l.free l.sum l.i
