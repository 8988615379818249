use Rattle.hexfile.proofs.Cells.{Filling}
use Rattle.hexfile.proofs.reading.fill.Given as goal

abbrev pub invariant-loop-i : goal.invariant-loop-i
invariant-loop-i l = Filling l.cells l.array l.i
