use Rattle.hexfile.proofs.Lines.{fed, unfed}
use Rattle.hexfile.proofs.reading.line_end.Goals as goal

pub returns-in-Some : goal.returns-in-Some
returns-in-Some c = fed c.args.text.now c.args.at c.requires c.in-Some.k c.in-Some.ensures

pub returns-in-None : goal.returns-in-None
returns-in-None c = unfed c.args.text.now c.args.at c.requires c.in-None.ensures
