use mathlib.Core.Path.{◌∙◌}
use lib.ListN.{length-set}
use native.Mathlib.Omega.{arith}
use Rattle.hexfile.proofs.Writes.{end_written}
use Rattle.hexfile.proofs.writing.put_end.Goals as goal

pub slice_bounds-put_bytes-end : goal.slice_bounds-put_bytes-end
slice_bounds-put_bytes-end c = simp length-set (omega arith)

pub bounds-out-11 : goal.bounds-out-11
bounds-out-11 c = omega (arith, c.out-1.given.1 ∙ length-set c.args.out.now 0 58, c.requires.0)

pub returns : goal.returns
returns c =
    let one = c.put_bytes in
    end_written c.args.out.now one.new.out c.requires.0 one.ensures.digits
