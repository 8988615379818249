use mathlib.Core.Path.{◌∙◌}
use lib.ListN.{length-set}
use native.Mathlib.Omega.{arith}
use Rattle.hexfile.proofs.Writes.{row_written}
use borrow.Author.Rules.{rules}
use Rattle.hexfile.proofs.writing.put_row.Goals as goal

pub slice_bounds-put_bytes-end : goal.slice_bounds-put_bytes-end
slice_bounds-put_bytes-end c = simp length-set (omega arith)

pub slice_bounds-put_bytes-end-3 : goal.slice_bounds-put_bytes-end-3
slice_bounds-put_bytes-end-3 c = omega (arith, c.out-1.given.1 ∙ length-set c.args.out.now 0 58, c.requires.0)

pub put_bytes-sum-requires : goal.put_bytes-sum-requires
put_bytes-sum-requires c = (search rules, search rules, c.requires.3)

pub slice_bounds-put_bytes-end-4 : goal.slice_bounds-put_bytes-end-4
slice_bounds-put_bytes-end-4 c = omega (arith, c.out-2-1.given.1 ∙ c.out-1.given.1 ∙ length-set c.args.out.now 0 58, c.requires.0)

pub bounds-out-43 : goal.bounds-out-43
bounds-out-43 c = omega (arith, c.out-3-1.given.1 ∙ c.out-2-1.given.1 ∙ c.out-1.given.1 ∙ length-set c.args.out.now 0 58, c.requires.0)

pub returns : goal.returns
returns c =
    let one = c.put_bytes-head in
    let two = c.put_bytes-sum in
    let check = c.check_byte in
    let three = c.put_bytes in
    row_written c.args.at c.args.bytes.now c.args.out.now one.new.out two.new.out three.new.out one.result two.result check.result c.requires.0 c.requires.1 one.ensures.digits one.ensures.sum two.ensures.digits two.ensures.sum check.ensures three.ensures.digits
