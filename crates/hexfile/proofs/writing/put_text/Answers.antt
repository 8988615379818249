use mathlib.Core.Path.{refl}
use native.Mathlib.Omega.{arith}
use Rattle.hexfile.specs.Steps.{capitals}
use Rattle.hexfile.specs.Written.{text_length_of}
use Rattle.hexfile.proofs.Writes.{text_written}
use borrow.Author.Rules.{rules}
use Rattle.hexfile.proofs.writing.put_text.Goals as goal

pub put_rows-requires : goal.put_rows-requires
unfolding text_length_of capitals
put_rows-requires c = (omega arith, omega arith, omega arith, refl)

pub slice_bounds-put_end-end : goal.slice_bounds-put_end-end
unfolding text_length_of
slice_bounds-put_end-end c = omega (arith, c.put_rows.auto.out, c.requires.1)

pub put_end-requires : goal.put_end-requires
unfolding capitals
put_end-requires c = (search rules, refl)

pub returns : goal.returns
unfolding text_length_of
returns c =
    let a = c.args in
    let rows = c.put_rows in
    let end = c.put_end in
    record { length = refl; text = text_written rows.new.out a.out.now a.array.now end.new.out rows.ensures end.ensures }
