use Prim.Native.Nat.{◌/◌, ◌%◌, ◌<◌}
use native.Mathlib.Numerals.{add-one}
use native.Mathlib.Omega.{arith}
use borrow.Author.Rules.{rules}
use Rattle.hexfile.proofs.Table.{capital_at, capital_low}
use Rattle.hexfile.proofs.writing.put.Goals as goal

pub returns : goal.returns
returns c =
    let x = c.args.x in
    let high : x / 16 < 16 = search rules in
    let low : x % 16 < 16 = omega arith in
    rw (c.requires.1, capital_at (x / 16) high, capital_at (x % 16) low, capital_low x, add-one)
