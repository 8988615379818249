use Prim.Native.Nat.{◌-◌}
use lib.ListN.{take, drop}
use Rattle.hexfile.proofs.Lines.{next_line, next_after}
use Rattle.hexfile.proofs.reading.next_line.Goals as goal

pub returns : goal.returns
returns c =
    let a = c.args in
    let t = a.text.now in
    let e = c.line_end-e in
    let stop = c.bare-stop in
    let found = c.take_line-found in
    let n = next_after t a.at e.result c.requires e.ensures in
    record {
      line = take (stop.result - a.at) (drop a.at t);
      lines = rw (c.behind-next.ensures, stop.ensures.value) (next_line t a.at e.result c.requires e.ensures);
      found = found.ensures.found;
      cells = found.ensures.cells;
      from = rw c.behind-next.ensures n.0;
      within = rw c.behind-next.ensures n.1;
    }
