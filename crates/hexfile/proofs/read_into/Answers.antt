use Rattle.std.proofs.Common.{◌∙◌}
use Rattle.hexfile.specs.File.{lines_of, read_at}
use Rattle.hexfile.proofs.Scans.{got_fine, got_refused}
use Rattle.hexfile.proofs.read_into.Goals as goal

pub returns-in-Ok : goal.returns-in-Ok
returns-in-Ok c =
    let a = c.args in
    let s = c.scan_text in
    let all = got_fine s.result s.new.cells a.array.now (read_at a.cells.now 0 (lines_of a.text.now)) s.ensures c.in-Ok.records c.named.result c.fill.new.array c.in-Ok.is c.named.ensures c.fill.ensures in record { answer = all.0; bytes = all.1 }

pub returns-in-Err : goal.returns-in-Err
returns-in-Err c =
    let a = c.args in
    let s = c.scan_text in
    let g = got_refused s.result s.new.cells a.array.now (read_at a.cells.now 0 (lines_of a.text.now)) s.ensures c.in-Err.r c.in-Err.is in
    record { answer = c.refused.ensures ∙ g.0; bytes = g.1 }
