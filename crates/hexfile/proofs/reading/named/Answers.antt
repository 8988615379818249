use Rattle.std.proofs.Common.{◌∙◌, rules}
use Rattle.std.specs.List.{count_by}
use Rattle.std.specs.Prelude.{◌≡◌, ltb}
use Rattle.hexfile.proofs.Cells.{named_count}
use Rattle.hexfile.proofs.reading.named.Goals as goal

pub returns : goal.returns
returns c = (let e : c.count.result ≡ count_by (λ x. ltb x 256) c.args.cells.now = search rules in e) ∙ named_count c.args.cells.now
