use Rattle.std.proofs.Common.{arith, refl, ◌≡◌, ◌∙◌, sym, Bool, true, false, cond, Option, Some, None}
use Rattle.line.specs.declared.Line.{Line}
use Rattle.pack_chip.proofs.Laws.{holds_long}
use Rattle.pack_chip.proofs.unpack.Goals as goal

held : (b : Bool) (x y : Line) → ◌≡◌ {A = Option Line} (Some x) (cond b (Some y) None) → b ≡ true
held true x y e = refl
held false x y e = grind (arith, e)

pub latches_in-requires : goal.latches_in-requires
latches_in-requires c = holds_long _ (held _ _ _ (sym c.in-Some.is ∙ c.held.ensures))
