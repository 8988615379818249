use Rattle.trace.proofs.Promises.{few_letters}
use Rattle.trace.proofs.Runs.{id_most}
use Rattle.parts.proofs.Laws.{sound}
use native.Mathlib.Omega.{arith}
use lib.Seq.{length-take-le}
use lib.ListN.{length}
use mathlib.Core.Path.{sym, ap, ◌∙◌}
use Rattle.explain.proofs.tell_letters.Goals as goal

pub slice_bounds-levels-end : goal.slice_bounds-levels-end
slice_bounds-levels-end c = omega (arith, few_letters c.args.part c.args.enable c.args.letters.now c.requires)

pub slice_bounds-tell_fitted-end : goal.slice_bounds-tell_fitted-end
slice_bounds-tell_fitted-end c = sym (length-take-le _ _ (omega (arith, few_letters c.args.part c.args.enable c.args.letters.now c.requires)))

pub tell_fitted-requires : goal.tell_fitted-requires
tell_fitted-requires c = (
  c.requires,
  length-take-le _ _ (omega (arith, few_letters c.args.part c.args.enable c.args.letters.now c.requires)),
  ap length c.array.ensures ∙ length-take-le _ _ (omega (arith, (sound c.args.part).size_most)),
  ap length c.id.ensures ∙ length-take-le _ _ (omega (arith, id_most c.args.part)),
)
