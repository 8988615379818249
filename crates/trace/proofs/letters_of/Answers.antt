use mathlib.Core.Path.{refl}
use Rattle.trace.proofs.Laws.{letters_range}
use native.Mathlib.Omega.{arith}
use Rattle.parts.proofs.Kit.{tests}
use Rattle.trace.specs.Trace.{letters_of}
use Rattle.trace.proofs.letters_of.Goals as goal

pub slice_bounds-result-count : goal.slice_bounds-result-count
slice_bounds-result-count c = omega (arith, c.letters_end-end.ensures, letters_range c.args.text.now c.requires)

pub slice_bounds-result-start : goal.slice_bounds-result-start
slice_bounds-result-start c = omega (arith, c.letters_end-end.ensures, letters_range c.args.text.now c.requires)

pub slice_bounds-result-end : goal.slice_bounds-result-end
slice_bounds-result-end c = omega (arith, c.letters_end-end.ensures, letters_range c.args.text.now c.requires)

pub returns : goal.returns
unfolding letters_of
returns c = record { bytes = simp (tests, ← c.letters_end-end.ensures); uncopied = refl }
