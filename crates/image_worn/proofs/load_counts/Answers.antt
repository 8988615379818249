use Rattle.image_worn.specs.Layout.{version_in}
use native.Mathlib.Omega.{arith}
use mathlib.Core.Path.{◌∙◌, sym}
use lib.ListN.{length, length-take, length-drop}
use Rattle.parts.specs.Table.{facts_of}
use Rattle.image_worn.proofs.Laws.{worn_is, worn_counts, plain_counts}
use Rattle.image_worn.proofs.load_counts.Goals as goal

pub slice_bounds-take_counts-count : goal.slice_bounds-take_counts-count
unfolding version_in
slice_bounds-take_counts-count c =
    let w = c.requires.1 (sym c.byte_at.ensures ∙ c.if-byte_at-eq-WORN.true) in
    omega (arith, worn_is (facts_of c.args.part), c.image_length-n.ensures, w, c.requires.0)

pub slice_bounds-take_counts-start : goal.slice_bounds-take_counts-start
unfolding version_in
slice_bounds-take_counts-start c =
    let w = c.requires.1 (sym c.byte_at.ensures ∙ c.if-byte_at-eq-WORN.true) in
    omega (arith, worn_is (facts_of c.args.part), c.image_length-n.ensures, w, c.requires.0)

pub take_counts-requires : goal.take_counts-requires
unfolding version_in
take_counts-requires c =
    let w = c.requires.1 (sym c.byte_at.ensures ∙ c.if-byte_at-eq-WORN.true) in
    simp (length-take, length-drop) (omega (arith, worn_is (facts_of c.args.part), c.image_length-n.ensures, w, c.requires.0))

pub returns-then-byte_at-eq-WORN : goal.returns-then-byte_at-eq-WORN
unfolding version_in
returns-then-byte_at-eq-WORN c =
    let a = c.args in
    let two = sym c.byte_at.ensures ∙ c.if-byte_at-eq-WORN.true in
    c.take_counts.ensures ∙ worn_counts (facts_of a.part) a.image.now (length a.counts.now) c.image_length-n.result two c.requires.0 c.image_length-n.ensures

pub returns-else-byte_at-eq-WORN : goal.returns-else-byte_at-eq-WORN
unfolding version_in
returns-else-byte_at-eq-WORN c =
    let a = c.args in
    c.fill.ensures.after (λ y e. e)
    ∙ plain_counts (facts_of a.part) a.image.now (length a.counts.now) (λ e. c.if-byte_at-eq-WORN.false (c.byte_at.ensures ∙ e)) c.requires.0
