-- The look over the latches as the library has it, and what a state in range says of its phase.
-- Assumes nothing.
use mathlib.Core.Path.{◌≡◌, refl}
use mathlib.Core.Bool.{true}
use mathlib.Core.List.{List, [], ◌∷◌}
use Prim.Native.Nat.{ℕ}
use borrow.Author.Tests.{ltb-true, ltb-false, lt-leb, le-leb}
use lib.Dec.{ltb, leb}
use Rattle.std.specs.List.{list_all}
use Rattle.parts.specs.declared.Facts.{Facts}
use Rattle.parts.proofs.Tests.{both, either}
use Rattle.state.specs.declared.Chip.{Chip}
use Rattle.state.specs.Range.{empty_of, marks_right_of, pin_right_of, lock_right_of, phase_right_of, rest_right_of, in_range_of}

pub empty_all : (k : List ℕ) → list_all (λ x. leb 256 x) k ≡ empty_of k
empty_all [] = refl
empty_all (x ∷ k) =
    either (ltb x 256) (λ l. rw (l, lt-leb 256 x (ltb-true x 256 l)) refl) (λ l. rw (l, le-leb 256 x (ltb-false x 256 l)) (empty_all k))

pub accepted_phase : (f : Facts) (c : Chip) → in_range_of f c ≡ true → phase_right_of f c.line.core c.latch c.line.left c.line.phase ≡ true
unfolding in_range_of rest_right_of
accepted_phase f c e =
    let counter = (both (ltb c.line.core.counter f.size) _ e).1 in
    let left = (both (leb c.line.left 8) _ counter).1 in
    let marks = (both (marks_right_of f c.latch) _ left).1 in
    let pin = (both (pin_right_of f c.line.core.pin) _ marks).1 in
    (both (lock_right_of f c.line.core) (phase_right_of f c.line.core c.latch c.line.left c.line.phase) pin).1
