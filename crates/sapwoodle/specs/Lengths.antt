-- The length of the array that a caller lends; 0 for a number that is no part.
-- Assumes nothing.
use Rattle.std.specs.Prelude.{ℕ, cond}
use Rattle.parts.specs.declared.Facts.{Facts}

abbrev pub array_length_of : Facts → ℕ
array_length_of f = cond f.known f.size 0
