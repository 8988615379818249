-- The lines written out are what they are said to be: each is computed.
-- Assumes nothing.
use mathlib.Core.Path.{refl}
use Rattle.parts.specs.Bytes.{same_of}
use Rattle.text.specs.Digits.{value_of}
use Rattle.hexfile.specs.Record.{pair_at, pair_of, formed_of, typed_of, record_in}
use Rattle.hexfile.specs.File.{fits_of, entered_of, read_of}
use Rattle.hexfile_promises.specs.Worked.{WorkedLines}

pub worked_lines : WorkedLines
unfolding read_of record_in formed_of typed_of same_of pair_of pair_at value_of fits_of entered_of
worked_lines = record { row = refl; end = refl; small_end = refl; none_at_the_end = refl; wrong_sum = refl; overlap = refl }
