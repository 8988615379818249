-- `hex_reading` and `hex_writing` keep what is promised of them.
-- Assumes nothing.
use Rattle.std.specs.Prelude.{Ok, Err}
use Prim.Native.Nat.{ℕ}
use mathlib.Core.Path.{◌≡◌, refl}
use mathlib.Core.List.{List}
use lib.ListN.{length}
use Rattle.parts.specs.declared.Facts.{Facts}
use Rattle.parts.specs.Verdict.{Verdict}
use Rattle.parts.specs.Table.{facts_of}
use Rattle.parts.specs.Refusals.{verdict_number_of}
use Rattle.hexfile.specs.File.{Got, gets, no, read_of}
use Rattle.hexfile.specs.Calls.{AfterRead, array_verdict_of, got_of, read_by, write_verdict_of, write_by}
use Rattle.sapwoodle.specs.Hexes.{hex_reading, hex_writing}
use Rattle.sapwoodle.specs.Promises.{HexReadKeeps, HexWriteKeeps}

abbrev Unread : List ℕ → AfterRead → Type 0
Unread array a = (verdict_number_of a.answer.verdict ≡ 0 → ⊥) → (a.array ≡ array) × (a.answer.records ≡ 0) × (a.answer.named ≡ 0)

got_keeps : (g : Got) (array : List ℕ) → Unread array (got_of g array)
got_keeps (gets cells k) array h = absurd (h refl)
got_keeps (no r) array h = (refl, refl, refl)

read_keeps : (v : Verdict) (f : Facts) (text array : List ℕ) → Unread array (read_by v f text array)
read_keeps (Ok _) f text array h = got_keeps (read_of f.size text) array h
read_keeps (Err r) f text array h = (refl, refl, refl)

pub hex_read_keeps : HexReadKeeps hex_reading
hex_read_keeps part text array h = read_keeps (array_verdict_of (facts_of part) (length array)) (facts_of part) text array h

write_keeps : (v : Verdict) (f : Facts) (array out : List ℕ) → (verdict_number_of (write_by v f array out).answer.verdict ≡ 0 → ⊥)
    → ((write_by v f array out).answer.length ≡ 0) × ((write_by v f array out).out ≡ out)
write_keeps (Ok _) f array out h = absurd (h refl)
write_keeps (Err r) f array out h = (refl, refl)

pub hex_write_keeps : HexWriteKeeps hex_writing
hex_write_keeps part array out h = write_keeps (write_verdict_of (facts_of part) (length array) (length out)) (facts_of part) array out h
