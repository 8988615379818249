-- "A Stop one clock late, at each bit of a page write" (document 00), by rule 6 of document 01: over a page write cut by a Stop after
-- any number of clocks, a cycle begins exactly where that Stop directly follows a data byte's acknowledge.
-- Assumes nothing.
use Rattle.std.specs.Prelude.{ℕ, ◌+◌, ◌*◌, ◌/◌, ◌%◌, ◌<◌, ◌≤◌, ◌≡◌, Bool, true, false, List, [], ◌∷◌, ◌++◌, length, take, Some}
use Rattle.parts.specs.declared.Facts.{Facts}
use Rattle.parts.specs.Table.{address_bytes_of}
use Rattle.parts.specs.Bytes.{AllBelow}
use Rattle.line.specs.declared.Target.{Target}
use Rattle.line.specs.declared.Target.TheVariants.{Array, Ident}
use Rattle.line.specs.declared.Phase.TheVariants.{Idle}
use Rattle.line.specs.declared.Core.{Core}
use Rattle.line.specs.declared.Line.{Line}
use Rattle.line.specs.Rules.{is_high, bit_on, decode_of}
use Rattle.chip.specs.Model.{ours}
use Rattle.chip.specs.Memory.{chip}
use Rattle.chip.specs.Runs.{cycles_of}
use Rattle.chip_laws.specs.Bytes.{bytes_of}

-- select, address and data; a part that is not wide has one address byte
abbrev pub write_bytes : Bool → ℕ → ℕ → ℕ → List ℕ → List ℕ
write_bytes true select high low bs = select ∷ high ∷ low ∷ bs
write_bytes false select high low bs = select ∷ low ∷ bs

-- what stands above the last address byte: A10..A8 of an array write come in the select code
abbrev pub above_of : Bool → Target → ℕ → ℕ → ℕ
above_of true t select high = high
above_of false Array select high = select / 2 % 8
above_of false Ident select high = 0

-- the identification page is not locked, and the address asks for no lock
abbrev pub Permitted : Facts → Core → Target → ℕ → Type 0
Permitted f c Array a = Unit {0}
Permitted f c Ident a = (c.locked ≡ false) × (bit_on a f.lock ≡ false)

-- the last of n clocks was the acknowledge of a data byte; `head` bytes are select and address
abbrev pub AfterData : ℕ → ℕ → Type 0
AfterData head n = (n % 9 ≡ 0) × (head < n / 9)

-- Start, n clocks, Stop
abbrev pub cut_of : ℕ → List ℕ → List ℕ
cut_of n bytes = 2 ∷ (take n (bytes_of bytes) ++ (3 ∷ []))

-- from any idle chip whose pin is not high
pub record Write (f : Facts) (enable : ℕ) (l : Line) (t : Target) (select high low : ℕ) (bs : List ℕ) : Type 0 where
  pub idle : l.phase ≡ Idle
  pub pin : is_high l.core.pin ≡ false
  pub names : decode_of f enable select ≡ Some (t, false)
  pub bytes : AllBelow 256 (select ∷ high ∷ low ∷ bs)
  pub permitted : Permitted f l.core t (above_of f.wide t select high * 256 + low)

abbrev pub CutByStop : Type 0
CutByStop = (f : Facts) (enable : ℕ) (l : Line) (k : List ℕ) (t : Target) (select high low : ℕ) (bs : List ℕ) (n : ℕ)
    → Write f enable l t select high low bs
    → n ≤ 9 * length (write_bytes f.wide select high low bs)
    → (AfterData (1 + address_bytes_of f) n → cycles_of (ours f enable) (chip l k) (cut_of n (write_bytes f.wide select high low bs)) ≡ 1)
    × ((AfterData (1 + address_bytes_of f) n → ⊥) → cycles_of (ours f enable) (chip l k) (cut_of n (write_bytes f.wide select high low bs)) ≡ 0)
