-- What is promised of packing and unpacking, stated over any pair of them: `into` gives what a lent buffer holds after packing. `packInto`
-- and `unpackedOf`, which the contracts of `pack` and `unpack` cite, keep it: proofs/Kept.antt, proofs/Range.antt.
-- Assumes nothing.
use Rattle.std.specs.Prelude.{ℕ, ◌<◌, ◌≡◌, true, false, List, length}
use Rattle.parts.specs.declared.Refusal.TheVariants.{BadState}
use Rattle.parts.specs.Bytes.{AllBelow, word_end}
use Rattle.driver.specs.declared.Driver.{Driver}
use Rattle.driver.specs.declared.Answer.TheVariants.{Refused}
use Rattle.driver.specs.Step.{clocks_of, range_of, driver_next_of, buffer_of}
use Rattle.pack_driver.specs.Layout.{driver_length, small_of, packs_driver_of, holds_driver_of}

-- a state whose bytes fit their types
pub record DriverFits (d : Driver) : Type 0 where
  pub part : d.request.part < 256
  pub enable : d.request.enable < 256
  pub clocks : clocks_of d.phase < 256
  pub byte : d.counts.byte < 256

abbrev pub Packing : Type 0
Packing = List ℕ → Driver → List ℕ

abbrev pub Unpacking : Type 0
Unpacking = List ℕ → Driver

-- a state that is packed is packed as bytes that hold it
abbrev pub DriverPacksBack : Packing → Unpacking → Type 0
DriverPacksBack into unpack =
    (d : Driver) (out : List ℕ) → DriverFits d → packs_driver_of (length out) d ≡ true
    → AllBelow 256 (into out d) × (holds_driver_of (into out d) ≡ true) × (unpack (into out d) ≡ d)

-- bytes that hold a state are the ones it is packed as, and it fits
abbrev pub DriverUnpacksBack : Packing → Unpacking → Type 0
DriverUnpacksBack into unpack =
    (l out : List ℕ) → AllBelow 256 l → holds_driver_of l ≡ true → length out ≡ driver_length
    → DriverFits (unpack l) × (packs_driver_of (length out) (unpack l) ≡ true) × (into out (unpack l) ≡ l)

-- bytes that hold none are out of range: each step answers refusal 4, and leaves its buffer
abbrev pub DriverRefusesOthers : Unpacking → Type 0
DriverRefusesOthers unpack =
    (l : List ℕ) → holds_driver_of l ≡ false
    → ((n : ℕ) → range_of (unpack l) n ≡ false)
    × ((level : ℕ) (buffer : List ℕ) → (driver_next_of (unpack l) level buffer).answer ≡ Refused BadState 0 0)
    × ((level : ℕ) (buffer : List ℕ) → buffer_of (unpack l) level buffer ≡ buffer)

-- a driver in range has small numbers only; but no rule limits the budget of a read, which sends no poll
abbrev pub InRangeSmall : Type 0
InRangeSmall = (d : Driver) (n : ℕ) → range_of d n ≡ true → (d.request.reads ≡ true → d.request.budget < word_end) → small_of d ≡ true

-- so there are drivers in range that are not packed
abbrev pub SomeNotPacked : Type 0
SomeNotPacked = (d : Driver) × (range_of d d.request.length ≡ true) × (d.request.reads ≡ true) × (small_of d ≡ false)

-- a step leaves them small, so a driver that was unpacked is packed again after it
abbrev pub StaysSmall : Type 0
StaysSmall = (d : Driver) (level : ℕ) (buffer : List ℕ) → small_of d ≡ true → small_of (driver_next_of d level buffer).driver ≡ true
