-- What is promised of saving and loading (document 01, 'The image'), stated over any pair of them. `saving` and `loading`, which the
-- contracts of `save` and `load` cite, keep it: proofs/Kept.antt.
-- Assumes nothing.
use Rattle.std.specs.Prelude.{ℕ, ◌≤◌, ◌≡◌, Bool, true, List, ◌++◌, length, take, drop, Ok}
use Rattle.parts.specs.declared.Loss.TheVariants.{Old}
use Rattle.parts.specs.declared.Event.TheVariants.{Reset}
use Rattle.parts.specs.declared.Facts.{Facts}
use Rattle.parts.specs.Table.{facts_of, id_size_of, enable_right_of}
use Rattle.state.specs.declared.Chip.{Chip}
use Rattle.state.specs.Range.{in_range_of}
use Rattle.chip.specs.Memory.{Mem, state_of}
use Rattle.chip.specs.Delivery.{pin_at_first_of, standby_of}
use Rattle.image.specs.Layout.{image_of, image_length_of, part_in}
use Rattle.image.specs.Calls.{AfterSave, AfterLoad}

-- any function from the part, the chip, the two buffers and the output buffer
abbrev pub Saving : Type 0
Saving = ℕ → Chip → Mem → List ℕ → AfterSave

-- any function from the image, the enable and the two buffers
abbrev pub Loading : Type 0
Loading = List ℕ → ℕ → Mem → AfterLoad

-- ---- the form of the document

-- buffers of a part's lengths
pub record BuffersFit (part : ℕ) (m : Mem) : Type 0 where
  pub cells : length m.cells ≡ (facts_of part).size
  pub ident : length m.ident ≡ id_size_of (facts_of part)

-- mark, version, part, lock, array and identification page of one of the six parts, locked only where there is such a page
pub record Form (l : List ℕ) : Type 0 where
  pub part : ℕ
  pub lock : Bool
  pub stored : Mem
  pub known : (facts_of part).known ≡ true
  pub fits : BuffersFit part stored
  pub lockable : lock ≡ true → (facts_of part).ident ≡ true
  pub bytes : l ≡ image_of part lock stored

-- ---- the promises

-- loading what was saved gives the stored bytes and the lock back, whatever the chip was doing and the buffers held before
abbrev pub GivesBack : Saving → Loading → Type 0
GivesBack save load =
    (part enable : ℕ) (c : Chip) (m old : Mem) (out : List ℕ)
    → (facts_of part).known ≡ true
    → enable_right_of (facts_of part) enable ≡ true
    → in_range_of (facts_of part) c ≡ true
    → BuffersFit part m
    → BuffersFit part old
    → image_length_of (facts_of part) ≤ length out
    → ((save part c m out).answer.verdict ≡ Ok tt)
    × (load (take (save part c m out).answer.length (save part c m out).out) enable old ≡ record { answer = record { verdict = Ok tt; part = part; chip = standby_of (facts_of part) c.line.core.locked }; stored = m })

-- saving what was loaded gives the same image, and leaves the bytes past it
abbrev pub SavesSame : Saving → Loading → Type 0
SavesSame save load =
    (l : List ℕ) (enable : ℕ) (old : Mem) (out : List ℕ)
    → (load l enable old).answer.verdict ≡ Ok tt
    → length l ≤ length out
    → save (load l enable old).answer.part (load l enable old).answer.chip (load l enable old).stored out ≡ record { answer = record { verdict = Ok tt; length = length l }; out = l ++ drop (length l) out }

-- only what has the form of the document is accepted, with any enable and any buffers
abbrev pub AcceptsOnly : Loading → Type 0
AcceptsOnly load = (l : List ℕ) (enable : ℕ) (old : Mem) → (load l enable old).answer.verdict ≡ Ok tt → Form l

-- and all that has it is, with an enable and buffers right for its part byte
abbrev pub AcceptsAll : Loading → Type 0
AcceptsAll load =
    (l : List ℕ) (enable : ℕ) (old : Mem) → Form l → enable_right_of (facts_of (part_in l)) enable ≡ true → BuffersFit (part_in l) old → (load l enable old).answer.verdict ≡ Ok tt

-- "without latches": of the chip only the lock is saved, whatever transfer or cycle it is in
abbrev pub SavesLockOnly : Saving → Type 0
SavesLockOnly save =
    (part : ℕ) (c e : Chip) (m : Mem) (out : List ℕ)
    → in_range_of (facts_of part) c ≡ true
    → in_range_of (facts_of part) e ≡ true
    → c.line.core.locked ≡ e.line.core.locked
    → save part c m out ≡ save part e m out

-- a chip with its pin left alone
abbrev pub floated : Facts → Chip → Chip
floated f c =
    record { line = record { core = record { counter = c.line.core.counter; pin = pin_at_first_of f; inhibited = c.line.core.inhibited; locked = c.line.core.locked }; phase = c.line.phase; left = c.line.left; shift = c.line.shift }; latch = c.latch }

-- "a standby chip as after reset, pin floating": what is given back is the chip that was saved, reset; a cycle that it was in is given up
-- with the old contents and no lock
abbrev pub AsAfterReset : Type 0
AsAfterReset = (f : Facts) (enable : ℕ) (c : Chip) → in_range_of f c ≡ true → standby_of f c.line.core.locked ≡ state_of f enable (floated f c) (Reset Old)
