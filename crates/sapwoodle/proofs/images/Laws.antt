-- Laws that the proofs of the code, and of images with counts, share.
-- Assumes nothing.
use Rattle.std.specs.Prelude.{Ok, Err}
use Prim.Native.Nat.{ℕ, ◌<◌}
use mathlib.Core.Path.{◌≡◌, refl}
use mathlib.Core.Bool.{Bool, true}
use mathlib.Core.List.{List}
use lib.ListN.{length}
use lib.Dec.{eqb}
use borrow.Author.Tests.{eqb-true, ltb-true}
use Rattle.parts.specs.Verdict.{Verdict}
use Rattle.parts.specs.Refusals.{verdict_number_of}
use Rattle.parts.proofs.Laws.{branch}
use Rattle.state.specs.declared.Chip.{Chip}
use Rattle.chip.specs.Memory.{Mem}
use Rattle.pack_chip.specs.Layout.{chip_length}
use Rattle.image.specs.Calls.{saved_by, out_by, load_mem}
use Rattle.sapwoodle.specs.Answers.{chip_bytes_after}
use Rattle.sapwoodle.specs.Images.{looks_of}

-- what is refused writes nothing
pub writes_nothing : (n : ℕ) (image out : List ℕ) (v : Verdict) → (verdict_number_of (saved_by n v).verdict ≡ 0 → ⊥)
    → ((saved_by n v).length ≡ 0) × (out_by image n out v ≡ out)
writes_nothing n image out (Ok _) h = absurd (h refl)
writes_nothing n image out (Err r) h = (refl, refl)

pub loads_nothing : (l : List ℕ) (c : Chip) (s : List ℕ) (m : Mem) (v : Verdict) → (v ≡ Ok tt → ⊥) → (chip_bytes_after v c s ≡ s) × (load_mem l m v ≡ m)
loads_nothing l c s m (Ok _) h = absurd (h refl)
loads_nothing l c s m (Err r) h = (refl, refl)

-- an image that is looked at and taken, which no short one is, goes into a state buffer of the right length
pub looked : (l s : List ℕ) (v : Verdict) → (length l < 6 → v ≡ Ok tt → ⊥) → looks_of (length s) (length l) ≡ true → v ≡ Ok tt → length s ≡ chip_length
unfolding looks_of
looked l s v short =
    branch (λ (b : Bool). b ≡ true → v ≡ Ok tt → length s ≡ chip_length) (eqb (length s) chip_length)
    (λ e _ _. eqb-true (length s) chip_length e)
    (λ _ k h. absurd (short (ltb-true (length l) 6 k) h))
