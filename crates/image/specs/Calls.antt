-- What `save` and `load` answer and leave, for refused input too (document 01, 'The image' and 'Refusal numbers').
-- Assumes nothing.
use Rattle.std.specs.Prelude.{ℕ, false, not, cond, List, ◌++◌, length, drop, ltb, Ok, Err}
use Rattle.parts.specs.declared.Facts.{Facts}
use Rattle.parts.specs.declared.Refusal.TheVariants.{WrongEnable, BadState, ShortBuffer, BadImage}
use Rattle.parts.specs.Verdict.{Verdict}
use Rattle.parts.specs.Table.{facts_of, enable_right_of}
use Rattle.parts.specs.Refusals.{claim_of, sooner_of, lent_verdict_of}
use Rattle.state.specs.declared.Chip.{Chip}
use Rattle.state.specs.Range.{in_range_of}
use Rattle.chip.specs.Memory.{Mem}
use Rattle.chip.specs.Delivery.{standby_of}
use Rattle.image.specs.declared.Saved.{Saved}
use Rattle.image.specs.declared.Loaded.{Loaded}
use Rattle.image.specs.Layout.{image_of, image_length_of, part_in, lock_in, stored_in, formed_of}

-- ---- saving: refusals 1, 3, 4, 6

unfoldable pub save_verdict_of : ℕ → Chip → ℕ → ℕ → ℕ → Verdict
save_verdict_of part c n d room =
    sooner_of (lent_verdict_of (facts_of part) n d)
    (sooner_of (claim_of (not (in_range_of (facts_of part) c)) BadState)
    (claim_of (ltb room (image_length_of (facts_of part))) ShortBuffer))

-- of an image of n bytes
abbrev pub saved_by : ℕ → Verdict → Saved
saved_by n (Ok _) = record { verdict = Ok tt; length = n }
saved_by n (Err r) = record { verdict = Err r; length = 0 }

-- bytes past the image keep their values
abbrev pub out_by : List ℕ → ℕ → List ℕ → Verdict → List ℕ
out_by image n out (Ok _) = image ++ drop n out
out_by image n out (Err r) = out

abbrev pub save_by : Facts → Verdict → Saved
save_by f = saved_by (image_length_of f)

-- the bytes as they stand, whatever the chip is doing
abbrev pub save_out : ℕ → Chip → Mem → List ℕ → Verdict → List ℕ
save_out part c m out = out_by (image_of part c.line.core.locked m) (image_length_of (facts_of part)) out

-- ---- loading: 12 for an image that does not hold its part byte; else refusals 1, 2, 3, 12

unfoldable pub judged_of : List ℕ → ℕ → ℕ → ℕ → Verdict
judged_of l enable n d =
    sooner_of (lent_verdict_of (facts_of (part_in l)) n d)
    (sooner_of (claim_of (not (enable_right_of (facts_of (part_in l)) enable)) WrongEnable)
    (claim_of (not (formed_of (facts_of (part_in l)) l)) BadImage))

unfoldable pub load_verdict_of : List ℕ → ℕ → ℕ → ℕ → Verdict
load_verdict_of l enable n d = cond (ltb (length l) 6) (Err BadImage) (judged_of l enable n d)

-- a refused image answers its part byte, 0 where it has none, and an unlocked chip
abbrev pub load_by : List ℕ → Verdict → Loaded
load_by l (Ok _) = record { verdict = Ok tt; part = part_in l; chip = standby_of (facts_of (part_in l)) (lock_in l) }
load_by l (Err r) = record { verdict = Err r; part = part_in l; chip = standby_of (facts_of (part_in l)) false }

abbrev pub load_mem : List ℕ → Mem → Verdict → Mem
load_mem l m (Ok _) = stored_in (facts_of (part_in l)) l
load_mem l m (Err r) = m

-- ---- both whole: what is answered, and each lent byte after it

pub record AfterSave : Type 0 where
  pub answer : Saved
  pub out : List ℕ

pub record AfterLoad : Type 0 where
  pub answer : Loaded
  pub stored : Mem

-- of the part, the chip, the two buffers and the output buffer
abbrev pub saving : ℕ → Chip → Mem → List ℕ → AfterSave
saving part c m out =
    record { answer = save_by (facts_of part) (save_verdict_of part c (length m.cells) (length m.ident) (length out)); out = save_out part c m out (save_verdict_of part c (length m.cells) (length m.ident) (length out)) }

-- of the image, the enable and the two buffers
abbrev pub loading : List ℕ → ℕ → Mem → AfterLoad
loading l enable m =
    record { answer = load_by l (load_verdict_of l enable (length m.cells) (length m.ident)); stored = load_mem l m (load_verdict_of l enable (length m.cells) (length m.ident)) }
