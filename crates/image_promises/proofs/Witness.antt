-- Part 0 with some counts, for what breaks a promise.
-- Assumes nothing.
use Prim.Native.Nat.{ℕ, ◌≤◌, ◌<◌}
use mathlib.Core.Path.{◌≡◌, sym, refl, subst}
use mathlib.Core.Bool.{true, false}
use mathlib.Core.List.{List, ◌∷◌}
use native.Mathlib.Omega.{arith}
use lib.ListN.{length, replicate, length-replicate}
use Rattle.parts.specs.Table.{facts_of, id_size_of, groups_of, enable_right_of}
use Rattle.parts.specs.Bytes.{AllBelow, word_end}
use Rattle.parts.proofs.Laws.{sound}
use Rattle.state.specs.declared.Chip.{Chip}
use Rattle.state.specs.Range.{in_range_of}
use Rattle.chip.specs.Memory.{Mem, mem}
use Rattle.chip.specs.Delivery.{standby_of}
use Rattle.image.specs.Layout.{image_length_of, part_in}
use Rattle.image.specs.Promises.{BuffersFit}
use Rattle.image.proofs.Form.{standby_in_range}
use Rattle.image_worn.specs.Layout.{worn_image_of, worn_length_of}
use Rattle.image_promises.specs.Form.{CountsFit, Sane, WornForm}
use Rattle.image_promises.proofs.Words.{zeros_below}
use Rattle.image_promises.proofs.Places.{worn_lengths}
use Rattle.image_promises.proofs.Image.{part_of_worn}

unfoldable pub all : ℕ → Mem
all v = mem (replicate 2048 v) (replicate 16 v)

-- the counts of groups 0 and 1, and no others
abbrev pub two : ℕ → ℕ → List ℕ
two x y = x ∷ y ∷ replicate 2046 0

pub fresh : Chip
fresh = standby_of (facts_of 0) false

pub buffer : List ℕ
buffer = replicate 10263 0

pub known : (facts_of 0).known ≡ true
unfolding facts_of
known = refl

pub enabled : enable_right_of (facts_of 0) 0 ≡ true
unfolding facts_of enable_right_of
enabled = refl

pub ranged : in_range_of (facts_of 0) fresh ≡ true
unfolding fresh
ranged = standby_in_range (facts_of 0) false (sound 0) (λ e. cc)

pub fits : (v : ℕ) → BuffersFit 0 (all v)
unfolding all facts_of id_size_of
fits v = record { cells = length-replicate 2048 v; ident = length-replicate 16 v }

pub sane : (v : ℕ) → Sane 0 false (all v)
sane v = record { known = known; fits = fits v; lockable = λ e. cc }

pub groups : groups_of (facts_of 0) ≡ 2048
unfolding facts_of groups_of
groups = refl

pub counted : (x y : ℕ) → CountsFit 0 (two x y)
counted x y = let n = length-replicate {A = ℕ} 2046 0 in omega (arith, n, groups)

pub below : (x y : ℕ) → x < word_end → y < word_end → AllBelow word_end (two x y)
below x y h k = (h, (k, zeros_below 2046 word_end (omega arith)))

pub plain_length : image_length_of (facts_of 0) ≡ 2071
plain_length = worn_lengths.part_0.0

pub worn_length_lem : worn_length_of (facts_of 0) ≡ 10263
worn_length_lem = worn_lengths.part_0.1

pub long : length buffer ≡ 10263
unfolding buffer
long = length-replicate {A = ℕ} 10263 0

pub worn_room : worn_length_of (facts_of 0) ≤ length buffer
worn_room = omega (arith, worn_length_lem, long)

pub plain_room : image_length_of (facts_of 0) ≤ length buffer
plain_room = omega (arith, plain_length, long)

-- ---- its image

pub image : ℕ → ℕ → List ℕ
image x y = worn_image_of 0 false (all 0) (two x y)

unfoldable pub form : (x y : ℕ) → x < word_end → y < word_end → WornForm (image x y)
unfolding image
form x y h k =
    record { part = 0; lock = false; stored = all 0; counts = two x y; sane = sane 0; counted = counted x y; below = below x y h k; bytes = refl }

pub part_is : (x y : ℕ) → part_in (image x y) ≡ 0
unfolding image
part_is x y = part_of_worn 0 false (all 0) (two x y)

pub image_room : (x y : ℕ) → image_length_of (facts_of (part_in (image x y))) ≤ length buffer
image_room x y = subst (λ (p : ℕ). image_length_of (facts_of p) ≤ length buffer) (sym (part_is x y)) plain_room
