-- Document 02, §7: "Version 0002h of the `EPR` image adds the counts of §6 after the identification page, high byte first."
-- Assumes nothing.
use Rattle.std.specs.Prelude.{ℕ, zero, suc, ◌+◌, ◌*◌, Bool, true, false, cond, List, [], ◌∷◌, ◌++◌, get_or, set, take, drop, replicate, eqb}
use Rattle.parts.specs.declared.Facts.{Facts}
use Rattle.parts.specs.Table.{groups_of}
use Rattle.parts.specs.Bytes.{words_of, number_in}
use Rattle.chip.specs.Memory.{Mem}
use Rattle.image.specs.Layout.{head_of, image_length_of, formed_as}

-- ---- what is written

-- as version 0001h but for its number, and behind the identification page for each group, from group 0 on, its count: four bytes, high byte first
unfoldable pub worn_image_of : ℕ → Bool → Mem → List ℕ → List ℕ
worn_image_of part lock m counts = ((head_of 0x02 part lock ++ m.cells) ++ m.ident) ++ words_of counts

unfoldable pub worn_length_of : Facts → ℕ
worn_length_of f = image_length_of f + 4 * groups_of f

-- ---- what is read

unfoldable pub version_in : List ℕ → ℕ
version_in l = get_or l 4 0

-- refusal 12, for version 0002h
abbrev pub worn_formed_of : Facts → List ℕ → Bool
worn_formed_of f l = formed_as 0x02 (worn_length_of f) f l

-- what stands before the counts: all of an image of version 0001h
abbrev pub plain_in : Facts → List ℕ → List ℕ
plain_in f l = take (image_length_of f) l

-- n numbers of four bytes, one after the other
abbrev pub words_in : ℕ → List ℕ → List ℕ
words_in zero l = []
words_in (suc n) l = number_in l 0 ∷ words_in n (drop 4 l)

-- "Version 1 files load with all counts zero"
unfoldable pub counts_in : Facts → List ℕ → List ℕ
counts_in f l = cond (eqb (version_in l) 0x02) (words_in (groups_of f) (drop (image_length_of f) l)) (replicate (groups_of f) 0)

-- ---- what is converted

-- the same bytes, under another version's number
abbrev pub as_version : ℕ → List ℕ → List ℕ
as_version version l = set l 4 version

-- version 1 files "convert to version 2": with all counts zero
unfoldable pub worn_from : Facts → List ℕ → List ℕ
worn_from f l = as_version 0x02 l ++ replicate (4 * groups_of f) 0

-- "Back to version 1"
unfoldable pub plain_from : Facts → List ℕ → List ℕ
plain_from f l = as_version 0x01 (plain_in f l)

-- "only if all counts are zero"
unfoldable pub all_zero_of : List ℕ → Bool
all_zero_of [] = true
all_zero_of (x ∷ xs) = cond (eqb x 0) (all_zero_of xs) false
