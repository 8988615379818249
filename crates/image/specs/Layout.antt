-- Document 01, 'The image': what stands where, and when a list of bytes is an image.
-- Assumes nothing.
use Rattle.std.specs.Prelude.{ℕ, ◌+◌, Bool, true, false, cond, List, [], ◌∷◌, ◌++◌, length, get_or, take, drop, eqb}
use Rattle.parts.specs.declared.Facts.{Facts}
use Rattle.parts.specs.Table.{id_size_of}
use Rattle.parts.specs.Bytes.{flag_of}
use Rattle.chip.specs.Memory.{Mem, mem}

-- ---- what is written

-- mark `EPR`, the version high byte first, part, lock (0 or 1)
abbrev pub head_of : ℕ → ℕ → Bool → List ℕ
head_of version part lock = 0x45 ∷ 0x50 ∷ 0x52 ∷ 0x00 ∷ version ∷ part ∷ flag_of lock ∷ []

-- version 0001h
abbrev pub image_head_of : ℕ → Bool → List ℕ
image_head_of = head_of 0x01

-- then the array and the identification page
unfoldable pub image_of : ℕ → Bool → Mem → List ℕ
image_of part lock m = (image_head_of part lock ++ m.cells) ++ m.ident

unfoldable pub image_length_of : Facts → ℕ
image_length_of f = 7 + f.size + id_size_of f

-- ---- what is read

unfoldable pub part_in : List ℕ → ℕ
part_in l = get_or l 5 0

unfoldable pub lock_in : List ℕ → Bool
lock_in l = eqb (get_or l 6 0) 1

unfoldable pub stored_in : Facts → List ℕ → Mem
stored_in f l = mem (take f.size (drop 7 l)) (drop (7 + f.size) l)

-- the mark and the version
unfoldable pub mark_right_of : ℕ → List ℕ → Bool
mark_right_of version l =
    cond (eqb (get_or l 0 0) 0x45)
    (cond (eqb (get_or l 1 0) 0x50)
    (cond (eqb (get_or l 2 0) 0x52)
    (cond (eqb (get_or l 3 0) 0x00)
    (eqb (get_or l 4 0) version)
    false)
    false)
    false)
    false

-- a part without an identification page has nothing to lock
unfoldable pub lock_byte_right_of : Facts → ℕ → Bool
lock_byte_right_of f b = cond (eqb b 0) true (cond (eqb b 1) f.ident false)

-- refusal 12: "image length, mark, version or lock byte wrong for its part"; of a version, whose images of the part have n bytes
unfoldable pub formed_as : ℕ → ℕ → Facts → List ℕ → Bool
formed_as version n f l = cond (eqb (length l) n) (cond (mark_right_of version l) (lock_byte_right_of f (get_or l 6 0)) false) false

abbrev pub formed_of : Facts → List ℕ → Bool
formed_of f l = formed_as 0x01 (image_length_of f) f l
