-- The touches of a history, on histories written out by hand with their counts: what the definition says (History.antt).
-- Assumes nothing.
use Rattle.std.specs.Prelude.{ℕ, Bool, true, ◌&&◌, List, [], ◌∷◌, ◌++◌, eqb}
use Rattle.parts.specs.Table.{facts_of}
use Rattle.chip_promises.specs.Stops.{fresh_watch}
use Rattle.chip_promises.specs.Histories.{Item, clock, byte_sent, item_codes_of, item_levels_of, S, P, E, L, H, R}
use Rattle.wear_promises.specs.History.{times_of, touched_in}

-- group n was touched so many times
pub record Touch : Type 0 where
  pub group : ℕ
  pub times : ℕ

abbrev pub of : ℕ → ℕ → Touch
of n x = record { group = n; times = x }

-- a history on a part from delivery, what it is to be of some groups, and the total over all
pub record WornHistory : Type 0 where
  pub part : ℕ
  pub items : List Item
  pub touches : List Touch
  pub total : ℕ

abbrev pub worn : ℕ → List Item → List Touch → ℕ → WornHistory
worn part is ts n = record { part = part; items = is; touches = ts; total = n }

abbrev pub touches_hold : ℕ → List Item → List Touch → Bool
touches_hold part is [] = true
touches_hold part is (t ∷ ts) = eqb (times_of (facts_of part) fresh_watch [] (item_codes_of is) (item_levels_of is) t.group) t.times && touches_hold part is ts

abbrev pub worn_hold : List WornHistory → Bool
worn_hold [] = true
worn_hold (h ∷ hs) =
    (touches_hold h.part h.items h.touches && eqb (touched_in (facts_of h.part) fresh_watch [] (item_codes_of h.items) (item_levels_of h.items)) h.total) && worn_hold hs

-- a byte at 0005h of part 2, to its Stop
abbrev pub written : List Item
written = S ∷ byte_sent 0xA0 0 ∷ byte_sent 0 0 ∷ byte_sent 5 0 ∷ byte_sent 7 0 ∷ P ∷ []

unfoldable pub worn_histories : List WornHistory
worn_histories =
    -- a cycle that is still running counts for nothing; ended, or cut, once; a second `E` adds nothing
    worn 2 written (of 1 0 ∷ []) 0
    ∷ worn 2 (written ++ E ∷ []) (of 0 0 ∷ of 1 1 ∷ of 2 0 ∷ []) 1
    ∷ worn 2 (written ++ R ∷ []) (of 1 1 ∷ []) 1
    ∷ worn 2 (written ++ E ∷ E ∷ R ∷ []) (of 1 1 ∷ []) 1
    -- the same byte twice, in two cycles and in one; two bytes of a group
    ∷ worn 2 (written ++ E ∷ [] ++ written ++ E ∷ []) (of 1 2 ∷ []) 2
    ∷ worn 2 (S ∷ byte_sent 0xA0 0 ∷ byte_sent 0 0 ∷ byte_sent 5 0 ∷ byte_sent 7 0 ∷ S ∷ byte_sent 0xA0 0 ∷ byte_sent 0 0 ∷ byte_sent 5 0 ∷ byte_sent 7 0 ∷ byte_sent 8 0 ∷ P ∷ E ∷ []) (of 1 1 ∷ []) 1
    -- five bytes from 001Eh turn back to the page start: groups 7 and 0
    ∷ worn 2 (S ∷ byte_sent 0xA0 0 ∷ byte_sent 0 0 ∷ byte_sent 0x1E 0 ∷ byte_sent 1 0 ∷ byte_sent 2 0 ∷ byte_sent 3 0 ∷ byte_sent 4 0 ∷ byte_sent 5 0 ∷ P ∷ E ∷ []) (of 7 1 ∷ of 0 1 ∷ of 8 0 ∷ []) 2
    -- bits above the array size are ignored: 2025h is 0025h
    ∷ worn 2 (S ∷ byte_sent 0xA0 0 ∷ byte_sent 0x20 0 ∷ byte_sent 0x25 0 ∷ byte_sent 7 0 ∷ P ∷ E ∷ []) (of 9 1 ∷ []) 1
    -- a group is one byte on part 0, and A10..A8 stand in the select code: 0705h
    ∷ worn 0 (S ∷ byte_sent 0xAE 0 ∷ byte_sent 5 0 ∷ byte_sent 7 0 ∷ byte_sent 8 0 ∷ P ∷ E ∷ []) (of 1797 1 ∷ of 1798 1 ∷ of 5 0 ∷ []) 2
    -- a late Stop begins no cycle; nor does one with Write Control high
    ∷ worn 2 (S ∷ byte_sent 0xA0 0 ∷ byte_sent 0 0 ∷ byte_sent 5 0 ∷ byte_sent 7 0 ∷ clock 1 ∷ P ∷ E ∷ []) (of 1 0 ∷ []) 0
    ∷ worn 2 (S ∷ byte_sent 0xA0 0 ∷ byte_sent 0 0 ∷ byte_sent 5 0 ∷ byte_sent 7 0 ∷ H ∷ P ∷ E ∷ L ∷ R ∷ []) (of 1 0 ∷ []) 0
    -- identification write and lock count for none, ended or cut
    ∷ worn 3 (S ∷ byte_sent 0xB0 0 ∷ byte_sent 0 0 ∷ byte_sent 5 0 ∷ byte_sent 7 0 ∷ P ∷ E ∷ []) (of 0 0 ∷ of 1 0 ∷ []) 0
    ∷ worn 3 (S ∷ byte_sent 0xB0 0 ∷ byte_sent 0 0 ∷ byte_sent 5 0 ∷ byte_sent 7 0 ∷ P ∷ R ∷ []) (of 1 0 ∷ []) 0
    ∷ worn 3 (S ∷ byte_sent 0xB0 0 ∷ byte_sent 4 0 ∷ byte_sent 0 0 ∷ byte_sent 2 0 ∷ P ∷ E ∷ []) (of 0 0 ∷ []) 0
    -- a write that a busy chip does not hear
    ∷ worn 2 (written ++ S ∷ byte_sent 0xA0 1 ∷ byte_sent 0 1 ∷ byte_sent 9 1 ∷ byte_sent 7 1 ∷ P ∷ E ∷ []) (of 1 1 ∷ of 2 0 ∷ []) 1
    ∷ []
