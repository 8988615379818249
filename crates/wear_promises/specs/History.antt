-- Document 02, §6: "The total must come from the event history, not the stored counts". How often each group was touched, found in the history
-- alone, the events and the levels answered: nothing here looks at a count or into the chip.
-- Assumes nothing.
use Rattle.std.specs.Prelude.{ℕ, zero, suc, ◌+◌, ◌*◌, ◌/◌, ◌%◌, Bool, true, false, cond, ◌&&◌, ◌||◌, List, [], ◌∷◌, length, drop, eqb}
use Rattle.parts.specs.declared.Facts.{Facts}
use Rattle.parts.specs.declared.Event.{Event}
use Rattle.parts.specs.Table.{address_bytes_of, groups_of}
use Rattle.parts.specs.Events.{event_of}
use Rattle.parts.specs.Bytes.{flag_of}
use Rattle.chip.specs.Runs.{closes_of}
use Rattle.chip_promises.specs.Stops.{Byte, address_in, Seen, quiet, cycling, since, Watch, watch_of, stop_of}

-- ---- the groups that the bytes of a transfer touch; the first is the select code

-- rules 1 and 2: on a part with one address byte A10..A8 stand in the select code; "Bits above the array size are ignored"
unfoldable pub address_of : Facts → List Byte → ℕ
address_of f [] = 0
address_of f (s ∷ bs) = (cond f.wide 0 (s.value / 2 % 8 * 256) + address_in f.wide bs) % f.size

-- how many bytes stand behind the select code and the address
unfoldable pub data_count_of : Facts → List Byte → ℕ
data_count_of f [] = 0
data_count_of f (s ∷ bs) = length (drop (address_bytes_of f) bs)

-- rule 3: where data byte i lands: it "rolls over inside the page"
unfoldable pub lands_of : Facts → List Byte → ℕ → ℕ
lands_of f bs i = address_of f bs / f.page * f.page + (address_of f bs + i) % f.page

-- whether one of the first k data bytes lands in group n
abbrev pub lands_in : Facts → List Byte → ℕ → ℕ → Bool
lands_in f bs n zero = false
lands_in f bs n (suc k) = eqb (lands_of f bs k / f.group) n || lands_in f bs n k

-- the select code names the array (rule 1); "a locking or identification cycle for none"
unfoldable pub names_array : List Byte → Bool
names_array [] = false
names_array (s ∷ bs) = eqb (s.value / 16) 10

-- a byte of the transfer lands in group n: "A cycle that touches several bytes of a group counts once for that group"
unfoldable pub touches_of : Facts → List Byte → ℕ → Bool
touches_of f bs n = names_array bs && lands_in f bs n (data_count_of f bs)

-- how many of the first k groups
abbrev pub touches_below : Facts → List Byte → ℕ → ℕ
touches_below f bs zero = 0
touches_below f bs (suc k) = flag_of (touches_of f bs k) + touches_below f bs k

-- ---- the history, read from its beginning

abbrev pub bytes_seen : Seen → List Byte
bytes_seen quiet = []
bytes_seen cycling = []
bytes_seen (since high bs k n) = bs

-- the bytes of the transfer whose well-placed Stop began the cycle that runs; `bs` were those of the one before
unfoldable pub pending_of : Facts → Seen → List Byte → Event → List Byte
pending_of f s bs e = cond (eqb (stop_of f s e) 1) (bytes_seen s) bs

abbrev pub is_cycling : Seen → Bool
is_cycling quiet = false
is_cycling cycling = true
is_cycling (since high bs k n) = false

-- "completed or cut cycles": `E` or `R`, in a cycle
unfoldable pub completes_of : Seen → ℕ → Bool
completes_of s e = closes_of e && is_cycling s

-- how many completed or cut cycles of a list of event codes, each with the level that was answered to it, touched group n
unfoldable pub times_of : Facts → Watch → List Byte → List ℕ → List ℕ → ℕ → ℕ
times_of f w bs [] levels n = 0
times_of f w bs (e ∷ es) [] n = 0
times_of f w bs (e ∷ es) (x ∷ xs) n =
    flag_of (completes_of w.seen e && touches_of f bs n) + times_of f (watch_of f w (event_of e) x) (pending_of f w.seen bs (event_of e)) es xs n

-- the sum over those cycles of the groups that each touched: "the total over groups"
unfoldable pub touched_in : Facts → Watch → List Byte → List ℕ → List ℕ → ℕ
touched_in f w bs [] levels = 0
touched_in f w bs (e ∷ es) [] = 0
touched_in f w bs (e ∷ es) (x ∷ xs) =
    cond (completes_of w.seen e) (touches_below f bs (groups_of f)) 0 + touched_in f (watch_of f w (event_of e) x) (pending_of f w.seen bs (event_of e)) es xs
