-- The definition of well-placed Stops on histories written out by hand: events with the levels a chip answers to them, and how many
-- Stops are well placed. That these are the cycles of our chip is promise 4; this table shows what the definition says.
-- Assumes nothing.
use Rattle.std.specs.Prelude.{ℕ, zero, suc, ◌+◌, ◌/◌, ◌%◌, ◌^◌, Bool, true, ◌&&◌, List, [], ◌∷◌, ◌++◌, eqb}
use Rattle.parts.specs.Table.{facts_of}
use Rattle.chip_promises.specs.Stops.{fresh_watch, stops_of}

-- an item of a history: an event without a level; a bare clock; a byte sent, with the level of its ninth clock (0 acknowledged)
pub data Item : Type 0 where
  event : ℕ → Item
  clock : ℕ → Item
  byte_sent : ℕ → ℕ → Item

-- the bits of a byte, highest first, and a released ninth clock
abbrev pub byte_clocks : ℕ → ℕ → List ℕ
byte_clocks zero b = 1 ∷ []
byte_clocks (suc k) b = b / 2 ^ k % 2 ∷ byte_clocks k b

abbrev pub item_codes_of : List Item → List ℕ
item_codes_of [] = []
item_codes_of (event e ∷ is) = e ∷ item_codes_of is
item_codes_of (clock v ∷ is) = v ∷ item_codes_of is
item_codes_of (byte_sent b x ∷ is) = byte_clocks 8 b ++ item_codes_of is

abbrev pub item_levels_of : List Item → List ℕ
item_levels_of [] = []
item_levels_of (event e ∷ is) = 2 ∷ item_levels_of is
item_levels_of (clock v ∷ is) = 1 ∷ item_levels_of is
item_levels_of (byte_sent b x ∷ is) = 1 ∷ 1 ∷ 1 ∷ 1 ∷ 1 ∷ 1 ∷ 1 ∷ 1 ∷ x ∷ item_levels_of is

abbrev pub S : Item
S = event 2

abbrev pub P : Item
P = event 3

abbrev pub E : Item
E = event 4

abbrev pub L : Item
L = event 5

abbrev pub H : Item
H = event 6

abbrev pub F : Item
F = event 7

abbrev pub R : Item
R = event 8

-- how many Stops are well placed, on a part, from delivery
abbrev pub found : ℕ → List Item → ℕ
found part is = stops_of (facts_of part) fresh_watch (item_codes_of is) (item_levels_of is)

-- a history on a part, and what it is to be
pub record History : Type 0 where
  pub part : ℕ
  pub items : List Item
  pub stops : ℕ

abbrev pub on : ℕ → List Item → ℕ → History
on part is n = record { part = part; items = is; stops = n }

abbrev pub all_hold : List History → Bool
all_hold [] = true
all_hold (h ∷ hs) = eqb (found h.part h.items) h.stops && all_hold hs

unfoldable pub histories : List History
histories =
    -- a write of one byte
    on 2 (S ∷ byte_sent 0xA0 0 ∷ byte_sent 0 0 ∷ byte_sent 5 0 ∷ byte_sent 7 0 ∷ P ∷ []) 1
    -- `E`, `L` and `F` may stand between the acknowledge and the Stop
    ∷ on 2 (S ∷ byte_sent 0xA0 0 ∷ byte_sent 0 0 ∷ byte_sent 5 0 ∷ byte_sent 7 0 ∷ E ∷ L ∷ F ∷ P ∷ []) 1
    -- a Stop one clock late
    ∷ on 2 (S ∷ byte_sent 0xA0 0 ∷ byte_sent 0 0 ∷ byte_sent 5 0 ∷ byte_sent 7 0 ∷ clock 1 ∷ P ∷ []) 0
    -- eight bits of a second byte, without its ninth clock: the first byte is lost with it
    ∷ on 2 (S ∷ byte_sent 0xA0 0 ∷ byte_sent 0 0 ∷ byte_sent 5 0 ∷ byte_sent 7 0 ∷ clock 0 ∷ clock 0 ∷ clock 0 ∷ clock 0 ∷ clock 1 ∷ clock 0 ∷ clock 0 ∷ clock 0 ∷ P ∷ []) 0
    -- no data
    ∷ on 2 (S ∷ byte_sent 0xA0 0 ∷ byte_sent 0 0 ∷ byte_sent 5 0 ∷ P ∷ []) 0
    -- one address byte on part 0: the same bytes are data there
    ∷ on 0 (S ∷ byte_sent 0xA0 0 ∷ byte_sent 0 0 ∷ byte_sent 5 0 ∷ P ∷ []) 1
    -- Write Control high between acknowledge and Stop, at the Start, and high and low again since
    ∷ on 2 (S ∷ byte_sent 0xA0 0 ∷ byte_sent 0 0 ∷ byte_sent 5 0 ∷ byte_sent 7 0 ∷ H ∷ P ∷ []) 0
    ∷ on 2 (H ∷ S ∷ L ∷ byte_sent 0xA0 0 ∷ byte_sent 0 0 ∷ byte_sent 5 0 ∷ byte_sent 7 1 ∷ P ∷ []) 0
    ∷ on 2 (S ∷ byte_sent 0xA0 0 ∷ byte_sent 0 0 ∷ byte_sent 5 0 ∷ byte_sent 7 0 ∷ H ∷ L ∷ P ∷ []) 0
    -- high only before the Start, or left behind by the next Start
    ∷ on 2 (H ∷ L ∷ S ∷ byte_sent 0xA0 0 ∷ byte_sent 0 0 ∷ byte_sent 5 0 ∷ byte_sent 7 0 ∷ P ∷ []) 1
    ∷ on 2 (S ∷ H ∷ L ∷ S ∷ byte_sent 0xA0 0 ∷ byte_sent 0 0 ∷ byte_sent 5 0 ∷ byte_sent 7 0 ∷ P ∷ []) 1
    -- a reset before the Stop
    ∷ on 2 (S ∷ byte_sent 0xA0 0 ∷ byte_sent 0 0 ∷ byte_sent 5 0 ∷ byte_sent 7 0 ∷ R ∷ P ∷ []) 0
    -- a byte that was not acknowledged
    ∷ on 2 (S ∷ byte_sent 0xA0 0 ∷ byte_sent 0 0 ∷ byte_sent 5 0 ∷ byte_sent 7 1 ∷ P ∷ []) 0
    ∷ on 2 (S ∷ byte_sent 0xA2 1 ∷ byte_sent 0 1 ∷ byte_sent 5 1 ∷ byte_sent 7 1 ∷ P ∷ []) 0
    -- a read
    ∷ on 2 (S ∷ byte_sent 0xA1 0 ∷ byte_sent 0 1 ∷ byte_sent 5 1 ∷ byte_sent 7 1 ∷ P ∷ []) 0
    -- busy: a second Stop, and a whole write that nobody hears
    ∷ on 2 (S ∷ byte_sent 0xA0 0 ∷ byte_sent 0 0 ∷ byte_sent 5 0 ∷ byte_sent 7 0 ∷ P ∷ P ∷ S ∷ byte_sent 0xA0 1 ∷ byte_sent 0 1 ∷ byte_sent 5 1 ∷ byte_sent 7 1 ∷ P ∷ []) 1
    -- after `E` the next write counts; in the middle of a poll `E` leaves the chip waiting for a Start
    ∷ on 2 (S ∷ byte_sent 0xA0 0 ∷ byte_sent 0 0 ∷ byte_sent 5 0 ∷ byte_sent 7 0 ∷ P ∷ E ∷ S ∷ byte_sent 0xA0 0 ∷ byte_sent 0 0 ∷ byte_sent 6 0 ∷ byte_sent 8 0 ∷ P ∷ []) 2
    ∷ on 2 (S ∷ byte_sent 0xA0 0 ∷ byte_sent 0 0 ∷ byte_sent 5 0 ∷ byte_sent 7 0 ∷ P ∷ S ∷ E ∷ byte_sent 0xA0 1 ∷ byte_sent 0 1 ∷ byte_sent 6 1 ∷ byte_sent 8 1 ∷ P ∷ []) 1
    -- lock: bit 1 set, bit 1 clear, a second byte; on part 1 by A7
    ∷ on 3 (S ∷ byte_sent 0xB0 0 ∷ byte_sent 4 0 ∷ byte_sent 0 0 ∷ byte_sent 2 0 ∷ P ∷ []) 1
    ∷ on 3 (S ∷ byte_sent 0xB0 0 ∷ byte_sent 4 0 ∷ byte_sent 0 0 ∷ byte_sent 1 0 ∷ P ∷ []) 0
    ∷ on 3 (S ∷ byte_sent 0xB0 0 ∷ byte_sent 4 0 ∷ byte_sent 0 0 ∷ byte_sent 2 0 ∷ byte_sent 2 1 ∷ P ∷ []) 0
    ∷ on 1 (S ∷ byte_sent 0xB0 0 ∷ byte_sent 0x80 0 ∷ byte_sent 2 0 ∷ P ∷ []) 1
    ∷ on 1 (S ∷ byte_sent 0xB0 0 ∷ byte_sent 0x80 0 ∷ byte_sent 1 0 ∷ P ∷ []) 0
    -- the same bytes without the address bit write the identification page
    ∷ on 3 (S ∷ byte_sent 0xB0 0 ∷ byte_sent 0 0 ∷ byte_sent 0 0 ∷ byte_sent 1 0 ∷ P ∷ []) 1
    ∷ []
