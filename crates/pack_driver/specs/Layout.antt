-- The state of a driver as 35 bytes, for callers that hold bytes only.
--     0 part, 1 enable, 2 what is asked for, 3 reads, 4 phase, 5 clocks sent of the byte under way, 6 bits told of a byte that is read
--     then seven numbers of four bytes, high byte first: 7 first address or location, 11 length, 15 budget, 19 bytes sent or got,
--     23 bytes seen to be done, 27 polls for this page, 31 polls in all
-- Assumes nothing.
use Rattle.std.specs.Prelude.{ℕ, ◌+◌, ◌-◌, Bool, true, false, cond, Option, Some, None, List, [], ◌∷◌, ◌++◌, length, get_or, eqb, ltb}
use Rattle.parts.specs.Bytes.{flag_of, word_end, words_of, number_in}
use Rattle.driver.specs.declared.Place.{Place}
use Rattle.driver.specs.declared.Place.TheVariants.{Array, Ident}
use Rattle.driver.specs.declared.Request.{Request}
use Rattle.driver.specs.declared.Slot.{Slot}
use Rattle.driver.specs.declared.Slot.TheVariants.{Select, High, Low, Data, Poll, Turn, Take}
use Rattle.driver.specs.declared.Failed.{Failed}
use Rattle.driver.specs.declared.Failed.TheVariants.{AtSelect, AtHigh, AtLow, AtData, AtPolls}
use Rattle.driver.specs.declared.Phase.{Phase}
use Rattle.driver.specs.declared.Phase.TheVariants.{Ready, Bits, Heard, Rest, Over}
use Rattle.driver.specs.declared.Counts.{Counts}
use Rattle.driver.specs.declared.Driver.{Driver}
use Rattle.driver.specs.Request.{from_of}
use Rattle.driver.specs.Step.{clocks_of}

-- ---- the codes

abbrev pub place_code_of : Place → ℕ
place_code_of (Array a) = 0
place_code_of (Ident i) = 1

abbrev pub slot_code_of : Slot → ℕ
slot_code_of Select = 0
slot_code_of High = 1
slot_code_of Low = 2
slot_code_of Data = 3
slot_code_of Poll = 4
slot_code_of Turn = 5
slot_code_of Take = 6

abbrev pub failed_code_of : Failed → ℕ
failed_code_of AtSelect = 0
failed_code_of AtData = 1
failed_code_of AtPolls = 2
failed_code_of AtHigh = 3
failed_code_of AtLow = 4

-- 0 ready, 1 to 7 in a byte, 8 to 14 after its ninth clock, 15 after a part's Stop, 16 to 20 refused
abbrev pub driver_phase_code_of : Phase → ℕ
driver_phase_code_of Ready = 0
driver_phase_code_of (Bits slot b) = 1 + slot_code_of slot
driver_phase_code_of (Heard slot) = 8 + slot_code_of slot
driver_phase_code_of Rest = 15
driver_phase_code_of (Over f) = 16 + failed_code_of f

-- ---- packed

abbrev pub driver_length : ℕ
driver_length = 35

abbrev pub driver_head_of : Driver → List ℕ
driver_head_of d =
    d.request.part
    ∷ d.request.enable
    ∷ place_code_of d.request.place
    ∷ flag_of d.request.reads
    ∷ driver_phase_code_of d.phase
    ∷ clocks_of d.phase
    ∷ d.counts.byte
    ∷ []

abbrev pub numbers_of : Driver → List ℕ
numbers_of d =
    from_of d.request.place
    ∷ d.request.length
    ∷ d.request.budget
    ∷ d.counts.at
    ∷ d.counts.seen
    ∷ d.counts.tries
    ∷ d.counts.polls
    ∷ []

unfoldable pub packed_driver_of : Driver → List ℕ
packed_driver_of d = driver_head_of d ++ words_of (numbers_of d)

abbrev pub all_small_lem : List ℕ → Bool
all_small_lem [] = true
all_small_lem (x ∷ xs) = cond (ltb x word_end) (all_small_lem xs) false

-- each number has four bytes
unfoldable pub small_of : Driver → Bool
small_of d = all_small_lem (numbers_of d)

-- whether a driver is packed into a buffer of n bytes
unfoldable pub packs_driver_of : ℕ → Driver → Bool
packs_driver_of n d = cond (eqb n driver_length) (small_of d) false

-- into a lent buffer: where the driver is not packed it stays as it was
unfoldable pub pack_driver_into : List ℕ → Driver → List ℕ
pack_driver_into out d = cond (packs_driver_of (length out) d) (packed_driver_of d) out

-- ---- unpacked

unfoldable pub place_in : ℕ → ℕ → Place
place_in code from = cond (eqb code 0) (Array (record { 0 = from })) (Ident (record { 0 = from }))

unfoldable pub slot_in : ℕ → Slot
slot_in n =
    cond (eqb n 0) Select
    (cond (eqb n 1) High
    (cond (eqb n 2) Low
    (cond (eqb n 3) Data
    (cond (eqb n 4) Poll
    (cond (eqb n 5) Turn Take)))))

unfoldable pub failed_in : ℕ → Failed
failed_in n = cond (eqb n 0) AtSelect (cond (eqb n 1) AtData (cond (eqb n 2) AtPolls (cond (eqb n 3) AtHigh AtLow)))

unfoldable pub driver_phase_in : ℕ → ℕ → Phase
driver_phase_in n clocks =
    cond (ltb n 1) Ready
    (cond (ltb n 8) (Bits (slot_in (n - 1)) clocks)
    (cond (ltb n 15) (Heard (slot_in (n - 8)))
    (cond (ltb n 16) Rest (Over (failed_in (n - 16))))))

abbrev pub request_in : List ℕ → Request
request_in l =
    record {
      part = get_or l 0 0;
      enable = get_or l 1 0;
      place = place_in (get_or l 2 0) (number_in l 7);
      reads = eqb (get_or l 3 0) 1;
      length = number_in l 11;
      budget = number_in l 15;
    }

abbrev pub counts_in : List ℕ → Counts
counts_in l = record { at = number_in l 19; seen = number_in l 23; tries = number_in l 27; polls = number_in l 31; byte = get_or l 6 0 }

abbrev pub driver_in : List ℕ → Driver
driver_in l = record { request = request_in l; phase = driver_phase_in (get_or l 4 0) (get_or l 5 0); counts = counts_in l }

-- only a phase inside a byte counts clocks
unfoldable pub driver_phase_code_right_of : ℕ → ℕ → Bool
driver_phase_code_right_of n clocks = cond (ltb n 21) (cond (eqb clocks 0) true (cond (ltb n 1) false (ltb n 8))) false

unfoldable pub driver_codes_right_of : ℕ → ℕ → ℕ → ℕ → Bool
driver_codes_right_of place reads code clocks = cond (ltb place 2) (cond (ltb reads 2) (driver_phase_code_right_of code clocks) false) false

-- what is read of the request: none where one of its codes is none of those above
abbrev pub request_read_of : List ℕ → Option Request
request_read_of l = cond (ltb (get_or l 2 0) 2) (cond (ltb (get_or l 3 0) 2) (Some (request_in l)) None) None

-- bytes that hold a driver: the length, and every code one of those above
unfoldable pub holds_driver_of : List ℕ → Bool
holds_driver_of l = cond (eqb (length l) driver_length) (driver_codes_right_of (get_or l 2 0) (get_or l 3 0) (get_or l 4 0) (get_or l 5 0)) false

-- what bytes that hold none stand for: a request for no part, so that it is out of range (refusal 4) at each step
abbrev pub no_driver : Driver
no_driver =
    record {
      request = record { part = 255; enable = 0; place = Array (record { 0 = 0 }); reads = false; length = 0; budget = 0 };
      phase = Ready;
      counts = record { at = 0; seen = 0; tries = 0; polls = 0; byte = 0 };
    }

unfoldable pub unpacked_driver_of : List ℕ → Driver
unpacked_driver_of l = cond (holds_driver_of l) (driver_in l) no_driver
