-- Document 01, 'The driver': one step, which sends one event or answers that it is finished.
-- Assumes nothing.
use Rattle.std.specs.Prelude.{ℕ, ◌+◌, ◌-◌, ◌*◌, ◌/◌, ◌%◌, ◌^◌, ◌≤◌, ◌≡◌, Bool, true, false, cond, not, ◌&&◌, List, length, get_or, set, eqb, leb, ltb}
use Rattle.parts.specs.declared.Refusal.{Refusal}
use Rattle.parts.specs.declared.Refusal.TheVariants.{BadState, NoSelect, NoData, PollsUsed, NoFirst, NoSecond}
use Rattle.parts.specs.Table.{facts_of}
use Rattle.parts.specs.Refusals.{is_fine}
use Rattle.driver.specs.Split.{to_page_end_of}
use Rattle.driver.specs.Request.{from_of, judge_of, allowed_of, k_of}
use Rattle.driver.specs.declared.Place.{Place}
use Rattle.driver.specs.declared.Place.TheVariants.{Array, Ident}
use Rattle.driver.specs.declared.Request.{Request}
use Rattle.driver.specs.declared.Slot.{Slot}
use Rattle.driver.specs.declared.Slot.TheVariants.{Select, High, Low, Data, Poll, Turn, Take}
use Rattle.driver.specs.declared.Failed.{Failed}
use Rattle.driver.specs.declared.Failed.TheVariants.{AtSelect, AtHigh, AtLow, AtData, AtPolls}
use Rattle.driver.specs.declared.Phase.{Phase}
use Rattle.driver.specs.declared.Phase.TheVariants.{Ready, Bits, Heard, Rest, Over}
use Rattle.driver.specs.declared.Counts.{Counts}
use Rattle.driver.specs.declared.Driver.{Driver}
use Rattle.driver.specs.declared.Answer.TheVariants.{Send, Done, Refused}
use Rattle.driver.specs.declared.Move.{Move}
use Rattle.driver.specs.declared.Asked.{Asked}
use Rattle.driver.specs.declared.Wire.{Wire}
use Rattle.driver.specs.declared.Begun.{Begun}

-- ---- the bytes on the bus

-- 1010 names the array, 1011 the identification page
abbrev pub select_name_of : Place → ℕ
select_name_of (Array a) = 160
select_name_of (Ident i) = 176

-- the select code with write for bytes from address x on: the enable, or A10, A9, A8 (a location has none: 0)
unfoldable pub select_at : ℕ → Bool → ℕ → ℕ → ℕ
select_at name wide enable x = name + 2 * cond wide enable (x / 256 % 8)

-- the first address of the part that is under way, or of the read: every select of it has the same seven high bits
abbrev pub here_of : Driver → ℕ
here_of d = from_of d.request.place + d.counts.seen

-- what the part's bytes are, `value` the data byte
unfoldable pub wire_of : Driver → ℕ → Wire
wire_of d value =
    record {
      select = select_at (select_name_of d.request.place) (facts_of d.request.part).wide d.request.enable (here_of d);
      high = here_of d / 256 % 256;
      low = here_of d % 256;
      value = value;
    }

-- the byte of a slot; "read clocks as 1"
abbrev pub slot_byte_of : Wire → Slot → ℕ
slot_byte_of w Select = w.select
slot_byte_of w High = w.high
slot_byte_of w Low = w.low
slot_byte_of w Data = w.value
slot_byte_of w Poll = w.select
slot_byte_of w Turn = w.select + 1
slot_byte_of w Take = 255

-- bit number i of a byte, highest first; past the bits the line is released
unfoldable pub bit_of : ℕ → ℕ → ℕ
bit_of byte i = cond (ltb i 8) (byte / 2 ^ (7 - i) % 2) 1

-- the ninth clock: released for the acknowledge; a byte read is acknowledged, the last one not
abbrev pub ninth_of : Slot → Bool → ℕ
ninth_of Select last = 1
ninth_of High last = 1
ninth_of Low last = 1
ninth_of Data last = 1
ninth_of Poll last = 1
ninth_of Turn last = 1
ninth_of Take last = cond last 1 0

-- the level told is one bit more of the byte that is read; anything but 0 counts as 1
unfoldable pub shift_of : ℕ → ℕ → ℕ
shift_of byte level = cond (eqb level 0) (byte % 128 * 2) (byte % 128 * 2 + 1)

-- ---- counts

abbrev pub with_byte : Counts → ℕ → Counts
with_byte c byte = record { at = c.at; seen = c.seen; tries = c.tries; polls = c.polls; byte = byte }

-- one data byte more is sent, or got
abbrev pub with_next : Counts → Counts
with_next c = record { at = c.at + 1; seen = c.seen; tries = c.tries; polls = c.polls; byte = c.byte }

-- one poll more
abbrev pub with_poll : Counts → Counts
with_poll c = record { at = c.at; seen = c.seen; tries = c.tries + 1; polls = c.polls + 1; byte = c.byte }

-- all bytes up to here are seen to be done
abbrev pub with_seen : Counts → Counts
with_seen c = record { at = c.at; seen = c.at; tries = 0; polls = c.polls; byte = c.byte }

-- a level told inside a byte matters only in a byte that is read
abbrev pub told_counts_of : Slot → Counts → ℕ → Counts
told_counts_of Select c level = c
told_counts_of High c level = c
told_counts_of Low c level = c
told_counts_of Data c level = c
told_counts_of Poll c level = c
told_counts_of Turn c level = c
told_counts_of Take c level = with_byte c (shift_of c.byte level)

abbrev pub sent_counts_of : Slot → Counts → Counts
sent_counts_of Select c = c
sent_counts_of High c = c
sent_counts_of Low c = c
sent_counts_of Data c = with_next c
sent_counts_of Poll c = c
sent_counts_of Turn c = c
sent_counts_of Take c = with_next c

-- ---- one step, by phases

-- an event is sent (2 Start, 3 Stop)
abbrev pub send_then : ℕ → Phase → Counts → Move
send_then event phase c = record { answer = Send event; phase = phase; counts = c }

-- the first clock of a byte
abbrev pub opens : Slot → ℕ → Counts → Move
opens slot clock c = send_then clock (Bits slot 1) (with_byte c 0)

-- before a part's Start, or done: all bytes are
unfoldable pub ready_of : Counts → ℕ → Move
ready_of c length =
    cond (eqb c.at length) (record { answer = Done c.polls c.seen; phase = Ready; counts = c }) (send_then 2 (Bits Select 0) c)

-- inside a byte: its next clock, or the ninth
unfoldable pub bits_at : Slot → ℕ → ℕ → ℕ → Counts → Counts → Move
bits_at slot b clock ninth taken sent = cond (ltb b 8) (send_then clock (Bits slot (b + 1)) taken) (send_then ninth (Heard slot) sent)

-- the byte that comes after a byte, where no Start or Stop comes first
abbrev pub follow_of : Slot → Bool → Slot
follow_of Select wide = cond wide High Low
follow_of High wide = Low
follow_of Low wide = Data
follow_of Data wide = Data
follow_of Poll wide = Poll
follow_of Turn wide = Take
follow_of Take wide = Take

-- a select, or the first of two address bytes, is acknowledged, or Stop and the refusal of that byte
unfoldable pub lead_at : Counts → Failed → Slot → ℕ → ℕ → Move
lead_at c why next clock level = cond (eqb level 0) (opens next clock c) (send_then 3 (Over why) c)

-- after the address: a read starts again, for its select
unfoldable pub low_at : Counts → Bool → ℕ → ℕ → Move
low_at c reads clock level = cond (eqb level 0) (cond reads (send_then 2 (Bits Turn 0) c) (opens Data clock c)) (send_then 3 (Over AtLow) c)

-- a data byte is acknowledged, or Stop and refusal 10; at the end of the part, Stop
unfoldable pub data_at : Counts → ℕ → ℕ → ℕ → Move
data_at c end clock level = cond (eqb level 0) (cond (eqb c.at end) (send_then 3 Rest c) (opens Data clock c)) (send_then 3 (Over AtData) c)

-- "A poll is Start and the select code with write"
unfoldable pub poll_move_of : Counts → Move
poll_move_of c = send_then 2 (Bits Poll 0) (with_poll c)

-- "on 0 it ends with Stop, on 1 the next poll starts. After the last poll allowed for a page it sends Stop and refuses"
unfoldable pub answered_of : Counts → ℕ → ℕ → Move
answered_of c allowed level =
    cond (eqb level 0) (send_then 3 Ready (with_seen c)) (cond (ltb c.tries allowed) (poll_move_of c) (send_then 3 (Over AtPolls) c))

-- after a byte that was read: the next, or Stop
unfoldable pub take_at : Counts → ℕ → ℕ → Move
take_at c length clock = cond (eqb c.at length) (send_then 3 Ready (with_seen c)) (opens Take clock c)

-- the number of bytes at which the part ends that is under way
abbrev pub end_of : Driver → ℕ
end_of d = d.counts.seen + to_page_end_of (facts_of d.request.part).page (here_of d) (d.request.length - d.counts.seen)

-- the byte's ninth clock was sent, and its level is told; clock: the first clock of the byte that follows
abbrev pub heard_at : Driver → Slot → ℕ → ℕ → Move
heard_at d Select level clock = lead_at d.counts AtSelect (follow_of Select (facts_of d.request.part).wide) clock level
heard_at d High level clock = lead_at d.counts AtHigh Low clock level
heard_at d Low level clock = low_at d.counts d.request.reads clock level
heard_at d Data level clock = data_at d.counts (end_of d) clock level
heard_at d Poll level clock = answered_of d.counts (allowed_of d.request) level
heard_at d Turn level clock = lead_at d.counts AtSelect Take clock level
heard_at d Take level clock = take_at d.counts d.request.length clock

unfoldable pub heard_move_of : Driver → Slot → ℕ → ℕ → Move
heard_move_of d slot level value = heard_at d slot level (bit_of (slot_byte_of (wire_of d value) (follow_of slot (facts_of d.request.part).wide)) 0)

unfoldable pub bits_move_of : Driver → Slot → ℕ → ℕ → ℕ → Move
bits_move_of d slot b level value =
    bits_at slot b (bit_of (slot_byte_of (wire_of d value) slot) b) (ninth_of slot (eqb (d.counts.at + 1) d.request.length))
    (told_counts_of slot d.counts level) (sent_counts_of slot d.counts)

-- 02 §1, "the page of the transfer's address": of byte number o of a request, its address div P; pages are counted from 0
abbrev pub page_at : Request → ℕ → ℕ
page_at r o = (from_of r.place + o) / (facts_of r.part).page

-- "the data byte's index in the request", from 0: the byte is counted when its ninth clock is sent
abbrev pub index_at : Counts → ℕ
index_at c = c.at - 1

-- "14 first address byte, 15 second": the last address byte is the second of two, and the first where there is one
abbrev pub last_address_of : Bool → ℕ → Refusal
last_address_of wide page = cond wide (NoSecond page) (NoFirst page)

-- number and value of each ending: 9, 14, 15, 10 and 11 (entryOf of crate parts). The part under way begins with byte number `seen`, a read
-- with 0
abbrev pub refusal_of : Request → Counts → Failed → Refusal
refusal_of r c AtSelect = NoSelect (page_at r c.seen)
refusal_of r c AtHigh = NoFirst (page_at r c.seen)
refusal_of r c AtLow = last_address_of (facts_of r.part).wide (page_at r c.seen)
refusal_of r c AtData = NoData (index_at c)
refusal_of r c AtPolls = PollsUsed

-- "it sends Stop first": the refusal is told after it, and again
abbrev pub over_of : Request → Counts → Failed → Move
over_of r c why = record { answer = Refused (refusal_of r c why) c.polls c.seen; phase = Over why; counts = c }

-- a step; value: the data byte at the driver's position
abbrev pub move_at : Phase → Driver → ℕ → ℕ → Move
move_at Ready d level value = ready_of d.counts d.request.length
move_at (Bits slot b) d level value = bits_move_of d slot b level value
move_at (Heard slot) d level value = heard_move_of d slot level value
move_at Rest d level value = poll_move_of d.counts
move_at (Over f) d level value = over_of d.request d.counts f

unfoldable pub driver_step_of : Driver → ℕ → ℕ → Asked
driver_step_of d level value =
    record {
      answer = (move_at d.phase d level value).answer;
      driver = record { request = d.request; phase = (move_at d.phase d level value).phase; counts = (move_at d.phase d level value).counts };
    }

-- ---- refusal 4, "State out of range ... Driver"

-- how many clocks of a byte are sent
abbrev pub clocks_of : Phase → ℕ
clocks_of Ready = 0
clocks_of (Bits slot b) = b
clocks_of (Heard slot) = 0
clocks_of Rest = 0
clocks_of (Over f) = 0

-- a slot of a write stands in no read, and the other way round
abbrev pub slot_right : Slot → Bool → Bool
slot_right Select reads = true
slot_right High reads = true
slot_right Low reads = true
slot_right Data reads = not reads
slot_right Poll reads = not reads
slot_right Turn reads = reads
slot_right Take reads = reads

abbrev pub phase_right : Phase → Bool → Bool
phase_right Ready reads = true
phase_right (Bits slot b) reads = slot_right slot reads
phase_right (Heard slot) reads = slot_right slot reads
phase_right Rest reads = not reads
phase_right (Over f) reads = true

-- "data buffer of another length than asked; position above the length; more than 8 bits; polls for a page above the
-- budget or in all above k times it"; n is the buffer's length
unfoldable pub counts_right : Counts → ℕ → ℕ → ℕ → ℕ → ℕ → Bool
counts_right c n length bits allowed most =
    eqb n length
    && (leb c.at n
    && (leb c.seen c.at
    && (leb bits 8
    && (leb c.tries allowed
    && leb c.polls most))))

-- "a request that 1, 2, 7 or 8 would refuse", and the above
unfoldable pub range_of : Driver → ℕ → Bool
range_of d n =
    is_fine (judge_of d.request)
    && (phase_right d.phase d.request.reads
    && counts_right d.counts n d.request.length (clocks_of d.phase) (allowed_of d.request) (k_of d.request * allowed_of d.request))

-- what a driver in range has
pub record GoodCounts (d : Driver) (n : ℕ) : Type 0 where
  pub right : phase_right d.phase d.request.reads ≡ true
  pub count : n ≡ d.request.length
  pub at : d.counts.at ≤ n
  pub seen : d.counts.seen ≤ d.counts.at
  pub bits : clocks_of d.phase ≤ 8
  pub tries : d.counts.tries ≤ allowed_of d.request
  pub polls : d.counts.polls ≤ k_of d.request * allowed_of d.request

-- ---- what `next` answers, and what it leaves in the buffer, on every input

abbrev pub bad_state_of : Driver → Asked
bad_state_of d = record { answer = Refused BadState 0 0; driver = d }

unfoldable pub driver_next_of : Driver → ℕ → List ℕ → Asked
driver_next_of d level buffer = cond (range_of d (length buffer)) (driver_step_of d level (get_or buffer d.counts.at 0)) (bad_state_of d)

-- the eighth bit of a byte that is read was told
abbrev pub slot_whole : Slot → ℕ → Bool
slot_whole Select b = false
slot_whole High b = false
slot_whole Low b = false
slot_whole Data b = false
slot_whole Poll b = false
slot_whole Turn b = false
slot_whole Take b = leb 8 b

abbrev pub whole_of : Phase → Bool
whole_of Ready = false
whole_of (Bits slot b) = slot_whole slot b
whole_of (Heard slot) = false
whole_of Rest = false
whole_of (Over f) = false

unfoldable pub byte_kept_of : Driver → ℕ → List ℕ → List ℕ
byte_kept_of d level buffer =
    cond (whole_of d.phase)
    (cond (ltb d.counts.at (length buffer)) (set buffer d.counts.at (shift_of d.counts.byte level)) buffer) buffer

unfoldable pub buffer_of : Driver → ℕ → List ℕ → List ℕ
buffer_of d level buffer = cond (range_of d (length buffer)) (byte_kept_of d level buffer) buffer

-- ---- the driver before its first step; one that was refused answers 4 at each step
abbrev pub fresh : Request → Driver
fresh r = record { request = r; phase = Ready; counts = record { at = 0; seen = 0; tries = 0; polls = 0; byte = 0 } }

-- what `begin` answers
abbrev pub begin_of : Request → Begun
begin_of r = record { verdict = judge_of r; driver = fresh r }
