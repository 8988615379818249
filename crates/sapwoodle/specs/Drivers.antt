-- What the driver's functions leave for callers that hold bytes only: the number answered, and each lent byte.
-- Assumes nothing.
use Rattle.std.specs.Prelude.{ℕ, Bool, true, cond, not, List, length, eqb, ltb, Ok, Err}
use Rattle.parts.specs.declared.Refusal.TheVariants.{NoPart, WrongEnable, BadState}
use Rattle.parts.specs.Verdict.{Verdict}
use Rattle.parts.specs.Table.{facts_of, enable_right_of}
use Rattle.parts.specs.Refusals.{number_of, spot_of, place_told, verdict_number_of, claim_of, sooner_of}
use Rattle.driver.specs.declared.Place.{Place}
use Rattle.driver.specs.declared.Place.TheVariants.{Array, Ident}
use Rattle.driver.specs.declared.Request.{Request}
use Rattle.driver.specs.declared.Driver.{Driver}
use Rattle.driver.specs.declared.Answer.{Answer}
use Rattle.driver.specs.declared.Answer.TheVariants.{Send, Done, Refused}
use Rattle.driver.specs.Request.{judge_of}
use Rattle.driver.specs.Step.{fresh, driver_next_of, buffer_of}
use Rattle.pack_driver.specs.Layout.{driver_length, pack_driver_into, unpacked_driver_of}
use Rattle.sapwoodle.specs.declared.drivers.Told.{Told}

-- ---- a request as numbers: what is asked for, 0 write, 1 read, 2 and 3 the same of the identification page

unfoldable pub reads_of : ℕ → Bool
reads_of what = cond (eqb what 1) true (eqb what 3)

-- any other number names no page: it stands for an address beyond every array, so that refusal 7 has its place in the order
unfoldable pub place_of : ℕ → ℕ → Place
place_of what at = cond (ltb what 2) (Array (record { 0 = at })) (cond (ltb what 4) (Ident (record { 0 = at })) (Array (record { 0 = 65536 })))

-- a read sends no poll, and no budget is kept for it
unfoldable pub budget_of : ℕ → ℕ → ℕ
budget_of what budget = cond (reads_of what) 0 budget

abbrev pub request_of : ℕ → ℕ → ℕ → ℕ → ℕ → ℕ → Request
request_of part enable what at n budget =
    record { part = part; enable = enable; place = place_of what at; reads = reads_of what; length = n; budget = budget_of what budget }

-- ---- begin

pub record BytesAfterBegin : Type 0 where
  pub number : ℕ
  pub state : List ℕ

-- the refusal where the driver has no room: 1, 2 or 4
unfoldable pub roomless_of : ℕ → ℕ → Verdict
roomless_of part enable =
    sooner_of (claim_of (not (facts_of part).known) NoPart)
    (sooner_of (claim_of (not (enable_right_of (facts_of part) enable)) WrongEnable) (Err BadState))

unfoldable pub begin_verdict_in : Request → List ℕ → Verdict
begin_verdict_in r s = cond (eqb (length s) driver_length) (judge_of r) (roomless_of r.part r.enable)

-- "a refused call changes no byte"
abbrev pub driver_bytes_after_begin : Verdict → Driver → List ℕ → List ℕ
driver_bytes_after_begin (Ok _) d s = pack_driver_into s d
driver_bytes_after_begin (Err r) d s = s

-- of a request and the driver's bytes
abbrev pub beginning : Request → List ℕ → BytesAfterBegin
beginning r s = record { number = verdict_number_of (begin_verdict_in r s); state = driver_bytes_after_begin (begin_verdict_in r s) (fresh r) s }

-- ---- next

-- no event is sent: 255. 02 §1: 9, 14 and 15 have their page, 10 its index
abbrev pub told_of : Answer → Told
told_of (Send e) = record { number = 0; event = e; place = 0; polls = 0; bytes = 0 }
told_of (Done polls bytes) = record { number = 0; event = 255; place = 0; polls = polls; bytes = bytes }
told_of (Refused r polls bytes) = record { number = number_of r; event = 255; place = place_told (spot_of r); polls = polls; bytes = bytes }

pub record BytesAfterNext : Type 0 where
  pub told : Told
  pub state : List ℕ
  pub buffer : List ℕ

-- 4 is the one refusal that says nothing of a driver; the others end it, and its bytes say so
unfoldable pub driver_bytes_after_next : ℕ → Driver → List ℕ → List ℕ
driver_bytes_after_next number d s = cond (eqb number (number_of BadState)) s (pack_driver_into s d)

-- of the driver's bytes, the level told and the data buffer
abbrev pub asking : List ℕ → ℕ → List ℕ → BytesAfterNext
asking s level b =
    record {
      told = told_of (driver_next_of (unpacked_driver_of s) level b).answer;
      state = driver_bytes_after_next (told_of (driver_next_of (unpacked_driver_of s) level b).answer).number (driver_next_of (unpacked_driver_of s) level b).driver s;
      buffer = buffer_of (unpacked_driver_of s) level b;
    }
