-- Document 01, 'Refusal numbers', and document 02, §1 to §3, §5 and §7: number, rank and place of each refusal, and which of several is given.
-- Assumes nothing.
use Rattle.std.specs.Prelude.{ℕ, Bool, true, false, not, cond, ltb, eqb, Option, None, Some, Ok, Err}
use Rattle.parts.specs.declared.Facts.{Facts}
use Rattle.parts.specs.declared.Loss.{Loss}
use Rattle.parts.specs.declared.Refusal.{Refusal}
use Rattle.parts.specs.declared.Refusal.TheVariants.{NoPart, WrongEnable, WrongBuffer, BadState, BadEvent, ShortBuffer, Beyond, BadLimit, NoSelect, NoData, PollsUsed, BadImage, TooMany, NoFirst, NoSecond, BadRecord, BadSum, Misplaced, NoEnd, BadSample, CountsLost}
use Rattle.parts.specs.declared.Entry.{Entry}
use Rattle.parts.specs.Verdict.{Verdict}
use Rattle.parts.specs.Table.{buffers_right_of}
use Rattle.parts.specs.Events.{loss_size_of}

-- a refusal's number, its rank and its place
abbrev entry : ℕ → ℕ → Option ℕ → Entry
entry number rank spot = record { 0 = number; 1 = rank; 2 = spot }

-- the number that document 01 gives each, and its rank beside it: "The lowest of 1 to 8, 12 and 13 that applies is given, before
-- anything changes, except that 13 goes before 5". So a rank is a thousand times the number, and that of 13 stands between 4 and 5; its
-- last two digits are the number, so that no two numbers share a rank. 9 to 11, 14 and 15 end a driver that has begun, one at a time. 5
-- goes "with the first place"; 02 §1: "9 is the select only; 14 first address byte, 15 second", and "give the page of the transfer's address.
-- Refusal 10 gains the data byte's index in the request". 02 §2: "16 malformed record, 17 wrong sum, 18 overlap or beyond the array, 19 no end
-- record or text after it; the earliest record decides, within it the lowest number": each goes with the record's line, counted from 1. §3: "20 a sample
-- above 3, at its place, after 4": its rank stands behind that of 4, before that of 13. §7: "21 counts would be lost, after 12"
abbrev pub entry_of : Refusal → Entry
entry_of NoPart = entry 1 1001 None
entry_of WrongEnable = entry 2 2002 None
entry_of WrongBuffer = entry 3 3003 None
entry_of BadState = entry 4 4004 None
entry_of (BadEvent k) = entry 5 5005 (Some k)
entry_of ShortBuffer = entry 6 6006 None
entry_of Beyond = entry 7 7007 None
entry_of BadLimit = entry 8 8008 None
entry_of (NoSelect p) = entry 9 9009 (Some p)
entry_of (NoData i) = entry 10 10010 (Some i)
entry_of PollsUsed = entry 11 11011 None
entry_of BadImage = entry 12 12012 None
entry_of TooMany = entry 13 4513 None
entry_of (NoFirst p) = entry 14 14014 (Some p)
entry_of (NoSecond p) = entry 15 15015 (Some p)
entry_of (BadRecord n) = entry 16 16016 (Some n)
entry_of (BadSum n) = entry 17 17017 (Some n)
entry_of (Misplaced n) = entry 18 18018 (Some n)
entry_of (NoEnd n) = entry 19 19019 (Some n)
entry_of (BadSample k) = entry 20 4020 (Some k)
entry_of CountsLost = entry 21 21021 None

abbrev pub number_of : Refusal → ℕ
number_of r = (entry_of r).0

abbrev pub rank_of : Refusal → ℕ
rank_of r = (entry_of r).1

abbrev pub spot_of : Refusal → Option ℕ
spot_of r = (entry_of r).2

-- 0 where there is no place
abbrev pub place_told : Option ℕ → ℕ
place_told None = 0
place_told (Some k) = k

-- 0 where nothing is refused, else the refusal's number
abbrev pub verdict_number_of : Verdict → ℕ
verdict_number_of (Ok _) = 0
verdict_number_of (Err r) = number_of r

-- the place that is told; 0 where there is none
abbrev pub verdict_place_of : Verdict → ℕ
verdict_place_of (Ok _) = 0
verdict_place_of (Err r) = place_told (spot_of r)

-- nothing is refused
abbrev pub is_fine : Verdict → Bool
is_fine (Ok _) = true
is_fine (Err r) = false

-- a call claims each refusal that it can give, with what it is given for
abbrev pub claim_of : Bool → Refusal → Verdict
claim_of wrong r = cond wrong (Err r) (Ok tt)

-- of two claims the one of lower rank
unfoldable pub sooner_of : Verdict → Verdict → Verdict
sooner_of (Ok _) b = b
sooner_of (Err r) (Ok _) = Err r
sooner_of (Err r) (Err s) = cond (ltb (rank_of s) (rank_of r)) (Err s) (Err r)

-- 1 and 3: no such part, or lent buffers that are not the part's
unfoldable pub lent_verdict_of : Facts → ℕ → ℕ → Verdict
lent_verdict_of f array id = sooner_of (claim_of (not f.known) NoPart) (claim_of (not (buffers_right_of f array id)) WrongBuffer)

-- §5: "3 also for that page's length"
unfoldable pub loss_verdict_of : Facts → Loss → ℕ → Verdict
loss_verdict_of f w page = claim_of (not (eqb page (loss_size_of f w))) WrongBuffer
