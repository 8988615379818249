-- Each driver that only seems to work breaks a promise, at a read of no byte or of one, or a write of one.
-- Assumes nothing.
use Rattle.std.specs.Prelude.{Err}
use Prim.Native.Nat.{ℕ, ◌<◌}
use mathlib.Core.Path.{◌≡◌, refl, ◌∙◌, ap, subst}
use mathlib.Core.Bool.{true, false, false≢true}
use mathlib.Core.List.{List, [], ◌∷◌, ◌++◌}
use lib.ListN.{length, get_or, replicate, set}
use native.Mathlib.Omega.{arith}
use Rattle.parts.specs.declared.Refusal.{Refusal}
use Rattle.parts.specs.Refusals.{sooner_of}
use Rattle.parts.specs.Table.{facts_of, enable_right_of, address_bytes_of}
use Rattle.driver.specs.declared.Place.TheVariants.{Array}
use Rattle.driver.specs.declared.Request.{Request}
use Rattle.driver.specs.declared.Slot.{Slot}
use Rattle.driver.specs.declared.Slot.TheVariants.{Select, High, Low, Data, Poll, Turn, Take}
use Rattle.driver.specs.Split.{to_page_end_of, sum, pages_met_of}
use Rattle.driver.specs.Request.{beyond_at, limit_of, judge_of, allowed_of, k_of}
use Rattle.driver.specs.Step.{select_at, wire_of, bit_of, shift_of, ready_of, bits_at, lead_at, low_at, data_at, poll_move_of, answered_of, take_at, heard_move_of, bits_move_of, driver_step_of, counts_right, range_of, driver_next_of, byte_kept_of, buffer_of}
use Rattle.driver_promises.specs.Heard.{PartTold, PartsTold}
use Rattle.driver.specs.declared.Answer.TheVariants.{Done}
use Rattle.driver.specs.Machine.{Machine}
use Rattle.driver_promises.specs.Promises.{Accepted, answers, OneEachKept, PollsKept, DoneKept, RefusedKept, BufferKept}
use Rattle.driver_promises.specs.Numbers.{RequestNumbers}
use Rattle.driver_promises.specs.Listens.{OnlyThoseLevels}
use Rattle.driver_promises.specs.Idle.{refusing_driver, at_once, endless, inventing_driver, deaf, half_deaf, kind_of, deaf_to, lingering, nosy, bit_by_bit, scribbling, IdleDriversBreak}

-- a read of n bytes at 0, on part 0
abbrev pub reading : ℕ → Request
reading n = record { part = 0; enable = 0; place = Array (record { 0 = 0 }); reads = true; length = n; budget = 0 }

none : Accepted (reading 0) []
unfolding judge_of sooner_of facts_of enable_right_of beyond_at limit_of
none = record { fine = refl; size = refl }

pub one : Accepted (reading 1) (90 ∷ [])
unfolding judge_of sooner_of facts_of enable_right_of beyond_at limit_of
one = record { fine = refl; size = refl }

-- no level was told, so none can have been the refused byte's
refusing_breaks : (f : Refusal) → RefusedKept (refusing_driver f) → ⊥
refusing_breaks f p = let r = p (reading 0) [] none [] 0 0 0 f refl in omega (arith, r.stopped.level)

at_once_breaks : DoneKept at_once → ⊥
at_once_breaks p = let c = (p (reading 1) (90 ∷ []) one [] 0 0 1 refl).plan.clocks (omega arith) in omega arith

endless_breaks : OneEachKept endless → ⊥
unfolding address_bytes_of facts_of
endless_breaks p = (p (reading 0) [] none (replicate 31 0) 0).bound (omega arith)

inventing_breaks : PollsKept inventing_driver → ⊥
unfolding driver_next_of range_of judge_of sooner_of facts_of enable_right_of beyond_at limit_of counts_right allowed_of k_of pages_met_of driver_step_of ready_of
inventing_breaks p = let e = (p (reading 0) [] none [] 0).done 1 0 refl in omega arith

-- a write of one byte at 0, with two polls allowed
abbrev writing : ℕ → Request
writing part = record { part = part; enable = 0; place = Array (record { 0 = 0 }); reads = false; length = 1; budget = 2 }

narrow : Accepted (writing 0) (90 ∷ [])
unfolding judge_of sooner_of facts_of enable_right_of beyond_at limit_of
narrow = record { fine = refl; size = refl }

broad : Accepted (writing 2) (90 ∷ [])
unfolding judge_of sooner_of facts_of enable_right_of beyond_at limit_of
broad = record { fine = refl; size = refl }

-- all levels low but number i
abbrev but : ℕ → List ℕ
but i = set (replicate 49 0) i 1

-- one page
the_part : (ls : List ℕ) (r : Request) (qs : List ℕ) (q : ℕ) → length qs ≡ 1 → sum qs ≡ q → PartsTold ls r [] (90 ∷ []) 0 qs → PartTold ls r [] (90 ∷ []) 0 q
the_part ls r [] q n s h = absurd (omega arith)
the_part ls r (x ∷ []) q n s h =
    let e : x ≡ q = omega arith in
    subst (PartTold ls r [] (90 ∷ []) 0) e h.0
the_part ls r (x ∷ y ∷ qs) q n s h = absurd (omega arith)

-- the levels told to a machine that answers Done, with q polls
told_part : (M : Machine) (part : ℕ) → Accepted (writing part) (90 ∷ []) → k_of (writing part) ≡ 1 → (ls : List ℕ) (q : ℕ) → answers M (writing part) (90 ∷ []) ls 0 ≡ Done q 1 → DoneKept M → PartTold ls (writing part) [] (90 ∷ []) 0 q
told_part M part a k ls q e p =
    let w = (p (writing part) (90 ∷ []) a ls 0 q 1 e).plan in
    the_part ls (writing part) w.polls q (w.pages ∙ k) w.sum w.levels

levels_break : (DoneKept deaf → ⊥) × (DoneKept half_deaf → ⊥) × (DoneKept lingering → ⊥)
unfolding driver_next_of range_of judge_of sooner_of facts_of enable_right_of beyond_at limit_of counts_right allowed_of k_of pages_met_of to_page_end_of driver_step_of ready_of bits_move_of bits_at heard_move_of lead_at low_at data_at poll_move_of answered_of take_at wire_of select_at bit_of shift_of buffer_of byte_kept_of
levels_break = (
  λ p. omega (arith, (told_part deaf 0 narrow refl (replicate 40 1) 1 refl p).0.0.0),
  λ p. omega (arith, (told_part half_deaf 0 narrow refl (replicate 20 1 ++ replicate 20 0) 1 refl p).0.0.0),
  λ p. omega (arith, (told_part lingering 0 narrow refl (replicate 50 0) 2 refl p).1.1),
)

deaf_to_breaks : (s : Slot) → kind_of s < 6 → DoneKept (deaf_to s) → ⊥
unfolding driver_next_of range_of judge_of sooner_of facts_of enable_right_of beyond_at limit_of counts_right allowed_of k_of pages_met_of to_page_end_of driver_step_of ready_of bits_move_of bits_at heard_move_of lead_at low_at data_at poll_move_of answered_of take_at wire_of select_at bit_of shift_of buffer_of byte_kept_of
deaf_to_breaks Select h p = omega (arith, (told_part (deaf_to Select) 0 narrow refl (but 10) 1 refl p).0.0.0)
deaf_to_breaks High h p = omega (arith, (told_part (deaf_to High) 2 broad refl (but 19) 1 refl p).0.0.0.1)
deaf_to_breaks Low h p = omega (arith, (told_part (deaf_to Low) 0 narrow refl (but 19) 1 refl p).0.0.1)
deaf_to_breaks Data h p = omega (arith, (told_part (deaf_to Data) 0 narrow refl (but 28) 1 refl p).0.1.1)
deaf_to_breaks Poll h p = omega (arith, (told_part (deaf_to Poll) 0 narrow refl (but 39) 1 refl p).2)
deaf_to_breaks Turn h p = omega (arith, ((p (reading 1) (90 ∷ []) one (but 29) 0 0 1 refl).plan.levels (omega arith)).1)
deaf_to_breaks Take h p = omega arith

-- before its first Start
nosy_breaks : OnlyThoseLevels nosy → ⊥
unfolding driver_next_of range_of judge_of sooner_of facts_of enable_right_of beyond_at limit_of counts_right allowed_of k_of pages_met_of driver_step_of ready_of
nosy_breaks o = let s = o (reading 1) (90 ∷ []) one (0 ∷ []) (1 ∷ []) (λ e. absurd (false≢true e), tt) in omega (arith, ap length s.events)

-- part 6 is 1; part 0 with enable 1 is 2
refusing_begin_breaks : (f : Refusal) → RequestNumbers (λ r. Err f) → ⊥
unfolding facts_of
refusing_begin_breaks f p =
    let a = (p (record { part = 6; enable = 0; place = Array (record { 0 = 0 }); reads = true; length = 0; budget = 0 })).no_part (omega arith) in
    let b = (p (record { part = 0; enable = 1; place = Array (record { 0 = 0 }); reads = true; length = 0; budget = 0 })).wrong_enable (omega arith) (omega arith) in
    omega arith

-- after two bits of the byte; after the first Start
buffers_break : (BufferKept bit_by_bit → ⊥) × (BufferKept scribbling → ⊥)
unfolding driver_next_of range_of judge_of sooner_of facts_of address_bytes_of enable_right_of beyond_at limit_of counts_right allowed_of k_of pages_met_of to_page_end_of driver_step_of ready_of bits_move_of bits_at heard_move_of lead_at low_at data_at poll_move_of answered_of take_at wire_of select_at bit_of shift_of buffer_of byte_kept_of
buffers_break = (
  λ p. omega (arith, (p (reading 1) (90 ∷ []) one (replicate 32 0) 0).before refl 0 (omega arith) (omega arith)),
  λ p. omega (arith, ap (λ (xs : List ℕ). get_or xs 0 0) ((p (writing 0) (90 ∷ []) narrow (0 ∷ []) 0).write refl)),
)

pub idle_drivers_break : IdleDriversBreak
idle_drivers_break =
    record {
      refusing_begin = refusing_begin_breaks;
      refusing = refusing_breaks;
      at_once = at_once_breaks;
      endless = endless_breaks;
      inventing = inventing_breaks;
      deaf = levels_break.0;
      half_deaf = levels_break.1;
      deaf_to = deaf_to_breaks;
      lingering = levels_break.2;
      nosy = nosy_breaks;
      bit_by_bit = buffers_break.0;
      scribbling = buffers_break.1;
    }
